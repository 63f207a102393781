use Rattle.std.proofs.Common.{◌≡◌, ◌≤◌, length, take, true, ap, ◌∙◌, arith, rules}
use Rattle.std.specs.Prelude.{is_ok}
use Rattle.std.proofs.lemmas.List.{length-append, length-take}
use Rattle.gp_edge.proofs.Pieces.{read_more, ended, at_limit, piece_front}
use Rattle.gp_edge.proofs.reading.read_up_to.Goals.{else-loop-piece-test, then-loop-piece-test+in_ok-count+then-count-eq0}
use Rattle.gp_edge.proofs.reading.read_up_to.Goals as goal

pub loop-piece-preserved : goal.loop-piece-preserved
loop-piece-preserved g c =
    let ok : is_ok c.extend_from_slice.result ≡ true = search rules in
    let appended = rw ok at c.extend_from_slice.ensures.items in
    let fits : c.in_ok-count.count ≤ length c.read.new.into = search rules in
    let same = appended ∙ piece_front c.in_ok-count.count c.loop-piece.bytes.items c.read.new.into _ fits in
    let part = length-take c.min-room.result c.loop-piece.piece in
    let grown = ap length same in
    let sum = length-append c.loop-piece.bytes.items (take c.in_ok-count.count c.read.new.into) in
    let kept = length-take c.in_ok-count.count c.read.new.into in
    record {
      sofar = rw same (read_more _ (g.S.Source.rest c.args.source.now) (g.S.Source.rest c.loop-piece.source) _ _ c.read.new.into c.loop-piece.bytes.items c.in_ok-count.count c.loop-piece.invariant.sofar c.in_ok-count.ensures.next);
      within = omega (arith, grown, sum, kept, fits, part, c.in_ok-count.ensures.within, c.min-room.ensures);
      steady = c.in_ok-count.ensures.steady ∙ c.loop-piece.invariant.steady;
      untouched = λ none. absurd (omega (arith, none, c.loop-piece-test.true));
    }

pub returns-clause-whole : goal.returns-clause-whole
returns-clause-whole g c = elim c.loop-piece-test.branch [
  | else-loop-piece-test w ↦ rw w.source-is (at_limit _ _ _ _ c.loop-piece.invariant.sofar (omega (arith, c.loop-piece.invariant.within, w.loop-piece-test.false)))
  | then-loop-piece-test+in_ok-count+then-count-eq0 w ↦
      let part = length-take w.min-room.result c.loop-piece.piece in
      rw w.source-is (ended _ _ _ _ _ _ _ _ _ c.loop-piece.invariant.sofar w.in_ok-count.ensures.next (search rules) (omega (arith, part, w.loop-piece-test.true, w.min-room.ensures)) c.loop-piece.invariant.within)
]
