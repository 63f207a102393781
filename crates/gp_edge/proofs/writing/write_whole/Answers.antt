use Rattle.std.proofs.Common.{◌∙◌, arith, rules}
use Rattle.std.proofs.lemmas.List.{length-drop}
use Rattle.gp_edge.proofs.Pieces.{write_more, rest_piece}
use Rattle.gp_edge.proofs.writing.write_whole.Goals as goal

pub loop-done-preserved : goal.loop-done-preserved
loop-done-preserved g c =
    let rest = rest_piece c.loop-done.done c.args.text.now in
    let next = rw rest at c.in_ok-count.ensures.next in
    let fits = rw rest at c.in_ok-count.ensures.within in
    let dropped = length-drop c.loop-done.done c.args.text.now in
    record {
      sofar = write_more _ _ (g.K.Sink.written c.loop-done.sink) _ _ _ _ c.loop-done.invariant.sofar next;
      within = omega (arith, fits, dropped, c.loop-done-test.true);
      steady = c.in_ok-count.ensures.steady (λ failed. failed) (λ none. absurd (omega (arith, none.0, c.if-count-eq0.false))) ∙ c.loop-done.invariant.steady;
      untouched = λ none. absurd (omega (arith, none, c.if-count-eq0.false));
    }

pub returns-clause-failed : goal.returns-clause-failed
returns-clause-failed g c = search rules
