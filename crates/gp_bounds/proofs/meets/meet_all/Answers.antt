use Rattle.std.proofs.Common.{◌≡◌, ◌+◌, ◌<◌, ◌^◌, [], ◌∷◌, length, drop, Some, None, sym, ap, ◌∙◌, subst, arith}
use Rattle.std.specs.Prelude.{map}
use Rattle.std.specs.Option.{option_map}
use Rattle.std.proofs.lemmas.List.{length-map}
use Rattle.std.proofs.Math.Seq.{drop-length}
use Rattle.gp_history.specs.Sequence.{history_of}
use Rattle.gp_history.specs.Bounds.{chosen_from, meet_all}
use Rattle.gp_history.proofs.Many.{meet_all_some}
use Rattle.gp_bounds.specs.Agree.{met_with}
use Rattle.gp_bounds.proofs.Masked.{bits_next, met_one, met_none, drop_item}
use Rattle.gp_bounds.proofs.meets.meet_all.Goals as goal
use Rattle.gp_bounds.proofs.meets.meet_all.Goals.{then-rest-eq1+in_ok-and_meet, else-rest-eq1}

pub loop-h-preserved : goal.loop-h-preserved
loop-h-preserved g c =
    let meaning = λ (x : g.row.H.Denot). history_of (g.H.Hist.sequence x) in
    let i = c.loop-h.h-index in
    let list = c.args.list.now in
    let so = option_map meaning c.loop-h.so_far in
    let bits = c.loop-h.invariant.bits in
    let before : met_with so (chosen_from c.args.mask i (meaning c.h-item.result ∷ map meaning (drop (i + 1) list))) ≡ meet_all c.args.mask (map meaning list) =
    sym (ap (λ zs. met_with so (chosen_from c.args.mask i (map meaning zs))) (drop_item list i c.h-item.result c.loop-h-test.true c.h-item.is)) ∙ c.loop-h.invariant.met in
    record {
      bits = bits_next c.loop-h.rest c.args.mask i bits;
      met = elim c.if-rest-eq1.branch [
        | then-rest-eq1+in_ok-and_meet w ↦
            ap (λ o. met_with o (chosen_from c.args.mask (i + 1) (map meaning (drop (i + 1) list)))) (ap (option_map meaning) w.so_far-is ∙ ap Some w.in_ok-and_meet.ensures)
            ∙ met_one so c.loop-h.rest c.args.mask i (meaning c.h-item.result) (map meaning (drop (i + 1) list)) bits w.if-rest-eq1.true ∙ before
        | else-rest-eq1 w ↦
            ap (λ o. met_with o (chosen_from c.args.mask (i + 1) (map meaning (drop (i + 1) list)))) (ap (option_map meaning) w.so_far-is)
            ∙ met_none so c.loop-h.rest c.args.mask i (meaning c.h-item.result) (map meaning (drop (i + 1) list)) bits w.if-rest-eq1.false ∙ before
      ];
    }

pub returns-in-None : goal.returns-in-None
returns-in-None g c =
    let meaning = λ (x : g.row.H.Denot). history_of (g.H.Hist.sequence x) in
    let end : c.loop-h.h-index ≡ length c.args.list.now = omega arith in
    let none : meet_all c.args.mask (map meaning c.args.list.now) ≡ None =
    sym c.loop-h.invariant.met
    ∙ ap (λ zs. met_with (option_map meaning c.loop-h.so_far) (chosen_from c.args.mask c.loop-h.h-index (map meaning zs))) (ap (λ n. drop n c.args.list.now) end ∙ drop-length c.args.list.now)
    ∙ ap (λ o. met_with (option_map meaning o) []) c.in-None.is in
    absurd (meet_all_some c.args.mask (map meaning c.args.list.now) c.requires.some
    (subst (λ n. c.args.mask < 2 ^ n) (sym (length-map c.args.list.now meaning)) c.requires.within) none)
