use Rattle.std.proofs.Common.{◌≡◌, length, take, true, false, cond, sym, ap, ◌∙◌, refl, arith, Some}
use Rattle.std.specs.Prelude.{filter}
use Rattle.std.specs.Option.{option_copied}
use Rattle.std.proofs.Math.Seq.{take-length}
use Rattle.gp_command.specs.declared.command.Command.{Command}
use Rattle.gp_history.specs.Sequence.{history_of}
use Rattle.gp_history.specs.Canonical.{is_ready, lesser, least}
use Rattle.gp_history.specs.Walks.{is_less}
use Rattle.gp_history.proofs.Least.{next_least_of}
use Rattle.gp_history.proofs.Places.{place_at_is}
use Rattle.gp_history.proofs.Ready.{taken_start, none_ready, least_step, passed_over, taken_up}
use Rattle.gp_history.proofs.walks.next_least.Goals as goal
use Rattle.gp_history.proofs.walks.next_least.Goals.{then-is_less+then-is_ready, else-is_less, else-is_less-via-then-is_less+else-is_ready, else-is_less-via-else-is_less}

pub loop-i-init : goal.loop-i-init
loop-i-init g c = none_ready (g.H.Hist.sequence c.args.h.now) (g.H.Hist.sequence c.args.taken.now) c.common_start-from.result c.common_start-from.ensures.alike

pub is_ready-requires-clause-there : goal.is_ready-requires-clause-there
is_ready-requires-clause-there g c = place_at_is (g.H.Hist.sequence c.args.h.now) c.loop-i.i c.at-c.result.now c.len-i-end.ensures.distinct c.at-c.ensures

pub is_ready-requires-clause-taken : goal.is_ready-requires-clause-taken
is_ready-requires-clause-taken g c = taken_start (g.H.Hist.sequence c.args.h.now) (g.H.Hist.sequence c.args.taken.now) c.common_start-from.result c.common_start-from.ensures.alike

pub loop-i-preserved : goal.loop-i-preserved
loop-i-preserved g c =
    let ready = is_ready (history_of (g.H.Hist.sequence c.args.h.now)) (history_of (g.H.Hist.sequence c.args.taken.now)) in
    let rest = least (filter ready (take c.loop-i.i (g.H.Hist.sequence c.args.h.now))) in
    let here : Command = c.at-c.result.now in
    let step = least_step ready (g.H.Hist.sequence c.args.h.now) c.loop-i.i here c.at-c.ensures in
    let best : option_copied c.loop-i.best ≡ rest = c.loop-i.invariant in
    let over : is_less here (option_copied c.loop-i.best) ≡ false → rest ≡ cond (ready here) (Some (lesser here rest)) rest =
    λ l. let k : Some (lesser here rest) ≡ rest = passed_over here rest (ap (is_less here) (sym best) ∙ l) in
    elim (ready here) as (λ b. rest ≡ cond b (Some (lesser here rest)) rest) [ true ↦ sym k | false ↦ refl ] in
    elim c.if-is_less.branch [
      | then-is_less+then-is_ready w ↦
          let t : ready here ≡ true = sym w.is_ready.ensures ∙ w.if-is_ready.true in
          let l : lesser here rest ≡ here = taken_up here rest (ap (is_less here) (sym best) ∙ sym c.is_less.ensures ∙ w.if-is_less.true) in
          ap option_copied w.best-is ∙ ap Some (sym l)
          ∙ sym (step ∙ ap (λ b. cond b (Some (lesser here rest)) rest) t)
      | else-is_less w ↦
          ap option_copied w.best-is ∙ best ∙ elim w.else-is_less.branch [
            | else-is_less-via-then-is_less+else-is_ready v ↦
                let t : ready here ≡ false = sym v.is_ready.ensures ∙ v.if-is_ready.false in
                sym (step ∙ ap (λ b. cond b (Some (lesser here rest)) rest) t)
            | else-is_less-via-else-is_less v ↦ over (sym c.is_less.ensures ∙ v.if-is_less.false) ∙ sym step
          ]
    ]

pub returns : goal.returns
returns g c =
    let end : c.loop-i.i ≡ length (g.H.Hist.sequence c.args.h.now) = omega (arith, c.len-i-end.ensures.items, c.common_start-from.ensures.left) in
    c.loop-i.invariant
    ∙ ap (λ xs. least (filter (is_ready (history_of (g.H.Hist.sequence c.args.h.now)) (history_of (g.H.Hist.sequence c.args.taken.now))) xs)) (ap (λ n. take n (g.H.Hist.sequence c.args.h.now)) end ∙ take-length (g.H.Hist.sequence c.args.h.now))
    ∙ sym (next_least_of (g.H.Hist.sequence c.args.h.now) (history_of (g.H.Hist.sequence c.args.taken.now)))
