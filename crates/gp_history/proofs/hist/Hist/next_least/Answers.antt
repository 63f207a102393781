use Rattle.std.proofs.Common.{◌≡◌, None, Some, refl, sym, ap, ◌∙◌}
use Rattle.std.specs.Option.{option_copied, is_some}
use Rattle.gp_history.specs.Sequence.{history_of}
use Rattle.gp_history.specs.Canonical.{next_least}
use Rattle.gp_history.proofs.Least.{none_iff}
use Rattle.gp_history.proofs.hist.Hist.next_least.Goals as goal

pub returns-clause-none : goal.returns-clause-none
returns-clause-none g c =
    let xs = g.Self.Hist.sequence c.args.self.now in
    let ts = g.Self.Hist.sequence c.args.taken.now in
    let is : is_some (next_least (history_of xs) (history_of ts)) ≡ is_some c.next_least.result =
    sym (ap is_some c.next_least.ensures) ∙ elim c.next_least.result as (λ r. is_some (option_copied r) ≡ is_some r) [ None ↦ refl | Some b ↦ refl ] in
    let k = none_iff xs ts c.requires in
    (λ n. k.0 (is ∙ n), λ e. sym is ∙ k.1 e)
