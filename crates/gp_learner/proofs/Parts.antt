-- A part that has no checkpoint and is learned in all.
use Rattle.std.proofs.Common.{◌≡◌, List, Option, Some, None, refl, sym, ap, ◌∙◌}
use Rattle.gp_command.specs.declared.command.Command.{Command}
use Rattle.gp_history.specs.History.{History, has, empty}
use Rattle.gp_history.specs.Sequence.{history_of}
use Rattle.gp_history.specs.Bounds.{join}
use Rattle.gp_history.proofs.Tests.{never}
use Rattle.gp_history.proofs.Joins.{history_of_is, empty_none}
use Rattle.gp_history.proofs.Bound.{empty_is_history}
use Rattle.gp_history.proofs.Prefix.{prefix_refl}
use Rattle.gp_epoch.specs.Cut.{first_checkpoint}
use Rattle.gp_epoch.proofs.Checkpoints.{found_is_first}
use Rattle.gp_epoch.proofs.Joining.{join_again}
use Rattle.gp_bounds.proofs.Rejoining.{join_nothing}

abbrev Fits : History → History → Type 0
Fits learned part = (first_checkpoint part ≡ None) × (join learned part ≡ learned)

pub nothing_marked : first_checkpoint empty ≡ None
nothing_marked = by_option (first_checkpoint empty) refl where
  by_option : (o : Option Command) → first_checkpoint empty ≡ o → first_checkpoint empty ≡ None
  by_option None e = e
  by_option (Some z) e = never (has empty z) (found_is_first empty empty_is_history z e).there (empty_none z)

pub nothing_fits : (zs : List Command) (p : History) → p ≡ empty → Fits (history_of zs) p
nothing_fits zs p e = (ap first_checkpoint e ∙ nothing_marked, ap (join (history_of zs)) e ∙ join_nothing zs)

-- what was joined before it adds nothing
pub joined_fits : (zs ys us : List Command) (p : History) → p ≡ history_of ys → history_of us ≡ join (history_of zs) (history_of ys) → first_checkpoint (history_of ys) ≡ None → Fits (history_of us) p
joined_fits zs ys us p e k n = (
  ap first_checkpoint e ∙ n,
  (λ i. join (k i) (e i)) ∙ join_again (history_of zs) (history_of ys) (history_of ys) (history_of_is zs) (history_of_is ys) (history_of_is ys) (prefix_refl (history_of ys) (history_of_is ys)) ∙ sym k,
)
