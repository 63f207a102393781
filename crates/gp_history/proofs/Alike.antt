-- Sequences of one history, pushed.
use Rattle.std.proofs.Common.{◌≡◌, false, ◌||◌, List, sym, ap, ◌∙◌}
use Rattle.std.specs.List.{list_any}
use Rattle.gp_command.specs.declared.command.Command.{Command}
use Rattle.gp_command.specs.Conflict.{same}
use Rattle.gp_history.specs.History.{History, has, before, pushes}
use Rattle.gp_history.specs.Sequence.{history_of}
use Rattle.gp_history.proofs.Tests.{by_cases, never, not_true}
use Rattle.gp_history.proofs.Sets.{same_history, has_history_of}
use Rattle.gp_history.proofs.Push.{Within, Joins}
use Rattle.gp_history.proofs.Joins.{joins}

-- sequences of one history are pushed alike
pub pushed_alike : (h : History) → Within h → (xs ys : List Command) → history_of xs ≡ history_of ys → pushes h xs ≡ pushes h ys
pushed_alike h w xs ys e =
    same_history (pushes h xs) (pushes h ys) alike (λ c d.
    by_cases (has h d)
    (λ p. a.old c d p ∙ sym (b.old c d p))
    (λ p. by_cases (has h c)
    (λ q. by_cases (list_any (same d) xs)
    (λ i. a.mixed c d q p i ∙ sym (b.mixed c d q p (sym (members d) ∙ i)))
    (λ i. none a xs c d p i ∙ sym (none b ys c d p (sym (members d) ∙ i))))
    (λ q. a.fresh c d q p ∙ ap (λ u. before u c d) e ∙ sym (b.fresh c d q p)))) where
      a : Joins h xs (pushes h xs)
      a = joins xs h w

      b : Joins h ys (pushes h ys)
      b = joins ys h w

      members : (c : Command) → list_any (same c) xs ≡ list_any (same c) ys
      members c = sym (has_history_of xs c) ∙ ap (λ u. has u c) e ∙ has_history_of ys c

      alike : (c : Command) → has (pushes h xs) c ≡ has (pushes h ys) c
      alike c = a.commands c ∙ ap (λ t. has h c || t) (members c) ∙ sym (b.commands c)

      none : {zs : List Command} → Joins h zs (pushes h zs) → (us : List Command) → (c d : Command) → has h d ≡ false → list_any (same d) zs ≡ false → before (pushes h zs) c d ≡ false
      none {zs} j us c d p i = not_true (before (pushes h zs) c d) (λ r. never (has (pushes h zs) d) (j.within c d r).1 (j.commands d ∙ (λ k. p k || i k)))
