-- Histories by their tests.
use Rattle.std.proofs.Common.{◌≡◌, Bool, true, false, ◌&&◌, ◌||◌, List, [], ◌∷◌, refl, sym, ap, ◌∙◌}
use Rattle.std.specs.Prelude.{map}
use Rattle.std.specs.Cmp.{IsTotalOrder, then_total, on_total}
use Rattle.std.specs.FinSet as set
use Rattle.std.specs.FinMap.{IsAntisymmetric}
use Rattle.std.specs.List.{list_any}
use Rattle.std.specs.Ordering.{ordering_then, eq_by_cmp}
use Rattle.std.specs.declared.cmp.Ordering.TheVariants.{Equal, Less, Greater}
use Rattle.std.proofs.lemmas.Map.Lookups.{exact_pairs}
use Rattle.gp_command.specs.declared.command.Command.{Command}
use Rattle.gp_command.specs.Order.{command_cmp, command_cmp_total}
use Rattle.gp_command.proofs.Ties.{tied_command}
use Rattle.gp_command.specs.Conflict.{same}
use Rattle.gp_history.specs.History.{History, has, before, pair_cmp, product, ordered_by}
use Rattle.gp_history.specs.Sequence.{history_of}
use Rattle.gp_history.proofs.Tests.{any-append, any-map}

pub pair_cmp_total : IsTotalOrder pair_cmp
pair_cmp_total = then_total (on_total (λ (p : Command × Command). p.0) command_cmp_total) (on_total (λ (p : Command × Command). p.1) command_cmp_total)

pub same_pair : IsAntisymmetric pair_cmp
same_pair = exact_pairs command_cmp command_cmp tied_command tied_command

-- histories with equal tests are equal
pub same_history : (h k : History) → ((c : Command) → has h c ≡ has k c) → ((c d : Command) → before h c d ≡ before k c d) → h ≡ k
unfolding has before
same_history h k commands pairs =
    let s = set.same_set command_cmp_total tied_command h.commands k.commands commands in
    let t = set.same_set pair_cmp_total same_pair h.pairs k.pairs (λ p. pairs p.0 p.1) in
    λ i. record { commands = s i; pairs = t i }

pub has-ordered_by : (s : set.FinSet command_cmp) (p : Command → Command → Bool) (c : Command) → has (ordered_by s p) c ≡ set.contains s c
unfolding has ordered_by
has-ordered_by s p c = refl

tied_pair : (c d x y : Command) → eq_by_cmp pair_cmp (c, d) (x, y) ≡ (same c x && same d y)
unfolding same
tied_pair c d x y = elim (command_cmp c x) as (λ r. eq_by_cmp (λ (p q : Command × Command). ordering_then r (command_cmp d y)) (c, d) (x, y) ≡ (eq_by_cmp (λ (p q : Command). r) c x && eq_by_cmp command_cmp d y)) [ Less ↦ refl | Equal ↦ refl | Greater ↦ refl ]

any-and : (a : Bool) (f : Command → Bool) (xs : List Command) → list_any (λ y. a && f y) xs ≡ (a && list_any f xs)
any-and true f xs = refl
any-and false f [] = refl
any-and false f (x ∷ xs) = any-and false f xs

any-product : (c d : Command) (xs ys : List Command) → list_any (eq_by_cmp pair_cmp (c, d)) (product xs ys) ≡ (list_any (same c) xs && list_any (same d) ys)
any-product c d [] ys = refl
any-product c d (x ∷ xs) ys =
    any-append (eq_by_cmp pair_cmp (c, d)) (map (λ y. (x, y)) ys) (product xs ys)
    ∙ (λ i. (any-map (eq_by_cmp pair_cmp (c, d)) (λ y. (x, y)) ys ∙ (λ j. list_any (λ y. tied_pair c d x y j) ys) ∙ any-and (same c x) (same d) ys) i || any-product c d xs ys i)
    ∙ shared (same c x) (list_any (same c) xs) (list_any (same d) ys) where
      shared : (a b e : Bool) → ((a && e) || (b && e)) ≡ ((a || b) && e)
      shared true b true = refl
      shared true true false = refl
      shared true false false = refl
      shared false b e = refl

pub before-ordered_by : (s : set.FinSet command_cmp) (p : Command → Command → Bool) (c d : Command) → before (ordered_by s p) c d ≡ ((set.contains s c && set.contains s d) && p c d)
unfolding before ordered_by same
before-ordered_by s p c d =
    let xs = set.items s in
    set.contains-retain (set.from_list (product xs xs)) (λ q. p q.0 q.1) (c, d) (λ x e. ap (λ (q : Command × Command). p q.0 q.1) (sym (same_pair (c, d) x e)))
    ∙ ap (λ b. b && p c d) (set.contains-from_list pair_cmp_total (product xs xs) (c, d) ∙ any-product c d xs xs ∙ (λ i. sym (set.contains-items s c) i && sym (set.contains-items s d) i))

pub has_history_of : (xs : List Command) (c : Command) → has (history_of xs) c ≡ list_any (same c) xs
unfolding history_of same
has_history_of xs c = has-ordered_by (set.from_list xs) _ c ∙ set.contains-from_list command_cmp_total xs c
