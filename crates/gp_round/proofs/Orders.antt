-- Round zero comes first, and rounds of which neither is below the other are equal.
use Rattle.std.proofs.Common.{◌≡◌, ℕ, ◌≤◌, true, false, refl, sym, ap, ◌∙◌, arith}
use Rattle.std.specs.declared.cmp.Ordering.{Ordering}
use Rattle.std.specs.declared.cmp.Ordering.TheVariants.{Equal, Less, Greater}
use Rattle.std.specs.Ordering.{nat_cmp, is_lt, is_eq, ordering_then, ordering_reverse}
use Rattle.std.specs.Cmp.{tied_itself}
use Rattle.std.specs.FinMap.{nat_cmp-IsAntisymmetric}
use Rattle.std.proofs.lemmas.Bool.{lt-ltb}
use Rattle.gp_round.specs.declared.round.Mode.{Mode}
use Rattle.gp_round.specs.declared.round.Mode.TheVariants.{Single, Multi, Fast}
use Rattle.gp_round.specs.declared.round.Round.{Round}
use Rattle.gp_round.specs.Rounds.{earlier, same_round, mode_number, round_cmp, round_cmp_total, round_zero}

pub is_Less : (o : Ordering) → is_lt o ≡ true → o ≡ Less
is_Less Less h = refl
is_Less Equal h = cc
is_Less Greater h = cc

pub is_Equal : (o : Ordering) → is_eq o ≡ true → o ≡ Equal
is_Equal Equal h = refl
is_Equal Less h = cc
is_Equal Greater h = cc

-- ---- round zero

zero_less : (n : ℕ) → 1 ≤ n → nat_cmp 0 n ≡ Less
zero_less n h = rw (lt-ltb 0 n (omega (arith, h))) refl

pub zero_before : (r : Round) → 1 ≤ r.count → earlier round_zero r ≡ true
zero_before r h = rw (zero_less r.count h) refl

-- ---- rounds of which neither is below the other

pub then_Equal : (r s : Ordering) → ordering_then r s ≡ Equal → (r ≡ Equal) × (s ≡ Equal)
then_Equal Equal s h = (refl, h)
then_Equal Less s h = cc
then_Equal Greater s h = cc

same_mode : (a b : Mode) → nat_cmp (mode_number a) (mode_number b) ≡ Equal → a ≡ b
same_mode Single Single h = refl
same_mode Multi Multi h = refl
same_mode Fast Fast h = refl
same_mode Single Multi h = cc
same_mode Single Fast h = cc
same_mode Multi Single h = cc
same_mode Multi Fast h = cc
same_mode Fast Single h = cc
same_mode Fast Multi h = cc

equal_round : (i j : Round) → round_cmp i j ≡ Equal → i ≡ j
equal_round i j h =
    let a = then_Equal _ _ h in
    let b = then_Equal _ _ a.1 in
    let count = nat_cmp-IsAntisymmetric i.count j.count a.0 in
    let mode = same_mode i.mode j.mode b.0 in
    let lead = nat_cmp-IsAntisymmetric i.lead j.lead b.1 in
    λ k. record { count = count k; mode = mode k; lead = lead k }

neither : (o p : Ordering) → o ≡ ordering_reverse p → is_lt o ≡ false → is_lt p ≡ false → o ≡ Equal
neither Less p e h k = cc
neither Equal p e h k = refl
neither Greater Less e h k = cc
neither Greater Equal e h k = cc
neither Greater Greater e h k = cc

pub same_rounds : (i j : Round) → earlier i j ≡ false → earlier j i ≡ false → i ≡ j
same_rounds i j h k = equal_round i j (neither (round_cmp i j) (round_cmp j i) (round_cmp_total.antisymm i j) h k)

-- ---- a test of two rounds

pub same_round_is : (i j : Round) → same_round i j ≡ true → i ≡ j
same_round_is i j h =
    let e = is_Equal (round_cmp i j) h in
    same_rounds i j (ap is_lt e) (ap is_lt (round_cmp_total.antisymm j i) ∙ ap (λ o. is_lt (ordering_reverse o)) e)

pub same_round_itself : (r : Round) → same_round r r ≡ true
same_round_itself r = ap is_eq (tied_itself round_cmp_total r)

pub not_earlier_itself : (r : Round) → earlier r r ≡ false
not_earlier_itself r = ap is_lt (tied_itself round_cmp_total r)
