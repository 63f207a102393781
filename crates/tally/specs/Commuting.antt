-- Commands that do not conflict commute on the tally.
use Rattle.std.proofs.Common.{◌≡◌, Bool, true, false, not, ◌&&◌, ◌||◌, List, [], ◌∷◌, Option, Some, None, refl, sym, ap, ◌∙◌, cond}
use Rattle.std.specs.Prelude.{codes, bytes_eq}
use Rattle.std.specs.Cmp.{eq_by_cmp_equiv}
use Rattle.std.specs.List.{list_any}
use Rattle.std.specs.Ordering.{eq_by_cmp}
use Rattle.std.proofs.lemmas.Slice.Eq.{bytes_eq-Decides}
use Rattle.gp_command.specs.declared.command.Command.{Command}
use Rattle.gp_command.specs.declared.touch.Access.{Access}
use Rattle.gp_command.specs.declared.touch.Access.TheVariants.{Read, Add}
use Rattle.gp_command.specs.declared.touch.Touch.{Touch}
use Rattle.gp_command.specs.Conflict.{same, conflict, is_clash, touches_clash}
use Rattle.gp_command.specs.Key.{key_cmp, key_cmp_total}
use Rattle.gp_replica.specs.Machines.{AreIndependent, state_after}
use Rattle.tally.specs.declared.tally.Tally.{Tally}
use Rattle.tally.specs.Uses.{use_in}
use Rattle.tally.specs.Rules.{after_use, reply_to_use, tally_rules}

-- ---- uses that do not conflict commute

-- both orders give one tally, and the second has the same reply without the first
abbrev Swap : Tally → Option Access → Option Access → Type 0
Swap tally x y = (after_use (after_use tally x) y ≡ after_use (after_use tally y) x) × (reply_to_use (after_use tally x) y ≡ reply_to_use tally y)

-- if both are uses, they do not conflict
abbrev AreApart : Option Access → Option Access → Type 0
AreApart x y = (p q : Access) → x ≡ Some p → y ≡ Some q → is_clash p q ≡ false

uses_commute : (tally : Tally) (x y : Option Access) → AreApart x y → Swap tally x y
uses_commute tally None None apart = (refl, refl)
uses_commute tally None (Some q) apart = (refl, refl)
uses_commute tally (Some p) None apart = (refl, refl)
uses_commute tally (Some Read) (Some Read) apart = (refl, refl)
uses_commute tally (Some Add) (Some Add) apart = (refl, refl)
uses_commute tally (Some p) (Some q) apart = absurd (let none = apart p q refl refl in cc)

-- ---- commands that do not conflict have uses that do not conflict

-- the only touch, which shows the use
record Touches (foot : List Touch) (use_of : Access) : Type 0 where
  touch : Touch
  only : foot ≡ touch ∷ []
  key : touch.key ≡ codes "n"
  access : touch.access ≡ use_of

touches_by : (t : Touch) (p : Access) (b : Bool) → bytes_eq t.key (codes "n") ≡ b → cond b (Some t.access) None ≡ Some p → Touches (t ∷ []) p
touches_by t p true is e = record { touch = t; only = refl; key = (bytes_eq-Decides t.key (codes "n")).0 is; access = cc }
touches_by t p false is e = absurd cc

touches : (foot : List Touch) (p : Access) → use_in foot ≡ Some p → Touches foot p
touches [] p e = absurd cc
touches (t ∷ []) p e = touches_by t p (bytes_eq t.key (codes "n")) refl e
touches (t ∷ u ∷ us) p e = absurd cc

-- touches of one key conflict as their accesses do
one_key : (t u : Touch) → t.key ≡ codes "n" → u.key ≡ codes "n" → touches_clash t u ≡ is_clash t.access u.access
one_key t u at n =
    let equal : eq_by_cmp key_cmp (codes "n") (codes "n") ≡ true = (eq_by_cmp_equiv key_cmp_total).refl (codes "n") in
    (λ i. eq_by_cmp key_cmp (at i) (n i) && is_clash t.access u.access) ∙ ap (λ (b : Bool). b && is_clash t.access u.access) equal

or_false : (b : Bool) → (b || false) ≡ b
or_false true = refl
or_false false = refl

-- some touch of the first conflicts with one of the second
abbrev do_clash : List Touch → List Touch → Bool
do_clash first second = list_any (λ t. list_any (touches_clash t) second) first

uses_clash : (first second : List Touch) (p q : Access) → Touches first p → Touches second q → do_clash first second ≡ is_clash p q
uses_clash first second p q a b =
    (λ i. do_clash (a.only i) (b.only i))
    ∙ or_false (touches_clash a.touch b.touch || false) ∙ or_false (touches_clash a.touch b.touch)
    ∙ one_key a.touch b.touch a.key b.key ∙ (λ i. is_clash (a.access i) (b.access i))

last_false : (a b c : Bool) → (a || (b || c)) ≡ false → c ≡ false
last_false false false c e = e
last_false false true c e = absurd cc
last_false true b c e = absurd cc

no_clash : (c d : Command) → same c d ≡ false → conflict c d ≡ false → do_clash c.draft.foot d.draft.foot ≡ false
unfolding conflict
no_clash c d apart none =
    let clash = do_clash c.draft.foot d.draft.foot in
    last_false c.draft.checkpoint d.draft.checkpoint clash (sym (ap (λ (b : Bool). not b && (c.draft.checkpoint || (d.draft.checkpoint || clash))) apart) ∙ none)

pub independent : AreIndependent tally_rules
independent cs c d apart none =
    let swap = uses_commute (state_after tally_rules cs) (use_in c.draft.foot) (use_in d.draft.foot) (λ p q x y.
    sym (uses_clash c.draft.foot d.draft.foot p q (touches c.draft.foot p x) (touches d.draft.foot q y)) ∙ no_clash c d apart none) in
    record { state = swap.0; reply = swap.1 }
