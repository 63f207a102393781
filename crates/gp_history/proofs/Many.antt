-- The bounds of many histories.
use Rattle.std.proofs.Common.{◌≡◌, ℕ, zero, suc, ◌+◌, ◌^◌, ◌*◌, ◌%◌, ◌/◌, ◌<◌, true, List, [], ◌∷◌, length, Some, None, refl, sym, ap, subst, ◌∙◌, zero-add, add-zero, arith}
use Rattle.std.specs.Prelude.{nat_eq, slice_get, slice_index_or}
use Rattle.std.specs.Int.{bit_at}
use Rattle.std.specs.List.{All, Contains}
use Rattle.std.proofs.lemmas.Bool.{eqb-true, eqb-false, eq-eqb}
use Rattle.std.proofs.lemmas.List.Elements.{All-contains}
use Rattle.std.proofs.lemmas.Nat.Bits.{bit_at_lowest, bit_at-suc}
use native.Mathlib.Nat.{pow-suc}
use Rattle.gp_history.specs.History.{History, IsHistory, IsPrefix, has, empty}
use Rattle.gp_history.specs.Bounds.{IsCompatible, ArePairwiseCompatible, IsLeastUpperBoundOf, IsGreatestLowerBoundAt, join, joined, join_all, meet, met, meet_of, chosen_from, meet_all}
use Rattle.gp_history.proofs.Tests.{by_cases, never}
use Rattle.gp_history.proofs.Prefix.{prefix_refl, prefix_trans, prefix_antisymm}
use Rattle.gp_history.proofs.Joins.{empty_none}
use Rattle.gp_history.proofs.Lub.{bounded_compatible, compatible_symm}
use Rattle.gp_history.proofs.Bound.{join_is_least, join_is_history, compatible_join, meet_is_greatest, meet_is_history, empty_is_history}

-- ---- members of a list

first_in : (h : History) (hs : List History) → Contains (h ∷ hs) h
first_in h hs = (0, omega arith, refl)

later_in : (h k : History) (hs : List History) → Contains hs k → Contains (h ∷ hs) k
later_in h k hs c = (suc c.0, omega (arith, c.1), c.2)

first_or_later : {P : Type 0} (h k : History) (hs : List History) → Contains (h ∷ hs) k → (h ≡ k → P) → (Contains hs k → P) → P
first_or_later {P} h k hs c f g = by_place c.0 c.1 c.2 where
  by_place : (i : ℕ) → i < length (h ∷ hs) → slice_index_or (h ∷ hs) i k ≡ k → P
  by_place zero lt e = f e
  by_place (suc i) lt e = g (i, omega (arith, lt), e)

-- ---- the join of many

record JoinsAll (u : History) (hs : List History) (j : History) : Type 0 where
  pub history : IsHistory j
  pub first : IsPrefix u j
  pub above : (h : History) → Contains hs h → IsPrefix h j
  pub least : (v : History) → IsPrefix u v → ((h : History) → Contains hs h → IsPrefix h v) → IsPrefix j v

joined_is_least : (hs : List History) (u : History) → IsHistory u → ((h : History) → Contains hs h → IsHistory h) → ((h : History) → Contains hs h → IsCompatible u h) → ArePairwiseCompatible hs → JoinsAll u hs (joined u hs)
joined_is_least [] u wu ws a b = record { history = wu; first = prefix_refl u wu; above = λ h c. absurd (omega (arith, c.1)); least = λ v p _. p }
joined_is_least (h ∷ hs) u wu ws a b =
    let wh = ws h (first_in h hs) in
    let one = join_is_least u h wu wh (a h (first_in h hs)) in
    let rest : JoinsAll (join u h) hs (joined (join u h) hs) =
    joined_is_least hs (join u h) (join_is_history u h wu wh)
    (λ k c. ws k (later_in h k hs c))
    (λ k c. compatible_symm k (join u h) (compatible_join k u h (ws k (later_in h k hs c)) wu wh (compatible_symm u k (a k (later_in h k hs c))) (b k h (later_in h k hs c) (first_in h hs)) (a h (first_in h hs))))
    (λ k l c d. b k l (later_in h k hs c) (later_in h l hs d)) in
    record {
      history = rest.history;
      first = prefix_trans u (join u h) (joined (join u h) hs) one.left rest.first;
      above = λ k c. first_or_later h k hs c
          (λ e. subst (λ (z : History). IsPrefix z (joined (join u h) hs)) e (prefix_trans h (join u h) (joined (join u h) hs) one.right rest.first))
          (λ m. rest.above k m);
      least = λ v p q. rest.least v (one.least v p (q h (first_in h hs))) (λ k c. q k (later_in h k hs c));
    }

pub empty_below : (h : History) → IsPrefix empty h
empty_below h = record {
  commands = λ c p. never (has empty c) p (empty_none c);
  pairs = λ c d p q. never (has empty c) p (empty_none c);
  closed = λ c d q r. never (has empty d) q (empty_none d);
}

each_is : (hs : List History) → All IsHistory hs → (h : History) → Contains hs h → IsHistory h
each_is hs ws h c = All-contains IsHistory hs h ws c

-- histories that are compatible in pairs have a least upper bound, their join
pub join_all_is_least : (hs : List History) → ((h : History) → Contains hs h → IsHistory h) → ArePairwiseCompatible hs → IsLeastUpperBoundOf hs (join_all hs)
join_all_is_least hs ws p =
    let all = joined_is_least hs empty empty_is_history ws (λ h c. bounded_compatible empty h h empty_is_history (ws h c) (ws h c) (empty_below h) (prefix_refl h (ws h c))) p in
    record { history = all.history; above = all.above; least = λ u q. all.least u (empty_below u) q }

pub join_all_least : (hs : List History) → All IsHistory hs → ArePairwiseCompatible hs → IsLeastUpperBoundOf hs (join_all hs)
join_all_least hs ws p = join_all_is_least hs (each_is hs ws) p

-- and the order of the list does not matter
pub join_all_same : (hs ks : List History) → All IsHistory hs → ArePairwiseCompatible hs → ((h : History) → Contains hs h → Contains ks h) → ((h : History) → Contains ks h → Contains hs h) → join_all hs ≡ join_all ks
join_all_same hs ks ws p to from =
    let left = join_all_least hs ws p in
    let right = join_all_is_least ks (λ h c. each_is hs ws h (from h c)) (λ h k c d. p h k (from h c) (from k d)) in
    prefix_antisymm (join_all hs) (join_all ks) left.history right.history
    (left.least (join_all ks) (λ h c. right.above h (to h c)))
    (right.least (join_all hs) (λ h c. left.above h (from h c)))

-- ---- the meet of many

record MeetsAll (u : History) (hs : List History) (m : History) : Type 0 where
  pub history : IsHistory m
  pub first : IsPrefix m u
  pub below : (h : History) → Contains hs h → IsPrefix m h
  pub greatest : (v : History) → IsPrefix v u → ((h : History) → Contains hs h → IsPrefix v h) → IsPrefix v m

met_is_greatest : (hs : List History) (u : History) → IsHistory u → ((h : History) → Contains hs h → IsHistory h) → MeetsAll u hs (met u hs)
met_is_greatest [] u wu ws = record { history = wu; first = prefix_refl u wu; below = λ h c. absurd (omega (arith, c.1)); greatest = λ v p _. p }
met_is_greatest (h ∷ hs) u wu ws =
    let wh = ws h (first_in h hs) in
    let one = meet_is_greatest u h wu wh in
    let rest : MeetsAll (meet u h) hs (met (meet u h) hs) = met_is_greatest hs (meet u h) (meet_is_history u h wu wh) (λ k c. ws k (later_in h k hs c)) in
    record {
      history = rest.history;
      first = prefix_trans (met (meet u h) hs) (meet u h) u rest.first one.left;
      below = λ k c. first_or_later h k hs c
          (λ e. subst (λ (z : History). IsPrefix (met (meet u h) hs) z) e (prefix_trans (met (meet u h) hs) (meet u h) h rest.first one.right))
          (λ m. rest.below k m);
      greatest = λ v p q. rest.greatest v (one.greatest v p (q h (first_in h hs))) (λ k c. q k (later_in h k hs c));
    }

-- ---- which are chosen

-- what stands at a place that is a bit of the mask is chosen
chosen_at : (mask i : ℕ) (hs : List History) (j : ℕ) (h : History) → bit_at mask (i + j) ≡ 1 → slice_get hs j ≡ Some h → Contains (chosen_from mask i hs) h
chosen_at mask i [] j h bit at = cc
chosen_at mask i (x ∷ hs) zero h bit at =
    let is : x ≡ h = cc in
    let set : nat_eq (bit_at mask i) 1 ≡ true = eq-eqb (bit_at mask i) 1 (ap (bit_at mask) (sym (add-zero i)) ∙ bit) in
    rw set (subst (λ (z : History). Contains (x ∷ chosen_from mask (suc i) hs) z) is (first_in x (chosen_from mask (suc i) hs)))
chosen_at mask i (x ∷ hs) (suc j) h bit at =
    let there : i + suc j ≡ suc i + j = omega arith in
    let rest = chosen_at mask (suc i) hs j h (ap (bit_at mask) (sym there) ∙ bit) at in
    by_cases (nat_eq (bit_at mask i) 1)
    (λ e. rw e (later_in x h (chosen_from mask (suc i) hs) rest))
    (λ e. rw e rest)

record Chosen (mask i : ℕ) (hs : List History) (h : History) : Type 0 where
  pub place : ℕ
  pub bit : bit_at mask (i + place) ≡ 1
  pub at : slice_get hs place ≡ Some h

chosen_behind : (mask i : ℕ) (x : History) (hs : List History) (h : History) → Chosen mask (suc i) hs h → Chosen mask i (x ∷ hs) h
chosen_behind mask i x hs h c =
    let there : suc i + c.place ≡ i + suc c.place = omega arith in
    record { place = suc c.place; bit = ap (bit_at mask) (sym there) ∙ c.bit; at = c.at }

chosen_back : (mask i : ℕ) (hs : List History) (h : History) → Contains (chosen_from mask i hs) h → Chosen mask i hs h
chosen_back mask i [] h c = absurd (omega (arith, c.1))
chosen_back mask i (x ∷ hs) h c = by_cases (nat_eq (bit_at mask i) 1)
    (λ e. first_or_later x h (chosen_from mask (suc i) hs) (rw e at c)
    (λ is. record { place = 0; bit = ap (bit_at mask) (add-zero i) ∙ eqb-true (bit_at mask i) 1 e; at = ap Some is })
    (λ m. chosen_behind mask i x hs h (chosen_back mask (suc i) hs h m)))
    (λ e. chosen_behind mask i x hs h (chosen_back mask (suc i) hs h (rw e at c)))

stands : (hs : List History) (i : ℕ) (h : History) → slice_get hs i ≡ Some h → Contains hs h
stands [] i h at = cc
stands (x ∷ hs) zero h at = let is : x ≡ h = cc in subst (λ (z : History). Contains (x ∷ hs) z) is (first_in x hs)
stands (x ∷ hs) (suc i) h at = later_in x h hs (stands hs i h at)

-- the meet of those that are chosen is their greatest lower bound
met_of_chosen : (mask : ℕ) (hs ks : List History) (m : History) → All IsHistory hs → chosen_from mask 0 hs ≡ ks → meet_of ks ≡ Some m → IsGreatestLowerBoundAt mask hs m
met_of_chosen mask hs [] m ws c e = cc
met_of_chosen mask hs (k ∷ ks) m ws c e =
    let is : met k ks ≡ m = cc in
    let from : (h : History) → Contains (k ∷ ks) h → Chosen mask 0 hs h = λ h i. chosen_back mask 0 hs h (subst (λ (zs : List History). Contains zs h) (sym c) i) in
    let to : (i : ℕ) (h : History) → bit_at mask i ≡ 1 → slice_get hs i ≡ Some h → Contains (k ∷ ks) h =
    λ i h bit at. subst (λ (zs : List History). Contains zs h) c (chosen_at mask 0 hs i h (ap (bit_at mask) (zero-add i) ∙ bit) at) in
    let is_history : (h : History) → Contains (k ∷ ks) h → IsHistory h = λ h i. let d = from h i in each_is hs ws h (stands hs d.place h d.at) in
    let all = met_is_greatest ks k (is_history k (first_in k ks)) (λ h i. is_history h (later_in k h ks i)) in
    subst (IsGreatestLowerBoundAt mask hs) is record {
      history = all.history;
      below = λ i h bit at. first_or_later k h ks (to i h bit at)
          (λ same. subst (λ (z : History). IsPrefix (met k ks) z) same all.first)
          (λ more. all.below h more);
      greatest = λ u q.
          let each : (h : History) → Contains (k ∷ ks) h → IsPrefix u h = λ h i. let d = from h i in q d.place h (ap (bit_at mask) (sym (zero-add d.place)) ∙ d.bit) d.at in
          all.greatest u (each k (first_in k ks)) (λ h i. each h (later_in k h ks i));
    }

pub meet_all_is_greatest : (mask : ℕ) (hs : List History) (m : History) → All IsHistory hs → meet_all mask hs ≡ Some m → IsGreatestLowerBoundAt mask hs m
meet_all_is_greatest mask hs m ws e = met_of_chosen mask hs (chosen_from mask 0 hs) m ws refl e

-- ---- there is a meet where the mask names a place

-- a number without bits below a place is 0, if it is small
no_bits : (k n : ℕ) → n < 2 ^ k → ((j : ℕ) → j < k → bit_at n j ≡ 0) → n ≡ 0
no_bits zero n lt none = omega (arith, lt)
no_bits (suc k) n lt none =
    let even : n % 2 ≡ 0 = sym (bit_at_lowest n) ∙ none 0 (omega arith) in
    let twice : n < 2 ^ k * 2 = rw pow-suc at lt in
    let half : n / 2 ≡ 0 = no_bits k (n / 2) (omega (arith, twice)) (λ j below. sym (bit_at-suc n j) ∙ none (suc j) (omega (arith, below))) in
    omega (arith, even, half)

there : (hs : List History) (j : ℕ) → j < length hs → (h : History) × (slice_get hs j ≡ Some h)
there [] j lt = absurd (omega arith)
there (h ∷ hs) zero lt = (h, refl)
there (h ∷ hs) (suc j) lt = there hs j (omega (arith, lt))

none_of : (hs : List History) → meet_of hs ≡ None → hs ≡ []
none_of [] e = refl
none_of (h ∷ hs) e = cc

pub meet_all_some : (mask : ℕ) (hs : List History) → 0 < mask → mask < 2 ^ length hs → meet_all mask hs ≡ None → ⊥
meet_all_some mask hs some within e =
    let none : chosen_from mask 0 hs ≡ [] = none_of (chosen_from mask 0 hs) e in
    let unset : (j : ℕ) → j < length hs → bit_at mask j ≡ 0 = λ j lt.
    by_cases (nat_eq (bit_at mask j) 1)
    (λ b.
    let h = there hs j lt in
    let c = subst (λ (zs : List History). Contains zs h.0) none (chosen_at mask 0 hs j h.0 (ap (bit_at mask) (zero-add j) ∙ eqb-true (bit_at mask j) 1 b) h.1) in
    absurd (omega (arith, c.1)))
    (λ b. let off = eqb-false (bit_at mask j) 1 b in omega (arith, off)) in
    let zero_mask = no_bits (length hs) mask within unset in
    omega (arith, zero_mask, some)
