-- Sets of numbers: what two or three of them share, smaller sets within a set, and the masks of sets.
use Rattle.std.proofs.Common.{◌≡◌, ℕ, ◌+◌, ◌<◌, ◌≤◌, Bool, true}
use Rattle.gp_round.specs.Sets.{members, bit, masks}
use Rattle.gp_round.proofs.Masks.{subset_is}
use Rattle.gp_round.proofs.Counting.{shared, shared_by_three}
use Rattle.gp_round.proofs.SetMasks.{a_smaller_set_is_within, a_set_is_a_mask}
use Rattle.gp_cstructs.specs.CStructs.{Among}
use Rattle.gp_cstructs.proofs.Lists.{among_contains, contains_among}

-- ---- what sets share

pub two_share : (p q : ℕ → Bool) (n : ℕ) → n < members p n + members q n → (i : ℕ) × (i < n) × (p i ≡ true) × (q i ≡ true)
two_share p q n h = let s = shared n p q h in (s.number, s.below, s.left, s.right)

pub three_share : (p q s : ℕ → Bool) (n : ℕ) → n + n < members p n + members q n + members s n → (i : ℕ) × (i < n) × (p i ≡ true) × (q i ≡ true) × (s i ≡ true)
three_share p q s n h = let r = shared_by_three n p q s h in (r.number, r.below, r.first, r.second, r.third)

-- a set has a subset of each smaller size
pub shrunk : (p : ℕ → Bool) (n k : ℕ) → k ≤ members p n → (s : ℕ → Bool) × (members s n ≡ k) × ((i : ℕ) → s i ≡ true → p i ≡ true)
shrunk p n k h = let w = a_smaller_set_is_within p n k h in (w.set, w.count, w.inside)

-- ---- masks in a list

-- each mask of the list has this many members
pub kept_size : (n size m : ℕ) → Among (masks n size) m → members (bit m) n ≡ size
kept_size n size m p = ((subset_is n size m).0 (among_contains (masks n size) m p)).1

-- each set of this size is a mask of the list
pub set_mask : (p : ℕ → Bool) (n size : ℕ) → members p n ≡ size → (m : ℕ) × Among (masks n size) m × ((i : ℕ) → i < n → bit m i ≡ p i)
set_mask p n size h = let s = a_set_is_a_mask p n size h in (s.mask, contains_among (masks n size) s.mask s.listed, s.bits)
