-- Sets that are large enough have numbers in common.
use Rattle.std.proofs.Common.{◌≡◌, ℕ, zero, suc, ◌+◌, ◌<◌, ◌≤◌, Bool, true, false, ◌&&◌, cond, refl, ap, arith}
use Rattle.gp_round.specs.declared.round.Mode.{Mode}
use Rattle.gp_round.specs.declared.round.Mode.TheVariants.{Single, Multi, Fast}
use Rattle.gp_round.specs.Configs.{majority, quorum_size}
use Rattle.gp_round.specs.Quorums.{IsQuorum, IsFirstQuorum, coordinator_quorum_of, Shared, SharedByThree}
use Rattle.gp_round.specs.Sets.{members}

-- of two sets and what they share
one_more : (a b : Bool) (m p q n : ℕ) → p + q ≤ m + n → (cond a 1 0 + p) + (cond b 1 0 + q) ≤ (cond (a && b) 1 0 + m) + suc n
one_more true true m p q n h = omega (arith, h)
one_more true false m p q n h = omega (arith, h)
one_more false true m p q n h = omega (arith, h)
one_more false false m p q n h = omega (arith, h)

overlap : (p q : ℕ → Bool) (n : ℕ) → members p n + members q n ≤ members (λ i. p i && q i) n + n
overlap p q zero = omega arith
overlap p q (suc n) = one_more (p n) (q n) (members (λ i. p i && q i) n) (members p n) (members q n) n (overlap p q n)

record Member (p : ℕ → Bool) (n : ℕ) : Type 0 where
  pub number : ℕ
  pub below : number < n
  pub inside : p number ≡ true

-- a set that is not empty has a member
member_of : (p : ℕ → Bool) (n : ℕ) (b : Bool) → p n ≡ b → (0 < members p n → Member p n) → 0 < cond (p n) 1 0 + members p n → Member p (suc n)
member_of p n true e earlier h = record { number = n; below = omega arith; inside = e }
member_of p n false e earlier h =
    let none : ◌≡◌ {A = ℕ} (cond (p n) 1 0) 0 = ap (λ (b : Bool). cond {A = ℕ} b 1 0) e in
    let m = earlier (omega (arith, h, none)) in
    record { number = m.number; below = omega (arith, m.below); inside = m.inside }

member : (p : ℕ → Bool) (n : ℕ) → 0 < members p n → Member p n
member p zero h = absurd (omega (arith, h))
member p (suc n) h = member_of p n (p n) refl (member p n) h

pub left_true : (a b : Bool) → (a && b) ≡ true → a ≡ true
left_true true b h = refl
left_true false b h = h

pub right_true : (a b : Bool) → (a && b) ≡ true → b ≡ true
right_true true b h = h
right_true false b h = absurd (let k : false ≡ true = h in cc)

pub shared : (n : ℕ) (p q : ℕ → Bool) → n < members p n + members q n → Shared n p q
shared n p q h =
    let m = member (λ i. p i && q i) n (omega (arith, h, overlap p q n)) in
    record { number = m.number; below = m.below; left = left_true (p m.number) (q m.number) m.inside; right = right_true (p m.number) (q m.number) m.inside }

pub shared_by_three : (n : ℕ) (p q s : ℕ → Bool) → n + n < members p n + members q n + members s n → SharedByThree n p q s
shared_by_three n p q s h =
    let m = shared n (λ i. p i && q i) s (omega (arith, h, overlap p q n)) in
    record { number = m.number; below = m.below; first = left_true (p m.number) (q m.number) m.left; second = right_true (p m.number) (q m.number) m.left; third = m.right }

-- ---- the sizes

majorities : (n : ℕ) → n < majority n + majority n
majorities n = omega arith

pub quorum_with_first : (n : ℕ) (mode : Mode) → n < quorum_size n mode + majority n
quorum_with_first n Single = omega arith
quorum_with_first n Multi = omega arith
quorum_with_first n Fast = omega arith

two_quorums : (n : ℕ) (mode : Mode) → 0 < n → n < quorum_size n mode + quorum_size n mode
two_quorums n Single some = omega arith
two_quorums n Multi some = omega arith
two_quorums n Fast some = omega (arith, some)

pub quorums_meet : (n : ℕ) (mode : Mode) (p q : ℕ → Bool) → 0 < n → IsQuorum n mode p → IsQuorum n mode q → Shared n p q
quorums_meet n mode p q some a b = shared n p q (omega (arith, a, b, two_quorums n mode some))

pub first_quorum_meets : (n : ℕ) (mode : Mode) (p q : ℕ → Bool) → IsQuorum n mode p → IsFirstQuorum n q → Shared n p q
first_quorum_meets n mode p q a b = shared n p q (omega (arith, a, b, quorum_with_first n mode))

pub fast_quorums_meet : (n : ℕ) (p q s : ℕ → Bool) → IsQuorum n Fast p → IsQuorum n Fast q → IsFirstQuorum n s → SharedByThree n p q s
fast_quorums_meet n p q s a b c = shared_by_three n p q s (omega (arith, a, b, c))

-- ---- quorums of coordinators

pub coordinator_quorums_meet : (n : ℕ) (mode : Mode) (lead : ℕ) (p q : ℕ → Bool) → coordinator_quorum_of n mode lead p → coordinator_quorum_of n mode lead q → Shared n p q
coordinator_quorums_meet n Single lead p q a b = record { number = lead; below = a.0; left = a.1; right = b.1 }
coordinator_quorums_meet n Multi lead p q a b = shared n p q (omega (arith, a, b, majorities n))
coordinator_quorums_meet n Fast lead p q a b = record { number = lead; below = a.0; left = a.1; right = b.1 }
