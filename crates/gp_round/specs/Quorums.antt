-- Quorums as sets of numbers, each set given by a test.
use Rattle.std.specs.Prelude.{◌≡◌, ℕ, ◌<◌, ◌≤◌, Bool, true}
use Rattle.gp_round.specs.declared.round.Mode.{Mode}
use Rattle.gp_round.specs.declared.round.Mode.TheVariants.{Single, Multi, Fast}
use Rattle.gp_round.specs.declared.round.Round.{Round}
use Rattle.gp_round.specs.Configs.{majority, quorum_size}
use Rattle.gp_round.specs.Sets.{members}

-- a quorum of n acceptors in a round of this mode
abbrev pub IsQuorum : ℕ → Mode → (ℕ → Bool) → Type 0
IsQuorum n mode q = quorum_size n mode ≤ members q n

-- a quorum of phase 1
abbrev pub IsFirstQuorum : ℕ → (ℕ → Bool) → Type 0
IsFirstQuorum n q = majority n ≤ members q n

-- a quorum of n coordinators: more than half of them in a multi round, and otherwise any set with the lead, which is one of them
abbrev pub coordinator_quorum_of : ℕ → Mode → ℕ → (ℕ → Bool) → Type 0
coordinator_quorum_of n Single lead q = (lead < n) × (q lead ≡ true)
coordinator_quorum_of n Multi lead q = majority n ≤ members q n
coordinator_quorum_of n Fast lead q = (lead < n) × (q lead ≡ true)

abbrev pub IsCoordinatorQuorum : ℕ → Round → (ℕ → Bool) → Type 0
IsCoordinatorQuorum n r q = coordinator_quorum_of n r.mode r.lead q

-- a number below n that is in both
pub record Shared (n : ℕ) (p q : ℕ → Bool) : Type 0 where
  pub number : ℕ
  pub below : number < n
  pub left : p number ≡ true
  pub right : q number ≡ true

-- a number below n that is in all three
pub record SharedByThree (n : ℕ) (p q s : ℕ → Bool) : Type 0 where
  pub number : ℕ
  pub below : number < n
  pub first : p number ≡ true
  pub second : q number ≡ true
  pub third : s number ≡ true
