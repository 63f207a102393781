-- What may yet be chosen, and what is safe, over any values and rounds; and the choice from the answers of phase 1.
use Rattle.std.specs.Prelude.{◌≡◌, ◌⊎◌, ◌<◌, ◌≤◌, ◌+◌, ℕ, Bool, true, List, [], ◌∷◌}
use Rattle.gp_round.specs.Sets.{members}
use Rattle.gp_cstructs.specs.CStructs.{Among, join_all}

-- a total order of rounds
pub record IsOrder {Rd : Type 0} (lt : Rd → Rd → Type 0) : Type 0 where
  pub transitive : (i j k : Rd) → lt i j → lt j k → lt i k
  pub irreflexive : (i : Rd) → lt i i → ⊥
  pub total : (i j : Rd) → lt i j ⊎ ((i ≡ j) ⊎ lt j i)

-- quorums that meet: two of a round; one of a round and one of phase 1; two of a fast round and one of phase 1
pub record QuorumSizes {Rd : Type 0} (fast : Rd → Bool) (n first : ℕ) (size : Rd → ℕ) : Type 0 where
  pub with_itself : (r : Rd) → n < size r + size r
  pub with_first : (r : Rd) → n < size r + first
  pub fast_twice : (r : Rd) → fast r ≡ true → n + n < size r + size r + first

-- ---- chosen and safe

-- a has a vote of r that w is a prefix of
pub record Covered {Rd V : Type 0} (prefix : V → V → Type 0) (votes : ℕ → Rd → V → Type 0) (a : ℕ) (r : Rd) (w : V) : Type 0 where
  pub vote : V
  pub cast : votes a r vote
  pub above : prefix w vote

-- w is chosen at r: each acceptor of a quorum has a vote of r that w is a prefix of
pub record Chosen {Rd V : Type 0} (prefix : V → V → Type 0) (n : ℕ) (size : Rd → ℕ) (votes : ℕ → Rd → V → Type 0) (w : V) (r : Rd) : Type 0 where
  pub quorum : ℕ → Bool
  pub enough : size r ≤ members quorum n
  pub covered : (a : ℕ) → a < n → quorum a ≡ true → Covered prefix votes a r w

-- w may yet be chosen at r: each acceptor of a quorum that is past r has such a vote
pub record Choosable {Rd V : Type 0} (prefix : V → V → Type 0) (n : ℕ) (size : Rd → ℕ) (votes : ℕ → Rd → V → Type 0) (past : ℕ → Rd → Type 0) (w : V) (r : Rd) : Type 0 where
  pub quorum : ℕ → Bool
  pub enough : size r ≤ members quorum n
  pub covered : (a : ℕ) → a < n → quorum a ≡ true → past a r → Covered prefix votes a r w

-- w is safe at r: each value that may yet be chosen below r is a prefix of w
abbrev pub Safe : {Rd V : Type 0} → (Rd → Rd → Type 0) → (V → V → Type 0) → ℕ → (Rd → ℕ) → (ℕ → Rd → V → Type 0) → (ℕ → Rd → Type 0) → V → Rd → Type 0
Safe {Rd} {V} lt prefix n size votes past w r = (j : Rd) → lt j r → (x : V) → Choosable prefix n size votes past x j → prefix x w

-- ---- the choice from answers

-- what is true if a answers round r with v, its last vote, of round q
pub record Answered {Rd V : Type 0} (lt : Rd → Rd → Type 0) (prefix : V → V → Type 0) (votes : ℕ → Rd → V → Type 0) (past : ℕ → Rd → Type 0) (r : Rd) (a : ℕ) (q : Rd) (v : V) : Type 0 where
  pub below : lt q r
  pub ended : (j : Rd) → lt j r → past a j
  pub cast : votes a q v
  pub last : (w : V) → votes a q w → prefix w v
  pub none : (j : Rd) → lt q j → lt j r → (w : V) → votes a j w → ⊥

-- k is the greatest round in the answers of the acceptors of Q
pub record IsTopRound {Rd : Type 0} (lt : Rd → Rd → Type 0) (n : ℕ) (Q : ℕ → Bool) (q : ℕ → Rd) (k : Rd) : Type 0 where
  pub who : ℕ
  pub known : who < n
  pub inside : Q who ≡ true
  pub there : q who ≡ k
  pub most : (a : ℕ) → a < n → Q a ≡ true → lt (q a) k ⊎ (q a ≡ k)

-- R has the least size of a quorum of k, and each of its members that answered did so with k
pub record IsCounting {Rd : Type 0} (n : ℕ) (size : Rd → ℕ) (Q : ℕ → Bool) (q : ℕ → Rd) (k : Rd) (R : ℕ → Bool) : Type 0 where
  pub enough : members R n ≡ size k
  pub all_there : (a : ℕ) → a < n → R a ≡ true → Q a ≡ true → q a ≡ k

-- m is the meet of the votes of the members of R that answered
pub record IsValueOf {V : Type 0} (prefix : V → V → Type 0) (n : ℕ) (Q : ℕ → Bool) (v : ℕ → V) (R : ℕ → Bool) (m : V) : Type 0 where
  pub below : (a : ℕ) → a < n → R a ≡ true → Q a ≡ true → prefix m (v a)
  pub greatest : (z : V) → ((a : ℕ) → a < n → R a ≡ true → Q a ≡ true → prefix z (v a)) → prefix z m

-- vs are the values of the sets that count
pub record AreCountingValues {Rd V : Type 0} (prefix : V → V → Type 0) (n : ℕ) (size : Rd → ℕ) (Q : ℕ → Bool) (q : ℕ → Rd) (v : ℕ → V) (k : Rd) (vs : List V) : Type 0 where
  pub each : (R : ℕ → Bool) → IsCounting n size Q q k R → (m : V) × Among vs m × IsValueOf prefix n Q v R m
  pub only : (m : V) → Among vs m → (R : ℕ → Bool) × IsCounting n size Q q k R × IsValueOf prefix n Q v R m

-- p is the join of these values, or if there are none the vote of an acceptor that answered k
abbrev pub IsChoice : {Rd V : Type 0} → V → (V → V → V) → ℕ → (ℕ → Bool) → (ℕ → Rd) → (ℕ → V) → Rd → List V → V → Type 0
IsChoice empty join n Q q v k [] p = (a : ℕ) × (a < n) × (Q a ≡ true) × (q a ≡ k) × (v a ≡ p)
IsChoice empty join n Q q v k (h ∷ hs) p = join_all empty join (h ∷ hs) ≡ p
