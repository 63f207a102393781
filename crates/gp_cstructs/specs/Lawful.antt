-- What the proof requires of the tables.
use Rattle.std.specs.Prelude.{◌≡◌, ◌⊎◌, ◌<◌, ◌≤◌, ℕ, Bool, true, false, not, List, Option, Some, unwrap_or}
use Rattle.gp_round.specs.Sets.{members}
use Rattle.gp_cstructs.specs.CStructs.{Among, BoundLaws}
use Rattle.gp_cstructs.specs.Tables.{Tables, is_missing}
use Rattle.gp_cstructs.specs.Safety.{IsOrder, QuorumSizes, IsTopRound, AreCountingValues, IsChoice}

-- who answered
abbrev pub answers_by : {X : Type 0} → (ℕ → Option X) → ℕ → Bool
answers_by f i = not (is_missing (f i))

-- the round in which acceptor a voted last, by its answer
abbrev pub round_in : (T : Tables) → (ℕ → Option (T.Round × T.Value)) → ℕ → T.Round
round_in T f a = (unwrap_or (f a) (T.zero, T.empty)).0

-- its vote, by its answer
abbrev pub vote_in : (T : Tables) → (ℕ → Option (T.Round × T.Value)) → ℕ → T.Value
vote_in T f a = (unwrap_or (f a) (T.zero, T.empty)).1

-- m is the meet of the values of the members of R, each of which has one
pub record IsMeet {V : Type 0} (prefix : V → V → Type 0) (n : ℕ) (f : ℕ → Option V) (R : ℕ → Bool) (m : V) : Type 0 where
  pub all : (i : ℕ) → i < n → R i ≡ true → (v : V) × (f i ≡ Some v) × prefix m v
  pub greatest : (z : V) → ((i : ℕ) (v : V) → i < n → R i ≡ true → f i ≡ Some v → prefix z v) → prefix z m

-- the safe choice is made from answers of a quorum of phase 1, from the values of the sets that count
pub record IsSafeChoice (T : Tables) (f : ℕ → Option (T.Round × T.Value)) : Type 0 where
  pub top : T.Round
  pub values : List T.Value
  pub many : T.first_quorum ≤ members (answers_by f) T.acceptors
  pub is_top : IsTopRound (λ i j. T.earlier i j ≡ true) T.acceptors (answers_by f) (round_in T f) top
  pub are_values : AreCountingValues T.prefix T.acceptors T.quorum (answers_by f) (round_in T f) (vote_in T f) top values
  pub is_choice : IsChoice T.empty T.join T.acceptors (answers_by f) (round_in T f) (vote_in T f) top values (T.safe_choice f)

-- the laws of values, rounds, quorums, meets and the safe choice; `leads` says which sets of coordinators are quorums of a round
pub record IsLawful (T : Tables) (leads : T.Round → (ℕ → Bool) → Type 0) : Type 0 where
  pub bounds : BoundLaws T.prefix T.empty T.meet T.join
  pub push_extends : (u : T.Value) (c : T.Command) → T.prefix u (T.push u c)
  pub prefix_as_long : (u v : T.Value) → T.prefix u v → T.size v ≤ T.size u → T.prefix v u
  pub order : IsOrder (λ i j. T.earlier i j ≡ true)
  pub same_tells : (i j : T.Round) → T.same i j ≡ true → i ≡ j
  pub same_itself : (i : T.Round) → T.same i i ≡ true
  pub zero_least : (r : T.Round) → T.earlier r T.zero ≡ true → ⊥
  pub zero_not_fast : T.fast T.zero ≡ false
  pub sizes : QuorumSizes T.fast T.acceptors T.first_quorum T.quorum
  -- two quorums of coordinators of a round share one
  pub leaders_share : (r : T.Round) (R S : ℕ → Bool) → leads r R → leads r S → (c : ℕ) × (c < T.coordinators) × (R c ≡ true) × (S c ≡ true)
  -- the meets are those of quorums, and those of all quorums of acceptors of the least size
  pub coordinator_meets_only : (r : T.Round) (f : ℕ → Option T.Value) (m : T.Value) → Among (T.coordinator_meets r f) m → (R : ℕ → Bool) × leads r R × IsMeet T.prefix T.coordinators f R m
  pub acceptor_meets_only : (r : T.Round) (f : ℕ → Option T.Value) (m : T.Value) → Among (T.acceptor_meets r f) m → (R : ℕ → Bool) × (members R T.acceptors ≡ T.quorum r) × IsMeet T.prefix T.acceptors f R m
  pub acceptor_meets_each : (r : T.Round) (f : ℕ → Option T.Value) (R : ℕ → Bool) → members R T.acceptors ≡ T.quorum r
      → ((i : ℕ) → i < T.acceptors → R i ≡ true → (v : T.Value) × (f i ≡ Some v)) → (m : T.Value) × Among (T.acceptor_meets r f) m × IsMeet T.prefix T.acceptors f R m
  pub choices : (f : ℕ → Option (T.Round × T.Value)) → T.is_enough f ≡ true → IsSafeChoice T f

-- a command has the proposer and the number of its offer
pub record TellsIdentity (T : Tables) : Type 0 where
  pub proposer_told : (p n : ℕ) (d : T.Draft) → T.proposer_of (T.numbered p n d) ≡ p
  pub number_told : (p n : ℕ) (d : T.Draft) → T.number_of (T.numbered p n d) ≡ n

-- no operation invents a command: each command of its result was in what it was given
pub record KeepsCommands (T : Tables) : Type 0 where
  pub in_empty : (d : T.Command) → T.has T.empty d ≡ true → ⊥
  pub in_push : (u : T.Value) (c d : T.Command) → T.has (T.push u c) d ≡ true → (T.has u d ≡ true) ⊎ (c ≡ d)
  pub in_join : (u v : T.Value) (d : T.Command) → T.has (T.join u v) d ≡ true → (T.has u d ≡ true) ⊎ (T.has v d ≡ true)
  pub in_coordinator_meets : (r : T.Round) (f : ℕ → Option T.Value) (m : T.Value) (d : T.Command) → Among (T.coordinator_meets r f) m → T.has m d ≡ true → (i : ℕ) × (v : T.Value) × (f i ≡ Some v) × (T.has v d ≡ true)
  pub in_acceptor_meets : (r : T.Round) (f : ℕ → Option T.Value) (m : T.Value) (d : T.Command) → Among (T.acceptor_meets r f) m → T.has m d ≡ true → (i : ℕ) × (v : T.Value) × (f i ≡ Some v) × (T.has v d ≡ true)
  pub in_safe_choice : (f : ℕ → Option (T.Round × T.Value)) (d : T.Command) → T.has (T.safe_choice f) d ≡ true → (i : ℕ) × (q : T.Round) × (v : T.Value) × (f i ≡ Some (q, v)) × (T.has v d ≡ true)
