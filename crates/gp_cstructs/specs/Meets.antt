-- The meets of the values of senders, one for each quorum that is whole.
use Rattle.std.specs.Prelude.{ℕ, zero, suc, Bool, true, cond, ◌&&◌, List, [], ◌∷◌, Option, Some, None}
use Rattle.gp_round.specs.Sets.{bit}

-- what was gathered so far with one more: None if a value is missing, Some None if there was no member yet
abbrev pub with_one : {V : Type 0} → (V → V → V) → Option V → Option (Option V) → Option (Option V)
with_one meet None g = None
with_one meet (Some v) None = None
with_one meet (Some v) (Some None) = Some (Some v)
with_one meet (Some v) (Some (Some m)) = Some (Some (meet m v))

-- over the numbers below n that pass a test: None if one of them has no value, Some None if none passes, and otherwise the meet
abbrev pub gathered : {V : Type 0} → (V → V → V) → (ℕ → Option V) → (ℕ → Bool) → ℕ → Option (Option V)
gathered meet f p zero = Some None
gathered meet f p (suc n) = cond (p n) (with_one meet (f n) (gathered meet f p n)) (gathered meet f p n)

abbrev pub if_whole : {V : Type 0} → Option (Option V) → Option V
if_whole None = None
if_whole (Some m) = m

abbrev pub add_meet : {V : Type 0} → Option V → List V → List V
add_meet None vs = vs
add_meet (Some v) vs = v ∷ vs

-- the meets of the values of the members of masks that count, if each of these has one and there is one
abbrev pub quorum_meets : {V : Type 0} → (V → V → V) → (ℕ → Option V) → (ℕ → Bool) → ℕ → List ℕ → List V
quorum_meets meet f within n [] = []
quorum_meets meet f within n (m ∷ ms) = add_meet (if_whole (gathered meet f (λ i. bit m i && within i) n)) (quorum_meets meet f within n ms)

-- every number counts
abbrev pub everyone : ℕ → Bool
everyone i = true
