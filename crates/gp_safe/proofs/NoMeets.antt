-- Without values nothing is met.
use Rattle.std.proofs.Common.{◌≡◌, ℕ, zero, suc, Bool, true, false, cond, ◌&&◌, List, [], ◌∷◌, None, refl}
use Rattle.gp_round.specs.Sets.{bit}
use Rattle.gp_safe.specs.Meets.{gathered, quorum_meets, add_meet, everyone, if_whole, with_one}

pub nothing_gathered : (p : ℕ → Bool) (n : ℕ) → if_whole (gathered (λ i. None) p n) ≡ None
nothing_gathered p zero = refl
nothing_gathered p (suc n) = by (p n) (nothing_gathered p n) where
  by : (b : Bool) → if_whole (gathered (λ i. None) p n) ≡ None → if_whole (cond b (with_one None (gathered (λ i. None) p n)) (gathered (λ i. None) p n)) ≡ None
  by true e = refl
  by false e = e

pub no_meets : (n : ℕ) (ms : List ℕ) → quorum_meets (λ i. None) everyone n ms ≡ []
no_meets n [] = refl
no_meets n (m ∷ ms) = (λ k. add_meet (nothing_gathered (λ i. bit m i && everyone i) n k) (no_meets n ms k))
