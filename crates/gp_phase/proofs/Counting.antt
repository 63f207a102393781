-- What is counted of jobs.
use Rattle.std.proofs.Common.{◌≡◌, ℕ, zero, suc, ◌+◌, ◌<◌, true, false, List, [], ◌∷◌, length, drop, get_or, refl, arith, Option, Some, None}
use Rattle.std.specs.Option.{is_some}
use Rattle.gp_work.specs.declared.job.Job.{Job}
use Rattle.gp_work.specs.Doing.{ProcessState, posted}
use Rattle.gp_phase.specs.Phases.{total}

pub total_next : {P : Type 0} (state : P → ProcessState) (others : ℕ) (js : List (Job P)) (i : ℕ) (d : Job P) → i < length js
    → total state others (drop i js) ≡ posted (state (get_or js i d).cell) + total state others (drop (suc i) js)
total_next state others [] i d l = absurd (omega (arith, l))
total_next state others (j ∷ js) zero d l = refl
total_next state others (j ∷ js) (suc i) d l = total_next state others js i d (omega (arith, l))

pub none_there : {A : Type 0} (o : Option A) → false ≡ is_some o → o ≡ None
none_there None e = refl
none_there (Some x) e = cc

pub some_there : {A : Type 0} (o : Option A) → true ≡ is_some o → o ≡ None → ⊥
some_there None e none = absurd cc
some_there (Some x) e none = absurd cc
