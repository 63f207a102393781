-- All jobs of a work phase, and what is done beside them.
use Rattle.std.specs.Prelude.{◌≡◌, ◌<◌, ℕ, List, length, slice_index_or}
use Rattle.std.specs.List.{All}
use Rattle.gp_work.specs.declared.job.Job.{Job}
use Rattle.gp_work.specs.Causes.{FaultCauses}
use Rattle.gp_work.specs.Doing.{ProcessState}
use Rattle.gp_work.specs.Jobs.{IsReady, HasWorked}
use Rattle.gp_phase.specs.declared.beside.Trio.{Trio}

-- there are jobs, and each can be done
pub record CanWork {N P : Type 0} (state : P → ProcessState) (is_of : P → N → Type 0) (net : N) (jobs : List (Job P)) : Type 0 where
  pub some : 0 < length jobs
  pub ready : All (IsReady state is_of net) jobs

-- each job was done, in its place
pub record HaveAllWorked {N P : Type 0} (state : P → ProcessState) (is_of : P → N → Type 0) (causes : P → FaultCauses) (net : N) (jobs done : List (Job P)) : Type 0 where
  pub same : length done ≡ length jobs
  pub each : (i : ℕ) (d : Job P) → i < length jobs → HasWorked state is_of causes net (slice_index_or jobs i d) (slice_index_or done i d)

-- what the work of each thread is about
pub record Topics (S T : Type 0) : Type 0 where
  pub main : S
  pub first : T
  pub second : T

abbrev pub topics : {A B S T : Type 0} → (A → S) → (B → T) → Trio A B → Topics S T
topics of_main of_others beside = record { main = of_main beside.main; first = of_others beside.first; second = of_others beside.second }
