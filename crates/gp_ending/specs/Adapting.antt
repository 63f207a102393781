-- The rounds that the leader of a run that adapts begins.
use Rattle.std.specs.Prelude.{◌≡◌, ◌≤◌, ◌<◌, ◌⊎◌, ℕ, ◌+◌, List, length, take}
use Rattle.gp_round.specs.Counts.{Counts}
use Rattle.gp_round.specs.Configs.{lead_of}
use Rattle.gp_round.specs.declared.round.Mode.{Mode}
use Rattle.gp_round.specs.declared.round.Mode.TheVariants.{Single, Multi, Fast}
use Rattle.gp_round.specs.declared.round.Round.{Round}
use Rattle.gp_msg.specs.declared.record.Record.{Record}
use Rattle.gp_run.specs.Messages.{messages}
use Rattle.gp_run.specs.Runs.{newest_first}
use Rattle.gp_collide.specs.Values.{HasIncompatibleValues}
use Rattle.gp_caller.specs.declared.policy.TheConstants.{LEADER, FIRST_FAST_ROUND}
use Rattle.gp_round.specs.declared.config.TheConstants.{LAST_COUNT}
use Rattle.gp_caller.specs.Standing.{StandsIn}
use Rattle.gp_ending.specs.Begins.{leader, IsBeginAt, BeginsAt}

-- the leader begins no round in epoch e from place i on and before place k
abbrev pub NoneBetween : Counts → List Record → ℕ → ℕ → ℕ → Type 0
NoneBetween config list i k e = (place : ℕ) (r : Round) → i ≤ place → place < k → ¬ BeginsAt config list place e r

-- the round that the leader begins last in epoch e before place k
pub record IsLastBegun (config : Counts) (list : List Record) (k e : ℕ) (q : Round) : Type 0 where
  pub place : ℕ
  pub before : place < k
  pub begins : BeginsAt config list place e q
  pub last : NoneBetween config list (place + 1) k e

-- before place k, two values of round q of epoch e are incompatible
abbrev pub ClashedBefore : List Record → ℕ → ℕ → Round → Type 0
ClashedBefore list k e q = HasIncompatibleValues (e, q) (messages (newest_first (take k list)))

-- a round of this mode may follow one of that mode: a multi round after a collision in a fast one, a single round after a collision in a multi one, and a fast round after one that is not fast
abbrev pub ModeFollows : Mode → Type 0 → Mode → Type 0
ModeFollows Fast clash next = (next ≡ Multi) × clash
ModeFollows Multi clash next = ((next ≡ Single) × clash) ⊎ (next ≡ Fast)
ModeFollows Single clash next = next ≡ Fast

-- round r begins in epoch e at place k after another round, which is the last one before it
pub record FollowsLast (config : Counts) (list : List Record) (k e : ℕ) (r : Round) : Type 0 where
  pub previous : Round
  pub begun : IsLastBegun config list k e previous
  pub count : r.count ≡ previous.count + 1
  pub lead : r.lead ≡ lead_of r.mode LEADER
  pub mode : ModeFollows previous.mode (ClashedBefore list k e previous) r.mode

-- round r, which begins in epoch e at place k, is the first fast round, if it is the first one of the epoch, or follows the last one
abbrev pub IsInCourseAt : Counts → List Record → ℕ → ℕ → Round → Type 0
IsInCourseAt config list k e r = (NoneBetween config list 0 k e × (r ≡ FIRST_FAST_ROUND)) ⊎ FollowsLast config list k e r

-- the rounds that begin are the leader's: in each epoch the first one is fast, and each other one follows the one before it as the modes say; and in the last epoch none is left out
pub record BeginsInCourse (config : Counts) (list : List Record) : Type 0 where
  -- each is the leader's, in some epoch, and fits the rounds before it in that epoch
  pub each : (place c : ℕ) (r : Round) → IsBeginAt list place c r → (e : ℕ) × BeginsAt config list place e r × IsInCourseAt config list place e r
  -- the epoch and the round of the leader after the list
  pub last : ℕ
  pub own : Round
  pub stands : StandsIn config leader list last own
  -- the round that begins last in that epoch has no incompatible values, if another round could follow it
  pub round : Round
  pub begun : IsLastBegun config list (length list) last round
  pub calm : round.count < LAST_COUNT → ¬ HasIncompatibleValues (last, round) (messages (newest_first list))
