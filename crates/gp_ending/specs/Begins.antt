-- The rounds that the leader of a run begins, and their places in its records.
use Rattle.std.specs.Prelude.{◌≡◌, ◌≢◌, ◌<◌, ◌⊎◌, ◌↔◌, ℕ, List, [], ◌∷◌, take, slice_get, Some, None}
use Rattle.gp_round.specs.Counts.{Counts}
use Rattle.gp_round.specs.declared.round.Mode.TheVariants.{Single}
use Rattle.gp_round.specs.declared.round.Round.{Round}
use Rattle.gp_msg.specs.declared.node.Node.{Node}
use Rattle.gp_msg.specs.declared.node.Node.TheVariants.{Coordinator}
use Rattle.gp_msg.specs.declared.event.Event.{Event}
use Rattle.gp_msg.specs.declared.event.Event.TheVariants.{Begin, Take}
use Rattle.gp_msg.specs.declared.record.Record.{Record}
use Rattle.gp_run.specs.Messages.{messages}
use Rattle.gp_run.specs.Legal.{Legal}
use Rattle.gp_run.specs.Runs.{newest_first}
use Rattle.gp_wire.specs.Own.{own_events}
use Rattle.gp_work.specs.Doing.{ProcessState}
use Rattle.gp_collide.specs.Values.{HasIncompatibleValues}
use Rattle.gp_phase.specs.declared.caller.Call.{Call}
use Rattle.gp_phase.specs.Deeds.{others_in, begins}
use Rattle.gp_phase.specs.Phases.{Answers, rounds, HasBegunAll}
use Rattle.gp_caller.specs.declared.policy.TheConstants.{FIRST_ROUND, LEADER}
use Rattle.gp_caller.specs.Standing.{StandsIn}

-- the coordinator that begins the rounds of a run
abbrev pub leader : Node
leader = Coordinator LEADER

-- the round that answers a collision in the first one: the single round of the leader with count 2
abbrev pub clash_round : Round
clash_round = record { count = 2; mode = Single; lead = 0 }

-- ---- places of a list

-- the record at this place begins round r at coordinator c
pub record IsBeginAt (list : List Record) (place c : ℕ) (r : Round) : Type 0 where
  pub begun : Record
  pub there : slice_get list place ≡ Some begun
  pub begins : begun.event ≡ Begin c r

-- the record at this place is the leader's, which begins round r there, and is in epoch e by the records before
pub record BeginsAt (config : Counts) (list : List Record) (place e : ℕ) (r : Round) : Type 0 where
  pub at : IsBeginAt list place LEADER r
  pub by_leader : at.begun.node ≡ leader
  pub own : Round
  pub stands : StandsIn config leader (take place list) e own

-- the leader begins round r in epoch e, at some place
abbrev pub IsBegun : Counts → List Record → ℕ → Round → Type 0
IsBegun config list e r = (place : ℕ) × BeginsAt config list place e r

-- the first event of the leader takes no message
abbrev pub OpensWithoutMessage : List Record → Type 0
OpensWithoutMessage list = (n : Node) (k : ℕ) (rest : List Event) → ¬ (own_events leader list ≡ Take n k ∷ rest)

-- the first event of the leader begins round r
abbrev pub BeginsFirst : List Record → Round → Type 0
BeginsFirst list r = (rest : List Event) × (own_events leader list ≡ Begin LEADER r ∷ rest)

-- ---- a run whose leader followed its calls

-- the leader has begun each round that a caller with these answers called, as it was called, and otherwise has only taken messages; the other coordinators have only taken messages; and no further round is called for the whole list, which is a legal run
pub record HasFollowed (answers : Answers) (p : ProcessState) (calls : List Call) : Type 0 where
  pub node : p.node ≡ leader
  pub legal : Legal p.config (newest_first p.list)
  pub begun : HasBegunAll answers p calls
  pub acts : others_in (own_events p.node p.list) ≡ begins p.node (rounds calls)
  pub others : (c : ℕ) → c < p.config.coordinators → c ≢ LEADER → others_in (own_events (Coordinator c) p.list) ≡ []
  pub ended : answers p.config p.node calls p.list None

-- ---- the rounds that begin

-- each round that begins is one of two, at most once in an epoch, and the second of them only after a collision in the first; and in the last epoch none is left out
pub record BeginsInTurn (config : Counts) (list : List Record) : Type 0 where
  -- each is the leader's, in some epoch, and is the first round or the one that answers a collision
  pub each : (place c : ℕ) (r : Round) → IsBeginAt list place c r → ((e : ℕ) × BeginsAt config list place e r) × ((r ≡ FIRST_ROUND) ⊎ (r ≡ clash_round))
  -- no round begins twice in an epoch
  pub once : (i j e : ℕ) (r : Round) → BeginsAt config list i e r → BeginsAt config list j e r → i ≡ j
  -- the round that answers a collision begins only after two incompatible values of the first round of its epoch
  pub behind : (place e : ℕ) → BeginsAt config list place e clash_round → HasIncompatibleValues (e, FIRST_ROUND) (messages (newest_first (take place list)))
  -- the epoch and the round of the leader after the list
  pub last : ℕ
  pub own : Round
  pub stands : StandsIn config leader list last own
  -- in that epoch the first round has begun, and the one that answers a collision exactly if two values of the first round are incompatible
  pub first : IsBegun config list last FIRST_ROUND
  pub clash : IsBegun config list last clash_round ↔ HasIncompatibleValues (last, FIRST_ROUND) (messages (newest_first list))
