-- Work phases, one after another.
use Rattle.std.specs.Prelude.{◌≡◌, ◌≤◌, ◌<◌, ℕ, ◌+◌, Bool, true, false, cond, nat_eq, List, [], ◌∷◌, ◌++◌, map, length, take, slice_get, slice_index_or, Option, None, Some, IfSome}
use Rattle.std.specs.Option.{option_to_list}
use Rattle.gp_round.specs.Counts.{Counts}
use Rattle.gp_round.specs.declared.round.Round.{Round}
use Rattle.gp_msg.specs.declared.node.Node.{Node}
use Rattle.gp_msg.specs.declared.event.Event.{Event}
use Rattle.gp_msg.specs.declared.record.Record.{Record}
use Rattle.gp_msg.specs.Records.{messages_in}
use Rattle.gp_edge.specs.Faults.{Rose}
use Rattle.gp_wire.specs.Own.{own_events}
use Rattle.gp_work.specs.declared.faults.JobFault.{JobFault}
use Rattle.gp_work.specs.declared.faults.JobFault.TheVariants.{NoMemory, Disk, Full, NotLog, Changed}
use Rattle.gp_work.specs.declared.faults.RiseFault.TheVariants as rise
use Rattle.gp_work.specs.declared.job.Job.{Job}
use Rattle.gp_work.specs.Causes.{FaultCauses}
use Rattle.gp_work.specs.Doing.{ProcessState, posted, Goes, Posted}
use Rattle.gp_work.specs.Moves.{event_of, AllFit}
use Rattle.gp_work.specs.declared.moves.Move.TheVariants as move
use Rattle.gp_phase.specs.declared.caller.Call.{Call}
use Rattle.gp_phase.specs.Deeds.{Tidy, others_in, begins, begin_moves}

-- the rounds of these calls
abbrev pub rounds : List Call → List Round
rounds calls = map (λ c. c.round) calls

-- the list at place `at`, and an empty list at every other place
abbrev pub only_at : {A : Type 0} → ℕ → ℕ → List A → List A
only_at at i xs = cond (nat_eq i at) xs []

-- a job that was j at first, and whose node has now begun these rounds
pub record Going {N P : Type 0} (state : P → ProcessState) (is_of : P → N → Type 0) (net : N) (rounds : List Round) (j k : Job P) : Type 0 where
  pub fault : k.fault ≡ None
  pub own : is_of k.cell net
  pub up : (state k.cell).up ≡ true
  pub goes : Goes (state j.cell) (state k.cell)
  pub stays : j.risen ≡ true → k.risen ≡ true
  -- its node has crashed only if its disk failed
  pub fallen : j.risen ≡ false → k.risen ≡ true → Rose (state j.cell).faults (state k.cell).faults
  pub tidy : k.risen ≡ false → Tidy (state k.cell) k.cursor (begins (state k.cell).node rounds)

-- why a job ended early: the number of faults of its disk before and now, and what faults mean at its node
abbrev pub FaultCause : ℕ → ℕ → FaultCauses → JobFault → Type 0
FaultCause before now causes NoMemory = Unit {0}
FaultCause before now causes Disk = Rose before now
FaultCause before now causes (Full size need) = (e : Event) × causes.too_great e size need
FaultCause before now causes (NotLog at) = Rose before now × causes.not_risen (rise.NotLog at)
FaultCause before now causes (Changed found) = Rose before now × causes.not_risen (rise.Changed found)

-- a job that was j at first, however the work phases ended
pub record Carried {N P : Type 0} (state : P → ProcessState) (is_of : P → N → Type 0) (causes : P → FaultCauses) (net : N) (j k : Job P) : Type 0 where
  pub own : is_of k.cell net
  pub goes : Goes (state j.cell) (state k.cell)
  pub cause : IfSome k.fault (FaultCause (state j.cell).faults (state k.cell).faults (causes k.cell))

-- what a caller may return: for a configuration, a node, the calls that it returned before, and the records that the node has seen
abbrev pub Answers : Type 1
Answers = Counts → Node → List Call → List Record → Option Call → Type 0

-- the call was made when the node had begun the rounds that were called before, and for what the node had then seen
pub record IsMeant (answers : Answers) (p : ProcessState) (before : List Call) (call : Call) : Type 0 where
  pub seen : List Record
  pub more : List Record
  pub split : p.list ≡ seen ++ more
  pub acts : others_in (own_events p.node seen) ≡ begins p.node (rounds before)
  pub may : answers p.config p.node before seen (Some call)

-- its next event was to begin the round
pub record HasBegun (answers : Answers) (p : ProcessState) (before : List Call) (call : Call) : Type 0 where
  pub meant : IsMeant answers p before call
  pub rest : List Event
  pub next : own_events p.node p.list ≡ own_events p.node meant.seen ++ event_of p.node (move.Begin call.round) ∷ rest

-- it is still to begin the round
pub record IsToBegin (answers : Answers) (p : ProcessState) (before : List Call) (call : Call) : Type 0 where
  pub meant : IsMeant answers p before call
  pub still : own_events p.node p.list ≡ own_events p.node meant.seen

-- the node has begun each round that was called
abbrev pub HasBegunAll : Answers → ProcessState → List Call → Type 0
HasBegunAll answers p called = (k : ℕ) (c : Call) → slice_get called k ≡ Some c → HasBegun answers p (take k called) c

-- unless its node has crashed, it has begun these rounds, and is to begin this one
pub record Follows {P : Type 0} (state : P → ProcessState) (answers : Answers) (j : Job P) (begun : List Call) (pending : Option Call) : Type 0 where
  pub all : j.risen ≡ false → HasBegunAll answers (state j.cell) begun
  pub next : j.risen ≡ false → IfSome pending (IsToBegin answers (state j.cell) begun)

-- jobs that can go on: the node of job `at` has begun the rounds that were called, except for the last one, which it may still have to begin
pub record AreReady {N P : Type 0} (state : P → ProcessState) (is_of : P → N → Type 0) (net : N) (answers : Answers) (at : ℕ) (called : List Call) (jobs : List (Job P)) : Type 0 where
  pub begun : List Call
  pub pending : Option Call
  pub all : called ≡ begun ++ option_to_list pending
  pub each : (i : ℕ) (d : Job P) → i < length jobs → Going state is_of net (only_at at i (rounds begun)) (slice_index_or jobs i d) (slice_index_or jobs i d)
  pub first : (i : ℕ) (d : Job P) → i < length jobs → (slice_index_or jobs i d).first ≡ only_at at i (begin_moves (rounds (option_to_list pending)))
  pub fits : (d : Job P) → let j = slice_index_or jobs at d in AllFit (state j.cell).config (state j.cell).node (begin_moves (rounds (option_to_list pending)))
  pub follows : (d : Job P) → Follows state answers (slice_index_or jobs at d) begun pending

-- a job of a node that is up and has posted nothing, with no moves
pub record IsNew {N P : Type 0} (state : P → ProcessState) (is_of : P → N → Type 0) (net : N) (j : Job P) : Type 0 where
  pub fault : j.fault ≡ None
  pub own : is_of j.cell net
  pub up : (state j.cell).up ≡ true
  pub nothing : own_events (state j.cell).node (state j.cell).list ≡ []
  pub first : j.first ≡ []
  pub cursor : j.cursor ≡ 0
  pub risen : j.risen ≡ false

-- a job of a node that is up, has posted nothing, and is to begin these rounds before all else
pub record IsToOpen {N P : Type 0} (state : P → ProcessState) (is_of : P → N → Type 0) (net : N) (rounds : List Round) (j : Job P) : Type 0 where
  pub fault : j.fault ≡ None
  pub own : is_of j.cell net
  pub up : (state j.cell).up ≡ true
  pub nothing : own_events (state j.cell).node (state j.cell).list ≡ []
  pub first : j.first ≡ begin_moves rounds
  pub cursor : j.cursor ≡ 0
  pub risen : j.risen ≡ false

-- the first call that a caller returned, or none, for what the node of a job has seen
pub record HasAnswered {P : Type 0} (state : P → ProcessState) (answers : Answers) (called : List Call) (j : Job P) : Type 0 where
  pub answer : Option Call
  pub called_is : called ≡ option_to_list answer
  pub may : answers (state j.cell).config (state j.cell).node [] (state j.cell).list answer

-- how many records all posted together, if the nodes without a job posted `others`
abbrev pub total : {P : Type 0} → (P → ProcessState) → ℕ → List (Job P) → ℕ
total state others [] = others
total state others (j ∷ js) = posted (state j.cell) + total state others js

-- a job at the end of the work phases: after the last one its node had seen as many records as all nodes posted, and had looked at all of their messages
pub record Finished {N P : Type 0} (state : P → ProcessState) (is_of : P → N → Type 0) (net : N) (rounds : List Round) (all : ℕ) (j k : Job P) : Type 0 where
  pub going : Going state is_of net rounds j k
  pub first : k.first ≡ []
  pub seen : List Record
  pub more : List Record
  pub split : (state k.cell).list ≡ seen ++ more
  pub whole : length seen ≡ all
  pub looked : length (messages_in seen) ≤ k.cursor

-- unless its node has crashed, what a job posted begins with the rounds that were its first moves: the node took no message before
abbrev pub Opens : {P : Type 0} → (P → ProcessState) → Job P → Job P → Type 0
Opens state j k = (rs : List Round) → j.first ≡ begin_moves rs → k.risen ≡ false → (rest : List Event) × Posted (state j.cell) (state k.cell) (begins (state j.cell).node rs ++ rest)

-- what a caller left for the next work phase
pub record Asked {P : Type 0} (state : P → ProcessState) (answers : List Call → List Record → Option Call → Type 0) (before after : List Call) (j k : Job P) (left : Bool) : Type 0 where
  pub answer : Option Call
  pub called : after ≡ before ++ option_to_list answer
  pub first : k.first ≡ begin_moves (rounds (option_to_list answer))
  pub fits : AllFit (state j.cell).config (state j.cell).node (begin_moves (rounds (option_to_list answer)))
  pub may : answers before (state k.cell).list answer
  pub none : left ≡ false → answer ≡ None
