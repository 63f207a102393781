-- Jobs before and after a work phase.
use Rattle.std.specs.Prelude.{◌≡◌, ◌⊎◌, ℕ, zero, suc, ◌+◌, ◌-◌, ◌^◌, ◌<◌, ◌≤◌, Bool, true, false, List, [], ◌++◌, length, Option, Some, None, IfNone}
use Rattle.gp_msg.specs.declared.event.Event.{Event}
use Rattle.gp_msg.specs.declared.message.Msg.{Msg}
use Rattle.gp_msg.specs.declared.node.Node.{Node}
use Rattle.gp_msg.specs.Records.{messages_in}
use Rattle.gp_work.specs.declared.moves.Move.{Move}
use Rattle.gp_work.specs.declared.faults.JobFault.{JobFault}
use Rattle.gp_work.specs.declared.faults.JobFault.TheVariants.{NoMemory, Disk, Full, NotLog, Changed}
use Rattle.gp_work.specs.declared.faults.RiseFault.TheVariants as rise
use Rattle.gp_work.specs.declared.job.Job.{Job}
use Rattle.gp_edge.specs.Faults.{Rose, one_more}
use Rattle.gp_work.specs.Doing.{ProcessState, posted, have, HasRisen, RoseTwice, Goes, Posted}
use Rattle.gp_work.specs.Causes.{FaultCauses}
use Rattle.gp_work.specs.Moves.{One, Does, Takes, AllFit, HasOffer}
use Rattle.gp_work.specs.Batches.{IsBatch, AreRead}
use Rattle.gp_msg.specs.declared.message.MsgKind.{MsgKind}

-- a stretch of work: the node goes on, and if it has crashed now and had not before, its disk failed
pub record Stretch (p : ProcessState) (f : Bool) (q : ProcessState) (g : Bool) : Type 0 where
  pub goes : Goes p q
  pub stays : f ≡ true → g ≡ true
  pub turned : f ≡ false → g ≡ true → Rose p.faults q.faults

-- the count of steps after n more of them: each adds one, up to the last value
abbrev pub turn_after : ℕ → ℕ → ℕ
turn_after turn zero = turn
turn_after turn (suc n) = one_more (turn_after turn n)

-- one step was tried for each move, and one for each message from number a to below b that the node reads
pub record CountsSteps (n : Node) (ms : List Msg) (a b moves before now : ℕ) : Type 0 where
  pub ks : List ℕ
  pub read : AreRead n ms a b ks
  pub turn : now ≡ turn_after before (moves + length ks)

-- the cursor did not go back, nor past what the node has seen
pub record MovesOn (before now seen : ℕ) : Type 0 where
  pub forth : before ≤ now
  pub within : (now ≡ before) ⊎ (now ≤ seen)

-- why work ended early: whether the node had crashed before, whether it has crashed or tried to recover now, the number of faults before and now, and what faults mean at the node
abbrev pub Caused : Bool → Bool → ℕ → ℕ → FaultCauses → JobFault → Type 0
Caused f g before now causes NoMemory = Unit {0}
Caused f g before now causes Disk = (g ≡ true) × (RoseTwice before now ⊎ ((f ≡ true) × Rose before now))
Caused f g before now causes (Full size need) = (e : Event) × causes.too_great e size need
Caused f g before now causes (NotLog at) = (g ≡ true) × Rose before now × causes.not_risen (rise.NotLog at)
Caused f g before now causes (Changed found) = (g ≡ true) × Rose before now × causes.not_risen (rise.Changed found)

-- the work came to its end
pub record Done (p : ProcessState) (f : Bool) (first : List Move) (cursor : ℕ) (q : ProcessState) (g : Bool) (behind : ℕ) : Type 0 where
  pub mid : Bool
  pub made : List Event
  pub took : List Event
  pub ks : List ℕ
  pub posts : Posted p q (made ++ took)
  -- the moves of first, in their order
  pub moves : Does p.node (have p) (have q) first made f mid
  -- each message that the node reads, from its cursor before to below its cursor after
  pub takes : Takes p.node ks took mid g
  pub read : AreRead p.node (messages_in q.list) cursor behind ks
  pub risen : HasRisen p.turn q.turn
  pub forth : cursor ≤ behind
  pub none : have q ≤ behind
  pub within : (behind ≡ cursor) ⊎ (behind ≤ have q)
  pub up : q.up ≡ true

-- the work ended early
pub record Broken (p : ProcessState) (f : Bool) (first : List Move) (q : ProcessState) : Type 0 where
  pub mid : Bool
  pub last : Bool
  pub done : List Move
  pub undone : List Move
  pub split : first ≡ done ++ undone
  pub made : List Event
  pub took : List Event
  pub ks : List ℕ
  pub posts : Posted p q (made ++ took)
  pub moves : Does p.node (have p) (have q) done made f mid
  pub takes : Takes p.node ks took mid last
  -- no message was taken before the moves were made
  pub order : (ks ≡ []) ⊎ (undone ≡ [])

-- the work came to its end, or ended early with a fault
abbrev pub Ends : FaultCauses → ProcessState → Bool → List Move → ℕ → ProcessState → Bool → ℕ → Option JobFault → Type 0
Ends causes p f first cursor q g behind None = Done p f first cursor q g behind
Ends causes p f first cursor q g behind (Some fault) = Broken p f first q × Caused f g p.faults q.faults causes fault

-- one move was made, was left out, or was replaced by a crash
pub record MadeOne (p : ProcessState) (f : Bool) (m : Move) (q : ProcessState) (g : Bool) : Type 0 where
  pub es : List Event
  pub posts : Posted p q es
  pub one : One p.node (have q) m es f g
  pub up : q.up ≡ true

-- the same for all moves
pub record MadeAll (p : ProcessState) (f : Bool) (ms : List Move) (q : ProcessState) (g : Bool) : Type 0 where
  pub es : List Event
  pub posts : Posted p q es
  pub all : Does p.node (have p) (have q) ms es f g
  pub up : q.up ≡ true

-- the same for the first moves
pub record MadeSome (p : ProcessState) (f : Bool) (ms : List Move) (q : ProcessState) : Type 0 where
  pub done : List Move
  pub undone : List Move
  pub split : ms ≡ done ++ undone
  pub es : List Event
  pub mid : Bool
  pub posts : Posted p q es
  pub some : Does p.node (have p) (have q) done es f mid

-- each of these messages was taken, or was replaced by a crash
pub record TookAll (p : ProcessState) (f : Bool) (ks : List ℕ) (q : ProcessState) (g : Bool) : Type 0 where
  pub es : List Event
  pub posts : Posted p q es
  pub all : Takes p.node ks es f g
  pub up : q.up ≡ true

-- the same for some messages
pub record TookSome (p : ProcessState) (f : Bool) (q : ProcessState) : Type 0 where
  pub ks : List ℕ
  pub es : List Event
  pub mid : Bool
  pub posts : Posted p q es
  pub some : Takes p.node ks es f mid

-- why a node that went down did not recover, or did not try
abbrev pub NotRisen : Bool → ℕ → ℕ → FaultCauses → JobFault → Type 0
NotRisen f before now causes NoMemory = Unit {0}
NotRisen f before now causes Disk = (f ≡ true) ⊎ Rose before now
NotRisen f before now causes (Full size need) = ⊥
NotRisen f before now causes (NotLog at) = (f ≡ false) × causes.not_risen (rise.NotLog at)
NotRisen f before now causes (Changed found) = (f ≡ false) × causes.not_risen (rise.Changed found)

-- the messages from the cursor on were looked at, up to the end of the list
pub record Looked (p : ProcessState) (cursor : ℕ) (q : ProcessState) (kinds : List MsgKind) : Type 0 where
  pub batch : IsBatch (messages_in q.list) cursor kinds
  pub end : have q ≤ cursor + length kinds
  pub few : cursor + length kinds < 2 ^ 64
  pub risen : HasRisen p.turn q.turn

-- nothing of the job has changed except its cell, its count of steps, which did not decrease, and `risen`
abbrev pub IsSameJob : {P : Type 0} → Job P → Job P → Type 0
IsSameJob j k = (k.first ≡ j.first) × (k.cursor ≡ j.cursor) × (k.fault ≡ j.fault) × (j.turn ≤ k.turn)

-- the messages from the cursor on were taken, up to the end of the list
pub record TookStanding (p : ProcessState) (f : Bool) (cursor : ℕ) (q : ProcessState) (g : Bool) (behind : ℕ) : Type 0 where
  pub ks : List ℕ
  pub es : List Event
  pub posts : Posted p q es
  pub all : Takes p.node ks es f g
  pub read : AreRead p.node (messages_in q.list) cursor behind ks
  pub risen : HasRisen p.turn q.turn
  pub forth : cursor ≤ behind
  pub none : have q ≤ behind
  pub within : (behind ≡ cursor) ⊎ (behind ≤ have q)
  pub up : q.up ≡ true

-- the job can be done in a work phase over this net
pub record IsReady {N P : Type 0} (state : P → ProcessState) (is_of : P → N → Type 0) (net : N) (j : Job P) : Type 0 where
  pub fault : j.fault ≡ None
  pub own : is_of j.cell net
  pub up : (state j.cell).up ≡ true
  pub fits : AllFit (state j.cell).config (state j.cell).node j.first
  pub room : HasOffer j.first → posted (state j.cell) + length j.first ≤ 2 ^ 32 - 1

-- the job was done in a work phase
pub record HasWorked {N P : Type 0} (state : P → ProcessState) (is_of : P → N → Type 0) (causes : P → FaultCauses) (net : N) (j k : Job P) : Type 0 where
  pub own : is_of k.cell net
  pub first : k.first ≡ []
  pub cursor : MovesOn j.cursor k.cursor (have (state k.cell))
  pub turn : j.turn ≤ k.turn
  pub steps : IfNone k.fault (CountsSteps (state j.cell).node (messages_in (state k.cell).list) j.cursor k.cursor (length j.first) j.turn k.turn)
  pub stretch : Stretch (state j.cell) j.risen (state k.cell) k.risen
  pub ends : Ends (causes k.cell) (state j.cell) j.risen j.first j.cursor (state k.cell) k.risen k.cursor k.fault
