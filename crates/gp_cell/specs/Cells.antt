-- What contracts see of a cell, and its invariant.
use Rattle.std.specs.Prelude.{◌≡◌, ℕ, true, false, List, [], ◌∷◌, ◌++◌, map, length, Option, Some, None}
use Rattle.std.specs.Option.{option_to_list}
use Rattle.gp_round.specs.Counts.{Counts}
use Rattle.gp_msg.specs.declared.node.Node.{Node}
use Rattle.gp_msg.specs.declared.node.Node.TheVariants as node
use Rattle.gp_msg.specs.declared.record.Record.{Record}
use Rattle.gp_msg.specs.declared.durable.Durable.{Durable}
use Rattle.gp_msg.specs.declared.event.Event.{Event}
use Rattle.gp_msg.specs.Messages.{Stamped, message_of, EpochPart, part_of, entry_of}
use Rattle.gp_run.specs.Messages.{messages}
use Rattle.gp_msg.specs.Nodes.{is_present}
use Rattle.gp_run.specs.Runs.{newest_first}
use Rattle.gp_vlog.specs.Logs.{LogState, last}
use Rattle.gp_wire.specs.Lists.{Has}
use Rattle.gp_wire.specs.Known.{PassState, records}
use Rattle.gp_work.specs.declared.moves.Move.{Move}
use Rattle.gp_wire.specs.Own.{own}
use Rattle.gp_work.specs.Moves.{event_of, Fits}
use Rattle.gp_cell.specs.declared.roles.Core.{Core}
use Rattle.gp_cell.specs.declared.planning.Plan.{Plan}
use Rattle.gp_cell.specs.Cores.{opening, acts, core_at, part_in}
use Rattle.gp_cell.specs.Lawful.{IsLawful}
use Rattle.gp_cell.specs.Plans.{HasRole, planned, named, IsNamed}

-- its configuration and node, its core, its log, its pass, and the move in which it went down
pub record CellState (D : Type 0) : Type 0 where
  pub config : Counts
  pub node : Node
  pub core : Core
  pub log : Option (LogState D)
  pub pass : PassState
  pub down : Option Move

abbrev pub cell_of : {D : Type 0} → Counts → Node → Core → Option (LogState D) → PassState → Option Move → CellState D
cell_of config_ node_ core_ log_ pass_ down_ = record { config = config_; node = node_; core = core_; log = log_; pass = pass_; down = down_ }

-- the part of the last entry, or another part if there is no entry
abbrev pub last_or : EpochPart → List Durable → EpochPart
last_or first [] = first
last_or first (d ∷ ds) = last_or (part_of d) ds

-- the log may be appended to: it is ready, and no entry of it is of version 1
abbrev pub IsFit : {D : Type 0} → LogState D → Type 0
IsFit log = (log.ready ≡ true) × (log.is_old ≡ false)

-- there is a log exactly if the node has a durable part. It is fit, and the part of its last entry, or the first part if there is no entry, is this part
abbrev pub Keeps : {D : Type 0} → Option EpochPart → Option EpochPart → Option (LogState D) → Type 0
Keeps None None None = Unit {0}
Keeps (Some first) (Some part) (Some log) = IsFit log × (last_or first log.entries ≡ part)
Keeps _ _ _ = ⊥

-- there is a log exactly if the node has a durable part, and it is then ready and without entries
abbrev pub IsFreshLog : {D : Type 0} → Option EpochPart → Option (LogState D) → Type 0
IsFreshLog None None = Unit {0}
IsFreshLog (Some part) (Some log) = (log.ready ≡ true) × (log.entries ≡ [])
IsFreshLog _ _ = ⊥

-- there is a log, and it is fit
abbrev pub IsFitLog : {D : Type 0} → Option (LogState D) → Type 0
IsFitLog None = ⊥
IsFitLog (Some log) = IsFit log

-- there is a log
abbrev pub HasLog : {D : Type 0} → Option (LogState D) → Type 0
HasLog None = ⊥
HasLog (Some log) = Unit {0}

-- both have a durable part, or neither
abbrev pub SameKind : Option EpochPart → Option EpochPart → Type 0
SameKind None None = Unit {0}
SameKind (Some a) (Some b) = Unit {0}
SameKind _ _ = ⊥

-- the node is one with a log
abbrev pub IsLogged : Node → Type 0
IsLogged (node.Proposer p) = ⊥
IsLogged (node.Coordinator c) = Unit {0}
IsLogged (node.Acceptor a) = Unit {0}
IsLogged (node.Learner l) = ⊥

-- a node with a log may have gone down in this move, after these messages were sent
pub record WentDown {D : Type 0} (config : Counts) (node : Node) (log : Option (LogState D)) (ms : List Stamped) (mv : Move) : Type 0 where
  pub logged : IsLogged node
  pub there : HasLog log
  pub fits : Fits config node mv
  pub stands : IsNamed mv (named ms mv)

-- each record of the node was lawful after the records before it
abbrev pub OwnLawful : Counts → Node → List Record → Type 0
OwnLawful config n rs = (ahead : List Record) (x : Record) (rest : List Record) → rs ≡ ahead ++ x ∷ rest → x.node ≡ n → IsLawful config (newest_first ahead) (entry_of x)

-- the core is the one that the node's own records make, each of which was lawful, and while the node is up its log keeps the durable part of the core
pub record IsSound {D : Type 0} (config : Counts) (node : Node) (core : Core) (log : Option (LogState D)) (pass : PassState) (posted : ℕ) (down : Option Move) : Type 0 where
  pub node_is : pass.node ≡ node
  pub present : is_present config node ≡ true
  pub core_is : core ≡ core_at config node (newest_first (records pass))
  pub posted_is : posted ≡ length (own node (records pass))
  pub lawful : OwnLawful config node (records pass)
  pub log_is : down ≡ None → Keeps (part_in (opening config node)) (part_in core) log
  pub down_is : (mv : Move) → down ≡ Some mv → WentDown config node log (messages (newest_first (records pass))) mv

-- the node has one more record than before, of this event, which was legal after the records before it: the earlier ones, and perhaps more, of other nodes
pub record PostsOne (config : Counts) (node : Node) (before after : List Record) (event : Event) : Type 0 where
  pub more : List Record
  pub ahead : List Record
  pub item : Record
  pub begins : ahead ≡ before ++ more
  pub grown : after ≡ ahead ++ item ∷ []
  pub one : own node after ≡ own node before ++ item ∷ []
  pub event_is : item.event ≡ event
  pub lawful : IsLawful config (newest_first ahead) (entry_of item)

-- nothing of the cell except its pass has changed
abbrev pub IsSameBut : {D : Type 0} → CellState D → CellState D → Type 0
IsSameBut a b = (b.config ≡ a.config) × (b.node ≡ a.node) × (b.core ≡ a.core) × (b.log ≡ a.log) × (b.down ≡ a.down)

-- the plan is what the move makes of the core, after these messages were sent
pub record IsPlan (node : Node) (core : Core) (ms : List Stamped) (mv : Move) (p : Plan) : Type 0 where
  pub next : p.next ≡ (planned core mv (named ms mv)).0
  pub sent : map message_of p.made.out ≡ option_to_list (planned core mv (named ms mv)).1
  pub node_is : p.made.node ≡ node
  pub event_is : p.made.event ≡ event_of node mv
  pub stands : IsNamed mv (named ms mv)

-- a pass holds the node, and its list has exactly the records of the node that the list of the node's own pass has
abbrev pub IsHeldBy : Node → PassState → PassState → Type 0
IsHeldBy n mine p = Has n p.holds × (own n (records p) ≡ own n (records mine))

abbrev pub pass_of : {D : Type 0} → CellState D → PassState
pass_of c = c.pass

abbrev pub log_of : {D : Type 0} → CellState D → Option (LogState D)
log_of c = c.log

-- the last entry of a log, if there is one
abbrev pub last_entry : {D : Type 0} → Option (LogState D) → Option Durable
last_entry None = None
last_entry (Some log) = last log.entries

-- the next core of a cell that posts this event, even if more messages were sent by then
abbrev pub IsCoreAfter : {D : Type 0} → CellState D → Event → Core → Type 0
IsCoreAfter c event next = (more : List Stamped) → next ≡ (acts c.node c.core (messages (newest_first (records c.pass)) ++ more) event).0

-- what holds of a plan at a node that has seen these records: its record may be posted, and its next core is what the event of the record makes of the core, even if more messages were sent by then
pub record IsThoughtAt (config : Counts) (node : Node) (core : Core) (seen : List Record) (mv : Move) (p : Plan) : Type 0 where
  pub plan : IsPlan node core (messages (newest_first seen)) mv p
  pub lawful : IsLawful config (newest_first seen) (entry_of p.made)
  pub next : (more : List Stamped) → p.next ≡ (acts node core (messages (newest_first seen) ++ more) p.made.event).0
  pub role : HasRole node p.next

abbrev pub IsThought : {D : Type 0} → CellState D → Move → Plan → Type 0
IsThought c mv p = IsThoughtAt c.config c.node c.core (records c.pass) mv p
