-- What a crash leaves of a core, and what it keeps of a move.
use Rattle.std.specs.Prelude.{◌≡◌, ◌≢◌, ◌⊎◌, List, [], ◌++◌, Option, Some, None}
use Rattle.gp_round.specs.Counts.{Counts}
use Rattle.gp_msg.specs.declared.node.Node.{Node}
use Rattle.gp_msg.specs.declared.event.Event.TheVariants.{Fall}
use Rattle.gp_msg.specs.declared.event.Kept.{Kept}
use Rattle.gp_msg.specs.declared.event.Kept.TheVariants as kept
use Rattle.gp_msg.specs.declared.record.Record.{Record}
use Rattle.gp_msg.specs.Messages.{Stamped, EpochPart, entry_of}
use Rattle.gp_coordinator.specs.Epochs as coordinator
use Rattle.gp_acceptor.specs.Epochs as acceptor
use Rattle.gp_run.specs.Messages.{messages}
use Rattle.gp_run.specs.Runs.{newest_first}
use Rattle.gp_wire.specs.Known.{records}
use Rattle.gp_work.specs.declared.moves.Move.{Move}
use Rattle.gp_work.specs.declared.moves.Move.TheVariants.{Offer, Begin, Take}
use Rattle.gp_work.specs.Moves.{event_of}
use Rattle.gp_cell.specs.declared.roles.Core.{Core}
use Rattle.gp_cell.specs.declared.roles.Core.TheVariants.{Proposer, Coordinator, Acceptor, Learner}
use Rattle.gp_cell.specs.Cores.{opening, acts, part_in}
use Rattle.gp_cell.specs.Lawful.{IsLawful}
use Rattle.gp_cell.specs.Cells.{CellState, Keeps, PostsOne}

-- the core after a crash that leaves this durable part
abbrev pub fell : Core → EpochPart → Core
fell (Proposer s) p = Proposer s
fell (Coordinator s) p = Coordinator (coordinator.fall s p)
fell (Acceptor s) p = Acceptor (acceptor.fall s p)
fell (Learner s) p = Learner s

-- the move, as a crash keeps it
abbrev pub kept_of : Move → Option Kept
kept_of (Offer d) = None
kept_of (Begin r) = Some (kept.Begin r)
kept_of (Take k) = Some (kept.Take k)

-- what a crash that leaves this part keeps: nothing if the part is that of the core, and the move if only the next core has it
abbrev pub KeepsMove : Core → Core → Move → EpochPart → Option Kept → Type 0
KeepsMove core next mv part what = ((what ≡ None) × (part_in core ≡ Some part)) ⊎ ((what ≡ kept_of mv) × (part_in next ≡ Some part) × (part_in core ≢ Some part))

-- neither core has this part
abbrev pub FitsNone : Core → Core → EpochPart → Type 0
FitsNone core next part = (part_in core ≢ Some part) × (part_in next ≢ Some part)

-- what holds of a crash at a node that has seen these records and went down in this move: its record may be posted, and it leaves this part, even if more messages were sent by then
pub record IsFallAt (config : Counts) (node : Node) (core : Core) (seen : List Record) (mv : Move) (part : EpochPart) (what : Option Kept) : Type 0 where
  pub keeps : (more : List Stamped) → KeepsMove core (acts node core (messages (newest_first seen) ++ more) (event_of node mv)).0 mv part what
  pub lawful : (x : Record) → x.node ≡ node → x.event ≡ Fall node what → x.out ≡ [] → IsLawful config (newest_first seen) (entry_of x)
  pub next : (more : List Stamped) → fell core part ≡ (acts node core (messages (newest_first seen) ++ more) (Fall node what)).0
  pub after : part_in (fell core part) ≡ Some part

abbrev pub IsFall : {D : Type 0} → CellState D → Move → EpochPart → Option Kept → Type 0
IsFall c mv part what = IsFallAt c.config c.node c.core (records c.pass) mv part what

-- the record of a crash that may be posted, and the core after it, whose durable part the log has
pub record IsRevival {D : Type 0} (c : CellState D) (mv : Move) (x : Record) (next : Core) : Type 0 where
  pub node_is : x.node ≡ c.node
  pub what : Option Kept
  pub part : EpochPart
  pub event_is : x.event ≡ Fall c.node what
  pub lawful : IsLawful c.config (newest_first (records c.pass)) (entry_of x)
  pub next_is : (more : List Stamped) → next ≡ (acts c.node c.core (messages (newest_first (records c.pass)) ++ more) x.event).0
  pub keeps : (more : List Stamped) → KeepsMove c.core (acts c.node c.core (messages (newest_first (records c.pass)) ++ more) (event_of c.node mv)).0 mv part what
  pub after : part_in next ≡ Some part
  pub kept : Keeps (part_in (opening c.config c.node)) (part_in next) c.log

-- the node has one more record than before, of a crash: it keeps the move in which the node went down exactly if only the part after the move is the one that the log has, which is that of the core now
pub record Rises {D : Type 0} (old new : CellState D) : Type 0 where
  pub mv : Move
  pub went : old.down ≡ Some mv
  pub what : Option Kept
  pub part : EpochPart
  pub posts : PostsOne old.config old.node (records old.pass) (records new.pass) (Fall old.node what)
  pub keeps : KeepsMove old.core (acts old.node old.core (messages (newest_first posts.ahead)) (event_of old.node mv)).0 mv part what
  pub found : Keeps (part_in (opening old.config old.node)) (Some part) new.log
  pub after : part_in new.core ≡ Some part
