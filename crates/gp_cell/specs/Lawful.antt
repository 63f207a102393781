-- Which record may follow a list, in a configuration.
use Rattle.std.specs.Prelude.{◌≡◌, true, List}
use Rattle.std.specs.Option.{option_to_list}
use Rattle.gp_round.specs.Counts.{Counts}
use Rattle.gp_msg.specs.declared.record.Record.{Record}
use Rattle.gp_msg.specs.Messages.{Entry, entry_of}
use Rattle.gp_run.specs.Messages.{messages}
use Rattle.gp_msg.specs.Nodes.{node_of}
use Rattle.gp_run.specs.Legal.{fits}
use Rattle.gp_run.specs.Runs.{newest_first}
use Rattle.gp_cell.specs.Cores.{acts, core_at}

-- the entry may come next: its event fits the entries before, and it has the message that its node sends at the event
pub record IsLawful (config : Counts) (es : List Entry) (e : Entry) : Type 0 where
  pub own_node : e.node ≡ node_of e.event
  pub event_fits : fits config es e.event ≡ true
  pub own_messages : e.sent ≡ option_to_list (acts e.node (core_at config e.node es) (messages es) e.event).1

-- the record is legal after these records
abbrev pub paxos_legal : Counts → List Record → Record → Type 0
paxos_legal config before x = IsLawful config (newest_first before) (entry_of x)
