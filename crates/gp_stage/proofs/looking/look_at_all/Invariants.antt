use Rattle.std.proofs.Common.{◌≡◌, map, take}
use Rattle.gp_msg.specs.Messages.{message_of}
use Rattle.gp_msg.specs.Reads.{kind_of}
use Rattle.gp_run.specs.TopCount.{top_of_messages}
use Rattle.gp_msg.specs.Records.{messages_in}
use Rattle.gp_wire.specs.Known.{records}
use Rattle.gp_cell.specs.Cells.{IsSameBut}
use Rattle.gp_stage.specs.Gathered.{HasLooked}
use Rattle.gp_stage.proofs.looking.look_at_all.Given as goal

-- the messages up to here were looked at
abbrev pub invariant-loop-k : goal.invariant-loop-k
invariant-loop-k g l = IsSameBut l.fn.cell l.cell × HasLooked l.fn.cell.pass l.cell.pass × (l.kinds.items ≡ map kind_of (take l.k (messages_in (records l.cell.pass))))
    × (l.top ≡ top_of_messages (map message_of (take l.k (messages_in (records l.cell.pass)))))
