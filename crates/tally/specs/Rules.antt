-- What commands do to the tally, and what it replies.
use Rattle.std.specs.Prelude.{◌+◌, ◌%◌, ◌^◌, Option, Some, None}
use Rattle.gp_command.specs.declared.command.Command.{Command}
use Rattle.gp_command.specs.declared.touch.Access.{Access}
use Rattle.gp_command.specs.declared.touch.Access.TheVariants.{Read, Add, Write}
use Rattle.gp_replica.specs.declared.reply.Reply.{Reply}
use Rattle.gp_replica.specs.declared.reply.Reply.TheVariants.{Done, Absent, Value}
use Rattle.gp_replica.specs.Machines.{Rules}
use Rattle.tally.specs.declared.tally.Tally.{Tally}
use Rattle.tally.specs.Uses.{use_in}

-- the tally after a use
abbrev pub after_use : Tally → Option Access → Tally
after_use tally None = tally
after_use tally (Some Read) = tally
after_use tally (Some Add) = record { count = (tally.count + 1) % 2 ^ 64 }
after_use tally (Some Write) = record { count = 0 }

-- the reply to a use
abbrev pub reply_to_use : Tally → Option Access → Reply
reply_to_use tally None = Absent
reply_to_use tally (Some Read) = Value tally.count
reply_to_use tally (Some Add) = Done
reply_to_use tally (Some Write) = Done

abbrev pub after_command : Tally → Command → Tally
after_command tally command = after_use tally (use_in command.draft.foot)

abbrev pub reply_to_command : Tally → Command → Reply
reply_to_command tally command = reply_to_use tally (use_in command.draft.foot)

-- the tally as a machine, which is 0 at first
abbrev pub tally_rules : Rules Tally
tally_rules = record { opening = record { count = 0 }; after = after_command; reply = reply_to_command }
