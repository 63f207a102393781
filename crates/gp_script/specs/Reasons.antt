-- Why the words of a line are refused.
use Rattle.std.specs.Prelude.{Bool, true, false, Result, Ok, Err}
use Rattle.gp_store.specs.declared.form.OpFault.{OpFault}
use Rattle.gp_store.specs.declared.form.OpFault.TheVariants as fault
use Rattle.gp_script.specs.declared.reason.Reason.{Reason}
use Rattle.gp_script.specs.declared.reason.Reason.TheVariants.{TooLong, NoNodesLine, BadLine, BadNumber, BadCount, BadKey, NoNode, BadFall, NoMessage, TooManyCommands, TooManyEvents, NoReport, WrongReport}

-- the reason of a line whose operation has this fault
abbrev pub fault_reason : OpFault → Reason
fault_reason fault.BadKey = BadKey
fault_reason fault.BadNumber = BadNumber

-- what an operation's words say, or why the line is refused
abbrev pub or_reason : {X : Type 0} → Result X OpFault → Result X Reason
or_reason (Ok x) = Ok x
or_reason (Err fault) = Err (fault_reason fault)

-- the reason is one of an audit alone, for the lines after a trace
abbrev pub is_of_report : Reason → Bool
is_of_report TooLong = false
is_of_report NoNodesLine = false
is_of_report BadLine = false
is_of_report BadNumber = false
is_of_report BadCount = false
is_of_report BadKey = false
is_of_report NoNode = false
is_of_report BadFall = false
is_of_report NoMessage = false
is_of_report TooManyCommands = false
is_of_report TooManyEvents = false
is_of_report NoReport = true
is_of_report WrongReport = true
