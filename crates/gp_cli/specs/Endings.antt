-- How a run of the program ends: its run, its text and its status.
use Rattle.std.specs.Prelude.{ℕ, zero, suc, List, [], Option, Some, None}
use Rattle.gp_round.specs.Counts.{Counts}
use Rattle.gp_msg.specs.declared.event.Event.{Event}
use Rattle.gp_msg.specs.declared.record.Record.{Record}
use Rattle.gp_msg.specs.Messages.{Entry, EpochPart}
use Rattle.gp_run.specs.Runs.{run_of, newest_first}
use Rattle.gp_ending.specs.declared.ends.RunEnd.{RunEnd}
use Rattle.gp_ending.specs.declared.ends.RunEnd.TheVariants.{Learned, NoMemory, Disk, Full, NotLog, Changed}
use Rattle.gp_retelling.specs.Texts.{run_text}
use Rattle.gp_script.specs.declared.reason.Reason.{Reason}
use Rattle.gp_report.specs.Texts.{report}
use Rattle.gp_report.specs.Summaries.{summary}
use Rattle.gp_sim.specs.Driven.{driven}
use Rattle.gp_sim.specs.Simulated.{sim_config, simulated}
use Rattle.gp_text.specs.Reading.{Script, Sofar, run_before}
use Rattle.gp_text.specs.Texts.{output_for}
use Rattle.gp_text.specs.Logs.{log_text}
use Rattle.gp_cli.specs.declared.subcommand.Operations.{Operations}
use Rattle.gp_cli.specs.Machines.{profile_of}
use Rattle.gp_cli.specs.Texts.{usage, read_fault, disk_fault, log_changed, full_text, broken_text, refusal_text}

-- the durable parts that a log holds, the oldest first, and its size
pub record Shown : Type 0 where
  pub parts : List EpochPart
  pub size : ℕ

-- the words name no subcommand; the source failed; a line of the script is refused, and this is what the lines before it said; the script of a machine was played; commands were driven; the workload of a seed was settled; the log of a disk is shown; the disk failed; the renewed log, of this size, would need too much; the bytes of the disk are not a log, at this place; nodes ran in threads until this end, posted these records, and this text is printed; an audit refuses a line of its input, and this is what the lines before it said; an audit upholds its input, a run of these events, with these certificates; memory ran out before any of these was known
pub data Ending : Type 0 where
  Misused : Ending
  Unread : Ending
  Refuses : ℕ → Reason → Option Script → Ending
  Plays : Operations → Counts → Sofar → Ending
  Drives : Counts → ℕ → Ending
  Simulates : ℕ → ℕ → Ending
  Shows : ℕ → Shown → Ending
  DiskFails : Ending
  Overflows : ℕ → ℕ → Ending
  Breaks : ℕ → Ending
  Runs : RunEnd → Counts → List Record → List ℕ → Ending
  Rejects : ℕ → Reason → Option Script → Ending
  Upholds : Counts → List Event → List ℕ → Ending
  Starved : Ending

-- the status of a run of nodes that ended in this way, if its text was written
abbrev pub run_status : RunEnd → ℕ
run_status Learned = 0
run_status NoMemory = 1
run_status Disk = 6
run_status (Full size need) = 7
run_status (NotLog at) = 8
run_status Changed = 8

-- its status if its text was written
abbrev pub status_of : Ending → ℕ
status_of Misused = 2
status_of Unread = 4
status_of (Refuses line reason before) = 3
status_of (Plays operations config said) = 0
status_of (Drives config commands) = 0
status_of (Simulates seed commands) = 0
status_of (Shows disk log) = 0
status_of DiskFails = 6
status_of (Overflows size need) = 7
status_of (Breaks place) = 8
status_of (Runs end config list text) = run_status end
status_of (Rejects line reason before) = 3
status_of (Upholds config events text) = 0
status_of Starved = 1

-- if the sink failed, a run that would have ended with status 0 ends with 5, and any other run ends as it would have ended
abbrev pub status_at_fault : ℕ → ℕ
status_at_fault zero = 5
status_at_fault (suc n) = suc n

-- what is printed of a run of nodes that ended in this way
abbrev pub end_text : RunEnd → Counts → List Record → List ℕ
end_text Learned config list = run_text config list
end_text NoMemory config list = []
end_text Disk config list = disk_fault
end_text (Full size need) config list = full_text size need
end_text (NotLog at) config list = broken_text at
end_text Changed config list = log_changed

-- what it prints
abbrev pub ending_text : Ending → List ℕ
ending_text Misused = usage
ending_text Unread = read_fault
ending_text (Refuses line reason before) = refusal_text line reason
ending_text (Plays operations config said) = output_for (profile_of operations) config said
ending_text (Drives config commands) = report config (driven config commands)
ending_text (Simulates seed commands) = summary seed commands sim_config (simulated seed commands)
ending_text (Shows disk log) = log_text disk log.parts log.size
ending_text DiskFails = disk_fault
ending_text (Overflows size need) = full_text size need
ending_text (Breaks place) = broken_text place
ending_text (Runs end config list text) = text
ending_text (Rejects line reason before) = refusal_text line reason
ending_text (Upholds config events text) = text
ending_text Starved = []

-- the run that it leads to, the newest entry first
abbrev pub run_to : Ending → List Entry
run_to Misused = []
run_to Unread = []
run_to (Refuses line reason before) = run_before before
run_to (Plays operations config said) = run_of config said.events
run_to (Drives config commands) = driven config commands
run_to (Simulates seed commands) = simulated seed commands
run_to (Shows disk log) = []
run_to DiskFails = []
run_to (Overflows size need) = []
run_to (Breaks place) = []
run_to (Runs end config list text) = newest_first list
run_to (Rejects line reason before) = run_before before
run_to (Upholds config events text) = run_of config events
run_to Starved = []

-- the configuration of what was said, if anything was
abbrev pub config_in : Option Script → Option Counts
config_in None = None
config_in (Some script) = Some script.config

-- the configuration of the script or of the subcommand, if there is one
abbrev pub config_of : Ending → Option Counts
config_of Misused = None
config_of Unread = None
config_of (Refuses line reason before) = config_in before
config_of (Plays operations config said) = Some config
config_of (Drives config commands) = Some config
config_of (Simulates seed commands) = Some sim_config
config_of (Shows disk log) = None
config_of DiskFails = None
config_of (Overflows size need) = None
config_of (Breaks place) = None
config_of (Runs end config list text) = Some config
config_of (Rejects line reason before) = config_in before
config_of (Upholds config events text) = Some config
config_of Starved = None
