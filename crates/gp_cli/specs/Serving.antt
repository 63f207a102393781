-- What a run of the program writes and returns.
use Rattle.std.specs.Prelude.{◌≡◌, ◌≢◌, ℕ, List, length, take, slice_get, Option, Some, None}
use Rattle.gp_round.specs.Counts.{Counts}
use Rattle.gp_msg.specs.declared.record.Record.{Record}
use Rattle.gp_msg.specs.Messages.{Entry}
use Rattle.gp_run.specs.Runs.{run_of, newest_first}
use Rattle.gp_edge.specs.Writes.{AppendsWhole}
use Rattle.gp_shelf.specs.Places.{IsOther}
use Rattle.gp_script.specs.declared.reason.Reason.{Reason}
use Rattle.gp_report.specs.Texts.{report}
use Rattle.gp_report.specs.Summaries.{summary}
use Rattle.gp_sim.specs.Driven.{driven}
use Rattle.gp_sim.specs.Simulated.{sim_config, simulated}
use Rattle.gp_text.specs.Reading.{Whole, Refused, Script, Sofar, run_before}
use Rattle.gp_text.specs.Limits.{IsLegalBeforeFor, IsLegalScriptFor}
use Rattle.gp_text.specs.Texts.{output_for}
use Rattle.gp_cli.specs.declared.runs.TheConstants.{MOST_READ}
use Rattle.gp_cli.specs.declared.subcommand.Operations.{Operations}
use Rattle.gp_cli.specs.declared.subcommand.Subcommand.{Subcommand}
use Rattle.gp_cli.specs.declared.subcommand.Subcommand.TheVariants.{Play, Run, Sim, Drive, Log, Upgrade, Audit}
use Rattle.gp_cli.specs.Subcommands.{named}
use Rattle.gp_cli.specs.Machines.{profile_of, reading_of, IsInAgreementOfAll}
use Rattle.gp_cli.specs.Outside.{DeviceState, Outside, Told}
use Rattle.gp_cli.specs.Endings.{Ending, Misused, Unread, Refuses, Plays, Drives, Simulates, Shows, DiskFails, Overflows, Breaks, Runs, Rejects, Upholds, Starved, run_to, config_of}
use Rattle.gp_cli.specs.Causes.{HasRead}
use Rattle.gp_cli.specs.Logs.{TellsEnding}
use Rattle.gp_cli.specs.Texts.{refusal_text}

-- ---- the two clauses of every run

-- the configuration is the one that is named, if one is
abbrev pub IsConfig : Option Counts → Counts → Type 0
IsConfig None config = Unit {0}
IsConfig (Some own) config = config ≡ own

-- the run ended in a way that has its cause, and its records are legal and in agreement for the configuration of the script or the subcommand, if there is one
pub record AgreesInItsConfig (Cause : Ending → Type 0) (trail : List Record) : Type 0 where
  pub ending : Ending
  pub cause : Cause ending
  pub config : Counts
  pub own_config : IsConfig (config_of ending) config
  pub agreement : IsInAgreementOfAll config (newest_first trail)

-- the records are those that the nodes posted, if nodes ran
abbrev pub IsListOf : Ending → List Record → Type 0
IsListOf Misused trail = Unit {0}
IsListOf Unread trail = Unit {0}
IsListOf (Refuses line reason before) trail = Unit {0}
IsListOf (Plays operations config said) trail = Unit {0}
IsListOf (Drives config commands) trail = Unit {0}
IsListOf (Simulates seed commands) trail = Unit {0}
IsListOf (Shows disk log) trail = Unit {0}
IsListOf DiskFails trail = Unit {0}
IsListOf (Overflows size need) trail = Unit {0}
IsListOf (Breaks place) trail = Unit {0}
IsListOf (Runs end config list text) trail = trail ≡ list
IsListOf (Rejects line reason before) trail = Unit {0}
IsListOf (Upholds config events text) trail = Unit {0}
IsListOf Starved trail = Unit {0}

-- the run ended in a way that has its cause: its records are the run of that ending, and the text of that ending was written to the sink, with its status
pub record EndsBy (Cause : Ending → Type 0) (before now : DeviceState) (status : ℕ) (trail : List Record) : Type 0 where
  pub ending : Ending
  pub cause : Cause ending
  pub run : newest_first trail ≡ run_to ending
  pub list : IsListOf ending trail
  pub config : Counts
  pub own_config : IsConfig (config_of ending) config
  pub agreement : IsInAgreementOfAll config (newest_first trail)
  pub told : TellsEnding ending before now status

-- the same, for a cause that depends on the outside before and now
abbrev pub Ends : (Outside → Outside → Ending → Type 0) → Outside → Outside → ℕ → List Record → Type 0
Ends Cause before now status trail = EndsBy (Cause before now) before.sink now.sink status trail

abbrev pub IsInAgreementFor : (Outside → Outside → Ending → Type 0) → Outside → Outside → List Record → Type 0
IsInAgreementFor Cause before now trail = AgreesInItsConfig (Cause before now) trail

-- this holds of each disk before and now
abbrev pub EachDisk : {D : Type 0} → (D → D → Type 0) → List D → List D → Type 0
EachDisk {D} P before now = (i : ℕ) (was is : D) → slice_get before i ≡ Some was → slice_get now i ≡ Some is → P was is

-- ---- disks

-- the subcommand does not use the disk at this place: `log` and `upgrade` use their own one, `run`, `adapt` and `views` those of the nodes of the script's configuration, and the others none
abbrev pub IsUnused : Option Subcommand → Option Counts → ℕ → Type 0
IsUnused None config i = Unit {0}
IsUnused (Some (Play operations)) config i = Unit {0}
IsUnused (Some (Run policy limit viewed)) None i = Unit {0}
IsUnused (Some (Run policy limit viewed)) (Some config) i = IsOther config i
IsUnused (Some (Sim seed commands)) config i = Unit {0}
IsUnused (Some (Drive acceptors learners commands)) config i = Unit {0}
IsUnused (Some (Log k)) config i = i ≢ k
IsUnused (Some (Upgrade k)) config i = i ≢ k
IsUnused (Some Audit) config i = Unit {0}

-- the run ended in a way that has its cause, and each disk that it does not use is as before
pub record KeepsUnused {D : Type 0} (sub : Option Subcommand) (Cause : Ending → Type 0) (old new : List D) : Type 0 where
  pub ending : Ending
  pub cause : Cause ending
  pub count : length new ≡ length old
  pub unused : (i : ℕ) → IsUnused sub (config_of ending) i → slice_get new i ≡ slice_get old i

-- ---- what statuses say

-- the source reveals its bytes, and up to one more than a script may have they are a script of the machine that is read whole
abbrev pub HoldsScript : Operations → DeviceState → Type 0
HoldsScript operations source = (rest : List ℕ) × (config : Counts) × (said : Sofar) × (source.bytes ≡ Some rest) × (reading_of operations (take MOST_READ rest) ≡ Whole config said)

-- the source reveals its bytes, and up to one more than a script may have a line of them is refused
abbrev pub HoldsBadLine : Operations → DeviceState → Type 0
HoldsBadLine operations source = (rest : List ℕ) × (line : ℕ) × (reason : Reason) × (said : Option Script) × (source.bytes ≡ Some rest) × (reading_of operations (take MOST_READ rest) ≡ Refused line reason said)

-- a script of the machine was read to its end, what it says is legal and in agreement, the trail is the run of its events, and all that it prints was written without a fault
pub record PlaysWhole (operations : Operations) (before now : Outside) (trail : List Record) : Type 0 where
  pub config : Counts
  pub said : Sofar
  pub read : HasRead operations before.source now.source (Whole config said)
  pub legal : IsLegalScriptFor (profile_of operations) config said.events
  pub run : newest_first trail ≡ run_of config said.events
  pub steady : now.sink.faults ≡ before.sink.faults
  pub written : AppendsWhole before.sink.bytes now.sink.bytes (output_for (profile_of operations) config said)

-- the words ask to play a script, a line of which is refused; what was said before it is legal and in agreement, the trail is its run, and the line and the reason were printed
pub record StopsAtLine (words : List (List ℕ)) (before now : Outside) (status : ℕ) (trail : List Record) : Type 0 where
  pub operations : Operations
  pub is_play : named words ≡ Some (Play operations)
  pub line : ℕ
  pub reason : Reason
  pub said : Option Script
  pub read : HasRead operations before.source now.source (Refused line reason said)
  pub legal : IsLegalBeforeFor (profile_of operations) said
  pub run : newest_first trail ≡ run_before said
  pub told : Told before.sink now.sink (refusal_text line reason) 3 3 status

-- the trail is this run, which is legal and in agreement, and this text was written in full without a fault
pub record Prints (config : Counts) (meant : List Entry) (text : List ℕ) (before now : Outside) (trail : List Record) : Type 0 where
  pub agreement : IsInAgreementOfAll config meant
  pub run : newest_first trail ≡ meant
  pub steady : now.sink.faults ≡ before.sink.faults
  pub written : AppendsWhole before.sink.bytes now.sink.bytes text

-- the trail is the driven run, and its report was written
abbrev pub PrintsDriven : Counts → ℕ → Outside → Outside → List Record → Type 0
PrintsDriven config commands = Prints config (driven config commands) (report config (driven config commands))

-- the trail is the settled run of a seed, and its summary was written
abbrev pub PrintsSimulated : ℕ → ℕ → Outside → Outside → List Record → Type 0
PrintsSimulated seed commands = Prints sim_config (simulated seed commands) (summary seed commands sim_config (simulated seed commands))
