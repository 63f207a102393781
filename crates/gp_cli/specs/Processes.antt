-- What is known of a run over what a process gives.
use Rattle.std.specs.Prelude.{ℕ, List, Option, Result, is_ok}
use Rattle.std.specs.Global.{Vec}
use Rattle.gp_memory.specs.declared.memory.NoMemory.{NoMemory}
use Rattle.gp_cli.specs.declared.ran.Ran.{Ran}
use Rattle.gp_cli.specs.Outside.{DeviceState, Outside, disk_states}
use Rattle.gp_cli.specs.Causes.{RunsNodes}
use Rattle.gp_cli.specs.Logs.{KeepsLast}
use Rattle.gp_cli.specs.Serving.{Ends, IsInAgreementFor, EachDisk, KeepsUnused}
use Rattle.gp_cli.specs.Trails.{records_in, IsMadeFor}
use Rattle.gp_cli.specs.Program.{Arguments, subcommand_in, given_disks, IsProgramCause}

-- a source, a sink, and disks of any kind
abbrev pub outside_of : {D : Type 0} → (D → Option (List ℕ)) → (D → ℕ) → DeviceState → DeviceState → List D → Outside
outside_of content faults source sink disks = record { source = source; sink = sink; disks = disk_states content faults disks }

-- there are arguments, a source and a sink, and the program ran over them and these disks: its records are legal and in agreement, it ended with a cause, nodes alone posted the records of nodes, a crash leaves each disk what it may, and no other disk was changed
pub record IsProcessRun {D : Type 0} (content : D → Option (List ℕ)) (image : D → List ℕ → Type 0) (moment : D → ℕ) (since : D → ℕ → List ℕ → Type 0) (faults : D → ℕ) (disks : Result (Vec D) NoMemory) (ran : Ran D) : Type 0 where
  pub arguments : Arguments
  pub source : DeviceState
  pub sink : DeviceState
  pub source_now : DeviceState
  pub sink_now : DeviceState
  pub agreement : IsInAgreementFor (IsProgramCause arguments (is_ok disks)) (outside_of content faults source sink (given_disks disks)) (outside_of content faults source_now sink_now ran.disks.items) (records_in ran.trail)
  pub ends : Ends (IsProgramCause arguments (is_ok disks)) (outside_of content faults source sink (given_disks disks)) (outside_of content faults source_now sink_now ran.disks.items) ran.status (records_in ran.trail)
  pub posted : IsMadeFor (subcommand_in arguments) ran.status ran.trail
  pub crash : ¬ RunsNodes (subcommand_in arguments) → EachDisk (KeepsLast content image moment since) (given_disks disks) ran.disks.items
  pub others : KeepsUnused (subcommand_in arguments) (IsProgramCause arguments (is_ok disks) (outside_of content faults source sink (given_disks disks)) (outside_of content faults source_now sink_now ran.disks.items)) (given_disks disks) ran.disks.items
