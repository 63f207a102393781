-- A run of the program as it is seen from outside.
use Rattle.std.specs.Prelude.{◌≡◌, ◌⊎◌, ℕ, List, Option, Some}
use Rattle.gp_edge.specs.Faults.{Rose}
use Rattle.gp_msg.specs.declared.record.Record.{Record}
use Rattle.gp_cluster.specs.declared.policy.RoundPolicy.{RoundPolicy}
use Rattle.gp_cli.specs.declared.subcommand.Subcommand.TheVariants.{Run}
use Rattle.gp_cli.specs.Subcommands.{named}
use Rattle.gp_cli.specs.Outside.{Outside}
use Rattle.gp_cli.specs.Run.{SomeFailed}
use Rattle.gp_cli.specs.Causes.{IsCause, device_at}
use Rattle.gp_cli.specs.Serving.{Ends}

-- its words, what was seen of the outside before and after, its status and its records, as `serve` says of them
pub record ProgramRun : Type 0 where
  pub words : List (List ℕ)
  pub before : Outside
  pub now : Outside
  pub status : ℕ
  pub trail : List Record
  pub ends : Ends (IsCause words) before now status trail

-- it ended with this status, or memory ran out
abbrev pub EndsWith : ℕ → ProgramRun → Type 0
EndsWith status run = (run.status ≡ status) ⊎ (run.status ≡ 1)

-- no fault of the source was counted
abbrev pub ReadsWell : ProgramRun → Type 0
ReadsWell run = ¬ Rose run.before.source.faults run.now.source.faults

-- no fault of the sink was counted
abbrev pub WritesWell : ProgramRun → Type 0
WritesWell run = ¬ Rose run.before.sink.faults run.now.sink.faults

-- no fault of disk K was counted
abbrev pub KeepsWell : ℕ → ProgramRun → Type 0
KeepsWell k run = ¬ Rose (device_at k run.before.disks).faults (device_at k run.now.disks).faults

-- no fault was counted anywhere
pub record NothingFails (run : ProgramRun) : Type 0 where
  pub reads : ReadsWell run
  pub writes : WritesWell run
  pub disks : ¬ SomeFailed run.before.disks run.now.disks

-- its words name a subcommand that runs nodes in threads
abbrev pub IsNodesRun : RoundPolicy → ℕ → Option (List ℕ) → ProgramRun → Type 0
IsNodesRun policy limit viewed run = named run.words ≡ Some (Run policy limit viewed)
