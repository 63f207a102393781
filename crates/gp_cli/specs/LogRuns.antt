-- What the statuses say of runs that show the log of a disk.
use Rattle.std.specs.Prelude.{◌≡◌, ℕ, List, Some, Ok, Err}
use Rattle.gp_edge.specs.Disks.{IfRevealed}
use Rattle.gp_edge.specs.Writes.{AppendsWhole}
use Rattle.gp_text.specs.Logs.{log_text}
use Rattle.gp_vlog.specs.Files.{Contents, is_limit, read_log}
use Rattle.gp_cli.specs.declared.subcommand.Subcommand.TheVariants.{Upgrade}
use Rattle.gp_cli.specs.Subcommands.{named}
use Rattle.gp_cli.specs.Texts.{full_text, broken_text}
use Rattle.gp_cli.specs.Outside.{Outside, Told}
use Rattle.gp_cli.specs.Endings.{Shown}
use Rattle.gp_cli.specs.Causes.{shown, IfLog, IsTakenOn, HasNoRoom, device_at, disk_used, HasRoomForLast}

-- a disk reveals its bytes, and they are a log
abbrev pub HoldsLog : ℕ → Outside → Type 0
HoldsLog k before = (s : List ℕ) × (log : Contents) × ((device_at k before.disks).bytes ≡ Some s) × (read_log is_limit s ≡ Ok log)

-- the same, and a log with entries of version 1 has room for its last one, whole
abbrev pub HoldsRoomyLog : ℕ → Outside → Type 0
HoldsRoomyLog k before = (s : List ℕ) × (log : Contents) × ((device_at k before.disks).bytes ≡ Some s) × (read_log is_limit s ≡ Ok log) × HasRoomForLast log

-- a disk reveals its bytes, and they are a log with entries of version 1 that has no room for its last one, whole
abbrev pub HoldsFullLog : ℕ → Outside → Type 0
HoldsFullLog k before = (s : List ℕ) × (log : Contents) × (size : ℕ) × (need : ℕ) × ((device_at k before.disks).bytes ≡ Some s) × (read_log is_limit s ≡ Ok log) × HasNoRoom size need log.limit log.entries

-- a disk reveals its bytes, and they are not a log
abbrev pub HoldsNoLog : ℕ → Outside → Type 0
HoldsNoLog k before = (s : List ℕ) × (place : ℕ) × ((device_at k before.disks).bytes ≡ Some s) × (read_log is_limit s ≡ Err place)

-- what was printed is what the log of a disk shows; nothing changed on it, and nothing failed
pub record ShowsLog (k : ℕ) (before now : Outside) : Type 0 where
  pub log : Shown
  pub same : device_at k now.disks ≡ device_at k before.disks
  pub shows : IfLog (device_at k before.disks).bytes (λ found. log ≡ shown found)
  pub steady : now.sink.faults ≡ before.sink.faults
  pub written : AppendsWhole before.sink.bytes now.sink.bytes (log_text k log.parts log.size)

-- the log of a disk was renewed if it had an entry of version 1, and what was printed is what it then shows; nothing failed
pub record ShowsTakenOn (k : ℕ) (before now : Outside) : Type 0 where
  pub log : Shown
  pub steady_disk : (device_at k now.disks).faults ≡ (device_at k before.disks).faults
  pub shows : IfLog (device_at k before.disks).bytes (λ was. HasRoomForLast was × IfLog (device_at k now.disks).bytes (λ found. IsTakenOn was found × (log ≡ shown found)))
  pub steady : now.sink.faults ≡ before.sink.faults
  pub written : AppendsWhole before.sink.bytes now.sink.bytes (log_text k log.parts log.size)

-- `upgrade` found no room, and this was printed; nothing changed on the disk
pub record HasNoSpace (words : List (List ℕ)) (before now : Outside) (status : ℕ) : Type 0 where
  pub disk : ℕ
  pub size : ℕ
  pub need : ℕ
  pub is_upgrade : named words ≡ Some (Upgrade disk)
  pub same : device_at disk now.disks ≡ device_at disk before.disks
  pub no_room : IfLog (device_at disk before.disks).bytes (λ log. HasNoRoom size need log.limit log.entries)
  pub told : Told before.sink now.sink (full_text size need) 7 7 status

-- the bytes of the disk that was used break the format of a log at a place, and this was printed; nothing changed on it
pub record IsBrokenAt (words : List (List ℕ)) (before now : Outside) (status : ℕ) : Type 0 where
  pub disk : ℕ
  pub place : ℕ
  pub used : disk_used (named words) ≡ Some disk
  pub same : device_at disk now.disks ≡ device_at disk before.disks
  pub broken : IfRevealed (device_at disk before.disks).bytes (λ s. read_log is_limit s ≡ Err place)
  pub told : Told before.sink now.sink (broken_text place) 8 8 status
