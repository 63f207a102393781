use Rattle.std.proofs.Common.{◌≡◌, ◌≤◌, ◌<◌, ◌-◌, length, drop, None, true}
use Rattle.std.specs.Option.{option_map}
use Rattle.gp_vlog.specs.Bodies.{entry_of}
use Rattle.gp_vlog.specs.Gates.{area}
use Rattle.gp_vlog.specs.Logs.{entry_for, log_entries, last, KeepsRules}
use Rattle.std.specs.List.{All}
use Rattle.gp_vlog.proofs.Areas.{after}
use Rattle.gp_vlog.proofs.area.Area.read.Given as goal

abbrev pub invariant-loop-at : goal.invariant-loop-at
invariant-loop-at l = record {
  read : area entry_of l.room None 0 0 l.bytes ≡ after entry_of l.room (log_entries l.first_version l.entries.items) (area entry_of l.room (option_map (entry_for l.first_version) (last l.entries.items)) l.at 0 (drop l.at l.bytes));
  rules : All KeepsRules l.entries.items;
  some : l.first_version ≡ true → 0 < length l.entries.items;
  within : l.at ≤ length l.bytes;
  below : 0 < l.room → l.at < l.room;
}

abbrev pub decreases-loop-at : goal.decreases-loop-at
decreases-loop-at l = length l.bytes - l.at
