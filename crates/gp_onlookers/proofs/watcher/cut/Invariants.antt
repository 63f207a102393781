use Rattle.std.proofs.Common.{◌≡◌, ◌≤◌, ◌++◌, map, take, drop}
use Rattle.gp_onlookers.specs.Looks.{cut_at}
use Rattle.gp_onlookers.proofs.watcher.cut.Given as goal

abbrev pub invariant-loop-place : goal.invariant-loop-place
invariant-loop-place l = (l.looks.items ≡ map (cut_at l.end) (take l.place l.fn.looks.items) ++ drop l.place l.fn.looks.items) × (l.place ≤ l.place-end)
