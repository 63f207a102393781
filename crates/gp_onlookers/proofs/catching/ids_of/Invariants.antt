use Rattle.std.proofs.Common.{◌≡◌, ◌≤◌, map, take}
use Rattle.gp_command.specs.declared.command.Command.{Command}
use Rattle.gp_onlookers.proofs.catching.ids_of.Given as goal

abbrev pub invariant-loop-place : goal.invariant-loop-place
invariant-loop-place l = (l.ids.items ≡ map (λ (c : Command). c.id) (take l.place l.ran)) × (l.place ≤ l.place-end)
