use Rattle.std.proofs.Common.{◌≡◌, ◌≢◌, ◌<◌, ℕ, Some, slice_get}
use Rattle.gp_command.specs.declared.command.Command.{Command}
use Rattle.gp_replica.proofs.identities.has_distinct_ids.Given as goal

abbrev pub invariant-loop-place : goal.invariant-loop-place
invariant-loop-place l = (i k : ℕ) (c d : Command) → i < k → k < l.place → slice_get l.learned i ≡ Some c → slice_get l.learned k ≡ Some d → c.id ≢ d.id
