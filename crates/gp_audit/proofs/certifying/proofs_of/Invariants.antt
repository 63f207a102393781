use Rattle.std.proofs.Common.{◌≡◌, take}
use Rattle.std.specs.List.{filter_map}
use Rattle.gp_audit.specs.Sources.{proof_under}
use Rattle.gp_audit.proofs.certifying.proofs_of.Given as goal

abbrev pub invariant-loop-i : goal.invariant-loop-i
invariant-loop-i l = l.found.items ≡ filter_map (λ c. proof_under c.id l.proofs) (take l.i l.commands)
