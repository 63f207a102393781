use Rattle.std.proofs.Common.{◌≡◌, drop}
use Rattle.gp_audit.specs.Sources.{first_in}
use Rattle.gp_audit.proofs.quorums.first_in.Given as goal

abbrev pub invariant-loop-mask : goal.invariant-loop-mask
invariant-loop-mask l = first_in l.quorums l.c ≡ first_in (drop l.mask-index l.quorums) l.c
