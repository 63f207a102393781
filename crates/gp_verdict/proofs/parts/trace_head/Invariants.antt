use Rattle.std.proofs.Common.{length}
use Rattle.gp_verdict.proofs.LineHeads.{TracesOn}
use Rattle.gp_verdict.proofs.parts.trace_head.Given as goal

abbrev pub invariant-loop-rest : goal.invariant-loop-rest
invariant-loop-rest l = TracesOn l.bytes l.rest l.place l.lines

abbrev pub decreases-loop-rest : goal.decreases-loop-rest
decreases-loop-rest l = length l.rest
