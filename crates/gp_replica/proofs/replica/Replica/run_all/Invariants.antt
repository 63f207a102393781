use Rattle.gp_history.specs.Sequence.{history_of}
use Rattle.gp_replica.proofs.Steps.{RunsOn}
use Rattle.gp_replica.proofs.replica.Replica.run_all.Given as goal

abbrev pub invariant-loop-place : goal.invariant-loop-place
invariant-loop-place g l = RunsOn (history_of l.ordered) l.fn.self l.ordered l.self l.next l.place
