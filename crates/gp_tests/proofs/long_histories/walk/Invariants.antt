use Rattle.gp_history.specs.History.{IsPrefix}
use Rattle.gp_history.specs.Sequence.{history_of}
use Rattle.gp_tests.proofs.long_histories.walk.Given as goal

abbrev pub invariant-loop : goal.invariant-loop
invariant-loop g l = IsPrefix (history_of (g.H.Hist.sequence l.taken)) (history_of (g.H.Hist.sequence l.history))
