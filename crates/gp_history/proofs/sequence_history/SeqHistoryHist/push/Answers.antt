use Rattle.std.proofs.Common.{rules}
use Rattle.gp_history.proofs.Sequences.{may_push}
use Rattle.gp_history.proofs.sequence_history.SeqHistoryHist.push.Goals as goal

pub invariant_of-self : goal.invariant_of-self
invariant_of-self c = search (rules, may_push)
