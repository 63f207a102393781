use Rattle.std.proofs.Common.{rules}
use Rattle.gp_history.proofs.sequence_history.SeqHistoryHist.clear.Goals as goal

pub returns : goal.returns
returns c = search rules
