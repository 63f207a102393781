use Rattle.std.proofs.Common.{rules}
use Rattle.gp_index.proofs.epoch_history.EpochHistoryHist.push.Goals as goal

pub with-requires : goal.with-requires
with-requires c = search rules

pub returns-in-Ok-clause-pushed : goal.returns-in-Ok-clause-pushed
returns-in-Ok-clause-pushed c = search rules
