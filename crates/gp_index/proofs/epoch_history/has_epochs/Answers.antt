use Rattle.std.proofs.Common.{rules}
use Rattle.gp_index.proofs.epoch_history.has_epochs.Goals as goal

pub loop-i-preserved : goal.loop-i-preserved
loop-i-preserved c = search rules

pub returns : goal.returns
returns c = search rules
