-- The premises on the configuration are those of its range.
use Rattle.gp_driver.proofs.SettleCode.{brings}
use Rattle.gp_driver.proofs.laws.settling_brings_all_that_was_offered.Goals as goal

pub returns : goal.returns
returns g = λ config es range legal rounds. brings config range es legal rounds
