-- The lemmas are the law.
use Rattle.gp_driver.proofs.Lengths.{settled_length, driven_length, checkpoints_among}
use Rattle.gp_driver.proofs.laws.runs_of_drivers_are_short.Goals as goal

pub returns-clause-settled : goal.returns-clause-settled
returns-clause-settled g = λ config es range s. settled_length config range es s

pub returns-clause-driven : goal.returns-clause-driven
returns-clause-driven g = λ config drafts range d. driven_length config range drafts d

pub returns-clause-checkpoints : goal.returns-clause-checkpoints
returns-clause-checkpoints g = λ ms. checkpoints_among ms
