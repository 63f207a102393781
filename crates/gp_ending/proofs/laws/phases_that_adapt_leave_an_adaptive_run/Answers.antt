use Rattle.gp_ending.proofs.Ending.{is_adaptive}
use Rattle.gp_ending.proofs.laws.phases_that_adapt_leave_an_adaptive_run.Goals as goal

pub returns : goal.returns
returns g c = λ wire run list quiet of steady. is_adaptive g.D.Disk.content g.D.Disk.faults wire run list quiet of steady
