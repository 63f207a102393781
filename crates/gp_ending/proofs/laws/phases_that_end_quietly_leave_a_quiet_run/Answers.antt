use Rattle.gp_caller.specs.Calling.{IsCalled}
use Rattle.gp_ending.proofs.Ending.{is_quiet, all_saw, begun_just, all_offered}
use Rattle.gp_ending.proofs.laws.phases_that_end_quietly_leave_a_quiet_run.Goals as goal

pub returns-clause-quiet : goal.returns-clause-quiet
returns-clause-quiet g c = λ wire run list quiet of steady. is_quiet g.D.Disk.content g.D.Disk.faults wire run list quiet of steady

pub returns-clause-seen : goal.returns-clause-seen
returns-clause-seen g c = λ wire run list quiet of. all_saw IsCalled g.D.Disk.content g.D.Disk.faults wire run list quiet of

pub returns-clause-begun : goal.returns-clause-begun
returns-clause-begun g c = λ wire run list quiet of steady. begun_just IsCalled g.D.Disk.content g.D.Disk.faults wire run list quiet of steady

pub returns-clause-offered : goal.returns-clause-offered
returns-clause-offered g c = λ wire run list quiet of steady. all_offered IsCalled g.D.Disk.content g.D.Disk.faults wire run list quiet of steady
