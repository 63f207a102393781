use Rattle.gp_edge.proofs.DiskSteps.{shortened_none}
use Rattle.gp_run_tests.proofs.meeting.MeetingDiskDisk.cut.Goals as goal

pub returns-clause-crash : goal.returns-clause-crash
returns-clause-crash c = λ d image. (d, tt, shortened_none c.args.len d)
