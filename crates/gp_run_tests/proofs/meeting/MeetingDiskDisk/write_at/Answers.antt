use Rattle.gp_edge.specs.Puts.{torn_none}
use Rattle.gp_run_tests.proofs.meeting.MeetingDiskDisk.write_at.Goals as goal

pub returns-clause-crash : goal.returns-clause-crash
returns-clause-crash c = λ d image. (d, tt, torn_none c.args.at _ d)
