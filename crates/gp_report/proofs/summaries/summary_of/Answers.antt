use Rattle.gp_report.proofs.Agreeing.{distinct_ids}
use Rattle.gp_report.proofs.summaries.summary_of.Goals as goal

pub replica_of-requires : goal.replica_of-requires
replica_of-requires c = distinct_ids _ _ c.learned.ensures.agrees 0 _ c.learned.ensures.learned

pub replica_of-requires-2 : goal.replica_of-requires-2
replica_of-requires-2 c = distinct_ids _ _ c.learned-2.ensures.agrees 1 _ c.learned-2.ensures.learned
