use Rattle.gp_store.proofs.FootprintLemmas.{outside_kept, reply_alike}
use Rattle.gp_store.proofs.laws.an_operation_keeps_to_its_footprint.Goals as goal

pub returns-clause-changes : goal.returns-clause-changes
returns-clause-changes c = outside_kept

pub returns-clause-reads : goal.returns-clause-reads
returns-clause-reads c = reply_alike
