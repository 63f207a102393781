use Rattle.gp_random.proofs.NextLemmas.{ended_stays}
use Rattle.gp_random.proofs.laws.a_workload_stays_at_its_end.Goals as goal

pub returns : goal.returns
returns c = ended_stays
