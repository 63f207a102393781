use Rattle.gp_cell.proofs.Runs.{legal_run}
use Rattle.gp_cell.proofs.laws.a_list_by_the_rules_is_a_legal_run.Goals as goal

pub returns : goal.returns
returns c = legal_run
