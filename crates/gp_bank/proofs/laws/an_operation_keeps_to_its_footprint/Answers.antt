use Rattle.gp_bank.proofs.BankLemmas.{outside_kept}
use Rattle.gp_bank.proofs.laws.an_operation_keeps_to_its_footprint.Goals as goal

pub returns : goal.returns
returns c = outside_kept
