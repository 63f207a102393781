use Rattle.gp_history.specs.Canonical.{canonical}
use Rattle.gp_bank.proofs.SumLemmas.{conserved}
use Rattle.gp_bank.proofs.laws.what_is_deposited_is_held_or_withdrawn.Goals as goal

pub returns-clause-run : goal.returns-clause-run
returns-clause-run c = conserved

pub returns-clause-history : goal.returns-clause-history
returns-clause-history c = λ h few. conserved (canonical h) few
