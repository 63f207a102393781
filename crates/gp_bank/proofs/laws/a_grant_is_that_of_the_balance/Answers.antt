use Rattle.gp_bank.specs.declared.op.BankOp.TheVariants.{Withdraw, Transfer}
use Rattle.gp_bank.proofs.RunLemmas.{reply_there}
use Rattle.gp_bank.proofs.laws.a_grant_is_that_of_the_balance.Goals as goal

pub returns-clause-withdrawal : goal.returns-clause-withdrawal
returns-clause-withdrawal c = λ h before behind c key amount stands found. reply_there h before behind c (Withdraw key amount) stands.0 stands.1 found

pub returns-clause-transfer : goal.returns-clause-transfer
returns-clause-transfer c = λ h before behind c from into amount stands found. reply_there h before behind c (Transfer from into amount) stands.0 stands.1 found
