use Rattle.gp_bank.proofs.BankLemmas.{deposited, withdrawn, sent, received, to_itself}
use Rattle.gp_bank.proofs.laws.balances_change_by_the_amount.Goals as goal

pub returns-clause-deposit : goal.returns-clause-deposit
returns-clause-deposit c = deposited

pub returns-clause-withdrawal : goal.returns-clause-withdrawal
returns-clause-withdrawal c = withdrawn

pub returns-clause-sent : goal.returns-clause-sent
returns-clause-sent c = λ accounts from into amount can. sent accounts from into amount can.0 can.1

pub returns-clause-received : goal.returns-clause-received
returns-clause-received c = λ accounts from into amount can. received accounts from into amount can.0 can.1

pub returns-clause-to_itself : goal.returns-clause-to_itself
returns-clause-to_itself c = to_itself
