use Rattle.std.proofs.Common.{arith}
use Rattle.gp_bank.proofs.BankLemmas.{deposited, received}
use Rattle.gp_play_tests.proofs.greatest.what_would_pass_the_greatest_balance_comes_to_it.Goals as goal

pub returns-clause-at_it : goal.returns-clause-at_it
returns-clause-at_it c = λ accounts key e. let d = deposited accounts key 1 in omega (arith, d, e)

pub returns-clause-reached : goal.returns-clause-reached
returns-clause-reached c = λ accounts key e. let d = deposited accounts key 5 in omega (arith, d, e)

pub returns-clause-passed : goal.returns-clause-passed
returns-clause-passed c = λ accounts key e. let d = deposited accounts key 4294967295 in omega (arith, d, e)

pub returns-clause-below : goal.returns-clause-below
returns-clause-below c = λ accounts key e. let d = deposited accounts key 4 in omega (arith, d, e)

pub returns-clause-moved : goal.returns-clause-moved
returns-clause-moved c = λ accounts from into can e. let r = received accounts from into 7 can.0 can.1 in omega (arith, r, e)
