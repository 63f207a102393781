use Rattle.gp_command.specs.Key.{key_cmp}
use Rattle.gp_bank.specs.Changes.{transfer_writes}
use Rattle.gp_bank.proofs.BankLemmas.{transfer_adds_to, transfer_alone}
use Rattle.gp_bank.proofs.laws.a_transfer_touches_both_its_keys.Goals as goal

pub returns-clause-written : goal.returns-clause-written
returns-clause-written c = λ from into amount. transfer_writes (key_cmp from into) from into

pub returns-clause-added : goal.returns-clause-added
returns-clause-added c = λ from into amount differ. transfer_adds_to from into differ

pub returns-clause-one : goal.returns-clause-one
returns-clause-one c = transfer_alone
