use Rattle.std.proofs.Common.{rules}
use Rattle.gp_service.specs.Banks.{bank_totals}
use Rattle.gp_service.proofs.bank.BankService.push_totals.Goals as goal

pub returns-clause-written : goal.returns-clause-written
unfolding bank_totals
returns-clause-written c = search rules
