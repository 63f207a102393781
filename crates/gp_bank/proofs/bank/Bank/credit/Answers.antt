use Rattle.std.proofs.Common.{rules}
use Rattle.gp_bank.proofs.bank.Bank.credit.Goals as goal

pub returns-clause-credited : goal.returns-clause-credited
returns-clause-credited c = search rules
