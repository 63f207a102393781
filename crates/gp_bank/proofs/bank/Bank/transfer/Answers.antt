use Rattle.std.proofs.Common.{sym, ◌∙◌, arith, rules}
use Rattle.gp_bank.proofs.BankLemmas.{still_covers}
use Rattle.gp_bank.proofs.bank.Bank.transfer.Goals as goal

pub debit-requires : goal.debit-requires
debit-requires c =
    rw c.in_ok-credit.ensures.credited
    (still_covers c.args.self.now c.args.from c.args.into c.args.amount (sym c.ne.ensures ∙ c.if-ne.true) (omega (arith, c.balance.ensures, c.from.ensures, c.if-balance-from.false)))

pub returns-in_ok-credit-clause-next : goal.returns-in_ok-credit-clause-next
returns-in_ok-credit-clause-next c = search rules
