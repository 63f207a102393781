use Rattle.std.proofs.Common.{sym, ap, ◌∙◌, Bool, cond, arith}
use Rattle.std.proofs.lemmas.Bool.{le-leb}
use Rattle.gp_bank.specs.Accounts.{balance_at, debited}
use Rattle.gp_bank.specs.Effects.{granted}
use Rattle.gp_bank.proofs.bank.Bank.withdraw.Goals as goal

pub debit-requires : goal.debit-requires
debit-requires c =
    le-leb c.args.amount (balance_at c.args.self.now c.args.key) (omega (arith, c.balance.ensures, c.from.ensures, c.if-balance-from.false))

pub returns-clause-reply : goal.returns-clause-reply
returns-clause-reply c =
    let covered = le-leb c.args.amount (balance_at c.args.self.now c.args.key) (omega (arith, c.balance.ensures, c.from.ensures, c.if-balance-from.false)) in
    sym (ap (λ (b : Bool). granted b) covered)

pub returns-clause-next : goal.returns-clause-next
returns-clause-next c =
    let covered = le-leb c.args.amount (balance_at c.args.self.now c.args.key) (omega (arith, c.balance.ensures, c.from.ensures, c.if-balance-from.false)) in
    c.debit.ensures ∙ sym (ap (λ (b : Bool). cond b (debited c.args.self.now c.args.key c.args.amount) c.args.self.now) covered)
