use Rattle.std.proofs.Common.{sym, ap, ◌∙◌}
use Rattle.std.specs.Option.{is_some}
use Rattle.gp_store.specs.Pairs.{value_at}
use Rattle.gp_store.proofs.StoreLemmas.{pairs_put, value_in_map}
use Rattle.gp_bank.specs.Accounts.{Accounts}
use Rattle.gp_bank.proofs.bank.Bank.put.Goals as goal
use Rattle.gp_bank.proofs.bank.Bank.put.Goals.{in-Ok, in-Err}

pub returns-clause-put : goal.returns-clause-put
returns-clause-put c =
    elim c.match-insert.branch [
      | in-Ok w ↦ rw (w.result-is, ← c.self.view_is) (pairs_put c.self.inside.accounts c.insert.new.self c.args.key c.args.balance w.in-Ok.ensures.updates.0)
      | in-Err w ↦ rw w.result-is tt
    ]

pub returns-clause-there : goal.returns-clause-there
returns-clause-there c =
    elim c.match-insert.branch [
      | in-Ok w ↦ λ _. rw (← c.self.view_is) (pairs_put c.self.inside.accounts c.insert.new.self c.args.key c.args.balance w.in-Ok.ensures.updates.0)
      | in-Err w ↦ λ some.
          let none = sym (ap (λ (accounts : Accounts). value_at accounts c.args.key) c.self.view_is) ∙ value_in_map c.self.inside.accounts.entries c.args.key ∙ w.in-Err.ensures.absent in
          absurd (let e = sym some ∙ ap is_some none in cc)
    ]
