use Rattle.std.proofs.Common.{sym, ap, ◌∙◌}
use Rattle.gp_store.specs.Pairs.{value_at}
use Rattle.gp_store.proofs.StoreLemmas.{value_in_map}
use Rattle.gp_bank.specs.Accounts.{Accounts}
use Rattle.gp_bank.proofs.bank.Bank.get.Goals as goal

pub returns : goal.returns
returns c = c.copied.ensures ∙ c.get.ensures.value ∙ sym (value_in_map c.self.inside.accounts.entries c.args.key) ∙ ap (λ (accounts : Accounts). value_at accounts c.args.key) c.self.view_is
