use Rattle.std.proofs.Common.{sym, ap, ◌∙◌}
use Rattle.std.specs.FinMap.{entries}
use Rattle.gp_store.proofs.StoreLemmas.{entries_of_map}
use Rattle.gp_bank.specs.Accounts.{Accounts}
use Rattle.gp_bank.proofs.bank.Bank.accounts.Goals as goal

pub returns : goal.returns
returns c = sym (entries_of_map c.self.inside.accounts.entries c.len-len.ensures.ordered) ∙ ap (λ (accounts : Accounts). entries accounts) c.self.view_is
