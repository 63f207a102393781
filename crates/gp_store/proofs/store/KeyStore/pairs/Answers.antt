use Rattle.std.proofs.Common.{sym, ap, ◌∙◌}
use Rattle.std.specs.FinMap.{entries}
use Rattle.gp_store.specs.Pairs.{Pairs}
use Rattle.gp_store.proofs.StoreLemmas.{entries_of_map}
use Rattle.gp_store.proofs.store.KeyStore.pairs.Goals as goal

pub returns : goal.returns
returns c = sym (entries_of_map c.self.inside.pairs.entries c.len-len.ensures.ordered) ∙ ap (λ (pairs : Pairs). entries pairs) c.self.view_is
