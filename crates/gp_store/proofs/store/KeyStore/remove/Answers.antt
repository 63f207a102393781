use Rattle.std.proofs.Common.{sym, ap, ◌∙◌}
use Rattle.gp_store.specs.Pairs.{Pairs, value_at}
use Rattle.gp_store.proofs.StoreLemmas.{value_in_map, pairs_removed}
use Rattle.gp_store.proofs.store.KeyStore.remove.Goals as goal

pub returns-clause-removed : goal.returns-clause-removed
returns-clause-removed c = rw (← c.self.view_is) (pairs_removed c.self.inside.pairs c.remove.new.self c.args.key c.remove.ensures.updates.0)

pub returns-clause-found : goal.returns-clause-found
returns-clause-found c = c.remove.ensures.value ∙ sym (value_in_map c.self.inside.pairs.entries c.args.key) ∙ ap (λ (pairs : Pairs). value_at pairs c.args.key) c.self.view_is
