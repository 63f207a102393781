use Rattle.std.proofs.Common.{sym, ap, ◌∙◌}
use Rattle.gp_store.specs.Pairs.{Pairs, value_at}
use Rattle.gp_store.proofs.StoreLemmas.{value_in_map}
use Rattle.gp_store.proofs.store.KeyStore.get.Goals as goal

pub returns : goal.returns
returns c = c.copied.ensures ∙ c.get.ensures.value ∙ sym (value_in_map c.self.inside.pairs.entries c.args.key) ∙ ap (λ (pairs : Pairs). value_at pairs c.args.key) c.self.view_is
