use Rattle.gp_store.proofs.StoreLemmas.{pairs_put}
use Rattle.gp_store.proofs.store.KeyStore.put.Goals as goal
use Rattle.gp_store.proofs.store.KeyStore.put.Goals.{in-Ok, in-Err}

pub returns-clause-put : goal.returns-clause-put
returns-clause-put c =
    elim c.match-insert.branch [
      | in-Ok w ↦ rw (w.result-is, ← c.self.view_is) (pairs_put c.self.inside.pairs c.insert.new.self c.args.key c.args.value w.in-Ok.ensures.updates.0)
      | in-Err w ↦ rw w.result-is tt
    ]
