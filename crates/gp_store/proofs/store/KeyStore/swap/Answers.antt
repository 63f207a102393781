use Rattle.std.proofs.Common.{rules}
use Rattle.gp_store.proofs.store.KeyStore.swap.Goals as goal

pub returns-in_ok-put-in-Some-clause-reply : goal.returns-in_ok-put-in-Some-clause-reply
returns-in_ok-put-in-Some-clause-reply c = search rules
