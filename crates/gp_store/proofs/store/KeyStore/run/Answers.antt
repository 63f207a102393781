use Rattle.std.proofs.Common.{rules}
use Rattle.gp_store.proofs.store.KeyStore.run.Goals as goal

pub returns-in-Get-clause-reply : goal.returns-in-Get-clause-reply
returns-in-Get-clause-reply c = search rules
