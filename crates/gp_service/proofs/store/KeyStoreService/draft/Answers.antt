use Rattle.std.proofs.Common.{rules}
use Rattle.gp_service.specs.Stores.{store_language}
use Rattle.gp_service.proofs.store.KeyStoreService.draft.Goals as goal

pub returns-in-None : goal.returns-in-None
unfolding store_language
returns-in-None c = search rules
