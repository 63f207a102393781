use Rattle.gp_service.proofs.Spoken.{of_store, of_bank}
use Rattle.gp_service.proofs.laws.a_draft_is_spoken_if_it_is_of_an_operation.Goals as goal

pub returns-clause-store : goal.returns-clause-store
returns-clause-store c = of_store

pub returns-clause-bank : goal.returns-clause-bank
returns-clause-bank c = of_bank
