use Rattle.gp_service.proofs.Spoken.{said_spoken}
use Rattle.gp_service.proofs.laws.an_operation_has_one_spelling.Goals as goal

pub returns-clause-spelled : goal.returns-clause-spelled
returns-clause-spelled g c = g.met.S.Service.known.spelled

pub returns-clause-spoken : goal.returns-clause-spoken
returns-clause-spoken g c = said_spoken g.S.Service.profile.language g.met.S.Service.known.spelled
