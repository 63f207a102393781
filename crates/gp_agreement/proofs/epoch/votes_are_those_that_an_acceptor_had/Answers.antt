use Rattle.gp_cstructs.proofs.ProtocolLaws.{lawful}
use Rattle.gp_cstructs.proofs.Votes.{vote_had, had_vote}
use Rattle.gp_agreement.specs.Values.{operations}
use Rattle.gp_agreement.proofs.ValueLaws.{value_laws}
use Rattle.gp_agreement.proofs.epoch.votes_are_those_that_an_acceptor_had.Goals as goal

pub returns-clause-only : goal.returns-clause-only
returns-clause-only c a k es i r x vote = vote_had es i r x vote

pub returns-clause-all : goal.returns-clause-all
returns-clause-all c a k some es loose i r x had = had_vote (lawful operations value_laws a k some) es loose i r x had
