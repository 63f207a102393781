use Rattle.gp_cstructs.specs.Facts.{ledger_of}
use Rattle.gp_cstructs.specs.Protocol.{protocol}
use Rattle.gp_cstructs.proofs.ProtocolLaws.{lawful}
use Rattle.gp_cstructs.proofs.Growth.{votes_agree}
use Rattle.gp_agreement.specs.Values.{operations}
use Rattle.gp_agreement.proofs.ValueLaws.{value_laws}
use Rattle.gp_agreement.proofs.epoch.votes_of_a_round_are_compatible.Goals as goal

pub returns : goal.returns
returns c a k some w facts r slow i j x y p q = votes_agree (lawful operations value_laws a k some) (ledger_of (protocol operations a k) w) facts.ledger r slow i j x y p q
