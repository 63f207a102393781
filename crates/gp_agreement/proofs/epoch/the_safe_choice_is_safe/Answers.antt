use Rattle.gp_cstructs.specs.Facts.{ledger_of}
use Rattle.gp_cstructs.specs.Protocol.{protocol}
use Rattle.gp_cstructs.proofs.ProtocolLaws.{lawful}
use Rattle.gp_cstructs.proofs.Growth.{choice_holds}
use Rattle.gp_agreement.specs.Values.{operations}
use Rattle.gp_agreement.proofs.ValueLaws.{value_laws}
use Rattle.gp_agreement.proofs.epoch.the_safe_choice_is_safe.Goals as goal

pub returns : goal.returns
returns c a k some w facts r answers given enough = choice_holds (lawful operations value_laws a k some) (ledger_of (protocol operations a k) w) facts.ledger r answers given enough
