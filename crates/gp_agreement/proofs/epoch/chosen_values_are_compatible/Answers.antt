use Rattle.gp_cstructs.specs.Facts.{ledger_of}
use Rattle.gp_cstructs.specs.Protocol.{protocol}
use Rattle.gp_cstructs.proofs.ProtocolLaws.{lawful}
use Rattle.gp_cstructs.proofs.Chosen.{chosen_agree}
use Rattle.gp_agreement.specs.Values.{operations}
use Rattle.gp_agreement.proofs.ValueLaws.{value_laws}
use Rattle.gp_agreement.proofs.epoch.chosen_values_are_compatible.Goals as goal

pub returns : goal.returns
returns c a k some w facts x y r j p q = chosen_agree (lawful operations value_laws a k some) (ledger_of (protocol operations a k) w) facts.ledger x y r j p q
