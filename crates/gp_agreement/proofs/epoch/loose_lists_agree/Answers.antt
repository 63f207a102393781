use Rattle.gp_cstructs.proofs.ProtocolLaws.{lawful}
use Rattle.gp_cstructs.proofs.Runs.{agrees}
use Rattle.gp_agreement.specs.Values.{operations}
use Rattle.gp_agreement.proofs.ValueLaws.{value_laws}
use Rattle.gp_agreement.proofs.epoch.loose_lists_agree.Goals as goal

pub returns : goal.returns
returns c a k some es loose = agrees (lawful operations value_laws a k some) es loose
