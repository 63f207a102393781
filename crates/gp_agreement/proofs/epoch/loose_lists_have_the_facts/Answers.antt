use Rattle.gp_cstructs.proofs.ProtocolLaws.{lawful}
use Rattle.gp_cstructs.proofs.CommandLaws.{commands_kept, identity_told}
use Rattle.gp_cstructs.proofs.Runs.{run_keeps}
use Rattle.gp_cstructs.proofs.OfferedCommands.{run_offers}
use Rattle.gp_cstructs.proofs.ProposedOnce.{run_once}
use Rattle.gp_agreement.specs.Values.{operations}
use Rattle.gp_agreement.proofs.ValueLaws.{value_laws}
use Rattle.gp_agreement.proofs.epoch.loose_lists_have_the_facts.Goals as goal

pub returns-clause-facts : goal.returns-clause-facts
returns-clause-facts c a k some es loose = run_keeps (lawful operations value_laws a k some) es loose

pub returns-clause-offered : goal.returns-clause-offered
returns-clause-offered c a k es loose = run_offers (commands_kept operations value_laws a k) es loose

pub returns-clause-once : goal.returns-clause-once
returns-clause-once c a k es = run_once (identity_told operations value_laws a k) es
