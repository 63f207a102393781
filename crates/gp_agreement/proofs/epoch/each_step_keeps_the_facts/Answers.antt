use Rattle.gp_cstructs.proofs.ProtocolLaws.{lawful}
use Rattle.gp_cstructs.proofs.CommandLaws.{commands_kept, identity_told}
use Rattle.gp_cstructs.proofs.Runs.{happens_keeps}
use Rattle.gp_cstructs.proofs.OfferedCommands.{happens_offers}
use Rattle.gp_cstructs.proofs.ProposedOnce.{happens_once}
use Rattle.gp_agreement.specs.Values.{operations}
use Rattle.gp_agreement.proofs.ValueLaws.{value_laws}
use Rattle.gp_agreement.proofs.epoch.each_step_keeps_the_facts.Goals as goal

pub returns-clause-facts : goal.returns-clause-facts
returns-clause-facts c a k some w e facts fits = happens_keeps (lawful operations value_laws a k some) w facts e fits

pub returns-clause-offered : goal.returns-clause-offered
returns-clause-offered c a k w e offered fits = happens_offers (commands_kept operations value_laws a k) w offered e fits

pub returns-clause-once : goal.returns-clause-once
returns-clause-once c a k w e once = happens_once (identity_told operations value_laws a k) w e once
