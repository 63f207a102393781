use Rattle.gp_verdict.proofs.Legally.{rules_legally, upheld_agrees}
use Rattle.gp_verdict.proofs.auditing.audit.Goals as goal

pub returns-clause-agreement : goal.returns-clause-agreement
returns-clause-agreement c = upheld_agrees c.args.bytes.now c.in_ok-world.world c.in_ok-world.ensures

pub returns-in_err-world-clause-legal : goal.returns-in_err-world-clause-legal
returns-in_err-world-clause-legal c = rules_legally c.args.bytes.now

pub returns-in_err-text-clause-legal : goal.returns-in_err-text-clause-legal
returns-in_err-text-clause-legal c = rules_legally c.args.bytes.now

pub returns-clause-legal : goal.returns-clause-legal
returns-clause-legal c = rules_legally c.args.bytes.now
