use Rattle.std.proofs.Common.{refl, arith}
use Rattle.gp_cli.specs.Texts.{refusal_text}
use Rattle.gp_cli.proofs.Causes.{starved, told_of}
use Rattle.gp_cli.proofs.Audits.{upheld_ends, rejected_ends}
use Rattle.gp_cli.proofs.auditing.audit_input.Goals as goal

pub returns-in-Ok-clause-ends : goal.returns-in-Ok-clause-ends
returns-in-Ok-clause-ends g c = upheld_ends c.args.input.now c.in-Ok.field-0 _ _ _ _ c.in-Ok.ensures.audits c.print.ensures.made.0 c.print.ensures.made.1

pub returns-in-Err-Bad-clause-ends : goal.returns-in-Err-Bad-clause-ends
returns-in-Err-Bad-clause-ends g c =
    rejected_ends c.args.input.now _ _ _ _ _ _ _ _ _ c.in-Err-Bad.is c.in-Err-Bad.field-0-is c.audit.ensures.audits refl
    (told_of _ _ 3 3 c.tell_of.result (refusal_text c.in-Err-Bad.line c.in-Err-Bad.reason) c.refusal_text.result (omega arith) c.refusal_text.ensures c.tell_of.ensures.told c.tell_of.ensures.untold)

pub returns-in-Err-NoMemory-clause-ends : goal.returns-in-Err-NoMemory-clause-ends
returns-in-Err-NoMemory-clause-ends g c = starved _ _ _ _ tt c.without_run.ensures.status c.without_run.ensures.trail
