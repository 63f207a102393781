use Rattle.std.proofs.Common.{refl, arith}
use Rattle.gp_cli.specs.Texts.{refusal_text}
use Rattle.gp_cli.proofs.Causes.{played_ends, refused_ends, starved, told_of}
use Rattle.gp_cli.proofs.runs.play_script.Goals as goal

pub returns-in-Ok-clause-ends : goal.returns-in-Ok-clause-ends
returns-in-Ok-clause-ends g c = played_ends c.args.operations _ c.in-Ok.played _ _ _ _ c.in-Ok.ensures.plays c.play_for.ensures.legal c.print.ensures.made.0 c.print.ensures.made.1

pub returns-in-Err-Bad-clause-ends : goal.returns-in-Err-Bad-clause-ends
returns-in-Err-Bad-clause-ends g c =
    refused_ends c.args.operations _ _ _ _ _ _ _ _ _ _ c.in-Err-Bad.is c.in-Err-Bad.field-0-is c.play_for.ensures.plays c.play_for.ensures.legal refl
    (told_of _ _ 3 3 c.tell_of.result (refusal_text c.in-Err-Bad.line c.in-Err-Bad.reason) c.refusal_text.result (omega arith) c.refusal_text.ensures c.tell_of.ensures.told c.tell_of.ensures.untold)

pub returns-in-Err-NoMemory-clause-ends : goal.returns-in-Err-NoMemory-clause-ends
returns-in-Err-NoMemory-clause-ends g c = starved _ _ _ _ tt c.without_run.ensures.status c.without_run.ensures.trail
