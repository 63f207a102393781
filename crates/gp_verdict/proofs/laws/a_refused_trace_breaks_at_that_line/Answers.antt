use Rattle.gp_verdict.proofs.RejectedLines.{script_breaks, too_long_breaks}
use Rattle.gp_verdict.proofs.laws.a_refused_trace_breaks_at_that_line.Goals as goal

pub returns-clause-script : goal.returns-clause-script
returns-clause-script c = λ bytes line why before short e. script_breaks bytes line why before short e

pub returns-clause-too_long : goal.returns-clause-too_long
returns-clause-too_long c = λ bytes line why before past e. too_long_breaks bytes line why before past e
