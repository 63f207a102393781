use Rattle.gp_verdict.proofs.ReportFaults.{missing_says, says_missing, wrong_says, says_wrong}
use Rattle.gp_verdict.proofs.laws.a_report_is_missing_or_wrong.Goals as goal

pub returns-clause-missing : goal.returns-clause-missing
returns-clause-missing c = λ bytes line before short. (missing_says bytes line before short, says_missing bytes line before short)

pub returns-clause-wrong : goal.returns-clause-wrong
returns-clause-wrong c = λ bytes line before short. (wrong_says bytes line before short, says_wrong bytes line before short)
