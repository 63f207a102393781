use Rattle.gp_verdict.proofs.PrintedSizes.{printed_size}
use Rattle.gp_verdict.proofs.PrintedRuns.{run_upheld, run_audited}
use Rattle.gp_verdict.proofs.laws.what_a_run_prints_is_upheld.Goals as goal

pub returns-clause-short : goal.returns-clause-short
returns-clause-short c = λ config run sayable. printed_size config run sayable.range sayable.legal sayable.within

pub returns-clause-upheld : goal.returns-clause-upheld
returns-clause-upheld c = λ config run sayable. run_upheld config run sayable.range sayable.legal sayable.within

pub returns-clause-audited : goal.returns-clause-audited
returns-clause-audited c = λ config run result sayable. run_audited config run result sayable.range sayable.legal sayable.within
