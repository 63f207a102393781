use Rattle.gp_verdict.proofs.UpheldInputs.{upheld_printed, printed_upheld}
use Rattle.gp_verdict.proofs.laws.the_upheld_is_what_a_run_prints.Goals as goal

pub returns : goal.returns
returns c = λ bytes config events. (upheld_printed bytes config events, printed_upheld bytes config events)
