use Rattle.gp_report.proofs.Alike.{alike_tells}
use Rattle.gp_report.proofs.laws.replicas_are_alike_if_states_and_replies_are_equal.Goals as goal

pub returns : goal.returns
returns c = λ ran other. let d = alike_tells ran other in (d.0, d.1)
