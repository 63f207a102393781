use Rattle.std.proofs.Common.{rules}
use Rattle.gp_learner.proofs.StaysUpToDate.{up_to_date_at_start}
use Rattle.gp_history.proofs.Pushing.{history_of_nothing}
use Rattle.gp_learner.proofs.part.Part.clear.Goals as goal

pub invariant_of-self : goal.invariant_of-self
invariant_of-self c = search (rules, history_of_nothing, up_to_date_at_start)
