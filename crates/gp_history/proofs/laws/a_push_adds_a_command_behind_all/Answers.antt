use Rattle.gp_history.proofs.Push.{has-push, push_old, push_last}
use Rattle.gp_history.proofs.Joins.{history_of-push, history_of-empty}
use Rattle.gp_history.proofs.Bound.{push_is_history}
use Rattle.gp_history.proofs.laws.a_push_adds_a_command_behind_all.Goals as goal

pub returns-clause-history : goal.returns-clause-history
returns-clause-history g = push_is_history

pub returns-clause-commands : goal.returns-clause-commands
returns-clause-commands g = has-push

pub returns-clause-old : goal.returns-clause-old
returns-clause-old g = λ h c d e w p. push_old h w.within c d e p

pub returns-clause-new : goal.returns-clause-new
returns-clause-new g = λ h c d w p q. push_last h w.within c d p q

pub returns-clause-sequence : goal.returns-clause-sequence
returns-clause-sequence g = history_of-push

pub returns-clause-empty : goal.returns-clause-empty
returns-clause-empty g = history_of-empty
