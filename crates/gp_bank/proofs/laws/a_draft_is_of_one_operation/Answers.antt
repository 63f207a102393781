use Rattle.gp_bank.proofs.DraftLemmas.{draft_in_range, drafted_again, op_found, ops_apart}
use Rattle.gp_bank.proofs.laws.a_draft_is_of_one_operation.Goals as goal

pub returns-clause-draft : goal.returns-clause-draft
returns-clause-draft c = draft_in_range

pub returns-clause-again : goal.returns-clause-again
returns-clause-again c = drafted_again

pub returns-clause-found : goal.returns-clause-found
returns-clause-found c = λ draft op e. (op_found draft op e).0

pub returns-clause-range : goal.returns-clause-range
returns-clause-range c = λ draft op e. (op_found draft op e).1

pub returns-clause-apart : goal.returns-clause-apart
returns-clause-apart c = ops_apart
