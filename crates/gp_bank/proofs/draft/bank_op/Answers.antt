use Rattle.gp_bank.proofs.DraftLemmas.{answer_found, answer_only}
use Rattle.gp_bank.proofs.draft.bank_op.Goals as goal

pub returns-clause-found : goal.returns-clause-found
returns-clause-found c = answer_found c.args.draft.now c.drafted_op.result c.drafted_op.ensures

pub returns-clause-only : goal.returns-clause-only
returns-clause-only c = answer_only c.args.draft.now c.drafted_op.result c.drafted_op.ensures
