use Rattle.gp_bank.proofs.ReadingLemmas.{text_spells_on_ok}
use Rattle.gp_bank.proofs.op.write_bank_op.Goals as goal

pub returns-else-is_err-clause-read_again : goal.returns-else-is_err-clause-read_again
returns-else-is_err-clause-read_again c = text_spells_on_ok c.push_op-written.result c.args.op.now c.push_op-written.ensures.range
