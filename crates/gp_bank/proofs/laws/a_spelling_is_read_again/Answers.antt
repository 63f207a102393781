use Rattle.gp_bank.proofs.SpellingLemmas.{tokens_again}
use Rattle.gp_bank.proofs.ReadingLemmas.{form_again, op_again, text_spells}
use Rattle.gp_bank.proofs.laws.a_spelling_is_read_again.Goals as goal

pub returns-clause-tokens : goal.returns-clause-tokens
returns-clause-tokens c = tokens_again

pub returns-clause-form : goal.returns-clause-form
returns-clause-form c = form_again

pub returns-clause-op : goal.returns-clause-op
returns-clause-op c = op_again

pub returns-clause-again : goal.returns-clause-again
returns-clause-again c = text_spells
