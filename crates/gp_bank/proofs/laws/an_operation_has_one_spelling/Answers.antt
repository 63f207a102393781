use Rattle.gp_bank.proofs.SpellingLemmas.{text_short}
use Rattle.gp_bank.proofs.ReadingLemmas.{op_read, words_read, text_read}
use Rattle.gp_bank.proofs.laws.an_operation_has_one_spelling.Goals as goal

pub returns-clause-words : goal.returns-clause-words
returns-clause-words c = words_read

pub returns-clause-range : goal.returns-clause-range
returns-clause-range c = λ form op e. (op_read form op e).range

pub returns-clause-text : goal.returns-clause-text
returns-clause-text c = text_read

pub returns-clause-short : goal.returns-clause-short
returns-clause-short c = text_short
