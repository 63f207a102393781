use Rattle.std.proofs.lemmas.List.Elements.{All-from_recursion}
use Rattle.gp_words.specs.Bytes.{Lacks}
use Rattle.gp_words.specs.Tokens.{is_space}
use Rattle.gp_store.specs.Operations.{op_words}
use Rattle.gp_store.proofs.SpellingLemmas.{text_feedless, text_short, words_some, words_spaceless}
use Rattle.gp_store.proofs.laws.a_spelling_fits_in_a_line.Goals as goal

pub returns-clause-feedless : goal.returns-clause-feedless
returns-clause-feedless c = text_feedless

pub returns-clause-short : goal.returns-clause-short
returns-clause-short c = text_short

pub returns-clause-some : goal.returns-clause-some
returns-clause-some c = words_some

pub returns-clause-spaceless : goal.returns-clause-spaceless
returns-clause-spaceless c = λ op r. All-from_recursion (Lacks is_space) (op_words op) (words_spaceless op r)
