use Rattle.std.proofs.lemmas.Fmt.{decimal_nonempty}
use Rattle.gp_words.proofs.NumberLemmas.{number_again, number_spelled, decimal_short, decimal_spaceless, decimal_feedless}
use Rattle.gp_words.proofs.laws.a_number_has_one_spelling.Goals as goal

pub returns-clause-again : goal.returns-clause-again
returns-clause-again c = number_again

pub returns-clause-spelled : goal.returns-clause-spelled
returns-clause-spelled c = λ token n e. (number_spelled token n e).0

pub returns-clause-below : goal.returns-clause-below
returns-clause-below c = λ token n e. (number_spelled token n e).1

pub returns-clause-some : goal.returns-clause-some
returns-clause-some c = decimal_nonempty

pub returns-clause-short : goal.returns-clause-short
returns-clause-short c = decimal_short

pub returns-clause-spaceless : goal.returns-clause-spaceless
returns-clause-spaceless c = decimal_spaceless

pub returns-clause-feedless : goal.returns-clause-feedless
returns-clause-feedless c = decimal_feedless
