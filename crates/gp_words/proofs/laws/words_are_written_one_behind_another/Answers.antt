use Rattle.gp_words.proofs.SpacingLemmas.{joined_more, spaced_ended}
use Rattle.gp_words.proofs.laws.words_are_written_one_behind_another.Goals as goal

pub returns-clause-more : goal.returns-clause-more
returns-clause-more c = joined_more

pub returns-clause-ended : goal.returns-clause-ended
returns-clause-ended c = spaced_ended
