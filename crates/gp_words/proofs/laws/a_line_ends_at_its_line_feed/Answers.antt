use Rattle.gp_words.proofs.LineLemmas.{line_then, line_text, line_alone}
use Rattle.gp_words.proofs.laws.a_line_ends_at_its_line_feed.Goals as goal

pub returns-clause-first : goal.returns-clause-first
returns-clause-first c = line_then

pub returns-clause-text : goal.returns-clause-text
returns-clause-text c = line_text

pub returns-clause-last : goal.returns-clause-last
returns-clause-last c = line_alone
