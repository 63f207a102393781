use Rattle.gp_verdict.proofs.Differences.{none_differs, same_alike, difference_parts, parts_differ}
use Rattle.gp_verdict.proofs.laws.the_first_difference_is_where_texts_part.Goals as goal

pub returns-clause-none : goal.returns-clause-none
returns-clause-none c = λ number texts others. (none_differs number texts others, same_alike number texts others)

pub returns-clause-some : goal.returns-clause-some
returns-clause-some c = λ number place texts others. (difference_parts number place texts others, parts_differ number place texts others)
