use Rattle.gp_script.proofs.LineLemmas.{line_says, only_line}
use Rattle.gp_script.proofs.laws.an_item_has_one_line.Goals as goal

pub returns-clause-read : goal.returns-clause-read
returns-clause-read g c = line_says g.S.Service.profile.language g.met.S.Service.known.spelled

pub returns-clause-only : goal.returns-clause-only
returns-clause-only g c = only_line g.S.Service.profile.language g.met.S.Service.known.spelled
