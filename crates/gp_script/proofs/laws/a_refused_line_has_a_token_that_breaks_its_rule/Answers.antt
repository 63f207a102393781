use Rattle.gp_script.proofs.BrokenTokens.{line_breaks, counts_break}
use Rattle.gp_script.proofs.laws.a_refused_line_has_a_token_that_breaks_its_rule.Goals as goal

pub returns-clause-item : goal.returns-clause-item
returns-clause-item g c = λ config form reason range refused. line_breaks config range g.S.Service.profile.language form reason refused

pub returns-clause-configuration : goal.returns-clause-configuration
returns-clause-configuration g c = counts_break
