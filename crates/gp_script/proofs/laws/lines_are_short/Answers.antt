use Rattle.gp_script.proofs.CountsLemmas.{nodes_feedless, nodes_short}
use Rattle.gp_script.proofs.LineLemmas.{line_feedless, line_short}
use Rattle.gp_script.proofs.laws.lines_are_short.Goals as goal

pub returns-clause-item_feedless : goal.returns-clause-item_feedless
returns-clause-item_feedless g c = line_feedless g.S.Service.profile.language g.met.S.Service.known.spelled

pub returns-clause-item_short : goal.returns-clause-item_short
returns-clause-item_short g c = line_short g.S.Service.profile.language g.met.S.Service.known.spelled

pub returns-clause-nodes_feedless : goal.returns-clause-nodes_feedless
returns-clause-nodes_feedless g c = nodes_feedless

pub returns-clause-nodes_short : goal.returns-clause-nodes_short
returns-clause-nodes_short g c = nodes_short
