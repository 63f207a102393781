use Rattle.gp_script.proofs.CountsLemmas.{nodes_say, only_nodes, counts_in_range}
use Rattle.gp_script.proofs.laws.a_configuration_has_one_line.Goals as goal

pub returns-clause-read : goal.returns-clause-read
returns-clause-read c = nodes_say

pub returns-clause-only : goal.returns-clause-only
returns-clause-only c = only_nodes

pub returns-clause-range : goal.returns-clause-range
returns-clause-range c = counts_in_range
