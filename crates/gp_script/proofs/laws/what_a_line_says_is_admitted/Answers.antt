use Rattle.gp_script.proofs.ItemLemmas.{item_admitted}
use Rattle.gp_script.proofs.laws.what_a_line_says_is_admitted.Goals as goal

pub returns : goal.returns
returns g c = item_admitted g.S.Service.profile.language g.met.S.Service.known.spelled
