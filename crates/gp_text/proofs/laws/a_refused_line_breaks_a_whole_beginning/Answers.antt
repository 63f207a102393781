use Rattle.gp_text.proofs.RefusedLines.{breaks_at}
use Rattle.gp_text.proofs.laws.a_refused_line_breaks_a_whole_beginning.Goals as goal

pub returns : goal.returns
returns g c = breaks_at g.S.Service.profile.language
