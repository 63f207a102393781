use Rattle.gp_agreement.proofs.Facts.{chosen_are_compatible}
use Rattle.gp_agreement.proofs.laws.chosen_values_agree.Goals as goal

pub returns : goal.returns
returns g config some es legal e r j x y v w c d = chosen_are_compatible config some es legal e x y v w r j c d
