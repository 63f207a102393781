use Rattle.gp_text.proofs.PlayedAlone.{script_alone}
use Rattle.gp_text.proofs.OffersAgain.{script_again}
use Rattle.gp_text.proofs.laws.offers_are_played_alone.Goals as goal

pub returns : goal.returns
returns c = λ bytes offers. (
  λ e.
      let played = script_alone bytes offers e in
      let offered = played.offered in
      (played.alone, offered.few),
  λ alone. script_again bytes offers alone.1 alone.0,
)
