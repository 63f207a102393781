use Rattle.gp_text.proofs.ShortScripts.{script_short}
use Rattle.gp_text.specs.Offered.{offers_alone}
use Rattle.gp_text.proofs.PlayedAlone.{script_alone}
use Rattle.gp_text.proofs.OffersTraced.{offers_traced}
use Rattle.gp_text.proofs.laws.what_is_right_is_offered.Goals as goal

pub returns-clause-right : goal.returns-clause-right
returns-clause-right c = λ bytes offers e. let played = script_alone bytes offers e in played.offered

pub returns-clause-traced : goal.returns-clause-traced
returns-clause-traced c = offers_traced

pub returns-clause-short : goal.returns-clause-short
returns-clause-short c = λ bytes offers e. let played = script_alone bytes offers e in script_short bytes offers.config (offers_alone offers.list) played.alone
