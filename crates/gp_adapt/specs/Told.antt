-- What watches report to calls that ask for the next round.
use Rattle.std.specs.Prelude.{◌≡◌, ◌<◌, ℕ, Bool, true, List, [], ◌∷◌, All, Option, Some, None, unwrap_or}
use Rattle.std.specs.List.{Contains}
use Rattle.gp_round.specs.declared.round.Round.{Round}
use Rattle.gp_round.specs.Counts.{Counts}
use Rattle.gp_msg.specs.Messages.{Stamped, Entry}
use Rattle.gp_run.specs.Messages.{messages}
use Rattle.gp_run.specs.Legal.{Legal}
use Rattle.gp_collide.specs.Watched.{watched}
use Rattle.gp_collide.specs.Clashes.{HasClash}
use Rattle.gp_round.specs.declared.config.TheConstants.{LAST_COUNT}
use Rattle.gp_adapt.specs.Courses.{opening}
use Rattle.gp_adapt.specs.Calls.{Call, AreAnswered}

-- each of these is a message of the run
abbrev pub AreSent : List Entry → List Stamped → Type 0
AreSent es ms = All (λ m. Contains (messages es) m) ms

-- a collision is reported only if a watch of round r, in some epoch, that saw messages of one legal run has noticed a collision
pub record IsTold (r : Round) (clashed : Bool) : Type 0 where
  pub config : Counts
  pub some : 0 < config.acceptors
  pub entries : List Entry
  pub legal : Legal config entries
  pub epoch : ℕ
  pub seen : List Stamped
  pub sent : AreSent entries seen
  pub clash : clashed ≡ true → HasClash (watched (epoch, r) seen)

-- each call reports what a watch of the round last returned says; before the first returned round there is none
abbrev pub AreTold : Option Round → List Call → Type 0
AreTold last [] = Unit {0}
AreTold None (c ∷ cs) = AreTold c.answer cs
AreTold (Some r) (c ∷ cs) = IsTold r c.clashed × AreTold (Some (unwrap_or c.answer r)) cs

-- all calls from the first one on, each of which had a count left and reported what a watch of the round last returned says
pub record AreWatchedCalls (calm : ℕ) (cs : List Call) : Type 0 where
  pub answered : AreAnswered (opening calm) cs
  pub told : AreTold None cs
  pub counts : All (λ c. c.highest.count < LAST_COUNT) cs
