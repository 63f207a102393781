-- What holds of a driven run.
use Rattle.std.specs.Prelude.{◌≡◌, ◌<◌, ◌+◌, ◌*◌, ℕ, suc, true, false, List, [], ◌∷◌, ◌++◌, length, take, drop}
use Rattle.std.specs.List.{All, Contains}
use Rattle.gp_command.specs.declared.command.Command.{Command}
use Rattle.gp_command.specs.declared.draft.Draft.{Draft}
use Rattle.gp_history.specs.History.{has}
use Rattle.gp_round.specs.Counts.{Counts}
use Rattle.gp_msg.specs.declared.node.Node.TheVariants.{Coordinator}
use Rattle.gp_msg.specs.declared.event.Event.{Event}
use Rattle.gp_msg.specs.declared.event.Event.TheVariants.{Offer, Begin, Take, Fall}
use Rattle.gp_msg.specs.Messages.{Entry}
use Rattle.gp_run.specs.Legal.{Legal}
use Rattle.gp_run.specs.Runs.{AreOfOthers}
use Rattle.gp_run.specs.Learned.{learned_at}
use Rattle.gp_driver.specs.Driving.{first_round, all_driven, drive_multi}

-- the command that proposer 0 makes of a draft after n offers
abbrev pub command : ℕ → Draft → Command
command n draft = record { id = record { proposer = 0; number = n + 1 }; draft = draft }

-- the commands that proposer 0 makes of drafts after n offers
abbrev pub commands : ℕ → List Draft → List Command
commands n [] = []
commands n (draft ∷ drafts) = command n draft ∷ commands (suc n) drafts

-- the event, if it begins a round
abbrev pub begun_by : Event → List Event
begun_by (Offer p d) = []
begun_by (Begin c r) = Begin c r ∷ []
begun_by (Take node k) = []
begun_by (Fall node what) = []

-- the events of a run that begin a round, the newest first
abbrev pub beginnings : List Entry → List Event
beginnings [] = []
beginnings (e ∷ es) = begun_by e.event ++ beginnings es

-- no draft is a checkpoint
abbrev pub AreNoCheckpoints : List Draft → Type 0
AreNoCheckpoints drafts = All (λ draft. draft.checkpoint ≡ false) drafts

-- the driven run is legal and has exactly this number of events; one of them begins a round, and none is of coordinator 2; drafts are driven one after another, and after the first i drafts every learner shows their commands, whether or not they conflict
pub record DrivesMulti (config : Counts) (drafts : List Draft) : Type 0 where
  pub legal : Legal config (drive_multi config drafts)
  pub events : length (drive_multi config drafts) ≡ 3 + 5 * config.acceptors + config.acceptors * config.learners + length drafts * (3 + 2 * config.acceptors + config.acceptors * config.learners)
  pub one_beginning : beginnings (drive_multi config drafts) ≡ Begin 0 first_round ∷ []
  pub silent : AreOfOthers (Coordinator 2) (drive_multi config drafts)
  pub goes_on : (i : ℕ) → drive_multi config drafts ≡ all_driven config (drop i drafts) (drive_multi config (take i drafts))
  pub shown : (i l : ℕ) → l < config.learners → (c : Command) → Contains (commands 0 (take i drafts)) c → has (learned_at config l (drive_multi config (take i drafts))) c ≡ true
