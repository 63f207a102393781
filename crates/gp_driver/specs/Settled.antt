-- What holds of a settled run.
use Rattle.std.specs.Prelude.{◌≡◌, ◌<◌, ◌≤◌, ◌+◌, ℕ, suc, true, List, [], ◌∷◌, ◌++◌, length}
use Rattle.std.specs.List.{Contains}
use Rattle.gp_command.specs.declared.command.Command.{Command}
use Rattle.gp_command.specs.declared.draft.Draft.{Draft}
use Rattle.gp_history.specs.History.{has}
use Rattle.gp_round.specs.Counts.{Counts}
use Rattle.gp_msg.specs.declared.event.Event.{Event}
use Rattle.gp_msg.specs.declared.event.Event.TheVariants.{Offer, Begin, Take, Fall}
use Rattle.gp_msg.specs.Messages.{Offered, Entry}
use Rattle.gp_msg.specs.declared.message.MsgKind.TheVariants as Kind
use Rattle.gp_run.specs.Messages.{messages}
use Rattle.gp_run.specs.Legal.{Legal}
use Rattle.gp_run.specs.Learned.{learned_at}
use Rattle.gp_driver.specs.Sweeps.{places}
use Rattle.gp_driver.specs.Settling.{passes, CanPass, checkpoints, prepared, settle, settling_passes, settling_events}

-- each learner shows every offered command
abbrev pub AllLearned : Counts → List Entry → Type 0
AllLearned config es = (l : ℕ) → l < config.learners → (c : Command) → Contains (messages es) (Offered c) → has (learned_at config l es) c ≡ true

-- the draft of the event, if it offers one
abbrev pub offered_by : Event → List Draft
offered_by (Offer p d) = d ∷ []
offered_by (Begin c r) = []
offered_by (Take node k) = []
offered_by (Fall node what) = []

-- the drafts that are offered in a run, the newest first
abbrev pub offers : List Entry → List Draft
offers [] = []
offers (e ∷ es) = offered_by e.event ++ offers es

-- the newer run is the older one with more entries, in which nothing is offered
pub record GoesOn (old new : List Entry) : Type 0 where
  pub more : List Entry
  pub extends : new ≡ more ++ old
  pub no_offers : offers more ≡ []

-- the settled run extends the run before without an offer. It is legal, and every learner has learned every offered command. Settling takes exactly this number of events, and at most one pass more than checkpoints were offered. The last pass closes no epoch, so a higher limit of passes changes nothing. Each pass can begin its round
pub record Settles (config : Counts) (es : List Entry) : Type 0 where
  pub goes_on : GoesOn es (settle config es)
  pub legal : Legal config (settle config es)
  pub learned : AllLearned config (settle config es)
  pub some : 0 < settling_passes config es
  pub few : settling_passes config es ≤ suc (checkpoints (messages es))
  pub enough : (n : ℕ) → passes config (suc (checkpoints (messages es)) + n) (prepared config es) ≡ settle config es
  pub can : (n : ℕ) → CanPass config (suc (checkpoints (messages es)) + n) (prepared config es)
  pub events : length (settle config es) ≡ length es + settling_events config (length (places Kind.Final 0 (messages es))) (length (places Kind.Propose 0 (messages es))) (settling_passes config es)
