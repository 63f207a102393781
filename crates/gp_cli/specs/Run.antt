-- Why a run of nodes in threads ends as it does.
use Rattle.std.specs.Prelude.{◌≡◌, ◌⊎◌, ℕ, List, [], Option, Some, None}
use Rattle.gp_round.specs.Counts.{Counts}
use Rattle.gp_msg.specs.declared.record.Record.{Record}
use Rattle.gp_run.specs.Runs.{newest_first}
use Rattle.gp_edge.specs.Faults.{Rose}
use Rattle.gp_edge.specs.Reads.{ReadsUpTo, LosesUpTo}
use Rattle.gp_text.specs.declared.offers.Offers.{Offers}
use Rattle.gp_text.specs.Offering.{OffersReading, Offered, RefusedAt, offers_reading}
use Rattle.gp_shelf.specs.Making.{SomeRose}
use Rattle.gp_ending.specs.declared.ends.RunEnd.{RunEnd}
use Rattle.gp_ending.specs.declared.ends.RunEnd.TheVariants as end
use Rattle.gp_cluster.specs.declared.policy.RoundPolicy.{RoundPolicy}
use Rattle.gp_onlookers.specs.declared.looks.Look.{Look}
use Rattle.gp_retelling.specs.Texts.{run_text, IsViewsText}
use Rattle.gp_cluster.specs.Runs.{IsRunOf, HasLearnedAll, IsQuietOrSettled, EndCause, HoldParts}
use Rattle.gp_cli.specs.declared.runs.TheConstants.{MOST_READ}
use Rattle.gp_cli.specs.Texts.{disk_fault, log_changed, full_text, broken_text}
use Rattle.gp_cli.specs.Outside.{DeviceState, device_faults, device_bytes}
use Rattle.gp_cli.specs.Endings.{Ending, Unread, Refuses, Runs, Starved}

-- the count of faults of some disk rose
abbrev pub SomeFailed : List DeviceState → List DeviceState → Type 0
SomeFailed old new = SomeRose device_faults old new

-- ---- the nodes

-- memory ran out or a disk failed, so it may be that nothing was posted
abbrev pub MayPostNothing : RunEnd → Type 0
MayPostNothing why = (why ≡ end.NoMemory) ⊎ (why ≡ end.Disk)

-- the records are a legal run in which each proposer made its own offers, or none yet if rounds adapt; or there are no records because the run ended before its wire was closed
abbrev pub ArePosted : RoundPolicy → Offers → RunEnd → List Record → Type 0
ArePosted policy offers why list = IsRunOf policy offers.config offers.list list ⊎ ((list ≡ []) × MayPostNothing why)

-- all was learned: if no disk failed, the run is quiet or settled, and each disk of a node holds the node's last durable part
pub record HasLearned (policy : RoundPolicy) (limit : ℕ) (old new : List DeviceState) (offers : Offers) (list : List Record) : Type 0 where
  pub all : HasLearnedAll offers.config offers.list list
  pub quiet : ¬ SomeFailed old new → IsQuietOrSettled policy offers.config offers.list list
  pub parts : HoldParts device_bytes offers.config limit (newest_first list) new

-- what is printed of a run in which all was learned: its trace and report, followed, if readers viewed a key, by the order in which a replica of learner 0 ran what that learner learned, and by what each reader saw of the key along that order
abbrev pub IsLearnedText : Option (List ℕ) → Counts → List Record → List ℕ → Type 0
IsLearnedText None config list text = text ≡ run_text config list
IsLearnedText (Some key) config list text = (first : List Look) × (second : List Look) × IsViewsText key config list first second text

-- what is printed of a run that ended in this way
abbrev pub IsEndText : Option (List ℕ) → RunEnd → Counts → List Record → List ℕ → Type 0
IsEndText viewed end.Learned config list text = IsLearnedText viewed config list text
IsEndText viewed end.NoMemory config list text = text ≡ []
IsEndText viewed end.Disk config list text = text ≡ disk_fault
IsEndText viewed (end.Full size need) config list text = text ≡ full_text size need
IsEndText viewed (end.NotLog at) config list text = text ≡ broken_text at
IsEndText viewed end.Changed config list text = text ≡ log_changed

-- nodes ran that offered what a script says, and ended in this way, with this text, by the disks before and now
pub record HasRun (policy : RoundPolicy) (limit : ℕ) (viewed : Option (List ℕ)) (old new : List DeviceState) (offers : Offers) (why : RunEnd) (config : Counts) (list : List Record) (text : List ℕ) : Type 0 where
  pub own_config : config ≡ offers.config
  pub posted : ArePosted policy offers why list
  pub cause : EndCause device_bytes device_faults config limit old new (Some list) why
  pub learned : why ≡ end.Learned → HasLearned policy limit old new offers list
  pub says : IsEndText viewed why config list text

-- ---- the script

-- why a run with the script at hand ends in this way, by what the script says
abbrev pub IsOffersCause : RoundPolicy → ℕ → Option (List ℕ) → OffersReading → List DeviceState → List DeviceState → Ending → Type 0
IsOffersCause policy limit viewed read old new (Refuses line reason said) = (said ≡ None) × (read ≡ RefusedAt line reason)
IsOffersCause policy limit viewed read old new (Runs why config list text) = (offers : Offers) × (read ≡ Offered offers) × HasRun policy limit viewed old new offers why config list text
IsOffersCause policy limit viewed read old new Starved = Unit {0}
IsOffersCause policy limit viewed read old new ending = ⊥

-- the bytes read, up to one more than a script may have, say this as a script of `run`, and no fault was counted
pub record HasReadOffers (before now : DeviceState) (Says : OffersReading → Type 0) : Type 0 where
  pub bytes : List ℕ
  pub taken : ReadsUpTo MOST_READ before.bytes now.bytes bytes
  pub steady : now.faults ≡ before.faults
  pub says : Says (offers_reading bytes)

-- why a run that first reads a script ends in this way, by the source and the disks before and now
abbrev pub IsNodesCause : RoundPolicy → ℕ → Option (List ℕ) → DeviceState → DeviceState → List DeviceState → List DeviceState → Ending → Type 0
IsNodesCause policy limit viewed before now old new Unread = Rose before.faults now.faults × LosesUpTo MOST_READ before.bytes now.bytes
IsNodesCause policy limit viewed before now old new (Refuses line reason said) = HasReadOffers before now (λ read. IsOffersCause policy limit viewed read old new (Refuses line reason said))
IsNodesCause policy limit viewed before now old new (Runs why config list text) = HasReadOffers before now (λ read. IsOffersCause policy limit viewed read old new (Runs why config list text))
IsNodesCause policy limit viewed before now old new Starved = (now.faults ≡ before.faults) × LosesUpTo MOST_READ before.bytes now.bytes
IsNodesCause policy limit viewed before now old new ending = ⊥
