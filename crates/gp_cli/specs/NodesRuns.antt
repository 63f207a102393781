-- What the statuses say of runs of nodes in threads.
use Rattle.std.specs.Prelude.{◌≡◌, ◌≢◌, ◌⊎◌, ◌<◌, ℕ, false, List, [], take, slice_get, Option, Some, None}
use Rattle.std.specs.List.{Contains}
use Rattle.std.specs.Map.{lookup}
use Rattle.gp_command.specs.declared.command.Command.{Command}
use Rattle.gp_command.specs.declared.command.CommandId.{CommandId}
use Rattle.gp_command.specs.Conflict.{conflict}
use Rattle.gp_replica.specs.Machines.{state_of, state_after, reply_of, replies_to, is_named}
use Rattle.gp_store.specs.Effects.{store_rules}
use Rattle.gp_run.specs.Learned.{learned_at}
use Rattle.gp_cluster.specs.Offers.{commands_of}
use Rattle.gp_round.specs.Counts.{Counts}
use Rattle.gp_msg.specs.declared.record.Record.{Record}
use Rattle.gp_run.specs.Runs.{newest_first}
use Rattle.gp_edge.specs.Faults.{Rose}
use Rattle.gp_edge.specs.Writes.{AppendsWhole}
use Rattle.gp_script.specs.declared.reason.Reason.{Reason}
use Rattle.gp_text.specs.declared.offers.Offers.{Offers}
use Rattle.gp_text.specs.Offering.{Offer, Offered, RefusedAt, offers_reading}
use Rattle.gp_text.specs.Offered.{AreOffered}
use Rattle.gp_cluster.specs.declared.policy.RoundPolicy.{RoundPolicy}
use Rattle.gp_cluster.specs.Runs.{IsRunOf, SomeLost, IsOverLimit}
use Rattle.gp_cli.specs.declared.runs.TheConstants.{MOST_READ}
use Rattle.gp_cli.specs.declared.subcommand.Subcommand.{Subcommand}
use Rattle.gp_cli.specs.declared.subcommand.Subcommand.TheVariants.{Play, Run, Sim, Drive, Log, Upgrade, Audit}
use Rattle.gp_cli.specs.Subcommands.{named}
use Rattle.gp_cli.specs.Texts.{log_changed, full_text, broken_text, refusal_text}
use Rattle.gp_cli.specs.Machines.{IsInAgreementOfAll}
use Rattle.gp_cli.specs.Outside.{DeviceState, Outside, Told, device_bytes, device_faults}
use Rattle.gp_cli.specs.Causes.{device_at}
use Rattle.gp_cli.specs.Run.{SomeFailed, HasLearned, HasReadOffers, IsLearnedText}

-- the source reveals its bytes, and up to one more than a script may have they say these offers
abbrev pub HoldsOffers : Offers → DeviceState → Type 0
HoldsOffers offers source = (rest : List ℕ) × (source.bytes ≡ Some rest) × (offers_reading (take MOST_READ rest) ≡ Offered offers)

-- the source reveals its bytes, and up to one more than a script may have a line of them is refused
abbrev pub HoldsBadOffers : DeviceState → Type 0
HoldsBadOffers source = (rest : List ℕ) × (line : ℕ) × (reason : Reason) × (source.bytes ≡ Some rest) × (offers_reading (take MOST_READ rest) ≡ RefusedAt line reason)

-- a script that says these offers, which are within its limits, was read to its end, and the trail is a legal run, in agreement, in which each proposer made its own of them; if rounds adapt, no offer may have been made yet
pub record OffersAll (policy : RoundPolicy) (before now : Outside) (trail : List Record) (offers : Offers) : Type 0 where
  pub read : HasReadOffers before.source now.source (λ read. read ≡ Offered offers)
  pub right : AreOffered offers
  pub run : IsRunOf policy offers.config offers.list trail
  pub agreement : IsInAgreementOfAll offers.config (newest_first trail)

-- such nodes ran until all was learned, and their trace and report, and what readers saw of a key that was viewed, were written in full without a fault
pub record PrintsNodes (policy : RoundPolicy) (limit : ℕ) (viewed : Option (List ℕ)) (before now : Outside) (trail : List Record) : Type 0 where
  pub offers : Offers
  pub whole : OffersAll policy before now trail offers
  pub learned : HasLearned policy limit before.disks now.disks offers trail
  pub steady : now.sink.faults ≡ before.sink.faults
  pub text : List ℕ
  pub says : IsLearnedText viewed offers.config trail text
  pub written : AppendsWhole before.sink.bytes now.sink.bytes text

-- no two of the commands that the offers make conflict
abbrev pub AllCommute : List Offer → Type 0
AllCommute offers = (c d : Command) → Contains (commands_of offers) c → Contains (commands_of offers) d → conflict c d ≡ false

-- the key store of each learner is in the state, and gave to each command the reply, of one that ran the offers in the order of the script
pub record RunsInScriptOrder (offers : Offers) (trail : List Record) : Type 0 where
  pub state : (l : ℕ) → l < offers.config.learners → state_of store_rules (learned_at offers.config l (newest_first trail)) ≡ state_after store_rules (commands_of offers.list)
  pub replies : (l : ℕ) → l < offers.config.learners → (id : CommandId) → reply_of store_rules (learned_at offers.config l (newest_first trail)) id ≡ lookup (is_named id) (replies_to store_rules (commands_of offers.list))

-- such offers were made, and if no two of their commands conflict, the key stores are as if they ran them in the order of the script
pub record CommutesAsInTheScript (policy : RoundPolicy) (before now : Outside) (trail : List Record) : Type 0 where
  pub offers : Offers
  pub whole : OffersAll policy before now trail offers
  pub in_order : AllCommute offers.list → RunsInScriptOrder offers trail

-- `run`, `adapt` or `views` was to read a script, a line of which is refused, and this was printed; no node ran
pub record RefusesOffers (words : List (List ℕ)) (before now : Outside) (status : ℕ) (trail : List Record) : Type 0 where
  pub policy : RoundPolicy
  pub limit : ℕ
  pub viewed : Option (List ℕ)
  pub is_run : named words ≡ Some (Run policy limit viewed)
  pub line : ℕ
  pub reason : Reason
  pub read : HasReadOffers before.source now.source (λ read. read ≡ RefusedAt line reason)
  pub no_trail : trail ≡ []
  pub told : Told before.sink now.sink (refusal_text line reason) 3 3 status

-- no event that may come next at a node with a log needs more bytes than the limit leaves
abbrev pub HasRoomForNext : Counts → ℕ → List Record → Type 0
HasRoomForNext config limit trail = (size need : ℕ) → ¬ IsOverLimit config limit (newest_first trail) size need

-- `run`, `adapt` or `views` ended because an event that may come next at a node with a log needs more bytes than the limit leaves, and this was printed
pub record FillsLog (words : List (List ℕ)) (before now : Outside) (status : ℕ) (trail : List Record) : Type 0 where
  pub policy : RoundPolicy
  pub limit : ℕ
  pub viewed : Option (List ℕ)
  pub is_run : named words ≡ Some (Run policy limit viewed)
  pub offers : Offers
  pub whole : OffersAll policy before now trail offers
  pub size : ℕ
  pub need : ℕ
  pub over : IsOverLimit offers.config limit (newest_first trail) size need
  pub told : Told before.sink now.sink (full_text size need) 7 7 status

-- what was printed says that a disk held other bytes than those that were written: no log, or another one
abbrev pub TellsChange : Outside → Outside → ℕ → Type 0
TellsChange before now status =
    ((place : ℕ) × Told before.sink now.sink (broken_text place) 8 8 status) ⊎ Told before.sink now.sink log_changed 8 8 status

-- `run`, `adapt` or `views` ended because a disk failed that does not reveal what it holds, and what was printed says that it then held other bytes than those that were written
pub record LosesLog (words : List (List ℕ)) (before now : Outside) (status : ℕ) (trail : List Record) : Type 0 where
  pub policy : RoundPolicy
  pub limit : ℕ
  pub viewed : Option (List ℕ)
  pub is_run : named words ≡ Some (Run policy limit viewed)
  pub offers : Offers
  pub whole : OffersAll policy before now trail offers
  pub lost : SomeLost device_bytes device_faults before.disks now.disks
  pub told : TellsChange before now status

-- the words name `run`, `adapt` or `views`
abbrev pub RunsNodes : List (List ℕ) → Type 0
RunsNodes words = (policy : RoundPolicy) × (limit : ℕ) × (viewed : Option (List ℕ)) × (named words ≡ Some (Run policy limit viewed))

-- each disk reveals what it holds
abbrev pub AllReveal : List DeviceState → Type 0
AllReveal disks = (k : ℕ) (s : DeviceState) → slice_get disks k ≡ Some s → s.bytes ≢ None

-- a disk that the subcommand uses failed: the one of `log` and `upgrade`, or some disk of `run`, `adapt` and `views`
abbrev pub DiskFailed : Option Subcommand → Outside → Outside → Type 0
DiskFailed None before now = ⊥
DiskFailed (Some (Play operations)) before now = ⊥
DiskFailed (Some (Run policy limit viewed)) before now = SomeFailed before.disks now.disks
DiskFailed (Some (Sim seed commands)) before now = ⊥
DiskFailed (Some (Drive acceptors learners commands)) before now = ⊥
DiskFailed (Some (Log k)) before now = Rose (device_at k before.disks).faults (device_at k now.disks).faults
DiskFailed (Some (Upgrade k)) before now = Rose (device_at k before.disks).faults (device_at k now.disks).faults
DiskFailed (Some Audit) before now = ⊥
