-- A replay that takes a vote of its epoch, or a Final.
use Rattle.std.proofs.Common.{◌≡◌, inr, ℕ, ◌+◌, ◌<◌, Bool, true, false, ◌==◌, nat_lt, List, [], ◌++◌, length, map, Option, Some, refl, sym, ap, ◌∙◌}
use Rattle.std.specs.Option.{option_to_list}
use Rattle.std.proofs.lemmas.Bool.{lt-ltb}
use Rattle.gp_command.specs.declared.command.Command.{Command}
use Rattle.gp_history.specs.History.{History}
use Rattle.gp_history.specs.Sequence.{history_of}
use Rattle.gp_round.specs.declared.round.Round.{Round}
use Rattle.gp_round.specs.Counts.{Counts}
use Rattle.gp_msg.specs.declared.message.Msg.{Msg}
use Rattle.gp_msg.specs.Messages.{Voted, Stamped, InEpoch, Final, message_of}
use Rattle.gp_learner.specs.State.{Votes}
use Rattle.gp_learner.specs.Table.{votes_with}
use Rattle.gp_learner.specs.Epochs.{LearnerInEpoch, take}
use Rattle.gp_audit.specs.declared.proof.Proof.{Proof}
use Rattle.gp_audit.specs.declared.proof.Cause.{Cause}
use Rattle.gp_audit.specs.declared.proof.Cause.TheVariants as cause
use Rattle.gp_audit.specs.declared.replay.Replay.{Replay}
use Rattle.gp_audit.specs.Noting.{new_proofs, vote_cause, quorums_held, cause_in}
use Rattle.gp_audit.specs.Replays.{IsInStep, KeepsAllButEpoch, NotesVotes, Takes}
use Rattle.gp_audit.proofs.LearnerSteps.{goes_on, ends, ends_with, vote_cause_is, final_cause_is}

-- old took a vote and holds it, which is mid, and noted its new commands
pub record Hears (old mid noted : Replay) (at : ℕ) (r : Round) (a : ℕ) (v : History) (m : Stamped) (outs : List Msg) : Type 0 where
  pub step : IsInStep old
  pub bound : a < old.config.acceptors
  pub is : m ≡ InEpoch old.epoch (Voted r a v)
  pub config : mid.config ≡ old.config
  pub number : mid.number ≡ old.number
  pub epoch : mid.epoch ≡ old.epoch
  pub proofs : mid.proofs.items ≡ old.proofs.items
  pub next : mid.learner ≡ (take old.learner m).0
  pub sent : map message_of outs ≡ option_to_list (take old.learner m).1
  pub held : mid.votes.entries ≡ votes_with old.votes.entries r a v
  pub notes : NotesVotes mid noted at r old.learner.learned

module _ (old mid noted : Replay) (at : ℕ) (r : Round) (a : ℕ) (v : History) (m : Stamped) (outs : List Msg) (h : Hears old mid noted at r a v m outs) where
  abbrev s : LearnerInEpoch
  s = old.learner

  own : m ≡ InEpoch s.epoch (Voted r a v)
  own = h.is ∙ ap (λ (e : ℕ). InEpoch e (Voted r a v)) h.step.epoch

  known : nat_lt a s.state.config.acceptors ≡ true
  known = ap (λ (config : Counts). nat_lt a config.acceptors) (sym h.step.config) ∙ lt-ltb a old.config.acceptors h.bound

  next : mid.learner ≡ (take s (InEpoch s.epoch (Voted r a v))).0
  next = h.next ∙ ap (λ (x : Stamped). (take s x).0) own

  sent : map message_of outs ≡ option_to_list (take s (InEpoch s.epoch (Voted r a v))).1
  sent = h.sent ∙ ap (λ (x : Stamped). option_to_list (take s x).1) own

  held : noted.votes.entries ≡ votes_with s.state.votes r a v
  held = h.notes.votes ∙ h.held ∙ ap (λ (votes : Votes). votes_with votes r a v) h.step.votes

  -- the cause of a command that comes with the vote
  causes : (k : ℕ) → ◌≡◌ {A = Command → Option Cause} (vote_cause mid.epoch r (quorums_held mid.votes.entries mid.config.acceptors r)) (cause_in s k m)
  causes k =
      ap (λ (e : ℕ). vote_cause e r (quorums_held mid.votes.entries mid.config.acceptors r)) (h.epoch ∙ h.step.epoch)
      ∙ ap (λ (votes : Votes). vote_cause s.epoch r (quorums_held votes mid.config.acceptors r)) (h.held ∙ ap (λ (votes : Votes). votes_with votes r a v) h.step.votes)
      ∙ ap (λ (config : Counts). vote_cause s.epoch r (quorums_held (votes_with s.state.votes r a v) config.acceptors r)) (h.config ∙ h.step.config)
      ∙ vote_cause_is s r a v known k
      ∙ ap (cause_in s k) (sym own)

  pub takes : (new : Replay) → IsInStep new → KeepsAllButEpoch noted new → (k : ℕ) → Takes old new at k m
  takes new step keeps k = record {
    step = step;
    number = keeps.number ∙ h.notes.number ∙ h.number;
    next = keeps.learner ∙ h.notes.learner ∙ h.next;
    notes = inr (record {
      commands = h.notes.commands;
      shown = h.notes.shown ∙ ap (λ (x : LearnerInEpoch). x.learned) (sym (keeps.learner ∙ h.notes.learner));
      noted = keeps.proofs ∙ h.notes.noted ∙ ap (λ (ps : List Proof). ps ++ new_proofs s.learned at (vote_cause mid.epoch r (quorums_held mid.votes.entries mid.config.acceptors r)) h.notes.commands) h.proofs
          ∙ ap (λ (why : Command → Option Cause). old.proofs.items ++ new_proofs s.learned at why h.notes.commands) (causes k);
    });
  }

  -- the epoch goes on
  pub heard : (b : Bool) → b ≡ (length outs == 0) → b ≡ true → (k : ℕ) → Takes old noted at k m
  heard b is t k =
      let on = goes_on s r a v known mid.learner outs b next sent is t in
      takes noted
      (record {
        config = h.notes.config ∙ h.config ∙ h.step.config ∙ sym on.config ∙ ap (λ (x : LearnerInEpoch). x.state.config) (sym h.notes.learner);
        epoch = h.notes.epoch ∙ h.epoch ∙ h.step.epoch ∙ sym on.epoch ∙ ap (λ (x : LearnerInEpoch). x.epoch) (sym h.notes.learner);
        votes = held ∙ sym on.votes_are ∙ ap (λ (x : LearnerInEpoch). x.state.votes) (sym h.notes.learner);
      })
      (record { config = refl; number = refl; learner = refl; proofs = refl }) k

  -- the epoch ends
  pub heard_last : (new : Replay) (b : Bool) → b ≡ (length outs == 0) → b ≡ false → new.epoch ≡ noted.epoch + 1 → new.votes.entries ≡ [] → KeepsAllButEpoch noted new → (k : ℕ) → Takes old new at k m
  heard_last new b is f next_epoch none keeps k =
      let end = ends s r a v known mid.learner outs b next sent is f in
      let same : new.learner ≡ mid.learner = keeps.learner ∙ h.notes.learner in
      takes new
      (record {
        config = keeps.config ∙ h.notes.config ∙ h.config ∙ h.step.config ∙ sym end.config ∙ ap (λ (x : LearnerInEpoch). x.state.config) (sym same);
        epoch = next_epoch ∙ ap (λ (e : ℕ). e + 1) (h.notes.epoch ∙ h.epoch ∙ h.step.epoch) ∙ sym end.epoch ∙ ap (λ (x : LearnerInEpoch). x.epoch) (sym same);
        votes = none ∙ sym end.votes_are ∙ ap (λ (x : LearnerInEpoch). x.state.votes) (sym same);
      })
      keeps k

-- a Final of its epoch
pub passed : (old new : Replay) (at k : ℕ) (m : Stamped) → IsInStep old → (l : ℕ) (v : History) → m ≡ Final old.epoch l v → (mid : LearnerInEpoch) → mid ≡ (take old.learner m).0
    → (commands : List Command) → history_of commands ≡ mid.learned → (noted : Replay) → noted.config ≡ old.config → noted.number ≡ old.number → noted.epoch ≡ old.epoch → noted.learner ≡ mid
    → noted.proofs.items ≡ old.proofs.items ++ new_proofs old.learner.learned at (λ c. Some (cause.Final k)) commands
    → new.epoch ≡ noted.epoch + 1 → new.votes.entries ≡ [] → KeepsAllButEpoch noted new → Takes old new at k m
passed old new at k m step l v is mid next commands shown noted config number epoch learner noted_is next_epoch none keeps =
    let own : m ≡ Final old.learner.epoch l v = is ∙ ap (λ (e : ℕ). Final e l v) step.epoch in
    let end = ends_with old.learner mid l v (next ∙ ap (λ (x : Stamped). (take old.learner x).0) own) in
    let same : new.learner ≡ mid = keeps.learner ∙ learner in
    record {
      step = record {
        config = keeps.config ∙ config ∙ step.config ∙ sym end.config ∙ ap (λ (x : LearnerInEpoch). x.state.config) (sym same);
        epoch = next_epoch ∙ ap (λ (e : ℕ). e + 1) (epoch ∙ step.epoch) ∙ sym end.epoch ∙ ap (λ (x : LearnerInEpoch). x.epoch) (sym same);
        votes = none ∙ sym end.votes_are ∙ ap (λ (x : LearnerInEpoch). x.state.votes) (sym same);
      };
      number = keeps.number ∙ number;
      next = same ∙ next;
      notes = inr (record {
        commands = commands;
        shown = shown ∙ ap (λ (x : LearnerInEpoch). x.learned) (sym same);
        noted = keeps.proofs ∙ noted_is ∙ ap (λ (why : Command → Option Cause). old.proofs.items ++ new_proofs old.learner.learned at why commands) (final_cause_is old.learner k l v ∙ ap (cause_in old.learner k) (sym own));
      });
    }
