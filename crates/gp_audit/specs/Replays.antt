-- What a replay of a learner holds, and how it changes.
use Rattle.std.specs.Prelude.{◌≡◌, ◌⊎◌, ℕ, true, List, ◌++◌}
use Rattle.std.specs.List.{Contains}
use Rattle.gp_command.specs.declared.command.Command.{Command}
use Rattle.gp_history.specs.History.{History, has}
use Rattle.gp_round.specs.declared.round.Round.{Round}
use Rattle.gp_history.specs.Sequence.{history_of}
use Rattle.gp_round.specs.Counts.{Counts}
use Rattle.gp_msg.specs.Messages.{Stamped, Entry}
use Rattle.gp_learner.specs.Epochs.{take}
use Rattle.gp_run.specs.States.{learner_at}
use Rattle.gp_audit.specs.declared.proof.Proof.{Proof}
use Rattle.gp_audit.specs.declared.replay.Replay.{Replay}
use Rattle.gp_audit.specs.Noting.{new_proofs, vote_cause, quorums_held, cause_in}
use Rattle.gp_audit.specs.Certificates.{IsProof}

-- the configuration, the epoch and the votes are those of the learner
pub record IsInStep (r : Replay) : Type 0 where
  pub config : r.config ≡ r.learner.state.config
  pub epoch : r.epoch ≡ r.learner.epoch
  pub votes : r.votes.entries ≡ r.learner.state.votes

-- only the epoch and the votes change
pub record KeepsAllButEpoch (old new : Replay) : Type 0 where
  pub config : new.config ≡ old.config
  pub number : new.number ≡ old.number
  pub learner : new.learner ≡ old.learner
  pub proofs : new.proofs.items ≡ old.proofs.items

-- the proofs of those commands were added that were not known and are in the meet of a quorum whose votes of round r are all held; nothing else changed
pub record NotesVotes (old new : Replay) (at : ℕ) (r : Round) (known : History) : Type 0 where
  pub config : new.config ≡ old.config
  pub number : new.number ≡ old.number
  pub learner : new.learner ≡ old.learner
  pub epoch : new.epoch ≡ old.epoch
  pub votes : new.votes.entries ≡ old.votes.entries
  pub commands : List Command
  pub shown : history_of commands ≡ old.learner.learned
  pub noted : new.proofs.items ≡ old.proofs.items ++ new_proofs known at (vote_cause old.epoch r (quorums_held old.votes.entries old.config.acceptors r)) commands

-- the proofs of its new commands were added, which message k, m, brought at record `at`
pub record Notes (old new : Replay) (at k : ℕ) (m : Stamped) : Type 0 where
  pub commands : List Command
  pub shown : history_of commands ≡ new.learner.learned
  pub noted : new.proofs.items ≡ old.proofs.items ++ new_proofs old.learner.learned at (cause_in old.learner k m) commands

-- nothing was learned, and no proofs were added
abbrev pub NotesNothing : Replay → Replay → Type 0
NotesNothing old new = (new.learner ≡ old.learner) × (new.proofs.items ≡ old.proofs.items)

-- the learner took message k, which is m, at record `at`
pub record Takes (old new : Replay) (at k : ℕ) (m : Stamped) : Type 0 where
  pub step : IsInStep new
  pub number : new.number ≡ old.number
  pub next : new.learner ≡ (take old.learner m).0
  pub notes : NotesNothing old new ⊎ Notes old new at k m

-- the learner is learner l after a run, each proof is the certificate of a command, and each command that it shows has one
pub record IsReplayed (config : Counts) (es : List Entry) (l : ℕ) (r : Replay) : Type 0 where
  pub number : r.number ≡ l
  pub learner : r.learner ≡ learner_at config l es
  pub step : IsInStep r
  pub sound : (p : Proof) → Contains r.proofs.items p → (c : Command) × IsProof config es l c p
  pub complete : (c : Command) → has r.learner.learned c ≡ true → (p : Proof) × Contains r.proofs.items p × (p.id ≡ c.id)
