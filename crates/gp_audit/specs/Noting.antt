-- What is noted when a learner takes a message.
use Rattle.std.specs.Prelude.{ℕ, cond, ◌&&◌, nat_eq, nat_lt, List, [], ◌∷◌, Option, Some, None}
use Rattle.std.specs.List.{filter_map}
use Rattle.std.specs.Option.{option_map}
use Rattle.gp_command.specs.declared.command.Command.{Command}
use Rattle.gp_history.specs.History.{History, has}
use Rattle.gp_round.specs.declared.round.Round.{Round}
use Rattle.gp_round.specs.Configs.{quorum_size}
use Rattle.gp_round.specs.Sets.{masks}
use Rattle.gp_safe.specs.Meets.{quorum_meet, everyone}
use Rattle.gp_learner.specs.State.{Votes}
use Rattle.gp_learner.specs.Table.{vote_of, votes_with}
use Rattle.gp_learner.specs.Epochs.{LearnerInEpoch}
use Rattle.gp_msg.specs.Messages.{Proposed, Asked, Answered, Sent, Voted, Stamped, Offered, InEpoch, Final}
use Rattle.gp_audit.specs.declared.proof.Proof.{Proof}
use Rattle.gp_audit.specs.declared.proof.Cause.{Cause}
use Rattle.gp_audit.specs.declared.proof.Cause.TheVariants as cause

-- a mask with its meet, if it has one, before the others
abbrev pub add_whole : ℕ → Option History → List (ℕ × History) → List (ℕ × History)
add_whole m None qs = qs
add_whole m (Some h) qs = (m, h) ∷ qs

-- those masks of n senders whose values are all there, each with the meet of these values
abbrev pub whole_quorums : (ℕ → Option History) → ℕ → List ℕ → List (ℕ × History)
whole_quorums f n [] = []
whole_quorums f n (m ∷ ms) = add_whole m (quorum_meet f everyone n m) (whole_quorums f n ms)

-- the first of these masks whose meet has the command
abbrev pub first_with : List (ℕ × History) → Command → Option ℕ
first_with [] c = None
first_with (q ∷ qs) c = cond (has q.1 c) (Some q.0) (first_with qs c)

-- the proof of a command with this cause
abbrev pub proof_of : ℕ → Command → Cause → Proof
proof_of at c why = record { id = c.id; at = at; cause = why }

-- the cause of a command that came with a vote of a round, given the quorums whose votes are all held
abbrev pub vote_cause : ℕ → Round → List (ℕ × History) → Command → Option Cause
vote_cause e r qs c = option_map (λ mask. cause.Quorum e r mask) (first_with qs c)

-- the proof of a command, if it was not known and has a cause
abbrev pub new_proof : History → ℕ → (Command → Option Cause) → Command → Option Proof
new_proof known at why c = cond (has known c) None (option_map (proof_of at c) (why c))

-- the proofs of those commands that were not known and have a cause
abbrev pub new_proofs : History → ℕ → (Command → Option Cause) → List Command → List Proof
new_proofs known at why cs = filter_map (new_proof known at why) cs

-- the quorums of the least size of n acceptors whose votes of round r are all held
abbrev pub quorums_held : Votes → ℕ → Round → List (ℕ × History)
quorums_held votes n r = whole_quorums (vote_of votes r) n (masks n (quorum_size n r.mode))

-- the quorums of round r whose votes are all held after a learner takes a vote
abbrev pub quorums_then : LearnerInEpoch → Round → ℕ → History → List (ℕ × History)
quorums_then s r a v = quorums_held (votes_with s.state.votes r a v) s.state.config.acceptors r

-- the cause of a command that message k brings if a learner in this state takes it
abbrev pub cause_in : LearnerInEpoch → ℕ → Stamped → Command → Option Cause
cause_in s k (Offered d) c = None
cause_in s k (InEpoch e (Proposed d)) c = None
cause_in s k (InEpoch e (Asked r)) c = None
cause_in s k (InEpoch e (Answered r a q v)) c = None
cause_in s k (InEpoch e (Sent r b v)) c = None
cause_in s k (InEpoch e (Voted r a v)) c = cond (nat_eq e s.epoch && nat_lt a s.state.config.acceptors) (vote_cause e r (quorums_then s r a v) c) None
cause_in s k (Final e l v) c = cond (nat_eq e s.epoch) (Some (cause.Final k)) None
