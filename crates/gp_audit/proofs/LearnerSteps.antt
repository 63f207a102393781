-- What a learner keeps once it took a vote or a Final.
use Rattle.std.proofs.Common.{◌≡◌, ℕ, suc, ◌+◌, Bool, true, false, cond, ◌&&◌, ◌==◌, nat_eq, nat_lt, List, [], ◌∷◌, length, map, Option, Some, None, refl, sym, ap, subst, ◌∙◌, arith, add-one}
use Rattle.std.specs.Option.{option_to_list}
use Rattle.gp_command.specs.declared.command.Command.{Command}
use Rattle.gp_history.specs.History.{History}
use Rattle.gp_round.specs.declared.round.Round.{Round}
use Rattle.gp_epoch.specs.Cut.{first_checkpoint}
use Rattle.gp_msg.specs.declared.message.Msg.{Msg}
use Rattle.gp_msg.specs.Messages.{Voted, Stamped, InEpoch, Final, message_of}
use Rattle.gp_learner.specs.State.{LearnerState, Votes}
use Rattle.gp_learner.specs.Table.{learner_take, votes_with, hearing}
use Rattle.gp_learner.specs.Epochs as learner
use Rattle.gp_learner.specs.Epochs.{LearnerInEpoch}
use Rattle.gp_audit.specs.declared.proof.Cause.{Cause}
use Rattle.gp_audit.specs.declared.proof.Cause.TheVariants as cause
use Rattle.gp_audit.specs.Noting.{vote_cause, quorums_then, cause_in}
use Rattle.std.proofs.lemmas.Bool.{eq-eqb}
use Rattle.std.proofs.lemmas.Bool.Decides.{nat_tests}

-- a number is itself
same_itself : (n : ℕ) → nat_eq n n ≡ true
same_itself n = eq-eqb n n refl

not_zero : (n : ℕ) → (suc n == 0) ≡ false
not_zero n = grind (arith, nat_tests)

-- the vote is of the epoch and of an acceptor that is known
pub is_known : (e a n : ℕ) → nat_lt a n ≡ true → (nat_eq e e && nat_lt a n) ≡ true
is_known e a n h = ap (λ b. b && nat_lt a n) (same_itself e) ∙ h

-- what is kept where an epoch goes on, and where it ends
pub record GoesOn (s new : LearnerInEpoch) (votes : Votes) : Type 0 where
  pub config : new.state.config ≡ s.state.config
  pub epoch : new.epoch ≡ s.epoch
  pub votes_are : new.state.votes ≡ votes

pub record Ends (s new : LearnerInEpoch) : Type 0 where
  pub config : new.state.config ≡ s.state.config
  pub epoch : new.epoch ≡ s.epoch + 1
  pub votes_are : new.state.votes ≡ []

module _ (s : LearnerInEpoch) (r : Round) (a : ℕ) (v : History) (known : nat_lt a s.state.config.acceptors ≡ true) where
  -- with the vote
  abbrev pub with_vote : LearnerState
  with_vote = hearing s.state r (votes_with s.state.votes r a v)

  abbrev vote : Stamped
  vote = InEpoch s.epoch (Voted r a v)

  pub take_is : learner.take s vote ≡ learner.learning (learner.with_state s with_vote) (first_checkpoint with_vote.learned)
  take_is =
      ap (λ (b : Bool). cond b (learner.hearing s (learner_take s.state (Voted r a v))) (s, None)) (is_known s.epoch a s.state.config.acceptors known)
      ∙ ap (λ (b : Bool). learner.hearing s (cond b with_vote s.state)) known

  abbrev Kept : Bool → LearnerInEpoch → Type 0
  Kept true new = GoesOn s new (votes_with s.state.votes r a v)
  Kept false new = Ends s new

  by_outs : (o : Option Command) (outs : List Msg) → map message_of outs ≡ option_to_list (learner.learning (learner.with_state s with_vote) o).1
      → Kept (length outs == 0) (learner.learning (learner.with_state s with_vote) o).0
  by_outs None [] e = record { config = refl; epoch = refl; votes_are = refl }
  by_outs None (m ∷ outs) e = absurd (cc)
  by_outs (Some z) [] e = absurd (cc)
  by_outs (Some z) (m ∷ outs) e =
      subst (λ (x : Bool). Kept x (learner.learning (learner.with_state s with_vote) (Some z)).0) (sym (not_zero (length outs)))
      (record { config = refl; epoch = sym (add-one s.epoch); votes_are = refl })

  kept : (new : LearnerInEpoch) (outs : List Msg) → new ≡ (learner.take s vote).0 → map message_of outs ≡ option_to_list (learner.take s vote).1 → Kept (length outs == 0) new
  kept new outs e sent =
      subst (λ (u : LearnerInEpoch). Kept (length outs == 0) u) (sym (e ∙ ap (λ (p : LearnerInEpoch × Option Stamped). p.0) take_is))
      (by_outs (first_checkpoint with_vote.learned) outs (sent ∙ ap (λ (p : LearnerInEpoch × Option Stamped). option_to_list p.1) take_is))

  pub goes_on : (new : LearnerInEpoch) (outs : List Msg) (b : Bool) → new ≡ (learner.take s vote).0 → map message_of outs ≡ option_to_list (learner.take s vote).1 → b ≡ (length outs == 0) → b ≡ true
      → GoesOn s new (votes_with s.state.votes r a v)
  goes_on new outs b e sent is t = subst (λ (x : Bool). Kept x new) (sym is ∙ t) (kept new outs e sent)

  pub ends : (new : LearnerInEpoch) (outs : List Msg) (b : Bool) → new ≡ (learner.take s vote).0 → map message_of outs ≡ option_to_list (learner.take s vote).1 → b ≡ (length outs == 0) → b ≡ false
      → Ends s new
  ends new outs b e sent is t = subst (λ (x : Bool). Kept x new) (sym is ∙ t) (kept new outs e sent)

  -- the cause of a command that comes with the vote
  pub vote_cause_is : (k : ℕ) → ◌≡◌ {A = Command → Option Cause} (vote_cause s.epoch r (quorums_then s r a v)) (cause_in s k vote)
  vote_cause_is k = λ j c. cond (sym (is_known s.epoch a s.state.config.acceptors known) j) (vote_cause s.epoch r (quorums_then s r a v) c) None

-- a Final of its epoch ends the epoch
pub ends_with : (s new : LearnerInEpoch) (l : ℕ) (v : History) → new ≡ (learner.take s (Final s.epoch l v)).0 → Ends s new
ends_with s new l v e =
    let is : (learner.take s (Final s.epoch l v)).0 ≡ learner.passed s v = ap (λ (b : Bool). cond b (learner.passed s v) s) (same_itself s.epoch) in
    subst (λ (u : LearnerInEpoch). Ends s u) (sym (e ∙ is)) (record { config = refl; epoch = sym (add-one s.epoch); votes_are = refl })

pub final_cause_is : (s : LearnerInEpoch) (k l : ℕ) (v : History) → ◌≡◌ {A = Command → Option Cause} (λ c. Some (cause.Final k)) (cause_in s k (Final s.epoch l v))
final_cause_is s k l v = λ j c. cond (sym (same_itself s.epoch) j) (Some (cause.Final k)) None
