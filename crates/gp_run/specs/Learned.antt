-- What learners show, what they heard in their epoch, and what earlier epochs give.
use Rattle.std.specs.Prelude.{◌≡◌, ◌<◌, ℕ, zero, suc, Bool, true, cond, nat_eq, nat_lt, List, [], ◌∷◌, slice_get, Option, Some, None}
use Rattle.std.specs.List.{Contains}
use Rattle.std.specs.Option.{option_or}
use Rattle.gp_history.specs.History.{History, IsHistory, IsPrefix, empty}
use Rattle.gp_history.specs.Bounds.{join}
use Rattle.gp_round.specs.declared.round.Round.{Round}
use Rattle.gp_round.specs.Counts.{Counts}
use Rattle.gp_round.specs.Quorums.{IsQuorum}
use Rattle.gp_msg.specs.declared.node.Node.TheVariants.{Proposer, Coordinator, Acceptor, Learner}
use Rattle.gp_msg.specs.declared.event.Event.{Event}
use Rattle.gp_msg.specs.declared.event.Event.TheVariants.{Offer, Begin, Take, Fall}
use Rattle.gp_msg.specs.Messages.{Message, Proposed, Asked, Answered, Sent, Voted, Stamped, Offered, InEpoch, Final, Entry}
use Rattle.gp_run.specs.Messages.{messages, on_message}
use Rattle.gp_run.specs.States.{learner_at}

-- what learner l shows after these entries
abbrev pub learned_at : Counts → ℕ → List Entry → History
learned_at config l es = (learner_at config l es).learned

-- the epoch of learner l after these entries
abbrev pub epoch_at : Counts → ℕ → List Entry → ℕ
epoch_at config l es = (learner_at config l es).epoch

-- ---- what it heard

-- a vote: an acceptor voted for a history in a round
pub record Vote : Type 0 where
  pub round : Round
  pub acceptor : ℕ
  pub value : History

-- some votes, with that of a message if it is a vote of an acceptor of the configuration
abbrev pub votes_heard : Counts → List Vote → Message → List Vote
votes_heard config votes (Proposed c) = votes
votes_heard config votes (Asked r) = votes
votes_heard config votes (Answered r a q v) = votes
votes_heard config votes (Sent r c v) = votes
votes_heard config votes (Voted r a v) = cond (nat_lt a config.acceptors) (record { round = r; acceptor = a; value = v } ∷ votes) votes

-- some votes, with that of a message if it is a vote of epoch e
abbrev pub votes_after : Counts → ℕ → List Vote → Stamped → List Vote
votes_after config e votes (Offered c) = votes
votes_after config e votes (InEpoch i m) = cond (nat_eq i e) (votes_heard config votes m) votes
votes_after config e votes (Final i l v) = votes

-- the votes that learner l took since its last crash and in its epoch, after one more event, before which these messages were sent; its epoch is e before the event and f after it
abbrev pub taken_after : Counts → ℕ → ℕ → ℕ → List Vote → List Stamped → Event → List Vote
taken_after config l e f votes ms (Offer p d) = votes
taken_after config l e f votes ms (Begin c r) = votes
taken_after config l e f votes ms (Take (Proposer p) k) = votes
taken_after config l e f votes ms (Take (Coordinator c) k) = votes
taken_after config l e f votes ms (Take (Acceptor a) k) = votes
taken_after config l e f votes ms (Take (Learner i) k) = cond (nat_eq l i) (cond (nat_eq e f) (on_message votes (votes_after config e votes) (slice_get ms k)) []) votes
taken_after config l e f votes ms (Fall (Proposer p) what) = votes
taken_after config l e f votes ms (Fall (Coordinator c) what) = votes
taken_after config l e f votes ms (Fall (Acceptor a) what) = votes
taken_after config l e f votes ms (Fall (Learner i) what) = cond (nat_eq l i) [] votes

-- the votes that learner l took since it last crashed and since it entered its epoch, the newest first
abbrev pub taken_at : Counts → ℕ → List Entry → List Vote
taken_at config l [] = []
taken_at config l (e ∷ es) = taken_after config l (epoch_at config l es) (epoch_at config l (e ∷ es)) (taken_at config l es) (messages es) e.event

-- u is the meet of one vote for each member of a quorum of a round: each of the votes was taken, and u is their greatest lower bound
pub record IsHeard (config : Counts) (taken : List Vote) (u : History) : Type 0 where
  pub history : IsHistory u
  pub round : Round
  pub quorum : ℕ → Bool
  pub enough : IsQuorum config.acceptors round.mode quorum
  pub vote : ℕ → History
  pub was_taken : (a : ℕ) → a < config.acceptors → quorum a ≡ true → Contains taken (record { round = round; acceptor = a; value = vote a })
  pub below : (a : ℕ) → a < config.acceptors → quorum a ≡ true → IsPrefix u (vote a)
  pub greatest : (z : History) → IsHistory z → ((a : ℕ) → a < config.acceptors → quorum a ≡ true → IsPrefix z (vote a)) → IsPrefix z u

-- ---- what earlier epochs give

-- the value of a message that is a Final of epoch e
abbrev pub final_value : ℕ → Stamped → Option History
final_value e (Offered c) = None
final_value e (InEpoch i m) = None
final_value e (Final i l v) = cond (nat_eq i e) (Some v) None

-- the value of the first Final message of epoch e
abbrev pub first_final : ℕ → List Stamped → Option History
first_final e [] = None
first_final e (m ∷ ms) = option_or (final_value e m) (first_final e ms)

-- a history joined with a value, if there is one
abbrev pub joined_with : History → Option History → History
joined_with h None = h
joined_with h (Some v) = join h v

-- the base of epoch e: the empty history joined, epoch by epoch below e, with the value of the first Final message of that epoch
abbrev pub base : List Stamped → ℕ → History
base ms zero = empty
base ms (suc e) = joined_with (base ms e) (first_final e ms)

-- the base of the epoch of learner l
abbrev pub base_at : Counts → ℕ → List Entry → History
base_at config l es = base (messages es) (epoch_at config l es)

-- u is the least upper bound of all that was heard, which is the empty history if nothing was
pub record IsBoundOfHeard (config : Counts) (taken : List Vote) (u : History) : Type 0 where
  pub history : IsHistory u
  pub above : (h : History) → IsHeard config taken h → IsPrefix h u
  pub least : (z : History) → IsHistory z → ((h : History) → IsHeard config taken h → IsPrefix h z) → IsPrefix u z
