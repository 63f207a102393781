-- What holds of a learner in every legal run.
use Rattle.std.proofs.Common.{◌≡◌, ℕ, suc, ◌≤◌, Bool, true, false, cond, ◌&&◌, List, Some, None, refl, sym, ◌∙◌, subst, arith}
use Rattle.std.specs.Prelude.{Option, nat_eq, nat_lt, slice_get}
use Rattle.std.specs.Ordering.{is_eq}
use Rattle.std.proofs.lemmas.Bool.{eqb-true}
use Rattle.gp_command.specs.declared.command.Command.{Command}
use Rattle.gp_history.specs.History.{History, IsHistory}
use Rattle.gp_history.proofs.Bound.{join_is_history, empty_is_history}
use Rattle.gp_round.specs.Counts.{Counts}
use Rattle.gp_round.specs.declared.round.Round.{Round}
use Rattle.gp_safe.specs.Held.{newer}
use Rattle.gp_msg.specs.Messages.{Proposed, Asked, Answered, Sent, Voted, Stamped, Offered, InEpoch, Final}
use Rattle.gp_msg.specs.declared.node.Node.TheVariants.{Proposer, Coordinator, Acceptor, Learner}
use Rattle.gp_msg.specs.declared.event.Event.{Event}
use Rattle.gp_msg.specs.declared.event.Event.TheVariants.{Offer, Begin, Take, Fall}
use Rattle.gp_learner.specs.State.{LearnerState, Votes}
use Rattle.gp_learner.specs.Table.{voter_cmp, vote_of, votes_held, votes_with, heard, learner_take}
use Rattle.gp_learner.specs.Table as table
use Rattle.gp_learner.proofs.Lookups.{lookup-insert_entry, voter_cmp_total}
use Rattle.gp_epoch.specs.Cut.{first_checkpoint, cut}
use Rattle.gp_epoch.proofs.Cuts.{cut_history}
use Rattle.gp_run.specs.Messages.{on_message}
use Rattle.gp_run.specs.States.{learner_acts}
use Rattle.gp_learner.specs.Epochs.{LearnerInEpoch, passed, learning, with_state, hearing, take, fall}
use Rattle.gp_run.proofs.Choices.{chosen, chosen_where, with_message}
use Rattle.gp_learner.proofs.Parts.{nothing_marked}
use Rattle.gp_driver.proofs.Values.{heard_is_from}
use Rattle.gp_driver.proofs.Hearing.{with_is_history}
use Rattle.gp_driver.proofs.AcceptorsKeep.{newer_is}
use Rattle.gp_driver.proofs.Closings.{MaybeSound, MaybeInOrder, AllSound, closed_by, standing_closes, after}

-- its own configuration and number, and votes and a part that are histories
pub record LearnerSound (config : Counts) (l : ℕ) (s : LearnerState) : Type 0 where
  pub own_config : s.config ≡ config
  pub own_number : s.number ≡ l
  pub votes : (r : Round) (a : ℕ) (v : History) → vote_of s.votes r a ≡ Some v → IsHistory v
  pub part : IsHistory s.learned

pub opening_sound : (config : Counts) (l : ℕ) → LearnerSound config l (table.opening config l)
opening_sound config l = record { own_config = refl; own_number = refl; votes = λ r a v e. cc; part = empty_is_history }

held_sound : (votes : Votes) (r : Round) (a : ℕ) (o : Option History) → ((q : Round) (i : ℕ) (v : History) → vote_of votes q i ≡ Some v → IsHistory v) → ((v : History) → o ≡ Some v → IsHistory v)
    → (q : Round) (i : ℕ) (v : History) → vote_of (votes_held votes r a o) q i ≡ Some v → IsHistory v
held_sound votes r a None h f q i v e = h q i v e
held_sound votes r a (Some w) h f q i v e = by (is_eq (voter_cmp (q, i) (r, a))) (sym (lookup-insert_entry voter_cmp voter_cmp_total votes (r, a) (q, i) w) ∙ e) where
  by : (b : Bool) → cond b (Some w) (vote_of votes q i) ≡ Some v → IsHistory v
  by true p = f v p
  by false p = h q i v p

takes : (config : Counts) (l : ℕ) (s : LearnerState) (r : Round) (a : ℕ) (v : History) → LearnerSound config l s → IsHistory v → LearnerSound config l (learner_take s (Voted r a v))
takes config l s r a v h w = chosen (LearnerSound config l) (nat_lt a s.config.acceptors) (table.hearing s r (votes_with s.votes r a v)) s new h where
  votes : (q : Round) (i : ℕ) (x : History) → vote_of (votes_with s.votes r a v) q i ≡ Some x → IsHistory x
  votes = held_sound s.votes r a (newer (vote_of s.votes r a) v) h.votes (λ x e. subst IsHistory (newer_is (vote_of s.votes r a) v x e) w)

  new : LearnerSound config l (table.hearing s r (votes_with s.votes r a v))
  new = record {
    own_config = h.own_config;
    own_number = h.own_number;
    votes = votes;
    part = with_is_history s.learned (heard s.config.acceptors r (vote_of (votes_with s.votes r a v) r)) h.part (λ x e. (heard_is_from s.config.acceptors r (vote_of (votes_with s.votes r a v) r) x (votes r) e).history);
  }

-- ---- over epochs

-- it is in none of the epochs past the first that is open, and its part of the epoch has no checkpoint
pub record LearnerKept (config : Counts) (l n : ℕ) (s : LearnerInEpoch) : Type 0 where
  pub sound : LearnerSound config l s.state
  pub plain : first_checkpoint s.state.learned ≡ None
  pub learned : IsHistory s.learned
  pub epoch : s.epoch ≤ n

-- a Final message that it sends closes the first epoch that is open, or one that was closed before
pub record LearnerStep (config : Counts) (l n : ℕ) (u : LearnerInEpoch × Option Stamped) : Type 0 where
  pub state : LearnerKept config l (after n u.1) u.0
  pub sound : MaybeSound u.1
  pub in_order : MaybeInOrder n u.1

module _ (config : Counts) (l n : ℕ) where
  rests : (s : LearnerInEpoch) → LearnerKept config l n s → LearnerStep config l n (s, None)
  rests s h = record { state = h; sound = tt; in_order = tt }

  passes : (m : ℕ) (s : LearnerInEpoch) (v : History) → LearnerKept config l n s → IsHistory v → suc s.epoch ≤ m → LearnerKept config l m (passed s v)
  passes m s v h w le = record {
    sound = subst (λ (p : Counts × ℕ). LearnerSound config l (table.opening p.0 p.1)) (λ i. (sym h.sound.own_config i, sym h.sound.own_number i)) (opening_sound config l);
    plain = nothing_marked;
    learned = join_is_history s.learned v h.learned w;
    epoch = le;
  }

  learns : (s : LearnerInEpoch) (o : Option Command) → first_checkpoint s.state.learned ≡ o → LearnerSound config l s.state → IsHistory s.learned → s.epoch ≤ n → LearnerStep config l n (learning s o)
  learns s None e h w le = record { state = record { sound = h; plain = e; learned = join_is_history s.learned s.state.learned w h.part; epoch = le }; sound = tt; in_order = tt }
  learns s (Some z) e h w le = record {
    state = record {
      sound = subst (λ (p : Counts × ℕ). LearnerSound config l (table.opening p.0 p.1)) (λ i. (sym h.own_config i, sym h.own_number i)) (opening_sound config l);
      plain = nothing_marked;
      learned = join_is_history s.learned (cut s.state.learned) w (cut_history s.state.learned h.part);
      epoch = omega (arith, le);
    };
    sound = cut_history s.state.learned h.part;
    in_order = le;
  }

  takes_in_epoch : (s : LearnerInEpoch) (ms : List Stamped) (k : ℕ) (m : Stamped) → closed_by ms ≡ n → AllSound ms → slice_get ms k ≡ Some m → LearnerKept config l n s → LearnerStep config l n (take s m)
  takes_in_epoch s ms k (Offered d) e all q h = rests s h
  takes_in_epoch s ms k (InEpoch i (Proposed d)) e all q h = rests s h
  takes_in_epoch s ms k (InEpoch i (Asked r)) e all q h = rests s h
  takes_in_epoch s ms k (InEpoch i (Answered r a p v)) e all q h = rests s h
  takes_in_epoch s ms k (InEpoch i (Sent r c v)) e all q h = rests s h
  takes_in_epoch s ms k (InEpoch i (Voted r a v)) e all q h =
      let t = learner_take s.state (Voted r a v) in
      chosen (LearnerStep config l n) (nat_eq i s.epoch && nat_lt a s.state.config.acceptors) (hearing s (learner_take s.state (Voted r a v))) (s, None)
      (learns (with_state s (learner_take s.state (Voted r a v))) (first_checkpoint (learner_take s.state (Voted r a v)).learned) refl (takes config l s.state r a v h.sound (all k (InEpoch i (Voted r a v)) q)) h.learned h.epoch) (rests s h)
  takes_in_epoch s ms k (Final i j v) e all q h = record {
    state = chosen_where (LearnerKept config l n) (nat_eq i s.epoch) (passed s v) s (λ p. passes n s v h (all k (Final i j v) q) (let lt = standing_closes 0 ms k i j v q in let is = eqb-true i s.epoch p in omega (arith, lt, e, is))) h;
    sound = tt;
    in_order = tt;
  }

  pub learner_keeps : (s : LearnerInEpoch) (ms : List Stamped) (event : Event) → closed_by ms ≡ n → AllSound ms → LearnerKept config l n s → LearnerStep config l n (learner_acts l s ms event)
  learner_keeps s ms (Offer p d) e all h = rests s h
  learner_keeps s ms (Begin b r) e all h = rests s h
  learner_keeps s ms (Take (Proposer p) k) e all h = rests s h
  learner_keeps s ms (Take (Coordinator b) k) e all h = rests s h
  learner_keeps s ms (Take (Acceptor b) k) e all h = rests s h
  learner_keeps s ms (Take (Learner i) k) e all h =
      chosen (LearnerStep config l n) (nat_eq l i) (on_message (s, None) (take s) (slice_get ms k)) (s, None)
      (with_message (LearnerStep config l n) (s, None) (take s) (slice_get ms k) (rests s h) (λ m q. takes_in_epoch s ms k m e all q h)) (rests s h)
  learner_keeps s ms (Fall (Proposer p) what) e all h = rests s h
  learner_keeps s ms (Fall (Coordinator b) what) e all h = rests s h
  learner_keeps s ms (Fall (Acceptor b) what) e all h = rests s h
  learner_keeps s ms (Fall (Learner i) what) e all h =
      chosen (LearnerStep config l n) (nat_eq l i) (fall s, None) (s, None)
      (record {
        state = record {
          sound = subst (λ (p : Counts × ℕ). LearnerSound config l (table.opening p.0 p.1)) (λ j. (sym h.sound.own_config j, sym h.sound.own_number j)) (opening_sound config l);
          plain = nothing_marked;
          learned = empty_is_history;
          epoch = omega arith;
        };
        sound = tt;
        in_order = tt;
      }) (rests s h)

  pub more_epochs : (m : ℕ) (s : LearnerInEpoch) → n ≤ m → LearnerKept config l n s → LearnerKept config l m s
  more_epochs m s le h = record { sound = h.sound; plain = h.plain; learned = h.learned; epoch = let e = h.epoch in omega (arith, e, le) }
