-- What holds of a coordinator in every legal run.
use Rattle.std.proofs.Common.{◌≡◌, ℕ, zero, suc, ◌≤◌, ◌&&◌, List, [], ◌∷◌, Some, None, inl, inr, refl, ap, subst, arith}
use Rattle.std.specs.Prelude.{Option, not, nat_eq, nat_lt, slice_get, slice_set, slice_index_or, ◌⊎◌}
use Rattle.std.specs.FinSet as set
use Rattle.gp_command.specs.declared.command.Command.{Command}
use Rattle.gp_history.specs.History.{History, IsHistory, has, push}
use Rattle.gp_history.proofs.Bound.{push_is_history}
use Rattle.gp_round.specs.Counts.{Counts}
use Rattle.gp_round.specs.declared.round.Round.{Round}
use Rattle.gp_round.specs.Rounds.{earlier, is_fast, is_multi}
use Rattle.gp_safe.specs.Choice.{Reply, safe_choice}
use Rattle.gp_msg.specs.Messages.{Message, Proposed, Asked, Answered, Sent, Voted, Part, Acceptors, Coordinators, Stamped, Offered, InEpoch, Final, EpochPart}
use Rattle.gp_msg.specs.declared.node.Node.TheVariants.{Proposer, Coordinator, Acceptor, Learner}
use Rattle.gp_msg.specs.declared.event.Event.{Event}
use Rattle.gp_msg.specs.declared.event.Event.TheVariants.{Offer, Begin, Take, Fall}
use Rattle.gp_msg.specs.declared.event.Kept.{Kept}
use Rattle.gp_msg.specs.declared.event.Kept.TheVariants as kept
use Rattle.gp_coordinator.specs.State.{CoordinatorState}
use Rattle.gp_coordinator.specs.Replies.{unanswered, reply_at}
use Rattle.gp_coordinator.specs.Table.{begun, coordinator_begin, coordinator_take, coordinator_fall, pending_with, expects, is_enough, extended, answered}
use Rattle.gp_coordinator.specs.Table as table
use Rattle.gp_run.specs.Messages.{on_message}
use Rattle.gp_run.specs.States.{coordinator_acts, coordinator_kept}
use Rattle.gp_coordinator.specs.Epochs.{CoordinatorInEpoch, stepped, settled, entered, begin, take, durable, fall}
use Rattle.gp_run.proofs.Choices.{chosen, with_message}
use Rattle.gp_driver.proofs.Values.{pushes_is_history, safe_choice_is_from}
use Rattle.gp_driver.proofs.Closings.{told_history, MaybeHistory, HasHistory, IsSent, nothing_sent, sent_in_epoch, AllSound, closed_by, standing_closes}

-- its own configuration and number, and values that are histories
pub record CoordinatorSound (config : Counts) (c : ℕ) (s : CoordinatorState) : Type 0 where
  pub own_config : s.config ≡ config
  pub own_number : s.number ≡ c
  pub value : (v : History) → s.value ≡ Some v → IsHistory v
  pub answers : (i : ℕ) (a : Reply) → reply_at s.answers i ≡ Some a → IsHistory a.vote

record Step (config : Counts) (c : ℕ) (u : CoordinatorState × Option Message) : Type 0 where
  pub state : CoordinatorSound config c u.0
  pub sent : MaybeHistory u.1

pub none_answered : (n i : ℕ) (a : Reply) → reply_at (unanswered n) i ≡ Some a → ⊥
none_answered zero i a h = cc
none_answered (suc n) zero a h = cc
none_answered (suc n) (suc i) a h = none_answered n i a h

pub read_of_set : {X : Type 0} (xs : List (Option X)) (n i : ℕ) (y : Option X) (x : X) → slice_index_or (slice_set xs n y) i None ≡ Some x → (y ≡ Some x) ⊎ (slice_index_or xs i None ≡ Some x)
read_of_set [] n i y x h = inr h
read_of_set (z ∷ xs) zero zero y x h = inl h
read_of_set (z ∷ xs) zero (suc i) y x h = inr h
read_of_set (z ∷ xs) (suc n) zero y x h = inr h
read_of_set (z ∷ xs) (suc n) (suc i) y x h = read_of_set xs n i y x h

module _ (config : Counts) (c : ℕ) where
  quiet : (s : CoordinatorState) → CoordinatorSound config c s → Step config c (s, None)
  quiet s h = record { state = h; sent = tt }

  begun_sound : (s : CoordinatorState) (r : Round) → CoordinatorSound config c s → CoordinatorSound config c (begun s r)
  begun_sound s r h = record { own_config = h.own_config; own_number = h.own_number; value = λ v e. cc; answers = λ i a e. absurd (none_answered s.config.acceptors i a e) }

  begins : (s : CoordinatorState) (r : Round) → CoordinatorSound config c s → Step config c (coordinator_begin s r)
  begins s r h = chosen (Step config c) (earlier s.round r) (begun s r, Some (Asked r)) (s, None) (record { state = begun_sound s r h; sent = tt }) (quiet s h)

  valued : (s : CoordinatorState) (v : History) → CoordinatorSound config c s → IsHistory v → CoordinatorSound config c (record s { value = Some v })
  valued s v h w = record { own_config = h.own_config; own_number = h.own_number; value = λ u e. subst IsHistory (let is : v ≡ u = cc in is) w; answers = h.answers }

  extends : (s : CoordinatorState) (o : Option History) (d : Command) → CoordinatorSound config c s → ((w : History) → o ≡ Some w → IsHistory w) → Step config c (extended s o d)
  extends s None d h f = quiet s h
  extends s (Some w) d h f =
      let v = push_is_history w d (f w refl) in
      chosen (Step config c) (not (has w d) && not (is_fast s.round.mode)) (record s { value = Some (push w d) }, Some (Sent s.round s.number (push w d))) (s, None)
      (record { state = valued s (push w d) h v; sent = v }) (quiet s h)

  answering : (s : CoordinatorState) → CoordinatorSound config c s → Step config c (answered s)
  answering s h =
      let v = pushes_is_history (safe_choice s.config.acceptors (reply_at s.answers)) s.pending (safe_choice_is_from (reply_at s.answers) h.answers s.config.acceptors).history in
      chosen (Step config c) (is_enough s.config.acceptors (reply_at s.answers)) (record s { value = Some (table.chosen s) }, Some (Sent s.round s.number (table.chosen s))) (s, None)
      (record { state = valued s (table.chosen s) h v; sent = v }) (quiet s h)

  takes : (s : CoordinatorState) (m : Message) → CoordinatorSound config c s → HasHistory m → Step config c (coordinator_take s m)
  takes s (Proposed d) h w = extends (record s { pending = pending_with s.pending d }) s.value d (record { own_config = h.own_config; own_number = h.own_number; value = h.value; answers = h.answers }) h.value
  takes s (Asked r) h w = chosen (Step config c) (is_multi r.mode && earlier s.round r) (begun s r, None) (s, None) (record { state = begun_sound s r h; sent = tt }) (quiet s h)
  takes s (Answered r a q v) h w =
      let t : CoordinatorState = record s { answers = slice_set s.answers a (Some (record { round = q; vote = v })) } in
      chosen (Step config c) (expects s r a) (answered (record s { answers = slice_set s.answers a (Some (record { round = q; vote = v })) })) (s, None)
      (answering t (record {
        own_config = h.own_config;
        own_number = h.own_number;
        value = h.value;
        answers = λ i x e. elim (read_of_set s.answers a i (Some (record { round = q; vote = v })) x e) [
          | inl y ↦ let is : v ≡ x.vote = ap (λ (z : Reply). z.vote) (let f : ◌≡◌ {A = Reply} (record { round = q; vote = v }) x = cc in f) in subst IsHistory is w
          | inr y ↦ h.answers i x y
        ];
      }))
      (quiet s h)
  takes s (Sent r d v) h w = quiet s h
  takes s (Voted r a v) h w = quiet s h

  falls : (s : CoordinatorState) (p : Part) → CoordinatorSound config c s → CoordinatorSound config c (coordinator_fall s p)
  falls s (Acceptors r q v) h = h
  falls s (Coordinators r) h = record { own_config = h.own_config; own_number = h.own_number; value = λ v e. cc; answers = λ i a e. absurd (none_answered s.config.acceptors i a e) }

-- ---- over epochs

-- it is in none of the epochs past the first that is open
pub record CoordinatorKept (config : Counts) (c n : ℕ) (s : CoordinatorInEpoch) : Type 0 where
  pub sound : CoordinatorSound config c s.state
  pub epoch : s.epoch ≤ n

pub record CoordinatorStep (config : Counts) (c n : ℕ) (u : CoordinatorInEpoch × Option Stamped) : Type 0 where
  pub state : CoordinatorKept config c n u.0
  pub sent : IsSent u.1

module _ (config : Counts) (c n : ℕ) where
  rests : (s : CoordinatorInEpoch) → CoordinatorKept config c n s → CoordinatorStep config c n (s, None)
  rests s h = record { state = h; sent = nothing_sent }

  steps : (s : CoordinatorInEpoch) (u : CoordinatorState × Option Message) → CoordinatorKept config c n s → Step config c u → CoordinatorStep config c n (stepped s u)
  steps s u h t = record { state = record { sound = t.state; epoch = h.epoch }; sent = sent_in_epoch s.epoch u.1 t.sent }

  settles : (s : CoordinatorInEpoch) (v : History) → CoordinatorKept config c n s → CoordinatorKept config c n (settled s v)
  settles s v h = record { sound = record { own_config = h.sound.own_config; own_number = h.sound.own_number; value = h.sound.value; answers = h.sound.answers }; epoch = h.epoch }

  enters : (s : CoordinatorInEpoch) (e : ℕ) → CoordinatorKept config c n s → e ≤ n → CoordinatorKept config c n (entered s e)
  enters s e h l = record {
    sound = record { own_config = h.sound.own_config; own_number = h.sound.own_number; value = λ v q. cc; answers = λ i a q. absurd (none_answered s.state.config.acceptors i a q) };
    epoch = l;
  }

  begins_in_epoch : (s : CoordinatorInEpoch) (r : Round) → CoordinatorKept config c n s → CoordinatorStep config c n (begin s r)
  begins_in_epoch s r h = steps s (coordinator_begin s.state r) h (begins config c s.state r h.sound)

  takes_in_epoch : (s : CoordinatorInEpoch) (ms : List Stamped) (k : ℕ) (m : Stamped) → closed_by ms ≡ n → AllSound ms → slice_get ms k ≡ Some m → CoordinatorKept config c n s → CoordinatorStep config c n (take s m)
  takes_in_epoch s ms k (Offered d) e all q h = chosen (CoordinatorStep config c n) (set.contains s.done d) (s, None) (stepped s (coordinator_take s.state (Proposed d))) (rests s h) (steps s (coordinator_take s.state (Proposed d)) h (takes config c s.state (Proposed d) h.sound tt))
  takes_in_epoch s ms k (InEpoch i m) e all q h = chosen (CoordinatorStep config c n) (nat_eq i s.epoch) (stepped s (coordinator_take s.state m)) (s, None) (steps s (coordinator_take s.state m) h (takes config c s.state m h.sound (told_history m (all k (InEpoch i m) q)))) (rests s h)
  takes_in_epoch s ms k (Final i l v) e all q h = record {
    state = chosen (CoordinatorKept config c n) (nat_lt i s.epoch) (settled s v) (entered (settled s v) (suc i)) (settles s v h) (enters (settled s v) (suc i) (settles s v h) (let lt = standing_closes 0 ms k i l v q in omega (arith, lt, e)));
    sent = nothing_sent;
  }

  keeps : (s : CoordinatorInEpoch) (ms : List Stamped) (what : Option Kept) → closed_by ms ≡ n → AllSound ms → CoordinatorKept config c n s → (coordinator_kept s ms what).epoch ≤ n
  keeps s ms None e all h = h.epoch
  keeps s ms (Some (kept.Begin r)) e all h = h.epoch
  keeps s ms (Some (kept.Take k)) e all h = with_message (λ (p : EpochPart). p.epoch ≤ n) (durable s) (λ m. durable (take s m).0) (slice_get ms k) h.epoch (λ m q. (takes_in_epoch s ms k m e all q h).state.epoch)

  pub coordinator_keeps : (s : CoordinatorInEpoch) (ms : List Stamped) (event : Event) → closed_by ms ≡ n → AllSound ms → CoordinatorKept config c n s → CoordinatorStep config c n (coordinator_acts c s ms event)
  coordinator_keeps s ms (Offer p d) e all h = rests s h
  coordinator_keeps s ms (Begin b r) e all h = chosen (CoordinatorStep config c n) (nat_eq c b) (begin s r) (s, None) (begins_in_epoch s r h) (rests s h)
  coordinator_keeps s ms (Take (Proposer p) k) e all h = rests s h
  coordinator_keeps s ms (Take (Coordinator b) k) e all h =
      chosen (CoordinatorStep config c n) (nat_eq c b) (on_message (s, None) (take s) (slice_get ms k)) (s, None)
      (with_message (CoordinatorStep config c n) (s, None) (take s) (slice_get ms k) (rests s h) (λ m q. takes_in_epoch s ms k m e all q h)) (rests s h)
  coordinator_keeps s ms (Take (Acceptor a) k) e all h = rests s h
  coordinator_keeps s ms (Take (Learner l) k) e all h = rests s h
  coordinator_keeps s ms (Fall (Proposer p) what) e all h = rests s h
  coordinator_keeps s ms (Fall (Coordinator b) what) e all h =
      chosen (CoordinatorStep config c n) (nat_eq c b) (fall s (coordinator_kept s ms what), None) (s, None)
      (record { state = record { sound = falls config c s.state (coordinator_kept s ms what).part h.sound; epoch = keeps s ms what e all h }; sent = nothing_sent }) (rests s h)
  coordinator_keeps s ms (Fall (Acceptor a) what) e all h = rests s h
  coordinator_keeps s ms (Fall (Learner l) what) e all h = rests s h

  pub more_epochs : (m : ℕ) (s : CoordinatorInEpoch) → n ≤ m → CoordinatorKept config c n s → CoordinatorKept config c m s
  more_epochs m s l h = record { sound = h.sound; epoch = let e = h.epoch in omega (arith, e, l) }
