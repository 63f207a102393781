-- What holds of an acceptor in every legal run.
use Rattle.std.proofs.Common.{◌≡◌, ℕ, zero, suc, ◌≤◌, true, false, cond, ◌&&◌, ◌||◌, List, [], ◌∷◌, Some, None, inl, inr, refl, sym, ap, ◌∙◌, subst, arith}
use Rattle.std.specs.Prelude.{Option, not, nat_eq, nat_lt, slice_get}
use Rattle.gp_history.specs.History.{History, IsHistory, has, push, size}
use Rattle.gp_history.specs.Bounds.{join}
use Rattle.gp_history.proofs.Bound.{push_is_history, join_is_history, empty_is_history}
use Rattle.gp_round.specs.Counts.{Counts}
use Rattle.gp_round.specs.Configs.{majority}
use Rattle.gp_round.specs.Sets.{masks}
use Rattle.gp_round.specs.declared.round.Mode.{Mode}
use Rattle.gp_round.specs.declared.round.Mode.TheVariants.{Single, Multi, Fast}
use Rattle.gp_round.specs.declared.round.Round.{Round}
use Rattle.gp_round.specs.Rounds.{earlier, same_round, is_fast}
use Rattle.gp_safe.specs.Meets.{quorum_meets, add_meet, all_joined, everyone}
use Rattle.gp_safe.specs.Held.{newer}
use Rattle.gp_msg.specs.Messages.{Message, Proposed, Asked, Answered, Sent, Voted, Part, Acceptors, Coordinators, Stamped, Offered, InEpoch, Final, EpochPart}
use Rattle.gp_msg.specs.declared.node.Node.TheVariants.{Proposer, Coordinator, Acceptor, Learner}
use Rattle.gp_msg.specs.declared.event.Event.{Event}
use Rattle.gp_msg.specs.declared.event.Event.TheVariants.{Offer, Begin, Take, Fall}
use Rattle.gp_msg.specs.declared.event.Kept.{Kept}
use Rattle.gp_msg.specs.declared.event.Kept.TheVariants as kept
use Rattle.gp_acceptor.specs.State.{AcceptorState, nobody}
use Rattle.gp_acceptor.specs.State as state
use Rattle.gp_acceptor.specs.Table.{value_at, agreed, agreed_by, raised, with_value, holding, next_vote, with_vote, told_vote, next_vote_of, counted, acceptor_take, acceptor_fall}
use Rattle.gp_run.specs.Messages.{on_message}
use Rattle.gp_run.specs.States.{acceptor_acts, acceptor_kept}
use Rattle.gp_acceptor.specs.Epochs.{AcceptorInEpoch, stepped, entered, take, durable, fall}
use Rattle.gp_run.proofs.Choices.{chosen, with_message}
use Rattle.gp_driver.proofs.Values.{AreHistories, joined_are_from, meets_are_from}
use Rattle.gp_driver.proofs.Closings.{told_history, MaybeHistory, HasHistory, IsSent, nothing_sent, sent_in_epoch, AllSound, closed_by, standing_closes}
use Rattle.gp_driver.proofs.CoordinatorsKeep.{read_of_set}
use Rattle.gp_safe.proofs.Meetings.{first_or_later, none_in}

pub record AcceptorSound (config : Counts) (a : ℕ) (s : AcceptorState) : Type 0 where
  pub own_config : s.config ≡ config
  pub own_number : s.number ≡ a
  pub vote : IsHistory s.vote
  pub held : (i : ℕ) (v : History) → value_at s.held i ≡ Some v → IsHistory v

record Step (config : Counts) (a : ℕ) (u : AcceptorState × Option Message) : Type 0 where
  pub state : AcceptorSound config a u.0
  pub sent : MaybeHistory u.1

nobody_held : (n i : ℕ) (v : History) → value_at (nobody n) i ≡ Some v → ⊥
nobody_held zero i v h = cc
nobody_held (suc n) zero v h = cc
nobody_held (suc n) (suc i) v h = nobody_held n i v h

pub newer_is : (o : Option History) (v w : History) → newer o v ≡ Some w → v ≡ w
newer_is None v w e = cc
newer_is (Some x) v w e = by (nat_lt (size x) (size v)) e where
  by : (b : _) → cond {A = Option History} b (Some v) None ≡ Some w → v ≡ w
  by true q = cc
  by false q = cc

-- what quorums of coordinators agreed on
one_agreed : (n lead : ℕ) (f : ℕ → Option History) (u : History) → AreHistories f → all_joined (add_meet (cond (nat_lt lead n) (f lead) None) []) ≡ Some u → IsHistory u
one_agreed n lead f u are h = by (nat_lt lead n) h where
  some : (o : Option History) → f lead ≡ o → all_joined (add_meet o []) ≡ Some u → IsHistory u
  some None e q = cc
  some (Some v) e q = (joined_are_from f (v ∷ []) u (λ x i. first_or_later v x [] i (λ p. record { history = subst IsHistory p (are lead v e); from = λ c t. (lead, v, e, ap (λ y. has y c) p ∙ t) }) (λ j. none_in x j)) q).history

  by : (b : _) → all_joined (add_meet (cond b (f lead) None) []) ≡ Some u → IsHistory u
  by true q = some (f lead) refl q
  by false q = cc

agreed_is_history : (n : ℕ) (mode : Mode) (lead : ℕ) (f : ℕ → Option History) (u : History) → AreHistories f → agreed_by n mode lead f ≡ Some u → IsHistory u
agreed_is_history n Single lead f u are h = one_agreed n lead f u are h
agreed_is_history n Multi lead f u are h = (joined_are_from f (quorum_meets f everyone n (masks n (majority n))) u (meets_are_from f are everyone n (masks n (majority n))) h).history
agreed_is_history n Fast lead f u are h = one_agreed n lead f u are h

module _ (config : Counts) (a : ℕ) where
  quiet : (s : AcceptorState) → AcceptorSound config a s → Step config a (s, None)
  quiet s h = record { state = h; sent = tt }

  in_round : (s : AcceptorState) (r : Round) → AcceptorSound config a s → AcceptorSound config a (record s { round = r; held = nobody s.config.coordinators })
  in_round s r h = record { own_config = h.own_config; own_number = h.own_number; vote = h.vote; held = λ i v e. absurd (nobody_held s.config.coordinators i v e) }

  with_value_sound : (s : AcceptorState) (c : ℕ) (o : Option History) → AcceptorSound config a s → ((v : History) → o ≡ Some v → IsHistory v) → AcceptorSound config a (with_value s c o)
  with_value_sound s c None h f = h
  with_value_sound s c (Some v) h f = record { own_config = h.own_config; own_number = h.own_number; vote = h.vote; held = λ i x e. elim (read_of_set s.held c i (Some v) x e) [ inl p ↦ f x p | inr p ↦ h.held i x p ] }

  next_sound : (voted round : Round) (vote : History) (o : Option History) (w : History) → IsHistory vote → ((v : History) → o ≡ Some v → IsHistory v) → next_vote voted round vote o ≡ Some w → IsHistory w
  next_sound voted round vote None w h f e = cc
  next_sound voted round vote (Some u) w h f e = by (earlier voted round) (same_round voted round && not (is_fast round.mode)) e where
    by : (b c : _) → cond {A = Option History} b (Some u) (cond c (Some (join vote u)) None) ≡ Some w → IsHistory w
    by true c q = f w q
    by false true q = subst IsHistory (let is : join vote u ≡ w = cc in is) (join_is_history vote u h (f u refl))
    by false false q = cc

  with_vote_sound : (s : AcceptorState) (o : Option History) → AcceptorSound config a s → ((v : History) → o ≡ Some v → IsHistory v) → AcceptorSound config a (with_vote s o)
  with_vote_sound s None h f = h
  with_vote_sound s (Some v) h f = record { own_config = h.own_config; own_number = h.own_number; vote = f v refl; held = h.held }

  told_sound : (number : ℕ) (voted round : Round) (vote : History) (o : Option History) → ((v : History) → o ≡ Some v → IsHistory v) → MaybeHistory (told_vote number voted round vote o)
  told_sound number voted round vote None f = tt
  told_sound number voted round vote (Some v) f = chosen MaybeHistory (earlier voted round || nat_lt (size vote) (size v)) (Some (Voted round number v)) None (f v refl) tt

  counts : (s : AcceptorState) → AcceptorSound config a s → Step config a (counted s)
  counts s h =
      let f : (v : History) → next_vote_of s ≡ Some v → IsHistory v = λ v e. next_sound s.voted s.round s.vote (agreed s.config.coordinators s.round (value_at s.held)) v h.vote (λ u q. agreed_is_history s.config.coordinators s.round.mode s.round.lead (value_at s.held) u h.held q) e in
      record { state = with_vote_sound s (next_vote_of s) h f; sent = told_sound s.number s.voted s.round s.vote (next_vote_of s) f }

  takes : (s : AcceptorState) (m : Message) → AcceptorSound config a s → HasHistory m → Step config a (acceptor_take s m)
  takes s (Proposed c) h w =
      let v = push_is_history s.vote c h.vote in
      chosen (Step config a) (same_round s.voted s.round && is_fast s.round.mode && not (has s.vote c)) (record s { vote = push s.vote c }, Some (Voted s.round s.number (push s.vote c))) (s, None)
      (record { state = record { own_config = h.own_config; own_number = h.own_number; vote = v; held = h.held }; sent = v }) (quiet s h)
  takes s (Asked r) h w =
      chosen (Step config a) (earlier s.round r) (record s { round = r; held = nobody s.config.coordinators }, Some (Answered r s.number s.voted s.vote)) (s, None)
      (record { state = in_round s r h; sent = h.vote }) (quiet s h)
  takes s (Answered r b q v) h w = quiet s h
  takes s (Sent r c v) h w =
      let up : AcceptorSound config a (raised s r) = chosen (AcceptorSound config a) (earlier s.round r) (record s { round = r; held = nobody s.config.coordinators }) s (in_round s r h) h in
      chosen (Step config a) (not (earlier r s.round) && nat_lt c s.config.coordinators) (counted (holding (raised s r) c v)) (s, None)
      (counts (holding (raised s r) c v) (with_value_sound (raised s r) c (newer (value_at (raised s r).held c) v) up (λ x e. subst IsHistory (newer_is (value_at (raised s r).held c) v x e) w))) (quiet s h)
  takes s (Voted r b v) h w = quiet s h

  abbrev PartSound : Part → Type 0
  PartSound (Acceptors r q v) = IsHistory v
  PartSound (Coordinators r) = Unit {0}

  falls : (s : AcceptorState) (p : Part) → AcceptorSound config a s → PartSound p → AcceptorSound config a (acceptor_fall s p)
  falls s (Acceptors r q v) h w = record { own_config = h.own_config; own_number = h.own_number; vote = w; held = λ i x e. absurd (nobody_held s.config.coordinators i x e) }
  falls s (Coordinators r) h w = h

-- ---- over epochs

pub record AcceptorKept (config : Counts) (a n : ℕ) (s : AcceptorInEpoch) : Type 0 where
  pub sound : AcceptorSound config a s.state
  pub epoch : s.epoch ≤ n

pub record AcceptorStep (config : Counts) (a n : ℕ) (u : AcceptorInEpoch × Option Stamped) : Type 0 where
  pub state : AcceptorKept config a n u.0
  pub sent : IsSent u.1

pub opening_sound : (config : Counts) (a : ℕ) → AcceptorSound config a (state.opening config a)
opening_sound config a = record { own_config = refl; own_number = refl; vote = empty_is_history; held = λ i v e. absurd (nobody_held config.coordinators i v e) }

module _ (config : Counts) (a n : ℕ) where
  rests : (s : AcceptorInEpoch) → AcceptorKept config a n s → AcceptorStep config a n (s, None)
  rests s h = record { state = h; sent = nothing_sent }

  steps : (s : AcceptorInEpoch) (u : AcceptorState × Option Message) → AcceptorKept config a n s → Step config a u → AcceptorStep config a n (stepped s u)
  steps s u h t = record { state = record { sound = t.state; epoch = h.epoch }; sent = sent_in_epoch s.epoch u.1 t.sent }

  enters : (s : AcceptorInEpoch) (e : ℕ) → AcceptorKept config a n s → e ≤ n → AcceptorKept config a n (entered s e)
  enters s e h l = record {
    sound = subst (λ (p : Counts × ℕ). AcceptorSound config a (state.opening p.0 p.1)) (λ i. (sym h.sound.own_config i, sym h.sound.own_number i)) (opening_sound config a);
    epoch = l;
  }

  takes_in_epoch : (s : AcceptorInEpoch) (ms : List Stamped) (k : ℕ) (m : Stamped) → closed_by ms ≡ n → AllSound ms → slice_get ms k ≡ Some m → AcceptorKept config a n s → AcceptorStep config a n (take s m)
  takes_in_epoch s ms k (Offered d) e all q h = steps s (acceptor_take s.state (Proposed d)) h (takes config a s.state (Proposed d) h.sound tt)
  takes_in_epoch s ms k (InEpoch i m) e all q h = chosen (AcceptorStep config a n) (nat_eq i s.epoch) (stepped s (acceptor_take s.state m)) (s, None) (steps s (acceptor_take s.state m) h (takes config a s.state m h.sound (told_history m (all k (InEpoch i m) q)))) (rests s h)
  takes_in_epoch s ms k (Final i l v) e all q h = record {
    state = chosen (AcceptorKept config a n) (nat_lt i s.epoch) s (entered s (suc i)) h (enters s (suc i) h (let lt = standing_closes 0 ms k i l v q in omega (arith, lt, e)));
    sent = nothing_sent;
  }

  record PartKept (p : EpochPart) : Type 0 where
    pub sound : PartSound config a p.part
    pub epoch : p.epoch ≤ n

  part_kept : (s : AcceptorInEpoch) → AcceptorKept config a n s → PartKept (durable s)
  part_kept s h = record { sound = h.sound.vote; epoch = h.epoch }

  keeps : (s : AcceptorInEpoch) (ms : List Stamped) (what : Option Kept) → closed_by ms ≡ n → AllSound ms → AcceptorKept config a n s → PartKept (acceptor_kept s ms what)
  keeps s ms None e all h = part_kept s h
  keeps s ms (Some (kept.Begin r)) e all h = part_kept s h
  keeps s ms (Some (kept.Take k)) e all h = with_message PartKept (durable s) (λ m. durable (take s m).0) (slice_get ms k) (part_kept s h) (λ m q. part_kept (take s m).0 (takes_in_epoch s ms k m e all q h).state)

  pub acceptor_keeps : (s : AcceptorInEpoch) (ms : List Stamped) (event : Event) → closed_by ms ≡ n → AllSound ms → AcceptorKept config a n s → AcceptorStep config a n (acceptor_acts a s ms event)
  acceptor_keeps s ms (Offer p d) e all h = rests s h
  acceptor_keeps s ms (Begin b r) e all h = rests s h
  acceptor_keeps s ms (Take (Proposer p) k) e all h = rests s h
  acceptor_keeps s ms (Take (Coordinator b) k) e all h = rests s h
  acceptor_keeps s ms (Take (Acceptor b) k) e all h =
      chosen (AcceptorStep config a n) (nat_eq a b) (on_message (s, None) (take s) (slice_get ms k)) (s, None)
      (with_message (AcceptorStep config a n) (s, None) (take s) (slice_get ms k) (rests s h) (λ m q. takes_in_epoch s ms k m e all q h)) (rests s h)
  acceptor_keeps s ms (Take (Learner l) k) e all h = rests s h
  acceptor_keeps s ms (Fall (Proposer p) what) e all h = rests s h
  acceptor_keeps s ms (Fall (Coordinator b) what) e all h = rests s h
  acceptor_keeps s ms (Fall (Acceptor b) what) e all h =
      let p = keeps s ms what e all h in
      chosen (AcceptorStep config a n) (nat_eq a b) (fall s (acceptor_kept s ms what), None) (s, None)
      (record { state = record { sound = falls config a s.state (acceptor_kept s ms what).part h.sound p.sound; epoch = p.epoch }; sent = nothing_sent }) (rests s h)
  acceptor_keeps s ms (Fall (Learner l) what) e all h = rests s h

  pub more_epochs : (m : ℕ) (s : AcceptorInEpoch) → n ≤ m → AcceptorKept config a n s → AcceptorKept config a m s
  more_epochs m s l h = record { sound = h.sound; epoch = let e = h.epoch in omega (arith, e, l) }
