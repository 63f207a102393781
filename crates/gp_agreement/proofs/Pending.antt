-- What is pending at a coordinator was proposed.
use Rattle.std.proofs.Common.{◌≡◌, ℕ, Bool, not, ◌&&◌, nat_eq, nat_lt, List, [], ◌∷◌, ◌++◌, Option, Some, None, slice_get, filter, refl, subst, ap, inl, inr}
use Rattle.std.specs.List.{list_any}
use Rattle.std.specs.FinSet as set
use Rattle.gp_command.specs.declared.command.Command.{Command}
use Rattle.gp_command.specs.Conflict.{same}
use Rattle.gp_history.specs.History.{History, has}
use Rattle.gp_round.specs.Counts.{Counts}
use Rattle.gp_round.specs.Rounds.{earlier, is_fast, is_multi}
use Rattle.gp_msg.specs.declared.node.Node.TheVariants.{Proposer, Coordinator, Acceptor, Learner}
use Rattle.gp_msg.specs.declared.event.Event.{Event}
use Rattle.gp_msg.specs.declared.event.Event.TheVariants.{Offer, Begin, Take, Fall}
use Rattle.gp_msg.specs.Messages.{Message, Proposed, Asked, Answered, Sent, Voted, Part, Acceptors, Coordinators}
use Rattle.gp_coordinator.specs.State.{CoordinatorState}
use Rattle.gp_coordinator.specs.Table.{pending_with, extended, expects, coordinator_begin, coordinator_take, coordinator_fall}
use Rattle.gp_cstructs.specs.CStructs.{Among}
use Rattle.gp_cstructs.proofs.Lists.{cond_cases, among_append, among_left, get_among}
use Rattle.gp_msg.specs.Messages.{Stamped, Offered, InEpoch, Final, Entry}
use Rattle.gp_coordinator.specs.Epochs as coordinators
use Rattle.gp_coordinator.specs.Epochs.{CoordinatorInEpoch}
use Rattle.gp_run.specs.Messages.{messages, on_message}
use Rattle.gp_run.specs.States.{coordinator_kept, coordinator_acts, coordinator_at}
use Rattle.gp_run.specs.Legal.{Legal}
use Rattle.gp_agreement.proofs.Sending.{proposals_are_of_no_epoch}

filtered : (p : Command → Bool) (cs : List Command) (d : Command) → Among (filter p cs) d → Among cs d
filtered p [] d m = elim m [ ]
filtered p (c ∷ cs) d m = cond_cases (λ (xs : List Command). Among xs d → Among (c ∷ cs) d) (p c) (c ∷ filter p cs) (filter p cs)
    (λ e n. elim n [ inl s ↦ inl s | inr r ↦ inr (filtered p cs d r) ]) (λ e n. inr (filtered p cs d n)) m

module _ (ms : List Stamped) where
  -- each pending command was proposed in these messages
  abbrev pub Stands : CoordinatorState → Type 0
  Stands s = (d : Command) → Among s.pending d → Among ms (Offered d)

  abbrev StandsFirst : CoordinatorState × Option Message → Type 0
  StandsFirst p = Stands p.0

  one_more : (cs : List Command) (c : Command) → Among ms (Offered c) → ((d : Command) → Among cs d → Among ms (Offered d)) → (d : Command) → Among (pending_with cs c) d → Among ms (Offered d)
  one_more cs c there h d = cond_cases (λ (xs : List Command). Among xs d → Among ms (Offered d)) (list_any (same c) cs) cs (cs ++ c ∷ []) (λ e m. h d m)
      (λ e m. elim (among_append cs (c ∷ []) d m) [ inl n ↦ h d n | inr n ↦ elim n [ inl s ↦ subst (λ (x : Command). Among ms (Offered x)) s there | inr z ↦ elim z [ ] ] ])

  extended_stands : (s : CoordinatorState) (o : Option History) (c : Command) → Stands s → Stands (extended s o c).0
  extended_stands s None c h = h
  extended_stands s (Some w) c h = cond_cases StandsFirst (not (has w c) && not (is_fast s.round.mode)) _ _ (λ e. h) (λ e. h)

  begin_stands : (s : CoordinatorState) (r : _) → Stands s → Stands (coordinator_begin s r).0
  begin_stands s r h = cond_cases StandsFirst (earlier s.round r) _ _ (λ e. h) (λ e. h)

  take_stands : (s : CoordinatorState) (m : Message) → ((c : Command) → m ≡ Proposed c → Among ms (Offered c)) → Stands s → Stands (coordinator_take s m).0
  take_stands s (Proposed c) there h = extended_stands (record s { pending = pending_with s.pending c }) s.value c (one_more s.pending c (there c refl) h)
  take_stands s (Asked r) there h = cond_cases StandsFirst (is_multi r.mode && earlier s.round r) _ _ (λ e. h) (λ e. h)
  take_stands s (Answered r a q v) there h = cond_cases StandsFirst (expects s r a) _ _ (λ e. cond_cases StandsFirst _ _ _ (λ f. h) (λ f. h)) (λ e. h)
  take_stands s (Sent r c v) there h = h
  take_stands s (Voted r a v) there h = h

  fall_stands : (s : CoordinatorState) (p : Part) → Stands s → Stands (coordinator_fall s p)
  fall_stands s (Acceptors r q v) h = h
  fall_stands s (Coordinators r) h = λ d m. elim m [ ]

  abbrev StandsPair : CoordinatorInEpoch × Option Stamped → Type 0
  StandsPair p = Stands p.0.state

  receive_stands : (s : CoordinatorInEpoch) (m : Stamped) → Among ms m → ((e : ℕ) (c : Command) → m ≡ InEpoch e (Proposed c) → ⊥) → Stands s.state → Stands (coordinators.take s m).0.state
  receive_stands s (Offered c) there never h = cond_cases StandsPair (set.contains s.done c) _ _ (λ b. h)
      (λ b. take_stands s.state (Proposed c) (λ d q. subst (λ (x : Command). Among ms (Offered x)) (let r : c ≡ d = cc in r) there) h)
  receive_stands s (InEpoch e m) there never h = cond_cases StandsPair (nat_eq e s.epoch) _ _ (λ b. take_stands s.state m (λ d q. absurd (never e d (ap (InEpoch e) q))) h) (λ b. h)
  receive_stands s (Final e l v) there never h = cond_cases (λ (u : CoordinatorInEpoch). Stands u.state) (nat_lt e s.epoch) _ _
      (λ b d m. h d (filtered _ s.state.pending d m)) (λ b d m. h d (filtered _ s.state.pending d m))

  hear_stands : (s : CoordinatorInEpoch) (o : Option Stamped) → ((m : Stamped) → o ≡ Some m → Among ms m) → ((m : Stamped) → Among ms m → (e : ℕ) (c : Command) → m ≡ InEpoch e (Proposed c) → ⊥) → Stands s.state
      → StandsPair (on_message (s, None) (coordinators.take s) o)
  hear_stands s None there never h = h
  hear_stands s (Some m) there never h = receive_stands s m (there m refl) (never m (there m refl)) h

  pub acts_stand : (c : ℕ) (s : CoordinatorInEpoch) (event : Event) → ((m : Stamped) → Among ms m → (e : ℕ) (d : Command) → m ≡ InEpoch e (Proposed d) → ⊥) → Stands s.state → Stands (coordinator_acts c s ms event).0.state
  acts_stand c s (Offer p d) never h = h
  acts_stand c s (Begin b r) never h = cond_cases StandsPair (nat_eq c b) _ _ (λ e. begin_stands s.state r h) (λ e. h)
  acts_stand c s (Take (Proposer p) k) never h = h
  acts_stand c s (Take (Coordinator b) k) never h = cond_cases StandsPair (nat_eq c b) _ _ (λ e. hear_stands s (slice_get ms k) (λ m q. get_among ms k m q) never h) (λ e. h)
  acts_stand c s (Take (Acceptor a) k) never h = h
  acts_stand c s (Take (Learner l) k) never h = h
  acts_stand c s (Fall (Proposer p) what) never h = h
  acts_stand c s (Fall (Coordinator b) what) never h = cond_cases StandsPair (nat_eq c b) _ _ (λ e. fall_stands s.state (coordinator_kept s ms what).part h) (λ e. h)
  acts_stand c s (Fall (Acceptor a) what) never h = h
  acts_stand c s (Fall (Learner l) what) never h = h

-- what is pending at a coordinator was proposed before
pub pending_stands : (config : Counts) (es : List Entry) → Legal config es → (c : ℕ) → Stands (messages es) (coordinator_at config c es).state
pending_stands config [] legal c d m = elim m [ ]
pending_stands config (x ∷ es) legal c d m = among_left (messages es) x.sent (Offered d)
    (acts_stand (messages es) c (coordinator_at config c es) x.event (proposals_are_of_no_epoch config es legal.0) (pending_stands config es legal.0 c) d m)
