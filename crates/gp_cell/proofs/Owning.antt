-- A coordinator keeps its configuration and its number, also from one epoch to the next.
use Rattle.std.proofs.Common.{◌≡◌, ℕ, suc, Bool, true, false, cond, List, refl, Some, None}
use Rattle.std.specs.Prelude.{Option, slice_get, nat_eq, nat_lt}
use Rattle.std.specs.FinSet as set
use Rattle.gp_round.specs.Rounds.{earlier}
use Rattle.gp_round.specs.declared.round.Round.{Round}
use Rattle.gp_msg.specs.declared.node.Node.TheVariants.{Proposer, Coordinator, Acceptor, Learner}
use Rattle.gp_msg.specs.declared.event.Event.{Event}
use Rattle.gp_msg.specs.declared.event.Event.TheVariants.{Offer, Begin, Take, Fall}
use Rattle.gp_msg.specs.Messages.{Message, Proposed, Stamped, Offered, InEpoch, Final, Part, Acceptors, Coordinators}
use Rattle.gp_coordinator.specs.State.{CoordinatorState}
use Rattle.gp_coordinator.specs.Table.{coordinator_begin, coordinator_take, begun}
use Rattle.gp_coordinator.specs.Epochs as coordinator
use Rattle.gp_coordinator.specs.Epochs.{CoordinatorInEpoch, stepped, settled, entered}
use Rattle.gp_run.specs.Messages.{on_message}
use Rattle.gp_run.specs.States.{coordinator_acts, coordinator_kept}
use Rattle.gp_run.proofs.Owning.{SameCoordinator, takes_same}

-- of the same configuration, with the same number
pub record SameInEpoch (s t : CoordinatorInEpoch) : Type 0 where
  pub config_is : t.state.config ≡ s.state.config
  pub number_is : t.state.number ≡ s.state.number

itself : (s : CoordinatorInEpoch) → SameInEpoch s s
itself s = record { config_is = refl; number_is = refl }

-- one of two steps
chosen : {X : Type 0} (s : CoordinatorInEpoch) (b : Bool) (u v : CoordinatorInEpoch × X) → SameInEpoch s u.0 → SameInEpoch s v.0 → SameInEpoch s (cond b u v).0
chosen s true u v h k = h
chosen s false u v h k = k

chosen_state : (s : CoordinatorInEpoch) (b : Bool) (u v : CoordinatorInEpoch) → SameInEpoch s u → SameInEpoch s v → SameInEpoch s (cond b u v)
chosen_state s true u v h k = h
chosen_state s false u v h k = k

in_epoch : (s : CoordinatorInEpoch) (step : CoordinatorState × Option Message) → SameCoordinator s.state step.0 → SameInEpoch s (stepped s step).0
in_epoch s step h = record { config_is = h.config_is; number_is = h.number_is }

begins : (s : CoordinatorState) (r : Round) (b : Bool) (m : Message) → SameCoordinator s (cond {A = CoordinatorState × Option Message} b (begun s r, Some m) (s, None)).0
begins s r true m = record { config_is = refl; number_is = refl }
begins s r false m = record { config_is = refl; number_is = refl }

begin_same : (s : CoordinatorInEpoch) (r : Round) → SameInEpoch s (coordinator.begin s r).0
begin_same s r = in_epoch s (coordinator_begin s.state r) (begins s.state r (earlier s.state.round r) _)

take_same : (s : CoordinatorInEpoch) (m : Stamped) → SameInEpoch s (coordinator.take s m).0
take_same s (Offered c) = chosen s (set.contains s.done c) (s, None) (stepped s (coordinator_take s.state (Proposed c))) (itself s) (in_epoch s (coordinator_take s.state (Proposed c)) (takes_same s.state (Proposed c)))
take_same s (InEpoch e m) = chosen s (nat_eq e s.epoch) (stepped s (coordinator_take s.state m)) (s, None) (in_epoch s (coordinator_take s.state m) (takes_same s.state m)) (itself s)
take_same s (Final e l v) = chosen_state s (nat_lt e s.epoch) (settled s v) (entered (settled s v) (suc e)) (record { config_is = refl; number_is = refl }) (record { config_is = refl; number_is = refl })

fall_same : (s : CoordinatorInEpoch) (e : ℕ) (p : Part) → SameInEpoch s (coordinator.fall s (record { epoch = e; part = p }))
fall_same s e (Acceptors r q v) = record { config_is = refl; number_is = refl }
fall_same s e (Coordinators r) = record { config_is = refl; number_is = refl }

message_same : (s : CoordinatorInEpoch) (o : Option Stamped) → SameInEpoch s (on_message (s, None) (coordinator.take s) o).0
message_same s None = itself s
message_same s (Some m) = take_same s m

-- what happens at a coordinator changes neither
pub acts_same : (c : ℕ) (s : CoordinatorInEpoch) (ms : List Stamped) (e : Event) → SameInEpoch s (coordinator_acts c s ms e).0
acts_same c s ms (Offer p d) = itself s
acts_same c s ms (Begin b r) = chosen s (nat_eq c b) (coordinator.begin s r) (s, None) (begin_same s r) (itself s)
acts_same c s ms (Take (Proposer p) k) = itself s
acts_same c s ms (Take (Coordinator b) k) = chosen s (nat_eq c b) (on_message (s, None) (coordinator.take s) (slice_get ms k)) (s, None) (message_same s (slice_get ms k)) (itself s)
acts_same c s ms (Take (Acceptor a) k) = itself s
acts_same c s ms (Take (Learner l) k) = itself s
acts_same c s ms (Fall (Proposer p) what) = itself s
acts_same c s ms (Fall (Coordinator b) what) =
    let p = coordinator_kept s ms what in
    chosen s (nat_eq c b) (coordinator.fall s p, None) (s, None) (fall_same s p.epoch p.part) (itself s)
acts_same c s ms (Fall (Acceptor a) what) = itself s
acts_same c s ms (Fall (Learner l) what) = itself s
