-- Acceptors and coordinators go to later epochs alone, also by falls.
use Rattle.std.proofs.Common.{◌≡◌, ◌⊎◌, ◌<◌, ◌≤◌, ℕ, suc, nat_eq, nat_lt, List, [], ◌∷◌, ◌++◌, Option, Some, None, slice_get, inl, inr, arith}
use Rattle.std.specs.FinSet as set
use Rattle.std.proofs.lemmas.Bool.{ltb-true, ltb-false}
use Rattle.gp_history.proofs.Tests.{by_cases}
use Rattle.gp_round.specs.Counts.{Counts}
use Rattle.gp_msg.specs.declared.node.Node.TheVariants.{Proposer, Coordinator, Acceptor, Learner}
use Rattle.gp_msg.specs.declared.event.Event.{Event}
use Rattle.gp_msg.specs.declared.event.Event.TheVariants.{Offer, Begin, Take, Fall}
use Rattle.gp_msg.specs.declared.event.Kept.{Kept}
use Rattle.gp_msg.specs.declared.event.Kept.TheVariants as kept
use Rattle.gp_cstructs.proofs.Lists.{cond_cases, nat_cases}
use Rattle.gp_msg.specs.Messages.{Stamped, Offered, InEpoch, Final, EpochPart, Entry}
use Rattle.gp_coordinator.specs.Epochs as coordinator
use Rattle.gp_coordinator.specs.Epochs.{CoordinatorInEpoch}
use Rattle.gp_acceptor.specs.Epochs as acceptor
use Rattle.gp_acceptor.specs.Epochs.{AcceptorInEpoch}
use Rattle.gp_run.specs.Messages.{messages}
use Rattle.gp_run.specs.States.{coordinator_kept, coordinator_acts, coordinator_at, acceptor_kept, acceptor_acts, acceptor_at}
use Rattle.gp_agreement.proofs.Steps.{on_message_cases}
use Rattle.gp_agreement.proofs.EpochCounts.{same}

pub by_order : (n m : ℕ) → (n < m) ⊎ ((n ≡ m) ⊎ (m < n))
by_order n m = by_cases (nat_lt n m) (λ b. inl (ltb-true n m b)) (λ b. elim (nat_cases n m) [ inl q ↦ inr (inl q) | inr d ↦ inr (inr (greater n m (ltb-false n m b) d)) ])
  where
    greater : (n m : ℕ) → m ≤ n → (n ≡ m → ⊥) → m < n
    greater n m le d = omega arith

higher : (i n : ℕ) → n ≤ i → n ≤ suc i
higher i n le = omega (arith, le)

through : (a b c : ℕ) → a ≤ b → b ≤ c → a ≤ c
through a b c p q = omega (arith, p, q)

-- ---- acceptors

acceptor_goes : (s : AcceptorInEpoch) (m : Stamped) → s.epoch ≤ (acceptor.take s m).0.epoch
acceptor_goes s (Offered c) = same s.epoch
acceptor_goes s (InEpoch e m) = cond_cases (λ (u : AcceptorInEpoch × Option Stamped). s.epoch ≤ u.0.epoch) (nat_eq e s.epoch) _ _ (λ b. same s.epoch) (λ b. same s.epoch)
acceptor_goes s (Final e l v) = cond_cases (λ (u : AcceptorInEpoch). s.epoch ≤ u.epoch) (nat_lt e s.epoch) _ _ (λ b. same s.epoch) (λ b. higher e s.epoch (ltb-false e s.epoch b))

acceptor_kept_goes : (s : AcceptorInEpoch) (ms : List Stamped) (what : Option Kept) → s.epoch ≤ (acceptor_kept s ms what).epoch
acceptor_kept_goes s ms None = same s.epoch
acceptor_kept_goes s ms (Some (kept.Begin r)) = same s.epoch
acceptor_kept_goes s ms (Some (kept.Take k)) = on_message_cases (λ (u : EpochPart). s.epoch ≤ u.epoch) (acceptor.durable s) (λ m. acceptor.durable (acceptor.take s m).0) (slice_get ms k) (same s.epoch) (acceptor_goes s)

acceptor_acts_go : (a : ℕ) (s : AcceptorInEpoch) (ms : List Stamped) (event : Event) → s.epoch ≤ (acceptor_acts a s ms event).0.epoch
acceptor_acts_go a s ms (Offer p d) = same s.epoch
acceptor_acts_go a s ms (Begin c r) = same s.epoch
acceptor_acts_go a s ms (Take (Proposer p) k) = same s.epoch
acceptor_acts_go a s ms (Take (Coordinator c) k) = same s.epoch
acceptor_acts_go a s ms (Take (Acceptor b) k) = cond_cases (λ (u : AcceptorInEpoch × Option Stamped). s.epoch ≤ u.0.epoch) (nat_eq a b) _ _
    (λ e. on_message_cases (λ (u : AcceptorInEpoch × Option Stamped). s.epoch ≤ u.0.epoch) (s, None) (acceptor.take s) (slice_get ms k) (same s.epoch) (acceptor_goes s)) (λ e. same s.epoch)
acceptor_acts_go a s ms (Take (Learner l) k) = same s.epoch
acceptor_acts_go a s ms (Fall (Proposer p) what) = same s.epoch
acceptor_acts_go a s ms (Fall (Coordinator c) what) = same s.epoch
acceptor_acts_go a s ms (Fall (Acceptor b) what) = cond_cases (λ (u : AcceptorInEpoch × Option Stamped). s.epoch ≤ u.0.epoch) (nat_eq a b) _ _ (λ e. acceptor_kept_goes s ms what) (λ e. same s.epoch)
acceptor_acts_go a s ms (Fall (Learner l) what) = same s.epoch

pub acceptor_epochs_grow : (config : Counts) (a : ℕ) (xs ys : List Entry) → (acceptor_at config a ys).epoch ≤ (acceptor_at config a (xs ++ ys)).epoch
acceptor_epochs_grow config a [] ys = same (acceptor_at config a ys).epoch
acceptor_epochs_grow config a (x ∷ xs) ys = through _ _ _ (acceptor_epochs_grow config a xs ys) (acceptor_acts_go a (acceptor_at config a (xs ++ ys)) (messages (xs ++ ys)) x.event)

-- ---- coordinators

coordinator_goes : (s : CoordinatorInEpoch) (m : Stamped) → s.epoch ≤ (coordinator.take s m).0.epoch
coordinator_goes s (Offered c) = cond_cases (λ (u : CoordinatorInEpoch × Option Stamped). s.epoch ≤ u.0.epoch) (set.contains s.done c) _ _ (λ b. same s.epoch) (λ b. same s.epoch)
coordinator_goes s (InEpoch e m) = cond_cases (λ (u : CoordinatorInEpoch × Option Stamped). s.epoch ≤ u.0.epoch) (nat_eq e s.epoch) _ _ (λ b. same s.epoch) (λ b. same s.epoch)
coordinator_goes s (Final e l v) = cond_cases (λ (u : CoordinatorInEpoch). s.epoch ≤ u.epoch) (nat_lt e s.epoch) _ _ (λ b. same s.epoch) (λ b. higher e s.epoch (ltb-false e s.epoch b))

coordinator_kept_goes : (s : CoordinatorInEpoch) (ms : List Stamped) (what : Option Kept) → s.epoch ≤ (coordinator_kept s ms what).epoch
coordinator_kept_goes s ms None = same s.epoch
coordinator_kept_goes s ms (Some (kept.Begin r)) = same s.epoch
coordinator_kept_goes s ms (Some (kept.Take k)) = on_message_cases (λ (u : EpochPart). s.epoch ≤ u.epoch) (coordinator.durable s) (λ m. coordinator.durable (coordinator.take s m).0) (slice_get ms k) (same s.epoch) (coordinator_goes s)

coordinator_acts_go : (c : ℕ) (s : CoordinatorInEpoch) (ms : List Stamped) (event : Event) → s.epoch ≤ (coordinator_acts c s ms event).0.epoch
coordinator_acts_go c s ms (Offer p d) = same s.epoch
coordinator_acts_go c s ms (Begin b r) = cond_cases (λ (u : CoordinatorInEpoch × Option Stamped). s.epoch ≤ u.0.epoch) (nat_eq c b) _ _ (λ e. same s.epoch) (λ e. same s.epoch)
coordinator_acts_go c s ms (Take (Proposer p) k) = same s.epoch
coordinator_acts_go c s ms (Take (Coordinator b) k) = cond_cases (λ (u : CoordinatorInEpoch × Option Stamped). s.epoch ≤ u.0.epoch) (nat_eq c b) _ _
    (λ e. on_message_cases (λ (u : CoordinatorInEpoch × Option Stamped). s.epoch ≤ u.0.epoch) (s, None) (coordinator.take s) (slice_get ms k) (same s.epoch) (coordinator_goes s)) (λ e. same s.epoch)
coordinator_acts_go c s ms (Take (Acceptor a) k) = same s.epoch
coordinator_acts_go c s ms (Take (Learner l) k) = same s.epoch
coordinator_acts_go c s ms (Fall (Proposer p) what) = same s.epoch
coordinator_acts_go c s ms (Fall (Coordinator b) what) = cond_cases (λ (u : CoordinatorInEpoch × Option Stamped). s.epoch ≤ u.0.epoch) (nat_eq c b) _ _ (λ e. coordinator_kept_goes s ms what) (λ e. same s.epoch)
coordinator_acts_go c s ms (Fall (Acceptor a) what) = same s.epoch
coordinator_acts_go c s ms (Fall (Learner l) what) = same s.epoch

pub coordinator_epochs_grow : (config : Counts) (c : ℕ) (xs ys : List Entry) → (coordinator_at config c ys).epoch ≤ (coordinator_at config c (xs ++ ys)).epoch
coordinator_epochs_grow config c [] ys = same (coordinator_at config c ys).epoch
coordinator_epochs_grow config c (x ∷ xs) ys = through _ _ _ (coordinator_epochs_grow config c xs ys) (coordinator_acts_go c (coordinator_at config c (xs ++ ys)) (messages (xs ++ ys)) x.event)
