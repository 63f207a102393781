-- What is done at a coordinator is in a Final message that stands.
use Rattle.std.proofs.Common.{◌≡◌, ℕ, suc, true, ◌||◌, List, [], ◌∷◌, Some, None, inl, inr, sym, ◌∙◌}
use Rattle.std.specs.Prelude.{Option, nat_eq, nat_lt, slice_get, ◌⊎◌}
use Rattle.std.specs.FinSet as set
use Rattle.gp_command.specs.declared.command.Command.{Command}
use Rattle.gp_command.specs.Order.{command_cmp, command_cmp_total}
use Rattle.gp_history.specs.History.{History, has}
use Rattle.gp_history.proofs.Tests.{any-append, left_of, one_of}
use Rattle.gp_round.specs.Counts.{Counts}
use Rattle.gp_msg.specs.declared.node.Node.TheVariants.{Proposer, Coordinator, Acceptor, Learner}
use Rattle.gp_msg.specs.declared.event.Event.{Event}
use Rattle.gp_msg.specs.declared.event.Event.TheVariants.{Offer, Begin, Take, Fall}
use Rattle.gp_msg.specs.Messages.{Proposed, Stamped, Offered, InEpoch, Final, Entry}
use Rattle.gp_coordinator.specs.Table.{coordinator_take}
use Rattle.gp_run.specs.Messages.{messages, on_message}
use Rattle.gp_run.specs.States.{coordinator_at, coordinator_acts, coordinator_kept}
use Rattle.gp_coordinator.specs.Epochs.{CoordinatorInEpoch, stepped, settled, entered, begin, take, fall}
use Rattle.gp_run.proofs.Choices.{chosen, with_message}
use Rattle.gp_driver.proofs.Offers.{is_closed, closed_there, final_has}

-- done after a Final message: what was done, and its commands
pub done_with : (s : CoordinatorInEpoch) (v : History) (c : Command) → set.contains (set.union s.done v.commands) c ≡ (set.contains s.done c || has v c)
unfolding has
done_with s v c = set.contains-union command_cmp_total s.done v.commands c

-- all that is done here was done there, or is closed
abbrev IsKnown : CoordinatorInEpoch → List Stamped → CoordinatorInEpoch → Type 0
IsKnown s ms t = (c : Command) → set.contains t.done c ≡ true → (set.contains s.done c ≡ true) ⊎ (is_closed ms c ≡ true)

known : (s : CoordinatorInEpoch) (ms : List Stamped) → IsKnown s ms s
known s ms c t = inl t

takes_known : (s : CoordinatorInEpoch) (ms : List Stamped) (k : ℕ) (m : Stamped) → slice_get ms k ≡ Some m → IsKnown s ms (take s m).0
takes_known s ms k (Offered d) e = chosen (λ (u : CoordinatorInEpoch × Option Stamped). IsKnown s ms u.0) (set.contains s.done d) (s, None) (stepped s (coordinator_take s.state (Proposed d))) (known s ms) (λ c t. inl t)
takes_known s ms k (InEpoch i m) e = chosen (λ (u : CoordinatorInEpoch × Option Stamped). IsKnown s ms u.0) (nat_eq i s.epoch) (stepped s (coordinator_take s.state m)) (s, None) (λ c t. inl t) (known s ms)
takes_known s ms k (Final i l v) e =
    let both : IsKnown s ms (settled s v) = λ c t. one_of (set.contains s.done c) (has v c) (sym (done_with s v c) ∙ t) (λ a. inl a) (λ b. inr (closed_there ms c k i l v e b)) in
    chosen (IsKnown s ms) (nat_lt i s.epoch) (settled s v) (entered (settled s v) (suc i)) both both

acts_known : (c : ℕ) (s : CoordinatorInEpoch) (ms : List Stamped) (event : Event) → IsKnown s ms (coordinator_acts c s ms event).0
acts_known c s ms (Offer p d) = known s ms
acts_known c s ms (Begin b r) = chosen (λ (u : CoordinatorInEpoch × Option Stamped). IsKnown s ms u.0) (nat_eq c b) (begin s r) (s, None) (λ d t. inl t) (known s ms)
acts_known c s ms (Take (Proposer p) k) = known s ms
acts_known c s ms (Take (Coordinator b) k) =
    chosen (λ (u : CoordinatorInEpoch × Option Stamped). IsKnown s ms u.0) (nat_eq c b) (on_message (s, None) (take s) (slice_get ms k)) (s, None)
    (with_message (λ (u : CoordinatorInEpoch × Option Stamped). IsKnown s ms u.0) (s, None) (take s) (slice_get ms k) (known s ms) (λ m e. takes_known s ms k m e)) (known s ms)
acts_known c s ms (Take (Acceptor a) k) = known s ms
acts_known c s ms (Take (Learner l) k) = known s ms
acts_known c s ms (Fall (Proposer p) what) = known s ms
acts_known c s ms (Fall (Coordinator b) what) =
    chosen (λ (u : CoordinatorInEpoch × Option Stamped). IsKnown s ms u.0) (nat_eq c b) (fall s (coordinator_kept s ms what), None) (s, None)
    (λ d t. absurd (let none = set.contains-empty command_cmp d in cc)) (known s ms)
acts_known c s ms (Fall (Acceptor a) what) = known s ms
acts_known c s ms (Fall (Learner l) what) = known s ms

pub done_is_closed : (config : Counts) (c : ℕ) (es : List Entry) (d : Command) → set.contains (coordinator_at config c es).done d ≡ true → is_closed (messages es) d ≡ true
done_is_closed config c [] d t = absurd (let none = set.contains-empty command_cmp d in cc)
done_is_closed config c (e ∷ es) d t =
    let was : (set.contains (coordinator_at config c es).done d ≡ true) ⊎ (is_closed (messages es) d ≡ true) = acts_known c (coordinator_at config c es) (messages es) e.event d t in
    let old : is_closed (messages es) d ≡ true = elim was [ inl a ↦ done_is_closed config c es d a | inr b ↦ b ] in
    any-append (final_has d) (messages es) e.sent ∙ left_of (is_closed (messages es) d) (is_closed e.sent d) old
