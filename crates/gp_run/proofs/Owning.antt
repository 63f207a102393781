-- A node keeps its configuration and its number.
use Rattle.std.proofs.Common.{◌≡◌, ℕ, Bool, cond, ◌&&◌, refl, Some, None}
use Rattle.std.specs.Prelude.{not, Option, slice_set}
use Rattle.gp_command.specs.declared.command.Command.{Command}
use Rattle.gp_history.specs.History.{History, has}
use Rattle.gp_round.specs.Rounds.{earlier, is_fast, is_multi}
use Rattle.gp_round.specs.declared.round.Round.{Round}
use Rattle.gp_msg.specs.Messages.{Message, Proposed, Asked, Answered, Sent, Voted}
use Rattle.gp_coordinator.specs.Replies.{reply_at}
use Rattle.gp_coordinator.specs.State.{CoordinatorState}
use Rattle.gp_coordinator.specs.Table.{coordinator_take, expects, extended, answered, is_enough, pending_with}
use Rattle.gp_run.proofs.Choices.{chosen}

-- of the states
chosen_state : {X Y : Type 0} (P : X → Type 0) (b : Bool) (u v : X × Y) → P u.0 → P v.0 → P (cond b u v).0
chosen_state P b u v h k = chosen (λ w. P w.0) b u v h k

-- ---- coordinators

-- of the same configuration, with the same number
pub record SameCoordinator (s t : CoordinatorState) : Type 0 where
  pub config_is : t.config ≡ s.config
  pub number_is : t.number ≡ s.number

itself : (s : CoordinatorState) → SameCoordinator s s
itself s = record { config_is = refl; number_is = refl }

extended_same : (s t : CoordinatorState) (o : Option History) (c : Command) → SameCoordinator s t → SameCoordinator s (extended t o c).0
extended_same s t None c h = h
extended_same s t (Some w) c h = chosen_state (SameCoordinator s) (not (has w c) && not (is_fast t.round.mode)) _ _ (record { config_is = h.config_is; number_is = h.number_is }) h

answered_same : (s t : CoordinatorState) → SameCoordinator s t → SameCoordinator s (answered t).0
answered_same s t h = chosen_state (SameCoordinator s) (is_enough t.config.acceptors (reply_at t.answers)) _ _ (record { config_is = h.config_is; number_is = h.number_is }) h

-- with one more answer
abbrev pub replied : CoordinatorState → Round → ℕ → Round → History → CoordinatorState
replied s r a q v = record s { answers = slice_set s.answers a (Some (record { round = q; vote = v })) }

pub takes_same : (s : CoordinatorState) (m : Message) → SameCoordinator s (coordinator_take s m).0
takes_same s (Proposed c) = extended_same s (record s { pending = pending_with s.pending c }) s.value c (record { config_is = refl; number_is = refl })
takes_same s (Asked r) = chosen_state (SameCoordinator s) (is_multi r.mode && earlier s.round r) _ _ (record { config_is = refl; number_is = refl }) (itself s)
takes_same s (Answered r a q v) = chosen_state (SameCoordinator s) (expects s r a) (answered (replied s r a q v)) (s, None) (answered_same s (replied s r a q v) (record { config_is = refl; number_is = refl })) (itself s)
takes_same s (Sent r c v) = itself s
takes_same s (Voted r a v) = itself s
