-- The values of a multi round that extend one another, and the coordinators that lead it.
use Rattle.std.proofs.Common.{◌≡◌, ℕ, true, false, cond, ◌&&◌, List, [], ◌∷◌, ◌++◌, Some, None, sym, ap, ◌∙◌, subst, arith}
use Rattle.std.specs.Prelude.{Option, not, nat_lt}
use Rattle.std.specs.FinSet as set
use Rattle.std.proofs.lemmas.Bool.{lt-ltb}
use Rattle.std.proofs.lemmas.List.{length-append}
use Rattle.gp_command.specs.declared.command.Command.{Command}
use Rattle.gp_command.specs.Order.{command_cmp}
use Rattle.gp_history.specs.History.{History, IsHistory, IsPrefix, has, before, empty, push, size}
use Rattle.gp_history.specs.Sequence.{history_of, no_repeat}
use Rattle.gp_history.specs.Bounds.{meet, join}
use Rattle.gp_history.proofs.Tests.{never, not_true}
use Rattle.gp_history.proofs.Sets.{same_history}
use Rattle.gp_history.proofs.Size.{size_of_sequence}
use Rattle.gp_history.proofs.Sequences.{may_push}
use Rattle.gp_history.proofs.Push.{prefix_push}
use Rattle.gp_history.proofs.Prefix.{prefix_refl, prefix_antisymm}
use Rattle.gp_history.proofs.Joins.{history_of_is, history_of-push, empty_none, empty_no_pairs}
use Rattle.gp_history.proofs.Bound.{meet_is_greatest, meet_is_history, extended_by}
use Rattle.gp_round.specs.Counts.{Counts}
use Rattle.gp_safe.specs.Choice.{Reply}
use Rattle.gp_msg.specs.Messages.{Proposed, Sent, Stamped, Offered, InEpoch}
use Rattle.gp_coordinator.specs.Table.{pending_with, coordinator_take}
use Rattle.gp_coordinator.specs.Epochs.{CoordinatorInEpoch, take, stepped}
use Rattle.gp_driver.specs.Driving.{first_round}

-- ---- bounds of a history and one that it is a prefix of

pub meet_above : (h k : History) → IsHistory h → IsHistory k → IsPrefix h k → meet k h ≡ h
meet_above h k wh wk p =
    let g = meet_is_greatest k h wk wh in
    prefix_antisymm (meet k h) h (meet_is_history k h wk wh) wh g.right (g.greatest h p (prefix_refl h wh))

pub join_above : (h k : History) → IsHistory h → IsHistory k → IsPrefix h k → join h k ≡ k
unfolding join
join_above h k wh wk p = extended_by h k wh wk p

-- a history without commands
pub no_commands : (h : History) → IsHistory h → ((c : Command) → has h c ≡ false) → h ≡ empty
no_commands h w none = same_history h empty (λ c. none c ∙ sym (empty_none c)) (λ c d. not_true (before h c d) (λ b. never (has h c) (w.within c d b).0 (none c)) ∙ sym (empty_no_pairs c d))

-- ---- one command more

-- of a sequence without the command
pub record Extends (cs : List Command) (c : Command) : Type 0 where
  pub is_push : push (history_of cs) c ≡ history_of (cs ++ c ∷ [])
  pub distinct : no_repeat (cs ++ c ∷ []) ≡ true
  pub above : IsPrefix (history_of cs) (history_of (cs ++ c ∷ []))
  pub longer : nat_lt (size (history_of cs)) (size (history_of (cs ++ c ∷ []))) ≡ true

pub extends : (cs : List Command) (c : Command) → no_repeat cs ≡ true → has (history_of cs) c ≡ false → Extends cs c
extends cs c d n =
    let is : history_of (cs ++ c ∷ []) ≡ push (history_of cs) c = history_of-push cs c in
    let more = may_push cs c d n in
    record {
      is_push = sym is;
      distinct = more;
      above = subst (IsPrefix (history_of cs)) (sym is) (prefix_push (history_of cs) (history_of_is cs) c);
      longer = lt-ltb (size (history_of cs)) (size (history_of (cs ++ c ∷ []))) (let a = size_of_sequence cs d in let b = size_of_sequence (cs ++ c ∷ []) more in let l = length-append cs (c ∷ []) in omega (arith, a, b, l));
    }

-- ---- a coordinator with its value

abbrev pub leading : Counts → ℕ → List (Option Reply) → List Command → History → CoordinatorInEpoch
leading config i answers pending h = record {
  epoch = 0;
  state = record { config = config; number = i; round = first_round; awake = true; answers = answers; value = Some h; pending = pending };
  done = set.empty;
}

pub pushes_proposal : (config : Counts) (i : ℕ) (answers : List (Option Reply)) (pending : List Command) (h : History) (c : Command) → has h c ≡ false
    → take (leading config i answers pending h) (Offered c) ≡ (leading config i answers (pending_with pending c) (push h c), Some (InEpoch 0 (Sent first_round i (push h c))))
pushes_proposal config i answers pending h c n =
    ap (λ b. cond {A = CoordinatorInEpoch × Option Stamped} b (leading config i answers pending h, None) (stepped (leading config i answers pending h) (coordinator_take (leading config i answers pending h).state (Proposed c)))) (set.contains-empty command_cmp c)
    ∙ (λ j. stepped (leading config i answers pending h)
    (cond (not (n j) && true) (record { config = config; number = i; round = first_round; awake = true; answers = answers; value = Some (push h c); pending = pending_with pending c }, Some (Sent first_round i (push h c)))
    (record { config = config; number = i; round = first_round; awake = true; answers = answers; value = Some h; pending = pending_with pending c }, None)))
