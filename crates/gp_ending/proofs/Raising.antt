-- The round of a coordinator, by the rounds that were called for its epoch.
use Rattle.std.proofs.Common.{◌≡◌, ℕ, suc, ◌<◌, ◌≤◌, Bool, true, false, cond, ◌&&◌, List, [], ◌∷◌, ◌++◌, Option, Some, None, refl, sym, ap, ◌∙◌, subst, arith}
use Rattle.std.specs.Prelude.{nat_eq, nat_lt, not, slice_set}
use Rattle.std.specs.FinSet as set
use Rattle.std.proofs.lemmas.Bool.{lt-ltb, eqb-true}
use Rattle.gp_command.specs.declared.command.Command.{Command}
use Rattle.gp_history.specs.History.{History, has, push}
use Rattle.gp_round.specs.declared.round.Round.{Round}
use Rattle.gp_round.specs.Rounds.{earlier, is_multi, is_fast}
use Rattle.gp_msg.specs.Messages.{Message, Proposed, Asked, Answered, Sent, Voted, Stamped, Offered, InEpoch, Final}
use Rattle.gp_coordinator.specs.State.{CoordinatorState}
use Rattle.gp_coordinator.specs.Table as table
use Rattle.gp_coordinator.specs.Epochs as coordinator
use Rattle.gp_coordinator.specs.Epochs.{CoordinatorInEpoch}
use Rattle.gp_run.proofs.Choices.{chosen, chosen_where}
use Rattle.gp_cstructs.specs.CStructs.{Among}
use Rattle.gp_phase.specs.declared.caller.Call.{Call}
use Rattle.gp_caller.specs.Calling.{call_in, called_for}
use Rattle.gp_ending.proofs.Turns.{round_at, IsOfTurn, next_is_above, none_raises, called_here, called_there, called_more}

-- the coordinator is in the highest round that was called for its epoch, and none was called for a later one
pub record IsInTurn (calls : List Call) (s : CoordinatorInEpoch) : Type 0 where
  pub round_is : s.state.round ≡ round_at (called_for s.epoch calls)
  pub ahead : (e : ℕ) → s.epoch < e → called_for e calls ≡ 0

-- each round that was asked for in an epoch is one of the two, and one was called for that epoch
abbrev pub AreAsked : List Call → List Stamped → Type 0
AreAsked calls ms = (e : ℕ) (r : Round) → Among ms (InEpoch e (Asked r)) → (0 < called_for e calls) × IsOfTurn r

pub asked_more : (calls more : List Call) (ms : List Stamped) → AreAsked calls ms → AreAsked (calls ++ more) ms
asked_more calls more ms h e r m = let l = (h e r m).0 in let g = called_more e calls more in (omega arith, (h e r m).1)

-- ---- it begins the next round

pub in_turn_begun : (calls : List Call) (s : CoordinatorInEpoch) (r : Round) → called_for s.epoch calls ≤ 1 → r ≡ round_at (suc (called_for s.epoch calls)) → IsInTurn calls s
    → IsInTurn (calls ++ call_in s.epoch r ∷ []) (coordinator.begin s r).0
in_turn_begun calls s r few is h = record {
  round_is =
      ap (λ b. (cond {A = CoordinatorState × Option Message} b (table.begun s.state r, Some (Asked r)) (s.state, None)).0.round) above
      ∙ is ∙ ap round_at (sym (called_here s.epoch r calls));
  ahead = λ e l. called_there e s.epoch r calls (λ same. omega (arith, l, same)) ∙ h.ahead e l;
}
  where
    above : earlier s.state.round r ≡ true
    above = (λ i. earlier (h.round_is i) (is i)) ∙ next_is_above (called_for s.epoch calls) few

-- ---- it takes a message

abbrev Keeps : Round → CoordinatorState × Option Message → Type 0
Keeps r p = p.0.round ≡ r

extended_keeps : (s : CoordinatorState) (o : Option History) (c : Command) → Keeps s.round (table.extended s o c)
extended_keeps s None c = refl
extended_keeps s (Some w) c = chosen (Keeps s.round) (not (has w c) && not (is_fast s.round.mode)) (record s { value = Some (push w c) }, Some (Sent s.round s.number (push w c))) (s, None) refl refl

answered_keeps : (s : CoordinatorState) → Keeps s.round (table.answered s)
answered_keeps s = chosen (Keeps s.round) _ (record s { value = Some (table.chosen s) }, Some (Sent s.round s.number (table.chosen s))) (s, None) refl refl

-- its round stays, where no round that it is asked for raises it
take_keeps : (s : CoordinatorState) (m : Message) → ((r : Round) → m ≡ Asked r → (is_multi r.mode && earlier s.round r) ≡ false) → Keeps s.round (table.coordinator_take s m)
take_keeps s (Proposed c) h = extended_keeps (record s { pending = table.pending_with s.pending c }) s.value c
take_keeps s (Asked r) h = ap (λ b. (cond {A = CoordinatorState × Option Message} b (table.begun s r, None) (s, None)).0.round) (h r refl)
take_keeps s (Answered r a q v) h = chosen (Keeps s.round) (table.expects s r a) (table.answered (record s { answers = slice_set s.answers a (Some (record { round = q; vote = v })) })) (s, None)
    (answered_keeps (record s { answers = slice_set s.answers a (Some (record { round = q; vote = v })) })) refl
take_keeps s (Sent r c v) h = refl
take_keeps s (Voted r a v) h = refl

in_turn_as : (calls : List Call) (s : CoordinatorInEpoch) (t : CoordinatorInEpoch) → t.epoch ≡ s.epoch → t.state.round ≡ s.state.round → IsInTurn calls s → IsInTurn calls t
in_turn_as calls s t e r h = record {
  round_is = r ∙ h.round_is ∙ ap (λ n. round_at (called_for n calls)) (sym e);
  ahead = λ n l. h.ahead n (subst (λ k. k < n) e l);
}

-- in a later epoch nothing was called
in_turn_entered : (calls : List Call) (s : CoordinatorInEpoch) (v : History) (e : ℕ) → s.epoch < e → IsInTurn calls s → IsInTurn calls (coordinator.entered (coordinator.settled s v) e)
in_turn_entered calls s v e l h = record {
  round_is = ap round_at (sym (h.ahead e l));
  ahead = λ n more. h.ahead n (omega (arith, l, more));
}

not_below : (n m : ℕ) → nat_lt n m ≡ false → m < suc n
not_below n m e = omega (arith, none)
  where
    none : n < m → ⊥
    none l = let wrong : true ≡ false = sym (lt-ltb n m l) ∙ e in cc

module _ (calls : List Call) (ms : List Stamped) (asked : AreAsked calls ms) (s : CoordinatorInEpoch) (h : IsInTurn calls s) where
  abbrev Stays : CoordinatorInEpoch × Option Stamped → Type 0
  Stays p = IsInTurn calls p.0

  in_epoch : (e : ℕ) (m : Message) → Among ms (InEpoch e m) → e ≡ s.epoch → Keeps s.state.round (table.coordinator_take s.state m)
  in_epoch e m there here = take_keeps s.state m (λ r is.
      let a = asked s.epoch r (subst (λ n. Among ms (InEpoch n (Asked r))) here (subst (λ k. Among ms (InEpoch e k)) is there)) in
      ap (λ q. is_multi r.mode && earlier q r) h.round_is ∙ none_raises (called_for s.epoch calls) r a.0 a.1)

  pub in_turn_took : (m : Stamped) → Among ms m → Stays (coordinator.take s m)
  in_turn_took (Offered c) there = chosen Stays (set.contains s.done c) (s, None) (coordinator.stepped s (table.coordinator_take s.state (Proposed c))) h
      (in_turn_as calls s (coordinator.stepped s (table.coordinator_take s.state (Proposed c))).0 refl (take_keeps s.state (Proposed c) (λ r is. absurd (cc))) h)
  in_turn_took (InEpoch e m) there = chosen_where Stays (nat_eq e s.epoch) (coordinator.stepped s (table.coordinator_take s.state m)) (s, None)
      (λ here. in_turn_as calls s (coordinator.stepped s (table.coordinator_take s.state m)).0 refl (in_epoch e m there (eqb-true e s.epoch here)) h) h
  in_turn_took (Final e l v) there = by_order (nat_lt e s.epoch) refl
    where
      by_order : (b : Bool) → nat_lt e s.epoch ≡ b → IsInTurn calls (cond b (coordinator.settled s v) (coordinator.entered (coordinator.settled s v) (suc e)))
      by_order true t = in_turn_as calls s (coordinator.settled s v) refl refl h
      by_order false t = in_turn_entered calls s v (suc e) (not_below e s.epoch t) h
