-- What holds of all nodes and messages of every legal run.
use Rattle.std.proofs.Common.{◌≡◌, ℕ, zero, suc, ◌≤◌, Bool, true, false, cond, List, [], ◌∷◌, ◌++◌, Some, None, inl, inr, refl, sym, ap, ◌∙◌, subst, arith}
use Rattle.std.specs.Prelude.{Option, nat_eq, slice_get, ◌⊎◌}
use Rattle.std.specs.Option.{option_to_list}
use Rattle.std.proofs.Math.Nat.{le_refl}
use Rattle.std.proofs.lemmas.Bool.{eqb-true}
use Rattle.gp_history.proofs.Tests.{by_cases}
use Rattle.gp_history.proofs.Bound.{empty_is_history}
use Rattle.gp_round.specs.Counts.{Counts}
use Rattle.gp_msg.specs.declared.node.Node.{Node}
use Rattle.gp_msg.specs.declared.node.Node.TheVariants.{Proposer, Coordinator, Acceptor, Learner}
use Rattle.gp_msg.specs.declared.event.Event.{Event}
use Rattle.gp_msg.specs.declared.event.Event.TheVariants.{Offer, Begin, Take, Fall}
use Rattle.gp_msg.specs.Nodes.{node_of}
use Rattle.gp_proposer.specs.State.{ProposerState}
use Rattle.gp_proposer.specs.Table.{proposer_offer}
use Rattle.gp_msg.specs.Messages.{Stamped, Entry, maybe_stamped}
use Rattle.gp_run.specs.Messages.{messages, on_message}
use Rattle.gp_run.specs.Legal.{Legal, sent_by, sent_at}
use Rattle.gp_run.specs.States.{proposer_at, proposer_acts, coordinator_at, acceptor_at, learner_at, learner_acts}
use Rattle.gp_learner.specs.Epochs.{LearnerInEpoch, fall, take}
use Rattle.gp_run.proofs.Choices.{chosen}
use Rattle.gp_learner.proofs.Parts.{nothing_marked}
use Rattle.gp_driver.proofs.Closings.{MaybeSound, MaybeInOrder, IsSent, nothing_sent, quiet_in_order, AllSound, closed_by, closed-append, AreInOrder, in_order-append, after, after_is, after_grows}
use Rattle.gp_driver.proofs.CoordinatorsKeep as coordinator
use Rattle.gp_driver.proofs.CoordinatorsKeep.{CoordinatorKept, coordinator_keeps, none_answered}
use Rattle.gp_driver.proofs.AcceptorsKeep as acceptor
use Rattle.gp_driver.proofs.AcceptorsKeep.{AcceptorKept, acceptor_keeps}
use Rattle.gp_driver.proofs.LearnersKeep as learner
use Rattle.gp_driver.proofs.LearnersKeep.{LearnerKept, learner_keeps}

pub record RunKept (config : Counts) (es : List Entry) : Type 0 where
  pub sound : AllSound (messages es)
  pub in_order : AreInOrder 0 (messages es)
  pub coordinators : (c : ℕ) → CoordinatorKept config c (closed_by (messages es)) (coordinator_at config c es)
  pub acceptors : (a : ℕ) → AcceptorKept config a (closed_by (messages es)) (acceptor_at config a es)
  pub learners : (l : ℕ) → LearnerKept config l (closed_by (messages es)) (learner_at config l es)

-- ---- one more message

pub in_either : {X : Type 0} (xs ys : List X) (k : ℕ) (x : X) → slice_get (xs ++ ys) k ≡ Some x → (slice_get xs k ≡ Some x) ⊎ ((j : ℕ) × (slice_get ys j ≡ Some x))
in_either [] ys k x h = inr (k, h)
in_either (y ∷ xs) ys zero x h = inl h
in_either (y ∷ xs) ys (suc k) x h = in_either xs ys k x h

pub only : {X : Type 0} (o : Option X) (k : ℕ) (x : X) → slice_get (option_to_list o) k ≡ Some x → o ≡ Some x
only None k x h = cc
only (Some y) zero x h = h
only (Some y) (suc k) x h = cc

sound_with : (ms : List Stamped) (o : Option Stamped) → AllSound ms → MaybeSound o → AllSound (ms ++ option_to_list o)
sound_with ms o all h k m e = elim (in_either ms (option_to_list o) k m e) [
  | inl old ↦ all k m old
  | inr new ↦ let is = only o new.0 m new.1 in let s : MaybeSound (Some m) = subst MaybeSound is h in s
]

ordered_with : (n : ℕ) (o : Option Stamped) → MaybeInOrder n o → AreInOrder n (option_to_list o)
ordered_with n None h = tt
ordered_with n (Some m) h = (h, tt)

-- ---- what each node sends

record Sending (n : ℕ) (o : Option Stamped) : Type 0 where
  pub sound : MaybeSound o
  pub in_order : MaybeInOrder n o

quietly : (n : ℕ) (o : Option Stamped) → IsSent o → Sending n o
quietly n o s = record { sound = s.sound; in_order = quiet_in_order n o s.quiet }

offers : (p : ℕ) (s : ProposerState) (event : Event) → IsSent (proposer_acts p s event).1
offers p s (Offer q d) = chosen (λ (u : ProposerState × Option Stamped). IsSent u.1) (nat_eq p q) ((proposer_offer s d).0, maybe_stamped 0 (proposer_offer s d).1) (s, None) (record { sound = tt; quiet = tt }) nothing_sent
offers p s (Begin c r) = nothing_sent
offers p s (Take node k) = nothing_sent
offers p s (Fall node what) = nothing_sent

module _ (config : Counts) (es : List Entry) (was : RunKept config es) where
  abbrev n : ℕ
  n = closed_by (messages es)

  sends : (node : Node) (event : Event) → Sending n (sent_by config es node event)
  sends (Proposer p) event = quietly n _ (offers p (proposer_at p es) event)
  sends (Coordinator c) event = quietly n _ (coordinator_keeps config c n (coordinator_at config c es) (messages es) event refl was.sound (was.coordinators c)).sent
  sends (Acceptor a) event = quietly n _ (acceptor_keeps config a n (acceptor_at config a es) (messages es) event refl was.sound (was.acceptors a)).sent
  sends (Learner l) event = let s = learner_keeps config l n (learner_at config l es) (messages es) event refl was.sound (was.learners l) in record { sound = s.sound; in_order = s.in_order }

  no_second : (b : Bool) (s t : LearnerInEpoch) (m : ℕ) → after n (cond {A = LearnerInEpoch × Option Stamped} b (s, None) (t, None)).1 ≤ after n None
  no_second true s t m = omega arith
  no_second false s t m = omega arith

  -- what a learner sends itself is what is sent
  own_output : (l : ℕ) (event : Event) → after n (learner_acts l (learner_at config l es) (messages es) event).1 ≤ after n (sent_by config es (node_of event) event)
  own_output l (Offer p d) = after_grows n (sent_by config es (Proposer p) (Offer p d))
  own_output l (Begin c r) = after_grows n (sent_by config es (Coordinator c) (Begin c r))
  own_output l (Take (Proposer p) k) = after_grows n (sent_by config es (Proposer p) (Take (Proposer p) k))
  own_output l (Take (Coordinator c) k) = after_grows n (sent_by config es (Coordinator c) (Take (Coordinator c) k))
  own_output l (Take (Acceptor a) k) = after_grows n (sent_by config es (Acceptor a) (Take (Acceptor a) k))
  own_output l (Take (Learner i) k) = by_cases (nat_eq l i)
      (λ e. subst (λ j. after n (learner_acts j (learner_at config j es) (messages es) (Take (Learner i) k)).1 ≤ after n (learner_acts i (learner_at config i es) (messages es) (Take (Learner i) k)).1) (sym (eqb-true l i e)) (le_refl (after n (learner_acts i (learner_at config i es) (messages es) (Take (Learner i) k)).1)))
      (λ e. subst (λ b. after n (cond b (on_message (learner_at config l es, None) (take (learner_at config l es)) (slice_get (messages es) k)) (learner_at config l es, None)).1 ≤ after n (sent_by config es (Learner i) (Take (Learner i) k))) (sym e) (after_grows n (sent_by config es (Learner i) (Take (Learner i) k))))
  own_output l (Fall (Proposer p) what) = after_grows n (sent_by config es (Proposer p) (Fall (Proposer p) what))
  own_output l (Fall (Coordinator c) what) = after_grows n (sent_by config es (Coordinator c) (Fall (Coordinator c) what))
  own_output l (Fall (Acceptor a) what) = after_grows n (sent_by config es (Acceptor a) (Fall (Acceptor a) what))
  own_output l (Fall (Learner i) what) =
      let a = no_second (nat_eq l i) (fall (learner_at config l es)) (learner_at config l es) 0 in
      let b = after_grows n (sent_by config es (Learner i) (Fall (Learner i) what)) in
      omega (arith, a, b)

  now : (e : Entry) → e.sent ≡ sent_at config es e.event → closed_by (messages es ++ e.sent) ≡ after n (sent_by config es (node_of e.event) e.event)
  now e h = ap (λ xs. closed_by (messages es ++ xs)) h ∙ closed-append 0 (messages es) (option_to_list (sent_by config es (node_of e.event) e.event)) ∙ after_is n (sent_by config es (node_of e.event) e.event)

  one_more : (e : Entry) → e.sent ≡ sent_at config es e.event → RunKept config (e ∷ es)
  one_more e h =
      let o = sent_by config es (node_of e.event) e.event in
      let s = sends (node_of e.event) e.event in
      let c : closed_by (messages es ++ e.sent) ≡ after n (sent_by config es (node_of e.event) e.event) = now e h in
      let g = after_grows n (sent_by config es (node_of e.event) e.event) in
      let more : closed_by (messages es) ≤ closed_by (messages es ++ e.sent) = omega (arith, c, g) in
      record {
        sound = subst (λ xs. AllSound (messages es ++ xs)) (sym h) (sound_with (messages es) (sent_by config es (node_of e.event) e.event) was.sound s.sound);
        in_order = subst (λ xs. AreInOrder 0 (messages es ++ xs)) (sym h) (in_order-append 0 (messages es) (option_to_list (sent_by config es (node_of e.event) e.event)) was.in_order (ordered_with n (sent_by config es (node_of e.event) e.event) s.in_order));
        coordinators = λ i. coordinator.more_epochs config i n (closed_by (messages es ++ e.sent)) _ more (coordinator_keeps config i n (coordinator_at config i es) (messages es) e.event refl was.sound (was.coordinators i)).state;
        acceptors = λ i. acceptor.more_epochs config i n (closed_by (messages es ++ e.sent)) _ more (acceptor_keeps config i n (acceptor_at config i es) (messages es) e.event refl was.sound (was.acceptors i)).state;
        learners = λ i.
            let w = own_output i e.event in
            let le : after n (learner_acts i (learner_at config i es) (messages es) e.event).1 ≤ closed_by (messages es ++ e.sent) = omega (arith, w, c) in
            learner.more_epochs config i (after n (learner_acts i (learner_at config i es) (messages es) e.event).1) (closed_by (messages es ++ e.sent)) _ le (learner_keeps config i n (learner_at config i es) (messages es) e.event refl was.sound (was.learners i)).state;
      }

pub run_kept : (config : Counts) (es : List Entry) → Legal config es → RunKept config es
run_kept config [] legal = record {
  sound = λ k m e. cc;
  in_order = tt;
  coordinators = λ c. record { sound = record { own_config = refl; own_number = refl; value = λ v e. cc; answers = λ i a e. absurd (none_answered config.acceptors i a e) }; epoch = omega arith };
  acceptors = λ a. record { sound = acceptor.opening_sound config a; epoch = omega arith };
  learners = λ l. record { sound = learner.opening_sound config l; plain = nothing_marked; learned = empty_is_history; epoch = omega arith };
}
run_kept config (e ∷ es) legal = one_more config es (run_kept config es legal.0) e legal.1.own_messages
