-- No event of a workload brings a round of a greater count than the workload begins.
use Rattle.std.proofs.Common.{◌≡◌, ℕ, true, List, [], ◌∷◌, ◌++◌, Option, Some, None, inl, inr, refl, sym, subst}
use Rattle.std.specs.Prelude.{slice_get, nat_eq}
use Rattle.std.specs.Option.{option_to_list}
use Rattle.gp_command.specs.declared.draft.Draft.{Draft}
use Rattle.gp_round.specs.Counts.{Counts}
use Rattle.gp_msg.specs.declared.node.Node.{Node}
use Rattle.gp_msg.specs.declared.node.Node.TheVariants.{Proposer, Coordinator, Acceptor, Learner}
use Rattle.gp_msg.specs.declared.event.Event.TheVariants.{Offer, Take, Fall}
use Rattle.gp_msg.specs.Messages.{Stamped, Entry}
use Rattle.gp_run.specs.Messages.{messages}
use Rattle.gp_run.specs.Legal.{sent_by}
use Rattle.gp_run.specs.Runs.{entry_after}
use Rattle.gp_run.specs.TopCount.{rounds_of, learner_rounds}
use Rattle.gp_run.specs.States.{proposer_acts, proposer_at, coordinator_acts, coordinator_at, acceptor_acts, acceptor_at, learner_acts, learner_at}
use Rattle.gp_proposer.specs.State.{ProposerState}
use Rattle.gp_run.proofs.Choices.{chosen}
use Rattle.gp_run.proofs.Counting.{AreUpTo, none_up_to}
use Rattle.gp_run.proofs.RoleRounds.{AcceptorIsUpTo, no_rounds}
use Rattle.gp_coordinator.specs.Epochs.{CoordinatorInEpoch}
use Rattle.gp_acceptor.specs.Epochs.{AcceptorInEpoch}
use Rattle.gp_learner.specs.Epochs.{LearnerInEpoch}
use Rattle.gp_msg.specs.Nodes.{is_present}
use Rattle.gp_driver.proofs.RunsKeep.{in_either, only}
use Rattle.gp_driver.proofs.TopRounds.{CoordinatorUpTo, RunUpTo, swept_up_to}

-- nothing was sent, or what has no round
abbrev SendsNoRound : Option Stamped → Type 0
SendsNoRound None = Unit {0}
SendsNoRound (Some m) = rounds_of m ≡ []

up_to_none : (t : ℕ) (m : Stamped) → rounds_of m ≡ [] → AreUpTo t (rounds_of m)
up_to_none t m e = subst (AreUpTo t) (sym e) (none_up_to t)

sent_alone : (t : ℕ) (o : Option Stamped) (k : ℕ) (m : Stamped) → SendsNoRound o → slice_get (option_to_list o) k ≡ Some m → AreUpTo t (rounds_of m)
sent_alone t o k m h e = up_to_none t m (subst (λ (x : Option Stamped). SendsNoRound x) (only o k m e) h)

more_sent : (t : ℕ) (ms : List Stamped) (o : Option Stamped) → ((k : ℕ) (m : Stamped) → slice_get ms k ≡ Some m → AreUpTo t (rounds_of m)) → SendsNoRound o
    → (k : ℕ) (m : Stamped) → slice_get (ms ++ option_to_list o) k ≡ Some m → AreUpTo t (rounds_of m)
more_sent t ms o all h k m e = elim (in_either ms (option_to_list o) k m e) [
  | inl old ↦ all k m old
  | inr new ↦ sent_alone t o new.0 m h new.1
]

offer_sends : (p q : ℕ) (es : List Entry) (d : Draft) → SendsNoRound (proposer_acts p (proposer_at p es) (Offer q d)).1
offer_sends p q es d = chosen (λ (u : ProposerState × Option Stamped). SendsNoRound u.1) (nat_eq p q) _ _ refl tt

-- one take is a sweep of one node over one message
pub one_take : (t : ℕ) (config : Counts) (es : List Entry) → RunUpTo t config es → (node : Node) (k : ℕ) → is_present config node ≡ true → RunUpTo t config (entry_after config es (Take node k) ∷ es)
one_take t config es was node k there = swept_up_to t config (λ i. node) 1 (k ∷ []) es (λ i l. there) was

module _ (t : ℕ) (config : Counts) (es : List Entry) (was : RunUpTo t config es) where
  pub one_offer : (p : ℕ) (d : Draft) → RunUpTo t config (entry_after config es (Offer p d) ∷ es)
  one_offer p d = record {
    sent = more_sent t (messages es) (sent_by config es (Proposer p) (Offer p d)) was.sent (offer_sends p p es d);
    coordinators = was.coordinators;
    acceptors = was.acceptors;
    learners = was.learners;
  }

  fallen_coordinator : (c i : ℕ) → CoordinatorUpTo t (coordinator_at config i es).state → CoordinatorUpTo t (coordinator_acts i (coordinator_at config i es) (messages es) (Fall (Coordinator c) None)).0.state
  fallen_coordinator c i h =
      chosen (λ (u : CoordinatorInEpoch × Option Stamped). CoordinatorUpTo t u.0.state) (nat_eq i c) _ _
      (record { round = h.round; replies = no_rounds t (coordinator_at config i es).state.config.acceptors }) h

  fallen_acceptor : (a i : ℕ) → AcceptorIsUpTo t (acceptor_at config i es).state → AcceptorIsUpTo t (acceptor_acts i (acceptor_at config i es) (messages es) (Fall (Acceptor a) None)).0.state
  fallen_acceptor a i h =
      chosen (λ (u : AcceptorInEpoch × Option Stamped). AcceptorIsUpTo t u.0.state) (nat_eq i a) _ _
      (record { round = h.round; voted = h.voted }) h

  fallen_learner : (l i : ℕ) → AreUpTo t (learner_rounds (learner_at config i es).state) → AreUpTo t (learner_rounds (learner_acts i (learner_at config i es) (messages es) (Fall (Learner l) None)).0.state)
  fallen_learner l i h =
      chosen (λ (u : LearnerInEpoch × Option Stamped). AreUpTo t (learner_rounds u.0.state)) (nat_eq i l) _ _ (none_up_to t) h

  pub one_fall : (node : Node) → RunUpTo t config (entry_after config es (Fall node None) ∷ es)
  one_fall (Proposer p) = record { sent = more_sent t (messages es) None was.sent tt; coordinators = was.coordinators; acceptors = was.acceptors; learners = was.learners }
  one_fall (Coordinator c) = record {
    sent = more_sent t (messages es) (sent_by config es (Coordinator c) (Fall (Coordinator c) None)) was.sent
        (chosen (λ (u : CoordinatorInEpoch × Option Stamped). SendsNoRound u.1) (nat_eq c c) _ _ tt tt);
    coordinators = λ i h. fallen_coordinator c i (was.coordinators i h);
    acceptors = was.acceptors;
    learners = was.learners;
  }
  one_fall (Acceptor a) = record {
    sent = more_sent t (messages es) (sent_by config es (Acceptor a) (Fall (Acceptor a) None)) was.sent
        (chosen (λ (u : AcceptorInEpoch × Option Stamped). SendsNoRound u.1) (nat_eq a a) _ _ tt tt);
    coordinators = was.coordinators;
    acceptors = λ i h. fallen_acceptor a i (was.acceptors i h);
    learners = was.learners;
  }
  one_fall (Learner l) = record {
    sent = more_sent t (messages es) (sent_by config es (Learner l) (Fall (Learner l) None)) was.sent
        (chosen (λ (u : LearnerInEpoch × Option Stamped). SendsNoRound u.1) (nat_eq l l) _ _ tt tt);
    coordinators = was.coordinators;
    acceptors = was.acceptors;
    learners = λ i h. fallen_learner l i (was.learners i h);
  }
