-- Each legal run has a loose list for each epoch, which grows with the run.
use Rattle.std.proofs.Common.{◌≡◌, ◌⊎◌, ◌<◌, ◌+◌, ℕ, true, false, cond, nat_eq, nat_lt, List, [], ◌∷◌, ◌++◌, Option, Some, None, slice_get, length, refl, sym, subst, ap, ◌∙◌, inl, inr, append_assoc}
use Rattle.std.specs.Option.{option_to_list}
use Rattle.std.proofs.lemmas.Bool.{ltb-true}
use Rattle.gp_command.specs.declared.command.Command.{Command}
use Rattle.gp_command.specs.declared.draft.Draft.{Draft}
use Rattle.gp_history.specs.History.{History}
use Rattle.gp_history.proofs.Tests.{fst_of, snd_of}
use Rattle.gp_round.specs.declared.round.Round.{Round}
use Rattle.gp_round.specs.Counts.{Counts}
use Rattle.gp_round.proofs.Owners.{owned}
use Rattle.gp_msg.specs.declared.node.Node.{Node}
use Rattle.gp_msg.specs.declared.node.Node.TheVariants.{Proposer, Coordinator, Acceptor, Learner}
use Rattle.gp_msg.specs.declared.event.Event.TheVariants.{Offer, Begin, Take, Fall}
use Rattle.gp_msg.specs.declared.event.Event as event_type
use Rattle.gp_msg.specs.declared.event.Kept.{Kept}
use Rattle.gp_proposer.specs.State.{ProposerState}
use Rattle.gp_msg.specs.Nodes.{node_of, is_present, may_keep}
use Rattle.gp_run.specs.Learned.{Vote, taken_at, votes_after}
use Rattle.gp_cstructs.specs.CStructs.{Among}
use Rattle.gp_cstructs.specs.Loose as loose
use Rattle.gp_cstructs.specs.Loose.{run, Loose}
use Rattle.gp_cstructs.proofs.Lists.{stands_there, among_append}
use Rattle.gp_agreement.specs.Values.{Value}
use Rattle.gp_agreement.proofs.Acceptors as acceptors
use Rattle.gp_agreement.proofs.Coordinators as coordinators
use Rattle.gp_agreement.proofs.Learners as learners
use Rattle.gp_msg.specs.Messages.{Stamped, Offered, Final, Entry}
use Rattle.gp_coordinator.specs.Epochs as coordinator
use Rattle.gp_coordinator.specs.Epochs.{CoordinatorInEpoch}
use Rattle.gp_acceptor.specs.Epochs as acceptor
use Rattle.gp_acceptor.specs.Epochs.{AcceptorInEpoch}
use Rattle.gp_learner.specs.Epochs as learner
use Rattle.gp_learner.specs.Epochs.{LearnerInEpoch}
use Rattle.gp_run.specs.Messages.{messages, on_message}
use Rattle.gp_run.specs.States.{proposer_at, coordinator_kept, coordinator_acts, coordinator_at, acceptor_kept, acceptor_acts, acceptor_at, learner_acts, learner_at}
use Rattle.gp_run.specs.Legal.{fits, sent_at, Follows, Legal}
use Rattle.gp_run.specs.Chosen.{HadVote}
use Rattle.gp_agreement.proofs.Identities.{own_number, at_same}
use Rattle.gp_agreement.proofs.Pending.{pending_stands, Stands}
use Rattle.gp_agreement.proofs.Sending.{IsBallot, Ballots, acceptor_sends, coordinator_sends}
use Rattle.gp_agreement.proofs.Projection.{T, Projects, IsClosing, closing_on, proposer_says, proposer_stays}
use Rattle.gp_agreement.proofs.ProjectedAcceptors as at_acceptor
use Rattle.gp_agreement.proofs.ProjectedCoordinators as at_coordinator
use Rattle.gp_agreement.proofs.ProjectedLearners as at_learner

ballots_close_nothing : (n : ℕ) (o : Option Stamped) → Ballots n o → (i j : ℕ) (v : History) → Among (option_to_list o) (Final i j v) → ⊥
ballots_close_nothing n None h i j v m = elim m [ ]
ballots_close_nothing n (Some x) h i j v m = elim m [ inl q ↦ subst (λ (y : Stamped). IsBallot n y) q h | inr z ↦ elim z [ ] ]

module _ (config : Counts) (e : ℕ) where
  abbrev Events : Type 0
  Events = List (loose.Event (T config e))

  -- a loose list of the run in e
  pub record Projection (es : List Entry) : Type 0 where
    pub events : Events
    pub loose_list : Loose (T config e) events
    pub projects : Projects config e es (run (T config e) events)
    -- each Final of e carries a value with which a learner closes it
    pub finals : (j : ℕ) (v : History) → Among (messages es) (Final e j v) → IsClosing config e events v
    -- each vote that was cast is one that an acceptor had
    pub casts : (b : ℕ) (r : Round) (v : Value) → Among (run (T config e) events).cast (b, r, v) → HadVote config es b e r v.history

  -- what is added for one more entry
  pub record Next (es : List Entry) (p : Projection es) (x : Entry) : Type 0 where
    pub more : Events
    pub loose_list : Loose (T config e) (more ++ p.events)
    pub projects : Projects config e (x ∷ es) (run (T config e) (more ++ p.events))
    pub finals : (j : ℕ) (v : History) → Among x.sent (Final e j v) → IsClosing config e (more ++ p.events) v
    pub casts : (b : ℕ) (r : Round) (v : Value) → Among (run (T config e) (more ++ p.events)).cast (b, r, v) → Among (run (T config e) p.events).cast (b, r, v) ⊎ HadVote config (x ∷ es) b e r v.history

  module _ (es : List Entry) (p : Projection es) (stand : (c : ℕ) → Stands (messages es) (coordinator_at config c es).state) where
    acceptor_next : (a : ℕ) (known : a < config.acceptors) (u : AcceptorInEpoch × Option Stamped) → at_acceptor.AcceptorNext config e es p.events p.loose_list p.projects a known u
        → (x : Entry) → node_of x.event ≡ Acceptor a → acceptor_acts a (acceptor_at config a es) (messages es) x.event ≡ u → x.sent ≡ option_to_list (acceptor_acts a (acceptor_at config a es) (messages es) x.event).1 → Next es p x
    acceptor_next a known u n x at acts own = record {
      more = n.0;
      loose_list = n.1;
      projects = n.2 x at (ap (λ (v : AcceptorInEpoch × Option Stamped). v.0) acts) (own ∙ ap (λ (v : AcceptorInEpoch × Option Stamped). option_to_list v.1) acts);
      finals = λ j v m. absurd (ballots_close_nothing (acceptor_at config a es).epoch _ (acceptor_sends a (acceptor_at config a es) (messages es) x.event) e j v (subst (λ (ms : List Stamped). Among ms (Final e j v)) own m));
      casts = n.3 x (ap (λ (v : AcceptorInEpoch × Option Stamped). v.0) acts);
    }

    coordinator_next : (c : ℕ) (known : c < config.coordinators) (u : CoordinatorInEpoch × Option Stamped) → at_coordinator.CoordinatorNext config e es p.events p.loose_list p.projects c known (stand c) u
        → (x : Entry) → node_of x.event ≡ Coordinator c → coordinator_acts c (coordinator_at config c es) (messages es) x.event ≡ u → x.sent ≡ option_to_list (coordinator_acts c (coordinator_at config c es) (messages es) x.event).1 → Next es p x
    coordinator_next c known u n x at acts own = record {
      more = n.0;
      loose_list = n.1;
      projects = n.3 x at (ap (λ (v : CoordinatorInEpoch × Option Stamped). v.0) acts) (own ∙ ap (λ (v : CoordinatorInEpoch × Option Stamped). option_to_list v.1) acts);
      finals = λ j v m. absurd (ballots_close_nothing (coordinator_at config c es).epoch _ (coordinator_sends c (coordinator_at config c es) (messages es) x.event) e j v (subst (λ (ms : List Stamped). Among ms (Final e j v)) own m));
      casts = λ b r v m. inl (subst (λ (cs : List (ℕ × Round × Value)). Among cs (b, r, v)) n.2 m);
    }

    learner_next : (l : ℕ) (u : LearnerInEpoch × Option Stamped) (vs : List Vote) → at_learner.LearnerNext config e es p.events p.loose_list p.projects l u vs
        → (x : Entry) → node_of x.event ≡ Learner l → learner_acts l (learner_at config l es) (messages es) x.event ≡ u → taken_at config l (x ∷ es) ≡ vs → x.sent ≡ option_to_list (learner_acts l (learner_at config l es) (messages es) x.event).1 → Next es p x
    learner_next l u vs n x at acts took own = record {
      more = n.0;
      loose_list = n.1;
      projects = n.4 x at (ap (λ (v : LearnerInEpoch × Option Stamped). v.0) acts) took (own ∙ ap (λ (v : LearnerInEpoch × Option Stamped). option_to_list v.1) acts);
      finals = λ j v m. n.3 j v (subst (λ (ms : List Stamped). Among ms (Final e j v)) (own ∙ ap (λ (v : LearnerInEpoch × Option Stamped). option_to_list v.1) acts) m);
      casts = λ b r v m. inl (subst (λ (cs : List (ℕ × Round × Value)). Among cs (b, r, v)) n.2 m);
    }

    stays : (q : ℕ) (x : Entry) → node_of x.event ≡ Proposer q → proposer_at q (x ∷ es) ≡ proposer_at q es → x.sent ≡ [] → Next es p x
    stays q x at still own = record {
      more = [];
      loose_list = p.loose_list;
      projects = proposer_stays config e es (run (T config e) p.events) p.projects q x at still own;
      finals = λ j v m. elim (subst (λ (ms : List Stamped). Among ms (Final e j v)) own m) [ ];
      casts = λ b r v m. inl m;
    }

    -- the command is that of the list
    offered : (q : ℕ) (d : Draft) (sent : List Stamped) → sent ≡ sent_at config es (Offer q d)
        → sent ≡ Offered (record { id = record { proposer = q; number = (run (T config e) p.events).offers q + 1 }; draft = d }) ∷ []
    offered q d sent own =
        own ∙ ap (λ (u : ProposerState × Option Stamped). option_to_list u.1) (at_same q _ (proposer_at q es, None))
        ∙ (λ i. Offered (record { id = record { proposer = own_number q es i; number = sym (p.projects.offers q) i + 1 }; draft = d }) ∷ [])

    offers : (q : ℕ) (d : Draft) (node : Node) (sent : List Stamped) → sent ≡ sent_at config es (Offer q d) → Next es p (record { node = node; event = Offer q d; sent = sent })
    offers q d node sent own =
        let c : Command = record { id = record { proposer = q; number = (run (T config e) p.events).offers q + 1 }; draft = d } in
        record {
          more = loose.Offer q d ∷ [];
          loose_list = (p.loose_list, tt);
          projects = proposer_says config e es (run (T config e) p.events) p.projects q d (record { node = node; event = Offer q d; sent = sent }) refl c (offered q d sent own);
          finals = λ j v m. elim (subst (λ (ms : List Stamped). Among ms (Final e j v)) (offered q d sent own) m) [
            | inl h ↦ absurd (cc)
            | inr z ↦ elim z [ ]
          ];
          casts = λ b r v m. inl m;
        }

    -- the named message was sent
    module _ (k : ℕ) (stands : k < length (messages es)) where
      abbrev found : (n : Stamped) × (slice_get (messages es) k ≡ Some n) × Among (messages es) n
      found = stands_there (messages es) k stands

      coordinator_takes : (c : ℕ) → c < config.coordinators → (node : Node) (sent : List Stamped) → sent ≡ sent_at config es (Take (Coordinator c) k) → Next es p (record { node = node; event = Take (Coordinator c) k; sent = sent })
      coordinator_takes c known node sent own =
          coordinator_next c known (coordinator.take (coordinator_at config c es) found.0) (at_coordinator.takes config e es p.events p.loose_list p.projects c known (stand c) found.0 found.2)
          (record { node = node; event = Take (Coordinator c) k; sent = sent }) refl
          (at_same c _ (coordinator_at config c es, None) ∙ ap (on_message (coordinator_at config c es, None) (coordinator.take (coordinator_at config c es))) found.1) own

      acceptor_takes : (a : ℕ) → a < config.acceptors → (node : Node) (sent : List Stamped) → sent ≡ sent_at config es (Take (Acceptor a) k) → Next es p (record { node = node; event = Take (Acceptor a) k; sent = sent })
      acceptor_takes a known node sent own =
          acceptor_next a known (acceptor.take (acceptor_at config a es) found.0) (at_acceptor.takes config e es p.events p.loose_list p.projects a known found.0 found.2)
          (record { node = node; event = Take (Acceptor a) k; sent = sent }) refl
          (at_same a _ (acceptor_at config a es, None) ∙ ap (on_message (acceptor_at config a es, None) (acceptor.take (acceptor_at config a es))) found.1) own

      learner_acts_is : (l : ℕ) → learner_acts l (learner_at config l es) (messages es) (Take (Learner l) k) ≡ learner.take (learner_at config l es) found.0
      learner_acts_is l = at_same l _ (learner_at config l es, None) ∙ ap (on_message (learner_at config l es, None) (learner.take (learner_at config l es))) found.1

      learner_takes : (l : ℕ) (node : Node) (sent : List Stamped) → sent ≡ sent_at config es (Take (Learner l) k) → Next es p (record { node = node; event = Take (Learner l) k; sent = sent })
      learner_takes l node sent own =
          learner_next l (learner.take (learner_at config l es) found.0) (at_learner.votes_now config e es p.events p.loose_list p.projects l found.0) (at_learner.takes config e es p.events p.loose_list p.projects l found.0 found.2)
          (record { node = node; event = Take (Learner l) k; sent = sent }) refl (learner_acts_is l)
          (at_same l _ (taken_at config l es)
          ∙ (λ j. cond (nat_eq (learner_at config l es).epoch (learner_acts_is l j).0.epoch) (on_message (taken_at config l es) (votes_after config (learner_at config l es).epoch (taken_at config l es)) (found.1 j)) []))
          own

    takes : (to : Node) (k : ℕ) (node : Node) (sent : List Stamped) → fits config es (Take to k) ≡ true → sent ≡ sent_at config es (Take to k) → Next es p (record { node = node; event = Take to k; sent = sent })
    takes (Proposer q) k node sent h own = stays q (record { node = node; event = Take (Proposer q) k; sent = sent }) refl refl own
    takes (Coordinator c) k node sent h own =
        coordinator_takes k (ltb-true k (length (messages es)) (snd_of (is_present config (Coordinator c)) (nat_lt k (length (messages es))) h)) c
        (ltb-true c config.coordinators (fst_of (is_present config (Coordinator c)) (nat_lt k (length (messages es))) h)) node sent own
    takes (Acceptor a) k node sent h own =
        acceptor_takes k (ltb-true k (length (messages es)) (snd_of (is_present config (Acceptor a)) (nat_lt k (length (messages es))) h)) a
        (ltb-true a config.acceptors (fst_of (is_present config (Acceptor a)) (nat_lt k (length (messages es))) h)) node sent own
    takes (Learner l) k node sent h own =
        learner_takes k (ltb-true k (length (messages es)) (snd_of (is_present config (Learner l)) (nat_lt k (length (messages es))) h)) l node sent own

    falls : (of : Node) (what : Option Kept) (node : Node) (sent : List Stamped) → fits config es (Fall of what) ≡ true → sent ≡ sent_at config es (Fall of what) → Next es p (record { node = node; event = Fall of what; sent = sent })
    falls (Proposer q) what node sent h own = absurd (let b : false ≡ true = snd_of (is_present config (Proposer q)) false h in cc)
    falls (Coordinator c) what node sent h own =
        let known = ltb-true c config.coordinators (fst_of (is_present config (Coordinator c)) (may_keep config (length (messages es)) (Coordinator c) what) h) in
        coordinator_next c known (coordinator.fall (coordinator_at config c es) (coordinator_kept (coordinator_at config c es) (messages es) what), None)
        (at_coordinator.falls config e es p.events p.loose_list p.projects c known (stand c) what (snd_of (is_present config (Coordinator c)) (may_keep config (length (messages es)) (Coordinator c) what) h))
        (record { node = node; event = Fall (Coordinator c) what; sent = sent }) refl (at_same c _ (coordinator_at config c es, None)) own
    falls (Acceptor a) what node sent h own =
        let known = ltb-true a config.acceptors (fst_of (is_present config (Acceptor a)) (may_keep config (length (messages es)) (Acceptor a) what) h) in
        acceptor_next a known (acceptor.fall (acceptor_at config a es) (acceptor_kept (acceptor_at config a es) (messages es) what), None)
        (at_acceptor.falls config e es p.events p.loose_list p.projects a known what (snd_of (is_present config (Acceptor a)) (may_keep config (length (messages es)) (Acceptor a) what) h))
        (record { node = node; event = Fall (Acceptor a) what; sent = sent }) refl (at_same a _ (acceptor_at config a es, None)) own
    falls (Learner l) what node sent h own =
        learner_next l (learner.fall (learner_at config l es), None) [] (at_learner.falls config e es p.events p.loose_list p.projects l)
        (record { node = node; event = Fall (Learner l) what; sent = sent }) refl (at_same l _ (learner_at config l es, None)) (at_same l [] (taken_at config l es)) own

    begins : (c : ℕ) (r : Round) (node : Node) (sent : List Stamped) → fits config es (Begin c r) ≡ true → sent ≡ sent_at config es (Begin c r) → Next es p (record { node = node; event = Begin c r; sent = sent })
    begins c r node sent h own =
        let known = ltb-true c config.coordinators (owned config.coordinators c r h).there in
        coordinator_next c known (coordinator.begin (coordinator_at config c es) r) (at_coordinator.begins config e es p.events p.loose_list p.projects c known (stand c) r h)
        (record { node = node; event = Begin c r; sent = sent }) refl (at_same c _ (coordinator_at config c es, None)) own

    by_event : (event : event_type.Event) (node : Node) (sent : List Stamped) → fits config es event ≡ true → sent ≡ sent_at config es event → Next es p (record { node = node; event = event; sent = sent })
    by_event (Offer q d) node sent h own = offers q d node sent own
    by_event (Begin c r) node sent h own = begins c r node sent h own
    by_event (Take to k) node sent h own = takes to k node sent h own
    by_event (Fall of what) node sent h own = falls of what node sent h own

    pub next : (x : Entry) → Follows config es x → Next es p x
    next x f = by_event x.event x.node x.sent f.event_fits f.own_messages

  nothing_yet : Projection []
  nothing_yet = record {
    events = [];
    loose_list = tt;
    projects = record {
      acceptors = λ a. ((λ z. acceptors.like_opening config a), (λ z. refl));
      coordinators = λ c. ((λ z. record { pending = []; like = coordinators.like_opening config c }), (λ z. refl));
      learners = λ l. ((λ z. record { like = learners.like_opening config l; taken = refl }), (λ z. refl));
      offers = λ q. refl;
      sent = λ n p m r. elim p [ ];
      back = λ x p. elim p [ ];
    };
    finals = λ j v p. elim p [ ];
    casts = λ b r v p. elim p [ ];
  }

  had_more : (a : ℕ) (r : Round) (v : History) (x : Entry) (es : List Entry) → HadVote config es a e r v → HadVote config (x ∷ es) a e r v
  had_more a r v x es h = record { later = x ∷ h.later; earlier = h.earlier; parts = ap (λ (ys : List Entry). x ∷ ys) h.parts; epoch_is = h.epoch_is; round_is = h.round_is; vote_is = h.vote_is }

  -- **what a legal run does in e is a loose list, with the states that its nodes have in e**
  pub projection : (es : List Entry) → Legal config es → Projection es
  projection [] legal = nothing_yet
  projection (x ∷ es) legal =
      let p = projection es legal.0 in
      let n = next es p (pending_stands config es legal.0) x legal.1 in
      record {
        events = n.more ++ p.events;
        loose_list = n.loose_list;
        projects = n.projects;
        finals = λ j v m. elim (among_append (messages es) x.sent (Final e j v) m) [
          | inl a ↦ closing_on config e n.more p.events v (p.finals j v a)
          | inr b ↦ n.finals j v b
        ];
        casts = λ b r v m. elim (n.casts b r v m) [
          | inl c ↦ had_more b r v.history x es (p.casts b r v c)
          | inr h ↦ h
        ];
      }

  -- ---- moments

  pub legal_rest : (xs ys : List Entry) → Legal config (xs ++ ys) → Legal config ys
  legal_rest [] ys l = l
  legal_rest (x ∷ xs) ys l = legal_rest xs ys l.0

  pub record Grown (ys es : List Entry) (p : Projection ys) (q : Projection es) : Type 0 where
    pub later : Events
    pub parts : later ++ p.events ≡ q.events

  -- the list of a run goes on from that of a part of it
  pub grown : (xs ys : List Entry) (legal : Legal config (xs ++ ys)) → Grown ys (xs ++ ys) (projection ys (legal_rest xs ys legal)) (projection (xs ++ ys) legal)
  unfolding projection legal_rest
  grown [] ys legal = record { later = []; parts = refl }
  grown (x ∷ xs) ys legal =
      let g = grown xs ys legal.0 in
      let n = next (xs ++ ys) (projection (xs ++ ys) legal.0) (pending_stands config (xs ++ ys) legal.0) x legal.1 in
      record {
        later = n.more ++ g.later;
        parts = append_assoc n.more g.later (projection ys (legal_rest xs ys legal.0)).events ∙ ap (λ (fs : Events). n.more ++ fs) g.parts;
      }
