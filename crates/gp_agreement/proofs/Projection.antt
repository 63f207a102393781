-- What a legal run does in one epoch is a loose list over any c-structs, with the states that the nodes have in that epoch.
use Rattle.std.proofs.Common.{◌≡◌, ◌<◌, ◌+◌, ℕ, Bool, cond, nat_eq, List, [], ◌∷◌, ◌++◌, Option, Some, None, refl, sym, subst, ap, ◌∙◌, inl, inr, append_assoc}
use Rattle.std.specs.Prelude.{◌≢◌}
use Rattle.std.specs.Option.{option_to_list}
use Rattle.std.proofs.lemmas.Bool.{eq-eqb}
use Rattle.gp_command.specs.declared.command.Command.{Command}
use Rattle.gp_command.specs.declared.draft.Draft.{Draft}
use Rattle.gp_history.specs.History.{History}
use Rattle.gp_round.specs.Counts.{Counts}
use Rattle.gp_msg.specs.declared.node.Node.TheVariants.{Proposer, Coordinator, Acceptor, Learner}
use Rattle.gp_msg.specs.declared.event.Event.TheVariants.{Offer}
use Rattle.gp_msg.specs.declared.event.Event as event_type
use Rattle.gp_msg.specs.Messages.{Message, Proposed, Asked, Answered, Sent, Voted, Stamped, Offered, InEpoch, Final, stamped, maybe_stamped, Entry}
use Rattle.gp_proposer.specs.State.{ProposerState}
use Rattle.gp_coordinator.specs.State.{CoordinatorState}
use Rattle.gp_learner.specs.State.{LearnerState}
use Rattle.gp_msg.specs.Nodes.{node_of}
use Rattle.gp_run.specs.Learned.{Vote, taken_at, epoch_at}
use Rattle.gp_cstructs.specs.CStructs.{Among}
use Rattle.gp_cstructs.specs.Tables as any
use Rattle.gp_cstructs.specs.Tables.{Tables, Propose}
use Rattle.gp_cstructs.specs.Acceptor as core_acceptor
use Rattle.gp_cstructs.specs.Coordinator as core_coordinator
use Rattle.gp_cstructs.specs.Learner as core_learner
use Rattle.gp_cstructs.specs.Loose.{System, Event, send, proposer_now, acceptor_now, coordinator_now, learner_now}
use Rattle.gp_cstructs.proofs.Lists.{among_append, among_left, among_right, nat_cases, set_cases}
use Rattle.gp_cstructs.specs.LooseAgreement.{shown}
use Rattle.gp_cstructs.proofs.Moves.{sent_before, sent_now}
use Rattle.gp_agreement.proofs.Bundle.{tables}
use Rattle.gp_agreement.proofs.Told.{told, maybe_told}
use Rattle.gp_agreement.proofs.Acceptors as acceptors
use Rattle.gp_agreement.proofs.Coordinators as coordinators
use Rattle.gp_agreement.proofs.Learners as learners
use Rattle.gp_agreement.proofs.Learners.{votes_taken}
use Rattle.gp_epoch.specs.Cut.{HasCheckpoint, cut}
use Rattle.gp_coordinator.specs.Epochs.{CoordinatorInEpoch}
use Rattle.gp_acceptor.specs.Epochs.{AcceptorInEpoch}
use Rattle.gp_learner.specs.Epochs.{LearnerInEpoch}
use Rattle.gp_run.specs.Messages.{messages}
use Rattle.gp_run.specs.States.{proposer_acts, proposer_at, coordinator_at, acceptor_at, learner_at}
use Rattle.gp_run.proofs.Others.{proposer_rests, coordinator_rests, acceptor_rests, learner_rests}
use Rattle.gp_agreement.proofs.Others.{taken_rests}

-- how a message is read in epoch e
abbrev pub IsRead : ℕ → Stamped → Message → Type 0
IsRead e (Offered c) m = Proposed c ≡ m
IsRead e (InEpoch i n) m = (i ≡ e) × (n ≡ m)
IsRead e (Final i l v) m = ⊥

module _ (config : Counts) (e : ℕ) where
  abbrev pub T : Tables
  T = tables config

  abbrev pub M : Type 0
  M = any.Message (tables config)

  -- ---- nodes

  -- a node, which is in epoch n, is like that of the list while it is in e, and before nothing happened to that one
  abbrev pub Alike : {S X : Type 0} → (S → X → Type 0) → X → ℕ → S → X → Type 0
  Alike like o n s x = (n ≡ e → like s x) × (n < e → x ≡ o)

  abbrev pub AcceptorAlike : ℕ → AcceptorInEpoch → core_acceptor.Acceptor T → Type 0
  AcceptorAlike a s t = Alike (acceptors.IsLike config a) (core_acceptor.acceptor_opening T) s.epoch s.state t

  -- but for what is pending
  pub record IsLikeIn (c : ℕ) (s : CoordinatorState) (t : core_coordinator.Coordinator T) : Type 0 where
    pub pending : List Command
    pub like : coordinators.IsLike config c s (record { core = t; pending = pending })

  abbrev pub CoordinatorAlike : ℕ → CoordinatorInEpoch → core_coordinator.Coordinator T → Type 0
  CoordinatorAlike c s t = Alike (IsLikeIn c) (core_coordinator.coordinator_opening T) s.epoch s.state t

  -- with the votes that it took in the epoch
  pub record IsLikeWith (l : ℕ) (s : LearnerState × List Vote) (t : core_learner.Learner T) : Type 0 where
    pub like : learners.IsLike config l s.0 t
    pub taken : s.1 ≡ votes_taken t.taken

  abbrev pub LearnerAlike : ℕ → LearnerInEpoch → List Vote → core_learner.Learner T → Type 0
  LearnerAlike l s vs t = Alike (IsLikeWith l) (core_learner.learner_opening T) s.epoch (s.state, vs) t

  -- the system has the messages and the nodes of the run in e
  pub record Projects (es : List Entry) (w : System T) : Type 0 where
    pub acceptors : (a : ℕ) → AcceptorAlike a (acceptor_at config a es) (w.acceptors a)
    pub coordinators : (c : ℕ) → CoordinatorAlike c (coordinator_at config c es) (w.coordinators c)
    pub learners : (l : ℕ) → LearnerAlike l (learner_at config l es) (taken_at config l es) (w.learners l)
    pub offers : (p : ℕ) → w.offers p ≡ (proposer_at p es).offers
    pub sent : (n : Stamped) → Among (messages es) n → (m : Message) → IsRead e n m → (x : M) × Among w.sent x × (told config x ≡ m)
    pub back : (x : M) → Among w.sent x → Among (messages es) (stamped e (told config x))

  -- a value with which a learner closes the epoch: the cut of what it learned there at some moment of the list
  pub record IsClosing (fs : List (Event T)) (v : History) : Type 0 where
    pub later : List (Event T)
    pub before : List (Event T)
    pub parts : later ++ before ≡ fs
    pub learner : ℕ
    pub closed : HasCheckpoint (shown T before learner).history
    pub value : v ≡ cut (shown T before learner).history

  pub closing_on : (more fs : List (Event T)) (v : History) → IsClosing fs v → IsClosing (more ++ fs) v
  closing_on more fs v k = record {
    later = more ++ k.later;
    before = k.before;
    parts = append_assoc more k.later k.before ∙ ap (λ (gs : List (Event T)). more ++ gs) k.parts;
    learner = k.learner;
    closed = k.closed;
    value = k.value;
  }

  -- ---- messages

  in_stamped : (m n : Message) → IsRead e (stamped e m) n → m ≡ n
  in_stamped (Proposed c) n p = p
  in_stamped (Asked r) n p = p.1
  in_stamped (Answered r a q v) n p = p.1
  in_stamped (Sent r c v) n p = p.1
  in_stamped (Voted r a v) n p = p.1

  not_here : (i : ℕ) → (i ≡ e → ⊥) → (m : Message) → ((c : Command) → m ≡ Proposed c → ⊥) → (n : Message) → IsRead e (stamped i m) n → ⊥
  not_here i d (Proposed c) h n p = h c refl
  not_here i d (Asked r) h n p = d p.0
  not_here i d (Answered r a q v) h n p = d p.0
  not_here i d (Sent r c v) h n p = d p.0
  not_here i d (Voted r a v) h n p = d p.0

  -- nothing is read of these in e
  abbrev pub AllForeign : List Stamped → Type 0
  AllForeign ms = (n : Stamped) → Among ms n → (m : Message) → IsRead e n m → ⊥

  pub none_foreign : AllForeign []
  none_foreign n p m r = elim p [ ]

  pub final_foreign : (i l : ℕ) (v : History) → AllForeign (Final i l v ∷ [])
  final_foreign i l v n p m r = elim p [ inl q ↦ subst (λ (y : Stamped). IsRead e y m) (sym q) r | inr z ↦ elim z [ ] ]

  pub away_foreign : (i : ℕ) → (i ≡ e → ⊥) → (o : Option Message) → ((c : Command) → o ≡ Some (Proposed c) → ⊥) → AllForeign (option_to_list (maybe_stamped i o))
  away_foreign i d None h n p m r = elim p [ ]
  away_foreign i d (Some x) h n p m r = elim p [
    | inl q ↦ not_here i d x (λ c s. h c (λ k. Some (s k))) m (subst (λ (y : Stamped). IsRead e y m) (sym q) r)
    | inr z ↦ elim z [ ]
  ]

  abbrev Sends : List Stamped → Option M → Type 0
  Sends sent o = sent ≡ option_to_list (maybe_stamped e (maybe_told config o))

  read_now : (o : Option M) (ms : List M) (n : Stamped) → Among (option_to_list (maybe_stamped e (maybe_told config o))) n → (m : Message) → IsRead e n m → (x : M) × Among (send T o ms) x × (told config x ≡ m)
  read_now None ms n p m r = elim p [ ]
  read_now (Some y) ms n p m r = elim p [
    | inl q ↦ (y, inl refl, in_stamped (told config y) m (subst (λ (z : Stamped). IsRead e z m) (sym q) r))
    | inr z ↦ elim z [ ]
  ]

  module _ (es : List Entry) (w : System T) (pr : Projects es w) where
    sent_on : (sent : List Stamped) (o : Option M) → Sends sent o → (n : Stamped) → Among (messages es ++ sent) n → (m : Message) → IsRead e n m → (x : M) × Among (send T o w.sent) x × (told config x ≡ m)
    sent_on sent o q n p m r = elim (among_append (messages es) sent n p) [
      | inl a ↦ let t = pr.sent n a m r in (t.0, sent_before o w.sent t.0 t.1, t.2)
      | inr b ↦ read_now o w.sent n (subst (λ (ms : List Stamped). Among ms n) q b) m r
    ]

    back_on : (sent : List Stamped) (o : Option M) → Sends sent o → (x : M) → Among (send T o w.sent) x → Among (messages es ++ sent) (stamped e (told config x))
    back_on sent o q x p = elim (sent_now o w.sent x p) [
      | inl s ↦ among_right (messages es) sent (stamped e (told config x))
          (subst (λ (ms : List Stamped). Among ms (stamped e (told config x))) (sym (q ∙ ap (λ (u : Option M). option_to_list (maybe_stamped e (maybe_told config u))) s)) (inl refl))
      | inr a ↦ among_left (messages es) sent (stamped e (told config x)) (pr.back x a)
    ]

    sent_still : (sent : List Stamped) → AllForeign sent → (n : Stamped) → Among (messages es ++ sent) n → (m : Message) → IsRead e n m → (x : M) × Among w.sent x × (told config x ≡ m)
    sent_still sent f n p m r = elim (among_append (messages es) sent n p) [
      | inl a ↦ pr.sent n a m r
      | inr b ↦ absurd (f n b m r)
    ]

    back_still : (sent : List Stamped) (x : M) → Among w.sent x → Among (messages es ++ sent) (stamped e (told config x))
    back_still sent x p = among_left (messages es) sent (stamped e (told config x)) (pr.back x p)

    -- ---- other nodes

    offers_rest : (x : Entry) (p : ℕ) → node_of x.event ≢ Proposer p → w.offers p ≡ (proposer_at p (x ∷ es)).offers
    offers_rest x p n = pr.offers p ∙ sym (ap (λ (u : ProposerState × Option Stamped). u.0.offers) (proposer_rests p (proposer_at p es) x.event n))

    acceptor_rest : (x : Entry) (a : ℕ) → node_of x.event ≢ Acceptor a → AcceptorAlike a (acceptor_at config a (x ∷ es)) (w.acceptors a)
    acceptor_rest x a n = subst (λ (s : AcceptorInEpoch). AcceptorAlike a s (w.acceptors a)) (sym (ap (λ (u : AcceptorInEpoch × Option Stamped). u.0) (acceptor_rests a (acceptor_at config a es) (messages es) x.event n))) (pr.acceptors a)

    coordinator_rest : (x : Entry) (c : ℕ) → node_of x.event ≢ Coordinator c → CoordinatorAlike c (coordinator_at config c (x ∷ es)) (w.coordinators c)
    coordinator_rest x c n = subst (λ (s : CoordinatorInEpoch). CoordinatorAlike c s (w.coordinators c)) (sym (ap (λ (u : CoordinatorInEpoch × Option Stamped). u.0) (coordinator_rests c (coordinator_at config c es) (messages es) x.event n))) (pr.coordinators c)

    learner_rest : (x : Entry) (l : ℕ) → node_of x.event ≢ Learner l → LearnerAlike l (learner_at config l (x ∷ es)) (taken_at config l (x ∷ es)) (w.learners l)
    learner_rest x l n =
        subst (λ (vs : List Vote). LearnerAlike l (learner_at config l (x ∷ es)) vs (w.learners l)) (sym (taken_rests config l (epoch_at config l es) (epoch_at config l (x ∷ es)) (taken_at config l es) (messages es) x.event n))
        (subst (λ (s : LearnerInEpoch). LearnerAlike l s (taken_at config l es) (w.learners l)) (sym (ap (λ (u : LearnerInEpoch × Option Stamped). u.0) (learner_rests l (learner_at config l es) (messages es) x.event n))) (pr.learners l))

    -- ---- an acceptor moves, or the list stays

    module _ (a : ℕ) (p : AcceptorInEpoch × Option Stamped) (x : Entry) (at : node_of x.event ≡ Acceptor a) (is : acceptor_at config a (x ∷ es) ≡ p.0) (own : x.sent ≡ option_to_list p.1) where
      pub acceptor_moved : (t : core_acceptor.Acceptor T) (o : Option M) → AcceptorAlike a p.0 t → p.1 ≡ maybe_stamped e (maybe_told config o) → Projects (x ∷ es) (acceptor_now T w a t o)
      acceptor_moved t o like says = record {
        acceptors = set_cases (λ (b : ℕ) (s : core_acceptor.Acceptor T). AcceptorAlike b (acceptor_at config b (x ∷ es)) s) w.acceptors a t
            (subst (λ (s : AcceptorInEpoch). AcceptorAlike a s t) (sym is) like)
            (λ b n. acceptor_rest x b (λ h. n (let q : Acceptor a ≡ Acceptor b = sym at ∙ h in cc)));
        coordinators = λ c. coordinator_rest x c (λ h. let q : Acceptor a ≡ Coordinator c = sym at ∙ h in cc);
        learners = λ l. learner_rest x l (λ h. let q : Acceptor a ≡ Learner l = sym at ∙ h in cc);
        offers = λ p. offers_rest x p (λ h. let q : Acceptor a ≡ Proposer p = sym at ∙ h in cc);
        sent = sent_on x.sent o (own ∙ ap option_to_list says);
        back = back_on x.sent o (own ∙ ap option_to_list says);
      }

      pub acceptor_stays : AcceptorAlike a p.0 (w.acceptors a) → AllForeign (option_to_list p.1) → Projects (x ∷ es) w
      acceptor_stays like foreign = record {
        acceptors = λ b. elim (nat_cases a b) [
          | inl s ↦ subst (λ (i : ℕ). AcceptorAlike i (acceptor_at config i (x ∷ es)) (w.acceptors i)) s (subst (λ (u : AcceptorInEpoch). AcceptorAlike a u (w.acceptors a)) (sym is) like)
          | inr n ↦ acceptor_rest x b (λ h. n (let q : Acceptor a ≡ Acceptor b = sym at ∙ h in cc))
        ];
        coordinators = λ c. coordinator_rest x c (λ h. let q : Acceptor a ≡ Coordinator c = sym at ∙ h in cc);
        learners = λ l. learner_rest x l (λ h. let q : Acceptor a ≡ Learner l = sym at ∙ h in cc);
        offers = λ p. offers_rest x p (λ h. let q : Acceptor a ≡ Proposer p = sym at ∙ h in cc);
        sent = sent_still x.sent (subst AllForeign (sym own) foreign);
        back = back_still x.sent;
      }

    -- ---- a coordinator moves, or the list stays

    module _ (c : ℕ) (p : CoordinatorInEpoch × Option Stamped) (x : Entry) (at : node_of x.event ≡ Coordinator c) (is : coordinator_at config c (x ∷ es) ≡ p.0) (own : x.sent ≡ option_to_list p.1) where
      pub coordinator_moved : (t : core_coordinator.Coordinator T) (o : Option M) → CoordinatorAlike c p.0 t → p.1 ≡ maybe_stamped e (maybe_told config o) → Projects (x ∷ es) (coordinator_now T w c t o)
      coordinator_moved t o like says = record {
        acceptors = λ a. acceptor_rest x a (λ h. let q : Coordinator c ≡ Acceptor a = sym at ∙ h in cc);
        coordinators = set_cases (λ (b : ℕ) (s : core_coordinator.Coordinator T). CoordinatorAlike b (coordinator_at config b (x ∷ es)) s) w.coordinators c t
            (subst (λ (s : CoordinatorInEpoch). CoordinatorAlike c s t) (sym is) like)
            (λ b n. coordinator_rest x b (λ h. n (let q : Coordinator c ≡ Coordinator b = sym at ∙ h in cc)));
        learners = λ l. learner_rest x l (λ h. let q : Coordinator c ≡ Learner l = sym at ∙ h in cc);
        offers = λ p. offers_rest x p (λ h. let q : Coordinator c ≡ Proposer p = sym at ∙ h in cc);
        sent = sent_on x.sent o (own ∙ ap option_to_list says);
        back = back_on x.sent o (own ∙ ap option_to_list says);
      }

      pub coordinator_stays : CoordinatorAlike c p.0 (w.coordinators c) → AllForeign (option_to_list p.1) → Projects (x ∷ es) w
      coordinator_stays like foreign = record {
        acceptors = λ a. acceptor_rest x a (λ h. let q : Coordinator c ≡ Acceptor a = sym at ∙ h in cc);
        coordinators = λ b. elim (nat_cases c b) [
          | inl s ↦ subst (λ (i : ℕ). CoordinatorAlike i (coordinator_at config i (x ∷ es)) (w.coordinators i)) s (subst (λ (u : CoordinatorInEpoch). CoordinatorAlike c u (w.coordinators c)) (sym is) like)
          | inr n ↦ coordinator_rest x b (λ h. n (let q : Coordinator c ≡ Coordinator b = sym at ∙ h in cc))
        ];
        learners = λ l. learner_rest x l (λ h. let q : Coordinator c ≡ Learner l = sym at ∙ h in cc);
        offers = λ p. offers_rest x p (λ h. let q : Coordinator c ≡ Proposer p = sym at ∙ h in cc);
        sent = sent_still x.sent (subst AllForeign (sym own) foreign);
        back = back_still x.sent;
      }

    -- ---- a learner moves, or the list stays; what it sends is read in no epoch

    module _ (l : ℕ) (p : LearnerInEpoch × Option Stamped) (vs : List Vote) (foreign : AllForeign (option_to_list p.1))
        (x : Entry) (at : node_of x.event ≡ Learner l) (is : learner_at config l (x ∷ es) ≡ p.0) (took : taken_at config l (x ∷ es) ≡ vs) (own : x.sent ≡ option_to_list p.1)
      where
        own_learner : (t : core_learner.Learner T) → LearnerAlike l p.0 vs t → LearnerAlike l (learner_at config l (x ∷ es)) (taken_at config l (x ∷ es)) t
        own_learner t like = subst (λ (us : List Vote). LearnerAlike l (learner_at config l (x ∷ es)) us t) (sym took) (subst (λ (s : LearnerInEpoch). LearnerAlike l s vs t) (sym is) like)

        pub learner_moved : (t : core_learner.Learner T) → LearnerAlike l p.0 vs t → Projects (x ∷ es) (learner_now T w l t)
        learner_moved t like = record {
          acceptors = λ a. acceptor_rest x a (λ h. let q : Learner l ≡ Acceptor a = sym at ∙ h in cc);
          coordinators = λ c. coordinator_rest x c (λ h. let q : Learner l ≡ Coordinator c = sym at ∙ h in cc);
          learners = set_cases (λ (b : ℕ) (s : core_learner.Learner T). LearnerAlike b (learner_at config b (x ∷ es)) (taken_at config b (x ∷ es)) s) w.learners l t (own_learner t like)
              (λ b n. learner_rest x b (λ h. n (let q : Learner l ≡ Learner b = sym at ∙ h in cc)));
          offers = λ q. offers_rest x q (λ h. let r : Learner l ≡ Proposer q = sym at ∙ h in cc);
          sent = sent_still x.sent (subst AllForeign (sym own) foreign);
          back = back_still x.sent;
        }

        pub learner_stays : LearnerAlike l p.0 vs (w.learners l) → Projects (x ∷ es) w
        learner_stays like = record {
          acceptors = λ a. acceptor_rest x a (λ h. let q : Learner l ≡ Acceptor a = sym at ∙ h in cc);
          coordinators = λ c. coordinator_rest x c (λ h. let q : Learner l ≡ Coordinator c = sym at ∙ h in cc);
          learners = λ b. elim (nat_cases l b) [
            | inl s ↦ subst (λ (i : ℕ). LearnerAlike i (learner_at config i (x ∷ es)) (taken_at config i (x ∷ es)) (w.learners i)) s (own_learner (w.learners l) like)
            | inr n ↦ learner_rest x b (λ h. n (let q : Learner l ≡ Learner b = sym at ∙ h in cc))
          ];
          offers = λ q. offers_rest x q (λ h. let r : Learner l ≡ Proposer q = sym at ∙ h in cc);
          sent = sent_still x.sent (subst AllForeign (sym own) foreign);
          back = back_still x.sent;
        }

    -- ---- nobody but a proposer moves

    same_proposer : (q : ℕ) {X : Type 0} (x y : X) → cond (nat_eq q q) x y ≡ x
    same_proposer q x y = ap (λ (b : Bool). cond b x y) (eq-eqb q q refl)

    one_more : (q : ℕ) (d : Draft) (event : event_type.Event) → event ≡ Offer q d → w.offers q + 1 ≡ (proposer_acts q (proposer_at q es) event).0.offers
    one_more q d event is =
        ap (λ n. n + 1) (pr.offers q)
        ∙ sym (ap (λ v. (proposer_acts q (proposer_at q es) v).0.offers) is ∙ ap (λ (u : ProposerState × Option Stamped). u.0.offers) (same_proposer q _ (proposer_at q es, None)))

    pub proposer_says : (q : ℕ) (d : Draft) (x : Entry) → x.event ≡ Offer q d → (c : Command) → x.sent ≡ Offered c ∷ [] → Projects (x ∷ es) (proposer_now T w q c)
    proposer_says q d x is c own =
        let at : node_of x.event ≡ Proposer q = ap node_of is in
        record {
          acceptors = λ a. acceptor_rest x a (λ h. let z : Proposer q ≡ Acceptor a = sym at ∙ h in cc);
          coordinators = λ b. coordinator_rest x b (λ h. let z : Proposer q ≡ Coordinator b = sym at ∙ h in cc);
          learners = λ l. learner_rest x l (λ h. let z : Proposer q ≡ Learner l = sym at ∙ h in cc);
          offers = set_cases (λ (p n : ℕ). n ≡ (proposer_at p (x ∷ es)).offers) w.offers q (w.offers q + 1) (one_more q d x.event is)
              (λ p n. offers_rest x p (λ h. n (let z : Proposer q ≡ Proposer p = sym at ∙ h in cc)));
          sent = sent_on x.sent (Some (Propose c)) own;
          back = back_on x.sent (Some (Propose c)) own;
        }

    pub proposer_stays : (q : ℕ) (x : Entry) → node_of x.event ≡ Proposer q → proposer_at q (x ∷ es) ≡ proposer_at q es → x.sent ≡ [] → Projects (x ∷ es) w
    proposer_stays q x at still own = record {
      acceptors = λ a. acceptor_rest x a (λ h. let z : Proposer q ≡ Acceptor a = sym at ∙ h in cc);
      coordinators = λ b. coordinator_rest x b (λ h. let z : Proposer q ≡ Coordinator b = sym at ∙ h in cc);
      learners = λ l. learner_rest x l (λ h. let z : Proposer q ≡ Learner l = sym at ∙ h in cc);
      offers = λ p. elim (nat_cases q p) [
        | inl s ↦ subst (λ (i : ℕ). w.offers i ≡ (proposer_at i (x ∷ es)).offers) s (pr.offers q ∙ sym (ap (λ (u : ProposerState). u.offers) still))
        | inr n ↦ offers_rest x p (λ h. n (let z : Proposer q ≡ Proposer p = sym at ∙ h in cc))
      ];
      sent = sent_still x.sent (subst AllForeign (sym own) none_foreign);
      back = back_still x.sent;
    }
