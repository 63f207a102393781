-- Each step keeps it so that every value has only commands that were proposed.
use Rattle.std.proofs.Common.{◌≡◌, ◌+◌, inl, inr, ℕ, false, not, ◌&&◌, ◌||◌, nat_eq, nat_lt, List, [], ◌∷◌, refl, subst, Option, Some, None}
use Rattle.gp_cstructs.specs.CStructs.{Among, join_onto, join_all, all_joined}
use Rattle.gp_cstructs.specs.Tables.{Tables, newer, set_at, nothing, pushes, Message, Propose, P1a, P1b, P2a, P2b}
use Rattle.gp_cstructs.specs.Acceptor.{Acceptor, acceptor_take, acceptor_fall, next_vote, voting, raised, holding}
use Rattle.gp_cstructs.specs.Coordinator.{Coordinator, coordinator_begin, extended, expects, coordinator_take, KeptNothing, KeptBegin, KeptTake}
use Rattle.gp_cstructs.specs.Learner.{votes_with, learned_with, Learner, learner_take, learner_opening}
use Rattle.gp_cstructs.specs.Loose.{send, System, acceptor_now, coordinator_now, learner_now, Event, Offer, Begin, AcceptorTakes, CoordinatorTakes, LearnerTakes, AcceptorFalls, CoordinatorFalls, LearnerFalls, happens, run, Fits, Loose}
use Rattle.gp_cstructs.specs.Lawful.{KeepsCommands}
use Rattle.gp_cstructs.specs.Offered.{IsOffered, TellsOffered, KeepsOffered, AllOffered}
use Rattle.gp_cstructs.proofs.Lists.{cond_cases, set_cases}

module _ {T : Tables} (c : KeepsCommands T) where
  joined_offered : (ms : List (Message T)) (s : T.Value) (hs : List T.Value) → IsOffered T ms s → ((h : T.Value) → Among hs h → IsOffered T ms h) → IsOffered T ms (join_onto T.join s hs)
  joined_offered ms s [] p q = p
  joined_offered ms s (h ∷ hs) p q = joined_offered ms (T.join s h) hs
      (λ d i. elim (c.in_join s h d i) [ inl a ↦ p d a | inr b ↦ q h (inl refl) d b ]) (λ k n. q k (inr n))

  push_offered : (ms : List (Message T)) (h : T.Value) (d : T.Command) → IsOffered T ms h → Among ms (Propose d) → IsOffered T ms (T.push h d)
  push_offered ms h d p q e i = elim (c.in_push h d e i) [ inl a ↦ p e a | inr s ↦ subst (λ (x : T.Command). Among ms (Propose x)) s q ]

  pushes_offered : (ms : List (Message T)) (h : T.Value) (ds : List T.Command) → IsOffered T ms h → ((d : T.Command) → Among ds d → Among ms (Propose d)) → IsOffered T ms (pushes T h ds)
  pushes_offered ms h [] p q = p
  pushes_offered ms h (d ∷ ds) p q = pushes_offered ms (T.push h d) ds (push_offered ms h d p (q d (inl refl))) (λ e n. q e (inr n))

  abbrev AcceptorOk : List (Message T) → Acceptor T × Option (Message T) → Type 0
  AcceptorOk ms p = IsOffered T ms p.0.vote × ((i : ℕ) → KeepsOffered T ms (p.0.held i)) × ((x : Message T) → p.1 ≡ Some x → TellsOffered T ms x)

  one_told : (ms : List (Message T)) (y x : Message T) → TellsOffered T ms y → Some y ≡ Some x → TellsOffered T ms x
  one_told ms y x t e = subst (λ (z : Message T). TellsOffered T ms z) (let h : y ≡ x = cc in h) t

  module _ (ms : List (Message T)) where
    newer_offered : (o : Option T.Value) (v : T.Value) → KeepsOffered T ms o → IsOffered T ms v → KeepsOffered T ms (Some (newer T o v))
    newer_offered None v p q x e = subst (λ (h : T.Value). IsOffered T ms h) (let g : v ≡ x = cc in g) q
    newer_offered (Some y) v p q x e = cond_cases (λ (h : T.Value). KeepsOffered T ms (Some h)) (nat_lt (T.size y) (T.size v)) v y
        (λ b z f. subst (λ (h : T.Value). IsOffered T ms h) (let g : v ≡ z = cc in g) q)
        (λ b z f. p z f) x e

    all_joined_offered : (hs : List T.Value) → ((h : T.Value) → Among hs h → IsOffered T ms h) → KeepsOffered T ms (all_joined T.empty T.join hs)
    all_joined_offered [] r v e = absurd (cc)
    all_joined_offered (h ∷ hs) r v e = subst (λ (u : T.Value). IsOffered T ms u) (let g : join_all T.empty T.join (h ∷ hs) ≡ v = cc in g)
        (joined_offered ms T.empty (h ∷ hs) (λ d i. absurd (c.in_empty d i)) r)

    one_kept : (u : T.Value) → IsOffered T ms u → KeepsOffered T ms (Some u)
    one_kept u p v e = subst (λ (x : T.Value). IsOffered T ms x) (let g : u ≡ v = cc in g) p

    join_offered : (u v : T.Value) → IsOffered T ms u → IsOffered T ms v → IsOffered T ms (T.join u v)
    join_offered u v p q d i = elim (c.in_join u v d i) [ inl n ↦ p d n | inr n ↦ q d n ]

    next_vote_offered : (t : Acceptor T) (o : Option T.Value) → IsOffered T ms t.vote → KeepsOffered T ms o → KeepsOffered T ms (next_vote T t o)
    next_vote_offered t None p r = λ v e. absurd (cc)
    next_vote_offered t (Some u) p r = cond_cases (KeepsOffered T ms) (T.earlier t.voted t.round) _ _ (λ b. one_kept u (r u refl))
        (λ b. cond_cases (KeepsOffered T ms) (T.same t.voted t.round && not (T.fast t.round)) _ _ (λ d. one_kept (T.join t.vote u) (join_offered t.vote u p (r u refl))) (λ d v e. absurd (cc)))

    voting_ok : (a : ℕ) (t : Acceptor T) (o : Option T.Value) → IsOffered T ms t.vote → ((i : ℕ) → KeepsOffered T ms (t.held i)) → KeepsOffered T ms o → AcceptorOk ms (voting T a t o)
    voting_ok a t None p q r = (p, q, λ x e. absurd (cc))
    voting_ok a t (Some v) p q r = (
      r v refl,
      q,
      cond_cases (λ (o : Option (Message T)). (x : Message T) → o ≡ Some x → TellsOffered T ms x) (T.earlier t.voted t.round || nat_lt (T.size t.vote) (T.size v)) _ _
          (λ z x e. one_told ms (P2b t.round a v) x (r v refl) e) (λ z x e. absurd (cc)),
    )

    takes_ok : (a : ℕ) (s : Acceptor T) (m : Message T) → Among ms m → TellsOffered T ms m → IsOffered T ms s.vote → ((i : ℕ) → KeepsOffered T ms (s.held i)) → AcceptorOk ms (acceptor_take T a s m)
    takes_ok a s (Propose d) n t p q = cond_cases (AcceptorOk ms) (T.same s.voted s.round && T.fast s.round && not (T.has s.vote d)) _ _
        (λ b. let o = push_offered ms s.vote d p n in (o, q, λ x e. one_told ms (P2b s.round a (T.push s.vote d)) x o e))
        (λ b. (p, q, λ x e. absurd (cc)))
    takes_ok a s (P1a r) n t p q = cond_cases (AcceptorOk ms) (T.earlier s.round r) _ _
        (λ b. (p, λ i v e. absurd (cc), λ x e. one_told ms (P1b r a s.voted s.vote) x p e)) (λ b. (p, q, λ x e. absurd (cc)))
    takes_ok a s (P1b r b i v) n t p q = (p, q, λ x e. absurd (cc))
    takes_ok a s (P2a r b v) n t p q = cond_cases (AcceptorOk ms) (not (T.earlier r s.round) && nat_lt b T.coordinators) _ _
        (λ z.
        let g : IsOffered T ms (raised T s r).vote × ((i : ℕ) → KeepsOffered T ms ((raised T s r).held i)) =
        cond_cases (λ (y : Acceptor T). IsOffered T ms y.vote × ((i : ℕ) → KeepsOffered T ms (y.held i))) (T.earlier s.round r) _ s (λ y. (p, λ i v e. absurd (cc))) (λ y. (p, q)) in
        let hold : (i : ℕ) → KeepsOffered T ms ((holding T (raised T s r) b v).held i) =
        set_cases (λ (i : ℕ) (o : Option T.Value). KeepsOffered T ms o) (raised T s r).held b (Some (newer T ((raised T s r).held b) v)) (newer_offered ((raised T s r).held b) v (g.1 b) t) (λ i y. g.1 i) in
        let now : Acceptor T = holding T (raised T s r) b v in
        let agreed : KeepsOffered T ms (all_joined T.empty T.join (T.coordinator_meets now.round now.held)) =
        all_joined_offered (T.coordinator_meets now.round now.held) (λ h y d w. let f = c.in_coordinator_meets now.round now.held h d y w in hold f.0 f.1 f.2 d f.3) in
        voting_ok a now (next_vote T now (all_joined T.empty T.join (T.coordinator_meets now.round now.held))) g.0 hold (next_vote_offered now (all_joined T.empty T.join (T.coordinator_meets now.round now.held)) g.0 agreed))
        (λ z. (p, q, λ x e. absurd (cc)))
    takes_ok a s (P2b r b v) n t p q = (p, q, λ x e. absurd (cc))

    abbrev CoordinatorOk : Coordinator T × Option (Message T) → Type 0
    CoordinatorOk p = KeepsOffered T ms p.0.value × ((a : ℕ) (q : T.Round) (v : T.Value) → p.0.answers a ≡ Some (q, v) → IsOffered T ms v) × ((x : Message T) → p.1 ≡ Some x → TellsOffered T ms x)

    begin_ok : (s : Coordinator T) (r : T.Round) → KeepsOffered T ms s.value → ((a : ℕ) (q : T.Round) (v : T.Value) → s.answers a ≡ Some (q, v) → IsOffered T ms v) → CoordinatorOk (coordinator_begin T s r)
    begin_ok s r p q = cond_cases CoordinatorOk (T.earlier s.round r) _ _
        (λ b. (λ v e. absurd (cc), λ a i v e. absurd (cc), λ x e. one_told ms (P1a r) x tt e)) (λ b. (p, q, λ x e. absurd (cc)))

    extended_ok : (i : ℕ) (s : Coordinator T) (o : Option T.Value) (d : T.Command) → KeepsOffered T ms s.value → KeepsOffered T ms o → ((a : ℕ) (q : T.Round) (v : T.Value) → s.answers a ≡ Some (q, v) → IsOffered T ms v) → Among ms (Propose d) → CoordinatorOk (extended T i s o d)
    extended_ok i s None d p h q n = (p, q, λ x e. absurd (cc))
    extended_ok i s (Some w) d p h q n = cond_cases CoordinatorOk (not (T.has w d) && not (T.fast s.round)) _ _
        (λ b. let o = push_offered ms w d (h w refl) n in
        (λ v e. subst (λ (y : T.Value). IsOffered T ms y) (let g : T.push w d ≡ v = cc in g) o, q, λ x e. one_told ms (P2a s.round i (T.push w d)) x o e))
        (λ b. (p, q, λ x e. absurd (cc)))

    coordinator_takes_ok : (i : ℕ) (s : Coordinator T) (m : Message T) (ds : List T.Command) → Among ms m → TellsOffered T ms m → ((d : T.Command) → Among ds d → Among ms (Propose d))
        → KeepsOffered T ms s.value → ((a : ℕ) (q : T.Round) (v : T.Value) → s.answers a ≡ Some (q, v) → IsOffered T ms v) → CoordinatorOk (coordinator_take T i s m ds)
    coordinator_takes_ok i s (Propose d) ds n t h p q = extended_ok i s s.value d p p q n
    coordinator_takes_ok i s (P1a r) ds n t h p q = cond_cases CoordinatorOk (T.multi r && T.earlier s.round r) _ _
        (λ b. (λ v e. absurd (cc), λ a j v e. absurd (cc), λ x e. absurd (cc))) (λ b. (p, q, λ x e. absurd (cc)))
    coordinator_takes_ok i s (P1b r a j v) ds n t h p q = cond_cases CoordinatorOk (expects T s r a) _ _
        (λ b.
        let f : ℕ → Option (T.Round × T.Value) = set_at s.answers a (Some (j, v)) in
        let all : (k : ℕ) (y : T.Round) (x : T.Value) → f k ≡ Some (y, x) → IsOffered T ms x =
        set_cases (λ (k : ℕ) (o : Option (T.Round × T.Value)). (y : T.Round) (x : T.Value) → o ≡ Some (y, x) → IsOffered T ms x) s.answers a (Some (j, v))
        (λ y x e. let g : ◌≡◌ {A = T.Round × T.Value} (j, v) (y, x) = cc in subst (λ (z : T.Round × T.Value). IsOffered T ms z.1) g t) (λ k z. q k) in
        let o : IsOffered T ms (pushes T (T.safe_choice f) ds) = pushes_offered ms (T.safe_choice f) ds (λ d w. let g = c.in_safe_choice f d w in all g.0 g.1 g.2 g.3 d g.4) h in
        cond_cases CoordinatorOk (T.is_enough f) _ _
        (λ z. (λ x e. subst (λ (y : T.Value). IsOffered T ms y) (let g : pushes T (T.safe_choice f) ds ≡ x = cc in g) o, all, λ x e. one_told ms (P2a s.round i (pushes T (T.safe_choice f) ds)) x o e))
        (λ z. (p, all, λ x e. absurd (cc))))
        (λ b. (p, q, λ x e. absurd (cc)))
    coordinator_takes_ok i s (P2a r b v) ds n t h p q = (p, q, λ x e. absurd (cc))
    coordinator_takes_ok i s (P2b r b v) ds n t h p q = (p, q, λ x e. absurd (cc))

    learned_offered : (u : T.Value) (o : Option T.Value) → IsOffered T ms u → KeepsOffered T ms o → IsOffered T ms (learned_with T u o)
    learned_offered u None p r = p
    learned_offered u (Some v) p r = join_offered u v p (r v refl)

    hears_ok : (s : Learner T) (m : Message T) → TellsOffered T ms m → ((r : T.Round) (a : ℕ) → KeepsOffered T ms (s.votes r a)) × IsOffered T ms s.learned
        → ((r : T.Round) (a : ℕ) → KeepsOffered T ms ((learner_take T s m).votes r a)) × IsOffered T ms (learner_take T s m).learned
    hears_ok s (Propose d) t p = p
    hears_ok s (P1a r) t p = p
    hears_ok s (P1b r a q v) t p = p
    hears_ok s (P2a r b v) t p = p
    hears_ok s (P2b r a v) t p = cond_cases (λ (u : Learner T). ((r : T.Round) (a : ℕ) → KeepsOffered T ms (u.votes r a)) × IsOffered T ms u.learned) (nat_lt a T.acceptors) _ _
        (λ b.
        let f : (j : T.Round) (i : ℕ) → KeepsOffered T ms (votes_with T s.votes r a v j i) = λ j i.
        cond_cases (λ (o : Option T.Value). KeepsOffered T ms o) (T.same j r && nat_eq i a) _ _ (λ z. newer_offered (s.votes r a) v (p.0 r a) t) (λ z. p.0 j i) in (
          f,
          learned_offered s.learned (all_joined T.empty T.join (T.acceptor_meets r (votes_with T s.votes r a v r))) p.1
              (all_joined_offered (T.acceptor_meets r (votes_with T s.votes r a v r)) (λ h y d j. let g = c.in_acceptor_meets r (votes_with T s.votes r a v r) h d y j in f r g.0 g.1 g.2 d g.3)),
        ))
        (λ b. p)

  on : (o : Option (Message T)) (ms : List (Message T)) (x : Message T) → Among ms x → Among (send T o ms) x
  on None ms x p = p
  on (Some y) ms x p = inr p

  offered_on : (o : Option (Message T)) (ms : List (Message T)) (h : T.Value) → IsOffered T ms h → IsOffered T (send T o ms) h
  offered_on o ms h p d i = on o ms (Propose d) (p d i)

  told_on : (o : Option (Message T)) (ms : List (Message T)) (m : Message T) → TellsOffered T ms m → TellsOffered T (send T o ms) m
  told_on o ms (Propose d) t = tt
  told_on o ms (P1a r) t = tt
  told_on o ms (P1b r a q v) t = offered_on o ms v t
  told_on o ms (P2a r b v) t = offered_on o ms v t
  told_on o ms (P2b r a v) t = offered_on o ms v t

  all_told : (o : Option (Message T)) (ms : List (Message T)) → ((m : Message T) → Among ms m → TellsOffered T ms m) → ((x : Message T) → o ≡ Some x → TellsOffered T ms x) → (m : Message T) → Among (send T o ms) m → TellsOffered T (send T o ms) m
  all_told None ms p q m i = p m i
  all_told (Some y) ms p q m i = elim i [
    | inl e ↦ told_on (Some y) ms m (subst (λ (z : Message T). TellsOffered T ms z) e (q y refl))
    | inr n ↦ told_on (Some y) ms m (p m n)
  ]

  module _ (w : System T) (k : AllOffered T w) where
    acceptor_offers : (a : ℕ) (t : Acceptor T) (o : Option (Message T)) → AcceptorOk w.sent (t, o) → AllOffered T (acceptor_now T w a t o)
    acceptor_offers a t o q = record {
      sent = all_told o w.sent k.sent q.2;
      votes = set_cases (λ (b : ℕ) (s : Acceptor T). IsOffered T (send T o w.sent) s.vote) w.acceptors a t (offered_on o w.sent t.vote q.0) (λ b n. offered_on o w.sent (w.acceptors b).vote (k.votes b));
      holds = set_cases (λ (b : ℕ) (s : Acceptor T). (i : ℕ) → KeepsOffered T (send T o w.sent) (s.held i)) w.acceptors a t (λ i v e. offered_on o w.sent v (q.1 i v e)) (λ b n i v e. offered_on o w.sent v (k.holds b i v e));
      values = λ i v e. offered_on o w.sent v (k.values i v e);
      answers = λ i b j v e. offered_on o w.sent v (k.answers i b j v e);
      taken = λ i r b v e. offered_on o w.sent v (k.taken i r b v e);
      learned = λ i. offered_on o w.sent (w.learners i).learned (k.learned i);
    }

    coordinator_offers : (b : ℕ) (t : Coordinator T) (o : Option (Message T)) → CoordinatorOk w.sent (t, o) → AllOffered T (coordinator_now T w b t o)
    coordinator_offers b t o q = record {
      sent = all_told o w.sent k.sent q.2;
      votes = λ a. offered_on o w.sent (w.acceptors a).vote (k.votes a);
      holds = λ a i v e. offered_on o w.sent v (k.holds a i v e);
      values = set_cases (λ (i : ℕ) (s : Coordinator T). KeepsOffered T (send T o w.sent) s.value) w.coordinators b t (λ v e. offered_on o w.sent v (q.0 v e)) (λ i n v e. offered_on o w.sent v (k.values i v e));
      answers = set_cases (λ (i : ℕ) (s : Coordinator T). (a : ℕ) (j : T.Round) (v : T.Value) → s.answers a ≡ Some (j, v) → IsOffered T (send T o w.sent) v) w.coordinators b t
          (λ a j v e. offered_on o w.sent v (q.1 a j v e)) (λ i n a j v e. offered_on o w.sent v (k.answers i a j v e));
      taken = λ i r a v e. offered_on o w.sent v (k.taken i r a v e);
      learned = λ i. offered_on o w.sent (w.learners i).learned (k.learned i);
    }

    learner_offers : (i : ℕ) (t : Learner T) → ((r : T.Round) (a : ℕ) → KeepsOffered T w.sent (t.votes r a)) × IsOffered T w.sent t.learned → AllOffered T (learner_now T w i t)
    learner_offers i t q = record {
      sent = k.sent;
      votes = k.votes;
      holds = k.holds;
      values = k.values;
      answers = k.answers;
      taken = set_cases (λ (j : ℕ) (s : Learner T). (r : T.Round) (a : ℕ) → KeepsOffered T w.sent (s.votes r a)) w.learners i t q.0 (λ j n. k.taken j);
      learned = set_cases (λ (j : ℕ) (s : Learner T). IsOffered T w.sent s.learned) w.learners i t q.1 (λ j n. k.learned j);
    }

    fallen : (b : ℕ) (r : T.Round) → AllOffered T (coordinator_now T w b (record { round = r; awake = false; answers = nothing; value = None }) None)
    fallen b r = coordinator_offers b (record { round = r; awake = false; answers = nothing; value = None }) None (λ v e. absurd (cc), λ a j v e. absurd (cc), λ x e. absurd (cc))

    pub happens_offers : (e : Event T) → Fits T w e → AllOffered T (happens T w e)
    happens_offers (Offer q d) f =
        let m = Propose (T.numbered q (w.offers q + 1) d) in
        record {
          sent = all_told (Some m) w.sent k.sent (λ x e. one_told w.sent m x tt e);
          votes = λ a. offered_on (Some m) w.sent (w.acceptors a).vote (k.votes a);
          holds = λ a i v e. offered_on (Some m) w.sent v (k.holds a i v e);
          values = λ i v e. offered_on (Some m) w.sent v (k.values i v e);
          answers = λ i b j v e. offered_on (Some m) w.sent v (k.answers i b j v e);
          taken = λ i r b v e. offered_on (Some m) w.sent v (k.taken i r b v e);
          learned = λ i. offered_on (Some m) w.sent (w.learners i).learned (k.learned i);
        }
    happens_offers (Begin b r) f = coordinator_offers b (coordinator_begin T (w.coordinators b) r).0 (coordinator_begin T (w.coordinators b) r).1 (begin_ok w.sent (w.coordinators b) r (k.values b) (k.answers b))
    happens_offers (AcceptorTakes a m) f = acceptor_offers a (acceptor_take T a (w.acceptors a) m).0 (acceptor_take T a (w.acceptors a) m).1 (takes_ok w.sent a (w.acceptors a) m f.1 (k.sent m f.1) (k.votes a) (k.holds a))
    happens_offers (CoordinatorTakes b m ds) f = coordinator_offers b (coordinator_take T b (w.coordinators b) m ds).0 (coordinator_take T b (w.coordinators b) m ds).1 (coordinator_takes_ok w.sent b (w.coordinators b) m ds f.1 (k.sent m f.1) f.2 (k.values b) (k.answers b))
    happens_offers (LearnerTakes i m) f = learner_offers i (learner_take T (w.learners i) m) (hears_ok w.sent (w.learners i) m (k.sent m f) (k.taken i, k.learned i))
    happens_offers (AcceptorFalls a None) f = acceptor_offers a (acceptor_fall T a (w.acceptors a) None) None (k.votes a, λ i v e. absurd (cc), λ x e. absurd (cc))
    happens_offers (AcceptorFalls a (Some m)) f = acceptor_offers a (acceptor_fall T a (w.acceptors a) (Some m)) None
        ((takes_ok w.sent a (w.acceptors a) m f.1 (k.sent m f.1) (k.votes a) (k.holds a)).0, λ i v e. absurd (cc), λ x e. absurd (cc))
    happens_offers (CoordinatorFalls b KeptNothing) f = fallen b _
    happens_offers (CoordinatorFalls b (KeptBegin r)) f = fallen b _
    happens_offers (CoordinatorFalls b (KeptTake m)) f = fallen b _
    happens_offers (LearnerFalls i) f = learner_offers i (learner_opening T) (λ r a v e. absurd (cc), λ d j. absurd (c.in_empty d j))

  pub run_offers : (es : List (Event T)) → Loose T es → AllOffered T (run T es)
  run_offers [] f = record {
    sent = λ m p. elim p [ ];
    votes = λ a d i. absurd (c.in_empty d i);
    holds = λ a i v e. absurd (cc);
    values = λ i v e. absurd (cc);
    answers = λ i a q v e. absurd (cc);
    taken = λ i r a v e. absurd (cc);
    learned = λ i d j. absurd (c.in_empty d j);
  }
  run_offers (e ∷ es) f = happens_offers (run T es) (run_offers es f.0) e f.1
