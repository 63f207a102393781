-- Each step of a coordinator keeps the facts.
use Rattle.std.proofs.Common.{◌≡◌, ◌⊎◌, inl, inr, ℕ, Bool, true, not, ◌&&◌, nat_lt, List, [], ◌∷◌, refl, sym, subst, ap, Option, Some, None}
use Rattle.gp_cstructs.specs.CStructs.{Among}
use Rattle.gp_cstructs.specs.Tables.{Tables, is_missing, set_at, pushes, Message, Propose, P1a, P1b, P2a, P2b}
use Rattle.gp_cstructs.specs.Coordinator.{Coordinator, begun, coordinator_begin, extended, expects, coordinator_take, Kept, KeptNothing, KeptBegin, KeptTake, asleep, coordinator_fall}
use Rattle.gp_cstructs.specs.Loose.{System, coordinator_now}
use Rattle.gp_cstructs.specs.Lawful.{IsLawful}
use Rattle.gp_cstructs.specs.Facts.{Ledger, ledger_of, CoordinatorFacts, Facts}
use Rattle.gp_cstructs.proofs.Lists.{and_split, cond_cases, none_is, set_cases}
use Rattle.gp_cstructs.proofs.Turns.{NewValue, MaySend, Sends, SendsNothing, SendsRound, SendsValue, SendsNoValue, NoMessage, ARound}
use Rattle.gp_cstructs.proofs.Growth.{le_lt, keeps, choice_holds}
use Rattle.gp_cstructs.proofs.Moves.{sent_before, sent_now, coordinator_on, acceptor_on, learner_on}

-- what the facts say of a value that is sent
abbrev tells_value : (T : Tables) → Ledger T → Ledger T → Option (Message T) → Type 0
tells_value T G K (Some (P2a r c x)) = NewValue T G K c r x
tells_value T G K _ = Unit {0}

pub pushes_grow : {T : Tables} {leads : T.Round → (ℕ → Bool) → Type 0} (l : IsLawful T leads) (u : T.Value) (cs : List T.Command) → T.prefix u (pushes T u cs)
pushes_grow l u [] = l.bounds.reflexive u
pushes_grow {T} l u (d ∷ cs) = l.bounds.transitive u (T.push u d) (pushes T (T.push u d) cs) (l.push_extends u d) (pushes_grow l (T.push u d) cs)

module _ {T : Tables} {leads : T.Round → (ℕ → Bool) → Type 0} (l : IsLawful T leads) (w : System T) (k : Facts T leads w) (c : ℕ) where
  abbrev G : Ledger T
  G = ledger_of T w

  abbrev s : Coordinator T
  s = w.coordinators c

  ks : CoordinatorFacts T G c s
  ks = k.coordinators c

  -- as far as values go, a system in which m was sent too
  abbrev K : Option (Message T) → Coordinator T → Ledger T
  K m t = ledger_of T (coordinator_now T w c t m)

  values_back : (m : Option (Message T)) (t : Coordinator T) → Sends T G c m → (b : ℕ) (r : T.Round) (x : T.Value) → (K m t).values b r x → G.values b r x ⊎ ((m ≡ Some (P2a r b x)) × (c ≡ b))
  values_back m t SendsNothing b r x p = inl p
  values_back m t (SendsRound i) b r x p = elim p [ inl e ↦ absurd (cc) | inr n ↦ inl n ]
  values_back m t (SendsValue i y g) b r x p = elim p [ inl e ↦ inr (ap Some e, cc) | inr n ↦ inl n ]

  values_on : (m : Option (Message T)) (t : Coordinator T) (b : ℕ) (r : T.Round) (x : T.Value) → G.values b r x → (K m t).values b r x
  values_on m t b r x p = sent_before m w.sent (P2a r b x) p

  new_value : (m : Option (Message T)) (t : Coordinator T) → Sends T G c m → (b : ℕ) (r : T.Round) (x : T.Value) → m ≡ Some (P2a r b x) → NewValue T G (K m t) b r x
  new_value m t SendsNothing b r x e = absurd (cc)
  new_value m t (SendsRound i) b r x e = absurd (cc)
  new_value m t (SendsValue i y g) b r x e = subst (λ (n : Option (Message T)). tells_value T G (K (Some (P2a i c y)) t) n) e (record {
    late = g.late;
    top = λ z p. elim p [ inl f ↦ subst (λ (u : T.Value). T.prefix u y) (let h : y ≡ z = cc in h) (l.bounds.reflexive y) | inr n ↦ g.top z n ];
    safe = g.safe;
  })

  no_answer : (m : Option (Message T)) → Sends T G c m → (r : T.Round) (a : ℕ) (q : T.Round) (v : T.Value) → m ≡ Some (P1b r a q v) → ⊥
  no_answer m SendsNothing r a q v e = cc
  no_answer m (SendsRound i) r a q v e = cc
  no_answer m (SendsValue i y g) r a q v e = cc

  no_vote : (m : Option (Message T)) → Sends T G c m → (r : T.Round) (a : ℕ) (v : T.Value) → m ≡ Some (P2b r a v) → ⊥
  no_vote m SendsNothing r a v e = cc
  no_vote m (SendsRound i) r a v e = cc
  no_vote m (SendsValue i y g) r a v e = cc

  moves : (m : Option (Message T)) (t : Coordinator T) → Sends T G c m → CoordinatorFacts T (K m t) c t → Facts T leads (coordinator_now T w c t m)
  moves m t g kt = record {
    ledger = keeps l G (K m t) (record {
      rounds = λ a h. l.order.irreflexive (G.round a) h;
      votes_kept = λ a r x p. p;
      votes_new = λ a r x p. inl p;
      values_kept = values_on m t;
      values_new = λ b r x p. elim (values_back m t g b r x p) [ inl o ↦ inl o | inr n ↦ inr (new_value m t g b r x n.0) ];
      answers_new = λ r a q v p. elim (sent_now m w.sent (P1b r a q v) p) [ inl e ↦ absurd (no_answer m g r a q v e) | inr o ↦ inl o ];
    }) k.ledger;
    acceptors = λ a. acceptor_on G (K m t) a (w.acceptors a) (λ r x p. p) (λ r x p. p) (values_on m t) (k.acceptors a);
    coordinators = set_cases (λ (b : ℕ) (u : Coordinator T). CoordinatorFacts T (K m t) b u) w.coordinators c t kt
        (λ b n. coordinator_on G (K m t) b (w.coordinators b) (λ r x p. values_on m t b r x p)
        (λ r x p. elim (values_back m t g b r x p) [ inl o ↦ o | inr y ↦ absurd (n y.1) ])
        (λ r a q v p. sent_before m w.sent (P1b r a q v) p) (k.coordinators b));
    learners = λ i. learner_on G (K m t) (w.learners i) (λ a r x p. p) (k.learners i);
    taken_sent = λ i r a v p. sent_before m w.sent (P2b r a v) (k.taken_sent i r a v p);
    sent_cast = λ r a v p. elim (sent_now m w.sent (P2b r a v) p) [ inl e ↦ absurd (no_vote m g r a v e) | inr o ↦ k.sent_cast r a v o ];
  }

  -- moves that send no value
  no_value_sends : (m : Option (Message T)) → SendsNoValue T m → Sends T G c m
  no_value_sends m NoMessage = SendsNothing
  no_value_sends m (ARound r) = SendsRound r

  no_value_back : (m : Option (Message T)) (t : Coordinator T) → SendsNoValue T m → (r : T.Round) (x : T.Value) → (K m t).values c r x → G.values c r x
  no_value_back m t NoMessage r x p = p
  no_value_back m t (ARound i) r x p = elim p [ inl e ↦ absurd (cc) | inr n ↦ n ]

  without_value : (m : Option (Message T)) (t : Coordinator T) → SendsNoValue T m → CoordinatorFacts T G c t → Facts T leads (coordinator_now T w c t m)
  without_value m t q kt = moves m t (no_value_sends m q)
      (coordinator_on G (K m t) c t (λ r x p. values_on m t c r x p) (no_value_back m t q) (λ r a i v p. sent_before m w.sent (P1b r a i v) p) kt)

  abbrev After : Coordinator T × Option (Message T) → Type 0
  After p = Facts T leads (coordinator_now T w c p.0 p.1)

  unchanged_after : After (s, None)
  unchanged_after = without_value None s NoMessage ks

  begun_keeps : (r : T.Round) → T.earlier s.round r ≡ true → CoordinatorFacts T G c (begun T r)
  begun_keeps r b = record {
    value_sent = λ v e. absurd (cc);
    value_last = λ v e. absurd (cc);
    none_sent = λ a n x p. ks.sent_reached r x p b;
    sent_reached = λ j x p h. ks.sent_reached j x p (l.order.transitive s.round r j b h);
    answers_given = λ a q v e. absurd (cc);
    awake_late = λ a. le_lt l T.zero s.round r (l.zero_least s.round) b;
  }

  asleep_keeps : (r : T.Round) → (T.earlier r s.round ≡ true → ⊥) → CoordinatorFacts T G c (asleep T r)
  asleep_keeps r n = record {
    value_sent = λ v e. absurd (cc);
    value_last = λ v e. absurd (cc);
    none_sent = λ a z x p. absurd (cc);
    sent_reached = λ j x p h. ks.sent_reached j x p (le_lt l s.round r j n h);
    answers_given = λ a q v e. absurd (cc);
    awake_late = λ a. absurd (cc);
  }

  pub begins_after : (r : T.Round) → After (coordinator_begin T s r)
  begins_after r = cond_cases After (T.earlier s.round r) _ _ (λ b. without_value (Some (P1a r)) (begun T r) (ARound r) (begun_keeps r b)) (λ b. unchanged_after)

  joins_after : (r : T.Round) (cs : List T.Command) → After (coordinator_take T c s (P1a r) cs)
  joins_after r cs = cond_cases After (T.multi r && T.earlier s.round r) _ _
      (λ b. without_value None (begun T r) NoMessage (begun_keeps r (and_split (T.multi r) (T.earlier s.round r) b).1)) (λ b. unchanged_after)

  -- a value x behind all values so far
  gives : (t : Coordinator T) (x : T.Value) → t.round ≡ s.round → t.value ≡ Some x
      → ((a : ℕ) (q : T.Round) (v : T.Value) → t.answers a ≡ Some (q, v) → G.answers s.round a q v) → MaySend T G c s.round x
      → After (t, Some (P2a s.round c x))
  gives t x er ev an g = moves (Some (P2a s.round c x)) t (SendsValue s.round x g) (record {
    value_sent = λ v e. subst (λ (u : T.Value). (K (Some (P2a s.round c x)) t).values c t.round u) (let h : x ≡ v = cc in h) (inl (ap (λ (i : T.Round). P2a i c x) (sym er)));
    value_last = λ v e y p. subst (λ (u : T.Value). T.prefix y u) (let h : x ≡ v = cc in h)
        (elim p [
          | inl f ↦ subst (λ (u : T.Value). T.prefix u x) (let h : x ≡ y = cc in h) (l.bounds.reflexive x)
          | inr n ↦ g.top y (subst (λ (i : T.Round). G.values c i y) er n)
        ]);
    none_sent = λ a n y p. absurd (cc);
    sent_reached = λ j y p h. elim p [
      | inl f ↦ l.order.irreflexive j (subst (λ (i : T.Round). T.earlier i j ≡ true) (let z : t.round ≡ j = cc in z) h)
      | inr n ↦ ks.sent_reached j y n (subst (λ (i : T.Round). T.earlier i j ≡ true) er h)
    ];
    answers_given = λ a q v e. sent_before (Some (P2a s.round c x)) w.sent (P1b t.round a q v) (subst (λ (i : T.Round). Among w.sent (P1b i a q v)) (sym er) (an a q v e));
    awake_late = λ a. subst (λ (i : T.Round). T.earlier T.zero i ≡ true) (sym er) g.late;
  })

  extends_after : (o : Option T.Value) → s.value ≡ o → (d : T.Command) → After (extended T c s o d)
  extends_after None e d = unchanged_after
  extends_after (Some v) e d = cond_cases After (not (T.has v d) && not (T.fast s.round)) _ _
      (λ b. gives (record { round = s.round; awake = s.awake; answers = s.answers; value = Some (T.push v d) }) (T.push v d) refl refl ks.answers_given (record {
        late = k.ledger.values_late c s.round v (ks.value_sent v e);
        top = λ y p. l.bounds.transitive y v (T.push v d) (ks.value_last v e y p) (l.push_extends v d);
        safe = λ j h x q. l.bounds.transitive x v (T.push v d) (k.ledger.values_safe c s.round v (ks.value_sent v e) j h x q) (l.push_extends v d);
      }))
      (λ b. unchanged_after)

  answers_with : (r : T.Round) (a : ℕ) (q : T.Round) (v : T.Value) → Among w.sent (P1b r a q v) → r ≡ s.round
      → (b : ℕ) (i : T.Round) (x : T.Value) → set_at s.answers a (Some (q, v)) b ≡ Some (i, x) → G.answers s.round b i x
  answers_with r a q v p e = set_cases (λ (b : ℕ) (o : Option (T.Round × T.Value)). (i : T.Round) (x : T.Value) → o ≡ Some (i, x) → G.answers s.round b i x) s.answers a (Some (q, v))
      (λ i x f. let g : ◌≡◌ {A = T.Round × T.Value} (q, v) (i, x) = cc in
      subst (λ (y : T.Round × T.Value). Among w.sent (P1b s.round a y.0 y.1)) g (subst (λ (j : T.Round). Among w.sent (P1b j a q v)) e p))
      (λ b n i x f. ks.answers_given b i x f)

  -- what it knows where it expects an answer
  record Expecting (r : T.Round) : Type 0 where
    same : r ≡ s.round
    awake : s.awake ≡ true
    none : s.value ≡ None

  expecting : (r : T.Round) (a : ℕ) → expects T s r a ≡ true → Expecting r
  expecting r a b =
      let p1 = and_split (s.awake && T.same r s.round && is_missing s.value && nat_lt a T.acceptors) (is_missing (s.answers a)) b in
      let p2 = and_split (s.awake && T.same r s.round && is_missing s.value) (nat_lt a T.acceptors) p1.0 in
      let p3 = and_split (s.awake && T.same r s.round) (is_missing s.value) p2.0 in
      let p4 = and_split s.awake (T.same r s.round) p3.0 in
      record { same = l.same_tells r s.round p4.1; awake = p4.0; none = none_is s.value p3.1 }

  answers_after : (r : T.Round) (a : ℕ) (q : T.Round) (v : T.Value) (cs : List T.Command) → Among w.sent (P1b r a q v) → After (coordinator_take T c s (P1b r a q v) cs)
  answers_after r a q v cs p = cond_cases After (expects T s r a) _ _
      (λ b.
      let x = expecting r a b in
      let f : ℕ → Option (T.Round × T.Value) = set_at s.answers a (Some (q, v)) in
      let all : (i : ℕ) (j : T.Round) (y : T.Value) → f i ≡ Some (j, y) → G.answers s.round i j y = answers_with r a q v p x.same in
      cond_cases After (T.is_enough f) _ _
      (λ en. gives (record { round = s.round; awake = s.awake; answers = f; value = Some (pushes T (T.safe_choice f) cs) }) (pushes T (T.safe_choice f) cs) refl refl all (record {
        late = ks.awake_late x.awake;
        top = λ y z. absurd (ks.none_sent x.awake x.none y z);
        safe = λ j h y z. l.bounds.transitive y (T.safe_choice f) (pushes T (T.safe_choice f) cs) (choice_holds l G k.ledger s.round f all en j h y z) (pushes_grow l (T.safe_choice f) cs);
      }))
      (λ en. without_value None (record { round = s.round; awake = s.awake; answers = f; value = s.value }) NoMessage (record {
        value_sent = ks.value_sent;
        value_last = ks.value_last;
        none_sent = ks.none_sent;
        sent_reached = ks.sent_reached;
        answers_given = all;
        awake_late = ks.awake_late;
      })))
      (λ b. unchanged_after)

  pub takes_after : (m : Message T) (cs : List T.Command) → Among w.sent m → After (coordinator_take T c s m cs)
  takes_after (Propose d) cs p = extends_after s.value refl d
  takes_after (P1a r) cs p = joins_after r cs
  takes_after (P1b r a q v) cs p = answers_after r a q v cs p
  takes_after (P2a r b v) cs p = unchanged_after
  takes_after (P2b r b v) cs p = unchanged_after

  -- the round of a coordinator never falls
  rise_begin : (r : T.Round) → T.earlier (coordinator_begin T s r).0.round s.round ≡ true → ⊥
  rise_begin r = cond_cases (λ (p : Coordinator T × Option (Message T)). T.earlier p.0.round s.round ≡ true → ⊥) (T.earlier s.round r) _ _
      (λ b h. l.order.irreflexive r (l.order.transitive r s.round r h b)) (λ b h. l.order.irreflexive s.round h)

  abbrev Up : Coordinator T × Option (Message T) → Type 0
  Up p = T.earlier p.0.round s.round ≡ true → ⊥

  rise_extended : (o : Option T.Value) (d : T.Command) → Up (extended T c s o d)
  rise_extended None d = λ h. l.order.irreflexive s.round h
  rise_extended (Some v) d = cond_cases Up (not (T.has v d) && not (T.fast s.round)) _ _ (λ b h. l.order.irreflexive s.round h) (λ b h. l.order.irreflexive s.round h)

  rise_take : (m : Message T) (cs : List T.Command) → T.earlier (coordinator_take T c s m cs).0.round s.round ≡ true → ⊥
  rise_take (Propose d) cs = rise_extended s.value d
  rise_take (P1a r) cs = cond_cases Up (T.multi r && T.earlier s.round r) _ _
      (λ b h. l.order.irreflexive r (l.order.transitive r s.round r h (and_split (T.multi r) (T.earlier s.round r) b).1)) (λ b h. l.order.irreflexive s.round h)
  rise_take (P1b r a q v) cs = cond_cases Up (expects T s r a) _ _
      (λ b. cond_cases Up (T.is_enough (set_at s.answers a (Some (q, v)))) _ _ (λ x h. l.order.irreflexive s.round h) (λ x h. l.order.irreflexive s.round h)) (λ b h. l.order.irreflexive s.round h)
  rise_take (P2a r b v) cs = λ h. l.order.irreflexive s.round h
  rise_take (P2b r b v) cs = λ h. l.order.irreflexive s.round h

  pub falls_after : (kept : Kept T) → Facts T leads (coordinator_now T w c (coordinator_fall T c s kept) None)
  falls_after KeptNothing = without_value None (asleep T s.round) NoMessage (asleep_keeps s.round (λ h. l.order.irreflexive s.round h))
  falls_after (KeptBegin r) = without_value None (asleep T (coordinator_begin T s r).0.round) NoMessage (asleep_keeps (coordinator_begin T s r).0.round (rise_begin r))
  falls_after (KeptTake m) = without_value None (asleep T (coordinator_take T c s m []).0.round) NoMessage (asleep_keeps (coordinator_take T c s m []).0.round (rise_take m []))
