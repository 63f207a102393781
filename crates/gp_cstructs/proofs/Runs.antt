-- Each loose run keeps the facts, so what learners show agrees.
use Rattle.std.proofs.Common.{◌≡◌, inl, inr, ℕ, Bool, true, nat_lt, List, [], ◌∷◌, ◌++◌, refl, sym, subst, ◌∙◌, Some, None}
use Rattle.gp_cstructs.specs.CStructs.{Among, IsUpperBound, join_all}
use Rattle.gp_cstructs.specs.Tables.{Tables, Message, Propose, P1a, P1b, P2a, P2b}
use Rattle.gp_cstructs.specs.Learner.{Learner, learner_take, learner_opening}
use Rattle.gp_cstructs.specs.Loose.{System, Event, Offer, Begin, AcceptorTakes, CoordinatorTakes, LearnerTakes, AcceptorFalls, CoordinatorFalls, LearnerFalls, start, happens, run, Fits, Loose}
use Rattle.gp_cstructs.specs.Lawful.{IsLawful}
use Rattle.gp_cstructs.specs.Facts.{LedgerFacts, IsVote, IsChosen, ledger_of, LearnerFacts, Facts}
use Rattle.gp_cstructs.specs.LooseAgreement.{shown, IsNoFall, LivesOn, AgreesLoosely}
use Rattle.gp_cstructs.proofs.Lists.{among_append, among_left, among_right, cond_cases, set_cases, set_other}
use Rattle.gp_cstructs.proofs.Bounds.{compatible_below, join_all_above}
use Rattle.gp_cstructs.proofs.Growth.{keeps}
use Rattle.gp_cstructs.proofs.Moves.{acceptor_on, coordinator_on, learner_on}
use Rattle.gp_cstructs.proofs.Acceptors.{takes_kept, falls_plain, falls_kept}
use Rattle.gp_cstructs.proofs.Coordinators as coordinators
use Rattle.gp_cstructs.proofs.Chosen.{heard_chosen, chosen_agree}
use Rattle.gp_cstructs.proofs.Learners as learners

pub loose_rest : {T : Tables} (xs ys : List (Event T)) → Loose T (xs ++ ys) → Loose T ys
loose_rest [] ys f = f
loose_rest (x ∷ xs) ys f = loose_rest xs ys f.0

cast_on : {T : Tables} (w : System T) (e : Event T) (x : ℕ × T.Round × T.Value) → Among w.cast x → Among (happens T w e).cast x
cast_on w (Offer q d) x p = p
cast_on w (Begin c r) x p = p
cast_on w (AcceptorTakes a m) x p = inr p
cast_on w (CoordinatorTakes c m cs) x p = p
cast_on w (LearnerTakes i m) x p = p
cast_on w (AcceptorFalls a kept) x p = inr p
cast_on w (CoordinatorFalls c kept) x p = p
cast_on w (LearnerFalls i) x p = p

pub cast_since : {T : Tables} (xs ys : List (Event T)) (x : ℕ × T.Round × T.Value) → Among (run T ys).cast x → Among (run T (xs ++ ys)).cast x
cast_since [] ys x p = p
cast_since {T} (e ∷ xs) ys x p = cast_on (run T (xs ++ ys)) e x (cast_since xs ys x p)

module _ {T : Tables} {leads : T.Round → (ℕ → Bool) → Type 0} (l : IsLawful T leads) where
  opening_vote : (r : T.Round) (x : T.Value) → IsVote T [] 0 r x → (r ≡ T.zero) × (x ≡ T.empty)
  opening_vote r x p = elim p [ inl n ↦ elim n [ ] | inr z ↦ z ]

  pub start_keeps : Facts T leads (start T)
  start_keeps = record {
    ledger = record {
      votes_chain = λ a r x y p q. inl (let e : x ≡ y = (opening_vote r x p).1 ∙ sym (opening_vote r y q).1 in subst (λ (z : T.Value). T.prefix x z) e (l.bounds.reflexive x));
      votes_reached = λ a r x p h. l.order.irreflexive T.zero (subst (λ (i : T.Round). T.earlier T.zero i ≡ true) (opening_vote r x p).0 h);
      votes_safe = λ a r x p j b y c. absurd (l.zero_least j (subst (λ (i : T.Round). T.earlier j i ≡ true) (opening_vote r x p).0 b));
      votes_joined = λ a r x p f. inl ((opening_vote r x p).0, subst (λ (z : T.Value). T.prefix z T.empty) (sym (opening_vote r x p).1) (l.bounds.reflexive T.empty));
      values_chain = λ c r x y p q. elim p [ ];
      values_late = λ c r x p. elim p [ ];
      values_safe = λ c r x p. elim p [ ];
      answers_true = λ r a q v p. elim p [ ];
    };
    acceptors = λ a. record {
      voted_reached = λ h. l.order.irreflexive T.zero h;
      vote_cast = inr (refl, refl);
      vote_last = λ x p. subst (λ (z : T.Value). T.prefix z T.empty) (sym (opening_vote T.zero x p).1) (l.bounds.reflexive T.empty);
      none_above = λ j x b p. l.order.irreflexive T.zero (subst (λ (i : T.Round). T.earlier T.zero i ≡ true) (opening_vote j x p).0 b);
      held_sent = λ c v e. absurd (cc);
    };
    coordinators = λ c. record {
      value_sent = λ v e. absurd (cc);
      value_last = λ v e. absurd (cc);
      none_sent = λ a n x p. elim p [ ];
      sent_reached = λ j x p. elim p [ ];
      answers_given = λ a q v e. absurd (cc);
      awake_late = λ a. absurd (cc);
    };
    learners = λ i. learners.opens l (ledger_of T (start T));
    taken_sent = λ i r a v p. elim p [ ];
    sent_cast = λ r a v p. elim p [ ];
  }

  module _ (w : System T) (k : Facts T leads w) where
    offers : (q : ℕ) (d : T.Draft) → Facts T leads (happens T w (Offer q d))
    offers q d =
        let G = ledger_of T w in
        let K = ledger_of T (happens T w (Offer q d)) in
        record {
          ledger = keeps l G K (record {
            rounds = λ a h. l.order.irreflexive (w.acceptors a).round h;
            votes_kept = λ a r x p. p;
            votes_new = λ a r x p. inl p;
            values_kept = λ c r x p. inr p;
            values_new = λ c r x p. elim p [ inl e ↦ absurd (cc) | inr n ↦ inl n ];
            answers_new = λ r a q v p. elim p [ inl e ↦ absurd (cc) | inr n ↦ inl n ];
          }) k.ledger;
          acceptors = λ a. acceptor_on G K a (w.acceptors a) (λ r x p. p) (λ r x p. p) (λ c r x p. inr p) (k.acceptors a);
          coordinators = λ c. coordinator_on G K c (w.coordinators c) (λ r x p. inr p) (λ r x p. elim p [ inl e ↦ absurd (cc) | inr n ↦ n ]) (λ r a q v p. inr p) (k.coordinators c);
          learners = λ i. learner_on G K (w.learners i) (λ a r x p. p) (k.learners i);
          taken_sent = λ i r a v p. inr (k.taken_sent i r a v p);
          sent_cast = λ r a v p. elim p [ inl e ↦ absurd (cc) | inr n ↦ k.sent_cast r a v n ];
        }

    -- each event keeps the facts, from any system that has them
    pub happens_keeps : (e : Event T) → Fits T w e → Facts T leads (happens T w e)
    happens_keeps (Offer q d) f = offers q d
    happens_keeps (Begin c r) f = coordinators.begins_after l w k c r
    happens_keeps (AcceptorTakes a m) f = takes_kept l w k a m f.1
    happens_keeps (CoordinatorTakes c m cs) f = coordinators.takes_after l w k c m cs f.1
    happens_keeps (LearnerTakes i m) f = learners.takes_after l w k i m f
    happens_keeps (AcceptorFalls a None) f = falls_plain l w k a
    happens_keeps (AcceptorFalls a (Some m)) f = falls_kept l w k a m f.1
    happens_keeps (CoordinatorFalls c kept) f = coordinators.falls_after l w k c kept
    happens_keeps (LearnerFalls i) f = learners.falls_after l w k i

  pub run_keeps : (es : List (Event T)) → Loose T es → Facts T leads (run T es)
  run_keeps [] f = start_keeps
  run_keeps (e ∷ es) f = happens_keeps (run T es) (run_keeps es f.0) e f.1

  -- a learner of an earlier moment, seen from the end
  learner_since : (es : List (Event T)) → Loose T es → (xs ys : List (Event T)) → xs ++ ys ≡ es → (i : ℕ) → LearnerFacts T (ledger_of T (run T es)) ((run T ys).learners i)
  learner_since es f xs ys e i = learner_on (ledger_of T (run T ys)) (ledger_of T (run T es)) ((run T ys).learners i)
      (λ a r x p. elim p [
        | inl n ↦ inl (subst (λ (zs : List (Event T)). Among (run T zs).cast (a, r, x)) e (cast_since xs ys (a, r, x) n))
        | inr z ↦ inr z
      ])
      ((run_keeps ys (loose_rest xs ys (subst (λ (zs : List (Event T)). Loose T zs) (sym e) f))).learners i)

  learned_on : (w : System T) (e : Event T) (i : ℕ) → IsNoFall T i e → T.prefix (w.learners i).learned ((happens T w e).learners i).learned
  learned_on w (Offer q d) i s = l.bounds.reflexive (w.learners i).learned
  learned_on w (Begin c r) i s = l.bounds.reflexive (w.learners i).learned
  learned_on w (AcceptorTakes a m) i s = l.bounds.reflexive (w.learners i).learned
  learned_on w (CoordinatorTakes c m cs) i s = l.bounds.reflexive (w.learners i).learned
  learned_on w (LearnerTakes j m) i s = set_cases (λ (b : ℕ) (u : Learner T). T.prefix (w.learners b).learned u.learned) w.learners j (learner_take T (w.learners j) m)
      (taken_grows (w.learners j) m) (λ b n. l.bounds.reflexive (w.learners b).learned) i
    where
      taken_grows : (s : Learner T) (m : Message T) → T.prefix s.learned (learner_take T s m).learned
      taken_grows s (Propose d) = l.bounds.reflexive s.learned
      taken_grows s (P1a r) = l.bounds.reflexive s.learned
      taken_grows s (P1b r b q v) = l.bounds.reflexive s.learned
      taken_grows s (P2a r c v) = l.bounds.reflexive s.learned
      taken_grows s (P2b r b v) = cond_cases (λ (t : Learner T). T.prefix s.learned t.learned) (nat_lt b T.acceptors) _ _
          (λ e. learners.learned_extends l s.learned _) (λ e. l.bounds.reflexive s.learned)
  learned_on w (AcceptorFalls a kept) i s = l.bounds.reflexive (w.learners i).learned
  learned_on w (CoordinatorFalls c kept) i s = l.bounds.reflexive (w.learners i).learned
  learned_on w (LearnerFalls j) i s = subst (λ (u : Learner T). T.prefix (w.learners i).learned u.learned) (sym (set_other w.learners j (learner_opening T) i (λ e. s (sym e)))) (l.bounds.reflexive (w.learners i).learned)

  learned_since : (ys zs : List (Event T)) (i : ℕ) → LivesOn T i ys → T.prefix (shown T zs i) (shown T (ys ++ zs) i)
  learned_since [] zs i h = l.bounds.reflexive (shown T zs i)
  learned_since (e ∷ ys) zs i h = l.bounds.transitive (shown T zs i) (shown T (ys ++ zs) i) (shown T (e ∷ (ys ++ zs)) i)
      (learned_since ys zs i h.1) (learned_on (run T (ys ++ zs)) e i h.0)

  pub agrees : (es : List (Event T)) → Loose T es → AgreesLoosely T es
  agrees es f = record {
    compatible = λ xs ys us vs e g i j.
        let h : LedgerFacts T leads (ledger_of T (run T es)) = (run_keeps es f).ledger in
        let a = learner_since es f xs ys e i in
        let b = learner_since es f us vs g j in
        let hs : List T.Value = a.parts ++ b.parts in
        let chosen : (u : T.Value) → Among hs u → (r : T.Round) × IsChosen T (ledger_of T (run T es)) u r = λ u m. elim (among_append a.parts b.parts u m) [
          | inl n ↦ (((a.heard u n).round), heard_chosen l (ledger_of T (run T es)) ((run T ys).learners i).taken a.taken_cast u (a.heard u n))
          | inr n ↦ (((b.heard u n).round), heard_chosen l (ledger_of T (run T es)) ((run T vs).learners j).taken b.taken_cast u (b.heard u n))
        ] in
        let above : IsUpperBound T.prefix (join_all T.empty T.join hs) hs = join_all_above l.bounds hs
        (λ x y mx my. chosen_agree l (ledger_of T (run T es)) h x y (chosen x mx).0 (chosen y my).0 (chosen x mx).1 (chosen y my).1) in
        compatible_below l.bounds (shown T ys i) (shown T vs j) (join_all T.empty T.join hs)
        (a.least (join_all T.empty T.join hs) (λ u m. above u (among_left a.parts b.parts u m)))
        (b.least (join_all T.empty T.join hs) (λ u m. above u (among_right a.parts b.parts u m)));
    grows = λ xs ys zs e i h. learned_since ys zs i h;
    has_all = λ xs ys e i u h. learners.heard_below l (ledger_of T (run T es)) ((run T ys).learners i) (learner_since es f xs ys e i) u h;
    has_no_more = λ xs ys e i z h. let a = learner_since es f xs ys e i in a.least z (λ u m. h u (a.heard u m));
  }
