-- Each step of a learner keeps the facts.
use Rattle.std.specs.Prelude.{unwrap_or}
use Rattle.std.proofs.Common.{◌≡◌, ◌⊎◌, inl, inr, ◌≤◌, ℕ, Bool, true, cond, ◌&&◌, nat_eq, nat_lt, List, [], ◌∷◌, ◌++◌, refl, sym, subst, ap, ◌∙◌, arith, Option, Some, None}
use Rattle.std.proofs.lemmas.Bool.{eqb-true, eq-eqb, ltb-true, ltb-false}
use mathlib.Core.Path.{fun_ext}
use Rattle.gp_cstructs.specs.CStructs.{Among, Compatible, IsUpperBound, ArePairwiseCompatible, join_all, all_joined}
use Rattle.gp_cstructs.specs.Tables.{Tables, newer, Message, Propose, P1a, P1b, P2a, P2b}
use Rattle.gp_cstructs.specs.Learner.{votes_with, learned_with, Learner, learner_take, learner_opening}
use Rattle.gp_cstructs.specs.Loose.{System, learner_now}
use Rattle.gp_cstructs.specs.Lawful.{IsLawful}
use Rattle.gp_cstructs.specs.Facts.{Ledger, ledger_of, LearnerFacts, Heard, Facts}
use Rattle.gp_cstructs.proofs.Lists.{and_split, among_append, among_left, among_right, cond_cases, set_cases}
use Rattle.gp_cstructs.proofs.Subsets.{two_share, shrunk}
use Rattle.gp_cstructs.proofs.Bounds.{compatible_below, join_all_above, join_all_least}
use Rattle.gp_cstructs.proofs.Chosen.{heard_pairs}

heard_more : {T : Tables} (taken : List (T.Round × ℕ × T.Value)) (t : T.Round × ℕ × T.Value) (u : T.Value) → Heard T taken u → Heard T (t ∷ taken) u
heard_more taken t u h = record {
  round = h.round;
  quorum = h.quorum;
  enough = h.enough;
  vote = h.vote;
  taken_of = λ a i e. inr (h.taken_of a i e);
  below = h.below;
  greatest = h.greatest;
}

module _ {T : Tables} {leads : T.Round → (ℕ → Bool) → Type 0} (l : IsLawful T leads) where
  -- what is learned with the join of these is the least value above what was learned and them
  pub learned_extends : (u : T.Value) (vs : List T.Value) → T.prefix u (learned_with T u (all_joined T.empty T.join vs))
  learned_extends u [] = l.bounds.reflexive u
  learned_extends u (v ∷ vs) = l.bounds.join_left u (join_all T.empty T.join (v ∷ vs))

  learned_above : (u : T.Value) (vs : List T.Value) → Compatible T.prefix u (join_all T.empty T.join vs) → IsUpperBound T.prefix (join_all T.empty T.join vs) vs
      → IsUpperBound T.prefix (learned_with T u (all_joined T.empty T.join vs)) vs
  learned_above u [] agree above x m = elim m [ ]
  learned_above u (v ∷ vs) agree above x m =
      let all : T.Value = join_all T.empty T.join (v ∷ vs) in
      l.bounds.transitive x all (T.join u all) (above x m) (l.bounds.join_right u all agree)

  learned_least : (u : T.Value) (vs : List T.Value) (z : T.Value) → T.prefix u z → IsUpperBound T.prefix z vs → T.prefix (learned_with T u (all_joined T.empty T.join vs)) z
  learned_least u [] z a b = a
  learned_least u (v ∷ vs) z a b = l.bounds.join_least u (join_all T.empty T.join (v ∷ vs)) z a (join_all_least l.bounds (v ∷ vs) z b)

  -- what a learner heard is a prefix of what it learned
  pub heard_below : (G : Ledger T) (s : Learner T) → LearnerFacts T G s → (u : T.Value) → Heard T s.taken u → T.prefix u s.learned
  heard_below G s k u h =
      let q = shrunk h.quorum T.acceptors (T.quorum h.round) h.enough in
      let m = l.acceptor_meets_each h.round (s.votes h.round) q.0 q.1
      (λ a i e. let t = k.taken_held h.round a (h.vote a) (h.taken_of a i (q.2 a e)) in (t.0, t.1)) in
      l.bounds.transitive u m.0 s.learned
      (m.2.greatest u (λ a v i e f.
      let t = k.taken_held h.round a (h.vote a) (h.taken_of a i (q.2 a e)) in
      let same : t.0 ≡ v = let p = t.1 in cc in
      subst (λ (y : T.Value). T.prefix u y) same (l.bounds.transitive u (h.vote a) t.0 (h.below a i (q.2 a e)) t.2)))
      (k.whole_learned h.round m.0 m.1)

  pub opens : (G : Ledger T) → LearnerFacts T G (learner_opening T)
  opens G = record {
    taken_cast = λ r a v p. elim p [ ];
    held_taken = λ r a v e. absurd (cc);
    taken_held = λ r a v p. elim p [ ];
    parts = [];
    heard = λ u p. elim p [ ];
    above = λ u p. elim p [ ];
    least = λ z b. l.bounds.empty_least z;
    whole_learned = λ r u p.
        let q = l.acceptor_meets_only r (λ a. None) u p in
        let a = two_share q.0 q.0 T.acceptors (omega (arith, q.1, l.sizes.with_itself r)) in
        absurd (let f = q.2.all a.0 a.1 a.2 in let e = f.1 in cc);
  }

module _ {T : Tables} {leads : T.Round → (ℕ → Bool) → Type 0} (l : IsLawful T leads) (w : System T) (k : Facts T leads w) (i : ℕ) where
  abbrev G : Ledger T
  G = ledger_of T w

  abbrev s : Learner T
  s = w.learners i

  ks : LearnerFacts T G s
  ks = k.learners i

  moves : (t : Learner T) → LearnerFacts T G t → ((r : T.Round) (a : ℕ) (v : T.Value) → Among t.taken (r, a, v) → Among w.sent (P2b r a v)) → Facts T leads (learner_now T w i t)
  moves t kt told = record {
    ledger = k.ledger;
    acceptors = k.acceptors;
    coordinators = k.coordinators;
    learners = set_cases (λ (j : ℕ) (u : Learner T). LearnerFacts T G u) w.learners i t kt (λ j n. k.learners j);
    taken_sent = set_cases (λ (j : ℕ) (u : Learner T). (r : T.Round) (a : ℕ) (v : T.Value) → Among u.taken (r, a, v) → Among w.sent (P2b r a v)) w.learners i t told (λ j n. k.taken_sent j);
    sent_cast = k.sent_cast;
  }

  pub falls_after : Facts T leads (learner_now T w i (learner_opening T))
  falls_after = moves (learner_opening T) (opens l G) (λ r a v p. elim p [ ])

  module _ (r : T.Round) (a : ℕ) (v : T.Value) (sent : Among w.sent (P2b r a v)) where
    abbrev f : T.Round → ℕ → Option T.Value
    f = votes_with T s.votes r a v

    abbrev taken : List (T.Round × ℕ × T.Value)
    taken = (r, a, v) ∷ s.taken

    voted : G.votes a r v
    voted = k.sent_cast r a v sent

    taken_cast : (j : T.Round) (b : ℕ) (x : T.Value) → Among taken (j, b, x) → G.votes b j x
    taken_cast j b x p = elim p [
      | inl e ↦ subst (λ (y : T.Round × ℕ × T.Value). G.votes y.1 y.0 y.2) e voted
      | inr n ↦ ks.taken_cast j b x n
    ]

    taken_sent : (j : T.Round) (b : ℕ) (x : T.Value) → Among taken (j, b, x) → Among w.sent (P2b j b x)
    taken_sent j b x p = elim p [
      | inl e ↦ subst (λ (y : T.Round × ℕ × T.Value). Among w.sent (P2b y.0 y.1 y.2)) e sent
      | inr n ↦ k.taken_sent i j b x n
    ]

    newer_is : (o : Option T.Value) → (newer T o v ≡ v) ⊎ (o ≡ Some (newer T o v))
    newer_is None = inl refl
    newer_is (Some x) = cond_cases (λ (y : T.Value). (y ≡ v) ⊎ (Some x ≡ Some y)) (nat_lt (T.size x) (T.size v)) v x (λ e. inl refl) (λ e. inr refl)

    -- of two votes of a in r the one with more commands is above
    more : (x y : T.Value) → G.votes a r x → G.votes a r y → T.size x ≤ T.size y → T.prefix x y
    more x y p q h = elim (k.ledger.votes_chain a r x y p q) [ inl e ↦ e | inr e ↦ l.prefix_as_long y x e h ]

    newer_above : (o : Option T.Value) → ((x : T.Value) → o ≡ Some x → G.votes a r x) → T.prefix v (newer T o v) × ((x : T.Value) → o ≡ Some x → T.prefix x (newer T o v))
    newer_above None p = (l.bounds.reflexive v, λ x e. absurd (cc))
    newer_above (Some y) p = cond_cases (λ (z : T.Value). T.prefix v z × ((x : T.Value) → Some y ≡ Some x → T.prefix x z)) (nat_lt (T.size y) (T.size v)) v y
        (λ b. (l.bounds.reflexive v, λ x e. subst (λ (z : T.Value). T.prefix z v) (let h : y ≡ x = cc in h) (more y v (p y refl) voted (omega (arith, ltb-true (T.size y) (T.size v) b)))))
        (λ b. (more v y voted (p y refl) (ltb-false (T.size y) (T.size v) b), λ x e. subst (λ (z : T.Value). T.prefix z y) (let h : y ≡ x = cc in h) (l.bounds.reflexive y)))

    held_cast : (x : T.Value) → s.votes r a ≡ Some x → G.votes a r x
    held_cast x e = ks.taken_cast r a x (ks.held_taken r a x e)

    held_taken : (j : T.Round) (b : ℕ) (x : T.Value) → f j b ≡ Some x → Among taken (j, b, x)
    held_taken j b x = cond_cases (λ (o : Option T.Value). o ≡ Some x → Among taken (j, b, x)) (T.same j r && nat_eq b a) _ _
        (λ t e.
        let p = and_split (T.same j r) (nat_eq b a) t in
        let ej : j ≡ r = l.same_tells j r p.0 in
        let eb : b ≡ a = eqb-true b a p.1 in
        elim (newer_is (s.votes r a)) [
          | inl n ↦ inl (let g : newer T (s.votes r a) v ≡ x = cc in let h : ◌≡◌ {A = T.Round × ℕ × T.Value} (r, a, v) (j, b, x) = cc in h)
          | inr n ↦ inr (let g : newer T (s.votes r a) v ≡ x = cc in
              let old : Among s.taken (r, a, x) = ks.held_taken r a x (n ∙ ap Some g) in
              let h : ◌≡◌ {A = T.Round × ℕ × T.Value} (r, a, x) (j, b, x) = cc in subst (λ (y : T.Round × ℕ × T.Value). Among s.taken y) h old)
        ])
        (λ t e. inr (ks.held_taken j b x e))

    at_own : f r a ≡ Some (newer T (s.votes r a) v)
    at_own =
        let t : (T.same r r && nat_eq a a) ≡ true = rw (l.same_itself r, eq-eqb a a refl) refl in
        ap (λ (b : Bool). cond b (Some (newer T (s.votes r a) v)) (s.votes r a)) t

    taken_held : (j : T.Round) (b : ℕ) (y : T.Value) → Among taken (j, b, y) → (x : T.Value) × (f j b ≡ Some x) × T.prefix y x
    taken_held j b y p = elim p [
      | inl e ↦ subst (λ (z : T.Round × ℕ × T.Value). (x : T.Value) × (f z.0 z.1 ≡ Some x) × T.prefix z.2 x) e
          (newer T (s.votes r a) v, at_own, (newer_above (s.votes r a) held_cast).0)
      | inr n ↦
          let old = ks.taken_held j b y n in
          cond_cases (λ (o : Option T.Value). (x : T.Value) × (o ≡ Some x) × T.prefix y x) (T.same j r && nat_eq b a) _ _
          (λ t.
          let p = and_split (T.same j r) (nat_eq b a) t in
          let ej : j ≡ r = l.same_tells j r p.0 in
          let eb : b ≡ a = eqb-true b a p.1 in
          let g : s.votes r a ≡ Some old.0 = let h = old.1 in cc in
          (newer T (s.votes r a) v, refl, l.bounds.transitive y old.0 (newer T (s.votes r a) v) old.2 ((newer_above (s.votes r a) held_cast).1 old.0 g)))
          (λ t. old)
    ]

    other_round : (j : T.Round) → (r ≡ j → ⊥) → f j ≡ s.votes j
    other_round j n = fun_ext (λ b. cond_cases (λ (o : Option T.Value). o ≡ s.votes j b) (T.same j r && nat_eq b a) _ _
        (λ t. absurd (n (sym (l.same_tells j r (and_split (T.same j r) (nat_eq b a) t).0))))
        (λ t. refl))

    heard_one : (m : T.Value) → Among (T.acceptor_meets r (f r)) m → Heard T taken m
    heard_one m p =
        let q = l.acceptor_meets_only r (f r) m p in
        record {
          round = r;
          quorum = q.0;
          enough = omega (arith, q.1);
          vote = λ b. unwrap_or (f r b) T.empty;
          taken_of = λ b i e. let x = q.2.all b i e in
              subst (λ (o : Option T.Value). Among taken (r, b, unwrap_or o T.empty)) (sym x.1) (held_taken r b x.0 x.1);
          below = λ b i e. let x = q.2.all b i e in
              subst (λ (o : Option T.Value). T.prefix m (unwrap_or o T.empty)) (sym x.1) x.2;
          greatest = λ z h. q.2.greatest z (λ b x i e g. subst (λ (o : Option T.Value). T.prefix z (unwrap_or o T.empty)) g (h b i e));
        }

    abbrev hs : List T.Value
    hs = T.acceptor_meets r (f r)

    all_heard : (u : T.Value) → Among (hs ++ ks.parts) u → Heard T taken u
    all_heard u p = elim (among_append hs ks.parts u p) [ inl n ↦ heard_one u n | inr n ↦ heard_more s.taken (r, a, v) u (ks.heard u n) ]

    pairs : ArePairwiseCompatible T.prefix (hs ++ ks.parts)
    pairs = heard_pairs l G k.ledger taken taken_cast (hs ++ ks.parts) all_heard

    hs_above : IsUpperBound T.prefix (join_all T.empty T.join hs) hs
    hs_above = join_all_above l.bounds hs (λ x y mx my. pairs x y (among_left hs ks.parts x mx) (among_left hs ks.parts y my))

    agree : Compatible T.prefix s.learned (join_all T.empty T.join hs)
    agree =
        let z : T.Value = join_all T.empty T.join (hs ++ ks.parts) in
        let above : IsUpperBound T.prefix z (hs ++ ks.parts) = join_all_above l.bounds (hs ++ ks.parts) pairs in
        compatible_below l.bounds s.learned (join_all T.empty T.join hs) z
        (ks.least z (λ x m. above x (among_right hs ks.parts x m)))
        (join_all_least l.bounds hs z (λ x m. above x (among_left hs ks.parts x m)))

    abbrev next : Learner T
    next = record { votes = f; learned = learned_with T s.learned (all_joined T.empty T.join hs); taken = taken }

    left : T.prefix s.learned next.learned
    left = learned_extends l s.learned hs

    right : IsUpperBound T.prefix next.learned hs
    right = learned_above l s.learned hs agree hs_above

    next_keeps : LearnerFacts T G next
    next_keeps = record {
      taken_cast = taken_cast;
      held_taken = held_taken;
      taken_held = taken_held;
      parts = hs ++ ks.parts;
      heard = all_heard;
      above = λ x m. elim (among_append hs ks.parts x m) [ inl n ↦ right x n | inr n ↦ l.bounds.transitive x s.learned next.learned (ks.above x n) left ];
      least = λ z b. learned_least l s.learned hs z (ks.least z (λ x m. b x (among_right hs ks.parts x m))) (λ x m. b x (among_left hs ks.parts x m));
      whole_learned = λ j u m. elim (l.order.total r j) [
        | inl e ↦ elsewhere j (λ h. l.order.irreflexive j (subst (λ (i : T.Round). T.earlier i j ≡ true) h e)) u m
        | inr z ↦ elim z [
          | inl e ↦ right u (subst (λ (i : T.Round). Among (T.acceptor_meets i (f i)) u) (sym e) m)
          | inr e ↦ elsewhere j (λ h. l.order.irreflexive j (subst (λ (i : T.Round). T.earlier j i ≡ true) h e)) u m
        ]
      ];
    }
      where
        elsewhere : (j : T.Round) → (r ≡ j → ⊥) → (u : T.Value) → Among (T.acceptor_meets j (f j)) u → T.prefix u next.learned
        elsewhere j n u m = l.bounds.transitive u s.learned next.learned
            (ks.whole_learned j u (subst (λ (g : ℕ → Option T.Value). Among (T.acceptor_meets j g) u) (other_round j n) m)) left

  pub takes_after : (m : Message T) → Among w.sent m → Facts T leads (learner_now T w i (learner_take T s m))
  takes_after (Propose d) p = moves s ks (k.taken_sent i)
  takes_after (P1a r) p = moves s ks (k.taken_sent i)
  takes_after (P1b r b q v) p = moves s ks (k.taken_sent i)
  takes_after (P2a r c v) p = moves s ks (k.taken_sent i)
  takes_after (P2b r b v) p = cond_cases (λ (t : Learner T). Facts T leads (learner_now T w i t)) (nat_lt b T.acceptors) _ _
      (λ e. moves (next r b v p) (next_keeps r b v p) (taken_sent r b v p)) (λ e. moves s ks (k.taken_sent i))
