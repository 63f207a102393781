-- The meets over masks are the meets over sets of members that all have a value.
use Rattle.std.proofs.Common.{◌≡◌, inl, inr, ◌<◌, ℕ, zero, suc, Bool, true, false, cond, ◌&&◌, nat_eq, List, [], ◌∷◌, refl, sym, subst, ap, ◌∙◌, arith, Option, Some, None}
use Rattle.std.proofs.lemmas.Bool.{eqb-true, eqb-false}
use Rattle.gp_round.specs.Sets.{bit}
use Rattle.gp_cstructs.specs.CStructs.{Among, BoundLaws}
use Rattle.gp_cstructs.specs.Lawful.{IsMeet}
use Rattle.gp_cstructs.specs.Meets.{with_one, gathered, if_whole, add_meet, quorum_meets}
use Rattle.gp_cstructs.proofs.Lists.{bool_cases}

last_out : (p : ℕ → Bool) (n i : ℕ) → i < suc n → p i ≡ true → p n ≡ false → i < n
last_out p n i h b e = elim (bool_cases (nat_eq i n)) [
  | inl q ↦ absurd (let c = ap p (eqb-true i n q) in cc)
  | inr q ↦ let d = eqb-false i n q in omega (arith, d)
]

module _ {V : Type 0} {prefix : V → V → Type 0} {empty : V} {meet join : V → V → V} (l : BoundLaws prefix empty meet join) where
  -- what a gathering of the members of p below n tells
  abbrev Tells : (ℕ → Option V) → (ℕ → Bool) → ℕ → Option (Option V) → Type 0
  Tells f p n None = (i : ℕ) × (i < n) × (p i ≡ true) × (f i ≡ None)
  Tells f p n (Some None) = (i : ℕ) → i < n → p i ≡ true → ⊥
  Tells f p n (Some (Some m)) = IsMeet prefix n f p m

  wider : (f : ℕ → Option V) (p : ℕ → Bool) (n : ℕ) (g : Option (Option V)) → p n ≡ false → Tells f p n g → Tells f p (suc n) g
  wider f p n None e (i, a, b, c) = (i, omega arith, b, c)
  wider f p n (Some None) e t = λ i a b. t i (last_out p n i a b e) b
  wider f p n (Some (Some m)) e t = record {
    all = λ i a b. t.all i (last_out p n i a b e) b;
    greatest = λ z h. t.greatest z (λ i v a b c. h i v (omega arith) b c);
  }

  with_more : (f : ℕ → Option V) (p : ℕ → Bool) (n : ℕ) (o : Option V) (g : Option (Option V)) → f n ≡ o → p n ≡ true → Tells f p n g → Tells f p (suc n) (with_one meet o g)
  with_more f p n None g e b t = (n, omega arith, b, e)
  with_more f p n (Some v) None e b (i, a, c, d) = (i, omega arith, c, d)
  with_more f p n (Some v) (Some None) e b t = record {
    all = λ i a c. elim (bool_cases (nat_eq i n)) [
      | inl q ↦ let s = eqb-true i n q in (v, ap f s ∙ e, l.reflexive v)
      | inr q ↦ absurd (let d = eqb-false i n q in t i (omega (arith, d)) c)
    ];
    greatest = λ z h. h n v (omega arith) b e;
  }
  with_more f p n (Some v) (Some (Some m)) e b t = record {
    all = λ i a c. elim (bool_cases (nat_eq i n)) [
      | inl q ↦ let s = eqb-true i n q in (v, ap f s ∙ e, l.meet_right m v)
      | inr q ↦
          let d = eqb-false i n q in
          let x = t.all i (omega (arith, d)) c in
          (x.0, x.1, l.transitive (meet m v) m x.0 (l.meet_left m v) x.2)
    ];
    greatest = λ z h. l.meet_greatest m v z (t.greatest z (λ i x a c d. h i x (omega arith) c d)) (h n v (omega arith) b e);
  }

  gathered_tells : (f : ℕ → Option V) (p : ℕ → Bool) (n : ℕ) → Tells f p n (gathered meet f p n)
  gathered_tells f p zero = λ i a b. omega arith
  gathered_tells f p (suc n) =
      let r = gathered_tells f p n in
      elim (bool_cases (p n)) [
        | inl e ↦ subst (λ (b : Bool). Tells f p (suc n) (cond b (with_one meet (f n) (gathered meet f p n)) (gathered meet f p n))) (sym e) (with_more f p n (f n) (gathered meet f p n) refl e r)
        | inr e ↦ subst (λ (b : Bool). Tells f p (suc n) (cond b (with_one meet (f n) (gathered meet f p n)) (gathered meet f p n))) (sym e) (wider f p n (gathered meet f p n) e r)
      ]

  -- each value of the list is the meet over one of the masks
  pub meets_only : (f : ℕ → Option V) (w : ℕ → Bool) (n : ℕ) (ms : List ℕ) (x : V) → Among (quorum_meets meet f w n ms) x
      → (m : ℕ) × Among ms m × IsMeet prefix n f (λ i. bit m i && w i) x
  meets_only f w n [] x p = elim p [ ]
  meets_only f w n (m ∷ ms) x p = at_head (gathered meet f (λ i. bit m i && w i) n) (gathered_tells f (λ i. bit m i && w i) n) (λ q. let r = meets_only f w n ms x q in (r.0, inr r.1, r.2)) p
    where
      at_head : (g : Option (Option V)) → Tells f (λ i. bit m i && w i) n g
          → (Among (quorum_meets meet f w n ms) x → (k : ℕ) × Among (m ∷ ms) k × IsMeet prefix n f (λ i. bit k i && w i) x)
          → Among (add_meet (if_whole g) (quorum_meets meet f w n ms)) x
          → (k : ℕ) × Among (m ∷ ms) k × IsMeet prefix n f (λ i. bit k i && w i) x
      at_head None t later q = later q
      at_head (Some None) t later q = later q
      at_head (Some (Some y)) t later q = elim q [
        | inl e ↦ (m, inl refl, subst (λ (z : V). IsMeet prefix n f (λ i. bit m i && w i) z) e t)
        | inr r ↦ later r
      ]

  -- each mask with a member, whose members all have a value, gives its meet
  pub meets_each : (f : ℕ → Option V) (w : ℕ → Bool) (n : ℕ) (ms : List ℕ) (m : ℕ) → Among ms m
      → ((i : ℕ) → i < n → (bit m i && w i) ≡ true → (v : V) × (f i ≡ Some v)) → (i : ℕ) → i < n → (bit m i && w i) ≡ true
      → (x : V) × Among (quorum_meets meet f w n ms) x × IsMeet prefix n f (λ j. bit m j && w j) x
  meets_each f w n [] m p h i a b = elim p [ ]
  meets_each f w n (y ∷ ms) m p h i a b = elim p [
    | inl e ↦ here e (gathered meet f (λ j. bit y j && w j) n) (gathered_tells f (λ j. bit y j && w j) n)
    | inr q ↦ let r = meets_each f w n ms m q h i a b in (r.0, skips (if_whole (gathered meet f (λ j. bit y j && w j) n)) r.0 r.1, r.2)
  ]
    where
      skips : (o : Option V) (x : V) → Among (quorum_meets meet f w n ms) x → Among (add_meet o (quorum_meets meet f w n ms)) x
      skips None x q = q
      skips (Some z) x q = inr q

      here : y ≡ m → (g : Option (Option V)) → Tells f (λ j. bit y j && w j) n g → (x : V) × Among (add_meet (if_whole g) (quorum_meets meet f w n ms)) x × IsMeet prefix n f (λ j. bit m j && w j) x
      here e None (j, c, d, k) = absurd (
          let s = h j c (subst (λ (z : ℕ). (bit z j && w j) ≡ true) e d) in
          let t = s.1 in cc)
      here e (Some None) t = absurd (t i a (subst (λ (z : ℕ). (bit z i && w i) ≡ true) (sym e) b))
      here e (Some (Some z)) t = (z, inl refl, subst (λ (k : ℕ). IsMeet prefix n f (λ j. bit k j && w j) z) e t)

-- a meet over a set is one over any set with the same members below n
pub meet_same : {V : Type 0} (prefix : V → V → Type 0) (f : ℕ → Option V) (n : ℕ) (p q : ℕ → Bool) → ((i : ℕ) → i < n → p i ≡ q i) → (x : V) → IsMeet prefix n f p x → IsMeet prefix n f q x
meet_same prefix f n p q s x t = record {
  all = λ i a b. t.all i a (s i a ∙ b);
  greatest = λ z h. t.greatest z (λ i v a b c. h i v a (sym (s i a) ∙ b) c);
}
