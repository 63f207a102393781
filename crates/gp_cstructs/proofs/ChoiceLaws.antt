-- The safe choice is made from the values of the quorums that count at the greatest round that was answered.
use Rattle.std.proofs.Common.{◌≡◌, ◌⊎◌, inl, inr, ◌<◌, ◌≤◌, ℕ, zero, suc, Bool, true, not, ◌&&◌, nat_eq, nat_lt, List, [], ◌∷◌, refl, sym, subst, ap, ◌∙◌, arith, Option, Some, None}
use Rattle.std.specs.Prelude.{unwrap_or}
use Rattle.std.proofs.lemmas.Bool.{eqb-true, eqb-false, not-true, ltb-false}
use Rattle.std.specs.Option.{option_or}
use Rattle.gp_round.specs.declared.round.Round.{Round}
use Rattle.gp_round.specs.Rounds.{earlier, same_round, round_zero}
use Rattle.gp_round.specs.Configs.{majority, quorum_size}
use Rattle.gp_round.specs.Sets.{bit, masks, members}
use Rattle.gp_round.proofs.Orders.{same_round_is, same_round_itself}
use Rattle.gp_cstructs.specs.CStructs.{BoundLaws, Operations, all_joined}
use Rattle.gp_cstructs.specs.Tables.{is_missing}
use Rattle.gp_cstructs.specs.Safety.{IsTopRound, IsValueOf, AreCountingValues, IsChoice}
use Rattle.gp_cstructs.specs.Lawful.{answers_by, IsMeet, IsSafeChoice}
use Rattle.gp_cstructs.specs.Choice.{raised_by, top_round, vote_at, votes_at, lowest, counting_values}
use Rattle.gp_cstructs.specs.Protocol.{protocol, is_enough}
use Rattle.gp_cstructs.proofs.Lists.{bool_cases, cond_cases, and_split, and_both}
use Rattle.gp_cstructs.proofs.Subsets.{two_share, set_mask, kept_size}
use Rattle.gp_cstructs.proofs.Orders.{rounds_order, zero_least, sizes_meet}
use Rattle.gp_cstructs.proofs.QuorumMeets.{meets_only, meets_each}

-- ---- what an answer says

module _ {V : Type 0} (empty : V) where
  vote_tells : (k : Round) (o : Option (Round × V)) (v : V) → vote_at k o ≡ Some v → (not (is_missing o) ≡ true) × ((unwrap_or o (round_zero, empty)).0 ≡ k) × ((unwrap_or o (round_zero, empty)).1 ≡ v)
  vote_tells k None v e = absurd (cc)
  vote_tells k (Some (q, x)) v e = elim (bool_cases (same_round q k)) [
    | inl b ↦ (refl, same_round_is q k b, (let f = rw b at e in cc))
    | inr b ↦ absurd (let f = rw b at e in cc)
  ]

  vote_told : (k : Round) (o : Option (Round × V)) → not (is_missing o) ≡ true → (unwrap_or o (round_zero, empty)).0 ≡ k → vote_at k o ≡ Some (unwrap_or o (round_zero, empty)).1
  vote_told k None t e = absurd (cc)
  vote_told k (Some (q, x)) t e =
      let b : same_round q k ≡ true = subst (λ (i : Round). same_round q i ≡ true) e (same_round_itself q) in
      rw b refl

-- ---- the lowest that has a value

last_or_before : (n i : ℕ) → i < suc n → (i ≡ n) ⊎ (i < n)
last_or_before n i h = elim (bool_cases (nat_eq i n)) [ inl e ↦ inl (eqb-true i n e) | inr e ↦ inr (let d = eqb-false i n e in omega (arith, d)) ]

lowest_by : {V : Type 0} (f : ℕ → Option V) (n : ℕ) (o p : Option V) → f n ≡ p → ((v : V) → o ≡ Some v → (j : ℕ) × (j < n) × (f j ≡ Some v)) → (x : V) → option_or o p ≡ Some x → (j : ℕ) × (j < suc n) × (f j ≡ Some x)
lowest_by f n None p g before x h = (n, omega arith, g ∙ h)
lowest_by f n (Some v) p g before x h = let b = before v refl in (b.0, omega (arith, b.1), b.2 ∙ h)

-- the lowest is that of some number below n
lowest_from : {V : Type 0} (f : ℕ → Option V) (n : ℕ) (x : V) → lowest f n ≡ Some x → (j : ℕ) × (j < n) × (f j ≡ Some x)
lowest_from f zero x h = absurd (cc)
lowest_from f (suc n) x h = lowest_by f n (lowest f n) (f n) refl (λ v e. lowest_from f n v e) x h

first_there : {V : Type 0} (o p : Option V) (v : V) → p ≡ Some v → (x : V) × (option_or o p ≡ Some x)
first_there None p v e = (v, e)
first_there (Some u) p v e = (u, refl)

first_kept : {V : Type 0} (o p : Option V) (x : V) → o ≡ Some x → (y : V) × (option_or o p ≡ Some y)
first_kept None p x e = absurd (cc)
first_kept (Some u) p x e = (u, refl)

-- there is a lowest where some number below n has a value
lowest_there : {V : Type 0} (f : ℕ → Option V) (n i : ℕ) (v : V) → i < n → f i ≡ Some v → (x : V) × (lowest f n ≡ Some x)
lowest_there f zero i v h e = absurd (omega (arith, h))
lowest_there f (suc n) i v h e = elim (last_or_before n i h) [
  | inl s ↦ first_there (lowest f n) (f n) v (sym (ap f s) ∙ e)
  | inr b ↦ let r = lowest_there f n i v b e in first_kept (lowest f n) (f n) r.0 r.1
]

-- ---- the top round

module _ {V : Type 0} where
  -- the top round is the greatest, and some answer has it
  record Top (f : ℕ → Option (Round × V)) (n : ℕ) (k : Round) : Type 0 where
    most : (i : ℕ) (q : Round) (v : V) → i < n → f i ≡ Some (q, v) → earlier k q ≡ true → ⊥
    at : (k ≡ round_zero) ⊎ ((j : ℕ) × (x : V) × (j < n) × (f j ≡ Some (k, x)))

  top_is : (f : ℕ → Option (Round × V)) (n : ℕ) → Top f n (top_round f n)
  top_is f zero = record { most = λ i q v h. absurd (omega arith); at = inl refl }
  top_is f (suc n) = by_last (f n) refl (top_is f n)
    where
      by_last : (o : Option (Round × V)) → f n ≡ o → Top f n (top_round f n) → Top f (suc n) (raised_by (top_round f n) o)
      by_last None g t = record {
        most = λ i q v h e. elim (last_or_before n i h) [ inl s ↦ absurd (let u = ap f s in cc) | inr b ↦ t.most i q v b e ];
        at = elim t.at [ inl z ↦ inl z | inr r ↦ inr (r.0, r.1, omega (arith, r.2), r.3) ];
      }
      by_last (Some (p, x)) g t = cond_cases (λ (k : Round). Top f (suc n) k) (earlier (top_round f n) p) p (top_round f n)
          (λ b. record {
            most = λ i q v h e c. elim (last_or_before n i h) [
              | inl s ↦ let u = ap f s in rounds_order.irreflexive q (subst (λ (j : Round). earlier j q ≡ true) (let w : ◌≡◌ {A = Round × V} (p, x) (q, v) = cc in ap (λ (y : Round × V). y.0) w) c)
              | inr d ↦ t.most i q v d e (rounds_order.transitive (top_round f n) p q b c)
            ];
            at = inr (n, x, omega arith, g);
          })
          (λ b. record {
            most = λ i q v h e c. elim (last_or_before n i h) [
              | inl s ↦ let u = ap f s in let w : ◌≡◌ {A = Round × V} (p, x) (q, v) = cc in
                  let z = subst (λ (j : Round). earlier (top_round f n) j ≡ true) (sym (ap (λ (y : Round × V). y.0) w)) c in absurd (cc)
              | inr d ↦ t.most i q v d e c
            ];
            at = elim t.at [ inl z ↦ inl z | inr r ↦ inr (r.0, r.1, omega (arith, r.2), r.3) ];
          })

-- ---- the choice

module _ {V : Type 0} {prefix : V → V → Type 0} {empty : V} {meet join : V → V → V} (l : BoundLaws prefix empty meet join)
    (n : ℕ) (some : 0 < n) (f : ℕ → Option (Round × V)) (many : majority n ≤ members (answers_by f) n)
  where
    abbrev k : Round
    k = top_round f n

    abbrev q : ℕ → Round
    q i = (unwrap_or (f i) (round_zero, empty)).0

    abbrev v : ℕ → V
    v i = (unwrap_or (f i) (round_zero, empty)).1

    back : (i : ℕ) (o : Option (Round × V)) → f i ≡ o → not (is_missing o) ≡ true → f i ≡ Some ((unwrap_or o (round_zero, empty)).0, (unwrap_or o (round_zero, empty)).1)
    back i None e t = absurd (cc)
    back i (Some a) e t = e

    at_round : (i : ℕ) (p : Round) (x : V) → f i ≡ Some (p, x) → (answers_by f i ≡ true) × (q i ≡ p)
    at_round i p x e = (ap (λ (o : Option (Round × V)). not (is_missing o)) e, ap (λ (o : Option (Round × V)). (unwrap_or o (round_zero, empty)).0) e)

    not_above : (i : ℕ) → i < n → answers_by f i ≡ true → (earlier (q i) k ≡ true) ⊎ (q i ≡ k)
    not_above i h t = elim (rounds_order.total (q i) k) [
      | inl e ↦ inl e
      | inr s ↦ elim s [ inl e ↦ inr e | inr e ↦ absurd ((top_is f n).most i (q i) (v i) h (back i (f i) refl t) e) ]
    ]

    is_top : IsTopRound (λ i j. earlier i j ≡ true) n (answers_by f) q k
    is_top = elim (top_is f n).at [
      | inl z ↦
          let s = two_share (answers_by f) (answers_by f) n (omega (arith, many)) in
          record {
            who = s.0;
            known = s.1;
            inside = s.2;
            there = elim (not_above s.0 s.1 s.2) [ inl e ↦ absurd (zero_least (q s.0) (subst (λ (j : Round). earlier (q s.0) j ≡ true) z e)) | inr e ↦ e ];
            most = not_above;
          }
      | inr r ↦
          let a = at_round r.0 k r.1 r.3 in
          record { who = r.0; known = r.2; inside = a.0; there = a.1; most = not_above }
    ]

    is_value : (R : ℕ → Bool) (m : ℕ) → ((i : ℕ) → i < n → bit m i ≡ R i) → (x : V) → IsMeet prefix n (votes_at k f) (λ i. bit m i && answers_by f i) x → IsValueOf prefix n (answers_by f) v R x
    is_value R m same x t = record {
      below = λ i a b c.
          let r = t.all i a (and_both (bit m i) (answers_by f i) (same i a ∙ b) c) in
          subst (λ (y : V). prefix x y) (sym (vote_tells empty k (f i) r.0 r.1).2) r.2;
      greatest = λ z h. t.greatest z (λ i y a b e.
          let p = and_split (bit m i) (answers_by f i) b in
          subst (λ (u : V). prefix z u) (vote_tells empty k (f i) y e).2 (h i a (sym (same i a) ∙ p.0) p.1));
    }

    values_are : AreCountingValues prefix n (λ r. quorum_size n r.mode) (answers_by f) q v k (counting_values meet n f k)
    values_are = record {
      each = λ R c.
          let m = set_mask R n (quorum_size n k.mode) c.enough in
          let s = two_share R (answers_by f) n (omega (arith, c.enough, many, (sizes_meet n some).with_first k)) in
          let held : (i : ℕ) → i < n → (bit m.0 i && answers_by f i) ≡ true → (y : V) × (votes_at k f i ≡ Some y) = λ i a b.
          let p = and_split (bit m.0 i) (answers_by f i) b in
          (v i, vote_told empty k (f i) p.1 (c.all_there i a (sym (m.2 i a) ∙ p.0) p.1)) in
          let r = meets_each l (votes_at k f) (answers_by f) n (masks n (quorum_size n k.mode)) m.0 m.1 held s.0 s.1 (and_both (bit m.0 s.0) (answers_by f s.0) (m.2 s.0 s.1 ∙ s.2) s.3) in
          (r.0, r.1, is_value R m.0 m.2 r.0 r.2);
      only = λ x p.
          let r = meets_only l (votes_at k f) (answers_by f) n (masks n (quorum_size n k.mode)) x p in (
            bit r.0,
            record {
              enough = kept_size n (quorum_size n k.mode) r.0 r.1;
              all_there = λ i a b c. let y = r.2.all i a (and_both (bit r.0 i) (answers_by f i) b c) in (vote_tells empty k (f i) y.0 y.1).1;
            },
            is_value (bit r.0) r.0 (λ i a. refl) x r.2,
          );
    }

    by_list : (hs : List V) → IsChoice empty join n (answers_by f) q v k hs (unwrap_or (option_or (all_joined empty join hs) (lowest (votes_at k f) n)) empty)
    by_list [] =
        let t = is_top in
        let there = lowest_there (votes_at k f) n t.who (v t.who) t.known (vote_told empty k (f t.who) t.inside t.there) in
        let a = lowest_from (votes_at k f) n there.0 there.1 in
        let b = vote_tells empty k (f a.0) there.0 a.2 in
        (a.0, a.1, b.0, b.1, b.2 ∙ sym (ap (λ (o : Option V). unwrap_or o empty) there.1))
    by_list (h ∷ hs) = refl

pub choices_are : {V C D : Type 0} (o : Operations V C D) (l : BoundLaws o.prefix o.empty o.meet o.join) (a c : ℕ) → 0 < a → (f : ℕ → Option (Round × V)) → is_enough a f ≡ true → IsSafeChoice (protocol o a c) f
choices_are o l a c some f e =
    let many : majority a ≤ members (answers_by f) a = ltb-false (members (answers_by f) a) (majority a) (not-true (nat_lt (members (answers_by f) a) (majority a)) e) in
    record {
      top = top_round f a;
      values = counting_values o.meet a f (top_round f a);
      many = many;
      is_top = is_top l a some f many;
      are_values = values_are l a some f many;
      is_choice = by_list l a some f many (counting_values o.meet a f (top_round f a));
    }
