-- The choice from answers of a quorum of the first phase is safe.
use Rattle.std.proofs.Common.{◌≡◌, inl, inr, ◌<◌, ◌≤◌, ℕ, Bool, true, false, List, [], ◌∷◌, refl, sym, subst, arith}
use Rattle.gp_round.specs.Sets.{members}
use Rattle.gp_cstructs.specs.CStructs.{Among, Compatible, BoundLaws, join_all, ArePairwiseCompatible, IsUpperBound}
use Rattle.gp_cstructs.specs.Safety.{IsOrder, QuorumSizes, Choosable, Safe, Answered, IsTopRound, IsCounting, IsValueOf, AreCountingValues, IsChoice}
use Rattle.gp_cstructs.proofs.Lists.{bool_cases}
use Rattle.gp_cstructs.proofs.Subsets.{two_share, three_share, shrunk}
use Rattle.gp_cstructs.proofs.Bounds.{compatible_lower, compatible_below, join_all_above}

module _ {V : Type 0} {prefix : V → V → Type 0} {empty : V} {meet join : V → V → V} (l : BoundLaws prefix empty meet join)
    {Rd : Type 0} {lt : Rd → Rd → Type 0} (o : IsOrder lt)
    {fast : Rd → Bool} {n first : ℕ} {size : Rd → ℕ} (sizes : QuorumSizes fast n first size)
    (votes : ℕ → Rd → V → Type 0) (past : ℕ → Rd → Type 0)
    (r : Rd) (Q : ℕ → Bool) (q : ℕ → Rd) (v : ℕ → V)
    (enough : first ≤ members Q n)
    (answers : (a : ℕ) → a < n → Q a ≡ true → Answered lt prefix votes past r a (q a) (v a))
    (k : Rd) (top : IsTopRound lt n Q q k)
    (safe_votes : (a : ℕ) (j : Rd) (w : V) → votes a j w → Safe lt prefix n size votes past w j)
    (classic : fast k ≡ false → (a b : ℕ) (x y : V) → votes a k x → votes b k y → Compatible prefix x y)
  where
    -- nothing may yet be chosen between k and r
    pub none_between : (j : Rd) → lt k j → lt j r → (x : V) → Choosable prefix n size votes past x j → ⊥
    none_between j kj jr x c =
        let s = two_share c.quorum Q n (omega (arith, c.enough, enough, sizes.with_first j)) in
        let t = answers s.0 s.1 s.3 in
        let d = c.covered s.0 s.1 s.2 (t.ended j jr) in
        let qj : lt (q s.0) j = elim (top.most s.0 s.1 s.3) [
          | inl e ↦ o.transitive (q s.0) k j e kj
          | inr e ↦ subst (λ (i : Rd). lt i j) (sym e) kj
        ] in
        t.none j qj jr d.vote d.cast

    -- who answered k voted what it says at k
    pub cast_at : (a : ℕ) → a < n → Q a ≡ true → q a ≡ k → votes a k (v a)
    cast_at a i e f = subst (λ (j : Rd). votes a j (v a)) f (answers a i e).cast

    pub k_below : lt k r
    k_below = subst (λ (j : Rd). lt j r) top.there (answers top.who top.known top.inside).below

    -- a quorum at which x may yet be chosen at k counts, and its value has x as a prefix
    pub covers_answer : (x : V) (c : Choosable prefix n size votes past x k) (a : ℕ) → a < n → c.quorum a ≡ true → Q a ≡ true → (q a ≡ k) × prefix x (v a)
    covers_answer x c a i e f =
        let t = answers a i f in
        let d = c.covered a i e (t.ended k k_below) in
        let same : q a ≡ k = elim (top.most a i f) [
          | inl b ↦ absurd (t.none k b k_below d.vote d.cast)
          | inr b ↦ b
        ] in
        (same, l.transitive x d.vote (v a) d.above (t.last d.vote (subst (λ (j : Rd). votes a j d.vote) (sym same) d.cast)))

    pub some_counts : (x : V) → Choosable prefix n size votes past x k
        → (R : ℕ → Bool) × IsCounting n size Q q k R × ((a : ℕ) → a < n → R a ≡ true → Q a ≡ true → prefix x (v a))
    some_counts x c =
        let s = shrunk c.quorum n (size k) c.enough in (
          s.0,
          record { enough = s.1; all_there = λ a i e f. (covers_answer x c a i (s.2 a e) f).0 },
          λ a i e f. (covers_answer x c a i (s.2 a e) f).1,
        )

    -- the values of two sets that count are compatible
    pub values_agree : (R S : ℕ → Bool) (x y : V) → IsCounting n size Q q k R → IsCounting n size Q q k S
        → IsValueOf prefix n Q v R x → IsValueOf prefix n Q v S y → Compatible prefix x y
    values_agree R S x y cr cs ix iy = elim (bool_cases (fast k)) [
      | inl f ↦
          let h = sizes.fast_twice k f in
          let s = three_share R S Q n (omega (arith, cr.enough, cs.enough, enough, h)) in
          compatible_below l x y (v s.0) (ix.below s.0 s.1 s.2 s.4) (iy.below s.0 s.1 s.3 s.4)
      | inr f ↦
          let s = two_share R Q n (omega (arith, cr.enough, enough, sizes.with_first k)) in
          let t = two_share S Q n (omega (arith, cs.enough, enough, sizes.with_first k)) in
          compatible_lower l (v s.0) (v t.0) x y (ix.below s.0 s.1 s.2 s.3) (iy.below t.0 t.1 t.2 t.3)
          (classic f s.0 t.0 (v s.0) (v t.0)
          (cast_at s.0 s.1 s.3 (cr.all_there s.0 s.1 s.2 s.3))
          (cast_at t.0 t.1 t.3 (cs.all_there t.0 t.1 t.2 t.3)))
    ]

    pub values_in_pairs : (hs : List V) → AreCountingValues prefix n size Q q v k hs → ArePairwiseCompatible prefix hs
    values_in_pairs hs vs x y mx my =
        let a = vs.only x mx in
        let b = vs.only y my in
        values_agree a.0 b.0 x y a.1 b.1 a.2 b.2

    -- what may yet be chosen below k is a prefix of each vote at k, so of the value of each set that counts
    pub below_k : (j : Rd) → lt j k → (x : V) → Choosable prefix n size votes past x j → (a : ℕ) → a < n → Q a ≡ true → q a ≡ k → prefix x (v a)
    below_k j jk x c a i e f = safe_votes a k (v a) (cast_at a i e f) j jk x c

    -- the choice is safe at r
    pub choice_is_safe : (hs : List V) (p : V) → AreCountingValues prefix n size Q q v k hs → IsChoice empty join n Q q v k hs p → Safe lt prefix n size votes past p r
    choice_is_safe [] p vs (a, i, e, f, g) j jr x c = elim (o.total j k) [
      | inl jk ↦ subst (λ (z : V). prefix x z) g (below_k j jk x c a i e f)
      | inr s ↦ elim s [
        | inl same ↦
            let d = some_counts x (subst (λ (m : Rd). Choosable prefix n size votes past x m) same c) in
            absurd (let m = vs.each d.0 d.1 in elim m.1 [ ])
        | inr kj ↦ absurd (none_between j kj jr x c)
      ]
    ]
    choice_is_safe (h ∷ hs) p vs g j jr x c =
        let above : IsUpperBound prefix (join_all empty join (h ∷ hs)) (h ∷ hs) =
        join_all_above l (h ∷ hs) (values_in_pairs (h ∷ hs) vs) in
        let through = λ (m : V) (b : Among (h ∷ hs) m) (d : prefix x m). subst (λ (z : V). prefix x z) g (l.transitive x m (join_all empty join (h ∷ hs)) d (above m b)) in
        elim (o.total j k) [
          | inl jk ↦
              let b = vs.only h (inl refl) in
              through h (inl refl) (b.2.greatest x (λ a i e f. below_k j jk x c a i f (b.1.all_there a i e f)))
          | inr s ↦ elim s [
            | inl same ↦
                let d = some_counts x (subst (λ (m : Rd). Choosable prefix n size votes past x m) same c) in
                let m = vs.each d.0 d.1 in
                through m.0 m.1 (m.2.greatest x d.2)
            | inr kj ↦ absurd (none_between j kj jr x c)
          ]
        ]
