-- The facts are kept by each growth.
use Rattle.std.specs.Prelude.{unwrap_or}
use Rattle.std.proofs.Common.{◌≡◌, inl, inr, ℕ, Bool, true, false, List, ◌++◌, refl, sym, subst, Option, Some, None, not}
use Rattle.gp_cstructs.specs.CStructs.{Among, Compatible, ArePairwiseCompatible, IsUpperBound, join_all}
use Rattle.gp_cstructs.specs.Tables.{Tables, is_missing}
use Rattle.gp_cstructs.specs.Safety.{Choosable, Answered}
use Rattle.gp_cstructs.specs.Lawful.{IsLawful, answers_by, round_in, vote_in}
use Rattle.gp_cstructs.specs.Facts.{Ledger, IsPast, IsSafe, IsBacked, IsJoined, AnswerFacts, LedgerFacts}
use Rattle.gp_cstructs.proofs.Lists.{among_append, among_left, among_right}
use Rattle.gp_cstructs.proofs.Bounds.{compatible_below, join_all_above}
use Rattle.gp_cstructs.proofs.SafeChoices.{choice_is_safe}
use Rattle.gp_cstructs.proofs.Turns.{Grows}

module _ {T : Tables} {leads : T.Round → (ℕ → Bool) → Type 0} (l : IsLawful T leads) where
  -- i < j and j ≤ k
  pub lt_le : (i j k : T.Round) → T.earlier i j ≡ true → (T.earlier k j ≡ true → ⊥) → T.earlier i k ≡ true
  lt_le i j k a b = elim (l.order.total j k) [
    | inl e ↦ l.order.transitive i j k a e
    | inr s ↦ elim s [
      | inl e ↦ subst (λ (m : T.Round). T.earlier i m ≡ true) e a
      | inr e ↦ absurd (b e)
    ]
  ]

  -- i ≤ j and j < k
  pub le_lt : (i j k : T.Round) → (T.earlier j i ≡ true → ⊥) → T.earlier j k ≡ true → T.earlier i k ≡ true
  le_lt i j k a b = elim (l.order.total i j) [
    | inl e ↦ l.order.transitive i j k e b
    | inr s ↦ elim s [
      | inl e ↦ subst (λ (m : T.Round). T.earlier m k ≡ true) (sym e) b
      | inr e ↦ absurd (a e)
    ]
  ]

  pub le_le : (i j k : T.Round) → (T.earlier j i ≡ true → ⊥) → (T.earlier k j ≡ true → ⊥) → T.earlier k i ≡ true → ⊥
  le_le i j k a b h = b (lt_le k i j h a)

  -- what may yet be chosen could be so before
  pub choosable_back : (G K : Ledger T) → Grows T leads G K → (x : T.Value) (j : T.Round)
      → Choosable T.prefix T.acceptors T.quorum K.votes (IsPast T K) x j → Choosable T.prefix T.acceptors T.quorum G.votes (IsPast T G) x j
  choosable_back G K g x j c = record {
    quorum = c.quorum;
    enough = c.enough;
    covered = λ a i e p.
        let d = c.covered a i e (lt_le j (G.round a) (K.round a) p (g.rounds a)) in
        elim (g.votes_new a j d.vote d.cast) [
          | inl old ↦ record { vote = d.vote; cast = old; above = d.above }
          | inr new ↦ absurd (new.fresh p)
        ];
  }

  pub safe_on : (G K : Ledger T) → Grows T leads G K → (x : T.Value) (r : T.Round) → IsSafe T G x r → IsSafe T K x r
  safe_on G K g x r s j b y c = s j b y (choosable_back G K g y j c)

  pub backed_on : (G K : Ledger T) → Grows T leads G K → (r : T.Round) (u : T.Value) → IsBacked T leads G r u → IsBacked T leads K r u
  backed_on G K g r u b = record {
    quorum = b.quorum;
    is_quorum = b.is_quorum;
    each = λ c i e. let x = b.each c i e in (x.0, g.values_kept c r x.0 x.1, x.2);
  }

  pub joined_on : (G K : Ledger T) → Grows T leads G K → (r : T.Round) (w : T.Value) → IsJoined T leads G r w → IsJoined T leads K r w
  joined_on G K g r w b = record {
    parts = b.parts;
    backed = λ u m. backed_on G K g r u (b.backed u m);
    above = b.above;
    least = b.least;
  }

  pub answer_on : (G K : Ledger T) → Grows T leads G K → (r : T.Round) (a : ℕ) (q : T.Round) (v : T.Value) → AnswerFacts T G r a q v → AnswerFacts T K r a q v
  answer_on G K g r a q v t = record {
    below = t.below;
    reached = le_le r (G.round a) (K.round a) t.reached (g.rounds a);
    cast = g.votes_kept a q v t.cast;
    last = λ w c. elim (g.votes_new a q w c) [
      | inl old ↦ t.last w old
      | inr new ↦ absurd (new.fresh (lt_le q r (G.round a) t.below t.reached))
    ];
    none = λ j b d w c. elim (g.votes_new a j w c) [
      | inl old ↦ t.none j b d w old
      | inr new ↦ absurd (new.fresh (lt_le j r (G.round a) d t.reached))
    ];
  }

  -- each growth of the ledger keeps its facts
  pub keeps : (G K : Ledger T) → Grows T leads G K → LedgerFacts T leads G → LedgerFacts T leads K
  keeps G K g h = record {
    votes_chain = λ a r x y p q.
        elim (g.votes_new a r x p) [
          | inl op ↦ elim (g.votes_new a r y q) [
            | inl oq ↦ h.votes_chain a r x y op oq
            | inr nq ↦ inl (nq.top x p)
          ]
          | inr np ↦ inr (np.top y q)
        ];
    votes_reached = λ a r x p.
        elim (g.votes_new a r x p) [
          | inl old ↦ le_le r (G.round a) (K.round a) (h.votes_reached a r x old) (g.rounds a)
          | inr new ↦ new.reached
        ];
    votes_safe = λ a r x p.
        elim (g.votes_new a r x p) [
          | inl old ↦ safe_on G K g x r (h.votes_safe a r x old)
          | inr new ↦ safe_on G K g x r new.safe
        ];
    votes_joined = λ a r x p f.
        elim (g.votes_new a r x p) [
          | inl old ↦ elim (h.votes_joined a r x old f) [
            | inl z ↦ inl z
            | inr j ↦ inr (joined_on G K g r x j)
          ]
          | inr new ↦ inr (new.joined f)
        ];
    values_chain = λ c r x y p q.
        elim (g.values_new c r x p) [
          | inl op ↦ elim (g.values_new c r y q) [
            | inl oq ↦ h.values_chain c r x y op oq
            | inr nq ↦ inl (nq.top x p)
          ]
          | inr np ↦ inr (np.top y q)
        ];
    values_late = λ c r x p.
        elim (g.values_new c r x p) [
          | inl old ↦ h.values_late c r x old
          | inr new ↦ new.late
        ];
    values_safe = λ c r x p.
        elim (g.values_new c r x p) [
          | inl old ↦ safe_on G K g x r (h.values_safe c r x old)
          | inr new ↦ safe_on G K g x r new.safe
        ];
    answers_true = λ r a q v p.
        elim (g.answers_new r a q v p) [
          | inl old ↦ answer_on G K g r a q v (h.answers_true r a q v old)
          | inr new ↦ new
        ];
  }

  -- histories that two coordinator quorums of one round back are compatible
  pub backed_agree : (G : Ledger T) → LedgerFacts T leads G → (r : T.Round) (u w : T.Value) → IsBacked T leads G r u → IsBacked T leads G r w → Compatible T.prefix u w
  backed_agree G h r u w b d =
      let s = l.leaders_share r b.quorum d.quorum b.is_quorum d.is_quorum in
      let x = b.each s.0 s.1 s.2 in
      let y = d.each s.0 s.1 s.3 in
      elim (h.values_chain s.0 r x.0 y.0 x.1 y.1) [
        | inl e ↦ compatible_below l.bounds u w y.0 (l.bounds.transitive u x.0 y.0 x.2 e) y.2
        | inr e ↦ compatible_below l.bounds u w x.0 x.2 (l.bounds.transitive w y.0 x.0 y.2 e)
      ]

  pub all_backed_pairs : (G : Ledger T) → LedgerFacts T leads G → (r : T.Round) (hs : List T.Value) → ((u : T.Value) → Among hs u → IsBacked T leads G r u) → ArePairwiseCompatible T.prefix hs
  all_backed_pairs G h r hs b u w mu mw = backed_agree G h r u w (b u mu) (b w mw)

  -- so votes of one classic round are compatible
  pub joined_agree : (G : Ledger T) → LedgerFacts T leads G → (r : T.Round) (x y : T.Value) → IsJoined T leads G r x → IsJoined T leads G r y → Compatible T.prefix x y
  joined_agree G h r x y b d =
      let hs : List T.Value = b.parts ++ d.parts in
      let back : (u : T.Value) → Among hs u → IsBacked T leads G r u = λ u m. elim (among_append b.parts d.parts u m) [ inl p ↦ b.backed u p | inr p ↦ d.backed u p ] in
      let above : IsUpperBound T.prefix (join_all T.empty T.join hs) hs = join_all_above l.bounds hs (all_backed_pairs G h r hs back) in
      compatible_below l.bounds x y (join_all T.empty T.join hs)
      (b.least (join_all T.empty T.join hs) (λ u m. above u (among_left b.parts d.parts u m)))
      (d.least (join_all T.empty T.join hs) (λ u m. above u (among_right b.parts d.parts u m)))

  pub votes_agree : (G : Ledger T) → LedgerFacts T leads G → (r : T.Round) → T.fast r ≡ false → (a b : ℕ) (x y : T.Value) → G.votes a r x → G.votes b r y → Compatible T.prefix x y
  votes_agree G h r f a b x y p q = elim (h.votes_joined a r x p f) [
    | inl z ↦ compatible_below l.bounds x y y (l.bounds.transitive x T.empty y z.1 (l.bounds.empty_least y)) (l.bounds.reflexive y)
    | inr jx ↦ elim (h.votes_joined b r y q f) [
      | inl z ↦ compatible_below l.bounds x y x (l.bounds.reflexive x) (l.bounds.transitive y T.empty x z.1 (l.bounds.empty_least x))
      | inr jy ↦ joined_agree G h r x y jx jy
    ]
  ]

  pub answer_tells : (G : Ledger T) (r : T.Round) (a : ℕ) (o : Option (T.Round × T.Value)) → ((q : T.Round) (v : T.Value) → o ≡ Some (q, v) → AnswerFacts T G r a q v) → not (is_missing o) ≡ true
      → Answered (λ i j. T.earlier i j ≡ true) T.prefix G.votes (IsPast T G) r a (unwrap_or o (T.zero, T.empty)).0 (unwrap_or o (T.zero, T.empty)).1
  answer_tells G r a None k t = absurd (cc)
  answer_tells G r a (Some (q, v)) k t =
      let n = k q v refl in
      record {
        below = n.below;
        ended = λ j b. lt_le j r (G.round a) b n.reached;
        cast = n.cast;
        last = n.last;
        none = n.none;
      }

  -- the safe choice from answers of r is safe at r
  pub choice_holds : (G : Ledger T) → LedgerFacts T leads G → (r : T.Round) (f : ℕ → Option (T.Round × T.Value))
      → ((a : ℕ) (q : T.Round) (v : T.Value) → f a ≡ Some (q, v) → G.answers r a q v)
      → T.is_enough f ≡ true → IsSafe T G (T.safe_choice f) r
  choice_holds G h r f all e =
      let p = l.choices f e in
      choice_is_safe l.bounds l.order l.sizes
      G.votes (IsPast T G) r (answers_by f) (round_in T f) (vote_in T f) p.many
      (λ a i t. answer_tells G r a (f a) (λ q v z. h.answers_true r a q v (all a q v z)) t) p.top p.is_top (λ a j w c. h.votes_safe a j w c) (λ fs a b x y. votes_agree G h p.top fs a b x y) p.values (T.safe_choice f) p.are_values p.is_choice
