-- Each step of an acceptor keeps the facts.
use Rattle.std.proofs.Common.{◌≡◌, ◌⊎◌, inl, inr, ℕ, Bool, true, false, cond, not, ◌&&◌, ◌||◌, nat_lt, List, [], ◌∷◌, ◌++◌, refl, sym, subst, ap, ◌∙◌, Option, Some, None}
use Rattle.std.proofs.lemmas.Bool.{not-true}
use Rattle.gp_cstructs.specs.CStructs.{Among, Compatible, IsUpperBound, join_all, all_joined}
use Rattle.gp_cstructs.specs.Tables.{Tables, nothing, newer, Message, Propose, P1a, P1b, P2a, P2b}
use Rattle.gp_cstructs.specs.Acceptor.{Acceptor, acceptor_take, acceptor_fall, next_vote, with_vote, told_vote, voting, raised, holding}
use Rattle.gp_cstructs.specs.Loose.{System, acceptor_now}
use Rattle.gp_cstructs.specs.Lawful.{IsLawful}
use Rattle.gp_cstructs.specs.Facts.{Ledger, IsSafe, IsBacked, IsJoined, ledger_of, AcceptorFacts, Facts}
use Rattle.gp_cstructs.proofs.Lists.{bool_cases, cond_cases, and_split, set_cases, among_append, among_left, among_right}
use Rattle.gp_cstructs.proofs.Bounds.{join_all_above, join_all_least}
use Rattle.gp_cstructs.proofs.Turns.{Says, Silent, Answers, Votes, AcceptorTurn}
use Rattle.gp_cstructs.proofs.Growth.{le_lt, all_backed_pairs, joined_agree}
use Rattle.gp_cstructs.proofs.Moves.{acceptor_moves}

-- what is newer is the new value or what there was
newer_cases : (T : Tables) (o : Option T.Value) (v x : T.Value) → Some (newer T o v) ≡ Some x → (v ≡ x) ⊎ (o ≡ Some x)
newer_cases T None v x e = inl (cc)
newer_cases T (Some w) v x e = elim (bool_cases (nat_lt (T.size w) (T.size v))) [
  | inl b ↦ inl (let f : cond (nat_lt (T.size w) (T.size v)) v w ≡ x = cc in rw b at f)
  | inr b ↦ inr (let f : cond (nat_lt (T.size w) (T.size v)) v w ≡ x = cc in ap Some (rw b at f))
]

module _ {T : Tables} {leads : T.Round → (ℕ → Bool) → Type 0} (l : IsLawful T leads) (w : System T) (k : Facts T leads w) (a : ℕ) where
  abbrev G : Ledger T
  G = ledger_of T w

  abbrev s : Acceptor T
  s = w.acceptors a

  abbrev Turn : Acceptor T × Option (Message T) → Type 0
  Turn p = AcceptorTurn T leads G a s p.0 p.1

  ks : AcceptorFacts T G a s
  ks = k.acceptors a

  -- a state with the same vote
  kept_turn : (t : Acceptor T) → AcceptorFacts T G a t → (T.earlier t.round s.round ≡ true → ⊥) → t.voted ≡ s.voted → (m : Option (Message T)) → Says T a t m → AcceptorTurn T leads G a s t m
  kept_turn t kt up e m says = record {
    rises = up;
    voted_rises = λ h. l.order.irreflexive s.voted (subst (λ (i : T.Round). T.earlier i s.voted ≡ true) e h);
    voted_reached = kt.voted_reached;
    top = kt.vote_last;
    new = inl kt.vote_cast;
    held_sent = kt.held_sent;
    says = says;
  }

  pub same_turn : Turn (s, None)
  same_turn = kept_turn s ks (λ h. l.order.irreflexive s.round h) refl None Silent

  raise_keeps : (r : T.Round) → T.earlier s.round r ≡ true → AcceptorFacts T G a (record { round = r; voted = s.voted; vote = s.vote; held = nothing })
  raise_keeps r b = record {
    voted_reached = λ h. ks.voted_reached (l.order.transitive s.round r s.voted b h);
    vote_cast = ks.vote_cast;
    vote_last = ks.vote_last;
    none_above = ks.none_above;
    held_sent = λ c v e. absurd (cc);
  }

  p1a_turn : (r : T.Round) → Turn (acceptor_take T a s (P1a r))
  p1a_turn r = cond_cases Turn (T.earlier s.round r)
      (record { round = r; voted = s.voted; vote = s.vote; held = nothing }, Some (P1b r a s.voted s.vote)) (s, None)
      (λ b. kept_turn (record { round = r; voted = s.voted; vote = s.vote; held = nothing }) (raise_keeps r b)
      (λ h. l.order.irreflexive r (l.order.transitive r s.round r h b)) refl (Some (P1b r a s.voted s.vote)) (Answers (le_lt l s.voted s.round r ks.voted_reached b)))
      (λ b. same_turn)

  propose_turn : (d : T.Command) → Turn (acceptor_take T a s (Propose d))
  propose_turn d = cond_cases Turn (T.same s.voted s.round && T.fast s.round && not (T.has s.vote d))
      (record { round = s.round; voted = s.voted; vote = T.push s.vote d; held = s.held }, Some (P2b s.round a (T.push s.vote d))) (s, None)
      (λ b.
      let p = and_split (T.same s.voted s.round && T.fast s.round) (not (T.has s.vote d)) b in
      let q = and_split (T.same s.voted s.round) (T.fast s.round) p.0 in
      let e : s.voted ≡ s.round = l.same_tells s.voted s.round q.0 in
      record {
        rises = λ h. l.order.irreflexive s.round h;
        voted_rises = λ h. l.order.irreflexive s.voted h;
        voted_reached = ks.voted_reached;
        top = λ y c. l.bounds.transitive y s.vote (T.push s.vote d) (ks.vote_last y c) (l.push_extends s.vote d);
        held_sent = ks.held_sent;
        new = inr (record {
          fresh = λ h. l.order.irreflexive s.round (subst (λ (i : T.Round). T.earlier i s.round ≡ true) e h);
          safe = λ j b x c. l.bounds.transitive x s.vote (T.push s.vote d) (k.ledger.votes_safe a s.voted s.vote ks.vote_cast j b x c) (l.push_extends s.vote d);
          joined = λ f. absurd (let g : T.fast s.voted ≡ true = ap T.fast e ∙ q.1 in cc);
        });
        says = Votes s.round e;
      })
      (λ b. same_turn)

  -- a state that is ready to vote: only the round and what is held have changed
  record Ready (t : Acceptor T) : Type 0 where
    keeps_it : AcceptorFacts T G a t
    up : T.earlier t.round s.round ≡ true → ⊥
    voted_same : t.voted ≡ s.voted

  raised_ready : (r : T.Round) → (T.earlier r s.round ≡ true → ⊥) → Ready (raised T s r) × ((raised T s r).round ≡ r)
  raised_ready r n = cond_cases (λ (t : Acceptor T). Ready t × (t.round ≡ r)) (T.earlier s.round r)
      (record { round = r; voted = s.voted; vote = s.vote; held = nothing }) s
      (λ b. (record { keeps_it = raise_keeps r b; up = λ h. l.order.irreflexive r (l.order.transitive r s.round r h b); voted_same = refl }, refl))
      (λ b. (
        record { keeps_it = ks; up = λ h. l.order.irreflexive s.round h; voted_same = refl },
        elim (l.order.total s.round r) [ inl e ↦ absurd (cc) | inr y ↦ elim y [ inl e ↦ e | inr e ↦ absurd (n e) ] ],
      ))

  holding_ready : (t : Acceptor T) → Ready t → (c : ℕ) (v : T.Value) → G.values c t.round v → Ready (holding T t c v)
  holding_ready t g c v p = record {
    keeps_it = record {
      voted_reached = g.keeps_it.voted_reached;
      vote_cast = g.keeps_it.vote_cast;
      vote_last = g.keeps_it.vote_last;
      none_above = g.keeps_it.none_above;
      held_sent = set_cases (λ (b : ℕ) (o : Option T.Value). (x : T.Value) → o ≡ Some x → G.values b t.round x) t.held c (Some (newer T (t.held c) v))
          (λ x e. elim (newer_cases T (t.held c) v x e) [
            | inl f ↦ subst (λ (y : T.Value). G.values c t.round y) f p
            | inr f ↦ g.keeps_it.held_sent c x f
          ])
          (λ b n x e. g.keeps_it.held_sent b x e);
    };
    up = g.up;
    voted_same = g.voted_same;
  }

  -- the meets of held values are backed and safe
  part_backed : (t : Acceptor T) → Ready t → (m : T.Value) → Among (T.coordinator_meets t.round t.held) m → IsBacked T leads G t.round m × IsSafe T G m t.round
  part_backed t g m p =
      let q = l.coordinator_meets_only t.round t.held m p in (
        record {
          quorum = q.0;
          is_quorum = q.1;
          each = λ c i e. let x = q.2.all c i e in (x.0, g.keeps_it.held_sent c x.0 x.1, x.2);
        },
        λ j b x c. q.2.greatest x (λ i v n e f. k.ledger.values_safe i t.round v (g.keeps_it.held_sent i v f) j b x c),
      )

  backed_late : (r : T.Round) (m : T.Value) → IsBacked T leads G r m → T.earlier T.zero r ≡ true
  backed_late r m b =
      let c = l.leaders_share r b.quorum b.quorum b.is_quorum b.is_quorum in
      let x = b.each c.0 c.1 c.2 in
      k.ledger.values_late c.0 r x.0 x.1

  -- after the vote u in its round
  vote_turn : (t : Acceptor T) → Ready t → (u : T.Value) → ((y : T.Value) → G.votes a t.round y → T.prefix y u) → IsSafe T G u t.round
      → (T.fast t.round ≡ false → IsJoined T leads G t.round u) → Turn (with_vote T t (Some u), told_vote T a t (Some u))
  vote_turn t g u top safe joined = record {
    rises = g.up;
    voted_rises = λ h. g.keeps_it.voted_reached (subst (λ (i : T.Round). T.earlier t.round i ≡ true) (sym g.voted_same) h);
    voted_reached = λ h. l.order.irreflexive t.round h;
    top = top;
    new = inr (record { fresh = g.up; safe = safe; joined = joined });
    held_sent = g.keeps_it.held_sent;
    says = cond_cases (λ (o : Option (Message T)). Says T a (with_vote T t (Some u)) o) (T.earlier t.voted t.round || nat_lt (T.size t.vote) (T.size u)) _ _ (λ b. Votes t.round refl) (λ b. Silent);
  }

  -- the join of its vote with what is agreed on in its round, which is not fast
  module _ (t : Acceptor T) (g : Ready t) (u : T.Value) (joined_u : IsJoined T leads G t.round u) (late : T.earlier T.zero t.round ≡ true)
      (e : t.voted ≡ t.round) (slow : T.fast t.round ≡ false)
    where
      cast : G.votes a t.round t.vote
      cast = subst (λ (i : T.Round). G.votes a i t.vote) e g.keeps_it.vote_cast

      joined_vote : IsJoined T leads G t.round t.vote
      joined_vote = elim (k.ledger.votes_joined a t.round t.vote cast slow) [
        | inl z ↦ absurd (l.order.irreflexive T.zero (subst (λ (i : T.Round). T.earlier T.zero i ≡ true) z.0 late))
        | inr j ↦ j
      ]

      agree : Compatible T.prefix t.vote u
      agree = joined_agree l G k.ledger t.round t.vote u joined_vote joined_u

      joined_both : IsJoined T leads G t.round (T.join t.vote u)
      joined_both = record {
        parts = joined_vote.parts ++ joined_u.parts;
        backed = λ x n. elim (among_append joined_vote.parts joined_u.parts x n) [ inl b ↦ joined_vote.backed x b | inr b ↦ joined_u.backed x b ];
        above = λ x n. elim (among_append joined_vote.parts joined_u.parts x n) [
          | inl b ↦ l.bounds.transitive x t.vote (T.join t.vote u) (joined_vote.above x b) (l.bounds.join_left t.vote u)
          | inr b ↦ l.bounds.transitive x u (T.join t.vote u) (joined_u.above x b) (l.bounds.join_right t.vote u agree)
        ];
        least = λ z b. l.bounds.join_least t.vote u z (joined_vote.least z (λ x n. b x (among_left joined_vote.parts joined_u.parts x n))) (joined_u.least z (λ x n. b x (among_right joined_vote.parts joined_u.parts x n)));
      }

      again : Turn (with_vote T t (Some (T.join t.vote u)), told_vote T a t (Some (T.join t.vote u)))
      again = vote_turn t g (T.join t.vote u)
          (λ y c. l.bounds.transitive y t.vote (T.join t.vote u) (g.keeps_it.vote_last y (subst (λ (i : T.Round). G.votes a i y) (sym e) c)) (l.bounds.join_left t.vote u))
          (λ j b x c. l.bounds.transitive x t.vote (T.join t.vote u) (k.ledger.votes_safe a t.round t.vote cast j b x c) (l.bounds.join_left t.vote u))
          (λ f. joined_both)

  -- what is agreed on is the least upper bound of meets that are backed and safe
  votes_turn : (t : Acceptor T) → Ready t → (ms : List T.Value)
      → ((m : T.Value) → Among ms m → IsBacked T leads G t.round m × IsSafe T G m t.round) → Turn (voting T a t (next_vote T t (all_joined T.empty T.join ms)))
  votes_turn t g [] p = kept_turn t g.keeps_it g.up g.voted_same None Silent
  votes_turn t g (m ∷ ms) p =
      let u : T.Value = join_all T.empty T.join (m ∷ ms) in
      let back : (x : T.Value) → Among (m ∷ ms) x → IsBacked T leads G t.round x = λ x n. (p x n).0 in
      let above : IsUpperBound T.prefix u (m ∷ ms) = join_all_above l.bounds (m ∷ ms) (all_backed_pairs l G k.ledger t.round (m ∷ ms) back) in
      let is_safe : IsSafe T G u t.round = λ j b x c. l.bounds.transitive x m u ((p m (inl refl)).1 j b x c) (above m (inl refl)) in
      let u_joined : IsJoined T leads G t.round u = record { parts = m ∷ ms; backed = back; above = above; least = λ z b. join_all_least l.bounds (m ∷ ms) z b } in
      cond_cases (λ (o : Option T.Value). Turn (voting T a t o)) (T.earlier t.voted t.round) _ _
      (λ b. vote_turn t g u (λ y c. absurd (g.keeps_it.none_above t.round y b c)) is_safe (λ f. u_joined))
      (λ b. cond_cases (λ (o : Option T.Value). Turn (voting T a t o)) (T.same t.voted t.round && not (T.fast t.round)) _ _
      (λ d. let q = and_split (T.same t.voted t.round) (not (T.fast t.round)) d in
      again t g u u_joined (backed_late t.round m (back m (inl refl))) (l.same_tells t.voted t.round q.0) (not-true (T.fast t.round) q.1))
      (λ d. kept_turn t g.keeps_it g.up g.voted_same None Silent))

  p2a_turn : (r : T.Round) (c : ℕ) (v : T.Value) → Among w.sent (P2a r c v) → Turn (acceptor_take T a s (P2a r c v))
  p2a_turn r c v p = cond_cases Turn (not (T.earlier r s.round) && nat_lt c T.coordinators) _ _
      (λ b.
      let q = and_split (not (T.earlier r s.round)) (nat_lt c T.coordinators) b in
      let e = not-true (T.earlier r s.round) q.0 in
      let g = raised_ready r (λ h. cc) in
      let n = holding_ready (raised T s r) g.0 c v (subst (λ (i : T.Round). G.values c i v) (sym g.1) p) in
      votes_turn (holding T (raised T s r) c v) n _ (λ m i. part_backed (holding T (raised T s r) c v) n m i))
      (λ b. same_turn)

  pub takes_turn : (m : Message T) → Among w.sent m → Turn (acceptor_take T a s m)
  takes_turn (Propose d) p = propose_turn d
  takes_turn (P1a r) p = p1a_turn r
  takes_turn (P1b r b q v) p = same_turn
  takes_turn (P2a r c v) p = p2a_turn r c v p
  takes_turn (P2b r b v) p = same_turn

  -- a fall leaves the durable part
  no_hold : (t : Acceptor T) (m : Option (Message T)) → AcceptorTurn T leads G a s t m → AcceptorTurn T leads G a s (record { round = t.round; voted = t.voted; vote = t.vote; held = nothing }) None
  no_hold t m u = record {
    rises = u.rises;
    voted_rises = u.voted_rises;
    voted_reached = u.voted_reached;
    top = u.top;
    new = u.new;
    held_sent = λ c v e. absurd (cc);
    says = Silent;
  }

  pub takes_kept : (m : Message T) → Among w.sent m → Facts T leads (acceptor_now T w a (acceptor_take T a s m).0 (acceptor_take T a s m).1)
  takes_kept m p = acceptor_moves l w k a (acceptor_take T a s m).0 (acceptor_take T a s m).1 (takes_turn m p)

  pub falls_plain : Facts T leads (acceptor_now T w a (acceptor_fall T a s None) None)
  falls_plain = acceptor_moves l w k a (acceptor_fall T a s None) None (no_hold s None same_turn)

  pub falls_kept : (m : Message T) → Among w.sent m → Facts T leads (acceptor_now T w a (acceptor_fall T a s (Some m)) None)
  falls_kept m p = acceptor_moves l w k a (acceptor_fall T a s (Some m)) None (no_hold (acceptor_take T a s m).0 (acceptor_take T a s m).1 (takes_turn m p))
