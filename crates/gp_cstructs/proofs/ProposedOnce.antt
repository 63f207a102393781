-- Each step keeps it so that each command is proposed once.
use Rattle.std.proofs.Common.{◌≡◌, ◌≤◌, ◌+◌, inl, inr, ℕ, zero, suc, not, ◌&&◌, ◌||◌, nat_lt, List, [], ◌∷◌, slice_get, refl, sym, subst, ap, ◌∙◌, arith, Option, Some, None}
use Rattle.gp_cstructs.specs.CStructs.{Among, all_joined}
use Rattle.gp_cstructs.specs.Tables.{Tables, set_at, Message, Propose, P1a, P1b, P2a, P2b}
use Rattle.gp_cstructs.specs.Acceptor.{Acceptor, acceptor_take, next_vote, told_vote, raised, holding}
use Rattle.gp_cstructs.specs.Coordinator.{Coordinator, coordinator_begin, extended, expects, coordinator_take}
use Rattle.gp_cstructs.specs.Loose.{send, System, Event, Offer, Begin, AcceptorTakes, CoordinatorTakes, LearnerTakes, AcceptorFalls, CoordinatorFalls, LearnerFalls, happens, run}
use Rattle.gp_cstructs.specs.Lawful.{TellsIdentity}
use Rattle.gp_cstructs.specs.ProposedOnce.{AreOnce, AreProposedOnce}
use Rattle.gp_cstructs.proofs.Lists.{cond_cases, set_same, set_cases, get_among}

-- ---- what is sent besides

abbrev IsNoProposal : {T : Tables} → Option (Message T) → Type 0
IsNoProposal {T} o = (c : T.Command) → o ≡ Some (Propose c) → ⊥

module _ {T : Tables} where
  nothing_proposed : IsNoProposal {T = T} None
  nothing_proposed c e = absurd (cc)

  told_none : (a : ℕ) (s : Acceptor T) (o : Option T.Value) → IsNoProposal (told_vote T a s o)
  told_none a s None = nothing_proposed
  told_none a s (Some v) = cond_cases IsNoProposal (T.earlier s.voted s.round || nat_lt (T.size s.vote) (T.size v)) (Some (P2b s.round a v)) None
      (λ b c e. absurd (cc)) (λ b. nothing_proposed)

  acceptor_none : (a : ℕ) (s : Acceptor T) (m : Message T) → IsNoProposal (acceptor_take T a s m).1
  acceptor_none a s (Propose d) = cond_cases (λ (u : Acceptor T × Option (Message T)). IsNoProposal u.1) (T.same s.voted s.round && T.fast s.round && not (T.has s.vote d)) _ _ (λ b c e. absurd (cc)) (λ b. nothing_proposed)
  acceptor_none a s (P1a r) = cond_cases (λ (u : Acceptor T × Option (Message T)). IsNoProposal u.1) (T.earlier s.round r) _ _ (λ b c e. absurd (cc)) (λ b. nothing_proposed)
  acceptor_none a s (P1b r b q v) = nothing_proposed
  acceptor_none a s (P2a r c v) = cond_cases (λ (u : Acceptor T × Option (Message T)). IsNoProposal u.1) (not (T.earlier r s.round) && nat_lt c T.coordinators) _ _
      (λ b. let t = holding T (raised T s r) c v in told_none a t (next_vote T t (all_joined T.empty T.join (T.coordinator_meets t.round t.held)))) (λ b. nothing_proposed)
  acceptor_none a s (P2b r b v) = nothing_proposed

  begin_none : (s : Coordinator T) (r : T.Round) → IsNoProposal (coordinator_begin T s r).1
  begin_none s r = cond_cases (λ (u : Coordinator T × Option (Message T)). IsNoProposal u.1) (T.earlier s.round r) _ _ (λ b c e. absurd (cc)) (λ b. nothing_proposed)

  extended_none : (i : ℕ) (s : Coordinator T) (o : Option T.Value) (d : T.Command) → IsNoProposal (extended T i s o d).1
  extended_none i s None d = nothing_proposed
  extended_none i s (Some w) d = cond_cases (λ (u : Coordinator T × Option (Message T)). IsNoProposal u.1) (not (T.has w d) && not (T.fast s.round)) _ _ (λ b c e. absurd (cc)) (λ b. nothing_proposed)

  coordinator_none : (i : ℕ) (s : Coordinator T) (m : Message T) (cs : List T.Command) → IsNoProposal (coordinator_take T i s m cs).1
  coordinator_none i s (Propose d) cs = extended_none i s s.value d
  coordinator_none i s (P1a r) cs = cond_cases (λ (u : Coordinator T × Option (Message T)). IsNoProposal u.1) (T.multi r && T.earlier s.round r) _ _ (λ b. nothing_proposed) (λ b. nothing_proposed)
  coordinator_none i s (P1b r a q v) cs = cond_cases (λ (u : Coordinator T × Option (Message T)). IsNoProposal u.1) (expects T s r a) _ _
      (λ b. cond_cases (λ (u : Coordinator T × Option (Message T)). IsNoProposal u.1) (T.is_enough (set_at s.answers a (Some (q, v)))) _ _ (λ z c e. absurd (cc)) (λ z. nothing_proposed))
      (λ b. nothing_proposed)
  coordinator_none i s (P2a r b v) cs = nothing_proposed
  coordinator_none i s (P2b r b v) cs = nothing_proposed

  -- it proposes nothing
  more_sent : (offers : ℕ → ℕ) (ms : List (Message T)) → AreOnce T offers ms → (o : Option (Message T)) → IsNoProposal o → AreOnce T offers (send T o ms)
  more_sent offers ms k None none = k
  more_sent offers ms k (Some m) none = record { once = apart; counted = λ c a. elim a [ inl e ↦ absurd (none c (ap Some e)) | inr n ↦ k.counted c n ] } where
    apart : (i j : ℕ) (c d : T.Command) → slice_get (m ∷ ms) i ≡ Some (Propose c) → slice_get (m ∷ ms) j ≡ Some (Propose d) → T.proposer_of c ≡ T.proposer_of d → T.number_of c ≡ T.number_of d → i ≡ j
    apart zero j c d p q e f = absurd (none c p)
    apart (suc i) zero c d p q e f = absurd (none d q)
    apart (suc i) (suc j) c d p q e f = ap suc (k.once i j c d p q e f)

-- ---- a proposal

module _ {T : Tables} (t : TellsIdentity T) (offers : ℕ → ℕ) (ms : List (Message T)) (k : AreOnce T offers ms) (p : ℕ) (draft : T.Draft) where
  abbrev made : T.Command
  made = T.numbered p (offers p + 1) draft

  abbrev after : ℕ → ℕ
  after = set_at offers p (offers p + 1)

  -- no earlier proposal has its identity
  is_new : (c : T.Command) → Among ms (Propose c) → T.proposer_of made ≡ T.proposer_of c → T.number_of made ≡ T.number_of c → ⊥
  is_new c m e f =
      let small = k.counted c m in
      let count : offers (T.proposer_of c) ≡ offers p = ap offers (sym e ∙ t.proposer_told p (offers p + 1) draft) in
      let number : T.number_of c ≡ offers p + 1 = sym f ∙ t.number_told p (offers p + 1) draft in
      omega (arith, small, count, number)

  made_is : (c : T.Command) → ◌≡◌ {A = Option (Message T)} (Some (Propose made)) (Some (Propose c)) → made ≡ c
  made_is c e = cc

  once_more : (i j : ℕ) (c d : T.Command) → slice_get (Propose made ∷ ms) i ≡ Some (Propose c) → slice_get (Propose made ∷ ms) j ≡ Some (Propose d) → T.proposer_of c ≡ T.proposer_of d → T.number_of c ≡ T.number_of d → i ≡ j
  once_more zero zero c d a b e f = refl
  once_more zero (suc j) c d a b e f = let is = made_is c a in absurd (is_new d (get_among ms j (Propose d) b) (ap T.proposer_of is ∙ e) (ap T.number_of is ∙ f))
  once_more (suc i) zero c d a b e f = let is = made_is d b in absurd (is_new c (get_among ms i (Propose c) a) (ap T.proposer_of is ∙ sym e) (ap T.number_of is ∙ sym f))
  once_more (suc i) (suc j) c d a b e f = ap suc (k.once i j c d a b e f)

  grown : (q : ℕ) → offers q ≤ after q
  grown = set_cases (λ (q n : ℕ). offers q ≤ n) offers p (offers p + 1) (omega arith) (λ q n. omega arith)

  own_counted : T.number_of made ≤ after (T.proposer_of made)
  own_counted =
      let number : T.number_of made ≡ offers p + 1 = t.number_told p (offers p + 1) draft in
      let count : after (T.proposer_of made) ≡ offers p + 1 = ap after (t.proposer_told p (offers p + 1) draft) ∙ set_same offers p (offers p + 1) in
      omega (arith, number, count)

  proposed_once : AreOnce T after (Propose made ∷ ms)
  proposed_once = record {
    once = once_more;
    counted = λ c a. elim a [
      | inl e ↦ subst (λ (x : T.Command). T.number_of x ≤ after (T.proposer_of x)) (made_is c (ap Some e)) own_counted
      | inr n ↦ let old = k.counted c n in let more = grown (T.proposer_of c) in omega (arith, old, more)
    ];
  }

module _ {T : Tables} (t : TellsIdentity T) where
  pub happens_once : (w : System T) (e : Event T) → AreProposedOnce T w → AreProposedOnce T (happens T w e)
  happens_once w (Offer p d) k = proposed_once t w.offers w.sent k p d
  happens_once w (Begin c r) k = more_sent w.offers w.sent k (coordinator_begin T (w.coordinators c) r).1 (begin_none (w.coordinators c) r)
  happens_once w (AcceptorTakes a m) k = more_sent w.offers w.sent k (acceptor_take T a (w.acceptors a) m).1 (acceptor_none a (w.acceptors a) m)
  happens_once w (CoordinatorTakes c m cs) k = more_sent w.offers w.sent k (coordinator_take T c (w.coordinators c) m cs).1 (coordinator_none c (w.coordinators c) m cs)
  happens_once w (LearnerTakes i m) k = k
  happens_once w (AcceptorFalls a kept) k = k
  happens_once w (CoordinatorFalls c kept) k = k
  happens_once w (LearnerFalls i) k = k

  pub run_once : (es : List (Event T)) → AreProposedOnce T (run T es)
  run_once [] = record { once = λ i j c d p q e f. absurd (cc); counted = λ c a. elim a [ ] }
  run_once (e ∷ es) = happens_once (run T es) e (run_once es)
