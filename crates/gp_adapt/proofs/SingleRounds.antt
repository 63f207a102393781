-- The values of a single round of one epoch of a legal run are compatible.
use Rattle.std.proofs.Common.{◌≡◌, ◌⊎◌, inl, inr, ℕ, zero, suc, ◌<◌, Bool, true, false, List, [], ◌∷◌, refl, sym, subst, ap, ◌∙◌}
use Rattle.std.specs.Prelude.{slice_get, Some}
use Rattle.std.specs.List.{Contains}
use Rattle.std.proofs.lemmas.List.Elements.{All-head, All-tail}
use Rattle.gp_history.specs.History.{History}
use Rattle.gp_history.specs.Bounds.{IsCompatible}
use Rattle.gp_round.specs.declared.round.Mode.{Mode}
use Rattle.gp_round.specs.declared.round.Mode.TheVariants.{Single}
use Rattle.gp_round.specs.declared.round.Round.{Round}
use Rattle.gp_round.specs.Counts.{Counts}
use Rattle.gp_round.specs.Rounds.{earlier, round_zero, is_multi, is_fast}
use Rattle.gp_msg.specs.declared.node.Node.{Node}
use Rattle.gp_msg.specs.Messages.{Proposed, Asked, Answered, Sent, Voted, Stamped, Offered, InEpoch, Final, Entry}
use Rattle.gp_run.specs.Messages.{messages}
use Rattle.gp_run.specs.Legal.{Legal}
use Rattle.gp_cstructs.specs.CStructs.{Among, BoundLaws, Compatible, IsUpperBound}
use Rattle.gp_cstructs.specs.Facts as core
use Rattle.gp_round.specs.Quorums.{IsCoordinatorQuorum, coordinator_quorum_of}
use Rattle.gp_cstructs.proofs.Growth as growth
use Rattle.gp_cstructs.proofs.Lists.{contains_among}
use Rattle.gp_agreement.specs.Values.{Value, operations}
use Rattle.gp_agreement.proofs.Bundle.{tables_lawful}
use Rattle.gp_agreement.proofs.Projection.{T}
use Rattle.gp_agreement.proofs.Standing as standing
use Rattle.gp_agreement.proofs.ValueLaws.{test_of}
use Rattle.gp_collide.specs.Watched.{watched}
use Rattle.gp_collide.specs.Clashes.{IsCalm}
use Rattle.gp_collide.specs.Values.{Brings, IsValue, AreCompatible}
use Rattle.gp_collide.proofs.ClashesSeen.{compatible_values_are_calm}
use Rattle.gp_adapt.specs.Told.{AreSent}
use Rattle.gp_adapt.proofs.Leading.{IsLedBy, messages_led}

lead_of_quorum : (n : ℕ) (m : Mode) (lead : ℕ) (R : ℕ → Bool) → m ≡ Single → coordinator_quorum_of n m lead R → (lead < n) × (R lead ≡ true)
lead_of_quorum n m lead R e h = subst (λ (k : Mode). coordinator_quorum_of n k lead R) e h

sent_among : (es : List Entry) (ms : List Stamped) (i : ℕ) (m : Stamped) → AreSent es ms → slice_get ms i ≡ Some m → Contains (messages es) m
sent_among es [] i m all at = absurd (cc)
sent_among es (x ∷ ms) zero m all at = let is : x ≡ m = cc in subst (λ (k : Stamped). Contains (messages es) k) is (All-head (λ (k : Stamped). Contains (messages es) k) x ms all)
sent_among es (x ∷ ms) (suc i) m all at = sent_among es ms i m (All-tail (λ (k : Stamped). Contains (messages es) k) x ms all) at

module _ (config : Counts) (some : 0 < config.acceptors) (es : List Entry) (legal : Legal config es) (e : ℕ) (r : Round) (single : r.mode ≡ Single) where
  abbrev G : core.Ledger (T config e)
  G = standing.G config some es legal e

  abbrev F : core.Facts (T config e) (IsCoordinatorQuorum config.coordinators) (standing.w config some es legal e)
  F = standing.facts config some es legal e

  slow : is_fast r.mode ≡ false
  slow = ap is_fast single

  abbrev Agree : Value → Value → Type 0
  Agree u v = Compatible operations.prefix u v

  swapped : (u v : Value) → Agree u v → Agree v u
  swapped u v c = record { top = c.top; left = c.right; right = c.left }

  laws : BoundLaws operations.prefix operations.empty operations.meet operations.join
  laws = (tables_lawful config some).bounds

  chain_agrees : (u v : Value) → operations.prefix u v ⊎ operations.prefix v u → Agree u v
  chain_agrees u v p = elim p [
    | inl q ↦ record { top = v; left = q; right = laws.reflexive v }
    | inr q ↦ record { top = u; left = laws.reflexive u; right = q }
  ]

  -- a value that the lead sent, above y and above each of these
  record Above (y : Value) (parts : List Value) : Type 0 where
    top : Value
    sent : G.values r.lead r top
    over : operations.prefix y top
    all : IsUpperBound operations.prefix top parts

  above : (y : Value) → G.values r.lead r y → (parts : List Value) → ((u : Value) → Among parts u → core.IsBacked (T config e) (IsCoordinatorQuorum config.coordinators) G r u) → Above y parts
  above y p [] backed = record { top = y; sent = p; over = laws.reflexive y; all = λ u m. elim m [ ] }
  above y p (u ∷ parts) backed =
      let more = above y p parts (λ v m. backed v (inr m)) in
      let back = backed u (inl refl) in
      let leads = lead_of_quorum config.coordinators r.mode r.lead back.quorum single back.is_quorum in
      let x = back.each r.lead leads.0 leads.1 in
      elim (F.ledger.values_chain r.lead r x.0 more.top x.1 more.sent) [
        | inl below ↦ record {
          top = more.top;
          sent = more.sent;
          over = more.over;
          all = λ v m. elim m [
            | inl is ↦ subst (λ (k : Value). operations.prefix k more.top) is (laws.transitive u x.0 more.top x.2 below)
            | inr n ↦ more.all v n
          ];
        }
        | inr beyond ↦ record {
          top = x.0;
          sent = x.1;
          over = laws.transitive y more.top x.0 more.over beyond;
          all = λ v m. elim m [
            | inl is ↦ subst (λ (k : Value). operations.prefix k x.0) is x.2
            | inr n ↦ laws.transitive v more.top x.0 (more.all v n) beyond
          ];
        }
      ]

  -- a value that the lead sent and a vote
  sent_with_vote : (y : Value) → G.values r.lead r y → (a : ℕ) (w : Value) → G.votes a r w → Agree y w
  sent_with_vote y p a w q = elim (F.ledger.votes_joined a r w q slow) [
    | inl none ↦ record { top = y; left = laws.reflexive y; right = laws.transitive w operations.empty y none.1 (laws.empty_least y) }
    | inr j ↦ let t = above y p j.parts j.backed in record { top = t.top; left = t.over; right = j.least t.top t.all }
  ]

  -- a value of the round comes from the lead, or is a vote
  abbrev Comes : Value → Type 0
  Comes v = G.values r.lead r v ⊎ ((a : ℕ) × G.votes a r v)

  agree : (u v : Value) → Comes u → Comes v → Agree u v
  agree u v p q = elim p [
    | inl s ↦ elim q [
      | inl t ↦ chain_agrees u v (F.ledger.values_chain r.lead r u v s t)
      | inr t ↦ sent_with_vote u s t.0 v t.1
    ]
    | inr s ↦ elim q [
      | inl t ↦ swapped v u (sent_with_vote v t s.0 u s.1)
      | inr t ↦ growth.votes_agree (tables_lawful config some) G F.ledger r slow s.0 t.0 u v s.1 t.1
    ]
  ]

  -- the value of a message is such a value
  abbrev Found : History → Type 0
  Found v = (u : Value) × Comes u × (u.history ≡ v)

  by_lead : (c : ℕ) (v : Value) → G.values c r v → IsLedBy c r → Comes v
  by_lead c v p led = elim led [
    | inl multi ↦ absurd (let h = sym (ap is_multi single) ∙ multi in cc)
    | inr h ↦ elim h [
      | inl begins ↦ absurd ((tables_lawful config some).order.irreflexive round_zero (subst (λ (k : Round). earlier round_zero k ≡ true) begins (F.ledger.values_late c r v p)))
      | inr lead ↦ inl (subst (λ (k : ℕ). G.values k r v) (sym lead) p)
    ]
  ]

  sent_found : (c : ℕ) (v : History) → Contains (messages es) (InEpoch e (Sent r c v)) → Found v
  sent_found c v p =
      let u = standing.sent_value config some es legal e c r v p in
      (u.0, by_lead c u.0 u.1 (messages_led config es legal (InEpoch e (Sent r c v)) (contains_among (messages es) (InEpoch e (Sent r c v)) p)), u.2)

  voted_found : (a : ℕ) (v : History) → Contains (messages es) (InEpoch e (Voted r a v)) → Found v
  voted_found a v p = let u = standing.voted_value config some es legal e r a v p in (u.0, inr (a, F.sent_cast r a u.0 u.1), u.2)

  found : (s : Node) (v : History) (m : Stamped) → Contains (messages es) m → Brings (e, r) s v m → Found v
  found s v (Offered c) p b = absurd b
  found s v (InEpoch n (Proposed c)) p b = absurd b
  found s v (InEpoch n (Asked q)) p b = absurd b
  found s v (InEpoch n (Answered q a k w)) p b = absurd b
  found s v (Final n l u) p b = absurd b
  found s v (InEpoch n (Sent q c w)) p b =
      sent_found c v (subst (λ (k : ℕ × Round). Contains (messages es) (InEpoch k.0 (Sent k.1 c v))) b.0 (subst (λ (k : History). Contains (messages es) (InEpoch n (Sent q c k))) b.2 p))
  found s v (InEpoch n (Voted q a w)) p b =
      voted_found a v (subst (λ (k : ℕ × Round). Contains (messages es) (InEpoch k.0 (Voted k.1 a v))) b.0 (subst (λ (k : History). Contains (messages es) (InEpoch n (Voted q a k))) b.2 p))

  module _ (ms : List Stamped) (sent : AreSent es ms) where
    value_found : (v : History) → IsValue (e, r) ms v → Found v
    value_found v h = found h.sender v h.there.message (sent_among es ms h.place h.there.message sent h.there.there) h.there.brings

    compatible : AreCompatible (e, r) ms
    compatible v w p q =
        let a = value_found v p in
        let b = value_found w q in
        subst (λ (k : History). IsCompatible v k) b.2 (subst (λ (k : History). IsCompatible k b.0.history) a.2 (test_of a.0 b.0 (agree a.0 b.0 a.1 b.1)))

    -- **a watch of the round has not clashed**
    pub single_is_calm : IsCalm (watched (e, r) ms)
    single_is_calm = compatible_values_are_calm (e, r) ms compatible
