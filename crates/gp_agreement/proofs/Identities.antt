-- Each command is proposed once.
use Rattle.std.proofs.Common.{◌≡◌, ◌≤◌, ◌+◌, ℕ, suc, Bool, cond, nat_eq, List, [], ◌∷◌, ◌++◌, Option, Some, None, length, refl, sym, subst, ap, ◌∙◌, inl, inr, arith}
use Rattle.std.specs.Option.{option_to_list}
use Rattle.std.proofs.lemmas.Bool.{eq-eqb}
use Rattle.gp_command.specs.declared.command.Command.{Command}
use Rattle.gp_command.specs.declared.command.CommandId.{CommandId}
use Rattle.gp_command.specs.declared.draft.Draft.{Draft}
use Rattle.gp_round.specs.Counts.{Counts}
use Rattle.gp_msg.specs.declared.node.Node.{Node}
use Rattle.gp_msg.specs.declared.node.Node.TheVariants.{Proposer, Coordinator, Acceptor, Learner}
use Rattle.gp_msg.specs.declared.event.Event.{Event}
use Rattle.gp_msg.specs.declared.event.Event.TheVariants.{Offer, Begin, Take, Fall}
use Rattle.gp_proposer.specs.State.{ProposerState}
use Rattle.gp_proposer.specs.Table.{proposer_offer, numbered}
use Rattle.gp_msg.specs.Nodes.{node_of}
use Rattle.gp_cstructs.specs.CStructs.{Among}
use Rattle.gp_cstructs.proofs.Lists.{cond_cases, among_append, get_append, get_among, among_contains, contains_among}
use Rattle.gp_msg.specs.Messages.{Stamped, Offered, Entry}
use Rattle.gp_run.specs.Messages.{messages}
use Rattle.gp_run.specs.States.{proposer_acts, proposer_at, coordinator_at, acceptor_at, learner_at}
use Rattle.gp_run.specs.Legal.{sent_by, Follows, Legal}
use Rattle.gp_agreement.specs.Facts.{AreProposedOnce}
use Rattle.gp_agreement.proofs.Sending.{Ballots, Finals, acceptor_sends, coordinator_sends, learner_sends, one_sent}

-- ---- proposers

number_stays : (p q : ℕ) (s : ProposerState) (event : Event) → s.number ≡ q → (proposer_acts p s event).0.number ≡ q
number_stays p q s (Offer i d) h = cond_cases (λ (u : ProposerState × Option Stamped). u.0.number ≡ q) (nat_eq p i) ((proposer_offer s d).0, Some (Offered (numbered s d))) (s, None) (λ b. h) (λ b. h)
number_stays p q s (Begin c r) h = h
number_stays p q s (Take node k) h = h
number_stays p q s (Fall node what) h = h

pub own_number : (p : ℕ) (es : List Entry) → (proposer_at p es).number ≡ p
own_number p [] = refl
own_number p (x ∷ es) = number_stays p p (proposer_at p es) x.event (own_number p es)

offers_grow : (p : ℕ) (s : ProposerState) (event : Event) → s.offers ≤ (proposer_acts p s event).0.offers
offers_grow p s (Offer i d) = cond_cases (λ (u : ProposerState × Option Stamped). s.offers ≤ u.0.offers) (nat_eq p i) ((proposer_offer s d).0, Some (Offered (numbered s d))) (s, None) (λ b. more s.offers) (λ b. same s.offers)
  where
    more : (n : ℕ) → n ≤ n + 1
    more n = omega arith

    same : (n : ℕ) → n ≤ n
    same n = omega arith
offers_grow p s (Begin c r) = omega arith
offers_grow p s (Take node k) = omega arith
offers_grow p s (Fall node what) = omega arith

-- ---- a new proposal

ballots_propose_nothing : (n : ℕ) (o : Option Stamped) (c : Command) → Ballots n o → o ≡ Some (Offered c) → ⊥
ballots_propose_nothing n o c h q = subst (λ (u : Option Stamped). Ballots n u) q h

finals_propose_nothing : (n : ℕ) (o : Option Stamped) (c : Command) → Finals n o → o ≡ Some (Offered c) → ⊥
finals_propose_nothing n o c h q = subst (λ (u : Option Stamped). Finals n u) q h

pub at_same : {X : Type 0} (a : ℕ) (x y : X) → cond (nat_eq a a) x y ≡ x
at_same a x y = ap (λ (b : Bool). cond b x y) (eq-eqb a a refl)

module _ (config : Counts) (es : List Entry) where
  -- its number is the next of its proposer, which counts it
  pub record IsNew (event : Event) (c : Command) : Type 0 where
    pub next : c.id.number ≡ suc (proposer_at c.id.proposer es).offers
    pub counted : c.id.number ≤ (proposer_acts c.id.proposer (proposer_at c.id.proposer es) event).0.offers

  module _ (q : ℕ) (d : Draft) where
    abbrev s : ProposerState
    s = proposer_at q es

    -- what proposer i did, if it is q
    abbrev IsFor : ℕ → Type 0
    IsFor i = (s.offers + 1 ≡ suc (proposer_at i es).offers) × (s.offers + 1 ≤ (proposer_acts i (proposer_at i es) (Offer q d)).0.offers)

    one_more : (n : ℕ) → n + 1 ≡ suc n
    one_more n = omega arith

    same : (n : ℕ) → n ≤ n
    same n = omega arith

    for_itself : IsFor q
    for_itself = (
      one_more s.offers,
      subst (λ (u : ProposerState × Option Stamped). s.offers + 1 ≤ u.0.offers) (sym (at_same q ((proposer_offer s d).0, Some (Offered (numbered s d))) (s, None))) (same (s.offers + 1)),
    )

    first_offer : IsNew (Offer q d) (numbered s d)
    first_offer = let k = subst IsFor (sym (own_number q es)) for_itself in record { next = k.0; counted = k.1 }

    offered_is : (c : Command) → sent_by config es (Proposer q) (Offer q d) ≡ Some (Offered c) → numbered s d ≡ c
    offered_is c h =
        let e : Some (Offered (numbered s d)) ≡ Some (Offered c) = sym (ap (λ (u : ProposerState × Option Stamped). u.1) (at_same q ((proposer_offer s d).0, Some (Offered (numbered s d))) (s, None))) ∙ h in
        cc

  new_by : (node : Node) (event : Event) (c : Command) → ((p : ℕ) → node ≡ Proposer p → IsNew event c) → sent_by config es node event ≡ Some (Offered c) → IsNew event c
  new_by (Proposer p) event c f h = f p refl
  new_by (Coordinator b) event c f h = absurd (ballots_propose_nothing (coordinator_at config b es).epoch _ c (coordinator_sends b (coordinator_at config b es) (messages es) event) h)
  new_by (Acceptor a) event c f h = absurd (ballots_propose_nothing (acceptor_at config a es).epoch _ c (acceptor_sends a (acceptor_at config a es) (messages es) event) h)
  new_by (Learner l) event c f h = absurd (finals_propose_nothing (learner_at config l es).epoch _ c (learner_sends l (learner_at config l es) (messages es) event) h)

  none_offered : {P : Type 0} (o : Option Stamped) (c : Command) → o ≡ None → o ≡ Some (Offered c) → P
  none_offered o c p q = absurd (cc)

  new_offer : (event : Event) (c : Command) → sent_by config es (node_of event) event ≡ Some (Offered c) → IsNew event c
  new_offer (Offer q d) c h = subst (λ (x : Command). IsNew (Offer q d) x) (offered_is q d c h) (first_offer q d)
  new_offer (Begin b r) c h = new_by (Coordinator b) (Begin b r) c (λ p e. absurd (cc)) h
  new_offer (Take node k) c h = new_by node (Take node k) c (λ p e. none_offered (sent_by config es node (Take node k)) c (ap (λ (n : Node). sent_by config es n (Take node k)) e) h) h
  new_offer (Fall node what) c h = new_by node (Fall node what) c (λ p e. none_offered (sent_by config es node (Fall node what)) c (ap (λ (n : Node). sent_by config es n (Fall node what)) e) h) h

module _ (config : Counts) (es : List Entry) (k : AreProposedOnce es) (x : Entry) (f : Follows config es x) where
  new_there : (c : Command) → Among x.sent (Offered c) → IsNew config es x.event c
  new_there c p = new_offer config es x.event c (one_sent (sent_by config es (node_of x.event) x.event) (Offered c) (subst (λ (ms : List Stamped). Among ms (Offered c)) f.own_messages p))

  short : length x.sent ≤ 1
  short = subst (λ (ms : List Stamped). length ms ≤ 1) (sym f.own_messages) (one_at_most (sent_by config es (node_of x.event) x.event))
    where
      one_at_most : (o : Option Stamped) → length (option_to_list o) ≤ 1
      one_at_most None = omega arith
      one_at_most (Some m) = omega arith

  -- a new proposal has not the identity of an earlier one
  apart : (c d : Command) → Among (messages es) (Offered c) → Among x.sent (Offered d) → c.id ≡ d.id → ⊥
  apart c d p q e =
      let n = new_there d q in
      let old = k.numbered c (among_contains (messages es) (Offered c) p) in
      let same_number : c.id.number ≡ d.id.number = ap (λ (i : CommandId). i.number) e in
      let same_offers : (proposer_at c.id.proposer es).offers ≡ (proposer_at d.id.proposer es).offers = ap (λ (i : CommandId). (proposer_at i.proposer es).offers) e in
      omega (arith, n.next, old, same_number, same_offers)

  more_once : AreProposedOnce (x ∷ es)
  more_once = record {
    once = λ i j c d p q e. elim (get_append (messages es) x.sent i (Offered c) p) [
      | inl a ↦ elim (get_append (messages es) x.sent j (Offered d) q) [
        | inl b ↦ k.once i j c d a b e
        | inr b ↦ absurd (apart c d (get_among (messages es) i (Offered c) a) b.2 e)
      ]
      | inr a ↦ elim (get_append (messages es) x.sent j (Offered d) q) [
        | inl b ↦ absurd (apart d c (get_among (messages es) j (Offered d) b) a.2 (sym e))
        | inr b ↦ omega (arith, a.0, a.1, b.0, b.1, short)
      ]
    ];
    numbered = λ c p. elim (among_append (messages es) x.sent (Offered c) (contains_among (messages es ++ x.sent) (Offered c) p)) [
      | inl a ↦ let old = k.numbered c (among_contains (messages es) (Offered c) a) in let grown = offers_grow c.id.proposer (proposer_at c.id.proposer es) x.event in omega (arith, old, grown)
      | inr b ↦ (new_there c b).counted
    ];
  }

pub proposed_once : (config : Counts) (es : List Entry) → Legal config es → AreProposedOnce es
proposed_once config [] legal = record { once = λ i j c d p q e. absurd (cc); numbered = λ c p. elim (contains_among [] (Offered c) p) [ ] }
proposed_once config (x ∷ es) legal = more_once config es (proposed_once config es legal.0) x legal.1
