-- The commands that were offered in a legal run, by the drafts that the proposers were given.
use Rattle.std.proofs.Common.{◌≡◌, ℕ, suc, ◌+◌, ◌<◌, ◌≤◌, Bool, true, false, cond, nat_eq, List, [], ◌∷◌, ◌++◌, length, Option, Some, None, refl, sym, ap, ◌∙◌, subst, arith, inl, inr}
use Rattle.std.specs.Prelude.{slice_get}
use Rattle.std.specs.Option.{option_to_list}
use Rattle.std.proofs.lemmas.Bool.{eq-eqb, ltb-true}
use Rattle.gp_command.specs.declared.command.Command.{Command}
use Rattle.gp_command.specs.Views.{DraftView}
use Rattle.gp_command.specs.declared.command.TheConstants.{PROPOSERS}
use Rattle.gp_round.specs.Counts.{Counts}
use Rattle.gp_cstructs.specs.CStructs.{Among}
use Rattle.gp_cstructs.proofs.Lists.{among_append, among_left, among_right, get_append}
use Rattle.gp_msg.specs.declared.node.Node.{Node}
use Rattle.gp_msg.specs.declared.node.Node.TheVariants.{Proposer, Coordinator, Acceptor, Learner}
use Rattle.gp_msg.specs.declared.event.Event.{Event}
use Rattle.gp_msg.specs.declared.event.Event.TheVariants.{Offer, Begin, Take, Fall}
use Rattle.gp_msg.specs.Messages.{Stamped, Offered, Entry}
use Rattle.gp_proposer.specs.State.{ProposerState}
use Rattle.gp_proposer.specs.Table.{proposer_offer, numbered}
use Rattle.gp_run.specs.Messages.{messages}
use Rattle.gp_msg.specs.Nodes.{node_of}
use Rattle.gp_run.specs.Legal.{fits, sent_by, sent_at, Follows, Legal}
use Rattle.gp_run.specs.States.{proposer_acts, proposer_at, coordinator_at, acceptor_at, learner_at}
use Rattle.gp_agreement.proofs.Sending.{Ballots, Finals, acceptor_sends, coordinator_sends, learner_sends, one_sent}
use Rattle.gp_driver.proofs.Lists.{get-append}
use Rattle.gp_work.proofs.Batching.{get_last}
use Rattle.gp_agreement.proofs.Identities.{own_number}
use Rattle.gp_cluster.proofs.Drafts.{given, drafts_at, IsMade, counted, given_itself, given_is}

-- the command is made of one of the drafts that its proposer was given in a run
abbrev pub IsMadeIn : List Entry → Command → Type 0
IsMadeIn es c = IsMade (λ p. drafts_at p es) c.id.proposer c.id.number c.draft

-- ---- what an event sends

module _ (config : Counts) (es : List Entry) where
  ballots_offer_nothing : (n : ℕ) (o : Option Stamped) (c : Command) → Ballots n o → o ≡ Some (Offered c) → ⊥
  ballots_offer_nothing n o c h q = subst (λ (u : Option Stamped). Ballots n u) q h

  finals_offer_nothing : (n : ℕ) (o : Option Stamped) (c : Command) → Finals n o → o ≡ Some (Offered c) → ⊥
  finals_offer_nothing n o c h q = subst (λ (u : Option Stamped). Finals n u) q h

  none_offered : (o : Option Stamped) (c : Command) → o ≡ None → o ≡ Some (Offered c) → ⊥
  none_offered o c p q = cc

  -- no node sends a proposal at an event at which no proposer does
  silent : (node : Node) (event : Event) (c : Command) → ((p : ℕ) → (proposer_acts p (proposer_at p es) event).1 ≡ None) → sent_by config es node event ≡ Some (Offered c) → ⊥
  silent (Proposer p) event c f h = none_offered (proposer_acts p (proposer_at p es) event).1 c (f p) h
  silent (Coordinator b) event c f h = ballots_offer_nothing (coordinator_at config b es).epoch _ c (coordinator_sends b (coordinator_at config b es) (messages es) event) h
  silent (Acceptor a) event c f h = ballots_offer_nothing (acceptor_at config a es).epoch _ c (acceptor_sends a (acceptor_at config a es) (messages es) event) h
  silent (Learner l) event c f h = finals_offer_nothing (learner_at config l es).epoch _ c (learner_sends l (learner_at config l es) (messages es) event) h

  -- what a proposer sends that is given a draft
  offer_sends : (q : ℕ) (d : DraftView) → sent_by config es (Proposer q) (Offer q d) ≡ Some (Offered (numbered (proposer_at q es) d))
  offer_sends q d = ap (λ b. (cond {A = ProposerState × Option Stamped} b ((proposer_offer (proposer_at q es) d).0, Some (Offered (numbered (proposer_at q es) d))) (proposer_at q es, None)).1) (eq-eqb q q refl)

  -- an event that sends a proposal offers its draft
  record IsOfferOf (event : Event) (c : Command) : Type 0 where
    proposer : ℕ
    draft : DraftView
    event_is : event ≡ Offer proposer draft
    command_is : numbered (proposer_at proposer es) draft ≡ c

  offer_of : (event : Event) (c : Command) → sent_by config es (node_of event) event ≡ Some (Offered c) → IsOfferOf event c
  offer_of (Offer q d) c h = record {
    proposer = q;
    draft = d;
    event_is = refl;
    command_is = let same : Some (Offered (numbered (proposer_at q es) d)) ≡ Some (Offered c) = sym (offer_sends q d) ∙ h in cc;
  }
  offer_of (Begin b r) c h = absurd (silent (Coordinator b) (Begin b r) c (λ p. refl) h)
  offer_of (Take node k) c h = absurd (silent node (Take node k) c (λ p. refl) h)
  offer_of (Fall node what) c h = absurd (silent node (Fall node what) c (λ p. refl) h)

  -- ---- one more entry

  -- a command that is offered next is made of the next draft of its proposer
  next_made : (q : ℕ) (d : DraftView) → IsMade (λ p. drafts_at p es ++ given p (Offer q d)) (proposer_at q es).number ((proposer_at q es).offers + 1) d
  next_made q d = record {
    place = length (drafts_at q es);
    numbers = let n = counted q es in omega arith;
    there = subst (λ p. slice_get (drafts_at p es ++ given p (Offer q d)) (length (drafts_at q es)) ≡ Some d) (sym (own_number q es))
        (ap (λ l. slice_get (drafts_at q es ++ l) (length (drafts_at q es))) (given_itself q d) ∙ get_last (drafts_at q es) d);
  }

  -- a command that is made of the next draft is the one that is sent
  next_is : (c : Command) → c.id.number ≡ suc (length (drafts_at c.id.proposer es)) → numbered (proposer_at c.id.proposer es) c.draft ≡ c
  next_is c e =
      let number : (proposer_at c.id.proposer es).offers + 1 ≡ c.id.number = (let n = counted c.id.proposer es in omega arith) in
      λ i. record { id = record { proposer = own_number c.id.proposer es i; number = number i }; draft = c.draft }

  module _ (e : Entry) (f : Follows config es e) where
    sent_made : (c : Command) → Among e.sent (Offered c) → IsMadeIn (e ∷ es) c × (c.id.proposer < PROPOSERS)
    sent_made c m =
        let o = offer_of e.event c (one_sent (sent_by config es (node_of e.event) e.event) (Offered c) (subst (λ (ms : List Stamped). Among ms (Offered c)) f.own_messages m)) in
        let known : o.proposer < 8 = ltb-true o.proposer 8 (ap (fits config es) (sym o.event_is) ∙ f.event_fits) in
        let same : (proposer_at o.proposer es).number ≡ c.id.proposer = ap (λ (x : Command). x.id.proposer) o.command_is in (
          subst (λ (event : Event). IsMade (λ p. drafts_at p es ++ given p event) c.id.proposer c.id.number c.draft) (sym o.event_is)
              (subst (λ (x : Command). IsMade (λ p. drafts_at p es ++ given p (Offer o.proposer o.draft)) x.id.proposer x.id.number x.draft) o.command_is (next_made o.proposer o.draft)),
          subst (λ p. p < 8) (sym (own_number o.proposer es) ∙ same) known,
        )

    made_sent : (c : Command) → c.id.number ≡ suc (length (drafts_at c.id.proposer es)) → e.event ≡ Offer c.id.proposer c.draft → Among e.sent (Offered c)
    made_sent c n is = subst (λ (ms : List Stamped). Among ms (Offered c)) (sym (f.own_messages ∙ ap (sent_at config es) is ∙ ap option_to_list (offer_sends c.id.proposer c.draft)))
        (inl (ap Offered (next_is c n)))

-- ---- all entries

-- each command that was offered is made of a draft of its proposer, which is one of the eight
pub offered_made : (config : Counts) (es : List Entry) → Legal config es → (c : Command) → Among (messages es) (Offered c) → IsMadeIn es c × (c.id.proposer < PROPOSERS)
offered_made config [] legal c m = elim m [ ]
offered_made config (e ∷ es) legal c m = elim (among_append (messages es) e.sent (Offered c) m) [
  | inl a ↦
      let h = offered_made config es legal.0 c a in
      (record { place = h.0.place; numbers = h.0.numbers; there = get-append (drafts_at c.id.proposer es) (given c.id.proposer e.event) h.0.place c.draft h.0.there }, h.1)
  | inr b ↦ sent_made config es e legal.1 c b
]

one_of_given : (p : ℕ) (event : Event) (d : DraftView) → Among (given p event) d → event ≡ Offer p d
one_of_given p event d m = by (given p event) refl m
  where
    short : (e : Event) → length (given p e) ≤ 1
    short (Offer q x) = by_test (nat_eq p q)
      where
        by_test : (b : Bool) → length (cond {A = List DraftView} b (x ∷ []) []) ≤ 1
        by_test true = omega arith
        by_test false = omega arith
    short (Begin c r) = omega arith
    short (Take node k) = omega arith
    short (Fall node what) = omega arith

    by : (l : List DraftView) → given p event ≡ l → Among l d → event ≡ Offer p d
    by [] e n = absurd n
    by (x ∷ []) e (inl is) = given_is p event d [] (e ∙ ap (λ y. y ∷ []) is)
    by (x ∷ []) e (inr n) = absurd n
    by (x ∷ (y ∷ l)) e n = absurd (let long = ap length e in let s = short event in omega arith)

-- each command that is made of a draft of its proposer was offered
pub made_offered : (config : Counts) (es : List Entry) → Legal config es → (c : Command) → IsMadeIn es c → Among (messages es) (Offered c)
made_offered config [] legal c h = absurd (let none : None ≡ Some c.draft = h.there in cc)
made_offered config (e ∷ es) legal c h = elim (get_append (drafts_at c.id.proposer es) (given c.id.proposer e.event) h.place c.draft h.there) [
  | inl a ↦ among_left (messages es) e.sent (Offered c) (made_offered config es legal.0 c (record { place = h.place; numbers = h.numbers; there = a }))
  | inr b ↦
      let is = one_of_given c.id.proposer e.event c.draft b.2 in
      let one : length (given c.id.proposer e.event) ≡ 1 = ap (λ (event : Event). length (given c.id.proposer event)) is ∙ ap length (given_itself c.id.proposer c.draft) in
      let n = h.numbers in
      among_right (messages es) e.sent (Offered c) (made_sent config es e legal.1 c (omega (arith, n, one, b.0, b.1)) is)
]
