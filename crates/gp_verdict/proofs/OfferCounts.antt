-- What learners hold is what was offered: how many commands, and with what identities.
use Rattle.std.proofs.Common.{◌≡◌, ℕ, ◌+◌, ◌<◌, ◌≤◌, Bool, true, false, ◌||◌, cond, nat_eq, List, [], ◌∷◌, ◌++◌, length, Option, Some, None, refl, sym, ap, subst, ◌∙◌, arith, inl, inr}
use Rattle.std.specs.Prelude.{count_by}
use Rattle.std.specs.Option.{option_to_list}
use Rattle.std.specs.List.{list_any}
use Rattle.std.proofs.lemmas.Bool.{eq-eqb, ltb-true}
use Rattle.std.proofs.lemmas.List.{length-append}
use Rattle.gp_command.specs.declared.command.Command.{Command}
use Rattle.gp_command.specs.declared.command.CommandId.{CommandId}
use Rattle.gp_command.specs.Conflict.{same}
use Rattle.gp_command.specs.Views.{DraftView}
use Rattle.gp_command.proofs.ConflictLemmas.{same_itself}
use Rattle.gp_history.specs.History.{IsHistory, has}
use Rattle.gp_history.specs.Canonical.{canonical}
use Rattle.gp_history.proofs.Tests.{In}
use Rattle.gp_history.proofs.Acyclic.{canonical_is, canonical_no_repeat}
use Rattle.gp_history.proofs.Counts.{no_longer_lists}
use Rattle.gp_history.proofs.Sets.{has_history_of}
use Rattle.gp_round.specs.Counts.{Counts}
use Rattle.gp_cstructs.specs.CStructs.{Among}
use Rattle.gp_cstructs.proofs.Lists.{among_append, contains_among}
use Rattle.gp_msg.specs.declared.node.Node.{Node}
use Rattle.gp_msg.specs.declared.node.Node.TheVariants.{Proposer, Coordinator, Acceptor, Learner}
use Rattle.gp_msg.specs.declared.event.Event.{Event}
use Rattle.gp_msg.specs.declared.event.Event.TheVariants.{Offer, Begin, Take, Fall}
use Rattle.gp_msg.specs.Messages.{Stamped, Offered, InEpoch, Final, Entry}
use Rattle.gp_proposer.specs.State.{ProposerState}
use Rattle.gp_proposer.specs.Table.{proposer_offer, numbered}
use Rattle.gp_run.specs.Messages.{messages}
use Rattle.gp_msg.specs.Nodes.{node_of}
use Rattle.gp_run.specs.Legal.{fits, sent_by, sent_at, Follows, Legal}
use Rattle.gp_run.specs.Learned.{learned_at}
use Rattle.gp_run.specs.Runs.{oldest_first}
use Rattle.gp_run.specs.States.{proposer_acts, proposer_at, coordinator_at, acceptor_at, learner_at}
use Rattle.gp_run.proofs.Running.{events-cons}
use Rattle.gp_agreement.proofs.Agreement.{agrees}
use Rattle.gp_agreement.proofs.Sending.{Ballots, Finals, acceptor_sends, coordinator_sends, learner_sends, one_sent}
use Rattle.gp_text.specs.Reading.{is_offer}
use Rattle.gp_text.proofs.EventSteps.{count_more}

-- ---- the commands that were offered

offered : List Stamped → List Command
offered [] = []
offered (Offered c ∷ ms) = c ∷ offered ms
offered (InEpoch e m ∷ ms) = offered ms
offered (Final e l v ∷ ms) = offered ms

offered_append : (xs ys : List Stamped) → offered (xs ++ ys) ≡ offered xs ++ offered ys
unfolding offered
offered_append [] ys = refl
offered_append (Offered c ∷ xs) ys = ap (λ cs. c ∷ cs) (offered_append xs ys)
offered_append (InEpoch e m ∷ xs) ys = offered_append xs ys
offered_append (Final e l v ∷ xs) ys = offered_append xs ys

in_offered : (ms : List Stamped) (c : Command) → Among ms (Offered c) → In (offered ms) c
unfolding offered
in_offered [] c m = elim m [ ]
in_offered (Offered d ∷ ms) c m = elim m [
  | inl e ↦ (let is : d ≡ c = cc in subst (λ x. (same c x || list_any (same c) (offered ms)) ≡ true) (sym is) (ap (λ b. b || list_any (same c) (offered ms)) (same_itself c)))
  | inr n ↦ or_right (same c d) (list_any (same c) (offered ms)) (in_offered ms c n)
]
  where
    or_right : (a b : Bool) → b ≡ true → (a || b) ≡ true
    or_right true b e = refl
    or_right false b e = e
in_offered (InEpoch e x ∷ ms) c m = elim m [
  | inl e ↦ absurd cc
  | inr n ↦ in_offered ms c n
]
in_offered (Final e l v ∷ ms) c m = elim m [
  | inl e ↦ absurd cc
  | inr n ↦ in_offered ms c n
]

-- ---- what an event sends

one_offered : (o : Option Stamped) → length (offered (option_to_list o)) ≤ 1
unfolding offered
one_offered None = omega arith
one_offered (Some (Offered c)) = omega arith
one_offered (Some (InEpoch e m)) = omega arith
one_offered (Some (Final e l v)) = omega arith

none_offered : (o : Option Stamped) → ((c : Command) → o ≡ Some (Offered c) → ⊥) → length (offered (option_to_list o)) ≤ 0
unfolding offered
none_offered None never = omega arith
none_offered (Some (Offered c)) never = absurd (never c refl)
none_offered (Some (InEpoch e m)) never = omega arith
none_offered (Some (Final e l v)) never = omega arith

module _ (config : Counts) (es : List Entry) where
  ballots_offer_nothing : (n : ℕ) (o : Option Stamped) (c : Command) → Ballots n o → o ≡ Some (Offered c) → ⊥
  ballots_offer_nothing n o c h q = subst (λ (u : Option Stamped). Ballots n u) q h

  finals_offer_nothing : (n : ℕ) (o : Option Stamped) (c : Command) → Finals n o → o ≡ Some (Offered c) → ⊥
  finals_offer_nothing n o c h q = subst (λ (u : Option Stamped). Finals n u) q h

  nothing_offered : (o : Option Stamped) (c : Command) → o ≡ None → o ≡ Some (Offered c) → ⊥
  nothing_offered o c p q = cc

  -- no node offers at an event at which no proposer does
  silent : (node : Node) (event : Event) (c : Command) → ((p : ℕ) → (proposer_acts p (proposer_at p es) event).1 ≡ None) → sent_by config es node event ≡ Some (Offered c) → ⊥
  silent (Proposer p) event c f h = nothing_offered (proposer_acts p (proposer_at p es) event).1 c (f p) h
  silent (Coordinator b) event c f h = ballots_offer_nothing (coordinator_at config b es).epoch _ c (coordinator_sends b (coordinator_at config b es) (messages es) event) h
  silent (Acceptor a) event c f h = ballots_offer_nothing (acceptor_at config a es).epoch _ c (acceptor_sends a (acceptor_at config a es) (messages es) event) h
  silent (Learner l) event c f h = finals_offer_nothing (learner_at config l es).epoch _ c (learner_sends l (learner_at config l es) (messages es) event) h

  sends_few : (event : Event) → length (offered (sent_at config es event)) ≤ cond (is_offer event) 1 0
  sends_few (Offer q d) = one_offered (sent_by config es (Proposer q) (Offer q d))
  sends_few (Begin b r) = none_offered (sent_by config es (Coordinator b) (Begin b r)) (λ c h. silent (Coordinator b) (Begin b r) c (λ p. refl) h)
  sends_few (Take node k) = none_offered (sent_by config es node (Take node k)) (λ c h. silent node (Take node k) c (λ p. refl) h)
  sends_few (Fall node what) = none_offered (sent_by config es node (Fall node what)) (λ c h. silent node (Fall node what) c (λ p. refl) h)

  offer_sends : (q : ℕ) (d : DraftView) → sent_by config es (Proposer q) (Offer q d) ≡ Some (Offered (numbered (proposer_at q es) d))
  offer_sends q d = ap (λ b. (cond {A = ProposerState × Option Stamped} b ((proposer_offer (proposer_at q es) d).0, Some (Offered (numbered (proposer_at q es) d))) (proposer_at q es, None)).1) (eq-eqb q q refl)

  -- a command that is sent has the next number of its proposer
  record IsOfferOf (event : Event) (c : Command) : Type 0 where
    proposer : ℕ
    draft : DraftView
    event_is : event ≡ Offer proposer draft
    command_is : numbered (proposer_at proposer es) draft ≡ c

  offer_of : (event : Event) (c : Command) → sent_by config es (node_of event) event ≡ Some (Offered c) → IsOfferOf event c
  offer_of (Offer q d) c h = record {
    proposer = q;
    draft = d;
    event_is = refl;
    command_is = let e : Some (Offered (numbered (proposer_at q es) d)) ≡ Some (Offered c) = sym (offer_sends q d) ∙ h in cc;
  }
  offer_of (Begin b r) c h = absurd (silent (Coordinator b) (Begin b r) c (λ p. refl) h)
  offer_of (Take node k) c h = absurd (silent node (Take node k) c (λ p. refl) h)
  offer_of (Fall node what) c h = absurd (silent node (Fall node what) c (λ p. refl) h)

-- ---- how many were offered, and their identities

few_offered : (config : Counts) (es : List Entry) → Legal config es → length (offered (messages es)) ≤ count_by is_offer (oldest_first es)
unfolding offered
few_offered config [] legal = omega arith
few_offered config (e ∷ es) legal =
    let f = legal.1 in
    let earlier = few_offered config es legal.0 in
    let sent = subst (λ (ms : List Stamped). length (offered ms) ≤ cond (is_offer e.event) 1 0) (sym f.own_messages) (sends_few config es e.event) in
    let all = ap length (offered_append (messages es) e.sent) ∙ length-append (offered (messages es)) (offered e.sent) in
    let counted = ap (count_by is_offer) (events-cons e es) ∙ count_more is_offer (oldest_first es) e.event in
    omega (arith, earlier, sent, all, counted)

own_state : (p : ℕ) (es : List Entry) → ((proposer_at p es).number ≡ p) × ((proposer_at p es).offers ≤ length es)
own_state p [] = (refl, omega arith)
own_state p (e ∷ es) = let a = acts e.event (own_state p es) in let n = a.1 in (a.0, omega (arith, n))
  where
    acts : (event : Event) → ((proposer_at p es).number ≡ p) × ((proposer_at p es).offers ≤ length es) → ((proposer_acts p (proposer_at p es) event).0.number ≡ p) × ((proposer_acts p (proposer_at p es) event).0.offers ≤ length es + 1)
    acts (Offer q d) s = offers (nat_eq p q) s
      where
        offers : (own : Bool) → ((proposer_at p es).number ≡ p) × ((proposer_at p es).offers ≤ length es)
            → ((cond {A = ProposerState × Option Stamped} own ((proposer_offer (proposer_at p es) d).0, Some (Offered (numbered (proposer_at p es) d))) (proposer_at p es, None)).0.number ≡ p)
            × ((cond {A = ProposerState × Option Stamped} own ((proposer_offer (proposer_at p es) d).0, Some (Offered (numbered (proposer_at p es) d))) (proposer_at p es, None)).0.offers ≤ length es + 1)
        offers true s = (s.0, let n = s.1 in omega (arith, n))
        offers false s = (s.0, let n = s.1 in omega (arith, n))
    acts (Begin b r) s = (s.0, let n = s.1 in omega (arith, n))
    acts (Take node k) s = (s.0, let n = s.1 in omega (arith, n))
    acts (Fall node what) s = (s.0, let n = s.1 in omega (arith, n))

-- its proposer is one of the eight, and its number is at most this
abbrev pub IsKnown : ℕ → CommandId → Type 0
IsKnown most id = (id.proposer < 8) × (id.number ≤ most)

sent_known : (config : Counts) (es : List Entry) (e : Entry) → Follows config es e → (c : Command) → Among e.sent (Offered c) → IsKnown (length es + 1) c.id
sent_known config es e f c m =
    let o = offer_of config es e.event c (one_sent (sent_by config es (node_of e.event) e.event) (Offered c) (subst (λ (ms : List Stamped). Among ms (Offered c)) f.own_messages m)) in
    let known : o.proposer < 8 = ltb-true o.proposer 8 (ap (fits config es) (sym o.event_is) ∙ f.event_fits) in
    let own = own_state o.proposer es in
    let few = own.1 in
    let proposer : o.proposer ≡ c.id.proposer = sym own.0 ∙ ap (λ (x : Command). x.id.proposer) o.command_is in
    let number : (proposer_at o.proposer es).offers + 1 ≡ c.id.number = ap (λ (x : Command). x.id.number) o.command_is in
    (subst (λ p. p < 8) proposer known, omega (arith, few, number))

offered_known : (config : Counts) (es : List Entry) → Legal config es → (c : Command) → Among (messages es) (Offered c) → IsKnown (length es) c.id
offered_known config [] legal c m = elim m [ ]
offered_known config (e ∷ es) legal c m = elim (among_append (messages es) e.sent (Offered c) m) [
  | inl a ↦ (let k = offered_known config es legal.0 c a in let n = k.1 in (k.0, omega (arith, n)))
  | inr b ↦ (let k = sent_known config es e legal.1 c b in let n = k.1 in (k.0, omega (arith, n)))
]

-- ---- what a learner holds

-- the commands have identities of this kind
abbrev pub AreKnown : ℕ → List Command → Type 0
AreKnown most [] = Unit {0}
AreKnown most (c ∷ cs) = IsKnown most c.id × AreKnown most cs

all_known : (most : ℕ) (cs : List Command) → ((c : Command) → In cs c → IsKnown most c.id) → AreKnown most cs
all_known most [] known = tt
all_known most (c ∷ cs) known =
    (known c (ap (λ b. b || list_any (same c) cs) (same_itself c)), all_known most cs (λ d i. known d (or_right (same d c) (list_any (same d) cs) i)))
  where
    or_right : (a b : Bool) → b ≡ true → (a || b) ≡ true
    or_right true b e = refl
    or_right false b e = e

pub record IsHeld (config : Counts) (es : List Entry) (l : ℕ) : Type 0 where
  pub few : length (canonical (learned_at config l es)) ≤ count_by is_offer (oldest_first es)
  pub known : AreKnown (length es) (canonical (learned_at config l es))

pub held : (config : Counts) (es : List Entry) → 0 < config.acceptors → Legal config es → (l : ℕ) → IsHeld config es l
held config es some legal l =
    let agreed = agrees config some es legal in
    let h = learned_at config l es in
    let is : IsHistory h = agreed.history [] es refl l in
    let listed : (c : Command) → has h c ≡ list_any (same c) (canonical h) = λ c. ap (λ u. has u c) (sym (canonical_is h is)) ∙ has_history_of (canonical h) c in
    let proposed : (c : Command) → In (canonical h) c → Among (messages es) (Offered c) = λ c i. contains_among (messages es) (Offered c) (agreed.proposed [] es refl l c (listed c ∙ i)) in
    let within = no_longer_lists (canonical h) (offered (messages es)) (canonical_no_repeat h is) (λ c i. in_offered (messages es) c (proposed c i)) in
    let few = few_offered config es legal in
    record {
      few = omega (arith, within, few);
      known = all_known (length es) (canonical h) (λ c i. offered_known config es legal c (proposed c i));
    }
