-- The nodes of a run after one more event.
use Rattle.std.proofs.Common.{◌≡◌, ℕ, ◌<◌, ◌≤◌, ◌-◌, ◌^◌, Bool, true, false, cond, List, ◌∷◌, length, refl, sym, ap, ◌∙◌, subst, arith, Some, None}
use Rattle.std.specs.Prelude.{slice_get, nat_eq, Option}
use Rattle.std.specs.Option.{option_and_then}
use Rattle.std.proofs.lemmas.Bool.{eq-eqb, ltb-true}
use Rattle.gp_round.specs.Counts.{Counts}
use Rattle.gp_round.specs.declared.round.Round.{Round}
use Rattle.gp_round.specs.Configs.{is_owner}
use Rattle.gp_msg.specs.declared.node.Node.{Node}
use Rattle.gp_msg.specs.declared.node.Node.TheVariants.{Proposer, Coordinator, Acceptor, Learner}
use Rattle.gp_msg.specs.declared.event.Event.{Event}
use Rattle.gp_msg.specs.declared.event.Event.TheVariants.{Offer, Begin, Take, Fall}
use Rattle.gp_msg.specs.declared.event.Kept.{Kept}
use Rattle.gp_msg.specs.declared.event.Kept.TheVariants as kept
use Rattle.gp_msg.specs.Messages.{Stamped, Offered, InEpoch, Final, Entry, epoch_of}
use Rattle.gp_proposer.specs.State.{ProposerState}
use Rattle.gp_proposer.specs.Table.{proposer_offer}
use Rattle.gp_coordinator.specs.Epochs.{CoordinatorInEpoch}
use Rattle.gp_coordinator.specs.Epochs as coordinator
use Rattle.gp_acceptor.specs.Epochs.{AcceptorInEpoch}
use Rattle.gp_acceptor.specs.Epochs as acceptor
use Rattle.gp_learner.specs.Epochs as learner
use Rattle.gp_run.specs.Messages.{messages, on_message}
use Rattle.gp_msg.specs.Nodes.{node_of, is_present, fits_among}
use Rattle.gp_command.specs.declared.command.TheConstants.{PROPOSERS}
use Rattle.gp_run.specs.States.{proposer_acts, proposer_at, coordinator_acts, coordinator_at, coordinator_after_crash, coordinator_kept, acceptor_after_crash, acceptor_acts, acceptor_at, acceptor_kept, learner_acts, learner_at}
use Rattle.gp_run.specs.Legal.{Legal, fits, sent_by}
use Rattle.gp_run.specs.Refusals.{message_named, refusal_among}
use Rattle.gp_run.specs.Runs.{entry_after}
use Rattle.gp_run.proofs.Fitting.{refused_where, none_tells, node_there}
use Rattle.gp_run.proofs.Running.{offers_below}
use Rattle.gp_agreement.specs.Epochs.{leads_to}
use Rattle.gp_agreement.proofs.Steps.{coordinator_own}
use Rattle.gp_agreement.proofs.EpochCounts.{message_counted}
use Rattle.gp_world.specs.Nodes.{states_below, nodes_at, IsThere}
use Rattle.gp_world.specs.Acting.{offering, after_event, sent_at_event, CanAct, CanOffer, CanBegin, HasRoom}
use Rattle.gp_world.proofs.Numbering.{length-states_below, slice_get-states_below, sent_of-states_below, changed-states_below}

-- the message that an event names
abbrev pub named_in : List Entry → Event → Option Stamped
named_in es event = option_and_then (slice_get (messages es)) (message_named event)

-- ---- choices of pairs

first_of : {X Y : Type 0} (b : Bool) (u v : X × Y) → cond b u.0 v.0 ≡ (cond b u v).0
first_of true u v = refl
first_of false u v = refl

same_first : {X Y : Type 0} (b : Bool) (u v : X × Y) (x : X) → u.0 ≡ x → v.0 ≡ x → x ≡ (cond b u v).0
same_first true u v x h k = sym h
same_first false u v x h k = sym k

second_of : {X Y : Type 0} (i : ℕ) (u v : X × Y) → u.1 ≡ (cond (nat_eq i i) u v).1
second_of i u v = ap (λ b. (cond b u v).1) (sym (eq-eqb i i refl))

no_second : {X Y : Type 0} (b : Bool) (x y : X) (z : Y) → z ≡ (cond {A = X × Y} b (x, z) (y, z)).1
no_second true x y z = refl
no_second false x y z = refl

-- a Final leads on to the next epoch
leads_on : (m : Stamped) → epoch_of m ≤ leads_to m
leads_on (Offered c) = omega arith
leads_on (InEpoch e m) = omega arith
leads_on (Final e l v) = omega arith

-- ---- the states after one more event

module _ (config : Counts) (es : List Entry) where
  -- a coordinator that takes a message, or none
  coordinator_taking : (c k b : ℕ) (m : Stamped) → slice_get (messages es) k ≡ Some m
      → cond (nat_eq b c) (coordinator.take (coordinator_at config b es) m).0 (coordinator_at config b es)
      ≡ (coordinator_acts b (coordinator_at config b es) (messages es) (Take (Coordinator c) k)).0
  coordinator_taking c k b m e =
      let s = coordinator_at config b es in
      first_of (nat_eq b c) (coordinator.take s m) (s, None)
      ∙ ap (λ o. (cond (nat_eq b c) (on_message (s, None) (coordinator.take s) o) (s, None)).0) (sym e)

  coordinator_without : (c k b : ℕ) → slice_get (messages es) k ≡ None → coordinator_at config b es ≡ (coordinator_acts b (coordinator_at config b es) (messages es) (Take (Coordinator c) k)).0
  coordinator_without c k b e =
      let s = coordinator_at config b es in
      same_first (nat_eq b c) (on_message (s, None) (coordinator.take s) (slice_get (messages es) k)) (s, None) s (ap (λ o. (on_message (s, None) (coordinator.take s) o).0) e) refl

  -- an acceptor that takes a message, or none
  acceptor_taking : (a k b : ℕ) (m : Stamped) → slice_get (messages es) k ≡ Some m
      → cond (nat_eq b a) (acceptor.take (acceptor_at config b es) m).0 (acceptor_at config b es)
      ≡ (acceptor_acts b (acceptor_at config b es) (messages es) (Take (Acceptor a) k)).0
  acceptor_taking a k b m e =
      let s = acceptor_at config b es in
      first_of (nat_eq b a) (acceptor.take s m) (s, None)
      ∙ ap (λ o. (cond (nat_eq b a) (on_message (s, None) (acceptor.take s) o) (s, None)).0) (sym e)

  acceptor_without : (a k b : ℕ) → slice_get (messages es) k ≡ None → acceptor_at config b es ≡ (acceptor_acts b (acceptor_at config b es) (messages es) (Take (Acceptor a) k)).0
  acceptor_without a k b e =
      let s = acceptor_at config b es in
      same_first (nat_eq b a) (on_message (s, None) (acceptor.take s) (slice_get (messages es) k)) (s, None) s (ap (λ o. (on_message (s, None) (acceptor.take s) o).0) e) refl

  -- a learner that takes a message, or none
  learner_taking : (l k b : ℕ) (m : Stamped) → slice_get (messages es) k ≡ Some m
      → cond (nat_eq b l) (learner.take (learner_at config b es) m).0 (learner_at config b es)
      ≡ (learner_acts b (learner_at config b es) (messages es) (Take (Learner l) k)).0
  learner_taking l k b m e =
      let s = learner_at config b es in
      first_of (nat_eq b l) (learner.take s m) (s, None)
      ∙ ap (λ o. (cond (nat_eq b l) (on_message (s, None) (learner.take s) o) (s, None)).0) (sym e)

  learner_without : (l k b : ℕ) → slice_get (messages es) k ≡ None → learner_at config b es ≡ (learner_acts b (learner_at config b es) (messages es) (Take (Learner l) k)).0
  learner_without l k b e =
      let s = learner_at config b es in
      same_first (nat_eq b l) (on_message (s, None) (learner.take s) (slice_get (messages es) k)) (s, None) s (ap (λ o. (on_message (s, None) (learner.take s) o).0) e) refl

  takes : (node : Node) (k : ℕ) (o : Option Stamped) → slice_get (messages es) k ≡ o → after_event (nodes_at config es) (Take node k) o ≡ nodes_at config (entry_after config es (Take node k) ∷ es)
  takes (Proposer p) k None e = refl
  takes (Proposer p) k (Some m) e = refl
  takes (Coordinator c) k None e = ap (λ xs. record (nodes_at config es) { coordinators = xs }) (λ i. states_below config.coordinators (λ b. coordinator_without c k b e i))
  takes (Coordinator c) k (Some m) e =
      ap (λ xs. record (nodes_at config es) { coordinators = xs })
      (changed-states_below config.coordinators (λ b. coordinator_at config b es) (λ b. (coordinator_acts b (coordinator_at config b es) (messages es) (Take (Coordinator c) k)).0) c (λ s. (coordinator.take s m).0) (λ b. coordinator_taking c k b m e))
  takes (Acceptor a) k None e = ap (λ xs. record (nodes_at config es) { acceptors = xs }) (λ i. states_below config.acceptors (λ b. acceptor_without a k b e i))
  takes (Acceptor a) k (Some m) e =
      ap (λ xs. record (nodes_at config es) { acceptors = xs })
      (changed-states_below config.acceptors (λ b. acceptor_at config b es) (λ b. (acceptor_acts b (acceptor_at config b es) (messages es) (Take (Acceptor a) k)).0) a (λ s. (acceptor.take s m).0) (λ b. acceptor_taking a k b m e))
  takes (Learner l) k None e = ap (λ xs. record (nodes_at config es) { learners = xs }) (λ i. states_below config.learners (λ b. learner_without l k b e i))
  takes (Learner l) k (Some m) e =
      ap (λ xs. record (nodes_at config es) { learners = xs })
      (changed-states_below config.learners (λ b. learner_at config b es) (λ b. (learner_acts b (learner_at config b es) (messages es) (Take (Learner l) k)).0) l (λ s. (learner.take s m).0) (λ b. learner_taking l k b m e))

  -- the durable part that is left is the one that is kept
  coordinator_leaves : (node : Node) (s : CoordinatorInEpoch) (what : Option Kept) → coordinator_after_crash s what (named_in es (Fall node what)) ≡ coordinator_kept s (messages es) what
  coordinator_leaves node s None = refl
  coordinator_leaves node s (Some (kept.Begin r)) = refl
  coordinator_leaves node s (Some (kept.Take k)) = refl

  acceptor_leaves : (node : Node) (s : AcceptorInEpoch) (what : Option Kept) → acceptor_after_crash s what (named_in es (Fall node what)) ≡ acceptor_kept s (messages es) what
  acceptor_leaves node s None = refl
  acceptor_leaves node s (Some (kept.Begin r)) = refl
  acceptor_leaves node s (Some (kept.Take k)) = refl

  coordinator_falling : (c b : ℕ) (what : Option Kept)
      → cond (nat_eq b c) (coordinator.fall (coordinator_at config b es) (coordinator_after_crash (coordinator_at config b es) what (named_in es (Fall (Coordinator c) what)))) (coordinator_at config b es)
      ≡ (coordinator_acts b (coordinator_at config b es) (messages es) (Fall (Coordinator c) what)).0
  coordinator_falling c b what =
      let s = coordinator_at config b es in
      let nothing : Option Stamped = None in
      first_of (nat_eq b c) (coordinator.fall s (coordinator_after_crash s what (named_in es (Fall (Coordinator c) what))), nothing) (s, nothing)
      ∙ ap (λ part. (cond {A = CoordinatorInEpoch × Option Stamped} (nat_eq b c) (coordinator.fall s part, nothing) (s, nothing)).0) (coordinator_leaves (Coordinator c) s what)

  acceptor_falling : (a b : ℕ) (what : Option Kept)
      → cond (nat_eq b a) (acceptor.fall (acceptor_at config b es) (acceptor_after_crash (acceptor_at config b es) what (named_in es (Fall (Acceptor a) what)))) (acceptor_at config b es)
      ≡ (acceptor_acts b (acceptor_at config b es) (messages es) (Fall (Acceptor a) what)).0
  acceptor_falling a b what =
      let s = acceptor_at config b es in
      let nothing : Option Stamped = None in
      first_of (nat_eq b a) (acceptor.fall s (acceptor_after_crash s what (named_in es (Fall (Acceptor a) what))), nothing) (s, nothing)
      ∙ ap (λ part. (cond {A = AcceptorInEpoch × Option Stamped} (nat_eq b a) (acceptor.fall s part, nothing) (s, nothing)).0) (acceptor_leaves (Acceptor a) s what)

  -- what an event makes of the nodes of a run are those of the run with its entry
  pub stepped : (event : Event) → after_event (nodes_at config es) event (named_in es event) ≡ nodes_at config (entry_after config es event ∷ es)
  stepped (Offer p d) =
      ap (λ xs. record (nodes_at config es) { proposers = xs })
      (changed-states_below PROPOSERS (λ q. proposer_at q es) (λ q. (proposer_acts q (proposer_at q es) (Offer p d)).0) p (λ s. (proposer_offer s d).0) (λ q. first_of (nat_eq q p) (offering (proposer_at q es) d) (proposer_at q es, None)))
  stepped (Begin c r) =
      ap (λ xs. record (nodes_at config es) { coordinators = xs })
      (changed-states_below config.coordinators (λ b. coordinator_at config b es) (λ b. (coordinator_acts b (coordinator_at config b es) (messages es) (Begin c r)).0) c (λ s. (coordinator.begin s r).0) (λ b. first_of (nat_eq b c) (coordinator.begin (coordinator_at config b es) r) (coordinator_at config b es, None)))
  stepped (Take node k) = takes node k (slice_get (messages es) k) refl
  stepped (Fall (Proposer p) what) = refl
  stepped (Fall (Coordinator c) what) =
      ap (λ xs. record (nodes_at config es) { coordinators = xs })
      (changed-states_below config.coordinators (λ b. coordinator_at config b es) (λ b. (coordinator_acts b (coordinator_at config b es) (messages es) (Fall (Coordinator c) what)).0) c (λ s. coordinator.fall s (coordinator_after_crash s what (named_in es (Fall (Coordinator c) what)))) (λ b. coordinator_falling c b what))
  stepped (Fall (Acceptor a) what) =
      ap (λ xs. record (nodes_at config es) { acceptors = xs })
      (changed-states_below config.acceptors (λ b. acceptor_at config b es) (λ b. (acceptor_acts b (acceptor_at config b es) (messages es) (Fall (Acceptor a) what)).0) a (λ s. acceptor.fall s (acceptor_after_crash s what (named_in es (Fall (Acceptor a) what)))) (λ b. acceptor_falling a b what))
  stepped (Fall (Learner l) what) =
      ap (λ xs. record (nodes_at config es) { learners = xs })
      (changed-states_below config.learners (λ b. learner_at config b es) (λ b. (learner_acts b (learner_at config b es) (messages es) (Fall (Learner l) what)).0) l learner.fall (λ b. let nothing : Option Stamped = None in first_of (nat_eq b l) (learner.fall (learner_at config b es), nothing) (learner_at config b es, nothing)))

  -- ---- what is sent

  sends_taking : (node : Node) (k : ℕ) (o : Option Stamped) → is_present config node ≡ true → slice_get (messages es) k ≡ o → sent_at_event (nodes_at config es) (Take node k) o ≡ sent_by config es node (Take node k)
  sends_taking (Proposer p) k None h e = refl
  sends_taking (Proposer p) k (Some m) h e = refl
  sends_taking (Coordinator c) k None h e =
      let s = coordinator_at config c es in
      ap (λ o. (on_message (s, None) (coordinator.take s) o).1) (sym e) ∙ second_of c (on_message (s, None) (coordinator.take s) (slice_get (messages es) k)) (s, None)
  sends_taking (Coordinator c) k (Some m) h e =
      let s = coordinator_at config c es in
      sent_of-states_below config.coordinators (λ b. coordinator_at config b es) c (λ x. coordinator.take x m) (ltb-true c config.coordinators h)
      ∙ ap (λ o. (on_message (s, None) (coordinator.take s) o).1) (sym e)
      ∙ second_of c (on_message (s, None) (coordinator.take s) (slice_get (messages es) k)) (s, None)
  sends_taking (Acceptor a) k None h e =
      let s = acceptor_at config a es in
      ap (λ o. (on_message (s, None) (acceptor.take s) o).1) (sym e) ∙ second_of a (on_message (s, None) (acceptor.take s) (slice_get (messages es) k)) (s, None)
  sends_taking (Acceptor a) k (Some m) h e =
      let s = acceptor_at config a es in
      sent_of-states_below config.acceptors (λ b. acceptor_at config b es) a (λ x. acceptor.take x m) (ltb-true a config.acceptors h)
      ∙ ap (λ o. (on_message (s, None) (acceptor.take s) o).1) (sym e)
      ∙ second_of a (on_message (s, None) (acceptor.take s) (slice_get (messages es) k)) (s, None)
  sends_taking (Learner l) k None h e =
      let s = learner_at config l es in
      ap (λ o. (on_message (s, None) (learner.take s) o).1) (sym e) ∙ second_of l (on_message (s, None) (learner.take s) (slice_get (messages es) k)) (s, None)
  sends_taking (Learner l) k (Some m) h e =
      let s = learner_at config l es in
      sent_of-states_below config.learners (λ b. learner_at config b es) l (λ x. learner.take x m) (ltb-true l config.learners h)
      ∙ ap (λ o. (on_message (s, None) (learner.take s) o).1) (sym e)
      ∙ second_of l (on_message (s, None) (learner.take s) (slice_get (messages es) k)) (s, None)

  pub sends : (event : Event) → fits config es event ≡ true → sent_at_event (nodes_at config es) event (named_in es event) ≡ sent_by config es (node_of event) event
  sends (Offer p d) h =
      sent_of-states_below PROPOSERS (λ q. proposer_at q es) p (λ s. offering s d) (ltb-true p PROPOSERS h)
      ∙ second_of p (offering (proposer_at p es) d) (proposer_at p es, None)
  sends (Begin c r) h =
      sent_of-states_below config.coordinators (λ b. coordinator_at config b es) c (λ s. coordinator.begin s r) (ltb-true c config.coordinators (node_there config (length (messages es)) (Begin c r) h))
      ∙ second_of c (coordinator.begin (coordinator_at config c es) r) (coordinator_at config c es, None)
  sends (Take node k) h = sends_taking node k (slice_get (messages es) k) (node_there config (length (messages es)) (Take node k) h) refl
  sends (Fall (Proposer p) what) h = refl
  sends (Fall (Coordinator c) what) h = no_second (nat_eq c c) (coordinator.fall (coordinator_at config c es) (coordinator_kept (coordinator_at config c es) (messages es) what)) (coordinator_at config c es) None
  sends (Fall (Acceptor a) what) h = no_second (nat_eq a a) (acceptor.fall (acceptor_at config a es) (acceptor_kept (acceptor_at config a es) (messages es) what)) (acceptor_at config a es) None
  sends (Fall (Learner l) what) h = no_second (nat_eq l l) (learner.fall (learner_at config l es)) (learner_at config l es) None

  -- ---- what the nodes can do

  there : (node : Node) → is_present config node ≡ true → IsThere (nodes_at config es) node
  there (Proposer p) h = let l : p < PROPOSERS = ltb-true p PROPOSERS h in omega (arith, l, length-states_below PROPOSERS (λ q. proposer_at q es))
  there (Coordinator c) h = let l : c < config.coordinators = ltb-true c config.coordinators h in omega (arith, l, length-states_below config.coordinators (λ b. coordinator_at config b es))
  there (Acceptor a) h = let l : a < config.acceptors = ltb-true a config.acceptors h in omega (arith, l, length-states_below config.acceptors (λ b. acceptor_at config b es))
  there (Learner i) h = let l : i < config.learners = ltb-true i config.learners h in omega (arith, l, length-states_below config.learners (λ b. learner_at config b es))

  can_offer : (p : ℕ) → p < PROPOSERS → length es < 2 ^ 31 → CanOffer (nodes_at config es).proposers p
  can_offer p l few s e =
      let own : Some (proposer_at p es) ≡ Some s = sym (slice_get-states_below PROPOSERS (λ q. proposer_at q es) p l) ∙ e in
      let same : proposer_at p es ≡ s = cc in
      let many = offers_below p es in
      subst (λ (x : ProposerState). x.offers < 2 ^ 32 - 1) same (omega (arith, many, few))

  can_begin : (c : ℕ) (r : Round) → c < config.coordinators → is_owner config.coordinators c r ≡ true → CanBegin (nodes_at config es).coordinators c r
  can_begin c r l owner s e =
      let own : Some (coordinator_at config c es) ≡ Some s = sym (slice_get-states_below config.coordinators (λ b. coordinator_at config b es) c l) ∙ e in
      let same : coordinator_at config c es ≡ s = cc in
      let own_state = coordinator_own config c es in
      subst (λ (x : CoordinatorInEpoch). is_owner x.state.config.coordinators x.state.number r ≡ true) same
      ((λ i. is_owner (own_state.own_config i).coordinators (own_state.own_number i) r) ∙ owner)

  module _ (legal : Legal config es) (few : length es < 2 ^ 31) where
    -- a message that was sent leads to no epoch that a node cannot have
    has_room : (o : Option ℕ) (m : Option Stamped) → option_and_then (slice_get (messages es)) o ≡ m → HasRoom m
    has_room o None e = tt
    has_room None (Some m) e = absurd cc
    has_room (Some k) (Some m) e =
        let l = message_counted config es legal k m e in
        omega (arith, l, few, leads_on m)

    pub can_act : (event : Event) → fits config es event ≡ true → CanAct (nodes_at config es) event (named_in es event)
    can_act (Offer p d) h = (there (Proposer p) h, can_offer p (ltb-true p PROPOSERS h) few)
    can_act (Begin c r) h =
        let here = node_there config (length (messages es)) (Begin c r) h in
        (there (Coordinator c) here, can_begin c r (ltb-true c config.coordinators here) h)
    can_act (Take node k) h = (there node (node_there config (length (messages es)) (Take node k) h), has_room (Some k) (named_in es (Take node k)) refl)
    can_act (Fall node what) h = (there node (node_there config (length (messages es)) (Fall node what) h), has_room (message_named (Fall node what)) (named_in es (Fall node what)) refl)

-- an event without a refusal fits
pub unrefused_fits : (config : Counts) (have : ℕ) (event : Event) → refusal_among config have event ≡ None → fits_among config have event ≡ true
unrefused_fits config have event h = sym (refused_where config have event) ∙ none_tells _ h
