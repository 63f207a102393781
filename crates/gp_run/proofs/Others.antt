-- What the events of other nodes leave as it is.
use Rattle.std.proofs.Common.{◌≡◌, ℕ, zero, suc, ◌<◌, ◌≤◌, Bool, true, false, cond, ◌&&◌, List, [], ◌∷◌, ◌++◌, length, refl, sym, ap, ◌∙◌, arith, Some, None, inl, inr, length-append}
use Rattle.std.specs.Prelude.{slice_get, nat_eq, nat_lt, Option, ◌≢◌}
use Rattle.std.specs.Option.{option_to_list}
use Rattle.std.proofs.lemmas.Bool.{ltb-true, lt-ltb}
use Rattle.std.proofs.lemmas.Bool.Decides.{eqb_tells}
use Rattle.gp_round.specs.Counts.{Counts}
use Rattle.gp_msg.specs.declared.node.Node.{Node}
use Rattle.gp_msg.specs.declared.node.Node.TheVariants.{Proposer, Coordinator, Acceptor, Learner}
use Rattle.gp_msg.specs.declared.event.Event.{Event}
use Rattle.gp_msg.specs.declared.event.Event.TheVariants.{Offer, Begin, Take, Fall}
use Rattle.gp_msg.specs.declared.event.Kept.{Kept}
use Rattle.gp_msg.specs.declared.event.Kept.TheVariants as kept
use Rattle.gp_msg.specs.Messages.{Stamped, Entry}
use Rattle.gp_proposer.specs.State.{ProposerState}
use Rattle.gp_coordinator.specs.Epochs.{CoordinatorInEpoch}
use Rattle.gp_coordinator.specs.Epochs as coordinator
use Rattle.gp_acceptor.specs.Epochs.{AcceptorInEpoch}
use Rattle.gp_acceptor.specs.Epochs as acceptor
use Rattle.gp_learner.specs.Epochs.{LearnerInEpoch}
use Rattle.gp_learner.specs.Epochs as learner
use Rattle.gp_round.proofs.Counting.{left_true, right_true}
use Rattle.gp_run.specs.Messages.{messages, on_message}
use Rattle.gp_msg.specs.Nodes.{node_of, is_present, may_keep, fits_among}
use Rattle.gp_run.specs.States.{proposer_acts, proposer_at, coordinator_acts, coordinator_at, coordinator_kept, acceptor_acts, acceptor_at, acceptor_kept, learner_acts, learner_at}
use Rattle.gp_run.specs.Legal.{Follows, fits, sent_by}
use Rattle.gp_run.specs.Runs.{AreOfOthers}
use Rattle.gp_run.proofs.Telling.{messages-append}

-- ---- one event of another node

pub other : {X : Type 0} (a b : ℕ) (u v : X) → (a ≡ b → ⊥) → cond (nat_eq a b) u v ≡ v
other a b u v n = elim (eqb_tells a b) [ inl t ↦ absurd (n t.1) | inr t ↦ ap (λ x. cond x u v) t.0 ]

pub proposer_rests : (p : ℕ) (s : ProposerState) (event : Event) → node_of event ≢ Proposer p → proposer_acts p s event ≡ (s, None)
proposer_rests p s (Offer q d) n = other p q _ _ (λ e. n (ap Proposer (sym e)))
proposer_rests p s (Begin c r) n = refl
proposer_rests p s (Take node k) n = refl
proposer_rests p s (Fall node what) n = refl

pub coordinator_rests : (c : ℕ) (s : CoordinatorInEpoch) (ms : List Stamped) (event : Event) → node_of event ≢ Coordinator c → coordinator_acts c s ms event ≡ (s, None)
coordinator_rests c s ms (Offer p d) n = refl
coordinator_rests c s ms (Begin b r) n = other c b _ _ (λ e. n (ap Coordinator (sym e)))
coordinator_rests c s ms (Take (Proposer p) k) n = refl
coordinator_rests c s ms (Take (Coordinator b) k) n = other c b _ _ (λ e. n (ap Coordinator (sym e)))
coordinator_rests c s ms (Take (Acceptor a) k) n = refl
coordinator_rests c s ms (Take (Learner l) k) n = refl
coordinator_rests c s ms (Fall (Proposer p) what) n = refl
coordinator_rests c s ms (Fall (Coordinator b) what) n = other c b _ _ (λ e. n (ap Coordinator (sym e)))
coordinator_rests c s ms (Fall (Acceptor a) what) n = refl
coordinator_rests c s ms (Fall (Learner l) what) n = refl

pub acceptor_rests : (a : ℕ) (s : AcceptorInEpoch) (ms : List Stamped) (event : Event) → node_of event ≢ Acceptor a → acceptor_acts a s ms event ≡ (s, None)
acceptor_rests a s ms (Offer p d) n = refl
acceptor_rests a s ms (Begin c r) n = refl
acceptor_rests a s ms (Take (Proposer p) k) n = refl
acceptor_rests a s ms (Take (Coordinator c) k) n = refl
acceptor_rests a s ms (Take (Acceptor b) k) n = other a b _ _ (λ e. n (ap Acceptor (sym e)))
acceptor_rests a s ms (Take (Learner l) k) n = refl
acceptor_rests a s ms (Fall (Proposer p) what) n = refl
acceptor_rests a s ms (Fall (Coordinator c) what) n = refl
acceptor_rests a s ms (Fall (Acceptor b) what) n = other a b _ _ (λ e. n (ap Acceptor (sym e)))
acceptor_rests a s ms (Fall (Learner l) what) n = refl

pub learner_rests : (l : ℕ) (s : LearnerInEpoch) (ms : List Stamped) (event : Event) → node_of event ≢ Learner l → learner_acts l s ms event ≡ (s, None)
learner_rests l s ms (Offer p d) n = refl
learner_rests l s ms (Begin c r) n = refl
learner_rests l s ms (Take (Proposer p) k) n = refl
learner_rests l s ms (Take (Coordinator c) k) n = refl
learner_rests l s ms (Take (Acceptor a) k) n = refl
learner_rests l s ms (Take (Learner i) k) n = other l i _ _ (λ e. n (ap Learner (sym e)))
learner_rests l s ms (Fall (Proposer p) what) n = refl
learner_rests l s ms (Fall (Coordinator c) what) n = refl
learner_rests l s ms (Fall (Acceptor a) what) n = refl
learner_rests l s ms (Fall (Learner i) what) n = other l i _ _ (λ e. n (ap Learner (sym e)))

-- ---- many

pub proposer_stays : (p : ℕ) (more es : List Entry) → AreOfOthers (Proposer p) more → proposer_at p (more ++ es) ≡ proposer_at p es
proposer_stays p [] es h = refl
proposer_stays p (e ∷ more) es h = ap (λ u. u.0) (proposer_rests p (proposer_at p (more ++ es)) e.event h.0) ∙ proposer_stays p more es h.1

pub coordinator_stays : (config : Counts) (c : ℕ) (more es : List Entry) → AreOfOthers (Coordinator c) more → coordinator_at config c (more ++ es) ≡ coordinator_at config c es
coordinator_stays config c [] es h = refl
coordinator_stays config c (e ∷ more) es h =
    ap (λ u. u.0) (coordinator_rests c (coordinator_at config c (more ++ es)) (messages (more ++ es)) e.event h.0) ∙ coordinator_stays config c more es h.1

pub acceptor_stays : (config : Counts) (a : ℕ) (more es : List Entry) → AreOfOthers (Acceptor a) more → acceptor_at config a (more ++ es) ≡ acceptor_at config a es
acceptor_stays config a [] es h = refl
acceptor_stays config a (e ∷ more) es h =
    ap (λ u. u.0) (acceptor_rests a (acceptor_at config a (more ++ es)) (messages (more ++ es)) e.event h.0) ∙ acceptor_stays config a more es h.1

pub learner_stays : (config : Counts) (l : ℕ) (more es : List Entry) → AreOfOthers (Learner l) more → learner_at config l (more ++ es) ≡ learner_at config l es
learner_stays config l [] es h = refl
learner_stays config l (e ∷ more) es h =
    ap (λ u. u.0) (learner_rests l (learner_at config l (more ++ es)) (messages (more ++ es)) e.event h.0) ∙ learner_stays config l more es h.1

-- ---- what follows still does

pub front : {X : Type 0} (xs ys : List X) (k : ℕ) → k < length xs → slice_get (xs ++ ys) k ≡ slice_get xs k
front [] ys k l = absurd (none l) where
  none : k < 0 → ⊥
  none l = omega (arith, l)
front (x ∷ xs) ys zero l = refl
front (x ∷ xs) ys (suc k) l = front xs ys k (omega (arith, l))

both : (a b c d : Bool) → (a && b) ≡ true → (a ≡ true → c ≡ true) → (b ≡ true → d ≡ true) → (c && d) ≡ true
both a b c d h f g = λ i. f (left_true a b h) i && g (right_true a b h) i

more_below : (k n m : ℕ) → n ≤ m → nat_lt k n ≡ true → nat_lt k m ≡ true
more_below k n m le h = let l : k < n = ltb-true k n h in lt-ltb k m (omega (arith, l, le))

keeps_among_more : (config : Counts) (n m : ℕ) (node : Node) (what : Option Kept) → n ≤ m → may_keep config n node what ≡ true → may_keep config m node what ≡ true
keeps_among_more config n m (Proposer p) what le h = h
keeps_among_more config n m (Coordinator c) None le h = h
keeps_among_more config n m (Coordinator c) (Some (kept.Begin r)) le h = h
keeps_among_more config n m (Coordinator c) (Some (kept.Take k)) le h = more_below k n m le h
keeps_among_more config n m (Acceptor a) None le h = h
keeps_among_more config n m (Acceptor a) (Some (kept.Begin r)) le h = h
keeps_among_more config n m (Acceptor a) (Some (kept.Take k)) le h = more_below k n m le h
keeps_among_more config n m (Learner l) None le h = h
keeps_among_more config n m (Learner l) (Some what) le h = h

fits_among_more : (config : Counts) (n m : ℕ) (event : Event) → n ≤ m → fits_among config n event ≡ true → fits_among config m event ≡ true
fits_among_more config n m (Offer p d) le h = h
fits_among_more config n m (Begin c r) le h = h
fits_among_more config n m (Take node k) le h = both (is_present config node) (nat_lt k n) (is_present config node) (nat_lt k m) h (λ e. e) (more_below k n m le)
fits_among_more config n m (Fall node what) le h =
    both (is_present config node) (may_keep config n node what) (is_present config node) (may_keep config m node what) h (λ e. e) (keeps_among_more config n m node what le)

no_message : {X : Type 0} (b : Bool) (s t : X) (o : Option Stamped) → o ≡ (cond {A = X × Option Stamped} b (s, o) (t, o)).1
no_message true s t o = refl
no_message false s t o = refl

-- a named message that was sent is also among more messages
pub named_stands : (config : Counts) (node : Node) (k n : ℕ) → fits_among config n (Take node k) ≡ true → k < n
named_stands config node k n h = ltb-true k n (right_true (is_present config node) (nat_lt k n) h)

coordinator_sends : (config : Counts) (c : ℕ) (s : CoordinatorInEpoch) (ms more : List Stamped) (event : Event) → fits_among config (length ms) event ≡ true → (coordinator_acts c s (ms ++ more) event).1 ≡ (coordinator_acts c s ms event).1
coordinator_sends config c s ms more (Offer p d) h = refl
coordinator_sends config c s ms more (Begin b r) h = refl
coordinator_sends config c s ms more (Take (Proposer p) k) h = refl
coordinator_sends config c s ms more (Take (Coordinator b) k) h =
    ap (λ o. (cond (nat_eq c b) (on_message (s, None) (coordinator.take s) o) (s, None)).1) (front ms more k (named_stands config (Coordinator b) k (length ms) h))
coordinator_sends config c s ms more (Take (Acceptor a) k) h = refl
coordinator_sends config c s ms more (Take (Learner l) k) h = refl
coordinator_sends config c s ms more (Fall (Proposer p) what) h = refl
coordinator_sends config c s ms more (Fall (Coordinator b) what) h =
    sym (no_message (nat_eq c b) (coordinator.fall s (coordinator_kept s (ms ++ more) what)) s None) ∙ no_message (nat_eq c b) (coordinator.fall s (coordinator_kept s ms what)) s None
coordinator_sends config c s ms more (Fall (Acceptor a) what) h = refl
coordinator_sends config c s ms more (Fall (Learner l) what) h = refl

acceptor_sends : (config : Counts) (a : ℕ) (s : AcceptorInEpoch) (ms more : List Stamped) (event : Event) → fits_among config (length ms) event ≡ true → (acceptor_acts a s (ms ++ more) event).1 ≡ (acceptor_acts a s ms event).1
acceptor_sends config a s ms more (Offer p d) h = refl
acceptor_sends config a s ms more (Begin c r) h = refl
acceptor_sends config a s ms more (Take (Proposer p) k) h = refl
acceptor_sends config a s ms more (Take (Coordinator c) k) h = refl
acceptor_sends config a s ms more (Take (Acceptor b) k) h =
    ap (λ o. (cond (nat_eq a b) (on_message (s, None) (acceptor.take s) o) (s, None)).1) (front ms more k (named_stands config (Acceptor b) k (length ms) h))
acceptor_sends config a s ms more (Take (Learner l) k) h = refl
acceptor_sends config a s ms more (Fall (Proposer p) what) h = refl
acceptor_sends config a s ms more (Fall (Coordinator c) what) h = refl
acceptor_sends config a s ms more (Fall (Acceptor b) what) h =
    sym (no_message (nat_eq a b) (acceptor.fall s (acceptor_kept s (ms ++ more) what)) s None) ∙ no_message (nat_eq a b) (acceptor.fall s (acceptor_kept s ms what)) s None
acceptor_sends config a s ms more (Fall (Learner l) what) h = refl

learner_sends : (config : Counts) (l : ℕ) (s : LearnerInEpoch) (ms more : List Stamped) (event : Event) → fits_among config (length ms) event ≡ true → (learner_acts l s (ms ++ more) event).1 ≡ (learner_acts l s ms event).1
learner_sends config l s ms more (Offer p d) h = refl
learner_sends config l s ms more (Begin c r) h = refl
learner_sends config l s ms more (Take (Proposer p) k) h = refl
learner_sends config l s ms more (Take (Coordinator c) k) h = refl
learner_sends config l s ms more (Take (Acceptor a) k) h = refl
learner_sends config l s ms more (Take (Learner i) k) h =
    ap (λ o. (cond (nat_eq l i) (on_message (s, None) (learner.take s) o) (s, None)).1) (front ms more k (named_stands config (Learner i) k (length ms) h))
learner_sends config l s ms more (Fall (Proposer p) what) h = refl
learner_sends config l s ms more (Fall (Coordinator c) what) h = refl
learner_sends config l s ms more (Fall (Acceptor a) what) h = refl
learner_sends config l s ms more (Fall (Learner i) what) h = refl

module _ (config : Counts) (more es : List Entry) (event : Event) (fit : fits config es event ≡ true) where
  sends_still : (node : Node) → AreOfOthers node more → sent_by config (more ++ es) node event ≡ sent_by config es node event
  sends_still (Proposer p) h = ap (λ s. (proposer_acts p s event).1) (proposer_stays p more es h)
  sends_still (Coordinator c) h =
      ap (λ s. (coordinator_acts c s (messages (more ++ es)) event).1) (coordinator_stays config c more es h)
      ∙ ap (λ ms. (coordinator_acts c (coordinator_at config c es) ms event).1) (messages-append more es)
      ∙ coordinator_sends config c (coordinator_at config c es) (messages es) (messages more) event fit
  sends_still (Acceptor a) h =
      ap (λ s. (acceptor_acts a s (messages (more ++ es)) event).1) (acceptor_stays config a more es h)
      ∙ ap (λ ms. (acceptor_acts a (acceptor_at config a es) ms event).1) (messages-append more es)
      ∙ acceptor_sends config a (acceptor_at config a es) (messages es) (messages more) event fit
  sends_still (Learner l) h =
      ap (λ s. (learner_acts l s (messages (more ++ es)) event).1) (learner_stays config l more es h)
      ∙ ap (λ ms. (learner_acts l (learner_at config l es) ms event).1) (messages-append more es)
      ∙ learner_sends config l (learner_at config l es) (messages es) (messages more) event fit

  fits_still : fits config (more ++ es) event ≡ true
  fits_still =
      let le : length (messages es) ≤ length (messages (more ++ es)) = omega (arith, ap length (messages-append more es), length-append (messages es) (messages more)) in
      fits_among_more config (length (messages es)) (length (messages (more ++ es))) event le fit

-- an entry that may come next may still come next after entries of other nodes
pub follows_still : (config : Counts) (more es : List Entry) (e : Entry) → Follows config es e → AreOfOthers (node_of e.event) more → Follows config (more ++ es) e
follows_still config more es e f h = record {
  own_node = f.own_node;
  event_fits = fits_still config more es e.event f.event_fits;
  own_messages = f.own_messages ∙ ap option_to_list (sym (sends_still config more es e.event f.event_fits (node_of e.event) h));
}
