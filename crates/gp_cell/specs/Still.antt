-- A record that is legal after a list stays legal when records of other nodes follow that list.
use Rattle.std.proofs.Common.{◌≡◌, ℕ, zero, suc, ◌<◌, ◌≤◌, Bool, true, false, cond, ◌&&◌, List, [], ◌∷◌, ◌++◌, length, map, reverse, refl, sym, ap, ◌∙◌, subst, arith, Option, Some, None, inl, inr, length-append}
use Rattle.std.specs.Prelude.{slice_get, nat_eq, nat_lt, ◌≢◌}
use Rattle.std.specs.Option.{option_to_list}
use Rattle.std.proofs.lemmas.List.{reverse-append, map-append}
use Rattle.std.proofs.lemmas.Bool.{ltb-true, lt-ltb}
use Rattle.gp_round.specs.Counts.{Counts}
use Rattle.gp_msg.specs.declared.node.Node.{Node}
use Rattle.gp_msg.specs.declared.node.Node.TheVariants as node
use Rattle.gp_msg.specs.declared.event.Event.{Event}
use Rattle.gp_msg.specs.declared.event.Event.TheVariants.{Offer, Begin, Take, Fall}
use Rattle.gp_msg.specs.declared.event.Kept.{Kept}
use Rattle.gp_msg.specs.declared.event.Kept.TheVariants as kept
use Rattle.gp_msg.specs.declared.record.Record.{Record}
use Rattle.gp_msg.specs.Messages.{Stamped, Entry, entry_of}
use Rattle.gp_coordinator.specs.Epochs as coordinator
use Rattle.gp_coordinator.specs.Epochs.{CoordinatorInEpoch}
use Rattle.gp_acceptor.specs.Epochs as acceptor
use Rattle.gp_acceptor.specs.Epochs.{AcceptorInEpoch}
use Rattle.gp_learner.specs.Epochs as learner
use Rattle.gp_learner.specs.Epochs.{LearnerInEpoch}
use Rattle.gp_run.specs.Messages.{messages, on_message}
use Rattle.gp_msg.specs.Nodes.{is_present, may_keep, fits_among}
use Rattle.gp_run.specs.States.{coordinator_acts, coordinator_kept, acceptor_acts, acceptor_kept, learner_acts}
use Rattle.gp_run.specs.Legal.{fits}
use Rattle.gp_run.specs.Runs.{newest_first}
use Rattle.gp_round.proofs.Counting.{left_true, right_true}
use Rattle.gp_run.proofs.Telling.{messages-append}
use Rattle.gp_wire.specs.Lists.{Each}
use Rattle.gp_wire.specs.Legal.{LegalFrom, IsOfOther}
use Rattle.gp_wire.proofs.SameNodes.{same_tells}
use Rattle.gp_cell.specs.declared.roles.Core.{Core}
use Rattle.gp_cell.specs.declared.roles.Core.TheVariants.{Proposer, Coordinator, Acceptor, Learner}
use Rattle.gp_cell.specs.Cores.{acts, core_at}
use Rattle.gp_cell.specs.Lawful.{IsLawful, paxos_legal}

-- entries of other nodes
abbrev pub AreOthers : Node → List Entry → Type 0
AreOthers n [] = Unit {0}
AreOthers n (e ∷ es) = (e.node ≢ n) × AreOthers n es

pub core_other : (config : Counts) (n : Node) (e : Entry) (es : List Entry) → e.node ≢ n → core_at config n (e ∷ es) ≡ core_at config n es
core_other config n e es other = elim (same_tells n e.node) [
  | inl t ↦ absurd (other (sym t.1))
  | inr t ↦ ap (λ b. cond b (acts n (core_at config n es) (messages es) e.event).0 (core_at config n es)) t.0
]

pub core_still : (config : Counts) (n : Node) (more es : List Entry) → AreOthers n more → core_at config n (more ++ es) ≡ core_at config n es
core_still config n [] es h = refl
core_still config n (e ∷ more) es h = core_other config n e (more ++ es) h.0 ∙ core_still config n more es h.1

get_front : {X : Type 0} (xs ys : List X) (k : ℕ) → k < length xs → slice_get (xs ++ ys) k ≡ slice_get xs k
get_front [] ys k l = absurd (none l) where
  none : k < 0 → ⊥
  none l = omega (arith, l)
get_front (x ∷ xs) ys zero l = refl
get_front (x ∷ xs) ys (suc k) l = get_front xs ys k (omega (arith, l))

no_message : {X : Type 0} (b : Bool) (s t : X) (o : Option Stamped) → o ≡ (cond {A = X × Option Stamped} b (s, o) (t, o)).1
no_message true s t o = refl
no_message false s t o = refl

named_stands : (config : Counts) (n : Node) (k have : ℕ) → fits_among config have (Take n k) ≡ true → k < have
named_stands config n k have h = ltb-true k have (right_true (is_present config n) (nat_lt k have) h)

both : (a b c d : Bool) → (a && b) ≡ true → (a ≡ true → c ≡ true) → (b ≡ true → d ≡ true) → (c && d) ≡ true
both a b c d h f g = λ i. f (left_true a b h) i && g (right_true a b h) i

more_below : (k n m : ℕ) → n ≤ m → nat_lt k n ≡ true → nat_lt k m ≡ true
more_below k n m le h = let l : k < n = ltb-true k n h in lt-ltb k m (omega (arith, l, le))

keeps_among_more : (config : Counts) (n m : ℕ) (x : Node) (what : Option Kept) → n ≤ m → may_keep config n x what ≡ true → may_keep config m x what ≡ true
keeps_among_more config n m (node.Proposer p) what le h = h
keeps_among_more config n m (node.Coordinator c) None le h = h
keeps_among_more config n m (node.Coordinator c) (Some (kept.Begin r)) le h = h
keeps_among_more config n m (node.Coordinator c) (Some (kept.Take k)) le h = more_below k n m le h
keeps_among_more config n m (node.Acceptor a) None le h = h
keeps_among_more config n m (node.Acceptor a) (Some (kept.Begin r)) le h = h
keeps_among_more config n m (node.Acceptor a) (Some (kept.Take k)) le h = more_below k n m le h
keeps_among_more config n m (node.Learner l) None le h = h
keeps_among_more config n m (node.Learner l) (Some what) le h = h

fits_among_more : (config : Counts) (n m : ℕ) (event : Event) → n ≤ m → fits_among config n event ≡ true → fits_among config m event ≡ true
fits_among_more config n m (Offer p d) le h = h
fits_among_more config n m (Begin c r) le h = h
fits_among_more config n m (Take x k) le h = both (is_present config x) (nat_lt k n) (is_present config x) (nat_lt k m) h (λ e. e) (more_below k n m le)
fits_among_more config n m (Fall x what) le h =
    both (is_present config x) (may_keep config n x what) (is_present config x) (may_keep config m x what) h (λ e. e) (keeps_among_more config n m x what le)

coordinator_sends : (config : Counts) (c : ℕ) (s : CoordinatorInEpoch) (ms more : List Stamped) (event : Event) → fits_among config (length ms) event ≡ true → (coordinator_acts c s (ms ++ more) event).1 ≡ (coordinator_acts c s ms event).1
coordinator_sends config c s ms more (Offer p d) h = refl
coordinator_sends config c s ms more (Begin b r) h = refl
coordinator_sends config c s ms more (Take (node.Proposer p) k) h = refl
coordinator_sends config c s ms more (Take (node.Coordinator b) k) h =
    ap (λ o. (cond (nat_eq c b) (on_message (s, None) (coordinator.take s) o) (s, None)).1) (get_front ms more k (named_stands config (node.Coordinator b) k (length ms) h))
coordinator_sends config c s ms more (Take (node.Acceptor a) k) h = refl
coordinator_sends config c s ms more (Take (node.Learner l) k) h = refl
coordinator_sends config c s ms more (Fall (node.Proposer p) what) h = refl
coordinator_sends config c s ms more (Fall (node.Coordinator b) what) h =
    sym (no_message (nat_eq c b) (coordinator.fall s (coordinator_kept s (ms ++ more) what)) s None) ∙ no_message (nat_eq c b) (coordinator.fall s (coordinator_kept s ms what)) s None
coordinator_sends config c s ms more (Fall (node.Acceptor a) what) h = refl
coordinator_sends config c s ms more (Fall (node.Learner l) what) h = refl

acceptor_sends : (config : Counts) (a : ℕ) (s : AcceptorInEpoch) (ms more : List Stamped) (event : Event) → fits_among config (length ms) event ≡ true → (acceptor_acts a s (ms ++ more) event).1 ≡ (acceptor_acts a s ms event).1
acceptor_sends config a s ms more (Offer p d) h = refl
acceptor_sends config a s ms more (Begin c r) h = refl
acceptor_sends config a s ms more (Take (node.Proposer p) k) h = refl
acceptor_sends config a s ms more (Take (node.Coordinator c) k) h = refl
acceptor_sends config a s ms more (Take (node.Acceptor b) k) h =
    ap (λ o. (cond (nat_eq a b) (on_message (s, None) (acceptor.take s) o) (s, None)).1) (get_front ms more k (named_stands config (node.Acceptor b) k (length ms) h))
acceptor_sends config a s ms more (Take (node.Learner l) k) h = refl
acceptor_sends config a s ms more (Fall (node.Proposer p) what) h = refl
acceptor_sends config a s ms more (Fall (node.Coordinator c) what) h = refl
acceptor_sends config a s ms more (Fall (node.Acceptor b) what) h =
    sym (no_message (nat_eq a b) (acceptor.fall s (acceptor_kept s (ms ++ more) what)) s None) ∙ no_message (nat_eq a b) (acceptor.fall s (acceptor_kept s ms what)) s None
acceptor_sends config a s ms more (Fall (node.Learner l) what) h = refl

learner_sends : (config : Counts) (l : ℕ) (s : LearnerInEpoch) (ms more : List Stamped) (event : Event) → fits_among config (length ms) event ≡ true → (learner_acts l s (ms ++ more) event).1 ≡ (learner_acts l s ms event).1
learner_sends config l s ms more (Offer p d) h = refl
learner_sends config l s ms more (Begin c r) h = refl
learner_sends config l s ms more (Take (node.Proposer p) k) h = refl
learner_sends config l s ms more (Take (node.Coordinator c) k) h = refl
learner_sends config l s ms more (Take (node.Acceptor a) k) h = refl
learner_sends config l s ms more (Take (node.Learner i) k) h =
    ap (λ o. (cond (nat_eq l i) (on_message (s, None) (learner.take s) o) (s, None)).1) (get_front ms more k (named_stands config (node.Learner i) k (length ms) h))
learner_sends config l s ms more (Fall (node.Proposer p) what) h = refl
learner_sends config l s ms more (Fall (node.Coordinator c) what) h = refl
learner_sends config l s ms more (Fall (node.Acceptor a) what) h = refl
learner_sends config l s ms more (Fall (node.Learner i) what) h = refl

acts_send : (config : Counts) (n : Node) (core : Core) (ms more : List Stamped) (event : Event) → fits_among config (length ms) event ≡ true → (acts n core (ms ++ more) event).1 ≡ (acts n core ms event).1
acts_send config (node.Proposer p) (Proposer s) ms more event h = refl
acts_send config (node.Proposer p) (Coordinator s) ms more event h = refl
acts_send config (node.Proposer p) (Acceptor s) ms more event h = refl
acts_send config (node.Proposer p) (Learner s) ms more event h = refl
acts_send config (node.Coordinator c) (Proposer s) ms more event h = refl
acts_send config (node.Coordinator c) (Coordinator s) ms more event h = coordinator_sends config c s ms more event h
acts_send config (node.Coordinator c) (Acceptor s) ms more event h = refl
acts_send config (node.Coordinator c) (Learner s) ms more event h = refl
acts_send config (node.Acceptor a) (Proposer s) ms more event h = refl
acts_send config (node.Acceptor a) (Coordinator s) ms more event h = refl
acts_send config (node.Acceptor a) (Acceptor s) ms more event h = acceptor_sends config a s ms more event h
acts_send config (node.Acceptor a) (Learner s) ms more event h = refl
acts_send config (node.Learner l) (Proposer s) ms more event h = refl
acts_send config (node.Learner l) (Coordinator s) ms more event h = refl
acts_send config (node.Learner l) (Acceptor s) ms more event h = refl
acts_send config (node.Learner l) (Learner s) ms more event h = learner_sends config l s ms more event h

pub lawful_still : (config : Counts) (more es : List Entry) (e : Entry) → IsLawful config es e → AreOthers e.node more → IsLawful config (more ++ es) e
lawful_still config more es e f h = record {
  own_node = f.own_node;
  event_fits = fits_more;
  own_messages = f.own_messages ∙ ap option_to_list (sym (
      ap (λ core. (acts e.node core (messages (more ++ es)) e.event).1) (core_still config e.node more es h)
      ∙ ap (λ ms. (acts e.node (core_at config e.node es) ms e.event).1) (messages-append more es)
      ∙ acts_send config e.node (core_at config e.node es) (messages es) (messages more) e.event f.event_fits));
}
  where
    fits_more : fits config (more ++ es) e.event ≡ true
    fits_more =
        let le : length (messages es) ≤ length (messages (more ++ es)) = omega (arith, ap length (messages-append more es), length-append (messages es) (messages more)) in
        fits_among_more config (length (messages es)) (length (messages (more ++ es))) e.event le f.event_fits

-- the later records come first
pub entries_append : (xs ys : List Record) → newest_first (xs ++ ys) ≡ newest_first ys ++ newest_first xs
entries_append xs ys = ap (map entry_of) (reverse-append xs ys) ∙ map-append entry_of (reverse ys) (reverse xs)

others_join : (n : Node) (xs ys : List Entry) → AreOthers n xs → AreOthers n ys → AreOthers n (xs ++ ys)
others_join n [] ys a b = b
others_join n (x ∷ xs) ys a b = (a.0, others_join n xs ys a.1 b)

pub others_in : (x : Record) (ys : List Record) → Each (IsOfOther x) ys → AreOthers x.node (newest_first ys)
others_in x [] o = tt
others_in x (y ∷ ys) o = subst (AreOthers x.node) (sym (entries_append (y ∷ []) ys)) (others_join x.node (newest_first ys) (entry_of y ∷ []) (others_in x ys o.1) (o.0, tt))

pub paxos_stays : (config : Counts) (xs ys : List Record) (x : Record) → paxos_legal config xs x → LegalFrom (paxos_legal config) xs ys → Each (IsOfOther x) ys → paxos_legal config (xs ++ ys) x
paxos_stays config xs ys x may lawful others = subst (λ es. IsLawful config es (entry_of x)) (sym (entries_append xs ys))
    (lawful_still config (newest_first ys) (newest_first xs) (entry_of x) may (others_in x ys others))
