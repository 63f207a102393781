-- A phase in which proposers alone offer.
use Rattle.std.proofs.Common.{◌≡◌, ◌<◌, ◌≤◌, ◌+◌, ◌^◌, inl, inr, ⊎_elim, ℕ, Bool, true, false, cond, List, [], ◌∷◌, ◌++◌, map, length, nat_eq, refl, sym, subst, ap, ◌∙◌, arith, Option, Some, None, append_assoc}
use Rattle.std.specs.Prelude.{slice_get}
use Rattle.std.proofs.lemmas.List.{append-nil, length-map}
use Rattle.std.proofs.lemmas.Bool.{eq-eqb, cases_lt}
use Rattle.gp_command.specs.Views.{DraftView}
use Rattle.gp_round.specs.Counts.{Counts}
use Rattle.gp_msg.specs.declared.message.Msg.{Msg}
use Rattle.gp_msg.specs.declared.node.Node.{Node}
use Rattle.gp_msg.specs.declared.node.Node.TheVariants as node
use Rattle.gp_msg.specs.declared.event.Event.{Event}
use Rattle.gp_msg.specs.Messages.{EpochPart}
use Rattle.gp_vlog.specs.Logs.{LogState}
use Rattle.gp_wire.specs.Known.{WireState, records}
use Rattle.gp_wire.specs.Lists.{Each}
use Rattle.gp_edge.specs.Faults.{Rose}
use Rattle.gp_cell.specs.declared.rules.PaxosRules.{PaxosRules}
use Rattle.gp_wire.specs.Own.{own, own_events, event_in}
use Rattle.gp_cell.specs.Cores.{opening, part_in}
use Rattle.gp_work.specs.declared.job.Job.{Job}
use Rattle.gp_work.specs.declared.moves.Move.{Move}
use Rattle.gp_work.specs.declared.moves.Move.TheVariants as move
use Rattle.gp_work.specs.Doing.{ProcessState, have, Posted}
use Rattle.gp_work.specs.Moves.{event_of, Does, Takes, AllFit, is_offer}
use Rattle.gp_work.specs.Batches.{times, is_read, AreRead}
use Rattle.gp_work.specs.Jobs.{Done}
use Rattle.gp_cell.specs.Cells.{CellState, Keeps}
use Rattle.gp_cell.specs.Refusals.{faults_of}
use Rattle.gp_cell.specs.Working.{process_of, causes_of, is_up}
use Rattle.gp_node.specs.Phases.{IsReadyJob, IsWorkedJob}
use Rattle.gp_phase.proofs.Deeds.{offered_plain}
use Rattle.gp_phase.proofs.Phasing.{done_of}
use Rattle.gp_seats.specs.Seats.{IsNewAt}
use Rattle.gp_seats.specs.Offering.{is_proposer, moves_of, given_to, IsDone, HasOffered}

-- ---- the moves of a node

fits_more : (config : Counts) (p : ℕ) (d : DraftView) (b : Bool) (ms : List Move) → AllFit config (node.Proposer p) ms → AllFit config (node.Proposer p) (cond b (move.Offer d ∷ []) [] ++ ms)
fits_more config p d true ms h = (tt, h)
fits_more config p d false ms h = h

pub all_fit : (config : Counts) (n : Node) (os : List (ℕ × DraftView)) → AllFit config n (moves_of n os)
all_fit config n [] = tt
all_fit config (node.Proposer p) (o ∷ os) = fits_more config p o.1 (nat_eq p o.0) (moves_of (node.Proposer p) os) (all_fit config (node.Proposer p) os)
all_fit config (node.Coordinator c) (o ∷ os) = all_fit config (node.Coordinator c) os
all_fit config (node.Acceptor a) (o ∷ os) = all_fit config (node.Acceptor a) os
all_fit config (node.Learner l) (o ∷ os) = all_fit config (node.Learner l) os

offers_more : (d : DraftView) (b : Bool) (ms : List Move) → Each (λ m. is_offer m ≡ true) ms → Each (λ m. is_offer m ≡ true) (cond b (move.Offer d ∷ []) [] ++ ms)
offers_more d true ms h = (refl, h)
offers_more d false ms h = h

pub all_offers : (n : Node) (os : List (ℕ × DraftView)) → Each (λ m. is_offer m ≡ true) (moves_of n os)
all_offers n [] = tt
all_offers n (o ∷ os) = offers_more o.1 (is_proposer n o.0) (moves_of n os) (all_offers n os)

pub length_more : (d : DraftView) (b : Bool) (ms : List Move) → length (cond b (move.Offer d ∷ []) [] ++ ms) ≡ cond b 1 0 + length ms
length_more d true ms = omega arith
length_more d false ms = omega arith

at_most_one : (b : Bool) → cond b 1 0 ≤ 1
at_most_one true = omega arith
at_most_one false = omega arith

pub few_moves : (n : Node) (os : List (ℕ × DraftView)) → length (moves_of n os) ≤ length os
few_moves n [] = omega arith
few_moves n (o ∷ os) = let a = length_more o.1 (is_proposer n o.0) (moves_of n os) in let b = at_most_one (is_proposer n o.0) in let h = few_moves n os in omega arith

-- one offer more
pub moves_more : (n : Node) (os : List (ℕ × DraftView)) (o : ℕ × DraftView) → moves_of n (os ++ o ∷ []) ≡ moves_of n os ++ cond (is_proposer n o.0) (move.Offer o.1 ∷ []) []
moves_more n [] o = append-nil (cond (is_proposer n o.0) (move.Offer o.1 ∷ []) [])
moves_more n (x ∷ os) o = ap (λ l. cond (is_proposer n x.0) (move.Offer x.1 ∷ []) [] ++ l) (moves_more n os o) ∙ sym (append_assoc (cond (is_proposer n x.0) (move.Offer x.1 ∷ []) []) (moves_of n os) (cond (is_proposer n o.0) (move.Offer o.1 ∷ []) []))

-- ---- what a node posts

reads_none : (p : ℕ) (o : Option Msg) → cond {A = ℕ} (is_read (node.Proposer p) o) 1 0 ≡ 0
reads_none p None = refl
reads_none p (Some m) = refl

none_read : (p : ℕ) (ms : List Msg) (a b : ℕ) (ks : List ℕ) → AreRead (node.Proposer p) ms a b ks → (k : ℕ) → times k ks ≡ 0
none_read p ms a b ks r k = ⊎_elim (λ l. r.before k l) (λ l. ⊎_elim (λ u. r.each k l u ∙ reads_none p (slice_get ms k)) (λ u. r.behind k u) (cases_lt k b)) (cases_lt k a)

no_number : (ks : List ℕ) → ((k : ℕ) → times k ks ≡ 0) → ks ≡ []
no_number [] h = refl
no_number (k ∷ ks) h = absurd (let here = h k in let one : cond {A = ℕ} (nat_eq k k) 1 0 ≡ 1 = ap (λ b. cond {A = ℕ} b 1 0) (eq-eqb k k refl) in omega arith)

-- a proposer reads nothing
pub reads_nothing : (p : ℕ) (n : Node) (ms : List Msg) (a b : ℕ) (ks : List ℕ) → n ≡ node.Proposer p → AreRead n ms a b ks → ks ≡ []
reads_nothing p n ms a b ks e r = no_number ks (none_read p ms a b ks (subst (λ m. AreRead m ms a b ks) e r))

pub posts_offers : (p : ProcessState) (i : ℕ) (ms : List Move) (cursor : ℕ) (q : ProcessState) (behind : ℕ) → p.node ≡ node.Proposer i → Each (λ m. is_offer m ≡ true) ms → Done p false ms cursor q false behind → Posted p q (map (event_of p.node) ms)
posts_offers p i ms cursor q behind e are d = d.posts ∙ (λ k. own_events p.node p.list ++ (made k ++ none.0 k)) ∙ ap (λ l. own_events p.node p.list ++ l) (append-nil (map (event_of p.node) ms))
  where
    none : (d.took ≡ []) × (false ≡ d.mid)
    none = subst (λ ks. Takes p.node ks d.took d.mid false) (reads_nothing i p.node _ cursor behind d.ks e d.read) d.takes

    made : d.made ≡ map (event_of p.node) ms
    made = offered_plain p.node (have p) (have q) ms d.made are (subst (λ m. Does p.node (have p) (have q) ms d.made false m) (sym none.1) d.moves)

-- ---- a proposer has no disk that could fail

not_up : (down : Option Move) → is_up down ≡ true → down ≡ None
not_up None e = refl
not_up (Some m) e = absurd (let wrong : false ≡ true = e in cc)

module _ {D : Type 0} where
  keeps_none : (core : Option EpochPart) (log : Option (LogState D)) → Keeps None core log → log ≡ None
  keeps_none None None h = refl
  keeps_none None (Some l) h = absurd h
  keeps_none (Some c) None h = absurd h
  keeps_none (Some c) (Some l) h = absurd h

  pub no_log : (config : Counts) (n : Node) (i : ℕ) (core : Option EpochPart) (log : Option (LogState D)) → n ≡ node.Proposer i → Keeps (part_in (opening config n)) core log → log ≡ None
  no_log config n i core log e h = keeps_none core log (subst (λ m. Keeps (part_in (opening config m)) core log) e h)

  not_risen : (before : ℕ) (log : Option (LogState D)) (faults : D → ℕ) (g : Bool) → log ≡ None → (g ≡ true → Rose before (faults_of faults log)) → g ≡ false
  not_risen before log faults false e h = refl
  not_risen before log faults true e h = absurd (let rose : Rose before 0 = subst (λ l. Rose before (faults_of faults l)) e (h refl) in omega arith)

  -- a new job of a proposer that was given its offers and did them
  pub has_offered : (content : D → Option (List ℕ)) (faults : D → ℕ) (wire : WireState PaxosRules) (os : List (ℕ × DraftView)) (i : ℕ) (j k : Job (CellState D)) → IsNewAt faults wire j → j.cell.node ≡ node.Proposer i → IsWorkedJob content faults wire (given_to os j) k → IsDone k → HasOffered faults wire os j k
  has_offered content faults wire os i j k new e w done = record {
    own = w.own;
    goes = w.stretch.goes;
    posts = posts_offers (process_of faults j.cell) i (moves_of j.cell.node os) j.cursor (process_of faults k.cell) k.cursor e (all_offers j.cell.node os)
        (subst (λ g. Done (process_of faults j.cell) false (moves_of j.cell.node os) j.cursor (process_of faults k.cell) g k.cursor) still (subst (λ f. Done (process_of faults j.cell) f (moves_of j.cell.node os) j.cursor (process_of faults k.cell) k.risen k.cursor) new.risen whole));
    up = whole.up;
    fault = done.0;
    first = w.first;
    risen = still;
  }
    where
      whole : Done (process_of faults j.cell) j.risen (moves_of j.cell.node os) j.cursor (process_of faults k.cell) k.risen k.cursor
      whole = done_of (causes_of content k.cell) (process_of faults j.cell) j.risen (moves_of j.cell.node os) j.cursor (process_of faults k.cell) k.risen k.cursor k.fault done.0 w.ends

      log : k.cell.log ≡ None
      log = no_log k.cell.config k.cell.node i (part_in k.cell.core) k.cell.log (w.stretch.goes.node ∙ e) (done.1 (not_up k.cell.down whole.up))

      still : k.risen ≡ false
      still = not_risen (faults_of faults j.cell.log) k.cell.log faults k.risen log (w.stretch.turned new.risen)

  -- a new job that is given its offers can be done
  pub ready : (faults : D → ℕ) (wire : WireState PaxosRules) (os : List (ℕ × DraftView)) (j : Job (CellState D)) → length os < 2 ^ 32 → IsNewAt faults wire j → IsReadyJob faults wire (given_to os j)
  ready faults wire os j few new = record {
    fault = new.fault;
    own = new.own;
    up = new.up;
    fits = all_fit j.cell.config j.cell.node os;
    room = λ offer. let none = sym (length-map (own j.cell.node (records j.cell.pass)) event_in) ∙ ap length new.nothing in let moves = few_moves j.cell.node os in omega arith;
  }
