-- The phase of a proposer's job.
use Rattle.std.proofs.Common.{◌≡◌, ℕ, ◌+◌, ◌≤◌, true, false, cond, List, [], ◌∷◌, ◌++◌, map, refl, sym, ap, ◌∙◌, subst, inl, inr, ⊎_elim, arith, Option, Some, None}
use Rattle.std.specs.Prelude.{slice_get, ◌-◌, ◌^◌, min}
use Rattle.std.proofs.lemmas.List.{append-nil}
use Rattle.std.proofs.lemmas.Bool.{eq-eqb, cases_lt}
use Rattle.gp_msg.specs.declared.node.Node.{Node}
use Rattle.gp_msg.specs.declared.node.Node.TheVariants.{Proposer, Coordinator, Acceptor, Learner}
use Rattle.gp_msg.specs.declared.event.Event.{Event}
use Rattle.gp_msg.specs.declared.event.Event.TheVariants as event
use Rattle.gp_msg.specs.declared.message.Msg.{Msg}
use Rattle.gp_wire.specs.Lists.{Each}
use Rattle.gp_msg.specs.Records.{messages_in}
use Rattle.gp_wire.specs.Own.{own_events}
use Rattle.gp_work.specs.declared.moves.Move.{Move}
use Rattle.gp_work.specs.declared.moves.Move.TheVariants.{Offer, Begin, Take}
use Rattle.gp_work.specs.Moves.{event_of, is_offer, Does, Takes}
use Rattle.gp_work.specs.Doing.{ProcessState, have}
use Rattle.gp_work.specs.Batches.{is_read, times, AreRead}
use Rattle.gp_work.specs.Jobs.{Done}
use Rattle.gp_phase.specs.Deeds.{takes_in}
use Rattle.gp_phase.proofs.Deeds.{mid_false, offered_plain}
use Rattle.gp_round.specs.Counts.{Counts}
use Rattle.gp_msg.specs.Messages.{EpochPart}
use Rattle.gp_vlog.specs.Logs.{LogState}
use Rattle.gp_cell.specs.Cores.{opening, part_in}
use Rattle.gp_work.specs.declared.job.Job.{Job}
use Rattle.gp_cell.specs.Cells.{CellState, Keeps}
use Rattle.gp_cell.specs.Refusals.{faults_of}
use Rattle.gp_cell.specs.Working.{process_of}
use Rattle.gp_cell.proofs.Acts.{up_is}
use Rattle.gp_ending.specs.Quiet.{IsFall, IsOffer}
use Rattle.gp_ending.specs.Ended.{is_proposer, IsSteady}

-- the events of moves
abbrev pub events_of : Node → List Move → List Event
events_of n ms = map (λ m. event_of n m) ms

-- ---- moves that are offers

pub are_offers : (n : Node) (ms : List Move) → Each (λ m. is_offer m ≡ true) ms → Each IsOffer (events_of n ms)
are_offers n [] o = tt
are_offers n (Offer d ∷ ms) o = (tt, are_offers n ms o.1)
are_offers n (Begin r ∷ ms) o = absurd (let wrong : false ≡ true = o.0 in cc)
are_offers n (Take k ∷ ms) o = absurd (let wrong : false ≡ true = o.0 in cc)

pub no_takes : (n : Node) (ms : List Move) → Each (λ m. is_offer m ≡ true) ms → takes_in (events_of n ms) ≡ []
no_takes n [] o = refl
no_takes n (Offer d ∷ ms) o = no_takes n ms o.1
no_takes n (Begin r ∷ ms) o = absurd (let wrong : false ≡ true = o.0 in cc)
no_takes n (Take k ∷ ms) o = absurd (let wrong : false ≡ true = o.0 in cc)

pub offer_is_no_fall : (e : Event) → IsOffer e → ¬ IsFall e
offer_is_no_fall (event.Offer p d) o f = f
offer_is_no_fall (event.Begin c r) o f = f
offer_is_no_fall (event.Take n k) o f = f
offer_is_no_fall (event.Fall n kept) o f = o

-- ---- a proposer reads nothing

reads_nothing : (n : Node) (m : Option Msg) → is_proposer n ≡ true → is_read n m ≡ false
reads_nothing (Proposer p) None e = refl
reads_nothing (Proposer p) (Some m) e = refl
reads_nothing (Coordinator c) m e = absurd (let wrong : false ≡ true = e in cc)
reads_nothing (Acceptor a) m e = absurd (let wrong : false ≡ true = e in cc)
reads_nothing (Learner l) m e = absurd (let wrong : false ≡ true = e in cc)

stands_there : (k : ℕ) (ks : List ℕ) → times k (k ∷ ks) ≡ 0 → ⊥
stands_there k ks h = let one : times k (k ∷ ks) ≡ 1 + times k ks = ap (λ b. cond b 1 0 + times k ks) (eq-eqb k k refl) in omega arith

pub none_read : (n : Node) (ms : List Msg) (a b : ℕ) (ks : List ℕ) → is_proposer n ≡ true → AreRead n ms a b ks → ks ≡ []
none_read n ms a b [] e r = refl
none_read n ms a b (k ∷ ks) e r = absurd (stands_there k ks (⊎_elim
    (λ below. r.before k below)
    (λ from. ⊎_elim (λ within. r.each k from within ∙ ap (λ x. cond x 1 0) (reads_nothing n (slice_get ms k) e)) (λ behind. r.behind k behind) (cases_lt k b))
    (cases_lt k a)))

pub none_is_read : (n : Node) (ms : List Msg) (b : ℕ) → is_proposer n ≡ true → AreRead n ms 0 b []
none_is_read n ms b e = record {
  each = λ k from within. sym (ap (λ x. cond x 1 0) (reads_nothing n (slice_get ms k) e));
  before = λ k below. refl;
  behind = λ k far. refl;
}

-- ---- the phase

-- a proposer whose disk did not fail has made its offers, and nothing else
pub offers_made : (p : ProcessState) (first : List Move) (cursor : ℕ) (q : ProcessState) (behind : ℕ) → is_proposer p.node ≡ true → Each (λ m. is_offer m ≡ true) first
    → own_events p.node p.list ≡ [] → Done p false first cursor q false behind → own_events q.node q.list ≡ events_of p.node first
offers_made p first cursor q behind e o none d =
    let mid : d.mid ≡ false = mid_false p.node d.ks d.took d.mid d.takes in
    let made : d.made ≡ events_of p.node first = offered_plain p.node (have p) (have q) first d.made o (subst (λ m. Does p.node (have p) (have q) first d.made false m) mid d.moves) in
    let took : d.took ≡ [] = (subst (λ ks. Takes p.node ks d.took d.mid false) (none_read p.node (messages_in q.list) cursor behind d.ks e d.read) d.takes).0 in
    d.posts ∙ (λ i. none i ++ (made i ++ took i)) ∙ append-nil (events_of p.node first)

-- ---- no disk

no_log : {D : Type 0} (part : Option EpochPart) (log : Option (LogState D)) → Keeps None part log → log ≡ None
no_log None None k = refl
no_log None (Some log) k = absurd k
no_log (Some part) None k = absurd k
no_log (Some part) (Some log) k = absurd k

no_part : (config : Counts) (n : Node) → is_proposer n ≡ true → part_in (opening config n) ≡ None
no_part config (Proposer p) e = refl
no_part config (Coordinator c) e = absurd (let wrong : false ≡ true = e in cc)
no_part config (Acceptor a) e = absurd (let wrong : false ≡ true = e in cc)
no_part config (Learner l) e = absurd (let wrong : false ≡ true = e in cc)

-- a proposer that is up has no disk that could have failed
pub no_disk : {D : Type 0} (faults : D → ℕ) (j k : Job (CellState D)) → is_proposer k.cell.node ≡ true → (process_of faults k.cell).up ≡ true
    → (k.cell.down ≡ None → Keeps (part_in (opening k.cell.config k.cell.node)) (part_in k.cell.core) k.cell.log) → IsSteady faults j k
no_disk faults j k e up kept rose =
    let keeps = subst (λ p. Keeps p (part_in k.cell.core) k.cell.log) (no_part k.cell.config k.cell.node e) (kept (up_is k.cell.down up)) in
    let none : faults_of faults k.cell.log ≡ 0 = ap (faults_of faults) (no_log (part_in k.cell.core) k.cell.log keeps) in
    let risen : min (faults_of faults j.cell.log + 1) (2 ^ 64 - 1) ≤ 0 = subst (λ n. min (faults_of faults j.cell.log + 1) (2 ^ 64 - 1) ≤ n) none rose in
    omega (arith, risen)
