-- What a move makes of a core is what its event does at the node.
use Rattle.std.proofs.Common.{◌≡◌, ℕ, ◌+◌, ◌≤◌, Bool, true, false, cond, List, [], ◌∷◌, refl, sym, ap, ◌∙◌, subst, arith, Option, Some, None, eq-eqb}
use Rattle.std.specs.Prelude.{slice_get, nat_eq}
use Rattle.gp_round.specs.Counts.{Counts}
use Rattle.gp_round.specs.Configs.{is_owner}
use Rattle.gp_msg.specs.declared.node.Node.{Node}
use Rattle.gp_msg.specs.declared.node.Node.TheVariants as node
use Rattle.gp_msg.specs.declared.event.Event.{Event}
use Rattle.gp_msg.specs.Messages.{Stamped, maybe_stamped, Entry}
use Rattle.gp_proposer.specs.State.{ProposerState}
use Rattle.gp_proposer.specs.Table as proposer
use Rattle.gp_coordinator.specs.Epochs as coordinator
use Rattle.gp_coordinator.specs.Epochs.{CoordinatorInEpoch}
use Rattle.gp_acceptor.specs.Epochs as acceptor
use Rattle.gp_acceptor.specs.Epochs.{AcceptorInEpoch}
use Rattle.gp_learner.specs.Epochs as learner
use Rattle.gp_learner.specs.Epochs.{LearnerInEpoch}
use Rattle.gp_run.specs.Messages.{messages, on_message}
use Rattle.gp_run.proofs.Running.{offers_after}
use Rattle.gp_cell.proofs.Owning.{acts_same}
use Rattle.gp_work.specs.declared.moves.Move.{Move}
use Rattle.gp_work.specs.declared.moves.Move.TheVariants.{Offer, Begin, Take}
use Rattle.gp_msg.specs.Nodes.{same_node}
use Rattle.gp_work.specs.Moves.{event_of, Fits, HasRoom}
use Rattle.gp_cell.specs.declared.roles.Core.{Core}
use Rattle.gp_cell.specs.declared.roles.Core.TheVariants.{Proposer, Coordinator, Acceptor, Learner}
use Rattle.gp_cell.specs.Cores.{opening, acts, core_at}
use Rattle.gp_cell.specs.Plans.{HasRole, took_if, planned, CanPlan, named}

pub same_number : (n : ℕ) → nat_eq n n ≡ true
same_number n = eq-eqb n n refl

-- ---- the core is one of the node's role

opening_role : (config : Counts) (n : Node) → HasRole n (opening config n)
opening_role config (node.Proposer p) = tt
opening_role config (node.Coordinator c) = tt
opening_role config (node.Acceptor a) = tt
opening_role config (node.Learner l) = tt

pub acts_role : (n : Node) (core : Core) (ms : List Stamped) (e : Event) → HasRole n core → HasRole n (acts n core ms e).0
acts_role (node.Proposer p) (Proposer s) ms e h = tt
acts_role (node.Proposer p) (Coordinator s) ms e h = h
acts_role (node.Proposer p) (Acceptor s) ms e h = h
acts_role (node.Proposer p) (Learner s) ms e h = h
acts_role (node.Coordinator c) (Proposer s) ms e h = h
acts_role (node.Coordinator c) (Coordinator s) ms e h = tt
acts_role (node.Coordinator c) (Acceptor s) ms e h = h
acts_role (node.Coordinator c) (Learner s) ms e h = h
acts_role (node.Acceptor a) (Proposer s) ms e h = h
acts_role (node.Acceptor a) (Coordinator s) ms e h = h
acts_role (node.Acceptor a) (Acceptor s) ms e h = tt
acts_role (node.Acceptor a) (Learner s) ms e h = h
acts_role (node.Learner l) (Proposer s) ms e h = h
acts_role (node.Learner l) (Coordinator s) ms e h = h
acts_role (node.Learner l) (Acceptor s) ms e h = h
acts_role (node.Learner l) (Learner s) ms e h = tt

pub core_role : (config : Counts) (n : Node) (es : List Entry) → HasRole n (core_at config n es)
core_role config n [] = opening_role config n
core_role config n (e ∷ es) = by_test (same_node n e.node) (core_role config n es)
  where
    by_test : (b : Bool) → HasRole n (core_at config n es) → HasRole n (cond b (acts n (core_at config n es) (messages es) e.event).0 (core_at config n es))
    by_test true h = acts_role n (core_at config n es) (messages es) e.event h
    by_test false h = h

-- ---- a move and its event

proposer_takes : (s : ProposerState) (o : Option Stamped) → ◌≡◌ {A = Core × Option Stamped} (Proposer s, None) (took_if (Proposer s) o)
proposer_takes s None = refl
proposer_takes s (Some m) = refl

coordinator_takes : (s : CoordinatorInEpoch) (o : Option Stamped) → ◌≡◌ {A = Core × Option Stamped} (Coordinator (on_message (s, None) (coordinator.take s) o).0, (on_message (s, None) (coordinator.take s) o).1) (took_if (Coordinator s) o)
coordinator_takes s None = refl
coordinator_takes s (Some m) = refl

acceptor_takes : (s : AcceptorInEpoch) (o : Option Stamped) → ◌≡◌ {A = Core × Option Stamped} (Acceptor (on_message (s, None) (acceptor.take s) o).0, (on_message (s, None) (acceptor.take s) o).1) (took_if (Acceptor s) o)
acceptor_takes s None = refl
acceptor_takes s (Some m) = refl

learner_takes : (s : LearnerInEpoch) (o : Option Stamped) → ◌≡◌ {A = Core × Option Stamped} (Learner (on_message (s, None) (learner.take s) o).0, (on_message (s, None) (learner.take s) o).1) (took_if (Learner s) o)
learner_takes s None = refl
learner_takes s (Some m) = refl

pub acts_planned : (config : Counts) (n : Node) (core : Core) (mv : Move) (ms : List Stamped) → HasRole n core → Fits config n mv → acts n core ms (event_of n mv) ≡ planned core mv (named ms mv)
acts_planned config (node.Proposer p) (Proposer s) (Offer d) ms h f = ap (λ b. let x = cond {A = ProposerState × Option Stamped} b ((proposer.proposer_offer s d).0, maybe_stamped 0 (proposer.proposer_offer s d).1) (s, None) in (Proposer x.0, x.1)) (same_number p)
acts_planned config (node.Proposer p) (Proposer s) (Begin r) ms h f = absurd f
acts_planned config (node.Proposer p) (Proposer s) (Take k) ms h f = proposer_takes s (slice_get ms k)
acts_planned config (node.Proposer p) (Coordinator s) mv ms h f = absurd h
acts_planned config (node.Proposer p) (Acceptor s) mv ms h f = absurd h
acts_planned config (node.Proposer p) (Learner s) mv ms h f = absurd h
acts_planned config (node.Coordinator c) (Proposer s) mv ms h f = absurd h
acts_planned config (node.Coordinator c) (Coordinator s) (Offer d) ms h f = absurd f
acts_planned config (node.Coordinator c) (Coordinator s) (Begin r) ms h f = ap (λ b. let x = cond b (coordinator.begin s r) (s, None) in (Coordinator x.0, x.1)) (same_number c)
acts_planned config (node.Coordinator c) (Coordinator s) (Take k) ms h f =
    ap (λ b. let x = cond b (on_message (s, None) (coordinator.take s) (slice_get ms k)) (s, None) in (Coordinator x.0, x.1)) (same_number c) ∙ coordinator_takes s (slice_get ms k)
acts_planned config (node.Coordinator c) (Acceptor s) mv ms h f = absurd h
acts_planned config (node.Coordinator c) (Learner s) mv ms h f = absurd h
acts_planned config (node.Acceptor a) (Proposer s) mv ms h f = absurd h
acts_planned config (node.Acceptor a) (Coordinator s) mv ms h f = absurd h
acts_planned config (node.Acceptor a) (Acceptor s) (Offer d) ms h f = absurd f
acts_planned config (node.Acceptor a) (Acceptor s) (Begin r) ms h f = absurd f
acts_planned config (node.Acceptor a) (Acceptor s) (Take k) ms h f =
    ap (λ b. let x = cond b (on_message (s, None) (acceptor.take s) (slice_get ms k)) (s, None) in (Acceptor x.0, x.1)) (same_number a) ∙ acceptor_takes s (slice_get ms k)
acts_planned config (node.Acceptor a) (Learner s) mv ms h f = absurd h
acts_planned config (node.Learner l) (Proposer s) mv ms h f = absurd h
acts_planned config (node.Learner l) (Coordinator s) mv ms h f = absurd h
acts_planned config (node.Learner l) (Acceptor s) mv ms h f = absurd h
acts_planned config (node.Learner l) (Learner s) (Offer d) ms h f = absurd f
acts_planned config (node.Learner l) (Learner s) (Begin r) ms h f = absurd f
acts_planned config (node.Learner l) (Learner s) (Take k) ms h f =
    ap (λ b. let x = cond b (on_message (s, None) (learner.take s) (slice_get ms k)) (s, None) in (Learner x.0, x.1)) (same_number l) ∙ learner_takes s (slice_get ms k)

-- ---- a core can make the moves that fit its node

-- a coordinator has its configuration and its number, and a proposer has had no more offers than this
abbrev Knows : Counts → Node → ℕ → Core → Type 0
Knows config (node.Proposer p) most (Proposer s) = s.offers ≤ most
Knows config (node.Coordinator c) most (Coordinator s) = (s.state.config ≡ config) × (s.state.number ≡ c)
Knows config n most core = Unit {0}

-- how many entries are of the node
abbrev pub own_entries : Node → List Entry → ℕ
own_entries n [] = 0
own_entries n (e ∷ es) = cond (same_node n e.node) 1 0 + own_entries n es

opening_knows : (config : Counts) (n : Node) → Knows config n 0 (opening config n)
opening_knows config (node.Proposer p) = omega arith
opening_knows config (node.Coordinator c) = (refl, refl)
opening_knows config (node.Acceptor a) = tt
opening_knows config (node.Learner l) = tt

acts_knows : (config : Counts) (n : Node) (most : ℕ) (core : Core) (ms : List Stamped) (e : Event) → Knows config n most core → Knows config n (1 + most) (acts n core ms e).0
acts_knows config (node.Proposer p) most (Proposer s) ms e h = let x = offers_after p s e most h in omega arith
acts_knows config (node.Proposer p) most (Coordinator s) ms e h = tt
acts_knows config (node.Proposer p) most (Acceptor s) ms e h = tt
acts_knows config (node.Proposer p) most (Learner s) ms e h = tt
acts_knows config (node.Coordinator c) most (Proposer s) ms e h = tt
acts_knows config (node.Coordinator c) most (Coordinator s) ms e h = let x = acts_same c s ms e in (x.config_is ∙ h.0, x.number_is ∙ h.1)
acts_knows config (node.Coordinator c) most (Acceptor s) ms e h = tt
acts_knows config (node.Coordinator c) most (Learner s) ms e h = tt
acts_knows config (node.Acceptor a) most (Proposer s) ms e h = tt
acts_knows config (node.Acceptor a) most (Coordinator s) ms e h = tt
acts_knows config (node.Acceptor a) most (Acceptor s) ms e h = tt
acts_knows config (node.Acceptor a) most (Learner s) ms e h = tt
acts_knows config (node.Learner l) most (Proposer s) ms e h = tt
acts_knows config (node.Learner l) most (Coordinator s) ms e h = tt
acts_knows config (node.Learner l) most (Acceptor s) ms e h = tt
acts_knows config (node.Learner l) most (Learner s) ms e h = tt

core_knows : (config : Counts) (n : Node) (es : List Entry) → Knows config n (own_entries n es) (core_at config n es)
core_knows config n [] = opening_knows config n
core_knows config n (e ∷ es) = by_test (same_node n e.node) (core_knows config n es)
  where
    by_test : (b : Bool) → Knows config n (own_entries n es) (core_at config n es)
        → Knows config n (cond b 1 0 + own_entries n es) (cond b (acts n (core_at config n es) (messages es) e.event).0 (core_at config n es))
    by_test true h = acts_knows config n (own_entries n es) (core_at config n es) (messages es) e.event h
    by_test false h = subst (λ k. Knows config n k (core_at config n es)) (omega arith) h

can_take : (core : Core) (k : ℕ) → CanPlan core (Take k)
can_take (Proposer s) k = tt
can_take (Coordinator s) k = tt
can_take (Acceptor s) k = tt
can_take (Learner s) k = tt

can : (config : Counts) (n : Node) (most : ℕ) (core : Core) (mv : Move) → HasRole n core → Knows config n most core → Fits config n mv → HasRoom most mv → CanPlan core mv
can config (node.Proposer p) most (Proposer s) (Offer d) h k f r = omega arith
can config (node.Proposer p) most (Proposer s) (Begin x) h k f r = f
can config (node.Coordinator c) most (Coordinator s) (Offer d) h k f r = f
can config (node.Coordinator c) most (Coordinator s) (Begin x) h k f r = subst (λ m. is_owner s.state.config.coordinators m x ≡ true) (sym k.1) (subst (λ g. is_owner g.coordinators c x ≡ true) (sym k.0) f)
can config (node.Acceptor a) most (Acceptor s) (Offer d) h k f r = f
can config (node.Acceptor a) most (Acceptor s) (Begin x) h k f r = f
can config (node.Learner l) most (Learner s) (Offer d) h k f r = f
can config (node.Learner l) most (Learner s) (Begin x) h k f r = f
can config n most core (Take j) h k f r = can_take core j
can config (node.Proposer p) most (Coordinator s) (Offer d) h k f r = absurd h
can config (node.Proposer p) most (Coordinator s) (Begin x) h k f r = absurd h
can config (node.Proposer p) most (Acceptor s) (Offer d) h k f r = absurd h
can config (node.Proposer p) most (Acceptor s) (Begin x) h k f r = absurd h
can config (node.Proposer p) most (Learner s) (Offer d) h k f r = absurd h
can config (node.Proposer p) most (Learner s) (Begin x) h k f r = absurd h
can config (node.Coordinator c) most (Proposer s) (Offer d) h k f r = absurd h
can config (node.Coordinator c) most (Proposer s) (Begin x) h k f r = absurd h
can config (node.Coordinator c) most (Acceptor s) (Offer d) h k f r = absurd h
can config (node.Coordinator c) most (Acceptor s) (Begin x) h k f r = absurd h
can config (node.Coordinator c) most (Learner s) (Offer d) h k f r = absurd h
can config (node.Coordinator c) most (Learner s) (Begin x) h k f r = absurd h
can config (node.Acceptor a) most (Proposer s) (Offer d) h k f r = absurd h
can config (node.Acceptor a) most (Proposer s) (Begin x) h k f r = absurd h
can config (node.Acceptor a) most (Coordinator s) (Offer d) h k f r = absurd h
can config (node.Acceptor a) most (Coordinator s) (Begin x) h k f r = absurd h
can config (node.Acceptor a) most (Learner s) (Offer d) h k f r = absurd h
can config (node.Acceptor a) most (Learner s) (Begin x) h k f r = absurd h
can config (node.Learner l) most (Proposer s) (Offer d) h k f r = absurd h
can config (node.Learner l) most (Proposer s) (Begin x) h k f r = absurd h
can config (node.Learner l) most (Coordinator s) (Offer d) h k f r = absurd h
can config (node.Learner l) most (Coordinator s) (Begin x) h k f r = absurd h
can config (node.Learner l) most (Acceptor s) (Offer d) h k f r = absurd h
can config (node.Learner l) most (Acceptor s) (Begin x) h k f r = absurd h

-- a core can make the moves that fit its node
pub can_plan : (config : Counts) (n : Node) (es : List Entry) (mv : Move) → Fits config n mv → HasRoom (own_entries n es) mv → CanPlan (core_at config n es) mv
can_plan config n es mv f r = can config n (own_entries n es) (core_at config n es) mv (core_role config n es) (core_knows config n es) f r
