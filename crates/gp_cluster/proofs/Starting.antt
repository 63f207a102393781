-- The jobs of nodes to which nothing has happened, and their logs.
use Rattle.std.proofs.Common.{◌≡◌, ◌<◌, inl, inr, ℕ, zero, suc, true, false, List, [], ◌∷◌, ◌++◌, length, get_or, refl, sym, ap, ◌∙◌, arith}
use Rattle.std.specs.Option.{option_to_list}
use Rattle.gp_round.specs.Counts.{Counts}
use Rattle.gp_msg.specs.declared.node.Node.{Node}
use Rattle.gp_msg.specs.declared.node.Node.TheVariants as node
use Rattle.gp_vlog.specs.Logs.{LogState}
use Rattle.gp_wire.specs.Lists.{Has}
use Rattle.gp_wire.specs.Known.{WireState, PassState}
use Rattle.gp_cell.specs.declared.rules.PaxosRules.{PaxosRules}
use Rattle.gp_cell.specs.Cores.{opening, part_in}
use Rattle.gp_cell.specs.Cells.{IsFreshLog}
use Rattle.gp_ending.specs.Begins.{leader}
use Rattle.gp_ending.specs.Ended.{is_proposer, nodes_of, cells_of, AreNodesOf}
use Rattle.gp_seats.specs.declared.nodes.Role.{Role}
use Rattle.gp_seats.specs.declared.nodes.Role.TheVariants.{Acceptor, Coordinator, Learner, Proposer}
use Rattle.gp_seats.specs.Nodes.{node_of, first_of, logged_nodes, working_nodes, proposer_nodes}
use Rattle.gp_seats.specs.Seats.{CanSit, first_log, later_logs, new_passes, seats}
use Rattle.gp_seats.proofs.Listing.{first_has, all_distinct, all_present, present_working, present_proposers}
use Rattle.gp_cluster.specs.Cells.{logs_of}
use Rattle.gp_seats.proofs.Sitting.{length_first}
use Rattle.gp_wire.proofs.Words.{has_either}

-- ---- nodes

pub seated_nodes : {D : Type 0} (config : Counts) (wire : WireState PaxosRules) (ns : List Node) (logs : List (LogState D)) → nodes_of (seats config (new_passes wire ns) logs) ≡ ns
seated_nodes config wire [] logs = refl
seated_nodes config wire (n ∷ ns) logs = ap (λ l. n ∷ l) (seated_nodes config wire ns (later_logs n logs))

-- ---- logs

module _ {D : Type 0} where
  first_and_later : (config : Counts) (n : Node) (logs : List (LogState D)) → IsFreshLog (part_in (opening config n)) (first_log n logs) → option_to_list (first_log n logs) ++ later_logs n logs ≡ logs
  first_and_later config (node.Acceptor a) [] h = absurd h
  first_and_later config (node.Acceptor a) (x ∷ xs) h = refl
  first_and_later config (node.Coordinator c) [] h = absurd h
  first_and_later config (node.Coordinator c) (x ∷ xs) h = refl
  first_and_later config (node.Learner l) logs h = refl
  first_and_later config (node.Proposer p) logs h = refl

  -- the logs of new jobs are those that they were given
  pub seated_logs : (config : Counts) (ps : List PassState) (logs : List (LogState D)) → CanSit config ps logs → logs_of (cells_of (seats config ps logs)) ≡ logs
  seated_logs config [] logs h = sym h
  seated_logs config (p ∷ ps) logs h =
      ap (λ l. option_to_list (first_log p.node logs) ++ l) (seated_logs config ps (later_logs p.node logs) h.2) ∙ first_and_later config p.node logs h.1

-- ---- the configuration

has_kind : (r : Role) (k : ℕ) (n : Node) → Has n (first_of r k) → (i : ℕ) × (n ≡ node_of r i)
has_kind r k n h = let f = first_has r k n h in (f.0, f.2)

works : (config : Counts) (n : Node) → Has n (working_nodes config) → is_proposer n ≡ false
works config n h = elim (has_either n (logged_nodes config) (first_of Learner config.learners) h) [
  | inl a ↦ elim (has_either n (first_of Acceptor config.acceptors) (first_of Coordinator config.coordinators) a) [
    | inl x ↦ ap is_proposer (has_kind Acceptor config.acceptors n x).1
    | inr y ↦ ap is_proposer (has_kind Coordinator config.coordinators n y).1
  ]
  | inr b ↦ ap is_proposer (has_kind Learner config.learners n b).1
]

proposes : (n : Node) → Has n proposer_nodes → is_proposer n ≡ true
proposes n h = ap is_proposer (has_kind Proposer 8 n h).1

not_both : {P : Type 0} (n : Node) → is_proposer n ≡ true → is_proposer n ≡ false → P
not_both n a b = absurd (let wrong : true ≡ false = sym a ∙ b in cc)

pub nodes_are : (config : Counts) → AreNodesOf config (working_nodes config) proposer_nodes
nodes_are config = record {
  distinct = all_distinct config;
  take = λ n. ((λ h. (present_working config n h, works config n h)), (λ h. elim (has_either n (working_nodes config) proposer_nodes (all_present config n h.0)) [ inl a ↦ a | inr b ↦ not_both n (proposes n b) h.1 ]));
  offer = λ n. ((λ h. (present_proposers config n h, proposes n h)), (λ h. elim (has_either n (working_nodes config) proposer_nodes (all_present config n h.0)) [ inl a ↦ not_both n h.1 (works config n a) | inr b ↦ b ]));
}

-- ---- the leader

get_behind : {A : Type 0} (xs ys : List A) (d : A) (i : ℕ) → i ≡ length xs → get_or (xs ++ ys) i d ≡ get_or ys 0 d
get_behind [] ys d zero e = refl
get_behind [] ys d (suc i) e = absurd (omega (arith, e))
get_behind (x ∷ xs) ys d zero e = absurd (omega (arith, e))
get_behind (x ∷ xs) ys d (suc i) e = get_behind xs ys d i (omega (arith, e))

first_is : (r : Role) (k : ℕ) (ys : List Node) (d : Node) → 0 < k → get_or (first_of r k ++ ys) 0 d ≡ node_of r 0
first_is r zero ys d l = absurd (omega arith)
first_is r (suc zero) ys d l = refl
first_is r (suc (suc k)) ys d l = ap (λ xs. get_or xs 0 d) (append_one (first_of r (suc k)) (node_of r (suc k)) ys) ∙ first_is r (suc k) (node_of r (suc k) ∷ ys) d (omega arith)
  where
    append_one : {A : Type 0} (xs : List A) (x : A) (ys : List A) → (xs ++ x ∷ []) ++ ys ≡ xs ++ x ∷ ys
    append_one [] x ys = refl
    append_one (z ∷ zs) x ys = ap (λ l. z ∷ l) (append_one zs x ys)

-- coordinator 0 follows the acceptors
pub leader_at : (config : Counts) (d : Node) → 0 < config.coordinators → get_or (working_nodes config) config.acceptors d ≡ leader
leader_at config d l =
    ap (λ xs. get_or xs config.acceptors d) (assoc (first_of Acceptor config.acceptors) (first_of Coordinator config.coordinators) (first_of Learner config.learners))
    ∙ get_behind (first_of Acceptor config.acceptors) (first_of Coordinator config.coordinators ++ first_of Learner config.learners) d config.acceptors (sym (length_first Acceptor config.acceptors))
    ∙ first_is Coordinator config.coordinators (first_of Learner config.learners) d l
  where
    assoc : {A : Type 0} (xs ys zs : List A) → (xs ++ ys) ++ zs ≡ xs ++ (ys ++ zs)
    assoc [] ys zs = refl
    assoc (x ∷ xs) ys zs = ap (λ l. x ∷ l) (assoc xs ys zs)
