-- What a legal list has of each node.
use Rattle.std.proofs.Common.{◌≡◌, ℕ, suc, ◌+◌, ◌<◌, true, cond, List, [], ◌∷◌, ◌++◌, length, map, get_or, sym, ap, ◌∙◌, subst, inl, inr, arith}
use Rattle.std.proofs.lemmas.List.{append-nil, map-append}
use Rattle.gp_round.specs.Counts.{Counts}
use Rattle.gp_msg.specs.declared.node.Node.{Node}
use Rattle.gp_msg.specs.declared.event.Event.{Event}
use Rattle.gp_msg.specs.declared.record.Record.{Record}
use Rattle.gp_msg.specs.Messages.{Entry}
use Rattle.gp_run.specs.Messages.{messages}
use Rattle.gp_msg.specs.Nodes.{is_present}
use Rattle.gp_run.specs.Legal.{Legal}
use Rattle.gp_run.specs.Runs.{newest_first}
use Rattle.gp_run.proofs.Fitting.{node_there}
use Rattle.gp_wire.specs.Lists.{Each, Has}
use Rattle.gp_wire.specs.Known.{records, old_of}
use Rattle.gp_wire.specs.declared.view.Post.{Post}
use Rattle.gp_wire.specs.Ends.{AllBegin}
use Rattle.gp_wire.specs.Rule.{items, item, Begins}
use Rattle.gp_wire.specs.Own.{own, own_events, event_in, IsBehind}
use Rattle.gp_wire.proofs.SameNodes.{same_tells}
use Rattle.gp_wire.proofs.OwnRecords.{own_append, own_foreign}
use Rattle.gp_cell.specs.Still.{entries_append}
use Rattle.gp_work.specs.declared.job.Job.{Job}
use Rattle.gp_cell.specs.Cells.{CellState, pass_of}
use Rattle.gp_cell.specs.Working.{process_of}
use Rattle.gp_phase.specs.Phases.{total}
use Rattle.gp_phase.proofs.Quieting.{counted}
use Rattle.gp_ending.specs.Ended.{nodes_of}
use Rattle.gp_ending.proofs.Indexing.{each_front, each_back}

-- ---- nodes of the configuration

there : (config : Counts) (es : List Entry) → Legal config es → Each (λ e. is_present config e.node ≡ true) es
there config [] l = tt
there config (e ∷ es) l = (subst (λ n. is_present config n ≡ true) (sym l.1.own_node) (node_there config (length (messages es)) e.event l.1.event_fits), there config es l.0)

-- each record is of a node of the configuration
pub all_there : (config : Counts) (list : List Record) → Legal config (newest_first list) → Each (λ r. is_present config r.node ≡ true) list
all_there config list l = forth list (there config (newest_first list) l)
  where
    forth : (rs : List Record) → Each (λ (e : Entry). is_present config e.node ≡ true) (newest_first rs) → Each (λ (r : Record). is_present config r.node ≡ true) rs
    forth [] h = tt
    forth (r ∷ rs) h =
        let two = subst (Each (λ (e : Entry). is_present config e.node ≡ true)) (entries_append (r ∷ []) rs) h in (
          (each_back (λ (e : Entry). is_present config e.node ≡ true) (newest_first rs) (newest_first (r ∷ [])) two).0,
          forth rs (each_front (λ (e : Entry). is_present config e.node ≡ true) (newest_first rs) (newest_first (r ∷ [])) two),
        )

-- ---- the records of one node

pub own_behind : {D : Type 0} (list : List Record) (c : CellState D) → IsBehind c.node (records c.pass) list → own c.node list ≡ own c.node (records c.pass)
own_behind list c b = ap (own c.node) b.split ∙ own_append c.node (records c.pass) b.more ∙ ap (λ l. own c.node (records c.pass) ++ l) b.others ∙ append-nil (own c.node (records c.pass))

-- what holds of the events of a node holds of its records
pub of_node : (P : Event → Type 0) (n : Node) (rs : List Record) → Each P (own_events n rs) → Each (λ r. r.node ≡ n → P r.event) rs
of_node P n [] h = tt
of_node P n (r ∷ rs) h = elim (same_tells n r.node) [
  | inl t ↦ let mine = subst (λ b. Each P (map event_in (cond b (r ∷ own n rs) (own n rs)))) t.0 h in (λ e. mine.0, of_node P n rs mine.1)
  | inr t ↦ let others = subst (λ b. Each P (map event_in (cond b (r ∷ own n rs) (own n rs)))) t.0 h in (λ e. absurd (t.1 (sym e)), of_node P n rs others)
]

-- ---- how many records there are

pub counted_append : (ns ms : List Node) (rs : List Record) → counted (ns ++ ms) rs ≡ counted ns rs + counted ms rs
unfolding counted
counted_append [] ms rs = omega arith
counted_append (n ∷ ns) ms rs = let h = counted_append ns ms rs in omega arith

-- the cells of some jobs have posted what a list has of their nodes
pub total_counted : {D : Type 0} (faults : D → ℕ) (list : List Record) (others : ℕ) (js : List (Job (CellState D)))
    → ((i : ℕ) (d : Job (CellState D)) → i < length js → own (get_or js i d).cell.node list ≡ own (get_or js i d).cell.node (records (get_or js i d).cell.pass))
    → total (process_of faults) others js ≡ counted (nodes_of js) list + others
unfolding counted
total_counted faults list others [] h = omega arith
total_counted faults list others (j ∷ js) h =
    let one = ap length (h 0 j (omega arith)) in
    let more = total_counted faults list others js (λ i d l. h (suc i) d (omega (arith, l))) in
    omega arith

-- ---- a closed list

-- it begins with what a pass that holds its node has seen, and what follows is not of the node
begun : {D : Type 0} (log : List Post) (c : CellState D) → c.pass.node ≡ c.node → Has c.pass.node c.pass.holds → Begins log (old_of c.pass) → IsBehind c.node (records c.pass) (items log)
begun log c mine h b = record {
  more = items b.rest;
  split = ap items b.split ∙ map-append item c.pass.seen b.rest;
  others = ap (λ n. own n (items b.rest)) (sym mine) ∙ own_foreign c.pass.node c.pass.holds b.rest h b.foreign;
}

pub each_begun : {D : Type 0} (log : List Post) (cells : List (CellState D)) → AllBegin log (map pass_of cells) → Each (λ c. c.pass.node ≡ c.node) cells → Each (λ c. Has c.pass.node c.pass.holds) cells → Each (λ c. IsBehind c.node (records c.pass) (items log)) cells
each_begun log [] b o h = tt
each_begun log (c ∷ cs) b o h = (begun log c o.0 h.0 b.0, each_begun log cs b.1 o.1 h.1)
