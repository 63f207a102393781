-- What the learners of a run hold.
use Rattle.std.proofs.Common.{◌≡◌, ◌<◌, ◌≤◌, ℕ, inl, inr, true, List, [], ◌∷◌, map, refl, sym, ap, ◌∙◌, subst, Some, None}
use Rattle.std.specs.Prelude.{IfSome}
use Rattle.std.proofs.lemmas.Bool.{ltb-true, lt-ltb}
use Rattle.gp_history.specs.History.{size}
use Rattle.gp_round.specs.Counts.{Counts}
use Rattle.gp_msg.specs.declared.node.Node.{Node}
use Rattle.gp_msg.specs.declared.node.Node.TheVariants as node
use Rattle.gp_msg.specs.declared.record.Record.{Record}
use Rattle.gp_run.specs.Learned.{learned_at}
use Rattle.gp_msg.specs.Nodes.{is_present}
use Rattle.gp_run.specs.Legal.{Legal}
use Rattle.gp_run.specs.Runs.{newest_first}
use Rattle.gp_wire.specs.Lists.{Each, Has}
use Rattle.gp_wire.specs.Known.{records}
use Rattle.gp_cell.specs.Cores.{core_at, learned_in}
use Rattle.gp_cell.specs.Still.{core_still, entries_append}
use Rattle.gp_cell.proofs.Runs.{core_is, state_at}
use Rattle.gp_cell.specs.Cells.{CellState}
use Rattle.gp_cell.proofs.Posting.{nothing_own}
use Rattle.gp_wire.specs.Own.{IsBehind}
use Rattle.gp_cluster.specs.Cells.{IsKnownCell, HasLearned, node_in}

-- the core of a cell is the state of its node after a list that begins with what it has seen
pub core_behind : {D : Type 0} (config : Counts) (c : CellState D) (list : List Record) → c.config ≡ config → IsKnownCell c → IsBehind c.node (records c.pass) list → c.core ≡ core_at config c.node (newest_first list)
core_behind config c list same k b =
    k.core ∙ ap (λ x. core_at x c.node (newest_first (records c.pass))) same
    ∙ sym (core_still config c.node (newest_first b.more) (newest_first (records c.pass)) (nothing_own c.node b.more b.others))
    ∙ ap (core_at config c.node) (sym (entries_append (records c.pass) b.more) ∙ ap newest_first (sym b.split))

module _ {D : Type 0} (config : Counts) (list : List Record) (legal : Legal config (newest_first list)) (n : ℕ) where
  -- what is known of a cell whose list is a beginning of this one
  pub record Stands (c : CellState D) : Type 0 where
    pub core : c.core ≡ core_at config c.node (newest_first list)
    pub present : is_present config c.node ≡ true

  learned_by : (c : CellState D) (l : ℕ) → Stands c → c.node ≡ node.Learner l → learned_in c.core ≡ Some (learned_at config l (newest_first list))
  learned_by c l s e = ap learned_in (s.core ∙ ap (λ m. core_at config m (newest_first list)) e ∙ core_is config (node.Learner l) (newest_first list) legal)

  learned_by_none : (c : CellState D) (m : Node) → Stands c → c.node ≡ m → learned_in (state_at config m (newest_first list)) ≡ None → learned_in c.core ≡ None
  learned_by_none c m s e none = ap learned_in (s.core ∙ ap (λ k. core_at config k (newest_first list)) e ∙ core_is config m (newest_first list) legal) ∙ none

  holds_none : (c : CellState D) → learned_in c.core ≡ None → HasLearned n c
  holds_none c e = subst (λ o. IfSome o (λ h. n ≤ size h)) (sym e) tt

  -- a learner's cell holds as many commands as the learner shows
  holds_at : (c : CellState D) (m : Node) → Stands c → c.node ≡ m → ((l : ℕ) → l < config.learners → n ≤ size (learned_at config l (newest_first list))) → HasLearned n c
  holds_at c (node.Proposer p) s e h = holds_none c (learned_by_none c (node.Proposer p) s e refl)
  holds_at c (node.Coordinator p) s e h = holds_none c (learned_by_none c (node.Coordinator p) s e refl)
  holds_at c (node.Acceptor p) s e h = holds_none c (learned_by_none c (node.Acceptor p) s e refl)
  holds_at c (node.Learner l) s e h = subst (λ o. IfSome o (λ x. n ≤ size x)) (sym (learned_by c l s e)) (h l (ltb-true l config.learners (subst (λ m. is_present config m ≡ true) e s.present)))

  pub hold_all : (cells : List (CellState D)) → Each Stands cells → ((l : ℕ) → l < config.learners → n ≤ size (learned_at config l (newest_first list))) → Each (HasLearned n) cells
  hold_all [] s h = tt
  hold_all (c ∷ cs) s h = (holds_at c c.node s.0 refl h, hold_all cs s.1 h)

  shows_at : (l : ℕ) (cells : List (CellState D)) → Each Stands cells → Each (HasLearned n) cells → Has (node.Learner l) (map node_in cells) → n ≤ size (learned_at config l (newest_first list))
  shows_at l [] s h a = absurd a
  shows_at l (c ∷ cs) s h (inl e) = subst (λ o. IfSome o (λ x. n ≤ size x)) (learned_by c l s.0 (sym e)) h.0
  shows_at l (c ∷ cs) s h (inr a) = shows_at l cs s.1 h.1 a

  -- each learner shows as many commands as its cell holds
  pub show_all : (cells : List (CellState D)) → Each Stands cells → Each (HasLearned n) cells → ((m : Node) → is_present config m ≡ true → Has m (map node_in cells)) → (l : ℕ) → l < config.learners → n ≤ size (learned_at config l (newest_first list))
  show_all cells s h there l below = shows_at l cells s h (there (node.Learner l) (lt-ltb l config.learners below))
