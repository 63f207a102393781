-- The records of a node that were lawful where they stand, in longer lists.
use Rattle.std.proofs.Common.{◌≡◌, ◌⊎◌, cond, List, [], ◌∷◌, ◌++◌, refl, sym, ap, ◌∙◌, subst, inl, inr, ⊎_elim}
use Rattle.std.proofs.lemmas.List.{append-nil}
use Rattle.gp_round.specs.Counts.{Counts}
use Rattle.gp_msg.specs.declared.node.Node.{Node}
use Rattle.gp_msg.specs.declared.record.Record.{Record}
use Rattle.gp_msg.specs.Messages.{entry_of}
use Rattle.gp_run.specs.Runs.{newest_first}
use Rattle.gp_wire.specs.Own.{own}
use Rattle.gp_wire.proofs.SameNodes.{same_tells}
use Rattle.gp_cell.specs.Lawful.{IsLawful}
use Rattle.gp_cell.specs.Cells.{OwnLawful}

abbrev first_or : Record → List Record → Record
first_or x [] = x
first_or x (y ∷ ys) = y

abbrev behind : List Record → List Record
behind [] = []
behind (y ∷ ys) = ys

-- a record that stands in one list or in the other one behind it, with what stands ahead of it
abbrev pub StandsIn : List Record → List Record → List Record → Record → List Record → Type 0
StandsIn rs more ahead x rest = ((left : List Record) × (rs ≡ ahead ++ x ∷ left)) ⊎ ((front : List Record) × (ahead ≡ rs ++ front) × (more ≡ front ++ x ∷ rest))

further : (r a : Record) (rs more ahead : List Record) (x : Record) (rest : List Record) → r ≡ a → StandsIn rs more ahead x rest → StandsIn (r ∷ rs) more (a ∷ ahead) x rest
further r a rs more ahead x rest same (inl s) = inl (s.0, (λ i. same i ∷ s.1 i))
further r a rs more ahead x rest same (inr s) = inr (s.0, (λ i. sym same i ∷ s.1 i), s.2)

pub stands_in : (rs more ahead : List Record) (x : Record) (rest : List Record) → rs ++ more ≡ ahead ++ x ∷ rest → StandsIn rs more ahead x rest
stands_in [] more ahead x rest e = inr (ahead, refl, e)
stands_in (r ∷ rs) more [] x rest e = inl (rs, (λ i. ap (first_or r) e i ∷ rs))
stands_in (r ∷ rs) more (a ∷ ahead) x rest e = further r a rs more ahead x rest (ap (first_or r) e) (stands_in rs more ahead x rest (ap behind e))

-- a list with a record of the node has one of the node
not_none : (n : Node) (front : List Record) (x : Record) (rest : List Record) → x.node ≡ n → own n (front ++ x ∷ rest) ≡ [] → ⊥
not_none n [] x rest is none = elim (same_tells n x.node) [
  | inl t ↦ let wrong : x ∷ own n rest ≡ [] = sym (ap (λ b. cond b (x ∷ own n rest) (own n rest)) t.0) ∙ none in cc
  | inr t ↦ t.1 (sym is)
]
not_none n (y ∷ front) x rest is none = elim (same_tells n y.node) [
  | inl t ↦ let wrong : y ∷ own n (front ++ x ∷ rest) ≡ [] = sym (ap (λ b. cond b (y ∷ own n (front ++ x ∷ rest)) (own n (front ++ x ∷ rest))) t.0) ∙ none in cc
  | inr t ↦ not_none n front x rest is (sym (ap (λ b. cond b (y ∷ own n (front ++ x ∷ rest)) (own n (front ++ x ∷ rest))) t.0) ∙ none)
]

module _ (config : Counts) (n : Node) where
  pub none_lawful : (rs : List Record) → own n rs ≡ [] → OwnLawful config n rs
  none_lawful rs none ahead x rest split is = absurd (not_none n ahead x rest is (sym (ap (own n) split) ∙ none))

  -- records of other nodes may follow
  pub lawful_more : (rs more : List Record) → OwnLawful config n rs → own n more ≡ [] → OwnLawful config n (rs ++ more)
  lawful_more rs more lawful none ahead x rest split is = ⊎_elim
      (λ (s : (left : List Record) × (rs ≡ ahead ++ x ∷ left)). lawful ahead x s.0 s.1 is)
      (λ (s : (front : List Record) × (ahead ≡ rs ++ front) × (more ≡ front ++ x ∷ rest)). absurd (not_none n s.0 x rest is (sym (ap (own n) s.2) ∙ none)))
      (stands_in rs more ahead x rest split)

  -- a record that is lawful after the list may follow
  pub lawful_one : (rs : List Record) (y : Record) → OwnLawful config n rs → IsLawful config (newest_first rs) (entry_of y) → OwnLawful config n (rs ++ y ∷ [])
  lawful_one rs y lawful one ahead x rest split is = ⊎_elim
      (λ (s : (left : List Record) × (rs ≡ ahead ++ x ∷ left)). lawful ahead x s.0 s.1 is)
      (λ (s : (front : List Record) × (ahead ≡ rs ++ front) × (y ∷ [] ≡ front ++ x ∷ rest)). last s.0 s.1 s.2)
      (stands_in rs (y ∷ []) ahead x rest split)
    where
      last : (front : List Record) → ahead ≡ rs ++ front → y ∷ [] ≡ front ++ x ∷ rest → IsLawful config (newest_first ahead) (entry_of x)
      last [] at e = subst (λ l. IsLawful config (newest_first l) (entry_of x)) (sym (at ∙ append-nil rs)) (subst (λ z. IsLawful config (newest_first rs) (entry_of z)) (ap (first_or y) e) one)
      last (z ∷ []) at e = cc
      last (z ∷ w ∷ front) at e = cc
