-- The records of one node among those of a list.
use Rattle.std.proofs.Common.{◌≡◌, Bool, true, false, cond, List, [], ◌∷◌, ◌++◌, ap, ◌∙◌, refl, subst, inl, inr}
use Rattle.gp_msg.specs.declared.node.Node.{Node}
use Rattle.gp_msg.specs.declared.record.Record.{Record}
use Rattle.gp_msg.specs.Nodes.{same_node}
use Rattle.gp_wire.specs.declared.view.Post.{Post}
use Rattle.gp_wire.specs.Lists.{Each, Has}
use Rattle.gp_wire.specs.Rule.{items, IsForeign}
use Rattle.gp_wire.specs.Own.{own}
use Rattle.gp_wire.proofs.SameNodes.{same_tells}

own_cons : (n : Node) (r : Record) (rs : List Record) (b : Bool) → same_node n r.node ≡ b → own n (r ∷ rs) ≡ cond b (r ∷ own n rs) (own n rs)
own_cons n r rs b e = ap (λ x. cond x (r ∷ own n rs) (own n rs)) e

pub own_append : (n : Node) (xs ys : List Record) → own n (xs ++ ys) ≡ own n xs ++ own n ys
own_append n [] ys = refl
own_append n (x ∷ xs) ys = by_test (same_node n x.node) (own_append n xs ys)
  where
    by_test : (b : Bool) → own n (xs ++ ys) ≡ own n xs ++ own n ys → cond b (x ∷ own n (xs ++ ys)) (own n (xs ++ ys)) ≡ cond b (x ∷ own n xs) (own n xs) ++ own n ys
    by_test true e = ap (λ l. x ∷ l) e
    by_test false e = e

-- records of nodes that are not held are not of a node that is held
pub own_foreign : (n : Node) (nodes : List Node) (es : List Post) → Has n nodes → Each (IsForeign nodes) es → own n (items es) ≡ []
own_foreign n nodes [] h f = refl
own_foreign n nodes (e ∷ es) h f = elim (same_tells n e.item.node) [
  | inl t ↦ absurd (f.0 (subst (λ m. Has m nodes) t.1 h))
  | inr t ↦ own_cons n e.item (items es) false t.0 ∙ own_foreign n nodes es h f.1
]
