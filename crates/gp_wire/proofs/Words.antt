-- Lists, and the words of the rule.
use Rattle.std.proofs.Common.{◌≡◌, ℕ, ◌+◌, ◌<◌, ◌≤◌, ◌⊎◌, List, [], ◌∷◌, ◌++◌, length, set, sym, refl, ap, subst, inl, inr, ⊎_elim, suc, zero, arith, append_assoc, Option, Some, None}
use Rattle.std.specs.Prelude.{slice_get}
use Rattle.std.proofs.lemmas.List.{append-nil}
use mathlib.Core.Option.{some, some-injective, some-ne-none}
use lib.ListN.{get_elem?}
use Rattle.gp_msg.specs.declared.node.Node.{Node}
use Rattle.gp_msg.specs.declared.record.Record.{Record}
use Rattle.gp_wire.specs.declared.view.Post.{Post}
use Rattle.gp_wire.specs.declared.view.View.{View}
use Rattle.gp_wire.specs.Lists.{Each, Has}
use Rattle.gp_wire.specs.Legal.{LegalFrom, IsOfOther}
use Rattle.gp_wire.specs.Rule.{items, post_of, IsForeign, IsLater, IsBelow, Ascends, tickets, waiting}

module _ {A : Type 0} where
  pub each_append : (P : A → Type 0) (xs ys : List A) → Each P xs → Each P ys → Each P (xs ++ ys)
  each_append P [] ys a b = b
  each_append P (x ∷ xs) ys a b = (a.0, each_append P xs ys a.1 b)

  pub each_front : (P : A → Type 0) (xs ys : List A) → Each P (xs ++ ys) → Each P xs
  each_front P [] ys a = tt
  each_front P (x ∷ xs) ys a = (a.0, each_front P xs ys a.1)

  pub each_back : (P : A → Type 0) (xs ys : List A) → Each P (xs ++ ys) → Each P ys
  each_back P [] ys a = a
  each_back P (x ∷ xs) ys a = each_back P xs ys a.1

  pub each_map : (P Q : A → Type 0) (xs : List A) → ((x : A) → P x → Q x) → Each P xs → Each Q xs
  each_map P Q [] f a = tt
  each_map P Q (x ∷ xs) f a = (f x a.0, each_map P Q xs f a.1)

  -- what stands at a place of a list with one more at its end
  pub at_end : (l : List A) (a b : A) (j : ℕ) → get_elem? (l ++ a ∷ []) j ≡ some b → ((j < length l) × (get_elem? l j ≡ some b)) ⊎ ((j ≡ length l) × (a ≡ b))
  at_end [] a b zero e = inr (refl, some-injective a b e)
  at_end [] a b (suc j) e = absurd (some-ne-none b (sym e))
  at_end (x ∷ xs) a b zero e = inl (omega arith, e)
  at_end (x ∷ xs) a b (suc j) e = ⊎_elim (λ t. let l = t.0 in inl (omega arith, t.1)) (λ t. inr (ap suc t.0, t.1)) (at_end xs a b j e)

  pub at_within : (l : List A) (b : A) (j : ℕ) → get_elem? l j ≡ some b → j < length l
  at_within [] b j e = absurd (some-ne-none b (sym e))
  at_within (x ∷ xs) b zero e = omega arith
  at_within (x ∷ xs) b (suc j) e = let h = at_within xs b j e in omega arith

pub has_left : (n : Node) (xs ys : List Node) → Has n xs → Has n (xs ++ ys)
has_left n [] ys h = absurd h
has_left n (x ∷ xs) ys (inl e) = inl e
has_left n (x ∷ xs) ys (inr h) = inr (has_left n xs ys h)

pub has_right : (n : Node) (xs ys : List Node) → Has n ys → Has n (xs ++ ys)
has_right n [] ys h = h
has_right n (x ∷ xs) ys h = inr (has_right n xs ys h)

pub has_either : (n : Node) (xs ys : List Node) → Has n (xs ++ ys) → Has n xs ⊎ Has n ys
has_either n [] ys h = inr h
has_either n (x ∷ xs) ys (inl e) = inl (inl e)
has_either n (x ∷ xs) ys (inr h) = ⊎_elim (λ a. inl (inr a)) (λ b. inr b) (has_either n xs ys h)

module _ (L : List Record → Record → Type 0) where
  pub legal_more : (before xs : List Record) (x : Record) → LegalFrom L before xs → L (before ++ xs) x → LegalFrom L before (xs ++ x ∷ [])
  legal_more before [] x a b = (subst (λ l. L l x) (append-nil before) b, tt)
  legal_more before (y ∷ ys) x a b = (a.0, legal_more (before ++ y ∷ []) ys x a.1 (subst (λ l. L l x) (sym (append_assoc before (y ∷ []) ys)) b))

  pub legal_behind : (before xs ys : List Record) → LegalFrom L before (xs ++ ys) → LegalFrom L (before ++ xs) ys
  legal_behind before [] ys a = subst (λ l. LegalFrom L l ys) (sym (append-nil before)) a
  legal_behind before (x ∷ xs) ys a = subst (λ l. LegalFrom L l ys) (append_assoc before (x ∷ []) xs) (legal_behind (before ++ x ∷ []) xs ys a.1)

pub items_append : (xs ys : List Post) → items (xs ++ ys) ≡ items xs ++ items ys
items_append [] ys = refl
items_append (x ∷ xs) ys = ap (λ l. x.item ∷ l) (items_append xs ys)

pub others : (x : Record) (nodes : List Node) (es : List Post) → Has x.node nodes → Each (IsForeign nodes) es → Each (IsOfOther x) (items es)
others x nodes [] h a = tt
others x nodes (e ∷ es) h a = (λ same. a.0 (subst (λ n. Has n nodes) (sym same) h), others x nodes es h a.1)

pub ascends_more : (least n : ℕ) (es : List Post) (x : Record) → least ≤ n → Ascends least es → Each (λ e. e.turn ≤ n) es → Ascends least (es ++ post_of x n ∷ [])
ascends_more least n [] x l a b = (l, tt)
ascends_more least n (e ∷ es) x l a b = (a.0, ascends_more e.turn n es x b.0 a.1 b.1)

-- the number of tickets after a change of one view
pub waiting_set : (vs : List View) (i : ℕ) (v w : View) → get_elem? vs i ≡ some v → waiting (set vs i w) + tickets v.standing ≡ waiting vs + tickets w.standing
waiting_set [] i v w e = absurd (some-ne-none v (sym e))
waiting_set (x ∷ xs) zero v w e = let same : x ≡ v = some-injective x v e in let k = ap (λ (z : View). tickets z.standing) same in omega arith
waiting_set (x ∷ xs) (suc i) v w e = let h = waiting_set xs i v w e in omega arith

pub waiting_append : (vs ws : List View) → waiting (vs ++ ws) ≡ waiting vs + waiting ws
waiting_append [] ws = omega arith
waiting_append (v ∷ vs) ws = let h = waiting_append vs ws in omega arith

pub below_more : (u : Option ℕ) (m n : ℕ) → IsBelow u m → m ≤ n → IsBelow u n
below_more None m n a l = tt
below_more (Some t) m n a l = omega arith

pub later_of_below : (u : Option ℕ) (e : Post) → IsBelow u e.turn → IsLater u e
later_of_below None e a = tt
later_of_below (Some t) e a = a

-- a list without an element at this place
pub none_beyond : {A : Type 0} (ms : List A) (k : ℕ) → slice_get ms k ≡ None → length ms ≤ k
none_beyond [] k e = omega arith
none_beyond (m ∷ ms) zero e = cc
none_beyond (m ∷ ms) (suc k) e = let h = none_beyond ms k e in omega arith
