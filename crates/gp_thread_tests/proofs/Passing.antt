-- Passes of the nodes of a wire, from a new wire to its end.
use Rattle.std.proofs.Common.{◌≡◌, ℕ, zero, suc, ◌<◌, List, [], ◌∷◌, ◌++◌, ◌⊎◌, ⊎_elim, map, length, sym, refl, ap, ◌∙◌, subst, inl, inr, arith, All}
use Rattle.std.specs.Prelude.{slice_index_or}
use Rattle.std.proofs.lemmas.List.{length-append}
use Rattle.atomic_table.specs.Seated.{TableId}
use Rattle.gp_msg.specs.declared.node.Node.{Node}
use Rattle.gp_msg.specs.declared.node.Node.TheVariants.{Acceptor, Coordinator, Learner, Proposer}
use Rattle.gp_wire.specs.Lists.{Each, Has, IsDistinct}
use Rattle.gp_wire.specs.Known.{PassState}
use Rattle.gp_wire.specs.Fresh.{AreFresh}
use Rattle.gp_wire.specs.Ends.{AreOf, IsHeld}
use Rattle.gp_wire.proofs.Words.{has_left, has_right, has_either}
use Rattle.gp_thread_tests.specs.Posters.{IsReady, IsStill, AreOfNodes, acceptors}

-- the passes of a new wire
pub fresh_of : (id : TableId) (all ns : List Node) (ps : List PassState) → AreFresh id all ns ps → AreOfNodes id ns ps
fresh_of id all [] [] f = tt
fresh_of id all [] (p ∷ ps) f = absurd f
fresh_of id all (n ∷ ns) [] f = absurd f
fresh_of id all (n ∷ ns) (p ∷ ps) f =
    (ap (λ (q : PassState). q.wire) f.0, ap (λ (q : PassState). q.node) f.0, ap (λ (q : PassState). q.holds) f.0, fresh_of id all ns ps f.1)

-- where each poster kept its pass
pub still_of : (A : Type 0) (pass_of : A → PassState) (id : TableId) (ns : List Node) (xs ys : List A) → length ys ≡ length xs
    → ((i : ℕ) (d : A) → i < length xs → IsStill (pass_of (slice_index_or xs i d)) (pass_of (slice_index_or ys i d)))
    → AreOfNodes id ns (map pass_of xs) → AreOfNodes id ns (map pass_of ys)
still_of A pass_of id ns [] [] same each of = of
still_of A pass_of id ns [] (y ∷ ys) same each of = absurd (omega (arith, same))
still_of A pass_of id ns (x ∷ xs) [] same each of = absurd (omega (arith, same))
still_of A pass_of id [] (x ∷ xs) (y ∷ ys) same each of = absurd of
still_of A pass_of id (n ∷ ns) (x ∷ xs) (y ∷ ys) same each of =
    let s = each 0 x (omega arith) in
    (s.0 ∙ of.0, s.1 ∙ of.1, s.2 ∙ of.2, still_of A pass_of id ns xs ys (omega (arith, same)) (λ i d l. each (suc i) d (omega (arith, l))) of.3)

-- each may post
pub ready_of : (A : Type 0) (pass_of : A → PassState) (id : TableId) (ns : List Node) (xs : List A) → AreOfNodes id ns (map pass_of xs) → All (λ p. IsReady id (pass_of p)) xs
ready_of A pass_of id ns [] of k d l = absurd (omega (arith, l))
ready_of A pass_of id [] (x ∷ xs) of k d l = absurd of
ready_of A pass_of id (n ∷ ns) (x ∷ xs) of zero d l = (of.0, rw (of.1, of.2) (inl refl))
ready_of A pass_of id (n ∷ ns) (x ∷ xs) of (suc k) d l = ready_of A pass_of id ns xs of.3 k d (omega (arith, l))

-- they close the wire
pub all_of_wire : (id : TableId) (ns : List Node) (ps : List PassState) → AreOfNodes id ns ps → AreOf id ps
all_of_wire id [] [] of = tt
all_of_wire id [] (p ∷ ps) of = absurd of
all_of_wire id (n ∷ ns) [] of = absurd of
all_of_wire id (n ∷ ns) (p ∷ ps) of = (of.0, all_of_wire id ns ps of.3)

pub all_held : (id : TableId) (ns : List Node) (ps : List PassState) → AreOfNodes id ns ps → (n : Node) → Has n ns → IsHeld n ps
all_held id [] ps of n has = absurd has
all_held id (m ∷ ns) [] of n has = absurd of
all_held id (m ∷ ns) (p ∷ ps) of n (inl e) = inl (subst (Has n) (sym of.2) (inl e))
all_held id (m ∷ ns) (p ∷ ps) of n (inr has) = inr (all_held id ns ps of.3 n has)

-- the last of some passes holds the node, or one of the others does
pub held_end : (n : Node) (ps : List PassState) (p : PassState) → IsHeld n (ps ++ p ∷ []) → IsHeld n ps ⊎ Has n p.holds
held_end n [] p (inl h) = inr h
held_end n [] p (inr h) = absurd h
held_end n (q ∷ ps) p (inl h) = inl (inl h)
held_end n (q ∷ ps) p (inr h) = ⊎_elim (λ a. inl (inr a)) (λ b. inr b) (held_end n ps p h)

-- once the last of them has met the one pass
pub met_end : (n : Node) (ps : List PassState) (p : PassState) (ns : List Node) → IsHeld n (ps ++ p ∷ []) ⊎ Has n ns → IsHeld n ps ⊎ Has n (ns ++ p.holds)
met_end n ps p ns (inr h) = inr (has_left n ns p.holds h)
met_end n ps p ns (inl h) = ⊎_elim (λ a. inl a) (λ b. inr (has_right n ns p.holds b)) (held_end n ps p h)

-- nobody is left
pub none_left : (n : Node) (ps : List PassState) (ns : List Node) → ps ≡ [] → IsHeld n ps ⊎ Has n ns → Has n ns
none_left n [] ns e (inl h) = absurd h
none_left n (p ∷ ps) ns e h = absurd (let l = ap length e in omega (arith, l))
none_left n [] ns e (inr h) = h

-- the last pass holds its node
pub end_ready : (id : TableId) (ns : List Node) (ps : List PassState) (p : PassState) → AreOfNodes id ns (ps ++ p ∷ []) → IsReady id p
end_ready id [] [] p of = absurd of
end_ready id [] (q ∷ ps) p of = absurd of
end_ready id (n ∷ ns) [] p of = (of.0, rw (of.1, of.2) (inl refl))
end_ready id (n ∷ ns) (q ∷ ps) p of = end_ready id ns ps p of.3

-- the posters of a new wire
pub opened : (A : Type 0) (pass_of : A → PassState) (id : TableId) (ns ms : List Node) (ps : List PassState) (xs : List A) → AreFresh id ns ns ps → ms ≡ ns → map pass_of xs ≡ ps → AreOfNodes id ms (map pass_of xs)
opened A pass_of id ns ms ps xs f e is = subst (λ l. AreOfNodes id l (map pass_of xs)) (sym e) (subst (AreOfNodes id ns) (sym is) (fresh_of id ns ns ps f))

-- there is a poster
pub some_of : (A : Type 0) (pass_of : A → PassState) (id : TableId) (ns : List Node) (xs : List A) → 0 < length ns → AreOfNodes id ns (map pass_of xs) → 0 < length xs
some_of A pass_of id [] xs l of = absurd (omega (arith, l))
some_of A pass_of id (n ∷ ns) [] l of = absurd of
some_of A pass_of id (n ∷ ns) (x ∷ xs) l of = omega arith

-- ---- the first acceptors

abbrev number : Node → ℕ
number (Acceptor n) = n
number (Coordinator n) = n
number (Learner n) = n
number (Proposer n) = n

has_one : (n m : Node) → Has n (m ∷ []) → n ≡ m
has_one n m (inl e) = e
has_one n m (inr h) = absurd h

first_below : (k : ℕ) (n : Node) → Has n (acceptors k) → number n < k
first_below zero n h = absurd h
first_below (suc k) n h = ⊎_elim (λ a. let l = first_below k n a in omega (arith, l)) (λ b. let e = ap number (has_one n (Acceptor k) b) in omega (arith, e)) (has_either n (acceptors k) (Acceptor k ∷ []) h)

distinct_end : (xs : List Node) (n : Node) → IsDistinct xs → (Has n xs → ⊥) → IsDistinct (xs ++ n ∷ [])
distinct_end [] n a b = ((λ h. absurd h), tt)
distinct_end (x ∷ xs) n a b = ((λ h. ⊎_elim a.0 (λ l. b (inl (sym (has_one x n l)))) (has_either x xs (n ∷ []) h)), distinct_end xs n a.1 (λ h. b (inr h)))

pub acceptors_distinct : (k : ℕ) → IsDistinct (acceptors k)
acceptors_distinct zero = tt
acceptors_distinct (suc k) = distinct_end (acceptors k) (Acceptor k) (acceptors_distinct k) (λ h. let l = first_below k (Acceptor k) h in omega (arith, l))

pub acceptors_some : (k : ℕ) → 0 < k → 0 < length (acceptors k)
acceptors_some zero l = absurd (omega (arith, l))
acceptors_some (suc k) l = let e = length-append (acceptors k) (Acceptor k ∷ []) in omega (arith, e)

-- ---- the passes of a new wire may post

pub ready_each : (id : TableId) (all ns : List Node) (ps : List PassState) → AreFresh id all ns ps → Each (IsReady id) ps
ready_each id all [] [] f = tt
ready_each id all [] (p ∷ ps) f = absurd f
ready_each id all (n ∷ ns) [] f = absurd f
ready_each id all (n ∷ ns) (p ∷ ps) f = (subst (IsReady id) (sym f.0) (refl, inl refl), ready_each id all ns ps f.1)

pub each_left : {A : Type 0} (P : A → Type 0) (all left : List A) (last : A) → all ≡ left ++ last ∷ [] → Each P all → Each P left × P last
each_left P all [] last split each = (tt, (subst (λ xs. Each P xs) split each).0)
each_left P all (x ∷ left) last split each =
    let here = subst (λ xs. Each P xs) split each in
    let rest = each_left P (left ++ last ∷ []) left last refl here.1 in
    ((here.0, rest.0), rest.1)
