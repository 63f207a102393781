-- Steps that were counted, and cursors that moved on.
use Rattle.std.proofs.Common.{◌≡◌, ℕ, zero, suc, ◌+◌, List, [], ◌∷◌, ◌++◌, length, refl, sym, ap, ◌∙◌, inl, arith, length-append}
use Rattle.gp_edge.specs.Faults.{one_more}
use Rattle.gp_msg.specs.declared.message.Msg.{Msg}
use Rattle.gp_msg.specs.declared.node.Node.{Node}
use Rattle.gp_work.specs.Jobs.{CountsSteps, MovesOn, turn_after}

-- some steps, and then more
turn_sum : (t a b : ℕ) → turn_after t (a + b) ≡ turn_after (turn_after t a) b
turn_sum t a zero = let e : a + zero ≡ a = omega arith in ap (turn_after t) e
turn_sum t a (suc b) = let e : a + suc b ≡ suc (a + b) = omega arith in ap (turn_after t) e ∙ ap one_more (turn_sum t a b)

pub turn_append : {A : Type 0} (t u v : ℕ) (xs ys : List A) → u ≡ turn_after t (length xs) → v ≡ turn_after u (length ys) → v ≡ turn_after t (length (xs ++ ys))
turn_append t u v xs ys e f = f ∙ ap (λ x. turn_after x (length ys)) e ∙ sym (turn_sum t (length xs) (length ys)) ∙ ap (turn_after t) (sym (length-append xs ys))

-- one step more
pub turn_one : {A : Type 0} (t u v : ℕ) (xs : List A) (x : A) → u ≡ turn_after t (length xs) → v ≡ one_more u → v ≡ turn_after t (length (xs ++ x ∷ []))
turn_one t u v xs x e f = turn_append t u v xs (x ∷ []) e f

-- moves before the messages
pub steps_before : (n : Node) (ms : List Msg) (a b moves t u v : ℕ) → u ≡ turn_after t moves → CountsSteps n ms a b 0 u v → CountsSteps n ms a b moves t v
steps_before n ms a b moves t u v e c =
    let none : 0 + length c.ks ≡ length c.ks = omega arith in record {
      ks = c.ks;
      read = c.read;
      turn = c.turn ∙ ap (turn_after u) none ∙ ap (λ x. turn_after x (length c.ks)) e ∙ sym (turn_sum t moves (length c.ks));
    }

-- a cursor that stays
pub stays_there : (a seen : ℕ) → MovesOn a a seen
stays_there a seen = record { forth = omega arith; within = inl refl }
