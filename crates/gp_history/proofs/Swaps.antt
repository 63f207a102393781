-- Commands that do not conflict may be pushed in either order.
use Rattle.std.proofs.Common.{◌≡◌, Bool, true, false, ◌||◌, List, [], ◌∷◌, ◌++◌, refl, sym, ap, ◌∙◌}
use Rattle.gp_command.specs.declared.command.Command.{Command}
use Rattle.gp_command.specs.Conflict.{same, conflict}
use Rattle.gp_command.proofs.ConflictLemmas.{same-true, conflict_itself, conflict_symm}
use Rattle.gp_history.specs.History.{History, before, push, pushes}
use Rattle.gp_history.specs.Sequence.{history_of}
use Rattle.gp_history.proofs.Tests.{In, one_of, not_true, never}
use Rattle.gp_history.proofs.Sets.{same_history, has_history_of}
use Rattle.gp_history.proofs.Push.{Within}
use Rattle.gp_history.proofs.Joins.{history_within, history_of-append}
use Rattle.gp_history.proofs.Alike.{pushed_alike}

two_swap : (c d : Command) → conflict c d ≡ false → history_of (c ∷ d ∷ []) ≡ history_of (d ∷ c ∷ [])
two_swap c d e = same_history (history_of (c ∷ d ∷ [])) (history_of (d ∷ c ∷ []))
    (λ x. has_history_of (c ∷ d ∷ []) x ∙ turn (same x c) (same x d) ∙ sym (has_history_of (d ∷ c ∷ []) x))
    (λ x y. none c d e x y ∙ sym (none d c (conflict_symm d c ∙ e) x y)) where
      turn : (a b : Bool) → (a || (b || false)) ≡ (b || (a || false))
      turn true true = refl
      turn true false = refl
      turn false true = refl
      turn false false = refl

      either : (c d x : Command) → In (c ∷ d ∷ []) x → {P : Type 0} → (x ≡ c → P) → (x ≡ d → P) → P
      either c d x i f g = one_of (same x c) (same x d || false) i (λ s. f (same-true x c s)) (λ m. one_of (same x d) false m (λ s. g (same-true x d s)) (λ n. absurd (let k = n in cc)))

      none : (c d : Command) → conflict c d ≡ false → (x y : Command) → before (history_of (c ∷ d ∷ [])) x y ≡ false
      none c d e x y = not_true (before (history_of (c ∷ d ∷ [])) x y) (λ r.
          let w = history_within (c ∷ d ∷ []) x y r in
          let i : In (c ∷ d ∷ []) x = sym (has_history_of (c ∷ d ∷ []) x) ∙ w.0 in
          let j : In (c ∷ d ∷ []) y = sym (has_history_of (c ∷ d ∷ []) y) ∙ w.1 in
          either c d x i {P = ⊥}
          (λ a. either c d y j {P = ⊥}
          (λ b. never (conflict c c) ((λ k. conflict (sym a k) (sym b k)) ∙ w.2) (conflict_itself c))
          (λ b. never (conflict c d) ((λ k. conflict (sym a k) (sym b k)) ∙ w.2) e))
          (λ a. either c d y j {P = ⊥}
          (λ b. never (conflict c d) (conflict_symm c d ∙ (λ k. conflict (sym a k) (sym b k)) ∙ w.2) e)
          (λ b. never (conflict d d) ((λ k. conflict (sym a k) (sym b k)) ∙ w.2) (conflict_itself d))))

pub push_swap : (h : History) → Within h → (c d : Command) → conflict c d ≡ false → push (push h c) d ≡ push (push h d) c
push_swap h w c d e = pushed_alike h w (c ∷ d ∷ []) (d ∷ c ∷ []) (two_swap c d e)

-- neighbours of a sequence that do not conflict
pub sequence_swap : (xs : List Command) (c d : Command) (ys : List Command) → conflict c d ≡ false → history_of (xs ++ c ∷ d ∷ ys) ≡ history_of (xs ++ d ∷ c ∷ ys)
sequence_swap xs c d ys e =
    history_of-append xs (c ∷ d ∷ ys)
    ∙ ap (λ u. pushes u ys) (push_swap (history_of xs) (history_within xs) c d e)
    ∙ sym (history_of-append xs (d ∷ c ∷ ys))
