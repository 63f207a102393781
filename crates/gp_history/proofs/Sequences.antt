-- Sequences without repeats.
use Rattle.std.proofs.Common.{◌≡◌, Bool, true, false, not, ◌||◌, List, [], ◌∷◌, ◌++◌, refl, sym, ap, ◌∙◌}
use Rattle.std.specs.List.{list_any}
use Rattle.std.proofs.lemmas.Bool.{true≢false}
use Rattle.gp_command.specs.declared.command.Command.{Command}
use Rattle.gp_command.specs.Conflict.{same}
use Rattle.gp_command.proofs.ConflictLemmas.{same_symm}
use Rattle.gp_history.specs.History.{has}
use Rattle.gp_history.specs.Sequence.{history_of, no_repeat}
use Rattle.gp_history.proofs.Tests.{both, fst_of, snd_of, any-append}
use Rattle.gp_history.proofs.Sets.{has_history_of}

pub or_neither : (a b : Bool) → (a || b) ≡ false → (a ≡ false) × (b ≡ false)
or_neither true b h = absurd (true≢false h)
or_neither false b h = (refl, h)

pub no_repeat_push : (xs : List Command) (c : Command) → no_repeat xs ≡ true → list_any (same c) xs ≡ false → no_repeat (xs ++ c ∷ []) ≡ true
no_repeat_push [] c n f = refl
no_repeat_push (x ∷ xs) c n f =
    let k = or_neither (same c x) (list_any (same c) xs) f in
    let first : list_any (same x) (xs ++ c ∷ []) ≡ list_any (same x) xs =
    any-append (same x) xs (c ∷ []) ∙ ap (λ b. list_any (same x) xs || (b || false)) (same_symm x c ∙ k.0) ∙ or_none (list_any (same x) xs) in
    both (ap not first ∙ fst_of (not (list_any (same x) xs)) (no_repeat xs) n) (no_repeat_push xs c (snd_of (not (list_any (same x) xs)) (no_repeat xs) n) k.1) where
      or_none : (b : Bool) → (b || false) ≡ b
      or_none true = refl
      or_none false = refl

-- a command that the history lacks may be pushed
pub may_push : (xs : List Command) (c : Command) → no_repeat xs ≡ true → has (history_of xs) c ≡ false → no_repeat (xs ++ c ∷ []) ≡ true
may_push xs c n f = no_repeat_push xs c n (sym (has_history_of xs c) ∙ f)
