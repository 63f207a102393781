-- A search for the place of a command.
use Rattle.std.proofs.Common.{◌≡◌, ℕ, suc, ◌<◌, true, false, List, [], ◌∷◌, length, Some, None, refl, sym, ap, ◌∙◌, ◌||◌, arith}
use Rattle.std.specs.Prelude.{Option, slice_get}
use Rattle.std.specs.List.{list_any}
use Rattle.std.proofs.lemmas.Bool.{true≢false}
use Rattle.gp_command.specs.declared.command.Command.{Command}
use Rattle.gp_command.specs.Conflict.{same}
use Rattle.gp_history.specs.Sequence.{no_repeat, place_in}
use Rattle.gp_history.specs.Walks.{is_it, stands_at}
use Rattle.gp_history.proofs.Places.{place_found, lost}

stands_found_at : (xs : List Command) (i : ℕ) (c : Command) (o : Option Command) → slice_get xs i ≡ o → no_repeat xs ≡ true → is_it c o ≡ true → Some i ≡ place_in xs c
stands_found_at xs i c None at n e = absurd (true≢false (sym e))
stands_found_at xs i c (Some d) at n e = place_found xs i c d n at e

pub stands_found : (xs : List Command) (i : ℕ) (c : Command) → no_repeat xs ≡ true → stands_at c xs i ≡ true → Some i ≡ place_in xs c
stands_found xs i c n e = stands_found_at xs i c (slice_get xs i) refl n e

nowhere_in : (xs : List Command) (c : Command) → ((i : ℕ) → i < length xs → stands_at c xs i ≡ false) → list_any (same c) xs ≡ false
nowhere_in [] c h = refl
nowhere_in (x ∷ xs) c h = ap (λ b. b || list_any (same c) xs) (h 0 (omega arith)) ∙ nowhere_in xs c (λ i lt. h (suc i) (omega arith))

pub nowhere : (xs : List Command) (c : Command) → ((i : ℕ) → i < length xs → stands_at c xs i ≡ false) → None ≡ place_in xs c
nowhere xs c h = lost xs c (nowhere_in xs c h)
