-- Logs that are taken one after another.
use Rattle.std.proofs.Common.{◌≡◌, ◌≤◌, ◌<◌, ◌+◌, ℕ, suc, List, [], ◌∷◌, ◌++◌, length, map, reverse, refl, sym, ap, ◌∙◌, append_assoc, length-append, Option, Some, arith}
use Rattle.std.proofs.lemmas.List.{reverse-append, append-nil}
use Rattle.std.specs.Option.{option_to_list}
use Rattle.gp_vlog.specs.Logs.{LogState}
use Rattle.gp_cell.specs.Cells.{CellState, log_of}
use Rattle.gp_cluster.specs.Cells.{present}

-- the last of a list is the first of the reversed one
pub turned : {A : Type 0} (left more : List A) (x : A) → left ≡ more ++ x ∷ [] → reverse left ≡ x ∷ reverse more
turned left more x split = ap reverse split ∙ reverse-append more (x ∷ [])

module _ {D : Type 0} (rest more : List (Option (LogState D))) (o : Option (LogState D)) (split : rest ≡ o ∷ more) where
  -- a log was put behind those that were found
  pub found_more : (found after all : List (LogState D)) → after ≡ found ++ option_to_list o → found ++ present rest ≡ all → after ++ present more ≡ all
  found_more found after all grown whole =
      ap (λ l. l ++ present more) grown ∙ append_assoc found (option_to_list o) (present more) ∙ ap (λ l. found ++ l) (sym (ap present split)) ∙ whole

-- the logs of cells in their order
pub turned_logs : {D : Type 0} (left more : List (CellState D)) (c : CellState D) → left ≡ more ++ c ∷ [] → map log_of (reverse left) ≡ log_of c ∷ map log_of (reverse more)
turned_logs left more c split = ap (map log_of) (turned left more c split)

-- a list from whose end an element was taken is shorter
pub shorter : {A : Type 0} (left more : List A) (x : A) → left ≡ more ++ x ∷ [] → length more < length left
shorter left more x split = let size : length left ≡ length more + 1 = ap length split ∙ length-append more (x ∷ []) in omega (arith, size)

-- there is room for one more log where all logs fit
pub room_left : {D : Type 0} (rest more : List (Option (LogState D))) (log : LogState D) → rest ≡ Some log ∷ more → (found all : List (LogState D)) → found ++ present rest ≡ all → (n : ℕ) → length all ≤ n → length found < n
room_left rest more log split found all whole n fits =
    let size : length found + length (present rest) ≡ length all = sym (length-append found (present rest)) ∙ ap length whole in
    let one : length (present rest) ≡ suc (length (present more)) = ap (λ l. length (present l)) split in
    omega (arith, size, one, fits)

-- nothing is left, so that all logs were found
pub all_found : {D : Type 0} (rest : List (Option (LogState D))) → rest ≡ [] → (found all : List (LogState D)) → found ++ present rest ≡ all → found ≡ all
all_found rest none found all whole = sym (append-nil found) ∙ ap (λ r. found ++ present r) (sym none) ∙ whole

-- a list without elements
pub none_left : {A : Type 0} (left : List A) → length left ≡ 0 → left ≡ []
none_left [] none = refl
none_left (x ∷ left) none = absurd (omega (arith, none))
