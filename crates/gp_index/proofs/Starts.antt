-- Where the epochs of a sequence start.
use Rattle.std.proofs.Common.{◌≡◌, ℕ, zero, suc, ◌+◌, ◌<◌, ◌≤◌, Bool, true, false, cond, List, [], ◌∷◌, ◌++◌, length, get_or, add-one, refl, ap, ◌∙◌, arith}
use Rattle.gp_command.specs.declared.command.Command.{Command}
use Rattle.gp_index.specs.Epochs.{checkpoints, epoch_start, starts_from}

pub length_starts : (n : ℕ) (xs : List Command) → length (starts_from n xs) ≡ checkpoints xs
length_starts n [] = refl
length_starts n (x ∷ xs) = by x.draft.checkpoint (length_starts (suc n) xs) where
  by : (b : Bool) → length (starts_from (suc n) xs) ≡ checkpoints xs → length (cond b (suc n ∷ starts_from (suc n) xs) (starts_from (suc n) xs)) ≡ cond b (suc (checkpoints xs)) (checkpoints xs)
  by true e = ap suc e
  by false e = e

pub starts_at : (n : ℕ) (xs : List Command) (i : ℕ) → i < checkpoints xs → get_or (starts_from n xs) i 0 ≡ n + epoch_start xs (suc i)
starts_at n [] i h = absurd (omega (arith, h))
starts_at n (x ∷ xs) i h = by x.draft.checkpoint i (λ j l. starts_at (suc n) xs j l) h where
  by : (b : Bool) (i : ℕ) → ((j : ℕ) → j < checkpoints xs → get_or (starts_from (suc n) xs) j 0 ≡ suc n + epoch_start xs (suc j)) → i < cond b (suc (checkpoints xs)) (checkpoints xs)
      → get_or (cond b (suc n ∷ starts_from (suc n) xs) (starts_from (suc n) xs)) i 0 ≡ n + suc (cond b (epoch_start xs i) (epoch_start xs (suc i)))
  by true zero r h = omega arith
  by true (suc j) r h = let e = r j (omega (arith, h)) in omega (arith, e)
  by false i r h = let e = r i h in omega (arith, e)

pub starts_push : (n : ℕ) (xs : List Command) (c : Command) → starts_from n (xs ++ c ∷ []) ≡ starts_from n xs ++ cond c.draft.checkpoint (suc (n + length xs) ∷ []) []
starts_push n [] c = by c.draft.checkpoint where
  by : (b : Bool) → cond b (suc n ∷ []) [] ≡ cond b (suc (n + 0) ∷ []) []
  by true = let e : suc n ≡ suc (n + 0) = omega arith in ap (λ m. m ∷ []) e
  by false = refl
starts_push n (x ∷ xs) c = by x.draft.checkpoint (starts_push (suc n) xs c ∙ ap (λ m. starts_from (suc n) xs ++ cond c.draft.checkpoint (m ∷ []) []) shift) where
  shift : suc (suc n + length xs) ≡ suc (n + suc (length xs))
  shift = omega arith

  by : (b : Bool) → starts_from (suc n) (xs ++ c ∷ []) ≡ starts_from (suc n) xs ++ cond c.draft.checkpoint (suc (n + suc (length xs)) ∷ []) []
      → cond b (suc n ∷ starts_from (suc n) (xs ++ c ∷ [])) (starts_from (suc n) (xs ++ c ∷ [])) ≡ cond b (suc n ∷ starts_from (suc n) xs) (starts_from (suc n) xs) ++ cond c.draft.checkpoint (suc (n + suc (length xs)) ∷ []) []
  by true e = ap (λ r. suc n ∷ r) e
  by false e = e

pub start_within : (xs : List Command) (i : ℕ) → epoch_start xs i ≤ length xs
start_within xs zero = omega arith
start_within [] (suc i) = omega arith
start_within (x ∷ xs) (suc i) = by x.draft.checkpoint (start_within xs i) (start_within xs (suc i)) where
  by : (b : Bool) → epoch_start xs i ≤ length xs → epoch_start xs (suc i) ≤ length xs → suc (cond b (epoch_start xs i) (epoch_start xs (suc i))) ≤ suc (length xs)
  by true p q = omega (arith, p)
  by false p q = omega (arith, q)

rises : (xs : List Command) (i : ℕ) → i < checkpoints xs → epoch_start xs i ≤ epoch_start xs (suc i)
rises xs zero h = omega arith
rises [] (suc i) h = omega arith
rises (x ∷ xs) (suc i) h = by x.draft.checkpoint (rises xs i) (rises xs (suc i)) h where
  by : (b : Bool) → (i < checkpoints xs → epoch_start xs i ≤ epoch_start xs (suc i)) → (suc i < checkpoints xs → epoch_start xs (suc i) ≤ epoch_start xs (suc (suc i))) → suc i < cond b (suc (checkpoints xs)) (checkpoints xs)
      → suc (cond b (epoch_start xs i) (epoch_start xs (suc i))) ≤ suc (cond b (epoch_start xs (suc i)) (epoch_start xs (suc (suc i))))
  by true p q h = let r = p (omega (arith, h)) in omega (arith, r)
  by false p q h = let r = q h in omega (arith, r)

pub start_rises : (xs : List Command) (i : ℕ) → i < checkpoints xs → epoch_start xs i ≤ epoch_start xs (i + 1)
start_rises xs i h = rw add-one (rises xs i h)
