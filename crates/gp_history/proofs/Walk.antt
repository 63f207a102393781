-- The least ready commands, one after another, are the canonical sequence.
use Rattle.std.proofs.Common.{◌≡◌, ℕ, zero, suc, ◌<◌, ◌≤◌, Bool, true, false, List, [], ◌∷◌, ◌++◌, length, take, refl, sym, ap, ◌∙◌, ◌⊎◌, inl, inr, append_assoc, append-nil, arith}
use Rattle.std.specs.Prelude.{Option, Some, None, slice_get, nat_le}
use Rattle.std.specs.FinSet as set
use Rattle.std.proofs.lemmas.Bool.{leb-true, le-leb, true≢false}
use Rattle.std.proofs.Math.Seq.{take-append_seam}
use Rattle.gp_command.specs.declared.command.Command.{Command}
use Rattle.gp_history.specs.History.{History}
use Rattle.gp_history.specs.Sequence.{history_of}
use Rattle.gp_history.specs.Canonical.{next_least, and_next, least_first, canonical}

pub length_push : (xs : List Command) (c : Command) → length (xs ++ c ∷ []) ≡ suc (length xs)
length_push [] c = refl
length_push (x ∷ xs) c = ap suc (length_push xs c)

get_behind : (xs : List Command) (c : Command) (ys : List Command) → slice_get (xs ++ c ∷ ys) (length xs) ≡ Some c
get_behind [] c ys = refl
get_behind (x ∷ xs) c ys = get_behind xs c ys

module _ (h : History) where
  abbrev next : ℕ → Option Command
  next n = next_least h (history_of (least_first n h))

  data Step (n : ℕ) : Type 0 where
    stays : next n ≡ None → least_first (suc n) h ≡ least_first n h → Step n
    grows : (c : Command) → next n ≡ Some c → least_first (suc n) h ≡ least_first n h ++ c ∷ [] → Step n

  step : (n : ℕ) → Step n
  step n = elim (next n) as (λ o. next n ≡ o → Step n) [
    | None ↦ λ e. stays e (ap (and_next (least_first n h)) e)
    | Some c ↦ λ e. grows c e (ap (and_next (least_first n h)) e)
  ] refl

  at_most : (n : ℕ) → length (least_first n h) ≤ n
  at_most zero = omega arith
  at_most (suc n) = let r = at_most n in elim (step n) [
    | stays e f ↦ let k = ap length f in omega (arith, r, k)
    | grows c e f ↦ let k : length (least_first (suc n) h) ≡ suc (length (least_first n h)) = ap length f ∙ length_push (least_first n h) c in omega (arith, r, k)
  ]

  split : (n m : ℕ) → n ≤ suc m → (n ≤ m) ⊎ (n ≡ suc m)
  split n m p = pick (nat_le n m) refl where
    past : (n ≤ m → ⊥) → n ≡ suc m
    past f = omega arith

    pick : (b : Bool) → nat_le n m ≡ b → (n ≤ m) ⊎ (n ≡ suc m)
    pick true e = inl (omega (arith, leb-true n m e))
    pick false e = inr (past (λ q. true≢false (sym (le-leb n m q) ∙ e)))

  -- once nothing is ready, nothing more comes
  stall : (n : ℕ) → next n ≡ None → (m : ℕ) → n ≤ m → least_first m h ≡ least_first n h
  stall n e zero p = let z : n ≡ 0 = omega arith in ap (λ k. least_first k h) (sym z)
  stall n e (suc m) p = elim (split n m p) [
    | inl q ↦ let r = stall n e m q in elim (step m) [
      | stays f g ↦ g ∙ r
      | grows c f g ↦ let k : next n ≡ Some c = ap (λ xs. next_least h (history_of xs)) (sym r) ∙ f in let no : None ≡ Some c = sym e ∙ k in cc
    ]
    | inr q ↦ ap (λ k. least_first k h) (sym q)
  ]

  extends : (n m : ℕ) → n ≤ m → (zs : List Command) × (least_first m h ≡ least_first n h ++ zs)
  extends n zero p = let z : n ≡ 0 = omega arith in ([], ap (λ k. least_first k h) (sym z) ∙ sym (append-nil (least_first n h)))
  extends n (suc m) p = elim (split n m p) [
    | inl q ↦ let r = extends n m q in elim (step m) [
      | stays f g ↦ (r.0, g ∙ r.1)
      | grows c f g ↦ (r.0 ++ c ∷ [], g ∙ ap (λ xs. xs ++ c ∷ []) r.1 ∙ append_assoc (least_first n h) r.0 (c ∷ []))
    ]
    | inr q ↦ ([], ap (λ k. least_first k h) (sym q) ∙ sym (append-nil (least_first n h)))
  ]

  full : (n m : ℕ) → n ≤ m → n ≤ length (least_first m h) → length (least_first n h) ≡ n
  full zero m p q = let r = at_most zero in omega (arith, r)
  full (suc n) m p q =
      let r = full n m (omega arith) (omega arith) in
      elim (step n) [
        | stays e f ↦ let k = ap length (stall n e m (omega arith)) in absurd (omega (arith, k, r))
        | grows c e f ↦ let k : length (least_first (suc n) h) ≡ suc (length (least_first n h)) = ap length f ∙ length_push (least_first n h) c in omega (arith, k, r)
      ]

  walks_to : (i m : ℕ) → i < length (least_first m h) → next_least h (history_of (take i (least_first m h))) ≡ slice_get (least_first m h) i
  walks_to i m lt =
      let le = at_most m in
      let len : length (least_first i h) ≡ i = full i m (omega (arith, le)) (omega arith) in
      elim (step i) [
        | stays e f ↦ let k = ap length (stall i e m (omega (arith, le))) in absurd (omega (arith, k, len))
        | grows c e f ↦
            let r = extends (suc i) m (omega (arith, le)) in
            let whole : least_first m h ≡ least_first i h ++ c ∷ r.0 = r.1 ∙ ap (λ xs. xs ++ r.0) f ∙ append_assoc (least_first i h) (c ∷ []) r.0 in
            let front : take i (least_first m h) ≡ least_first i h = ap (take i) whole ∙ ap (λ n. take n (least_first i h ++ c ∷ r.0)) (sym len) ∙ take-append_seam (least_first i h) (c ∷ r.0) in
            let there : slice_get (least_first m h) i ≡ Some c = ap (λ xs. slice_get xs i) whole ∙ ap (slice_get (least_first i h ++ c ∷ r.0)) (sym len) ∙ get_behind (least_first i h) c r.0 in
            ap (λ xs. next_least h (history_of xs)) front ∙ e ∙ sym there
      ]

  pub walks : (i : ℕ) → i < length (canonical h) → next_least h (history_of (take i (canonical h))) ≡ slice_get (canonical h) i
  unfolding canonical
  walks i lt = walks_to i (length (set.items h.commands)) lt
