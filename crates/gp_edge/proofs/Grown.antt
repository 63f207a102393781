-- Writing over bytes that were made long enough.
use Rattle.std.proofs.Common.{◌≡◌, ℕ, ◌+◌, ◌-◌, ◌≤◌, List, [], ◌++◌, length, take, drop, replicate, sym, ap, subst, ◌∙◌, inl, inr, arith}
use Rattle.std.proofs.Math.Seq.{take-append-add, take_all}
use Rattle.std.proofs.lemmas.Bool.{cases_lt}
use Rattle.std.proofs.lemmas.List.{append-nil, take-append-le, take-replicate, drop_all, length-append, length-take, length-drop, length-replicate}
use Rattle.gp_edge.specs.Disks.{padded, put}

grown_front : (at end : ℕ) (old : List ℕ) → at ≤ end → take at (padded end old) ≡ take at (padded at old)
grown_front at end old le = elim (cases_lt at (length old)) [
  | inl inside ↦ take-append-le at old (replicate (end - length old) 0) (omega (arith, inside)) ∙ sym (take-append-le at old (replicate (at - length old) 0) (omega (arith, inside)))
  | inr past ↦
      let n = at - length old in
      let m = end - length old in
      let place : length old + n ≡ at = omega (arith, past) in
      let whole : take at (padded at old) ≡ old ++ replicate n 0 = ap (λ k. take k (padded at old)) (sym place) ∙ take-append-add old (replicate n 0) n ∙ ap (λ l. old ++ l) (take-replicate n n 0 (omega arith)) in
      ap (λ k. take k (padded end old)) (sym place) ∙ take-append-add old (replicate m 0) n ∙ ap (λ l. old ++ l) (take-replicate n m 0 (omega (arith, le))) ∙ sym whole
]

grown_behind : (end : ℕ) (old : List ℕ) → drop end (padded end old) ≡ drop end old
grown_behind end old = elim (cases_lt end (length old)) [
  | inl inside ↦ let none : end - length old ≡ 0 = omega (arith, inside) in ap (λ n. drop end (old ++ replicate n 0)) none ∙ ap (drop end) (append-nil old)
  | inr past ↦
      let sum = length-append old (replicate (end - length old) 0) in
      let more = length-replicate {A = ℕ} (end - length old) 0 in
      drop_all end (padded end old) (omega (arith, sum, more, past)) ∙ sym (drop_all end old past)
]

padded_long : (len : ℕ) (old : List ℕ) → len ≤ length (padded len old)
padded_long len old = let sum = length-append old (replicate (len - length old) 0) in let more = length-replicate {A = ℕ} (len - length old) 0 in omega (arith, sum, more)

-- what a copy over a range makes of them
pub written_over : (at : ℕ) (bytes old grown : List ℕ) → grown ≡ padded (at + length bytes) old → take at grown ++ bytes ++ drop (at + length bytes) grown ≡ put at bytes old
written_over at bytes old grown is =
    let end = at + length bytes in
    ap (λ l. take at l ++ bytes ++ drop end l) is
    ∙ ap (λ l. l ++ bytes ++ drop end (padded end old)) (grown_front at end old (omega arith))
    ∙ ap (λ l. take at (padded at old) ++ bytes ++ l) (grown_behind end old)

-- nothing was missing
pub long_enough : (len : ℕ) (old : List ℕ) → len ≤ length old → padded len old ≡ old
long_enough len old le = let none : len - length old ≡ 0 = omega (arith, le) in ap (λ n. old ++ replicate n 0) none ∙ append-nil old

-- the bytes that a slice of them hands back
pub written_back : (at len end : ℕ) (bytes old slice new items : List ℕ) → end ≡ at + length bytes → slice ≡ items → length slice ≡ len → items ≡ padded end old → new ≡ take at slice ++ bytes ++ drop (at + length bytes) slice
    → take len (new ++ drop (length new) items) ≡ put at bytes old
written_back at len end bytes old slice new items end_is same long grown made =
    let first = length-take at slice in
    let one = length-append (take at slice) bytes in
    let all = length-append (take at slice ++ bytes) (drop (at + length bytes) slice) in
    let rest = length-drop (at + length bytes) slice in
    let room : end ≤ length slice = subst (λ l. end ≤ length l) (sym (same ∙ grown)) (padded_long end old) in
    let size : length new ≡ length slice = ap length made ∙ omega (arith, first, one, all, rest, room, end_is) in
    let items_long : length items ≡ len = ap length (sym same) ∙ long in
    let none : drop (length new) items ≡ [] = drop_all (length new) items (omega (arith, size, items_long, long)) in
    ap (λ l. take len (new ++ l)) none
    ∙ ap (take len) (append-nil new)
    ∙ take_all len new (omega (arith, size, long))
    ∙ made
    ∙ written_over at bytes old slice (same ∙ grown ∙ ap (λ n. padded n old) end_is)
