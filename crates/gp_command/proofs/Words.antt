-- Lists of at most 32 bytes with equal heads are equal.
use Rattle.std.proofs.Common.{◌≡◌, ◌<◌, ◌+◌, ℕ, zero, suc, Bool, true, false, nat_lt, ◌≤◌, ◌-◌, List, [], ◌∷◌, length, get_or, refl, sym, ap, ◌∙◌, arith}
use Rattle.std.specs.Int.{w64, to_le_bytes}
use Rattle.std.proofs.lemmas.Bool.{ltb-true, ltb-false}
use Rattle.gp_command.specs.declared.code.Head.{Head}
use Rattle.gp_command.specs.Words.{eight, IsWord, IsHead}

-- ---- lists with equal elements

alike : (xs ys : List ℕ) → length xs ≡ length ys → ((i : ℕ) → i < length xs → get_or xs i 0 ≡ get_or ys i 0) → xs ≡ ys
alike [] [] l e = refl
alike [] (y ∷ ys) l e = absurd (omega (arith, l))
alike (x ∷ xs) [] l e = absurd (omega (arith, l))
alike (x ∷ xs) (y ∷ ys) l e =
    let rest = alike xs ys (omega (arith, l)) (λ i within. e (suc i) (omega (arith, within))) in
    λ i. e 0 (omega arith) i ∷ rest i

-- ---- one word

in_eight : (xs ys : List ℕ) (i r : ℕ) → r < 8 → eight xs i ≡ eight ys i → get_or xs (i + r) 0 ≡ get_or ys (i + r) 0
in_eight xs ys i zero small e =
    let plain : i + 0 ≡ i = omega arith in
    (λ j. get_or xs (plain j) 0) ∙ ap (λ zs. get_or zs 0 0) e ∙ (λ j. get_or ys (sym plain j) 0)
in_eight xs ys i (suc zero) small e = ap (λ zs. get_or zs 1 0) e
in_eight xs ys i (suc (suc zero)) small e = ap (λ zs. get_or zs 2 0) e
in_eight xs ys i (suc (suc (suc zero))) small e = ap (λ zs. get_or zs 3 0) e
in_eight xs ys i (suc (suc (suc (suc zero)))) small e = ap (λ zs. get_or zs 4 0) e
in_eight xs ys i (suc (suc (suc (suc (suc zero))))) small e = ap (λ zs. get_or zs 5 0) e
in_eight xs ys i (suc (suc (suc (suc (suc (suc zero)))))) small e = ap (λ zs. get_or zs 6 0) e
in_eight xs ys i (suc (suc (suc (suc (suc (suc (suc zero))))))) small e = ap (λ zs. get_or zs 7 0) e
in_eight xs ys i (suc (suc (suc (suc (suc (suc (suc (suc r)))))))) small e = absurd (omega (arith, small))

same_word : (v w : ℕ) (xs ys : List ℕ) (i : ℕ) → IsWord v xs i → IsWord w ys i → v ≡ w → eight xs i ≡ eight ys i
same_word v w xs ys i a b e = sym a.written ∙ ap (to_le_bytes w64) e ∙ b.written

-- ---- whole lists

-- one of four words
in_first_32 : (xs ys : List ℕ) → eight xs 0 ≡ eight ys 0 → eight xs 8 ≡ eight ys 8 → eight xs 16 ≡ eight ys 16 → eight xs 24 ≡ eight ys 24 → (i : ℕ) → i < 32 → get_or xs i 0 ≡ get_or ys i 0
in_first_32 xs ys a b c d i small = first (nat_lt i 8) refl where
  there : (base : ℕ) → base ≤ i → i < base + 8 → eight xs base ≡ eight ys base → get_or xs i 0 ≡ get_or ys i 0
  there base from to e =
      let back : base + (i - base) ≡ i = omega (arith, from) in
      (λ j. get_or xs (sym back j) 0) ∙ in_eight xs ys base (i - base) (omega (arith, from, to)) e ∙ (λ j. get_or ys (back j) 0)

  third : (t : Bool) → nat_lt i 24 ≡ t → 16 ≤ i → get_or xs i 0 ≡ get_or ys i 0
  third true e from = there 16 from (omega (arith, ltb-true i 24 e)) c
  third false e from = there 24 (omega (arith, ltb-false i 24 e)) (omega (arith, small)) d

  second : (t : Bool) → nat_lt i 16 ≡ t → 8 ≤ i → get_or xs i 0 ≡ get_or ys i 0
  second true e from = there 8 from (omega (arith, ltb-true i 16 e)) b
  second false e from = third (nat_lt i 24) refl (omega (arith, ltb-false i 16 e))

  first : (t : Bool) → nat_lt i 8 ≡ t → get_or xs i 0 ≡ get_or ys i 0
  first true e = there 0 (omega arith) (omega (arith, ltb-true i 8 e)) a
  first false e = second (nat_lt i 16) refl (omega (arith, ltb-false i 8 e))

pub same_heads : (xs ys : List ℕ) (h k : Head) → IsHead h xs → IsHead k ys → (h.first ≡ k.first) × (h.second ≡ k.second) × (h.third ≡ k.third) × (h.fourth ≡ k.fourth) → length xs ≡ length ys → length xs ≤ 32 → xs ≡ ys
same_heads xs ys h k a b e l short =
    alike xs ys l (λ i within. in_first_32 xs ys
    (same_word h.first k.first xs ys 0 a.first b.first e.0)
    (same_word h.second k.second xs ys 8 a.second b.second e.1)
    (same_word h.third k.third xs ys 16 a.third b.third e.2)
    (same_word h.fourth k.fourth xs ys 24 a.fourth b.fourth e.3)
    i (omega (arith, within, short)))
