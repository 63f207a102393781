-- Lists that extend others, and beginnings of lists.
use Rattle.std.proofs.Common.{◌≡◌, ◌⊎◌, ◌+◌, ◌≤◌, List, [], ◌∷◌, ◌++◌, length, sym, ap, refl, ◌∙◌, inl, inr, ⊎_elim, arith}
use Rattle.std.proofs.lemmas.List.{append_assoc, append-nil, length-append}
use mathlib.Core.List.{IsPrefix}
use Rattle.gp_command.specs.declared.command.Command.{Command}
use Rattle.gp_views.specs.Lists.{Extends}

pub extends_itself : (cs : List Command) → Extends cs cs
extends_itself cs = ([], sym (append-nil cs))

pub extends_more : (ds cs bs : List Command) → Extends ds cs → Extends cs bs → Extends ds bs
extends_more ds cs bs p q = (q.0 ++ p.0, p.1 ∙ (ap (λ (z : List Command). z ++ p.0) q.1 ∙ append_assoc bs q.0 p.0))

-- ---- beginnings

module _ {A : Type 0} where
  pub begins_itself : (xs : List A) → IsPrefix xs xs
  begins_itself xs = ([], append-nil xs)

  abbrev first_or : A → List A → A
  first_or x [] = x
  first_or x (y ∷ ys) = y

  abbrev behind_first : List A → List A
  behind_first [] = []
  behind_first (y ∷ ys) = ys

  -- one beginning of a list that is no longer than another begins that one
  pub shorter_begins : (xs ys zs : List A) → IsPrefix xs zs → IsPrefix ys zs → length xs ≤ length ys → IsPrefix xs ys
  shorter_begins [] ys zs p q less = (ys, refl)
  shorter_begins (x ∷ xs) [] zs p q less = absurd (omega arith)
  shorter_begins (x ∷ xs) (y ∷ ys) zs p q less =
      let whole : x ∷ (xs ++ p.0) ≡ y ∷ (ys ++ q.0) = p.1 ∙ sym q.1 in
      let rest : IsPrefix xs ys = shorter_begins xs ys (xs ++ p.0) (p.0, refl) (q.0, sym (ap behind_first whole)) (omega arith) in
      (rest.0, ap (λ (z : List A). x ∷ z) rest.1 ∙ ap (λ (a : A). a ∷ ys) (ap (first_or x) whole))

  nothing : (xs rest : List A) → xs ++ rest ≡ [] → xs ≡ []
  nothing [] rest e = refl
  nothing (x ∷ xs) rest e = absurd (cc e)

  -- what begins a list with one more at its end begins the list, or is the whole
  pub begins_or_whole : (xs zs : List A) (e : A) → IsPrefix xs (zs ++ e ∷ []) → IsPrefix xs zs ⊎ (xs ≡ zs ++ e ∷ [])
  begins_or_whole [] zs e p = inl (zs, refl)
  begins_or_whole (x ∷ xs) [] e p = inr (ap (λ (z : List A). x ∷ z) (nothing xs p.0 (ap behind_first p.1)) ∙ ap (λ (a : A). a ∷ []) (ap (first_or x) p.1))
  begins_or_whole (x ∷ xs) (z ∷ zs) e p =
      let same : x ≡ z = ap (first_or x) p.1 in
      ⊎_elim (λ (q : IsPrefix xs zs). inl (q.0, ap (λ (l : List A). x ∷ l) q.1 ∙ ap (λ (a : A). a ∷ zs) same))
      (λ (q : xs ≡ zs ++ e ∷ []). inr (ap (λ (l : List A). x ∷ l) q ∙ ap (λ (a : A). a ∷ (zs ++ e ∷ [])) same))
      (begins_or_whole xs zs e (p.0, ap behind_first p.1))

  is_empty : (xs : List A) → length xs ≡ 0 → xs ≡ []
  is_empty [] e = refl
  is_empty (x ∷ xs) e = absurd (omega arith)

  empty_tail : (zs xs : List A) (p : IsPrefix zs xs) → length p.0 ≡ 0 → zs ≡ xs
  empty_tail zs xs p none = sym (append-nil zs) ∙ (ap (λ (z : List A). zs ++ z) (sym (is_empty p.0 none)) ∙ p.1)

  -- a beginning as long as the whole is the whole
  pub as_long : (xs zs : List A) → IsPrefix xs zs → length zs ≤ length xs → xs ≡ zs
  as_long xs zs p less =
      let back : IsPrefix zs xs = shorter_begins zs xs zs (begins_itself zs) p less in
      let sum : length zs ≡ length xs + length p.0 = ap length (sym p.1) ∙ length-append xs p.0 in
      let more : length xs ≡ length zs + length back.0 = ap length (sym back.1) ∙ length-append zs back.0 in
      sym (empty_tail zs xs back (omega arith))
