-- Lists of disks in segments.
use Rattle.std.proofs.Common.{◌≡◌, true, false, Result, Ok, Err, ℕ, zero, suc, ◌+◌, ◌-◌, ◌<◌, ◌≤◌, List, [], ◌∷◌, ◌++◌, get_or, length, take, drop, refl, sym, ap, ◌∙◌, ⊎_elim, arith, append_assoc, length-append, length-drop, take-append-drop}
use Rattle.std.specs.Prelude.{slice_get, OnOk}
use Rattle.std.specs.Result.{is_err}
use Rattle.std.proofs.lemmas.List.{length-take-le, take_at, drop_at, drop-drop}
use Rattle.std.proofs.lemmas.Bool.{cases_lt}
use Rattle.std.proofs.lemmas.Bool.Decides.{nat_tests}
use Rattle.gp_round.specs.Counts.{Counts}
use Rattle.gp_shelf.specs.Places.{logged, place_at}
use Rattle.gp_shelf.specs.Lists.{lent_of, unlent_of, shelved, KeepsOthers}

-- ---- the place of a node

pub place_below : (n : Counts) (k : ℕ) → k < n.acceptors → place_at n k ≡ k
place_below n k lt = grind (arith, nat_tests)

pub place_above : (n : Counts) (k : ℕ) → n.acceptors ≤ k → place_at n k ≡ 7 + (k - n.acceptors)
place_above n k le = grind (arith, nat_tests)

module _ {D : Type 0} where
  -- ---- an element of a part

  pub get-append_left : (xs ys : List D) (i : ℕ) → i < length xs → slice_get (xs ++ ys) i ≡ slice_get xs i
  get-append_left [] ys i lt = absurd (omega (arith, lt))
  get-append_left (x ∷ xs) ys zero lt = refl
  get-append_left (x ∷ xs) ys (suc i) lt = get-append_left xs ys i (omega (arith, lt))

  pub get-append_right : (xs ys : List D) (n i : ℕ) → length xs ≡ n → slice_get (xs ++ ys) (n + i) ≡ slice_get ys i
  get-append_right [] ys n i e = ap (slice_get ys) (let same : n + i ≡ i = omega (arith, e) in same)
  get-append_right (x ∷ xs) ys zero i e = absurd (omega (arith, e))
  get-append_right (x ∷ xs) ys (suc n) i e =
      ap (slice_get (x ∷ xs ++ ys)) (let same : suc n + i ≡ suc (n + i) = omega arith in same) ∙ get-append_right xs ys n i (omega (arith, e))

  pub get-take : (n : ℕ) (xs : List D) (i : ℕ) → i < n → slice_get (take n xs) i ≡ slice_get xs i
  get-take zero xs i lt = absurd (omega (arith, lt))
  get-take (suc n) [] i lt = refl
  get-take (suc n) (x ∷ xs) zero lt = refl
  get-take (suc n) (x ∷ xs) (suc i) lt = get-take n xs i (omega (arith, lt))

  pub get-drop : (n : ℕ) (xs : List D) (i : ℕ) → slice_get (drop n xs) i ≡ slice_get xs (n + i)
  get-drop zero xs i = ap (slice_get xs) (let same : i ≡ 0 + i = omega arith in same)
  get-drop (suc n) [] i = refl
  get-drop (suc n) (x ∷ xs) i = get-drop n xs i ∙ ap (slice_get (x ∷ xs)) (let same : suc (n + i) ≡ suc n + i = omega arith in same)

  -- ---- a list of twelve in four parts

  drop_to : (a : ℕ) (xs : List D) → a ≤ 7 → drop (7 - a) (drop a xs) ≡ drop 7 xs
  drop_to a xs le = drop-drop (7 - a) a xs ∙ ap (λ (m : ℕ). drop m xs) (let e : a + (7 - a) ≡ 7 = omega arith in e)

  pub length-lent : (n : Counts) (disks : List D) → length disks ≡ 12 → n.acceptors ≤ 7 → n.coordinators ≤ 5 → length (lent_of n disks) ≡ logged n
  length-lent n disks twelve a c =
      length-append (take n.acceptors disks) (take n.coordinators (drop 7 disks))
      ∙ ap (λ (m : ℕ). m + length (take n.coordinators (drop 7 disks))) (length-take-le n.acceptors disks (omega arith))
      ∙ ap (λ (m : ℕ). n.acceptors + m) (length-take-le n.coordinators (drop 7 disks) (omega (arith, length-drop 7 disks)))

  first_unlent : (n : Counts) (disks : List D) → length disks ≡ 12 → n.acceptors ≤ 7 → length (take (7 - n.acceptors) (drop n.acceptors disks)) ≡ 7 - n.acceptors
  first_unlent n disks twelve a = length-take-le (7 - n.acceptors) (drop n.acceptors disks) (omega (arith, length-drop n.acceptors disks))

  pub length-unlent : (n : Counts) (disks : List D) → length disks ≡ 12 → n.acceptors ≤ 7 → n.coordinators ≤ 5 → length (unlent_of n disks) + logged n ≡ 12
  length-unlent n disks twelve a c =
      let all = length-append (take (7 - n.acceptors) (drop n.acceptors disks)) (drop (7 + n.coordinators) disks) in
      let first = first_unlent n disks twelve a in
      let second = length-drop (7 + n.coordinators) disks in
      omega (arith, all, first, second)

  -- disks that are put back as they were taken out
  pub come_back : (n : Counts) (disks : List D) → length disks ≡ 12 → n.acceptors ≤ 7 → n.coordinators ≤ 5 → shelved n (unlent_of n disks) (lent_of n disks) ≡ disks
  come_back n disks twelve a c =
      let p = take n.acceptors disks in
      let q = take (7 - n.acceptors) (drop n.acceptors disks) in
      let r = take n.coordinators (drop 7 disks) in
      let s = drop (7 + n.coordinators) disks in
      let len_p : length p ≡ n.acceptors = length-take-le n.acceptors disks (omega arith) in
      let len_q : length q ≡ 7 - n.acceptors = first_unlent n disks twelve a in
      let parts : shelved n (unlent_of n disks) (lent_of n disks) ≡ p ++ q ++ r ++ s =
      ap (λ (z : List D). z ++ take (7 - n.acceptors) (q ++ s) ++ drop n.acceptors (p ++ r) ++ drop (7 - n.acceptors) (q ++ s)) (take_at p r n.acceptors len_p)
      ∙ ap (λ (z : List D). p ++ z ++ drop n.acceptors (p ++ r) ++ drop (7 - n.acceptors) (q ++ s)) (take_at q s (7 - n.acceptors) len_q)
      ∙ ap (λ (z : List D). p ++ q ++ z ++ drop (7 - n.acceptors) (q ++ s)) (drop_at p r n.acceptors len_p)
      ∙ ap (λ (z : List D). p ++ q ++ r ++ z) (drop_at q s (7 - n.acceptors) len_q) in
      let last : r ++ s ≡ drop 7 disks = ap (λ (z : List D). r ++ z) (sym (drop-drop n.coordinators 7 disks)) ∙ take-append-drop n.coordinators (drop 7 disks) in
      let middle : q ++ drop 7 disks ≡ drop n.acceptors disks = ap (λ (z : List D). q ++ z) (sym (drop_to n.acceptors disks a)) ∙ take-append-drop (7 - n.acceptors) (drop n.acceptors disks) in
      parts ∙ append_assoc (p ++ q) r s ∙ ap (λ (z : List D). (p ++ q) ++ z) last ∙ append_assoc p q (drop 7 disks) ∙ ap (λ (z : List D). p ++ z) middle ∙ take-append-drop n.acceptors disks

  -- ---- by their places

  pub lent_at : (n : Counts) (disks : List D) (k : ℕ) → length disks ≡ 12 → n.acceptors ≤ 7 → k < logged n → slice_get (lent_of n disks) k ≡ slice_get disks (place_at n k)
  lent_at n disks k twelve a within =
      let p = take n.acceptors disks in
      let r = take n.coordinators (drop 7 disks) in
      let len_p : length p ≡ n.acceptors = length-take-le n.acceptors disks (omega arith) in
      ⊎_elim
      (λ lt. get-append_left p r k (omega (arith, len_p)) ∙ get-take n.acceptors disks k lt ∙ ap (slice_get disks) (sym (place_below n k lt)))
      (λ le. ap (slice_get (p ++ r)) (let e : k ≡ n.acceptors + (k - n.acceptors) = omega arith in e)
      ∙ get-append_right p r n.acceptors (k - n.acceptors) len_p
      ∙ get-take n.coordinators (drop 7 disks) (k - n.acceptors) (omega arith)
      ∙ get-drop 7 disks (k - n.acceptors) ∙ ap (slice_get disks) (sym (place_above n k le)))
      (cases_lt k n.acceptors)

  -- the four parts of all disks
  module _ (n : Counts) (unlent lent : List D) (a : n.acceptors ≤ 7) (c : n.coordinators ≤ 5) (whole : length unlent + logged n ≡ 12) (many : length lent ≡ logged n) where
    len_first : length (take n.acceptors lent) ≡ n.acceptors
    len_first = length-take-le n.acceptors lent (omega arith)

    len_second : length (take (7 - n.acceptors) unlent) ≡ 7 - n.acceptors
    len_second = length-take-le (7 - n.acceptors) unlent (omega arith)

    len_two : length (take n.acceptors lent ++ take (7 - n.acceptors) unlent) ≡ 7
    len_two = omega (arith, length-append (take n.acceptors lent) (take (7 - n.acceptors) unlent), len_first, len_second)

    len_three : length (take n.acceptors lent ++ take (7 - n.acceptors) unlent ++ drop n.acceptors lent) ≡ 7 + n.coordinators
    len_three = omega (arith, length-append (take n.acceptors lent ++ take (7 - n.acceptors) unlent) (drop n.acceptors lent), length-drop n.acceptors lent, len_two)

    first_part : (i : ℕ) → i < n.acceptors → slice_get (shelved n unlent lent) i ≡ slice_get lent i
    first_part i lt =
        get-append_left (take n.acceptors lent ++ take (7 - n.acceptors) unlent ++ drop n.acceptors lent) (drop (7 - n.acceptors) unlent) i (omega (arith, len_three))
        ∙ get-append_left (take n.acceptors lent ++ take (7 - n.acceptors) unlent) (drop n.acceptors lent) i (omega (arith, len_two))
        ∙ get-append_left (take n.acceptors lent) (take (7 - n.acceptors) unlent) i (omega (arith, len_first))
        ∙ get-take n.acceptors lent i lt

    second_part : (i : ℕ) → n.acceptors + i < 7 → slice_get (shelved n unlent lent) (n.acceptors + i) ≡ slice_get unlent i
    second_part i lt =
        get-append_left (take n.acceptors lent ++ take (7 - n.acceptors) unlent ++ drop n.acceptors lent) (drop (7 - n.acceptors) unlent) (n.acceptors + i) (omega (arith, len_three))
        ∙ get-append_left (take n.acceptors lent ++ take (7 - n.acceptors) unlent) (drop n.acceptors lent) (n.acceptors + i) (omega (arith, len_two))
        ∙ get-append_right (take n.acceptors lent) (take (7 - n.acceptors) unlent) n.acceptors i len_first
        ∙ get-take (7 - n.acceptors) unlent i (omega arith)

    third_part : (i : ℕ) → i < n.coordinators → slice_get (shelved n unlent lent) (7 + i) ≡ slice_get lent (n.acceptors + i)
    third_part i lt =
        get-append_left (take n.acceptors lent ++ take (7 - n.acceptors) unlent ++ drop n.acceptors lent) (drop (7 - n.acceptors) unlent) (7 + i) (omega (arith, len_three))
        ∙ get-append_right (take n.acceptors lent ++ take (7 - n.acceptors) unlent) (drop n.acceptors lent) 7 i len_two
        ∙ get-drop n.acceptors lent i

    last_part : (i : ℕ) → slice_get (shelved n unlent lent) (7 + n.coordinators + i) ≡ slice_get unlent ((7 - n.acceptors) + i)
    last_part i =
        get-append_right (take n.acceptors lent ++ take (7 - n.acceptors) unlent ++ drop n.acceptors lent) (drop (7 - n.acceptors) unlent) (7 + n.coordinators) i len_three
        ∙ get-drop (7 - n.acceptors) unlent i

    pub shelved_at : (k : ℕ) → k < logged n → slice_get (shelved n unlent lent) (place_at n k) ≡ slice_get lent k
    shelved_at k within = ⊎_elim
        (λ lt. ap (slice_get (shelved n unlent lent)) (place_below n k lt) ∙ first_part k lt)
        (λ le. ap (slice_get (shelved n unlent lent)) (place_above n k le) ∙ third_part (k - n.acceptors) (omega arith)
        ∙ ap (slice_get lent) (let e : n.acceptors + (k - n.acceptors) ≡ k = omega arith in e))
        (cases_lt k n.acceptors)

  pub others_stay : (n : Counts) (disks lent : List D) → n.acceptors ≤ 7 → n.coordinators ≤ 5 → length disks ≡ 12 → length lent ≡ logged n → KeepsOthers n disks (shelved n (unlent_of n disks) lent)
  others_stay n disks lent a c twelve many i other =
      let whole = length-unlent n disks twelve a c in
      let q = take (7 - n.acceptors) (drop n.acceptors disks) in
      let s = drop (7 + n.coordinators) disks in
      let len_q : length q ≡ 7 - n.acceptors = first_unlent n disks twelve a in
      ⊎_elim
      (λ lt. absurd (other i (omega arith) (sym (place_below n i lt))))
      (λ le. ⊎_elim
      (λ lt. let e : i ≡ n.acceptors + (i - n.acceptors) = omega arith in
      ap (slice_get (shelved n (q ++ s) lent)) e
      ∙ second_part n (q ++ s) lent a c whole many (i - n.acceptors) (omega arith)
      ∙ get-append_left q s (i - n.acceptors) (omega (arith, len_q))
      ∙ get-take (7 - n.acceptors) (drop n.acceptors disks) (i - n.acceptors) (omega arith)
      ∙ get-drop n.acceptors disks (i - n.acceptors) ∙ ap (slice_get disks) (sym e))
      (λ up. ⊎_elim
      (λ lt. absurd (other (n.acceptors + (i - 7)) (omega arith) (sym (place_above n (n.acceptors + (i - 7)) (omega arith) ∙ (let e : 7 + (n.acceptors + (i - 7) - n.acceptors) ≡ i = omega arith in e)))))
      (λ past. let e : i ≡ 7 + n.coordinators + (i - (7 + n.coordinators)) = omega arith in
      ap (slice_get (shelved n (q ++ s) lent)) e
      ∙ last_part n (q ++ s) lent a c whole many (i - (7 + n.coordinators))
      ∙ get-append_right q s (7 - n.acceptors) (i - (7 + n.coordinators)) len_q
      ∙ get-drop (7 + n.coordinators) disks (i - (7 + n.coordinators)) ∙ ap (slice_get disks) (sym e))
      (cases_lt i (7 + n.coordinators)))
      (cases_lt i 7))
      (cases_lt i n.acceptors)

  -- the first disk, and those behind it
  pub taken_first : (xs rest : List D) (x : D) → 0 < length xs → x ≡ get_or xs 0 x → rest ≡ drop 1 xs → xs ≡ x ∷ rest
  taken_first [] rest x some is left = absurd (omega (arith, some))
  taken_first (y ∷ xs) rest x some is left = cc

  pub no_more : (xs : List D) → length xs ≡ 0 → xs ≡ []
  no_more [] e = refl
  no_more (x ∷ xs) e = absurd (omega (arith, e))

  pub length-shelved : (n : Counts) (unlent lent : List D) → length (shelved n unlent lent) ≡ length lent + length unlent
  length-shelved n unlent lent =
      let a = take n.acceptors lent in
      let b = take (7 - n.acceptors) unlent in
      let c = drop n.acceptors lent in
      let d = drop (7 - n.acceptors) unlent in
      omega (
        arith,
        length-append (a ++ b ++ c) d,
        length-append (a ++ b) c,
        length-append a b,
        length-append a c,
        length-append b d,
        ap length (take-append-drop n.acceptors lent),
        ap length (take-append-drop (7 - n.acceptors) unlent),
      )

-- what holds of an Ok
pub on_ok : {T E : Type 0} (P : Type 0) (r : Result T E) → false ≡ is_err r → OnOk r P → P
on_ok P (Ok x) e h = h
on_ok P (Err x) e h = absurd (let wrong : false ≡ true = e in cc)
