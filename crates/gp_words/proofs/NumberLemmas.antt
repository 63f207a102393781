-- A token is read as a number exactly where it is what is written of the number.
use Rattle.std.proofs.Common.{◌≡◌, ℕ, zero, suc, ◌^◌, ◌<◌, ◌≤◌, Bool, true, false, not, ◌&&◌, ◌||◌, eqb, ltb, leb, List, [], ◌∷◌, length, get_or, Some, None, Result, Ok, Err, refl, sym, ap, ◌∙◌, arith, rules, inl, inr}
use Rattle.std.specs.Prelude.{MatchResult, decimal, IsUtf8}
use Rattle.std.specs.List.{list_all}
use Rattle.std.specs.Char.{is_ascii_digit}
use Rattle.std.specs.Str.Parse.{digits_value, ParsesUnsigned}
use Rattle.std.proofs.lemmas.Str.Parse.{IsNumeralModel, numerals_by_value, parse_digits, digit_at}
use Rattle.std.proofs.lemmas.Fmt.{digits_decimal, digits_value-decimal, decimal-digits_value, decimal_nonempty, decimal_digit, first_decimal, length-decimal-le}
use Rattle.std.proofs.lemmas.Bool.{and_parts, and_from, leb-true, or_cases, not-true, cases_lt, cases_eq, eqb-true, eqb-false, eq-eqb, ne_eqb, lt-ltb, le-ltb, ltb-true}
use Rattle.std.proofs.lemmas.List.{get_or_past}
use Rattle.std.proofs.lemmas.Str.{IsUtf8-from_ascii}
use Rattle.gp_words.specs.Bytes.{Lacks}
use Rattle.gp_words.specs.Lines.{is_line_feed}
use Rattle.gp_words.specs.Tokens.{is_space}
use Rattle.gp_words.specs.Numbers.{is_decimal, number_of}
use Rattle.gp_words.proofs.LineLemmas.{some_of}

abbrev pub AreDigits : List ℕ → Type 0
AreDigits ds = list_all is_ascii_digit ds ≡ true

pub own : IsNumeralModel AreDigits (digits_value 10)
own = numerals_by_value _ (search rules)

pub is_decimal_parts : (t : List ℕ) → is_decimal t ≡ true → AreDigits t × (0 < length t) × (get_or t 0 0 ≡ 48 → length t ≡ 1)
unfolding is_decimal
is_decimal_parts t e =
    let outer = and_parts (list_all is_ascii_digit t && not (eqb (length t) 0)) (not (eqb (get_or t 0 0) 48) || eqb (length t) 1) e in
    let inner = and_parts (list_all is_ascii_digit t) (not (eqb (length t) 0)) outer.0 in
    let some = eqb-false (length t) 0 (not-true _ inner.1) in (
      inner.0,
      elim (cases_lt 0 (length t)) [ inl lt ↦ lt | inr le ↦ absurd (some (omega arith)) ],
      λ zero_first. elim (or_cases _ _ outer.1) [ inl other ↦ absurd (eqb-false _ _ (not-true _ other) zero_first) | inr one ↦ eqb-true _ _ one ],
    )

pub is_utf8 : (t : List ℕ) → is_decimal t ≡ true → IsUtf8 t
is_utf8 t e =
    let digits = own.to t (is_decimal_parts t e).0 in
    IsUtf8-from_ascii t (λ i. elim (cases_lt i (length t)) [ inl lt ↦ (let d = digit_at t i digits lt in omega (arith, d)) | inr le ↦ rw (get_or_past t i 0 le) (omega arith) ])

pub number_not : (t : List ℕ) → is_decimal t ≡ false → number_of t ≡ None
unfolding number_of
number_not t e = rw e refl

pub number_read : {E : Type 0} (t : List ℕ) (r : Result ℕ E) → is_decimal t ≡ true → ParsesUnsigned 64 10 t r → MatchResult r (λ n. number_of t ≡ Some n) (λ _. number_of t ≡ None)
unfolding number_of
number_read {E} t (Ok n) e h =
    let p = parse_digits own {E = E} 64 t (Ok n) h (is_decimal_parts t e).0 in
    rw (e, lt-ltb _ _ p.0.1) (ap Some (sym p.1))
number_read {E} t (Err x) e h =
    let d = is_decimal_parts t e in
    let p = parse_digits own {E = E} 64 t (Err x) h d.0 in
    elim (cases_lt (digits_value 10 t) (2 ^ 64)) [ inl lt ↦ absurd (p (d.1, lt)) | inr le ↦ rw (e, le-ltb _ _ le) refl ]

-- what is read is the one spelling of the number
pub number_spelled : (t : List ℕ) (n : ℕ) → number_of t ≡ Some n → (t ≡ decimal n) × (n < 2 ^ 64)
unfolding number_of
number_spelled t n e =
    let g = some_of (is_decimal t && ltb (digits_value 10 t) (2 ^ 64)) (digits_value 10 t) n e in
    let both = and_parts _ _ g.0 in
    let d = is_decimal_parts t both.0 in
    let small = ltb-true _ _ both.1 in
    (sym (decimal-digits_value own t d.0 d.1 d.2 small) ∙ ap decimal g.1, omega (arith, g.1, small))

or_right : (a b : Bool) → b ≡ true → (a || b) ≡ true
or_right true b e = refl
or_right false b e = e

is_decimal_from : (t : List ℕ) → AreDigits t → 0 < length t → (get_or t 0 0 ≡ 48 → length t ≡ 1) → is_decimal t ≡ true
unfolding is_decimal
is_decimal_from t digits some alone =
    rw (digits, ne_eqb (length t) 0 (λ e. omega arith)) (elim (cases_eq (get_or t 0 0) 48) [
      | inl e ↦ or_right _ _ (eq-eqb _ _ (alone e))
      | inr ne ↦ rw (ne_eqb _ _ ne) refl
    ])

decimal_alone : (n : ℕ) → n < 2 ^ 64 → get_or (decimal n) 0 0 ≡ 48 → length (decimal n) ≡ 1
decimal_alone zero lt e = ap length (decimal_digit 0 (omega arith))
decimal_alone (suc n) lt e = let first = first_decimal (suc n) (omega arith) lt in absurd (omega (arith, first, e))

-- what is written is read again
pub number_again : (n : ℕ) → n < 2 ^ 64 → number_of (decimal n) ≡ Some n
unfolding number_of
number_again n lt =
    let value = digits_value-decimal own n lt in
    rw (is_decimal_from (decimal n) (digits_decimal own n lt) (decimal_nonempty n lt) (decimal_alone n lt), value, lt-ltb n (2 ^ 64) lt) refl

lacks_beyond : (p : ℕ → Bool) (digits : List ℕ) → ((b : ℕ) → is_ascii_digit b ≡ true → not (p b) ≡ true) → list_all is_ascii_digit digits ≡ true → Lacks p digits
lacks_beyond p [] other all = refl
lacks_beyond p (d ∷ digits) other all = let parts = and_parts (is_ascii_digit d) _ all in and_from _ _ (other d parts.0) (lacks_beyond p digits other parts.1)

digit_no_space : (b : ℕ) → is_ascii_digit b ≡ true → not (is_space b) ≡ true
digit_no_space b e = let low = leb-true _ _ (and_parts (leb 48 b) _ e).0 in ap not (ne_eqb b 32 (λ same. omega arith))

digit_no_feed : (b : ℕ) → is_ascii_digit b ≡ true → not (is_line_feed b) ≡ true
digit_no_feed b e = let low = leb-true _ _ (and_parts (leb 48 b) _ e).0 in ap not (ne_eqb b 10 (λ same. omega arith))

-- what is written of a number has no space
pub decimal_spaceless : (n : ℕ) → n < 2 ^ 64 → Lacks is_space (decimal n)
decimal_spaceless n lt = lacks_beyond is_space (decimal n) digit_no_space (digits_decimal own n lt)

-- and no line feed
pub decimal_feedless : (n : ℕ) → n < 2 ^ 64 → Lacks is_line_feed (decimal n)
decimal_feedless n lt = lacks_beyond is_line_feed (decimal n) digit_no_feed (digits_decimal own n lt)

-- and at most 20 digits
pub decimal_short : (n : ℕ) → n < 2 ^ 64 → length (decimal n) ≤ 20
decimal_short n lt = length-decimal-le 20 n (omega arith) (omega arith) lt
