-- The lines of a text.
use Rattle.std.proofs.Common.{◌≡◌, ℕ, suc, ◌+◌, ◌<◌, ◌≤◌, Bool, true, false, cond, not, ltb, List, [], ◌∷◌, ◌++◌, length, take, drop, Some, None, refl, sym, ap, ◌∙◌, arith}
use Rattle.std.specs.Prelude.{position}
use Rattle.std.specs.List.{position_or_len, before_first, onto_first, flat_map, AllByRecursion}
use Rattle.std.proofs.lemmas.Bool.{ltb-true, ltb-false, and_parts, not-true}
use Rattle.std.proofs.lemmas.List.{take_all, drop_all}
use Rattle.gp_words.specs.Bytes.{Lacks}
use Rattle.gp_words.specs.Lines.{is_line_feed, lines_of, text_of}

pub some_of : (t : Bool) (m n : ℕ) → cond t (Some m) None ≡ Some n → (t ≡ true) × (m ≡ n)
some_of true m n e = (refl, cc)
some_of false m n e = absurd cc

none_of : (t : Bool) (m : ℕ) → cond t (Some m) None ≡ None → t ≡ false
none_of true m e = absurd cc
none_of false m e = refl

pub position_found : (p : ℕ → Bool) (xs : List ℕ) (n : ℕ) → position p xs ≡ Some n → (position_or_len p xs < length xs) × (position_or_len p xs ≡ n)
position_found p xs n e =
    let s = some_of (ltb (position_or_len p xs) (length xs)) (position_or_len p xs) n e in
    (ltb-true _ _ s.0, s.1)

pub position_absent : (p : ℕ → Bool) (xs : List ℕ) → position p xs ≡ None → length xs ≤ position_or_len p xs
position_absent p xs e = ltb-false _ _ (none_of (ltb (position_or_len p xs) (length xs)) (position_or_len p xs) e)

at_feed : (b : ℕ) (bs : List ℕ) (t : Bool) → is_line_feed b ≡ t
    → (position_or_len is_line_feed bs < length bs → lines_of bs ≡ take (suc (position_or_len is_line_feed bs)) bs ∷ lines_of (drop (suc (position_or_len is_line_feed bs)) bs))
    → position_or_len is_line_feed (b ∷ bs) < length (b ∷ bs)
    → lines_of (b ∷ bs) ≡ take (suc (position_or_len is_line_feed (b ∷ bs))) (b ∷ bs) ∷ lines_of (drop (suc (position_or_len is_line_feed (b ∷ bs))) (b ∷ bs))
unfolding lines_of
at_feed b bs true e ih lt = rw e refl
at_feed b bs false e ih lt =
    let shorter : position_or_len is_line_feed bs < length bs = let h = rw e at lt in omega (arith, h) in
    let one : 1 + position_or_len is_line_feed bs ≡ suc (position_or_len is_line_feed bs) = omega arith in
    rw (e, one, ih shorter) refl

pub first_feed : (bs : List ℕ) → position_or_len is_line_feed bs < length bs → lines_of bs ≡ take (suc (position_or_len is_line_feed bs)) bs ∷ lines_of (drop (suc (position_or_len is_line_feed bs)) bs)
first_feed [] lt = absurd (omega arith)
first_feed (b ∷ bs) lt = at_feed b bs (is_line_feed b) refl (first_feed bs) lt

no_feed_at : (b : ℕ) (bs : List ℕ) (t : Bool) → is_line_feed b ≡ t → (length bs ≤ position_or_len is_line_feed bs → (0 < length bs) → lines_of bs ≡ bs ∷ [])
    → length (b ∷ bs) ≤ position_or_len is_line_feed (b ∷ bs) → lines_of (b ∷ bs) ≡ (b ∷ bs) ∷ []
unfolding lines_of
no_feed_at b bs true e ih le = absurd (let h = rw e at le in omega (arith, h))
no_feed_at b [] false e ih le = rw e refl
no_feed_at b (c ∷ bs) false e ih le =
    let shorter : length (c ∷ bs) ≤ position_or_len is_line_feed (c ∷ bs) = let h = rw e at le in omega (arith, h) in
    rw (e, ih shorter (omega arith)) refl

pub no_feed : (bs : List ℕ) → length bs ≤ position_or_len is_line_feed bs → 0 < length bs → lines_of bs ≡ bs ∷ []
no_feed [] le some = absurd (omega arith)
no_feed (b ∷ bs) le some = no_feed_at b bs (is_line_feed b) refl (no_feed bs) le

pub last_line : (bs : List ℕ) → length bs ≤ position_or_len is_line_feed bs → 0 < length bs → lines_of bs ≡ take (length bs) bs ∷ lines_of (drop (length bs) bs)
unfolding lines_of
last_line bs le some = rw (take_all (length bs) bs (omega arith), drop_all (length bs) bs (omega arith)) (no_feed bs le some)

pub text_to_feed : (p : ℕ → Bool) (xs : List ℕ) (n : ℕ) → position p xs ≡ Some n → take n xs ≡ before_first p xs
text_to_feed p xs n e = ap (λ k. take k xs) (sym (position_found p xs n e).1)

pub text_whole : (p : ℕ → Bool) (xs : List ℕ) → position p xs ≡ None → xs ≡ before_first p xs
text_whole p xs e = sym (take_all (position_or_len p xs) xs (position_absent p xs e))

-- a text without a line feed, with a line feed behind it, is the first line
pub line_then : (text rest : List ℕ) → Lacks is_line_feed text → lines_of (text ++ 10 ∷ rest) ≡ (text ++ 10 ∷ []) ∷ lines_of rest
unfolding lines_of
line_then [] rest free = refl
line_then (b ∷ text) rest free =
    let parts = and_parts (not (is_line_feed b)) _ free in
    rw (not-true _ parts.0, line_then text rest parts.1) refl

-- and without its line feed it is the text again
pub line_text : (text : List ℕ) → Lacks is_line_feed text → text_of (text ++ 10 ∷ []) ≡ text
line_text [] free = refl
line_text (b ∷ text) free =
    let parts = and_parts (not (is_line_feed b)) _ free in
    let one : 1 + position_or_len is_line_feed (text ++ 10 ∷ []) ≡ suc (position_or_len is_line_feed (text ++ 10 ∷ [])) = omega arith in
    rw (not-true _ parts.0, one) (ap (λ t. b ∷ t) (line_text text parts.1))

-- a last line that lacks its line feed is its own text
pub line_alone : (text : List ℕ) → Lacks is_line_feed text → text_of text ≡ text
line_alone [] free = refl
line_alone (b ∷ text) free =
    let parts = and_parts (not (is_line_feed b)) _ free in
    let one : 1 + position_or_len is_line_feed text ≡ suc (position_or_len is_line_feed text) = omega arith in
    rw (not-true _ parts.0, one) (ap (λ t. b ∷ t) (line_alone text parts.1))

onto_whole : (b : ℕ) (lines : List (List ℕ)) → flat_map (λ line. line) (onto_first b lines) ≡ b ∷ flat_map (λ line. line) lines
onto_whole b [] = refl
onto_whole b (line ∷ lines) = refl

whole_at : (b : ℕ) (bs : List ℕ) (t : Bool) → is_line_feed b ≡ t → flat_map (λ line. line) (lines_of bs) ≡ bs → flat_map (λ line. line) (lines_of (b ∷ bs)) ≡ b ∷ bs
unfolding lines_of
whole_at b bs true e ih = rw e (ap (λ t. b ∷ t) ih)
whole_at b bs false e ih = rw e (onto_whole b (lines_of bs) ∙ ap (λ t. b ∷ t) ih)

-- the lines put behind each other are the text
pub lines_whole : (bs : List ℕ) → flat_map (λ line. line) (lines_of bs) ≡ bs
unfolding lines_of
lines_whole [] = refl
lines_whole (b ∷ bs) = whole_at b bs (is_line_feed b) refl (lines_whole bs)

onto_some : (b : ℕ) (lines : List (List ℕ)) → AllByRecursion (λ (line : List ℕ). 0 < length line) lines → AllByRecursion (λ (line : List ℕ). 0 < length line) (onto_first b lines)
onto_some b [] all = (omega arith, tt)
onto_some b (line ∷ lines) all = (omega arith, all.1)

some_at : (b : ℕ) (bs : List ℕ) (t : Bool) → is_line_feed b ≡ t → AllByRecursion (λ (line : List ℕ). 0 < length line) (lines_of bs) → AllByRecursion (λ (line : List ℕ). 0 < length line) (lines_of (b ∷ bs))
unfolding lines_of
some_at b bs true e all = rw e (omega arith, all)
some_at b bs false e all = rw e (onto_some b (lines_of bs) all)

-- none of the lines is empty
pub lines_some : (bs : List ℕ) → AllByRecursion (λ (line : List ℕ). 0 < length line) (lines_of bs)
unfolding lines_of
lines_some [] = tt
lines_some (b ∷ bs) = some_at b bs (is_line_feed b) refl (lines_some bs)
