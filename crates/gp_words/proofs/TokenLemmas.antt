-- The tokens of a text, and what words make with single spaces between.
use Rattle.std.proofs.Common.{◌≡◌, ◌≢◌, ℕ, ◌+◌, ◌≤◌, Bool, true, false, not, ◌||◌, eqb, List, [], ◌∷◌, ◌++◌, length, take, drop, Some, None, refl, ap, ◌∙◌, arith}
use Rattle.std.specs.Prelude.{position}
use Rattle.std.specs.List.{position_or_len, list_any, AllByRecursion}
use Rattle.std.specs.Borrow.{Bor}
use Rattle.std.proofs.lemmas.Bool.{and_parts, not-true}
use Rattle.std.proofs.lemmas.List.Splits.{slice_split_first, join_with_byte-slice_split}
use Rattle.gp_words.specs.Bytes.{Lacks}
use Rattle.gp_words.specs.Tokens.{is_space, tokens_of, texts, has_empty}
use Rattle.gp_words.specs.Spacing.{joined}
use Rattle.gp_words.proofs.LineLemmas.{position_found, position_absent}

-- a word without spaces, with a space behind it, is the first token
pub token_then : (word rest : List ℕ) → Lacks is_space word → tokens_of (word ++ 32 ∷ rest) ≡ word ∷ tokens_of rest
token_then [] rest free = refl
token_then (b ∷ word) rest free =
    let parts = and_parts (not (is_space b)) _ free in
    rw (not-true _ parts.0, token_then word rest parts.1) refl

-- a word without spaces is its own token
pub token_last : (word : List ℕ) → Lacks is_space word → tokens_of word ≡ word ∷ []
token_last [] free = refl
token_last (b ∷ word) free =
    let parts = and_parts (not (is_space b)) _ free in
    rw (not-true _ parts.0, token_last word parts.1) refl

-- words without spaces are the tokens of what they make with single spaces between
pub tokens_joined : (word : List ℕ) (words : List (List ℕ)) → AllByRecursion (Lacks is_space) (word ∷ words) → tokens_of (joined (word ∷ words)) ≡ word ∷ words
tokens_joined word [] free = token_last word free.0
tokens_joined word (next ∷ words) free = token_then word (joined (next ∷ words)) free.0 ∙ ap (λ ts. word ∷ ts) (tokens_joined next words free.1)

pub tokens_split : (words : List (List ℕ)) → words ≢ [] → AllByRecursion (Lacks is_space) words → tokens_of (joined words) ≡ words
tokens_split [] some free = absurd (some refl)
tokens_split (word ∷ words) some free = tokens_joined word words free

-- the tokens with single spaces between are the text
pub joined_tokens : (text : List ℕ) → joined (tokens_of text) ≡ text
joined_tokens text = join_with_byte-slice_split 32 text

-- where a space was found
pub split_at_space : (text : List ℕ) (place : ℕ) → position is_space text ≡ Some place → tokens_of text ≡ take place text ∷ tokens_of (drop (place + 1) text)
split_at_space text place e =
    let found = position_found is_space text place e in
    rw (← found.1) (slice_split_first is_space text 0 found.0)

nowhere_at : (b : ℕ) (text : List ℕ) (t : Bool) → is_space b ≡ t → (length text ≤ position_or_len is_space text → tokens_of text ≡ text ∷ [])
    → length (b ∷ text) ≤ position_or_len is_space (b ∷ text) → tokens_of (b ∷ text) ≡ (b ∷ text) ∷ []
nowhere_at b text true e ih le = absurd (let h = rw e at le in omega (arith, h))
nowhere_at b text false e ih le =
    let shorter : length text ≤ position_or_len is_space text = let h = rw e at le in omega (arith, h) in
    rw (e, ih shorter) refl

nowhere : (text : List ℕ) → length text ≤ position_or_len is_space text → tokens_of text ≡ text ∷ []
nowhere [] le = refl
nowhere (b ∷ text) le = nowhere_at b text (is_space b) refl (nowhere text) le

-- where none was found
pub split_nowhere : (text : List ℕ) → position is_space text ≡ None → tokens_of text ≡ text ∷ []
split_nowhere text e = nowhere text (position_absent is_space text e)

pub empty_seen : (tokens : List (Bor (List ℕ))) → list_any (λ token. eqb (length token.now) 0) tokens ≡ has_empty (texts tokens)
empty_seen [] = refl
empty_seen (t ∷ tokens) = ap (λ b. eqb (length t.now) 0 || b) (empty_seen tokens)
