-- The spelling of an operation: its words, and the line that it fits in.
use Rattle.std.proofs.Common.{◌≡◌, ◌≢◌, ℕ, ◌<◌, ◌≤◌, ◌^◌, Bool, true, false, not, ◌&&◌, ◌||◌, eqb, leb, List, [], ◌∷◌, ◌++◌, length, refl, ap, ◌∙◌, arith, length-append, inl, inr}
use Rattle.std.specs.Prelude.{decimal, IsTrue}
use Rattle.std.specs.List.{list_all, AllByRecursion}
use Rattle.std.proofs.lemmas.Bool.{and_parts, and_from, or_cases, leb-true, eqb-true, ne_eqb}
use Rattle.std.proofs.lemmas.Fmt.{decimal_nonempty}
use Rattle.std.proofs.lemmas.List.Folds.{list_all-append}
use Rattle.gp_command.specs.Key.{is_key, is_key_byte}
use Rattle.gp_words.specs.Bytes.{Lacks}
use Rattle.gp_words.specs.Lines.{is_line_feed}
use Rattle.gp_words.specs.Tokens.{is_space, tokens_of, has_empty}
use Rattle.gp_words.proofs.NumberLemmas.{decimal_spaceless, decimal_feedless, decimal_short}
use Rattle.gp_words.proofs.TokenLemmas.{tokens_split}
use Rattle.gp_store.specs.declared.op.Op.{Op}
use Rattle.gp_store.specs.declared.op.Op.TheVariants.{Put, Add, Get, Del, Cas, Copy, Checkpoint}
use Rattle.gp_store.specs.Operations.{IsOp, op_words, op_text}

-- ---- keys

-- what a key is
pub record IsKeyText (key : List ℕ) : Type 0 where
  pub some : 0 < length key
  pub short : length key ≤ 16
  pub bytes : list_all is_key_byte key ≡ true

pub key_parts : (key : List ℕ) → IsTrue (is_key key) → IsKeyText key
key_parts key e =
    let outer = and_parts (leb 1 (length key) && leb (length key) 16) (list_all is_key_byte key) e in
    let inner = and_parts (leb 1 (length key)) (leb (length key) 16) outer.0 in
    let some = leb-true 1 (length key) inner.0 in
    let short = leb-true (length key) 16 inner.1 in
    record { some = omega arith; short = short; bytes = outer.1 }

key_byte_above : (b : ℕ) → is_key_byte b ≡ true → 32 < b
key_byte_above b e =
    elim (or_cases (leb 97 b && leb b 122 || leb 48 b && leb b 57) (eqb b 95) e) [
      | inl first ↦ elim (or_cases (leb 97 b && leb b 122) (leb 48 b && leb b 57) first) [
        | inl letter ↦ (let low = leb-true 97 b (and_parts (leb 97 b) (leb b 122) letter).0 in omega arith)
        | inr digit ↦ (let low = leb-true 48 b (and_parts (leb 48 b) (leb b 57) digit).0 in omega arith)
      ]
      | inr line ↦ (let same = eqb-true b 95 line in omega arith)
    ]

lacks_above : (p : ℕ → Bool) (key : List ℕ) → ((b : ℕ) → 32 < b → not (p b) ≡ true) → list_all is_key_byte key ≡ true → Lacks p key
lacks_above p [] other all = refl
lacks_above p (b ∷ key) other all = let parts = and_parts (is_key_byte b) _ all in and_from _ _ (other b (key_byte_above b parts.0)) (lacks_above p key other parts.1)

pub key_spaceless : (key : List ℕ) → IsTrue (is_key key) → Lacks is_space key
key_spaceless key e = lacks_above is_space key (λ b above. ap not (ne_eqb b 32 (λ same. omega arith))) (key_parts key e).bytes

pub key_feedless : (key : List ℕ) → IsTrue (is_key key) → Lacks is_line_feed key
key_feedless key e = lacks_above is_line_feed key (λ b above. ap not (ne_eqb b 10 (λ same. omega arith))) (key_parts key e).bytes

pub lacks_append : (p : ℕ → Bool) (a b : List ℕ) → Lacks p a → Lacks p b → Lacks p (a ++ b)
lacks_append p a b x y = list_all-append (λ b. not (p b)) a b ∙ and_from _ _ x y

-- ---- words

-- the words have no spaces
pub words_spaceless : (op : Op) → IsOp op → AllByRecursion (Lacks is_space) (op_words op)
words_spaceless (Put key value) r = (refl, (key_spaceless key r.0, (decimal_spaceless value r.1, tt)))
words_spaceless (Add key value) r = (refl, (key_spaceless key r.0, (decimal_spaceless value r.1, tt)))
words_spaceless (Get key) r = (refl, (key_spaceless key r, tt))
words_spaceless (Del key) r = (refl, (key_spaceless key r, tt))
words_spaceless (Cas key old new) r = (refl, (key_spaceless key r.0, (decimal_spaceless old r.1, (decimal_spaceless new r.2, tt))))
words_spaceless (Copy from into) r = (refl, (key_spaceless from r.0, (key_spaceless into r.1, tt)))
words_spaceless Checkpoint r = (refl, tt)

key_some : (key : List ℕ) → IsTrue (is_key key) → eqb (length key) 0 ≡ false
key_some key e = let some = (key_parts key e).some in ne_eqb (length key) 0 (λ none. omega arith)

pub value_some : (value : ℕ) → value < 2 ^ 64 → eqb (length (decimal value)) 0 ≡ false
value_some value lt = let some = decimal_nonempty value lt in ne_eqb (length (decimal value)) 0 (λ none. omega arith)

-- none of the words is empty
pub words_some : (op : Op) → IsOp op → has_empty (op_words op) ≡ false
words_some (Put key value) r = rw (key_some key r.0, value_some value r.1) refl
words_some (Add key value) r = rw (key_some key r.0, value_some value r.1) refl
words_some (Get key) r = rw (key_some key r) refl
words_some (Del key) r = rw (key_some key r) refl
words_some (Cas key old new) r = rw (key_some key r.0, value_some old r.1, value_some new r.2) refl
words_some (Copy from into) r = rw (key_some from r.0, key_some into r.1) refl
words_some Checkpoint r = refl

words_there : (op : Op) → op_words op ≢ []
words_there (Put key value) e = cc
words_there (Add key value) e = cc
words_there (Get key) e = cc
words_there (Del key) e = cc
words_there (Cas key old new) e = cc
words_there (Copy from into) e = cc
words_there Checkpoint e = cc

-- the tokens of the spelling are its words
pub tokens_again : (op : Op) → IsOp op → tokens_of (op_text op) ≡ op_words op
tokens_again op r = tokens_split (op_words op) (words_there op) (words_spaceless op r)

-- ---- the line

valued_feedless : (key : List ℕ) (value : ℕ) → IsTrue (is_key key) → value < 2 ^ 64 → Lacks is_line_feed (key ++ 32 ∷ decimal value)
valued_feedless key value e lt = lacks_append is_line_feed key (32 ∷ decimal value) (key_feedless key e) (decimal_feedless value lt)

-- the spelling has no line feed
pub text_feedless : (op : Op) → IsOp op → Lacks is_line_feed (op_text op)
text_feedless (Put key value) r = valued_feedless key value r.0 r.1
text_feedless (Add key value) r = valued_feedless key value r.0 r.1
text_feedless (Get key) r = key_feedless key r
text_feedless (Del key) r = key_feedless key r
text_feedless (Cas key old new) r =
    lacks_append is_line_feed key (32 ∷ decimal old ++ 32 ∷ decimal new) (key_feedless key r.0)
    (lacks_append is_line_feed (decimal old) (32 ∷ decimal new) (decimal_feedless old r.1) (decimal_feedless new r.2))
text_feedless (Copy from into) r = lacks_append is_line_feed from (32 ∷ into) (key_feedless from r.0) (key_feedless into r.1)
text_feedless Checkpoint r = refl

key_short : (key : List ℕ) → IsTrue (is_key key) → length key ≤ 16
key_short key e = (key_parts key e).short

valued_short : (key : List ℕ) (value : ℕ) → IsTrue (is_key key) → value < 2 ^ 64 → length (key ++ 32 ∷ decimal value) ≤ 37
valued_short key value e lt =
    let sum = length-append key (32 ∷ decimal value) in
    let k = key_short key e in
    let v = decimal_short value lt in
    omega arith

-- the spelling has at most 62 bytes
pub text_short : (op : Op) → IsOp op → length (op_text op) ≤ 62
text_short (Put key value) r = let s = valued_short key value r.0 r.1 in omega arith
text_short (Add key value) r = let s = valued_short key value r.0 r.1 in omega arith
text_short (Get key) r = let s = key_short key r in omega arith
text_short (Del key) r = let s = key_short key r in omega arith
text_short (Cas key old new) r =
    let outer = length-append key (32 ∷ decimal old ++ 32 ∷ decimal new) in
    let inner = length-append (decimal old) (32 ∷ decimal new) in
    let k = key_short key r.0 in
    let v = decimal_short old r.1 in
    let w = decimal_short new r.2 in
    omega arith
text_short (Copy from into) r =
    let sum = length-append from (32 ∷ into) in
    let k = key_short from r.0 in
    let j = key_short into r.1 in
    omega arith
text_short Checkpoint r = omega arith
