-- Reading an operation from its words, and from nothing else.
use Rattle.std.proofs.Common.{◌≡◌, ℕ, ◌<◌, ◌≤◌, ◌^◌, Bool, true, false, cond, List, [], ◌∷◌, ◌++◌, length, take, Some, None, Option, Result, Ok, Err, refl, sym, ap, ◌∙◌, inl, inr, ◌⊎◌, arith, length-append}
use Rattle.std.specs.Prelude.{decimal, codes, IsTrue, OnOk}
use Rattle.std.specs.Str.{bytes_eq}
use Rattle.std.specs.Borrow.{Bor}
use Rattle.std.proofs.lemmas.List.{length-map, take_all}
use Rattle.std.proofs.lemmas.List.Splits.{length-slice_split}
use Rattle.std.proofs.lemmas.Slice.Eq.{bytes_eq-Decides}
use Rattle.gp_command.specs.Key.{is_key}
use Rattle.gp_words.specs.Numbers.{number_of}
use Rattle.gp_memory.specs.Results.{◌>>=◌}
use Rattle.gp_words.specs.Spacing.{joined}
use Rattle.gp_words.specs.Tokens.{is_space, tokens_of, texts}
use Rattle.gp_words.proofs.NumberLemmas.{number_again, number_spelled}
use Rattle.gp_words.proofs.TokenLemmas.{joined_tokens}
use Rattle.gp_store.specs.declared.op.Op.{Op}
use Rattle.gp_store.specs.declared.op.Op.TheVariants.{Put, Add, Get, Del, Cas, Copy, Checkpoint}
use Rattle.gp_store.specs.declared.form.OpFault.{OpFault}
use Rattle.gp_store.specs.declared.form.OpFault.TheVariants.{BadKey}
use Rattle.gp_store.specs.Operations.{IsOp, op_words, op_text}
use Rattle.gp_store.specs.Forms.{OpForm, PutForm, AddForm, GetForm, DelForm, CasForm, CopyForm, CheckpointForm, form_for, form_of_name, form_of_key, form_of_pair, form_of_values, op_form, key_of, value_of, number_or_fault, op_of_form, faultless, op_said, op_spelled}
use Rattle.gp_store.proofs.SpellingLemmas.{tokens_again}

-- ---- what is written is read again

pub form_again : (op : Op) → op_form (op_words op) ≡ Some (form_for op)
form_again (Put key value) = refl
form_again (Add key value) = refl
form_again (Get key) = refl
form_again (Del key) = refl
form_again (Cas key old new) = refl
form_again (Copy from into) = refl
form_again Checkpoint = refl

pub key_again : (key : List ℕ) → IsTrue (is_key key) → key_of key ≡ Ok key
unfolding key_of
key_again key e = rw e refl

value_again : (value : ℕ) → value < 2 ^ 64 → value_of (decimal value) ≡ Ok value
unfolding value_of
value_again value lt = rw (number_again value lt) refl

pub op_again : (op : Op) → IsOp op → op_of_form (form_for op) ≡ Ok op
unfolding op_of_form
op_again (Put key value) r = rw (key_again key r.0, value_again value r.1) refl
op_again (Add key value) r = rw (key_again key r.0, value_again value r.1) refl
op_again (Get key) r = rw (key_again key r) refl
op_again (Del key) r = rw (key_again key r) refl
op_again (Cas key old new) r = rw (key_again key r.0, value_again old r.1, value_again new r.2) refl
op_again (Copy from into) r = rw (key_again from r.0, key_again into r.1) refl
op_again Checkpoint r = refl

-- the words of an operation spell it
pub words_spell : (op : Op) → IsOp op → op_spelled (op_words op) ≡ Some op
unfolding op_spelled
words_spell op r = ap op_said (form_again op) ∙ ap faultless (op_again op r)

-- and so does its spelling
pub text_spells : (op : Op) → IsOp op → op_spelled (tokens_of (op_text op)) ≡ Some op
text_spells op r = ap op_spelled (tokens_again op r) ∙ words_spell op r

pub text_spells_on_ok : {E : Type 0} (r : Result (Unit {0}) E) (op : Op) → OnOk r (IsOp op) → OnOk r (op_spelled (tokens_of (op_text op)) ≡ Some op)
text_spells_on_ok (Ok done) op range = text_spells op range
text_spells_on_ok (Err e) op range = tt

-- ---- what is read is written so

pub bound : {A B E : Type 0} (r : Result A E) (f : A → Result B E) (y : B) → (r >>= f) ≡ Ok y → (x : A) × (r ≡ Ok x) × (f x ≡ Ok y)
bound (Ok x) f y e = (x, refl, e)
bound (Err fault) f y e = absurd cc

pub key_if : (b : Bool) (token key : List ℕ) → cond b (Ok token) (Err BadKey) ≡ Ok key → (token ≡ key) × (b ≡ true)
key_if true token key e = (cc, refl)
key_if false token key e = absurd cc

pub key_read : (token key : List ℕ) → key_of token ≡ Ok key → (token ≡ key) × IsTrue (is_key key)
unfolding key_of
key_read token key e = let read = key_if (is_key token) token key e in (read.0, ap is_key (sym read.0) ∙ read.1)

number_found : (o : Option ℕ) (value : ℕ) → number_or_fault o ≡ Ok value → o ≡ Some value
number_found (Some n) value e = cc
number_found None value e = absurd cc

value_read : (token : List ℕ) (value : ℕ) → value_of token ≡ Ok value → (token ≡ decimal value) × (value < 2 ^ 64)
unfolding value_of
value_read token value e = number_spelled token value (number_found (number_of token) value e)

-- the operation is in range, and the form is the one of its words
pub record IsRead (form : OpForm) (op : Op) : Type 0 where
  pub same : form ≡ form_for op
  pub range : IsOp op

read_as : (form : OpForm) (made op : Op) → made ≡ op → form ≡ form_for made → IsOp made → IsRead form op
read_as form made op e same range = record { same = same ∙ ap form_for e; range = rw (← e) range }

made_is : (op other : Op) → ◌≡◌ {A = Result Op OpFault} (Ok op) (Ok other) → op ≡ other
made_is op other e = cc

pub op_read : (form : OpForm) (op : Op) → op_of_form form ≡ Ok op → IsRead form op
unfolding op_of_form
op_read (PutForm key value) op e =
    let first = bound (key_of key) (λ k. value_of value >>= λ v. Ok (Put k v)) op e in
    let second = bound (value_of value) (λ v. Ok (Put first.0 v)) op first.2 in
    let k = key_read key first.0 first.1 in
    let v = value_read value second.0 second.1 in
    read_as (PutForm key value) (Put first.0 second.0) op (made_is _ _ second.2) (cc (k.0, v.0)) (k.1, v.1)
op_read (AddForm key value) op e =
    let first = bound (key_of key) (λ k. value_of value >>= λ v. Ok (Add k v)) op e in
    let second = bound (value_of value) (λ v. Ok (Add first.0 v)) op first.2 in
    let k = key_read key first.0 first.1 in
    let v = value_read value second.0 second.1 in
    read_as (AddForm key value) (Add first.0 second.0) op (made_is _ _ second.2) (cc (k.0, v.0)) (k.1, v.1)
op_read (GetForm key) op e =
    let first = bound (key_of key) (λ k. Ok (Get k)) op e in
    let k = key_read key first.0 first.1 in
    read_as (GetForm key) (Get first.0) op (made_is _ _ first.2) (ap GetForm k.0) k.1
op_read (DelForm key) op e =
    let first = bound (key_of key) (λ k. Ok (Del k)) op e in
    let k = key_read key first.0 first.1 in
    read_as (DelForm key) (Del first.0) op (made_is _ _ first.2) (ap DelForm k.0) k.1
op_read (CasForm key old new) op e =
    let first = bound (key_of key) (λ k. value_of old >>= λ v. value_of new >>= λ w. Ok (Cas k v w)) op e in
    let second = bound (value_of old) (λ v. value_of new >>= λ w. Ok (Cas first.0 v w)) op first.2 in
    let third = bound (value_of new) (λ w. Ok (Cas first.0 second.0 w)) op second.2 in
    let k = key_read key first.0 first.1 in
    let v = value_read old second.0 second.1 in
    let w = value_read new third.0 third.1 in
    read_as (CasForm key old new) (Cas first.0 second.0 third.0) op (made_is _ _ third.2) (cc (k.0, v.0, w.0)) (k.1, v.1, w.1)
op_read (CopyForm from into) op e =
    let first = bound (key_of from) (λ k. key_of into >>= λ j. Ok (Copy k j)) op e in
    let second = bound (key_of into) (λ j. Ok (Copy first.0 j)) op first.2 in
    let k = key_read from first.0 first.1 in
    let j = key_read into second.0 second.1 in
    read_as (CopyForm from into) (Copy first.0 second.0) op (made_is _ _ second.2) (cc (k.0, j.0)) (k.1, j.1)
op_read CheckpointForm op e = read_as CheckpointForm Checkpoint op (made_is _ _ e) refl tt

-- the tokens of a form
abbrev form_words : OpForm → List (List ℕ)
form_words (PutForm key value) = codes "put" ∷ key ∷ value ∷ []
form_words (AddForm key value) = codes "add" ∷ key ∷ value ∷ []
form_words (GetForm key) = codes "get" ∷ key ∷ []
form_words (DelForm key) = codes "del" ∷ key ∷ []
form_words (CasForm key old new) = codes "cas" ∷ key ∷ old ∷ new ∷ []
form_words (CopyForm from into) = codes "copy" ∷ from ∷ into ∷ []
form_words CheckpointForm = codes "checkpoint" ∷ []

own_words : (op : Op) → form_words (form_for op) ≡ op_words op
own_words (Put key value) = refl
own_words (Add key value) = refl
own_words (Get key) = refl
own_words (Del key) = refl
own_words (Cas key old new) = refl
own_words (Copy from into) = refl
own_words Checkpoint = refl

chosen : (b : Bool) (x form : OpForm) (rest : Option OpForm) → cond b (Some x) rest ≡ Some form → ((b ≡ true) × (x ≡ form)) ⊎ (rest ≡ Some form)
chosen true x form rest e = inl (refl, cc)
chosen false x form rest e = inr e

-- the form has this name, or is one of the rest
named : (name word : List ℕ) (x form : OpForm) (rest : Option OpForm) → cond (bytes_eq name word) (Some x) rest ≡ Some form → ((name ≡ word) × (x ≡ form)) ⊎ (rest ≡ Some form)
named name word x form rest e =
    elim (chosen (bytes_eq name word) x form rest e) [
      | inl found ↦ inl ((bytes_eq-Decides name word).0 found.0, found.1)
      | inr other ↦ inr other
    ]

name_words : (name : List ℕ) (form : OpForm) → form_of_name name ≡ Some form → name ∷ [] ≡ form_words form
name_words name form e =
    elim (named name (codes "checkpoint") CheckpointForm form None e) [
      | inl found ↦ rw (← found.1) (ap (λ n. n ∷ []) found.0)
      | inr none ↦ absurd cc
    ]

key_words : (name key : List ℕ) (form : OpForm) → form_of_key name key ≡ Some form → name ∷ key ∷ [] ≡ form_words form
key_words name key form e =
    elim (named name (codes "get") (GetForm key) form _ e) [
      | inl found ↦ rw (← found.1) (ap (λ n. n ∷ key ∷ []) found.0)
      | inr other ↦ elim (named name (codes "del") (DelForm key) form None other) [
        | inl found ↦ rw (← found.1) (ap (λ n. n ∷ key ∷ []) found.0)
        | inr none ↦ absurd cc
      ]
    ]

pair_words : (name key second : List ℕ) (form : OpForm) → form_of_pair name key second ≡ Some form → name ∷ key ∷ second ∷ [] ≡ form_words form
pair_words name key second form e =
    elim (named name (codes "put") (PutForm key second) form _ e) [
      | inl found ↦ rw (← found.1) (ap (λ n. n ∷ key ∷ second ∷ []) found.0)
      | inr other ↦ elim (named name (codes "add") (AddForm key second) form _ other) [
        | inl found ↦ rw (← found.1) (ap (λ n. n ∷ key ∷ second ∷ []) found.0)
        | inr last ↦ elim (named name (codes "copy") (CopyForm key second) form None last) [
          | inl found ↦ rw (← found.1) (ap (λ n. n ∷ key ∷ second ∷ []) found.0)
          | inr none ↦ absurd cc
        ]
      ]
    ]

values_words : (name key old new : List ℕ) (form : OpForm) → form_of_values name key old new ≡ Some form → name ∷ key ∷ old ∷ new ∷ [] ≡ form_words form
values_words name key old new form e =
    elim (named name (codes "cas") (CasForm key old new) form None e) [
      | inl found ↦ rw (← found.1) (ap (λ n. n ∷ key ∷ old ∷ new ∷ []) found.0)
      | inr none ↦ absurd cc
    ]

form_read : (tokens : List (List ℕ)) (form : OpForm) → op_form tokens ≡ Some form → tokens ≡ form_words form
form_read [] form e = absurd cc
form_read (name ∷ []) form e = name_words name form e
form_read (name ∷ key ∷ []) form e = key_words name key form e
form_read (name ∷ key ∷ second ∷ []) form e = pair_words name key second form e
form_read (name ∷ key ∷ old ∷ new ∷ []) form e = values_words name key old new form e
form_read (name ∷ key ∷ old ∷ new ∷ more ∷ others) form e = absurd cc

-- tokens that are read as an operation are its words
pub words_read : (tokens : List (List ℕ)) (form : OpForm) (op : Op) → op_form tokens ≡ Some form → op_of_form form ≡ Ok op → tokens ≡ op_words op
words_read tokens form op e f = form_read tokens form e ∙ ap form_words (op_read form op f).same ∙ own_words op

without_fault : (r : Result Op OpFault) (op : Op) → faultless r ≡ Some op → r ≡ Ok op
without_fault (Ok x) op e = cc
without_fault (Err fault) op e = absurd cc

said : (o : Option OpForm) (op : Op) → op_said o ≡ Some op → (form : OpForm) × (o ≡ Some form) × (op_of_form form ≡ Ok op)
said None op e = absurd cc
said (Some form) op e = (form, refl, without_fault (op_of_form form) op e)

pub spelled_read : (tokens : List (List ℕ)) (op : Op) → op_spelled tokens ≡ Some op → (tokens ≡ op_words op) × IsOp op
unfolding op_spelled
spelled_read tokens op e =
    let found = said (op_form tokens) op e in
    (words_read tokens found.0 op found.1 found.2, (op_read found.0 op found.2).range)

-- a text that is read as an operation is its spelling
pub text_read : (text : List ℕ) (op : Op) → op_spelled (tokens_of text) ≡ Some op → text ≡ op_text op
text_read text op e = sym (joined_tokens text) ∙ ap joined (spelled_read (tokens_of text) op e).0

-- there are more tokens than four where a text is left behind the fourth
pub more_tokens : (tokens : List (Bor (List ℕ))) (rest text : List ℕ) (i : ℕ) → texts (take i tokens) ++ tokens_of rest ≡ tokens_of text → length tokens ≡ 4 → 4 ≤ i → 4 < length (tokens_of text)
more_tokens tokens rest text i e four le =
    let all = ap length e in
    let sum = length-append (texts (take i tokens)) (tokens_of rest) in
    let seen = length-map (take i tokens) (λ (slice : Bor (List ℕ)). slice.now) in
    let whole : take i tokens ≡ tokens = take_all i tokens (omega arith) in
    let taken = ap length whole in
    let some = length-slice_split is_space rest in
    omega arith
