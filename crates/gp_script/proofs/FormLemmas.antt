-- A line of the table has one list of words.
use Rattle.std.proofs.Common.{◌≡◌, ℕ, Bool, true, false, cond, List, [], ◌∷◌, Option, Some, None, refl, sym, ap, subst, ◌∙◌, inl, inr}
use Rattle.std.specs.Prelude.{◌↔◌, codes, option_map}
use Rattle.std.specs.Str.{bytes_eq}
use Rattle.std.proofs.lemmas.Slice.Eq.{bytes_eq-Decides}
use Rattle.gp_round.specs.declared.round.Mode.{Mode}
use Rattle.gp_round.specs.declared.round.Mode.TheVariants.{Single, Multi, Fast}
use Rattle.gp_words.specs.Tokens.{has_empty}
use Rattle.gp_script.specs.Forms.{KeptForm, NothingKept, TakeKept, BeginKept, Form, NodesLine, OfferLine, BeginLine, TakeLine, FallLine, ShowLine, mode_of, nodes_form, offer_form, begin_form, take_form, kept_take_form, kept_begin_form, kept_form, fall_form, show_form, form_by_word, form_of}
use Rattle.gp_script.specs.Spelling.{mode_word}
use Rattle.gp_script.specs.Rows.{kept_words_of, HasWords}
use Rattle.gp_script.proofs.Steps.{some_or_else, then_or_else, option_map_says}

word_is : (word text : List ℕ) → bytes_eq word text ≡ true → word ≡ text
word_is word text e = (bytes_eq-Decides word text).0 e

mode_says : (word : List ℕ) (mode : Mode) → mode_of word ≡ Some mode → word ≡ mode_word mode
mode_says word mode e =
    let is_word : Mode → Type 0 = λ found. word ≡ mode_word found in
    elim (some_or_else (bytes_eq word (codes "single")) Single mode _ e) [
      | inl (is, same) ↦ subst is_word same (word_is word (codes "single") is)
      | inr e ↦ elim (some_or_else (bytes_eq word (codes "multi")) Multi mode _ e) [
        | inl (is, same) ↦ subst is_word same (word_is word (codes "multi") is)
        | inr e ↦ elim (some_or_else (bytes_eq word (codes "fast")) Fast mode None e) [
          | inl (is, same) ↦ subst is_word same (word_is word (codes "fast") is)
          | inr e ↦ absurd cc
        ]
      ]
    ]

-- behind this first word the others make the line
abbrev Completes : List ℕ → List (List ℕ) → Form → Type 0
Completes word others form = HasWords form (word ∷ others)

nodes_says : (others : List (List ℕ)) (form : Form) → nodes_form others ≡ Some form → Completes (codes "nodes") others form
nodes_says [] form e = absurd cc
nodes_says (a ∷ []) form e = absurd cc
nodes_says (a ∷ c ∷ []) form e = absurd cc
nodes_says (a ∷ c ∷ l ∷ []) form e = let same : NodesLine a c l ≡ form = cc in subst (Completes (codes "nodes") (a ∷ c ∷ l ∷ [])) same refl
nodes_says (a ∷ c ∷ l ∷ x ∷ xs) form e = absurd cc

offer_says : (others : List (List ℕ)) (form : Form) → offer_form others ≡ Some form → Completes (codes "offer") others form
offer_says [] form e = absurd cc
offer_says (node ∷ others) form e = let same : OfferLine node others ≡ form = cc in subst (Completes (codes "offer") (node ∷ others)) same refl

begin_says : (others : List (List ℕ)) (form : Form) → begin_form others ≡ Some form → Completes (codes "begin") others form
begin_says [] form e = absurd cc
begin_says (node ∷ []) form e = absurd cc
begin_says (node ∷ count ∷ []) form e = absurd cc
begin_says (node ∷ count ∷ word ∷ []) form e =
    let (mode, is, same) = option_map_says (BeginLine node count) (mode_of word) form e in
    subst (Completes (codes "begin") (node ∷ count ∷ word ∷ [])) same (ap (λ (w : List ℕ). codes "begin" ∷ node ∷ count ∷ w ∷ []) (mode_says word mode is))
begin_says (node ∷ count ∷ word ∷ x ∷ xs) form e = absurd cc

take_says : (others : List (List ℕ)) (form : Form) → take_form others ≡ Some form → Completes (codes "take") others form
take_says [] form e = absurd cc
take_says (node ∷ []) form e = absurd cc
take_says (node ∷ message ∷ []) form e = let same : TakeLine node message ≡ form = cc in subst (Completes (codes "take") (node ∷ message ∷ [])) same refl
take_says (node ∷ message ∷ x ∷ xs) form e = absurd cc

show_says : (others : List (List ℕ)) (form : Form) → show_form others ≡ Some form → Completes (codes "show") others form
show_says [] form e = absurd cc
show_says (node ∷ []) form e = let same : ShowLine node ≡ form = cc in subst (Completes (codes "show") (node ∷ [])) same refl
show_says (node ∷ x ∷ xs) form e = absurd cc

kept_take_says : (others : List (List ℕ)) (what : KeptForm) → kept_take_form others ≡ Some what → codes "take" ∷ others ≡ kept_words_of what
kept_take_says [] what e = absurd cc
kept_take_says (message ∷ []) what e = let same : TakeKept message ≡ what = cc in ap kept_words_of same
kept_take_says (message ∷ x ∷ xs) what e = absurd cc

kept_begin_says : (others : List (List ℕ)) (what : KeptForm) → kept_begin_form others ≡ Some what → codes "begin" ∷ others ≡ kept_words_of what
kept_begin_says [] what e = absurd cc
kept_begin_says (count ∷ []) what e = absurd cc
kept_begin_says (count ∷ word ∷ []) what e =
    let (mode, is, same) = option_map_says (BeginKept count) (mode_of word) what e in
    ap (λ (w : List ℕ). codes "begin" ∷ count ∷ w ∷ []) (mode_says word mode is) ∙ ap kept_words_of same
kept_begin_says (count ∷ word ∷ x ∷ xs) what e = absurd cc

kept_says : (others : List (List ℕ)) (what : KeptForm) → kept_form others ≡ Some what → others ≡ kept_words_of what
kept_says [] what e = let same : NothingKept ≡ what = cc in ap kept_words_of same
kept_says (word ∷ others) what e = elim (then_or_else (bytes_eq word (codes "take")) (kept_take_form others) _ what e) [
  | inl (is, same) ↦ ap (λ (w : List ℕ). w ∷ others) (word_is word (codes "take") is) ∙ kept_take_says others what same
  | inr e ↦ elim (then_or_else (bytes_eq word (codes "begin")) (kept_begin_form others) None what e) [
    | inl (is, same) ↦ ap (λ (w : List ℕ). w ∷ others) (word_is word (codes "begin") is) ∙ kept_begin_says others what same
    | inr e ↦ absurd cc
  ]
]

fall_says : (others : List (List ℕ)) (form : Form) → fall_form others ≡ Some form → Completes (codes "fall") others form
fall_says [] form e = absurd cc
fall_says (node ∷ others) form e =
    let (what, is, same) = option_map_says (FallLine node) (kept_form others) form e in
    subst (Completes (codes "fall") (node ∷ others)) same (ap (λ (ws : List (List ℕ)). codes "fall" ∷ node ∷ ws) (kept_says others what is))

first_is : (word text : List ℕ) (others : List (List ℕ)) (form : Form) → bytes_eq word text ≡ true → Completes text others form → Completes word others form
first_is word text others form is completes = subst (λ (w : List ℕ). Completes w others form) (sym (word_is word text is)) completes

words_say : (words : List (List ℕ)) (form : Form) → form_by_word words ≡ Some form → HasWords form words
words_say [] form e = absurd cc
words_say (word ∷ others) form e =
    elim (then_or_else (bytes_eq word (codes "nodes")) (nodes_form others) _ form e) [
      | inl (is, e) ↦ first_is word (codes "nodes") others form is (nodes_says others form e)
      | inr e ↦ elim (then_or_else (bytes_eq word (codes "offer")) (offer_form others) _ form e) [
        | inl (is, e) ↦ first_is word (codes "offer") others form is (offer_says others form e)
        | inr e ↦ elim (then_or_else (bytes_eq word (codes "begin")) (begin_form others) _ form e) [
          | inl (is, e) ↦ first_is word (codes "begin") others form is (begin_says others form e)
          | inr e ↦ elim (then_or_else (bytes_eq word (codes "take")) (take_form others) _ form e) [
            | inl (is, e) ↦ first_is word (codes "take") others form is (take_says others form e)
            | inr e ↦ elim (then_or_else (bytes_eq word (codes "fall")) (fall_form others) _ form e) [
              | inl (is, e) ↦ first_is word (codes "fall") others form is (fall_says others form e)
              | inr e ↦ elim (then_or_else (bytes_eq word (codes "show")) (show_form others) None form e) [
                | inl (is, e) ↦ first_is word (codes "show") others form is (show_says others form e)
                | inr e ↦ absurd cc
              ]
            ]
          ]
        ]
      ]
    ]

unless_empty : (b : Bool) (by_word : Option Form) (form : Form) → cond b None by_word ≡ Some form → (b ≡ false) × (by_word ≡ Some form)
unless_empty true by_word form e = absurd cc
unless_empty false by_word form e = (refl, e)

-- the tokens of a line are its words, and none of them is empty
pub form_says : (tokens : List (List ℕ)) (form : Form) → form_of tokens ≡ Some form → (has_empty tokens ≡ false) × HasWords form tokens
unfolding form_of
form_says tokens form e =
    let (some, e) = unless_empty (has_empty tokens) (form_by_word tokens) form e in
    (some, words_say tokens form e)

mode_read : (mode : Mode) → mode_of (mode_word mode) ≡ Some mode
mode_read Single = refl
mode_read Multi = refl
mode_read Fast = refl

kept_read : (what : KeptForm) → kept_form (kept_words_of what) ≡ Some what
kept_read NothingKept = refl
kept_read (TakeKept message) = refl
kept_read (BeginKept count mode) = ap (option_map (BeginKept count)) (mode_read mode)

by_word_read : (form : Form) (words : List (List ℕ)) → HasWords form words → form_by_word words ≡ Some form
by_word_read (NodesLine a c l) words has = ap form_by_word has
by_word_read (OfferLine node others) words has = ap form_by_word has
by_word_read (BeginLine node count mode) words has = ap form_by_word has ∙ ap (option_map (BeginLine node count)) (mode_read mode)
by_word_read (TakeLine node message) words has = ap form_by_word has
by_word_read (FallLine node what) words has = ap form_by_word has ∙ ap (option_map (FallLine node)) (kept_read what)
by_word_read (ShowLine node) words has = ap form_by_word has

-- the words of a line, none of them empty, are read as the line
pub form_read : (form : Form) (words : List (List ℕ)) → has_empty words ≡ false → HasWords form words → form_of words ≡ Some form
unfolding form_of
form_read form words some has = rw some (by_word_read form words has)

-- a line is of the table exactly where it has the words of a row, and none of them is empty
pub form_rows : (tokens : List (List ℕ)) (form : Form) → (form_of tokens ≡ Some form) ↔ ((has_empty tokens ≡ false) × HasWords form tokens)
form_rows tokens form = (form_says tokens form, λ (some, has). form_read form tokens some has)
