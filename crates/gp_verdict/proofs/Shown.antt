-- What a script shows: one line for each of its lines that ends a trace.
use Rattle.std.proofs.Common.{◌≡◌, ℕ, ◌+◌, Bool, true, false, cond, List, [], ◌∷◌, ◌++◌, length, Option, Some, None, Result, Ok, Err, refl, sym, ap, subst, ◌∙◌, arith, ◌⊎◌, inl, inr}
use Rattle.std.specs.Prelude.{◌||◌, codes, nat_le}
use Rattle.std.specs.List.{onto_first}
use Rattle.std.specs.Option.{ok_or}
use Rattle.std.proofs.lemmas.Bool.{eqb-true}
use Rattle.std.proofs.lemmas.List.{length-append, nil_from_length}
use Rattle.std.proofs.lemmas.Slice.Eq.{bytes_eq-Decides}
use Rattle.gp_round.specs.Counts.{Counts}
use Rattle.gp_msg.specs.declared.event.Event.{Event}
use Rattle.gp_words.specs.Lines.{text_of}
use Rattle.gp_words.specs.Tokens.{tokens_of}
use Rattle.gp_memory.specs.Results.{◌>>=◌}
use Rattle.gp_service.specs.Stores.{store_language}
use Rattle.gp_service.specs.StoreLaws.{store_spelled}
use Rattle.gp_script.specs.declared.reason.Reason.{Reason}
use Rattle.gp_script.specs.declared.reason.Reason.TheVariants.{BadLine, TooLong, TooManyEvents, NoNodesLine}
use Rattle.gp_script.specs.declared.items.Item.{Item}
use Rattle.gp_script.specs.declared.items.Item.TheVariants as item
use Rattle.gp_script.specs.Forms.{Form, NodesLine, OfferLine, BeginLine, TakeLine, FallLine, ShowLine, form_of}
use Rattle.gp_script.specs.Items.{item_of, counts_of}
use Rattle.gp_script.specs.Rows.{HasWords}
use Rattle.gp_script.proofs.Steps.{test_then, ok_or_says}
use Rattle.gp_script.proofs.FormLemmas.{form_says}
use Rattle.gp_script.proofs.ItemLemmas.{line_for, item_read}
use Rattle.gp_text.specs.declared.limits.TheConstants.{MOST_EVENTS}
use Rattle.gp_text.specs.Reading.{Reading, Whole, Refused, Script, Sofar, nothing, said_so_far, on_line, is_nodes, is_passed, holds_limit, add_event, add_item, item_in, table_line, after_line, nodes_line, follow, reading_from}
use Rattle.gp_store.proofs.ReadingLemmas.{bound}
use Rattle.gp_verdict.specs.Parts.{is_divider, is_show, ends_trace, trace_lines, after_trace}

-- ---- how many lines are shown

abbrev pub one_if : Bool → ℕ
one_if b = cond b 1 0

-- how many of these lines end a trace
unfoldable pub endings : List (List ℕ) → ℕ
endings [] = 0
endings (line ∷ lines) = one_if (ends_trace (text_of line)) + endings lines

-- ---- lines that are passed over, and the `nodes` line

hash_shows : (parts : List (List ℕ)) → is_show (onto_first 35 parts) ≡ false
hash_shows [] = refl
hash_shows (part ∷ parts) = refl

hash_at : (byte : ℕ) (bytes : List ℕ) → byte ≡ 35 → ends_trace (byte ∷ bytes) ≡ false
hash_at byte bytes e = subst (λ b. ends_trace (b ∷ bytes) ≡ false) (sym e) (hash_shows (tokens_of bytes))

pub passed_stays : (text : List ℕ) → is_passed text ≡ true → ends_trace text ≡ false
passed_stays [] e = refl
passed_stays (byte ∷ bytes) e = hash_at byte bytes (eqb-true byte 35 e)

-- a text is the divider, and its tokens are one
divider_is : (text : List ℕ) → is_divider text ≡ true → text ≡ codes "--"
divider_is text e = (bytes_eq-Decides text (codes "--")).0 e

nodes_word : (words : List (List ℕ)) → is_nodes words ≡ true → is_show words ≡ false
nodes_word [] e = refl
nodes_word (word ∷ words) e =
    let is : word ≡ codes "nodes" = (bytes_eq-Decides word (codes "nodes")).0 e in
    subst (λ w. is_show (w ∷ words) ≡ false) (sym is) refl

or_none : (a b : Bool) → a ≡ false → b ≡ false → (a || b) ≡ false
or_none a b e f = rw (e, f) refl

no_divider : (text : List ℕ) (found : Bool) → is_divider text ≡ found → (text ≡ codes "--" → false ≡ true) → is_divider text ≡ false
no_divider text true e never = absurd (let f = never (divider_is text e) in cc)
no_divider text false e never = e

pub nodes_stays : (text : List ℕ) (config : Counts) → nodes_line text ≡ Ok config → ends_trace text ≡ false
unfolding nodes_line
nodes_stays text config e =
    let t = test_then (is_nodes (tokens_of text)) (ok_or (form_of (tokens_of text)) BadLine >>= counts_of) config NoNodesLine e in
    or_none (is_divider text) (is_show (tokens_of text)) (no_divider text (is_divider text) refl (λ same. subst (λ (x : List ℕ). is_nodes (tokens_of x) ≡ true) same t.0)) (nodes_word (tokens_of text) t.0)

-- ---- a line of the table

-- the item shows something
abbrev is_shown : Item → Bool
is_shown (item.Offer proposer draft) = false
is_shown (item.Begin coordinator round) = false
is_shown (item.Take node message) = false
is_shown (item.Fall node what) = false
is_shown (item.Show learner) = true

-- the row shows something
abbrev is_showing : Form → Bool
is_showing (NodesLine a c l) = false
is_showing (OfferLine node words) = false
is_showing (BeginLine node count mode) = false
is_showing (TakeLine node message) = false
is_showing (FallLine node what) = false
is_showing (ShowLine node) = true

event_added : (full : Bool) (sofar next : Sofar) (event : Event) → cond full (Err TooManyEvents) (Ok (record { events = sofar.events ++ event ∷ []; shown = sofar.shown })) ≡ Ok next → length next.shown ≡ length sofar.shown + 0
event_added true sofar next event e = absurd cc
event_added false sofar next event e =
    let same : (record { events = sofar.events ++ event ∷ []; shown = sofar.shown }) ≡ next = cc in
    ap (λ (s : Sofar). length s.shown) (sym same) ∙ omega arith

add_shows : (sofar next : Sofar) (event : Event) → add_event sofar event ≡ Ok next → length next.shown ≡ length sofar.shown + 0
unfolding add_event
add_shows sofar next event e = event_added (nat_le MOST_EVENTS (length sofar.events)) sofar next event e

unless_refused : (full : Bool) (why : Reason) (sofar next : Sofar) (event : Event) → cond full (Err why) (add_event sofar event) ≡ Ok next → length next.shown ≡ length sofar.shown + 0
unless_refused true why sofar next event e = absurd cc
unless_refused false why sofar next event e = add_shows sofar next event e

item_shows : (c : Counts) (sofar next : Sofar) (said : Item) → add_item c sofar said ≡ Ok next → length next.shown ≡ length sofar.shown + one_if (is_shown said)
unfolding add_item
item_shows c sofar next (item.Offer proposer draft) e = unless_refused _ _ sofar next _ e
item_shows c sofar next (item.Begin coordinator round) e = add_shows sofar next _ e
item_shows c sofar next (item.Take node message) e = unless_refused _ _ sofar next _ e
item_shows c sofar next (item.Fall node what) e = unless_refused _ _ sofar next _ e
item_shows c sofar next (item.Show learner) e =
    let same : (record { events = sofar.events; shown = sofar.shown ++ (record { learner = learner; before = sofar.events }) ∷ [] }) ≡ next = cc in
    ap (λ (s : Sofar). length s.shown) (sym same) ∙ length-append sofar.shown ((record { learner = learner; before = sofar.events }) ∷ [])

line_shown : (said : Item) → is_showing (line_for said) ≡ is_shown said
line_shown (item.Offer proposer draft) = refl
line_shown (item.Begin coordinator round) = refl
line_shown (item.Take node message) = refl
line_shown (item.Fall node what) = refl
line_shown (item.Show learner) = refl

form_item : (c : Counts) (form : Form) (said : Item) → item_of store_language c form ≡ Ok said → is_shown said ≡ is_showing form
form_item c form said e =
    let r = item_read store_language store_spelled c form said e in
    sym (ap is_showing r.same ∙ line_shown said)

words_show : (form : Form) (words : List (List ℕ)) → HasWords form words → is_show words ≡ is_showing form
words_show (NodesLine a c l) words has = ap is_show has
words_show (OfferLine node others) words has = ap is_show has
words_show (BeginLine node count mode) words has = ap is_show has
words_show (TakeLine node message) words has = ap is_show has
words_show (FallLine node what) words has = ap is_show has
words_show (ShowLine node) words has = ap is_show has

divider_has_no_form : (form : Form) → form_of (tokens_of (codes "--")) ≡ Some form → false ≡ true
unfolding form_of
divider_has_no_form form e = absurd cc

or_left_none : (a b : Bool) → a ≡ false → (a || b) ≡ b
or_left_none a b e = rw e refl

table_ends : (text : List ℕ) (form : Form) → form_of (tokens_of text) ≡ Some form → ends_trace text ≡ is_showing form
table_ends text form e =
    let none = no_divider text (is_divider text) refl (λ same. divider_has_no_form form (subst (λ (x : List ℕ). form_of (tokens_of x) ≡ Some form) same e)) in
    or_left_none (is_divider text) (is_show (tokens_of text)) none ∙ words_show form (tokens_of text) (form_says (tokens_of text) form e).1

table_shows : (c : Counts) (sofar next : Sofar) (text : List ℕ) → table_line store_language c sofar text ≡ Ok next → length next.shown ≡ length sofar.shown + one_if (ends_trace text)
unfolding table_line item_in
table_shows c sofar next text e =
    let added = bound (item_in store_language c text) _ next e in
    let row = bound (ok_or (form_of (tokens_of text)) BadLine) _ added.0 added.1 in
    let form = ok_or_says (form_of (tokens_of text)) row.0 BadLine row.1 in
    item_shows c sofar next added.0 added.2
    ∙ ap (λ b. length sofar.shown + one_if b) (form_item c row.0 added.0 row.2 ∙ sym (table_ends text row.0 form))

line_cases : (c : Counts) (sofar next : Sofar) (text : List ℕ) (passed : Bool) → is_passed text ≡ passed → cond passed (Ok sofar) (table_line store_language c sofar text) ≡ Ok next → length next.shown ≡ length sofar.shown + one_if (ends_trace text)
line_cases c sofar next text true is e =
    let same : sofar ≡ next = cc in
    ap (λ (s : Sofar). length s.shown) (sym same) ∙ omega arith ∙ ap (λ b. length sofar.shown + one_if b) (sym (passed_stays text is))
line_cases c sofar next text false is e = table_shows c sofar next text e

line_shows : (c : Counts) (sofar next : Sofar) (text : List ℕ) → after_line store_language c sofar text ≡ Ok next → length next.shown ≡ length sofar.shown + one_if (ends_trace text)
unfolding after_line
line_shows c sofar next text e = line_cases c sofar next text (is_passed text) refl e

-- ---- from line to line

goes_on : {X : Type 0} (long : Bool) (said : Result X Reason) (go : X → Reading) (n : ℕ) (why : Reason) (before : Option Script) (own : Counts) (whole : Sofar)
    → cond long (Refused n why before) (on_line said go (λ reason. Refused n reason before)) ≡ Whole own whole → (x : X) × (said ≡ Ok x) × (go x ≡ Whole own whole)
goes_on true said go n why before own whole e = absurd cc
goes_on false (Ok x) go n why before own whole e = (x, refl, e)
goes_on false (Err reason) go n why before own whole e = absurd cc

opens_on : {X : Type 0} (long passed : Bool) (next : Reading) (said : Result X Reason) (go : X → Reading) (n : ℕ) (own : Counts) (whole : Sofar)
    → cond long (Refused n TooLong None) (cond passed next (on_line said go (λ reason. Refused n reason None))) ≡ Whole own whole
    → ((passed ≡ true) × (next ≡ Whole own whole)) ⊎ ((x : X) × (said ≡ Ok x) × (go x ≡ Whole own whole))
opens_on true passed next said go n own whole e = absurd cc
opens_on false true next said go n own whole e = inl (refl, e)
opens_on false false next (Ok x) go n own whole e = inr (x, refl, e)
opens_on false false next (Err reason) go n own whole e = absurd cc

lines_show : (config own : Counts) (n place : ℕ) (sofar whole : Sofar) (lines : List (List ℕ)) → follow store_language config n place sofar lines ≡ Whole own whole → length whole.shown ≡ length sofar.shown + endings lines
unfolding follow endings
lines_show config own n place sofar whole [] e =
    let same : sofar ≡ whole = cc in
    ap (λ (s : Sofar). length s.shown) (sym same) ∙ omega arith
lines_show config own n place sofar whole (line ∷ lines) e =
    let g = goes_on (holds_limit place line) (after_line store_language config sofar (text_of line)) (λ more. follow store_language config (n + 1) (place + length line) more lines) n TooLong (said_so_far config sofar) own whole e in
    let rest = lines_show config own (n + 1) (place + length line) g.0 whole lines g.2 in
    let first = line_shows config sofar g.0 (text_of line) g.1 in
    omega (arith, rest, first)

one_more : (whole : Sofar) (line : List ℕ) (lines : List (List ℕ)) → ends_trace (text_of line) ≡ false → length whole.shown ≡ endings lines → length whole.shown ≡ one_if (ends_trace (text_of line)) + endings lines
one_more whole line lines stays rest = rw stays (omega (arith, rest))

reading_from_shows : (own : Counts) (n place : ℕ) (whole : Sofar) (lines : List (List ℕ)) → reading_from store_language n place lines ≡ Whole own whole → length whole.shown ≡ endings lines
unfolding reading_from endings
reading_from_shows own n place whole [] e = absurd cc
reading_from_shows own n place whole (line ∷ lines) e =
    elim (opens_on (holds_limit place line) (is_passed (text_of line)) (reading_from store_language (n + 1) (place + length line) lines) (nodes_line (text_of line)) (λ config. follow store_language config (n + 1) (place + length line) nothing lines) n own whole e) [
      | inl passed ↦ (let stays = passed_stays (text_of line) passed.0 in let rest = reading_from_shows own (n + 1) (place + length line) whole lines passed.1 in one_more whole line lines stays rest)
      | inr said ↦ (let stays = nodes_stays (text_of line) said.0 said.1 in let rest = lines_show said.0 own (n + 1) (place + length line) nothing whole lines said.2 in one_more whole line lines stays (rest ∙ omega arith))
    ]

-- ---- the lines of a trace

cond_ends : (line : List ℕ) (lines : List (List ℕ)) (ends : Bool) → ends_trace (text_of line) ≡ ends → endings (trace_lines lines) ≡ 0 → endings (trace_lines (line ∷ lines)) ≡ 0
unfolding trace_lines endings
cond_ends line lines true is ih = rw is refl
cond_ends line lines false is ih = rw (is, is) (omega (arith, ih))

pub trace_ends : (lines : List (List ℕ)) → endings (trace_lines lines) ≡ 0
unfolding trace_lines endings
trace_ends [] = refl
trace_ends (line ∷ lines) = cond_ends line lines (ends_trace (text_of line)) refl (trace_ends lines)

pub shows_nothing : (own : Counts) (whole : Sofar) (lines : List (List ℕ)) → reading_from store_language 1 0 (trace_lines lines) ≡ Whole own whole → whole.shown ≡ []
shows_nothing own whole lines e = nil_from_length whole.shown (reading_from_shows own 1 0 whole (trace_lines lines) e ∙ trace_ends lines)

-- a script that shows nothing has no line that ends a trace
pub ends_nowhere : (own : Counts) (whole : Sofar) (lines : List (List ℕ)) → reading_from store_language 1 0 lines ≡ Whole own whole → whole.shown ≡ [] → endings lines ≡ 0
ends_nowhere own whole lines e none = sym (reading_from_shows own 1 0 whole lines e) ∙ ap length none

-- and behind it the trace ends at a line that ends it
parted_at : (line : List ℕ) (lines others : List (List ℕ)) (ends : Bool) → ends_trace (text_of line) ≡ ends → one_if ends + endings lines ≡ 0 → (endings lines ≡ 0 → (trace_lines (lines ++ others) ≡ lines) × (after_trace (lines ++ others) ≡ others))
    → (trace_lines (line ∷ lines ++ others) ≡ line ∷ lines) × (after_trace (line ∷ lines ++ others) ≡ others)
unfolding trace_lines after_trace
parted_at line lines others true is none ih = absurd (omega (arith, none))
parted_at line lines others false is none ih = let p = ih (omega (arith, none)) in (rw is (ap (λ (ls : List (List ℕ)). line ∷ ls) p.0), rw is p.1)

pub parted : (lines : List (List ℕ)) (line : List ℕ) (others : List (List ℕ)) → endings lines ≡ 0 → ends_trace (text_of line) ≡ true → (trace_lines (lines ++ line ∷ others) ≡ lines) × (after_trace (lines ++ line ∷ others) ≡ line ∷ others)
unfolding endings trace_lines after_trace
parted [] line others none ends = (rw ends refl, rw ends refl)
parted (first ∷ lines) line others none ends = parted_at first lines (line ∷ others) (ends_trace (text_of first)) refl none (λ rest. parted lines line others rest ends)

-- lines none of which ends a trace are the trace
whole_at : (line : List ℕ) (lines : List (List ℕ)) (ends : Bool) → ends_trace (text_of line) ≡ ends → one_if ends + endings lines ≡ 0 → (endings lines ≡ 0 → (trace_lines lines ≡ lines) × (after_trace lines ≡ [])) → (trace_lines (line ∷ lines) ≡ line ∷ lines) × (after_trace (line ∷ lines) ≡ [])
unfolding trace_lines after_trace
whole_at line lines true is none ih = absurd (omega (arith, none))
whole_at line lines false is none ih = let p = ih (omega (arith, none)) in (rw is (ap (λ (ls : List (List ℕ)). line ∷ ls) p.0), rw is p.1)

pub whole_trace : (lines : List (List ℕ)) → endings lines ≡ 0 → (trace_lines lines ≡ lines) × (after_trace lines ≡ [])
unfolding endings trace_lines after_trace
whole_trace [] none = (refl, refl)
whole_trace (line ∷ lines) none = whole_at line lines (ends_trace (text_of line)) refl none (whole_trace lines)
