-- The line of an item: its words, and how long it is.
use Rattle.std.proofs.Common.{◌≡◌, ◌≢◌, ℕ, ◌+◌, ◌<◌, ◌≤◌, ◌^◌, true, false, eqb, List, [], ◌∷◌, ◌++◌, length, take, drop, Option, Some, None, refl, sym, ap, subst, ◌∙◌, arith, append_assoc, length-append}
use Rattle.std.specs.Prelude.{decimal, codes, position}
use Rattle.std.specs.List.{AllByRecursion}
use Rattle.std.proofs.lemmas.Bool.{ne_eqb, ltb-true, lt-ltb}
use Rattle.std.proofs.lemmas.Fmt.{length-decimal-le}
use Rattle.std.proofs.lemmas.List.{append-nil}
use Rattle.gp_command.specs.declared.command.TheConstants.{PROPOSERS}
use Rattle.gp_round.specs.Counts.{Counts}
use Rattle.gp_round.specs.Ranges.{AreInRange}
use Rattle.gp_round.specs.Configs.{is_owner}
use Rattle.gp_round.specs.declared.round.Mode.{Mode}
use Rattle.gp_round.specs.declared.round.Mode.TheVariants.{Single, Multi, Fast}
use Rattle.gp_round.specs.declared.round.Round.{Round}
use Rattle.gp_msg.specs.declared.node.Node.{Node}
use Rattle.gp_msg.specs.declared.node.Node.TheVariants.{Proposer, Coordinator, Acceptor, Learner}
use Rattle.gp_msg.specs.declared.event.Kept.{Kept}
use Rattle.gp_msg.specs.declared.event.Kept.TheVariants as kept
use Rattle.gp_msg.specs.Nodes.{node_number, is_present, may_keep}
use Rattle.gp_words.specs.Bytes.{Lacks}
use Rattle.gp_words.specs.Lines.{is_line_feed}
use Rattle.gp_words.specs.Spacing.{joined}
use Rattle.gp_words.specs.Tokens.{is_space, tokens_of, has_empty}
use Rattle.gp_words.proofs.NumberLemmas.{decimal_spaceless, decimal_feedless, decimal_short}
use Rattle.gp_words.proofs.TokenLemmas.{token_then, tokens_split, joined_tokens, split_at_space, split_nowhere}
use Rattle.gp_service.specs.Languages.{Language, IsLanguage, IsSpelled}
use Rattle.gp_store.proofs.SpellingLemmas.{value_some, lacks_append}
use Rattle.gp_script.specs.declared.items.Item.{Item}
use Rattle.gp_script.specs.declared.items.Item.TheVariants.{Offer, Begin, Take, Fall, Show}
use Rattle.gp_script.specs.Forms.{Form, form_of}
use Rattle.gp_script.specs.Admitted.{IsAdmitted}
use Rattle.gp_script.specs.Spelling.{node_word, mode_word, round_words, kept_words, item_line, longest_line, SaysItem}
use Rattle.gp_script.specs.Rows.{kept_words_of, HasWords}
use Rattle.gp_script.proofs.FormLemmas.{form_says, form_read}
use Rattle.gp_script.proofs.ItemLemmas.{owned_own, owner_there, kept_line, line_for, item_read, item_again}

-- the words of an item's line
abbrev pub item_words : Item → List (List ℕ)
item_words (Offer proposer draft) = codes "offer" ∷ node_word (Proposer proposer) ∷ tokens_of draft.body
item_words (Begin coordinator round) = codes "begin" ∷ node_word (Coordinator coordinator) ∷ decimal round.count ∷ mode_word round.mode ∷ []
item_words (Take node message) = codes "take" ∷ node_word node ∷ decimal message ∷ []
item_words (Fall node what) = codes "fall" ∷ node_word node ∷ kept_words_of (kept_line what)
item_words (Show learner) = codes "show" ∷ node_word (Learner learner) ∷ []

words_there : (item : Item) → item_words item ≢ []
words_there (Offer proposer draft) e = cc
words_there (Begin coordinator round) e = cc
words_there (Take node message) e = cc
words_there (Fall node what) e = cc
words_there (Show learner) e = cc

-- ---- the line is its words with single spaces between

pub spaced_apart : (w t : List ℕ) → w ++ 32 ∷ t ≡ w ++ codes " " ++ t
spaced_apart w t = sym (append_assoc w (codes " ") t)

-- the tokens of a text begin with one
record HasFirst (tokens : List (List ℕ)) : Type 0 where
  first : List ℕ
  others : List (List ℕ)
  is : tokens ≡ first ∷ others

first_by : (text : List ℕ) (o : Option ℕ) → position is_space text ≡ o → HasFirst (tokens_of text)
first_by text None e = record { first = text; others = []; is = split_nowhere text e }
first_by text (Some place) e = record { first = take place text; others = tokens_of (drop (place + 1) text); is = split_at_space text place e }

behind_word : (w text : List ℕ) → joined (w ∷ tokens_of text) ≡ w ++ 32 ∷ text
behind_word w text =
    let f = first_by text (position is_space text) refl in
    let whole : joined (f.first ∷ f.others) ≡ text = sym (ap joined f.is) ∙ joined_tokens text in
    ap (λ (ts : List (List ℕ)). joined (w ∷ ts)) f.is ∙ ap (λ (t : List ℕ). w ++ 32 ∷ t) whole

words_joined : (item : Item) → joined (item_words item) ≡ item_line item
words_joined (Offer proposer draft) =
    let node = node_word (Proposer proposer) in
    ap (λ (t : List ℕ). codes "offer " ++ t) (behind_word node draft.body ∙ spaced_apart node draft.body)
words_joined (Begin coordinator round) =
    let round_apart = spaced_apart (decimal round.count) (mode_word round.mode) in
    let node = node_word (Coordinator coordinator) in
    ap (λ (t : List ℕ). codes "begin " ++ t) (ap (λ (t : List ℕ). node ++ 32 ∷ t) round_apart ∙ spaced_apart node (round_words round))
words_joined (Take node message) = ap (λ (t : List ℕ). codes "take " ++ t) (spaced_apart (node_word node) (decimal message))
words_joined (Fall node None) = ap (λ (t : List ℕ). codes "fall " ++ t) (sym (append-nil (node_word node)))
words_joined (Fall node (Some (kept.Take message))) = refl
words_joined (Fall node (Some (kept.Begin round))) = ap (λ (t : List ℕ). codes "fall " ++ node_word node ++ (codes " begin " ++ t)) (spaced_apart (decimal round.count) (mode_word round.mode))
words_joined (Show learner) = refl

-- ---- the words have no spaces, and none is empty

number_small : (c : Counts) (node : Node) → AreInRange c.acceptors c.coordinators c.learners → is_present c node ≡ true → node_number node < 2 ^ 64
number_small c (Proposer n) range there = let lt = ltb-true n 8 there in omega arith
number_small c (Coordinator n) range there = let lt = ltb-true n c.coordinators there in omega arith
number_small c (Acceptor n) range there = let lt = ltb-true n c.acceptors there in omega arith
number_small c (Learner n) range there = let lt = ltb-true n c.learners there in omega arith

node_spaceless : (node : Node) → node_number node < 2 ^ 64 → Lacks is_space (node_word node)
node_spaceless (Proposer n) lt = decimal_spaceless n lt
node_spaceless (Coordinator n) lt = decimal_spaceless n lt
node_spaceless (Acceptor n) lt = decimal_spaceless n lt
node_spaceless (Learner n) lt = decimal_spaceless n lt

node_feedless : (node : Node) → node_number node < 2 ^ 64 → Lacks is_line_feed (node_word node)
node_feedless (Proposer n) lt = decimal_feedless n lt
node_feedless (Coordinator n) lt = decimal_feedless n lt
node_feedless (Acceptor n) lt = decimal_feedless n lt
node_feedless (Learner n) lt = decimal_feedless n lt

mode_spaceless : (mode : Mode) → Lacks is_space (mode_word mode)
mode_spaceless Single = refl
mode_spaceless Multi = refl
mode_spaceless Fast = refl

mode_feedless : (mode : Mode) → Lacks is_line_feed (mode_word mode)
mode_feedless Single = refl
mode_feedless Multi = refl
mode_feedless Fast = refl

none_where_some : (word : List ℕ) → 0 < length word → eqb (length word) 0 ≡ false
none_where_some word lt = ne_eqb (length word) 0 (λ none. omega arith)

node_some : (node : Node) → eqb (length (node_word node)) 0 ≡ false
node_some (Proposer n) = none_where_some (node_word (Proposer n)) (omega arith)
node_some (Coordinator n) = none_where_some (node_word (Coordinator n)) (omega arith)
node_some (Acceptor n) = none_where_some (node_word (Acceptor n)) (omega arith)
node_some (Learner n) = none_where_some (node_word (Learner n)) (omega arith)

mode_some : (mode : Mode) → eqb (length (mode_word mode)) 0 ≡ false
mode_some Single = refl
mode_some Multi = refl
mode_some Fast = refl

-- the numbers of an item that is admitted are below 2^64, and a draft that it offers is spelled in its body
abbrev KeptFits : Option Kept → Type 0
KeptFits None = Unit {0}
KeptFits (Some (kept.Take message)) = message < 2 ^ 64
KeptFits (Some (kept.Begin round)) = round.count < 2 ^ 64

abbrev ItemFits : Item → Type 0
ItemFits (Offer proposer draft) = (proposer < 2 ^ 64) × IsSpelled (tokens_of draft.body) draft
ItemFits (Begin coordinator round) = (coordinator < 2 ^ 64) × (round.count < 2 ^ 64)
ItemFits (Take node message) = (node_number node < 2 ^ 64) × (message < 2 ^ 64)
ItemFits (Fall node what) = (node_number node < 2 ^ 64) × KeptFits what
ItemFits (Show learner) = learner < 2 ^ 64

count_fits : (many n : ℕ) (round : Round) → is_owner many n round ≡ true → round.count < 2 ^ 64
count_fits many n round owner = let most = (owned_own many n round owner).most in omega arith

kept_fits : (c : Counts) (node : Node) (what : Option Kept) → may_keep c (2 ^ 64) node what ≡ true → KeptFits what
kept_fits c node None can = tt
kept_fits c (Proposer n) (Some what) can = absurd cc
kept_fits c (Coordinator n) (Some (kept.Take message)) can = ltb-true message (2 ^ 64) can
kept_fits c (Coordinator n) (Some (kept.Begin round)) can = count_fits c.coordinators n round can
kept_fits c (Acceptor n) (Some (kept.Take message)) can = ltb-true message (2 ^ 64) can
kept_fits c (Acceptor n) (Some (kept.Begin round)) can = absurd cc
kept_fits c (Learner n) (Some what) can = absurd cc

item_fits : (language : Language) → IsLanguage language → (c : Counts) (item : Item) → AreInRange c.acceptors c.coordinators c.learners → IsAdmitted language c item → ItemFits item
item_fits language spelled c (Offer proposer draft) range a = (number_small c (Proposer proposer) range (lt-ltb proposer PROPOSERS a.0), spelled (tokens_of draft.body) draft a.1)
item_fits language spelled c (Begin coordinator round) range a = (number_small c (Coordinator coordinator) range (lt-ltb coordinator c.coordinators (owner_there c.coordinators coordinator round a)), count_fits c.coordinators coordinator round a)
item_fits language spelled c (Take node message) range a = (number_small c node range a.0, a.1)
item_fits language spelled c (Fall node what) range a = (number_small c node range a.0, kept_fits c node what a.1)
item_fits language spelled c (Show learner) range a = number_small c (Learner learner) range (lt-ltb learner c.learners a)

kept_spaceless : (what : Option Kept) → KeptFits what → AllByRecursion (Lacks is_space) (kept_words_of (kept_line what))
kept_spaceless None f = tt
kept_spaceless (Some (kept.Take message)) f = (refl, (decimal_spaceless message f, tt))
kept_spaceless (Some (kept.Begin round)) f = (refl, (decimal_spaceless round.count f, (mode_spaceless round.mode, tt)))

-- the words are the tokens of what they make with single spaces between
words_apart : (item : Item) → ItemFits item → tokens_of (joined (item_words item)) ≡ item_words item
words_apart (Offer proposer draft) f =
    let node = node_word (Proposer proposer) in
    ap (λ (t : List ℕ). tokens_of (codes "offer " ++ t)) (behind_word node draft.body)
    ∙ token_then (codes "offer") (node ++ 32 ∷ draft.body) refl
    ∙ ap (λ (ts : List (List ℕ)). codes "offer" ∷ ts) (token_then node draft.body (node_spaceless (Proposer proposer) f.0))
words_apart (Begin coordinator round) f = tokens_split (item_words (Begin coordinator round)) (words_there (Begin coordinator round)) (refl, (node_spaceless (Coordinator coordinator) f.0, (decimal_spaceless round.count f.1, (mode_spaceless round.mode, tt))))
words_apart (Take node message) f = tokens_split (item_words (Take node message)) (words_there (Take node message)) (refl, (node_spaceless node f.0, (decimal_spaceless message f.1, tt)))
words_apart (Fall node what) f = tokens_split (item_words (Fall node what)) (words_there (Fall node what)) (refl, (node_spaceless node f.0, kept_spaceless what f.1))
words_apart (Show learner) f = tokens_split (item_words (Show learner)) (words_there (Show learner)) (refl, (node_spaceless (Learner learner) f, tt))

kept_some : (what : Option Kept) → KeptFits what → has_empty (kept_words_of (kept_line what)) ≡ false
kept_some None f = refl
kept_some (Some (kept.Take message)) f = rw (value_some message f) refl
kept_some (Some (kept.Begin round)) f = rw (value_some round.count f, mode_some round.mode) refl

item_some : (item : Item) → ItemFits item → has_empty (item_words item) ≡ false
item_some (Offer proposer draft) f = rw (node_some (Proposer proposer)) f.1.some
item_some (Begin coordinator round) f = rw (node_some (Coordinator coordinator), value_some round.count f.1, mode_some round.mode) refl
item_some (Take node message) f = rw (node_some node, value_some message f.1) refl
item_some (Fall node what) f = rw (node_some node) (kept_some what f.1)
item_some (Show learner) f = rw (node_some (Learner learner)) refl

-- ---- the line says the item, and no other line does

has_its_words : (item : Item) → HasWords (line_for item) (item_words item)
has_its_words (Offer proposer draft) = refl
has_its_words (Begin coordinator round) = refl
has_its_words (Take node message) = refl
has_its_words (Fall node what) = refl
has_its_words (Show learner) = refl

tokens_of_fitting : (item : Item) → ItemFits item → tokens_of (item_line item) ≡ item_words item
tokens_of_fitting item f = ap tokens_of (sym (words_joined item)) ∙ words_apart item f

only_words : (item : Item) (words : List (List ℕ)) → HasWords (line_for item) words → words ≡ item_words item
only_words (Offer proposer draft) words same = same
only_words (Begin coordinator round) words same = same
only_words (Take node message) words same = same
only_words (Fall node what) words same = same
only_words (Show learner) words same = same

module _ (language : Language) (spelled : IsLanguage language) where
  -- the line of an admitted item says the item
  pub line_says : (c : Counts) (item : Item) → AreInRange c.acceptors c.coordinators c.learners → IsAdmitted language c item → SaysItem language c (tokens_of (item_line item)) item
  line_says c item range a =
      let f = item_fits language spelled c item range a in
      record {
        form = line_for item;
        of_tokens = ap form_of (tokens_of_fitting item f) ∙ form_read (line_for item) (item_words item) (item_some item f) (has_its_words item);
        said = item_again language c item range a;
      }

  -- a text that says an item is the item's line
  pub only_line : (c : Counts) (text : List ℕ) (item : Item) → SaysItem language c (tokens_of text) item → text ≡ item_line item
  only_line c text item says =
      let read = item_read language spelled c says.form item says.said in
      let has = (form_says (tokens_of text) says.form says.of_tokens).1 in
      let words = only_words item (tokens_of text) (subst (λ (form : Form). HasWords form (tokens_of text)) read.same has) in
      sym (joined_tokens text) ∙ ap joined words ∙ words_joined item

-- ---- the line has no line feed, and is short

-- two texts with a space between
pub feedless_apart : (a b : List ℕ) → Lacks is_line_feed a → Lacks is_line_feed b → Lacks is_line_feed (a ++ codes " " ++ b)
feedless_apart a b x y = lacks_append is_line_feed (a ++ codes " ") b (lacks_append is_line_feed a (codes " ") x refl) y

pub length_apart : (a b : List ℕ) → length (a ++ codes " " ++ b) ≡ length a + 1 + length b
length_apart a b = length-append (a ++ codes " ") b ∙ ap (λ n. n + length b) (length-append a (codes " "))

round_feedless : (round : Round) → round.count < 2 ^ 64 → Lacks is_line_feed (round_words round)
round_feedless round lt = feedless_apart (decimal round.count) (mode_word round.mode) (decimal_feedless round.count lt) (mode_feedless round.mode)

kept_feedless : (what : Option Kept) → KeptFits what → Lacks is_line_feed (kept_words what)
kept_feedless None f = refl
kept_feedless (Some (kept.Take message)) f = decimal_feedless message f
kept_feedless (Some (kept.Begin round)) f = round_feedless round f

line_lacks : (item : Item) → ItemFits item → Lacks is_line_feed (item_line item)
line_lacks (Offer proposer draft) f = feedless_apart (node_word (Proposer proposer)) draft.body (node_feedless (Proposer proposer) f.0) f.1.feedless
line_lacks (Begin coordinator round) f = feedless_apart (node_word (Coordinator coordinator)) (round_words round) (node_feedless (Coordinator coordinator) f.0) (round_feedless round f.1)
line_lacks (Take node message) f = feedless_apart (node_word node) (decimal message) (node_feedless node f.0) (decimal_feedless message f.1)
line_lacks (Fall node what) f = lacks_append is_line_feed (node_word node) (kept_words what) (node_feedless node f.0) (kept_feedless what f.1)
line_lacks (Show learner) f = decimal_feedless learner f

pub line_feedless : (language : Language) → IsLanguage language → (c : Counts) (item : Item) → AreInRange c.acceptors c.coordinators c.learners → IsAdmitted language c item → Lacks is_line_feed (item_line item)
line_feedless language spelled c item range a = line_lacks item (item_fits language spelled c item range a)

-- ---- how long the line is

-- a node has a letter and one digit
node_short : (c : Counts) (node : Node) → AreInRange c.acceptors c.coordinators c.learners → is_present c node ≡ true → length (node_word node) ≤ 2
node_short c (Proposer n) range there = let lt = ltb-true n 8 there in let digit = length-decimal-le 1 n (omega arith) (omega arith) (omega arith) in omega arith
node_short c (Coordinator n) range there = let lt = ltb-true n c.coordinators there in let digit = length-decimal-le 1 n (omega arith) (omega arith) (omega arith) in omega arith
node_short c (Acceptor n) range there = let lt = ltb-true n c.acceptors there in let digit = length-decimal-le 1 n (omega arith) (omega arith) (omega arith) in omega arith
node_short c (Learner n) range there = let lt = ltb-true n c.learners there in let digit = length-decimal-le 1 n (omega arith) (omega arith) (omega arith) in omega arith

mode_short : (mode : Mode) → length (mode_word mode) ≤ 6
mode_short Single = omega arith
mode_short Multi = omega arith
mode_short Fast = omega arith

-- a count has at most seven digits
round_short : (many n : ℕ) (round : Round) → is_owner many n round ≡ true → length (round_words round) ≤ 14
round_short many n round owner =
    let most = (owned_own many n round owner).most in
    let sum = length_apart (decimal round.count) (mode_word round.mode) in
    let count = length-decimal-le 7 round.count (omega arith) (omega arith) (omega arith) in
    let mode = mode_short round.mode in
    omega arith

kept_short : (c : Counts) (node : Node) (what : Option Kept) → may_keep c (2 ^ 64) node what ≡ true → length (kept_words what) ≤ 26
kept_short c node None can = omega arith
kept_short c (Proposer n) (Some what) can = absurd cc
kept_short c (Coordinator n) (Some (kept.Take message)) can = let short = decimal_short message (ltb-true message (2 ^ 64) can) in omega arith
kept_short c (Coordinator n) (Some (kept.Begin round)) can = let short = round_short c.coordinators n round can in omega arith
kept_short c (Acceptor n) (Some (kept.Take message)) can = let short = decimal_short message (ltb-true message (2 ^ 64) can) in omega arith
kept_short c (Acceptor n) (Some (kept.Begin round)) can = absurd cc
kept_short c (Learner n) (Some what) can = absurd cc

-- the line of an admitted item has no more bytes than its row of the table allows
pub line_short : (language : Language) → IsLanguage language → (c : Counts) (item : Item) → AreInRange c.acceptors c.coordinators c.learners → IsAdmitted language c item → length (item_line item) ≤ longest_line item
line_short language spelled c (Offer proposer draft) range a =
    let sum = length_apart (node_word (Proposer proposer)) draft.body in
    let node = node_short c (Proposer proposer) range (lt-ltb proposer PROPOSERS a.0) in
    let short = (spelled (tokens_of draft.body) draft a.1).short in
    omega arith
line_short language spelled c (Begin coordinator round) range a =
    let sum = length_apart (node_word (Coordinator coordinator)) (round_words round) in
    let node = node_short c (Coordinator coordinator) range (lt-ltb coordinator c.coordinators (owner_there c.coordinators coordinator round a)) in
    let words = round_short c.coordinators coordinator round a in
    omega arith
line_short language spelled c (Take node message) range a =
    let sum = length_apart (node_word node) (decimal message) in
    let node = node_short c node range a.0 in
    let number = decimal_short message a.1 in
    omega arith
line_short language spelled c (Fall node what) range a =
    let sum = length-append (node_word node) (kept_words what) in
    let words = kept_short c node what a.1 in
    let node = node_short c node range a.0 in
    omega arith
line_short language spelled c (Show learner) range a = let node = node_short c (Learner learner) range (lt-ltb learner c.learners a) in omega arith
