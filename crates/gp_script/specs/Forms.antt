-- The lines of a script by their words: which tokens are names and numbers.
use Rattle.std.specs.Prelude.{ℕ, List, [], ◌∷◌, Option, Some, None, option_map, if◌then◌else◌, codes}
use Rattle.std.specs.Str.{bytes_eq}
use Rattle.gp_round.specs.declared.round.Mode.{Mode}
use Rattle.gp_round.specs.declared.round.Mode.TheVariants.{Single, Multi, Fast}
use Rattle.gp_words.specs.Tokens.{has_empty}

-- what a crash keeps: nothing, the step that took a message, or the step that began a round
pub data KeptForm : Type 0 where
  NothingKept : KeptForm
  TakeKept : List ℕ → KeptForm
  BeginKept : List ℕ → Mode → KeptForm

-- a row of the table, with the tokens of its names and numbers; the words of an operation follow the node of an offer
pub data Form : Type 0 where
  NodesLine : List ℕ → List ℕ → List ℕ → Form
  OfferLine : List ℕ → List (List ℕ) → Form
  BeginLine : List ℕ → List ℕ → Mode → Form
  TakeLine : List ℕ → List ℕ → Form
  FallLine : List ℕ → KeptForm → Form
  ShowLine : List ℕ → Form

-- the mode that has this name
abbrev pub mode_of : List ℕ → Option Mode
mode_of word =
    if bytes_eq word (codes "single") then Some Single
    else if bytes_eq word (codes "multi") then Some Multi
    else if bytes_eq word (codes "fast") then Some Fast
    else None

-- three numbers follow `nodes`
abbrev pub nodes_form : List (List ℕ) → Option Form
nodes_form (acceptors ∷ coordinators ∷ learners ∷ []) = Some (NodesLine acceptors coordinators learners)
nodes_form _ = None

-- a node and the words of an operation follow `offer`
abbrev pub offer_form : List (List ℕ) → Option Form
offer_form [] = None
offer_form (node ∷ words) = Some (OfferLine node words)

-- a node, a count and a mode follow `begin`
abbrev pub begin_form : List (List ℕ) → Option Form
begin_form (node ∷ count ∷ mode ∷ []) = option_map (BeginLine node count) (mode_of mode)
begin_form _ = None

-- a node and a message follow `take`
abbrev pub take_form : List (List ℕ) → Option Form
take_form (node ∷ message ∷ []) = Some (TakeLine node message)
take_form _ = None

-- a message follows the `take` of a crash
abbrev pub kept_take_form : List (List ℕ) → Option KeptForm
kept_take_form (message ∷ []) = Some (TakeKept message)
kept_take_form _ = None

-- a count and a mode follow the `begin` of a crash
abbrev pub kept_begin_form : List (List ℕ) → Option KeptForm
kept_begin_form (count ∷ mode ∷ []) = option_map (BeginKept count) (mode_of mode)
kept_begin_form _ = None

-- nothing follows the node of a crash, or the step that is kept
abbrev pub kept_form : List (List ℕ) → Option KeptForm
kept_form [] = Some NothingKept
kept_form (word ∷ others) =
    if bytes_eq word (codes "take") then kept_take_form others
    else if bytes_eq word (codes "begin") then kept_begin_form others
    else None

-- a node and what is kept follow `fall`
abbrev pub fall_form : List (List ℕ) → Option Form
fall_form [] = None
fall_form (node ∷ kept) = option_map (FallLine node) (kept_form kept)

-- a node follows `show`
abbrev pub show_form : List (List ℕ) → Option Form
show_form (node ∷ []) = Some (ShowLine node)
show_form _ = None

-- the first word says which row of the table it is
abbrev pub form_by_word : List (List ℕ) → Option Form
form_by_word [] = None
form_by_word (word ∷ others) =
    if bytes_eq word (codes "nodes") then nodes_form others
    else if bytes_eq word (codes "offer") then offer_form others
    else if bytes_eq word (codes "begin") then begin_form others
    else if bytes_eq word (codes "take") then take_form others
    else if bytes_eq word (codes "fall") then fall_form others
    else if bytes_eq word (codes "show") then show_form others
    else None

-- the row of the table that has these tokens, if there is one; no row has an empty token
unfoldable pub form_of : List (List ℕ) → Option Form
form_of tokens = if has_empty tokens then None else form_by_word tokens
