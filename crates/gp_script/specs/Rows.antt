-- The rows of the table of lines, by their words.
use Rattle.std.specs.Prelude.{◌≡◌, ℕ, List, [], ◌∷◌, codes}
use Rattle.gp_script.specs.Forms.{KeptForm, NothingKept, TakeKept, BeginKept, Form, NodesLine, OfferLine, BeginLine, TakeLine, FallLine, ShowLine}
use Rattle.gp_script.specs.Spelling.{mode_word}

-- the words after the node of a crash
abbrev pub kept_words_of : KeptForm → List (List ℕ)
kept_words_of NothingKept = []
kept_words_of (TakeKept message) = codes "take" ∷ message ∷ []
kept_words_of (BeginKept count mode) = codes "begin" ∷ count ∷ mode_word mode ∷ []

-- these are the words of the row; those of an operation follow the node of an offer
abbrev pub HasWords : Form → List (List ℕ) → Type 0
HasWords (NodesLine acceptors coordinators learners) words = words ≡ codes "nodes" ∷ acceptors ∷ coordinators ∷ learners ∷ []
HasWords (OfferLine node others) words = words ≡ codes "offer" ∷ node ∷ others
HasWords (BeginLine node count mode) words = words ≡ codes "begin" ∷ node ∷ count ∷ mode_word mode ∷ []
HasWords (TakeLine node message) words = words ≡ codes "take" ∷ node ∷ message ∷ []
HasWords (FallLine node what) words = words ≡ codes "fall" ∷ node ∷ kept_words_of what
HasWords (ShowLine node) words = words ≡ codes "show" ∷ node ∷ []
