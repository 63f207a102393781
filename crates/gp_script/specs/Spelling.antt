-- The one line that says an item, and the one that says a configuration.
use Rattle.std.specs.Prelude.{◌≡◌, ℕ, List, ◌++◌, Option, Some, None, Ok, codes, decimal}
use Rattle.gp_round.specs.Counts.{Counts}
use Rattle.gp_round.specs.declared.round.Mode.{Mode}
use Rattle.gp_round.specs.declared.round.Mode.TheVariants.{Single, Multi, Fast}
use Rattle.gp_round.specs.declared.round.Round.{Round}
use Rattle.gp_msg.specs.declared.node.Node.{Node}
use Rattle.gp_msg.specs.declared.node.Node.TheVariants.{Proposer, Coordinator, Acceptor, Learner}
use Rattle.gp_msg.specs.declared.event.Kept.{Kept}
use Rattle.gp_msg.specs.declared.event.Kept.TheVariants as kept
use Rattle.gp_service.specs.Languages.{Language}
use Rattle.gp_script.specs.declared.items.Item.{Item}
use Rattle.gp_script.specs.declared.items.Item.TheVariants.{Offer, Begin, Take, Fall, Show}
use Rattle.gp_script.specs.Forms.{Form, form_of}
use Rattle.gp_script.specs.Items.{item_of, counts_of}

-- a node's letter and number
abbrev pub node_word : Node → List ℕ
node_word (Proposer n) = codes "p" ++ decimal n
node_word (Coordinator n) = codes "c" ++ decimal n
node_word (Acceptor n) = codes "a" ++ decimal n
node_word (Learner n) = codes "l" ++ decimal n

-- the name of a mode
abbrev pub mode_word : Mode → List ℕ
mode_word Single = codes "single"
mode_word Multi = codes "multi"
mode_word Fast = codes "fast"

-- the count and the mode of a round; its owner is named elsewhere in the line
abbrev pub round_words : Round → List ℕ
round_words r = decimal r.count ++ codes " " ++ mode_word r.mode

-- the step that a crash keeps, after the node
abbrev pub kept_words : Option Kept → List ℕ
kept_words None = codes ""
kept_words (Some (kept.Take message)) = codes " take " ++ decimal message
kept_words (Some (kept.Begin round)) = codes " begin " ++ round_words round

-- the line that says an item; the body of a draft is the spelling of its operation
abbrev pub item_line : Item → List ℕ
item_line (Offer proposer draft) = codes "offer " ++ node_word (Proposer proposer) ++ codes " " ++ draft.body
item_line (Begin coordinator round) = codes "begin " ++ node_word (Coordinator coordinator) ++ codes " " ++ round_words round
item_line (Take node message) = codes "take " ++ node_word node ++ codes " " ++ decimal message
item_line (Fall node what) = codes "fall " ++ node_word node ++ kept_words what
item_line (Show learner) = codes "show " ++ node_word (Learner learner)

-- the greatest number of bytes in a line of this row of the table
abbrev pub longest_line : Item → ℕ
longest_line (Offer proposer draft) = 71
longest_line (Begin coordinator round) = 23
longest_line (Take node message) = 28
longest_line (Fall node what) = 33
longest_line (Show learner) = 7

-- the line that says a configuration
abbrev pub nodes_text : Counts → List ℕ
nodes_text c = codes "nodes " ++ decimal c.acceptors ++ codes " " ++ decimal c.coordinators ++ codes " " ++ decimal c.learners

-- these tokens are a line of the table, and it says this item in a language
pub record SaysItem (language : Language) (c : Counts) (tokens : List (List ℕ)) (item : Item) : Type 0 where
  pub form : Form
  pub of_tokens : form_of tokens ≡ Some form
  pub said : item_of language c form ≡ Ok item

-- these tokens are a line of the table, and it says this configuration
pub record SaysCounts (tokens : List (List ℕ)) (counts : Counts) : Type 0 where
  pub form : Form
  pub of_tokens : form_of tokens ≡ Some form
  pub said : counts_of form ≡ Ok counts
