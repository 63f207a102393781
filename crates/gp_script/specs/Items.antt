-- What a line says: its tokens from left to right.
use Rattle.std.specs.Prelude.{ℕ, List, Option, Some, None, Result, Ok, Err, if◌then◌else◌}
use Rattle.std.specs.Option.{ok_or}
use Rattle.gp_round.specs.Counts.{Counts}
use Rattle.gp_round.specs.declared.config.TheConstants.{LAST_COUNT}
use Rattle.gp_round.specs.Configs.{round_of}
use Rattle.gp_msg.specs.declared.node.Node.{Node}
use Rattle.gp_msg.specs.declared.event.Kept.{Kept}
use Rattle.gp_msg.specs.declared.event.Kept.TheVariants as kept
use Rattle.gp_msg.specs.declared.event.KeptStep.{KeptStep}
use Rattle.gp_msg.specs.declared.event.KeptStep.TheVariants.{Took, Began}
use Rattle.gp_msg.specs.Nodes.{node_number, may_fall}
use Rattle.gp_memory.specs.Results.{◌>>=◌}
use Rattle.gp_service.specs.Languages.{Language}
use Rattle.gp_script.specs.declared.reason.Reason.{Reason}
use Rattle.gp_script.specs.declared.reason.Reason.TheVariants.{BadLine, BadFall}
use Rattle.gp_script.specs.declared.items.Item.{Item}
use Rattle.gp_script.specs.declared.items.Item.TheVariants.{Offer, Begin, Take, Fall, Show}
use Rattle.gp_script.specs.Reasons.{or_reason}
use Rattle.gp_script.specs.Names.{number, count_of, node_of, proposer_of, coordinator_of, learner_of}
use Rattle.gp_script.specs.Forms.{Form, NodesLine, OfferLine, BeginLine, TakeLine, FallLine, ShowLine, KeptForm, NothingKept, TakeKept, BeginKept}

-- the count of a round
abbrev pub round_count : List ℕ → Result ℕ Reason
round_count = count_of 1 LAST_COUNT

-- the kind of step that a crash keeps
abbrev pub step_in : KeptForm → Option KeptStep
step_in NothingKept = None
step_in (TakeKept message) = Some Took
step_in (BeginKept count mode) = Some Began

-- the step that a node keeps
abbrev pub kept_of : ℕ → KeptForm → Result (Option Kept) Reason
kept_of number_of_node NothingKept = Ok None
kept_of number_of_node (TakeKept message) = do
  m ← number message
  Ok (Some (kept.Take m))
kept_of number_of_node (BeginKept count mode) = do
  n ← round_count count
  Ok (Some (kept.Begin (round_of number_of_node n mode)))

-- a crash of this node
abbrev pub fall_of : Node → KeptForm → Result Item Reason
fall_of node form =
    if may_fall node (step_in form) then (kept_of (node_number node) form >>= (λ kept. Ok (Fall node kept))) else Err BadFall

-- what an offer of these words says in a language
unfoldable pub offer_of : Language → Counts → List ℕ → List (List ℕ) → Result Item Reason
offer_of language c node words = do
  said ← ok_or (language words) BadLine
  proposer ← proposer_of c node
  draft ← or_reason said
  Ok (Offer proposer draft)

-- what a line says that is neither the `nodes` line nor an offer
unfoldable pub plain_item_of : Counts → Form → Result Item Reason
plain_item_of c (NodesLine acceptors coordinators learners) = Err BadLine
plain_item_of c (OfferLine node words) = Err BadLine
plain_item_of c (BeginLine node count mode) = do
  coordinator ← coordinator_of c node
  n ← round_count count
  Ok (Begin coordinator (round_of coordinator n mode))
plain_item_of c (TakeLine node message) = do
  n ← node_of c node
  m ← number message
  Ok (Take n m)
plain_item_of c (FallLine node form) = do
  n ← node_of c node
  fall_of n form
plain_item_of c (ShowLine node) = do
  learner ← learner_of c node
  Ok (Show learner)

-- what a line after the `nodes` line says in a language
abbrev pub item_of : Language → Counts → Form → Result Item Reason
item_of language c (NodesLine acceptors coordinators learners) = Err BadLine
item_of language c (OfferLine node words) = offer_of language c node words
item_of language c (BeginLine node count mode) = plain_item_of c (BeginLine node count mode)
item_of language c (TakeLine node message) = plain_item_of c (TakeLine node message)
item_of language c (FallLine node form) = plain_item_of c (FallLine node form)
item_of language c (ShowLine node) = plain_item_of c (ShowLine node)

-- what the `nodes` line says
unfoldable pub counts_of : Form → Result Counts Reason
counts_of (NodesLine acceptors coordinators learners) = do
  a ← count_of 3 7 acceptors
  c ← count_of 1 5 coordinators
  l ← count_of 1 4 learners
  Ok (record { acceptors = a; coordinators = c; learners = l })
counts_of (OfferLine node words) = Err BadLine
counts_of (BeginLine node count mode) = Err BadLine
counts_of (TakeLine node message) = Err BadLine
counts_of (FallLine node form) = Err BadLine
counts_of (ShowLine node) = Err BadLine
