-- What is wrong with a line of the table that is refused: its first token that breaks its rule.
use Rattle.std.specs.Prelude.{◌≡◌, ◌≢◌, ◌⊎◌, ℕ, ◌<◌, ◌≤◌, ◌^◌, List, Some, None, Err, IsTrue, decimal}
use Rattle.gp_round.specs.Counts.{Counts}
use Rattle.gp_round.specs.declared.config.TheConstants.{LAST_COUNT}
use Rattle.gp_msg.specs.declared.node.Node.{Node}
use Rattle.gp_msg.specs.declared.node.Node.TheVariants.{Proposer, Coordinator, Learner}
use Rattle.gp_msg.specs.Nodes.{is_present, may_fall}
use Rattle.gp_store.specs.declared.form.OpFault.{OpFault}
use Rattle.gp_service.specs.Languages.{Language}
use Rattle.gp_script.specs.declared.reason.Reason.{Reason}
use Rattle.gp_script.specs.declared.reason.Reason.TheVariants.{BadLine, BadNumber, BadCount, NoNode, BadFall}
use Rattle.gp_script.specs.Reasons.{fault_reason}
use Rattle.gp_script.specs.Spelling.{node_word}
use Rattle.gp_script.specs.Items.{step_in}
use Rattle.gp_script.specs.Forms.{Form, NodesLine, OfferLine, BeginLine, TakeLine, FallLine, ShowLine, KeptForm, NothingKept, TakeKept, BeginKept}

-- ---- the rules of tokens

-- the token is the spelling of a number below 2^64
abbrev pub IsNumberWord : List ℕ → Type 0
IsNumberWord token = (n : ℕ) × (token ≡ decimal n) × (n < 2 ^ 64)

-- the token is the spelling of a number from low to high
abbrev pub IsCountWord : ℕ → ℕ → List ℕ → Type 0
IsCountWord low high token = (n : ℕ) × (token ≡ decimal n) × (low ≤ n) × (n ≤ high)

-- the token is the letter and the number of a node of the configuration
abbrev pub IsNodeWord : Counts → List ℕ → Type 0
IsNodeWord c token = (node : Node) × (token ≡ node_word node) × IsTrue (is_present c node)

abbrev pub IsProposerWord : Counts → List ℕ → Type 0
IsProposerWord c token = (n : ℕ) × (token ≡ node_word (Proposer n)) × IsTrue (is_present c (Proposer n))

abbrev pub IsCoordinatorWord : Counts → List ℕ → Type 0
IsCoordinatorWord c token = (n : ℕ) × (token ≡ node_word (Coordinator n)) × IsTrue (is_present c (Coordinator n))

abbrev pub IsLearnerWord : Counts → List ℕ → Type 0
IsLearnerWord c token = (n : ℕ) × (token ≡ node_word (Learner n)) × IsTrue (is_present c (Learner n))

-- ---- the first rule that is broken

-- a token breaks its rule, and the reason is that of the rule
abbrev pub BreaksRule : Type 0 → Reason → Reason → Type 0
BreaksRule rule why reason = (¬ rule) × (reason ≡ why)

-- the token breaks its rule, or it keeps the rule and a later token breaks one
abbrev pub BreaksFirst : Type 0 → Reason → Reason → Type 0 → Type 0
BreaksFirst rule why reason later = BreaksRule rule why reason ⊎ (rule × later)

-- the token is no number, or a number that is out of range
abbrev pub BreaksCount : ℕ → ℕ → List ℕ → Reason → Type 0
BreaksCount low high token reason = BreaksFirst (IsNumberWord token) BadNumber reason (BreaksRule (IsCountWord low high token) BadCount reason)

-- a token of what a crash keeps breaks its rule
abbrev pub BreaksKept : KeptForm → Reason → Type 0
BreaksKept NothingKept reason = ⊥
BreaksKept (TakeKept message) reason = BreaksRule (IsNumberWord message) BadNumber reason
BreaksKept (BeginKept count mode) reason = BreaksCount 1 LAST_COUNT count reason

-- the words of an operation have a fault, and the first one gives the reason
abbrev pub BreaksWords : Language → List (List ℕ) → Reason → Type 0
BreaksWords language words reason = (fault : OpFault) × (language words ≡ Some (Err fault)) × (reason ≡ fault_reason fault)

-- the node cannot crash in this way, or else a token of what it keeps breaks its rule
abbrev pub BreaksFall : List ℕ → KeptForm → Reason → Type 0
BreaksFall token form reason = (node : Node) × (token ≡ node_word node) × BreaksFirst (IsTrue (may_fall node (step_in form))) BadFall reason (BreaksKept form reason)

-- the tokens of a line after the `nodes` line, from left to right. That no operation has such words comes before the proposer
abbrev pub BreaksLine : Language → Counts → Form → Reason → Type 0
BreaksLine language c (NodesLine acceptors coordinators learners) reason = reason ≡ BadLine
BreaksLine language c (OfferLine node words) reason = BreaksFirst (language words ≢ None) BadLine reason (BreaksFirst (IsProposerWord c node) NoNode reason (BreaksWords language words reason))
BreaksLine language c (BeginLine node count mode) reason = BreaksFirst (IsCoordinatorWord c node) NoNode reason (BreaksCount 1 LAST_COUNT count reason)
BreaksLine language c (TakeLine node message) reason = BreaksFirst (IsNodeWord c node) NoNode reason (BreaksRule (IsNumberWord message) BadNumber reason)
BreaksLine language c (FallLine node form) reason = BreaksFirst (IsNodeWord c node) NoNode reason (BreaksFall node form reason)
BreaksLine language c (ShowLine node) reason = BreaksRule (IsLearnerWord c node) NoNode reason

-- the three numbers of a `nodes` line, from left to right
abbrev pub BreaksCounts : Form → Reason → Type 0
BreaksCounts (NodesLine acceptors coordinators learners) reason =
    BreaksCount 3 7 acceptors reason ⊎ (IsCountWord 3 7 acceptors × (BreaksCount 1 5 coordinators reason ⊎ (IsCountWord 1 5 coordinators × BreaksCount 1 4 learners reason)))
BreaksCounts (OfferLine node words) reason = reason ≡ BadLine
BreaksCounts (BeginLine node count mode) reason = reason ≡ BadLine
BreaksCounts (TakeLine node message) reason = reason ≡ BadLine
BreaksCounts (FallLine node form) reason = reason ≡ BadLine
BreaksCounts (ShowLine node) reason = reason ≡ BadLine
