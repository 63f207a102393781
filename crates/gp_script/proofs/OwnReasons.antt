-- A line of a script is refused for a reason of scripts, and not for one of a report.
use Rattle.std.proofs.Common.{◌≡◌, ◌≢◌, ◌⊎◌, inl, inr, ℕ, false, List, None, refl, ap, ◌∙◌}
use Rattle.std.specs.Prelude.{IsTrue}
use Rattle.gp_round.specs.Counts.{Counts}
use Rattle.gp_round.specs.declared.config.TheConstants.{LAST_COUNT}
use Rattle.gp_msg.specs.Nodes.{may_fall}
use Rattle.gp_store.specs.declared.form.OpFault.{OpFault}
use Rattle.gp_store.specs.declared.form.OpFault.TheVariants as fault
use Rattle.gp_service.specs.Languages.{Language}
use Rattle.gp_script.specs.declared.reason.Reason.{Reason}
use Rattle.gp_script.specs.declared.reason.Reason.TheVariants.{BadLine, BadNumber, BadCount, NoNode, BadFall}
use Rattle.gp_script.specs.Reasons.{fault_reason, is_of_report}
use Rattle.gp_script.specs.Items.{step_in}
use Rattle.gp_script.specs.Forms.{Form, NodesLine, OfferLine, BeginLine, TakeLine, FallLine, ShowLine, KeptForm, NothingKept, TakeKept, BeginKept}
use Rattle.gp_script.specs.Broken.{IsNumberWord, IsCountWord, IsNodeWord, IsProposerWord, IsCoordinatorWord, IsLearnerWord, BreaksRule, BreaksFirst, BreaksCount, BreaksKept, BreaksWords, BreaksFall, BreaksLine, BreaksCounts}

abbrev pub Own : Reason → Type 0
Own reason = is_of_report reason ≡ false

pub is_own : (why reason : Reason) → Own why → reason ≡ why → Own reason
is_own why reason own e = ap is_of_report e ∙ own

rule_own : (rule : Type 0) (why reason : Reason) → Own why → BreaksRule rule why reason → Own reason
rule_own rule why reason own b = is_own why reason own b.1

first_own : (rule later : Type 0) (why reason : Reason) → Own why → (later → Own reason) → BreaksFirst rule why reason later → Own reason
first_own rule later why reason own go (inl b) = is_own why reason own b.1
first_own rule later why reason own go (inr b) = go b.1

count_own : (low high : ℕ) (token : List ℕ) (reason : Reason) → BreaksCount low high token reason → Own reason
count_own low high token reason =
    first_own (IsNumberWord token) (BreaksRule (IsCountWord low high token) BadCount reason) BadNumber reason refl (rule_own (IsCountWord low high token) BadCount reason refl)

kept_own : (form : KeptForm) (reason : Reason) → BreaksKept form reason → Own reason
kept_own NothingKept reason b = absurd b
kept_own (TakeKept message) reason b = rule_own (IsNumberWord message) BadNumber reason refl b
kept_own (BeginKept count mode) reason b = count_own 1 LAST_COUNT count reason b

fault_own : (fault_is : OpFault) → Own (fault_reason fault_is)
fault_own fault.BadKey = refl
fault_own fault.BadNumber = refl

words_own : (language : Language) (words : List (List ℕ)) (reason : Reason) → BreaksWords language words reason → Own reason
words_own language words reason b = is_own (fault_reason b.0) reason (fault_own b.0) b.2

fall_own : (token : List ℕ) (form : KeptForm) (reason : Reason) → BreaksFall token form reason → Own reason
fall_own token form reason b = first_own (IsTrue (may_fall b.0 (step_in form))) (BreaksKept form reason) BadFall reason refl (kept_own form reason) b.2

-- a line after the `nodes` line
pub line_own : (language : Language) (c : Counts) (form : Form) (reason : Reason) → BreaksLine language c form reason → Own reason
line_own language c (NodesLine acceptors coordinators learners) reason b = is_own BadLine reason refl b
line_own language c (OfferLine node words) reason b =
    first_own (language words ≢ None) (BreaksFirst (IsProposerWord c node) NoNode reason (BreaksWords language words reason)) BadLine reason refl
    (first_own (IsProposerWord c node) (BreaksWords language words reason) NoNode reason refl (words_own language words reason)) b
line_own language c (BeginLine node count mode) reason b = first_own (IsCoordinatorWord c node) (BreaksCount 1 LAST_COUNT count reason) NoNode reason refl (count_own 1 LAST_COUNT count reason) b
line_own language c (TakeLine node message) reason b = first_own (IsNodeWord c node) (BreaksRule (IsNumberWord message) BadNumber reason) NoNode reason refl (rule_own (IsNumberWord message) BadNumber reason refl) b
line_own language c (FallLine node form) reason b = first_own (IsNodeWord c node) (BreaksFall node form reason) NoNode reason refl (fall_own node form reason) b
line_own language c (ShowLine node) reason b = rule_own (IsLearnerWord c node) NoNode reason refl b

-- a `nodes` line
pub counts_own : (form : Form) (reason : Reason) → BreaksCounts form reason → Own reason
counts_own (NodesLine acceptors coordinators learners) reason (inl b) = count_own 3 7 acceptors reason b
counts_own (NodesLine acceptors coordinators learners) reason (inr (a, inl b)) = count_own 1 5 coordinators reason b
counts_own (NodesLine acceptors coordinators learners) reason (inr (a, inr (c, b))) = count_own 1 4 learners reason b
counts_own (OfferLine node words) reason b = is_own BadLine reason refl b
counts_own (BeginLine node count mode) reason b = is_own BadLine reason refl b
counts_own (TakeLine node message) reason b = is_own BadLine reason refl b
counts_own (FallLine node form) reason b = is_own BadLine reason refl b
counts_own (ShowLine node) reason b = is_own BadLine reason refl b
