-- The text of certificates.
use Rattle.std.specs.Prelude.{◌≡◌, ℕ, suc, List, [], ◌++◌, codes, decimal}
use Rattle.std.specs.List.{flat_map}
use Rattle.gp_command.specs.declared.command.CommandId.{CommandId}
use Rattle.gp_round.specs.Counts.{Counts}
use Rattle.gp_msg.specs.Messages.{Entry}
use Rattle.gp_report.specs.Texts.{identity}
use Rattle.gp_text.specs.Logs.{dotted_round}
use Rattle.gp_audit.specs.declared.proof.Proof.{Proof}
use Rattle.gp_audit.specs.declared.proof.Cause.{Cause}
use Rattle.gp_audit.specs.declared.proof.Cause.TheVariants as cause
use Rattle.gp_audit.specs.Certificates.{AreProofs}

-- what a learner took: a vote that completed a quorum, or a Final message
abbrev pub cause_words : Cause → List ℕ
cause_words (cause.Quorum epoch round mask) =
    codes " epoch " ++ decimal epoch ++ codes " round " ++ dotted_round round ++ codes " quorum " ++ decimal mask
cause_words (cause.Final message) = codes " final " ++ decimal message

-- a learner and its command
abbrev pub name_words : ℕ → CommandId → List ℕ
name_words learner id = codes "l" ++ decimal learner ++ codes " " ++ identity id

-- the line of a certificate of this learner
abbrev pub proof_line : ℕ → Proof → List ℕ
proof_line learner proof = name_words learner proof.id ++ codes " at " ++ decimal proof.at ++ cause_words proof.cause ++ codes "\n"

-- a line for each certificate of this learner
abbrev pub proof_lines : ℕ → List Proof → List ℕ
proof_lines learner proofs = flat_map (proof_line learner) proofs

-- the lines of the certificates of a learner's commands, in canonical order
pub record AreProofLines (config : Counts) (run : List Entry) (learner : ℕ) (text : List ℕ) : Type 0 where
  pub proofs : List Proof
  pub certified : AreProofs config run learner proofs
  pub written : text ≡ proof_lines learner proofs

-- the lines of the certificates of this many first learners, one learner after another
pub data AreFirstLines (config : Counts) (run : List Entry) : ℕ → List ℕ → Type 0 where
  NoLearner : AreFirstLines config run 0 []
  OneMore : (count : ℕ) (text lines : List ℕ) → AreFirstLines config run count text → AreProofLines config run count lines → AreFirstLines config run (suc count) (text ++ lines)

-- the word `legal`, and the certificates of all learners
pub record IsCertified (config : Counts) (run : List Entry) (text : List ℕ) : Type 0 where
  pub lines : List ℕ
  pub certified : AreFirstLines config run config.learners lines
  pub written : text ≡ codes "legal\n" ++ lines
