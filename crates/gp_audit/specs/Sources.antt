-- The causes that a source gives, and the proof of a command among others.
use Rattle.std.specs.Prelude.{ℕ, Bool, cond, ◌&&◌, nat_eq, List, [], ◌∷◌, Option, Some, None}
use Rattle.std.specs.Option.{option_map}
use Rattle.gp_command.specs.declared.command.Command.{Command}
use Rattle.gp_command.specs.declared.command.CommandId.{CommandId}
use Rattle.gp_history.specs.History.{has}
use Rattle.gp_history.specs.Sequence.{history_of}
use Rattle.gp_audit.specs.declared.proof.Proof.{Proof}
use Rattle.gp_audit.specs.declared.proof.Cause.{Cause}
use Rattle.gp_audit.specs.declared.proof.Cause.TheVariants as cause
use Rattle.gp_audit.specs.declared.source.Source.{Source}
use Rattle.gp_audit.specs.declared.source.Source.TheVariants.{Vote, Final}

-- the first of these quorums whose meet, given as a sequence, has the command
abbrev pub first_in : List (ℕ × List Command) → Command → Option ℕ
first_in [] c = None
first_in (q ∷ qs) c = cond (has (history_of q.1) c) (Some q.0) (first_in qs c)

-- the cause of a new command, if the source brought it
abbrev pub source_cause : Source → Command → Option Cause
source_cause (Vote e r qs) c = option_map (λ mask. cause.Quorum e r mask) (first_in qs.items c)
source_cause (Final k) c = Some (cause.Final k)

-- the two identities are equal
abbrev pub same_id : CommandId → CommandId → Bool
same_id i j = nat_eq i.proposer j.proposer && nat_eq i.number j.number

-- the first proof of the command with this identity
abbrev pub proof_under : CommandId → List Proof → Option Proof
proof_under id [] = None
proof_under id (p ∷ ps) = cond (same_id p.id id) (Some p) (proof_under id ps)
