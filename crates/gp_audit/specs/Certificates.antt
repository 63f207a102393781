-- Certificates: by which record a learner came to hold a command, and why.
use Rattle.std.specs.Prelude.{◌≡◌, ◌<◌, ◌≤◌, ◌^◌, ℕ, true, false, List, [], ◌∷◌, ◌++◌, length, slice_get, Option, Some}
use Rattle.gp_command.specs.declared.command.Command.{Command}
use Rattle.gp_history.specs.History.{History, has}
use Rattle.gp_history.specs.Canonical.{canonical}
use Rattle.gp_round.specs.declared.round.Mode.{Mode}
use Rattle.gp_round.specs.declared.round.Round.{Round}
use Rattle.gp_round.specs.Counts.{Counts}
use Rattle.gp_round.specs.Configs.{quorum_size}
use Rattle.gp_round.specs.Sets.{bit, members}
use Rattle.gp_safe.specs.Meets.{quorum_meet, everyone}
use Rattle.gp_msg.specs.declared.node.Node.TheVariants.{Learner}
use Rattle.gp_msg.specs.declared.event.Event.TheVariants.{Take}
use Rattle.gp_msg.specs.Messages.{Voted, InEpoch, Final, Entry}
use Rattle.gp_learner.specs.Table.{vote_of, votes_with}
use Rattle.gp_learner.specs.Epochs.{LearnerInEpoch}
use Rattle.gp_run.specs.Messages.{messages}
use Rattle.gp_run.specs.States.{learner_at}
use Rattle.gp_run.specs.Learned.{learned_at, epoch_at}
use Rattle.gp_run.specs.Agreement.{StaysUp}
use Rattle.gp_audit.specs.declared.proof.Proof.{Proof}
use Rattle.gp_audit.specs.declared.proof.Cause.{Cause}
use Rattle.gp_audit.specs.declared.proof.Cause.TheVariants as cause

-- ---- quorums

-- mask is a quorum of the least size of n acceptors in a round of this mode; their votes are all held, and the meet of these votes has c
pub record IsWholeQuorum (n : ℕ) (mode : Mode) (held : ℕ → Option History) (c : Command) (mask : ℕ) : Type 0 where
  pub below : mask < 2 ^ n
  pub size : members (bit mask) n ≡ quorum_size n mode
  pub met : History
  pub whole : quorum_meet held everyone n mask ≡ Some met
  pub there : has met c ≡ true

-- mask is the least such mask
pub record IsLeastQuorum (n : ℕ) (mode : Mode) (held : ℕ → Option History) (c : Command) (mask : ℕ) : Type 0 where
  pub whole : IsWholeQuorum n mode held c mask
  pub least : (m : ℕ) → IsWholeQuorum n mode held c m → mask ≤ m

-- the votes of round r that a learner in this state holds after it takes this one
abbrev pub votes_then : LearnerInEpoch → Round → ℕ → History → ℕ → Option History
votes_then s r a v = vote_of (votes_with s.state.votes r a v) r

-- learner l took the vote v of acceptor a in round r of epoch e while it was in e, and has not crashed since
pub record HasTaken (config : Counts) (es : List Entry) (l e : ℕ) (r : Round) (a : ℕ) (v : History) : Type 0 where
  pub later : List Entry
  pub entry : Entry
  pub earlier : List Entry
  pub parts : later ++ entry ∷ earlier ≡ es
  pub message : ℕ
  pub takes : entry.event ≡ Take (Learner l) message
  pub vote : slice_get (messages earlier) message ≡ Some (InEpoch e (Voted r a v))
  pub epoch : epoch_at config l earlier ≡ e
  pub up : StaysUp l later

-- ---- causes

-- learner l is in epoch e, and the vote of round r that it takes completes the quorum; of each member, l took a vote of the round that has c
pub record IsQuorumCause (config : Counts) (l : ℕ) (c : Command) (entry : Entry) (earlier : List Entry) (message e : ℕ) (r : Round) (mask : ℕ) : Type 0 where
  pub epoch : epoch_at config l earlier ≡ e
  pub acceptor : ℕ
  pub vote : History
  pub there : slice_get (messages earlier) message ≡ Some (InEpoch e (Voted r acceptor vote))
  pub least : IsLeastQuorum config.acceptors r.mode (votes_then (learner_at config l earlier) r acceptor vote) c mask
  pub taken : (a : ℕ) → a < config.acceptors → bit mask a ≡ true → (v : History) × HasTaken config (entry ∷ earlier) l e r a v × (has v c ≡ true)

-- a Final of the epoch of learner l; its value has c
pub record IsFinalCause (config : Counts) (l : ℕ) (c : Command) (earlier : List Entry) (message number : ℕ) : Type 0 where
  pub is : message ≡ number
  pub sender : ℕ
  pub value : History
  pub there : slice_get (messages earlier) number ≡ Some (Final (epoch_at config l earlier) sender value)
  pub has_it : has value c ≡ true

-- the message that learner l takes in this entry is the cause
abbrev pub IsCause : Counts → ℕ → Command → Entry → List Entry → ℕ → Cause → Type 0
IsCause config l c entry earlier message (cause.Quorum e r mask) = IsQuorumCause config l c entry earlier message e r mask
IsCause config l c entry earlier message (cause.Final number) = IsFinalCause config l c earlier message number

-- ---- certificates

-- p is the certificate of c: learner l came to hold c by its record, has not crashed since, and took the message that is its cause in that record
pub record IsProof (config : Counts) (es : List Entry) (l : ℕ) (c : Command) (p : Proof) : Type 0 where
  pub later : List Entry
  pub entry : Entry
  pub earlier : List Entry
  pub parts : later ++ entry ∷ earlier ≡ es
  pub id : p.id ≡ c.id
  pub place : p.at ≡ length earlier
  pub up : StaysUp l later
  pub lacked : has (learned_at config l earlier) c ≡ false
  pub holds : has (learned_at config l (entry ∷ earlier)) c ≡ true
  pub message : ℕ
  pub takes : entry.event ≡ Take (Learner l) message
  pub cause : IsCause config l c entry earlier message p.cause

-- one certificate for each command, in their order
abbrev pub AreProofsOf : Counts → List Entry → ℕ → List Command → List Proof → Type 0
AreProofsOf config es l [] [] = Unit {0}
AreProofsOf config es l [] (p ∷ ps) = ⊥
AreProofsOf config es l (c ∷ cs) [] = ⊥
AreProofsOf config es l (c ∷ cs) (p ∷ ps) = IsProof config es l c p × AreProofsOf config es l cs ps

-- one certificate for each command that learner l shows, in canonical order
abbrev pub AreProofs : Counts → List Entry → ℕ → List Proof → Type 0
AreProofs config es l ps = AreProofsOf config es l (canonical (learned_at config l es)) ps
