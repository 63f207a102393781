-- Which round a caller that adapts may call for what was seen.
use Rattle.std.specs.Prelude.{◌≡◌, ◌↔◌, ◌<◌, ◌≤◌, ◌⊎◌, ℕ, ◌+◌, Bool, true, false, cond, nat_eq, List, [], ◌∷◌, Option, Some, None, IsTrue, IfSome}
use Rattle.std.specs.Coded.{Coded-set}
use Rattle.std.proofs.Props.{props}
use Rattle.gp_round.specs.Counts.{Counts}
use Rattle.gp_round.specs.Configs.{lead_of}
use Rattle.gp_round.specs.Rounds.{round_zero}
use Rattle.gp_round.specs.declared.round.Mode.{Mode}
use Rattle.gp_round.specs.declared.round.Mode.TheVariants.{Single, Multi, Fast}
use Rattle.gp_round.specs.declared.round.Round.{Round}
use Rattle.gp_msg.specs.declared.node.Node.{Node}
use Rattle.gp_msg.specs.declared.record.Record.{Record}
use Rattle.gp_run.specs.Messages.{messages}
use Rattle.gp_run.specs.Runs.{newest_first}
use Rattle.gp_collide.specs.Watched.{Watched, watched}
use Rattle.gp_collide.specs.Clashes.{HasClash}
use Rattle.gp_adapt.specs.Courses.{CourseState}
use Rattle.gp_adapt.specs.Codes.{course_code}
use Rattle.gp_adapt.specs.Courses as courses
use Rattle.gp_phase.specs.declared.caller.Call.{Call}
use Rattle.gp_caller.specs.declared.policy.TheConstants.{LEADER, FIRST_FAST_ROUND, CALM}
use Rattle.gp_round.specs.declared.config.TheConstants.{LAST_COUNT}
use Rattle.gp_caller.specs.Standing.{StandsIn}
pub use Rattle.gp_adapt.specs.Choices.{mode_after, AnswersModes}

-- the first of two that is there
abbrev pub first_there : Option Round → Option Round → Option Round
first_there None o = o
first_there (Some r) o = Some r

-- the round that was called last for an epoch
abbrev pub last_for : ℕ → List Call → Option Round
last_for e [] = None
last_for e (c ∷ cs) = first_there (last_for e cs) (cond (nat_eq c.epoch e) (Some c.round) None)

-- round zero, if no round was called
abbrev pub or_zero : Option Round → Round
or_zero None = round_zero
or_zero (Some r) = r

-- in which mode a round may follow one of this mode: multi after a collision in a fast round, single after a collision in a multi round, and fast after a round that is not fast and has not collided. A single round may also follow a single round that has collided, which none does in a legal run
abbrev pub NextMode : Mode → Bool → Mode → Type 0
NextMode Fast clashed next = (clashed ≡ true) × (next ≡ Multi)
NextMode Multi clashed next = ((clashed ≡ true) × (next ≡ Single)) ⊎ ((clashed ≡ false) × (next ≡ Fast))
NextMode Single clashed next = ((clashed ≡ true) × (next ≡ Single)) ⊎ ((clashed ≡ false) × (next ≡ Fast))

-- the round is the leader's, and its count is the one after that of another round
pub record IsNext (q : Round) (clashed : Bool) (r : Round) : Type 0 where
  pub count : r.count ≡ q.count + 1
  pub lead : r.lead ≡ lead_of r.mode LEADER
  pub mode : NextMode q.mode clashed r.mode

-- the round may be called after the one that was called last, given whether that one has collided. The first round of an epoch is fast
abbrev pub MayFollow : Option Round → Bool → Round → Type 0
MayFollow None clashed r = r ≡ FIRST_FAST_ROUND
MayFollow (Some q) clashed r = IsNext q clashed r

-- no round need be called after the one that was called last: it has not collided, or no count is left
abbrev pub MayRest : Option Round → Bool → Type 0
MayRest None clashed = ⊥
MayRest (Some q) clashed = q.count < LAST_COUNT → clashed ≡ false

-- what may be called, in an epoch, after the round that was called last for it
abbrev pub MayCall : ℕ → Option Round → Bool → Option Call → Type 0
MayCall e last clashed None = MayRest last clashed
MayCall e last clashed (Some c) = (c.epoch ≡ e) × MayFollow last clashed c.round

-- what may be called, after these calls, for a coordinator that has seen these records: it depends on the coordinator's epoch, on the round that was called last for that epoch, and on whether that round has collided
pub record IsAdapted (config : Counts) (node : Node) (calls : List Call) (seen : List Record) (call : Option Call) : Type 0 where
  pub epoch : ℕ
  pub own : Round
  pub stands : StandsIn config node seen epoch own
  pub clashed : Bool
  pub clash : IsTrue clashed ↔ HasClash (watched (epoch, or_zero (last_for epoch calls)) (messages (newest_first seen)))
  pub may : MayCall epoch (last_for epoch calls) clashed call

-- the watch is over the round that was called last for its epoch
abbrev pub IsOverLast : Watched → List Call → Type 0
IsOverLast w calls = w.round.1 ≡ or_zero (last_for w.round.0 calls)

-- what may be called, after these calls, in the epoch of a watch over the round that was called last for it
pub record Follows (w : Watched) (calls : List Call) (call : Option Call) : Type 0 where
  pub clashed : Bool
  pub clash : IsTrue clashed ↔ HasClash w
  pub may : MayCall w.round.0 (last_for w.round.0 calls) clashed call

-- ---- the course that a caller remembers

-- how many collisions lead to a round of this mode
abbrev pub clashes_before : Mode → ℕ
clashes_before Fast = 0
clashes_before Multi = 1
clashes_before Single = 2

-- the course is that of an epoch in which this round was called last: the mode of the round is the one for the number of collisions, unless no count was left for another round
abbrev pub IsInCourse : CourseState → Option Round → Type 0
IsInCourse s None = s ≡ courses.opening CALM
IsInCourse s (Some r) = (s.calm ≡ CALM) × (s.begun ≡ true) × (0 < r.count) × (r.count < LAST_COUNT → s.clashes ≡ clashes_before r.mode)

-- there is at most one proof of it
pub in_course_prop : (s : CourseState) (o : Option Round) → IsProp (IsInCourse s o)
in_course_prop s None = Coded-set course_code s (courses.opening CALM)
in_course_prop s (Some r) = hlevel props

-- ---- looks

-- the course at a look in an epoch, after a look in an epoch that may be another: in another one it begins anew
abbrev pub course_at : ℕ → ℕ → CourseState → CourseState
course_at before epoch s = cond (nat_eq epoch before) s (courses.opening s.calm)

-- a fast round, unless it is the first round of an epoch, is called after so many looks in a row without a collision that they make a calm, this one among them. The course counts them anew after each collision, and so from the call of each round that is not fast
abbrev pub ComesAtCalm : CourseState → Bool → Call → Type 0
ComesAtCalm s clashed call = s.begun ≡ true → call.round.mode ≡ Fast → (clashed ≡ false) × (CALM ≤ s.quiet + 1)

-- one look, at this course and with this watch: the course counts it once, and what is called is what the course begins
pub record IsOneLook (s : CourseState) (w : Watched) (after : CourseState) (call : Option Call) : Type 0 where
  pub clashed : Bool
  pub clash : IsTrue clashed ↔ HasClash w
  pub course : after ≡ courses.moved s clashed
  pub begun : IfSome call (λ c. courses.begins s clashed ≡ true)
  pub calm : IfSome call (ComesAtCalm s clashed)
