-- Calls that ask an adapting coordinator for its next round, one after another.
use Rattle.std.specs.Prelude.{◌≡◌, ◌≤◌, ℕ, Bool, false, ◌&&◌, nat_lt, List, [], ◌∷◌, count_by, Option, Some}
use Rattle.std.specs.Option.{is_some}
use Rattle.gp_round.specs.declared.round.Mode.TheVariants.{Single}
use Rattle.gp_round.specs.declared.round.Round.{Round}
use Rattle.gp_round.specs.declared.config.TheConstants.{LAST_COUNT}
use Rattle.gp_adapt.specs.declared.scene.TheConstants.{MOST_CLASHES}
use Rattle.gp_adapt.specs.Courses.{CourseState, moved, begins, returns}

-- a call: the highest round, whether there was a collision, and the round that was returned
pub record Call : Type 0 where
  pub highest : Round
  pub clashed : Bool
  pub answer : Option Round

-- a round is returned exactly if the call begins one and a count is left, and after the most collisions it is a single one
pub record IsAnswered (s : CourseState) (c : Call) : Type 0 where
  pub some : is_some c.answer ≡ (begins s c.clashed && nat_lt c.highest.count LAST_COUNT)
  pub single : MOST_CLASHES ≤ (moved s c.clashed).clashes → (r : Round) → c.answer ≡ Some r → r.mode ≡ Single

-- each call returns a round or none as its course says; the first call is at this course
abbrev pub AreAnswered : CourseState → List Call → Type 0
AreAnswered s [] = Unit {0}
AreAnswered s (c ∷ cs) = IsAnswered s c × AreAnswered (moved s c.clashed) cs

-- the course after these calls
abbrev pub course_after : CourseState → List Call → CourseState
course_after s [] = s
course_after s (c ∷ cs) = course_after (moved s c.clashed) cs

-- none of these calls returns the count of collisions to 0
abbrev pub NoneReturns : CourseState → List Call → Type 0
NoneReturns s [] = Unit {0}
NoneReturns s (c ∷ cs) = (returns s c.clashed ≡ false) × NoneReturns (moved s c.clashed) cs

-- how many of the calls returned a round
abbrev pub answers_in : List Call → ℕ
answers_in cs = count_by (λ c. is_some c.answer) cs

-- how many of the calls reported a collision
abbrev pub clashes_in : List Call → ℕ
clashes_in cs = count_by (λ c. c.clashed) cs
