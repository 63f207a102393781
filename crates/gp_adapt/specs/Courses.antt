-- What an adapting coordinator remembers of its calls, and when a call begins a round.
use Rattle.std.specs.Prelude.{ℕ, ◌+◌, Bool, true, false, cond, not, ◌&&◌, ◌||◌, nat_le, nat_lt, min}
use Rattle.gp_adapt.specs.declared.scene.TheConstants.{MOST_CLASHES}
use Rattle.gp_adapt.specs.declared.scene.Scene.{Scene}

-- how many calls without a collision make a calm; whether there was a call; the collisions since their count last returned to 0, up to MOST_CLASHES; the calls without a collision since the last collision or the last calm
pub record CourseState : Type 0 where
  pub calm : ℕ
  pub begun : Bool
  pub clashes : ℕ
  pub quiet : ℕ

-- before the first call
abbrev pub opening : ℕ → CourseState
opening calm = record { calm = calm; begun = false; clashes = 0; quiet = 0 }

-- what the closure is given
abbrev pub scene_of : CourseState → Scene
scene_of s = record { clashes = s.clashes; quiet = s.quiet }

-- one more call without a collision makes a calm
abbrev pub is_calm_next : CourseState → Bool
is_calm_next s = nat_le s.calm (s.quiet + 1)

-- after the first call, whatever it reported
abbrev pub after_first : CourseState → CourseState
after_first s = record s { begun = true }

-- after a collision
abbrev pub after_clash : CourseState → CourseState
after_clash s = record s { clashes = min MOST_CLASHES (s.clashes + 1); quiet = 0 }

-- after a call without a collision: a calm returns the count of collisions to 0
abbrev pub after_quiet : CourseState → CourseState
after_quiet s = cond (is_calm_next s) (record s { clashes = 0; quiet = 0 }) (record s { quiet = s.quiet + 1 })

-- after a call that reported whether there was a collision
abbrev pub moved : CourseState → Bool → CourseState
moved s clashed = cond s.begun (cond clashed (after_clash s) (after_quiet s)) (after_first s)

-- the call returns the count of collisions to 0: it is one without a collision that makes a calm, and the count was not 0
abbrev pub returns : CourseState → Bool → Bool
returns s clashed = s.begun && not clashed && is_calm_next s && nat_lt 0 s.clashes

-- the call begins a round: it is the first one, it reports a collision, or it returns the count of collisions to 0
abbrev pub begins : CourseState → Bool → Bool
begins s clashed = not s.begun || clashed || returns s clashed
