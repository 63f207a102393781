-- What is required of the closure of an adapting coordinator.
use Rattle.std.specs.Prelude.{◌≡◌, ◌≤◌, ℕ, cond, nat_eq}
use Rattle.std.specs.Borrow.{Bor}
use Rattle.gp_round.specs.declared.round.Mode.{Mode}
use Rattle.gp_round.specs.declared.round.Mode.TheVariants.{Single, Multi, Fast}
use Rattle.gp_adapt.specs.declared.scene.TheConstants.{MOST_CLASHES}
use Rattle.gp_adapt.specs.declared.scene.Scene.{Scene}
use Rattle.gp_adapt.specs.Courses.{CourseState, scene_of}

-- it may be called on every scene
abbrev pub TakesScenes : (Bor Scene → Type 0) → Type 0
TakesScenes pre = (s : Bor Scene) → pre s

-- it returns a single round after two or more collisions
abbrev pub AnswersSingleRounds : (Bor Scene → Mode → Type 0) → Type 0
AnswersSingleRounds post = (s : Bor Scene) (m : Mode) → MOST_CLASHES ≤ s.now.clashes → post s m → m ≡ Single

-- the mode of the next round, after n collisions
abbrev pub mode_after : ℕ → Mode
mode_after n = cond (nat_eq n 0) Fast (cond (nat_eq n 1) Multi Single)

-- it returns the mode after the collisions that it is given
abbrev pub AnswersModes : (Bor Scene → Mode → Type 0) → Type 0
AnswersModes post = (s : Bor Scene) (m : Mode) → post s m → m ≡ mode_after s.now.clashes

-- it returns this mode at the scene of this course
pub record AnswersMode (post : Bor Scene → Mode → Type 0) (s : CourseState) (m : Mode) : Type 0 where
  pub shown : Bor Scene
  pub shows : shown.now ≡ scene_of s
  pub says : post shown m
