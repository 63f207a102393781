use Rattle.gp_ending.proofs.BegunInCourse.{begins_in_course}
use Rattle.gp_ending.proofs.laws.a_leader_that_adapts_begins_in_course.Goals as goal

pub returns : goal.returns
returns g = λ p calls f some. begins_in_course p calls f some
