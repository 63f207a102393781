-- The numbers that a configuration may have.
use Rattle.std.specs.Prelude.{ℕ, ◌≤◌}

pub record AreInRange (acceptors coordinators learners : ℕ) : Type 0 where
  pub three_acceptors : 3 ≤ acceptors
  pub seven_acceptors : acceptors ≤ 7
  pub one_coordinator : 1 ≤ coordinators
  pub five_coordinators : coordinators ≤ 5
  pub one_learner : 1 ≤ learners
  pub four_learners : learners ≤ 4
