-- What contracts see of a configuration.
use Rattle.std.specs.Prelude.{ℕ}

-- how many nodes of each kind there are
pub record Counts : Type 0 where
  pub acceptors : ℕ
  pub coordinators : ℕ
  pub learners : ℕ
