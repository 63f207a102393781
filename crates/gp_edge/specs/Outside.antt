-- What contracts see of a source over a reader and of a sink over a writer.
use Rattle.std.specs.Prelude.{ℕ, List, Option}

-- the remaining bytes of the reader or those that the writer holds, if it reveals them, and how often it has failed
pub record OutsideState : Type 0 where
  pub bytes : Option (List ℕ)
  pub faults : ℕ
