-- The calls of an object in memory, some of which are to fail.
use Rattle.std.specs.Prelude.{ℕ, Bool, cond, nat_eq, List}
use Rattle.std.specs.List.{list_any}
use Rattle.gp_edge.specs.Faults.{one_more}

-- the numbers of the calls that are to fail, how many calls there were, and how many of them failed
pub record Calls : Type 0 where
  pub failing : List ℕ
  pub made : ℕ
  pub faults : ℕ

-- no calls so far
abbrev pub scheduled : List ℕ → Calls
scheduled failing = record { failing = failing; made = 0; faults = 0 }

-- the next call is to fail
abbrev pub is_to_fail : Calls → Bool
is_to_fail c = list_any (λ n. nat_eq n c.made) c.failing

-- after one call
abbrev pub called : Calls → Calls
called c = record { failing = c.failing; made = one_more c.made; faults = cond (is_to_fail c) (one_more c.faults) c.faults }
