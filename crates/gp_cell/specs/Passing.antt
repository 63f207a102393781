-- A pass that has seen more.
use Rattle.std.specs.Prelude.{◌≡◌, ℕ, List, ◌++◌, Result, Ok, Err}
use Rattle.gp_wire.specs.declared.view.Post.{Post}
use Rattle.gp_wire.specs.Lists.{Each}
use Rattle.gp_wire.specs.Rule.{IsForeign}
use Rattle.gp_wire.specs.Known.{PassState, records}
use Rattle.gp_msg.specs.declared.record.Record.{Record}
use Rattle.gp_work.specs.Doing.{IsUpTo}

-- the same pass of the same wire, which may have seen more records, of nodes that it does not hold
pub record Later (p q : PassState) : Type 0 where
  pub node : q.node ≡ p.node
  pub wire : q.wire ≡ p.wire
  pub all : q.all ≡ p.all
  pub holds : q.holds ≡ p.holds
  pub turn : IsUpTo p.turn q.turn
  pub more : List Post
  pub grown : q.seen ≡ p.seen ++ more
  pub foreign : Each (IsForeign p.holds) more

-- the same pass of the same wire, which may have seen more records
pub record GoesOn (p q : PassState) : Type 0 where
  pub node : q.node ≡ p.node
  pub wire : q.wire ≡ p.wire
  pub all : q.all ≡ p.all
  pub holds : q.holds ≡ p.holds
  pub turn : IsUpTo p.turn q.turn
  pub more : List Record
  pub grown : records q ≡ records p ++ more

-- how many records a step with this result posted
abbrev pub posts_in : {T E : Type 0} → Result T E → ℕ
posts_in (Ok x) = 1
posts_in (Err e) = 0
