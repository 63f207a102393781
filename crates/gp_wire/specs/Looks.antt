-- What a pass has not seen.
use Rattle.std.specs.Prelude.{◌≡◌, ◌<◌, ℕ, List, [], ◌∷◌, ◌++◌, ◌⊎◌, Some, None, length, slice_get}
use Rattle.gp_msg.specs.declared.node.Node.{Node}
use Rattle.gp_msg.specs.declared.message.Msg.{Msg}
use Rattle.gp_msg.specs.declared.record.Record.{Record}
use Rattle.gp_msg.specs.Records.{messages_in}
use Rattle.gp_wire.specs.declared.view.Post.{Post}
use Rattle.gp_wire.specs.Rule.{Begins}
use Rattle.gp_wire.specs.Known.{PassState, old_of, records}
use Rattle.gp_wire.specs.Passes.{HadTurn, nothing, only, met, spent}
use Rattle.gp_wire.specs.Ends.{Closed}

-- what one call does to a pass: a turn with no post or with one, or a meeting in which it gets the nodes of another pass or hands over its own
abbrev pub IsCall : PassState → PassState → Type 0
IsCall p q =
    HadTurn p q nothing
    ⊎ ((x : Record) × HadTurn p q (only x))
    ⊎ ((o : PassState) × (q ≡ met p o) × Begins q.seen (old_of p))
    ⊎ (q ≡ spent p)

-- calls one after another, with the pass after each, lead from the first to the last
abbrev pub AreCalls : PassState → List PassState → PassState → Type 0
AreCalls p [] q = p ≡ q
AreCalls p (r ∷ rs) q = IsCall p r × AreCalls r rs q

-- the pass is one of these
abbrev pub IsOneOf : PassState → List PassState → Type 0
IsOneOf q [] = ⊥
IsOneOf q (p ∷ ps) = (q ≡ p) ⊎ IsOneOf q ps

-- the number of a post's turn for each of these messages
abbrev pub in_turn : ℕ → List Msg → List ℕ
in_turn t [] = []
in_turn t (m ∷ ms) = t ∷ in_turn t ms

-- the number of the turn in which each message was posted
abbrev pub turns_of : List Post → List ℕ
turns_of [] = []
turns_of (e ∷ es) = in_turn e.turn e.item.out ++ turns_of es

-- a look that found no message k, of a pass that is, after any calls, one of those that close the wire
pub record FoundNone (k : ℕ) (passes : List PassState) : Type 0 where
  pub before : PassState
  pub after : PassState
  pub look : HadTurn before after nothing
  pub none : slice_get (messages_in (records after)) k ≡ None
  pub calls : List PassState
  pub last : PassState
  pub path : AreCalls after calls last
  pub closes : IsOneOf last passes

-- in each closed list, a message that a look did not find was posted in a turn after that of the look
abbrev pub NoLookMissed : (List Record → Record → Type 0) → Type 0
NoLookMissed legal = (all : List Node) (passes : List PassState) (out : List Record) (closed : Closed legal all passes out) (k turn : ℕ) (found : FoundNone k passes) → slice_get (turns_of closed.log) k ≡ Some turn → found.look.turn < turn

-- in each closed list, each message has the number of a turn
abbrev pub EachHasTurn : (List Record → Record → Type 0) → Type 0
EachHasTurn legal = (all : List Node) (passes : List PassState) (out : List Record) (closed : Closed legal all passes out) → length (turns_of closed.log) ≡ length (messages_in out)
