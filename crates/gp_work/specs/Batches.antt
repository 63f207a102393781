-- Which messages of a batch a node takes, and in which order.
use Rattle.std.specs.Prelude.{◌≡◌, ℕ, ◌+◌, ◌%◌, ◌<◌, Bool, true, false, not, ◌&&◌, cond, nat_eq, ◌≤◌, List, [], ◌∷◌, ◌++◌, length, slice_get, Option, Some, None}
use Rattle.std.specs.Option.{option_map}
use Rattle.gp_msg.specs.declared.message.Msg.{Msg}
use Rattle.gp_msg.specs.declared.message.MsgKind.{MsgKind}
use Rattle.gp_msg.specs.declared.message.MsgKind.TheVariants.{Propose, P1a, P1b, P2a, P2b, Final}
use Rattle.gp_msg.specs.declared.node.Node.{Node}
use Rattle.gp_msg.specs.Reads.{kind_of, reads}
use Rattle.gp_work.specs.Moves.{number_of}

-- the messages from number a on are of these kinds
abbrev pub IsBatch : List Msg → ℕ → List MsgKind → Type 0
IsBatch ms a kinds = (i : ℕ) → i < length kinds → option_map kind_of (slice_get ms (a + i)) ≡ slice_get kinds i

abbrev pub is_propose : MsgKind → Bool
is_propose Propose = true
is_propose P1a = false
is_propose P1b = false
is_propose P2a = false
is_propose P2b = false
is_propose Final = false

-- a node takes a message of this kind in its order: it reads it, and it is no proposal if those come later
abbrev pub takes_now : Node → Bool → MsgKind → Bool
takes_now n later kind = reads n kind && not (later && is_propose kind)

-- a node takes a message of this kind after the others
abbrev pub takes_late : Node → MsgKind → Bool
takes_late n kind = reads n kind && is_propose kind

-- the numbers, from a on, of the kinds that meet a test, in order
abbrev pub picked : (MsgKind → Bool) → ℕ → List MsgKind → List ℕ
picked t a [] = []
picked t a (x ∷ xs) = cond (t x) (a ∷ []) [] ++ picked t (a + 1) xs

-- the same, the newest first
abbrev pub picked_down : (MsgKind → Bool) → ℕ → List MsgKind → List ℕ
picked_down t a [] = []
picked_down t a (x ∷ xs) = picked_down t (a + 1) xs ++ cond (t x) (a ∷ []) []

abbrev pub upward : Node → Bool → ℕ → List MsgKind → List ℕ
upward n later a kinds = picked (takes_now n later) a kinds

abbrev pub downward : Node → ℕ → List MsgKind → List ℕ
downward n a kinds = picked_down (takes_late n) a kinds

abbrev pub is_odd : Node → Bool
is_odd n = nat_eq (number_of n % 2) 1

-- a node with an odd number takes the proposals after the others, the newest first
abbrev pub order : Node → ℕ → List MsgKind → List ℕ
order n a kinds = cond (is_odd n) (upward n true a kinds ++ downward n a kinds) (upward n false a kinds)

-- how often a number is in a list
abbrev pub times : ℕ → List ℕ → ℕ
times k [] = 0
times k (x ∷ xs) = cond (nat_eq x k) 1 0 + times k xs

abbrev pub is_read : Node → Option Msg → Bool
is_read n None = false
is_read n (Some m) = reads n (kind_of m)

-- these are the messages from a to below b that the node reads, without duplicates, and no others
pub record AreRead (n : Node) (ms : List Msg) (a b : ℕ) (ks : List ℕ) : Type 0 where
  pub each : (k : ℕ) → a ≤ k → k < b → times k ks ≡ cond (is_read n (slice_get ms k)) 1 0
  pub before : (k : ℕ) → k < a → times k ks ≡ 0
  pub behind : (k : ℕ) → b ≤ k → times k ks ≡ 0
