-- The spelling, the footprint and the draft of an operation.
use Rattle.std.specs.Prelude.{ℕ, ◌<◌, ◌^◌, Bool, true, false, List, [], ◌∷◌, IsTrue, codes, decimal}
use Rattle.std.specs.declared.cmp.Ordering.{Ordering}
use Rattle.std.specs.declared.cmp.Ordering.TheVariants.{Less, Equal, Greater}
use Rattle.gp_command.specs.declared.touch.Access.{Access}
use Rattle.gp_command.specs.declared.touch.Access.TheVariants as access
use Rattle.gp_command.specs.declared.touch.Touch.{Touch}
use Rattle.gp_command.specs.Key.{is_key, key_cmp}
use Rattle.gp_command.specs.Views.{DraftView}
use Rattle.gp_words.specs.Spacing.{joined}
use Rattle.gp_store.specs.declared.op.Op.{Op}
use Rattle.gp_store.specs.declared.op.Op.TheVariants.{Put, Add, Get, Del, Cas, Copy, Checkpoint}

-- its keys are valid, and its values are below 2^64
abbrev pub IsOp : Op → Type 0
IsOp (Put key value) = IsTrue (is_key key) × (value < 2 ^ 64)
IsOp (Add key value) = IsTrue (is_key key) × (value < 2 ^ 64)
IsOp (Get key) = IsTrue (is_key key)
IsOp (Del key) = IsTrue (is_key key)
IsOp (Cas key old new) = IsTrue (is_key key) × (old < 2 ^ 64) × (new < 2 ^ 64)
IsOp (Copy from into) = IsTrue (is_key from) × IsTrue (is_key into)
IsOp Checkpoint = Unit {0}

-- the words of its spelling
abbrev pub op_words : Op → List (List ℕ)
op_words (Put key value) = codes "put" ∷ key ∷ decimal value ∷ []
op_words (Add key value) = codes "add" ∷ key ∷ decimal value ∷ []
op_words (Get key) = codes "get" ∷ key ∷ []
op_words (Del key) = codes "del" ∷ key ∷ []
op_words (Cas key old new) = codes "cas" ∷ key ∷ decimal old ∷ decimal new ∷ []
op_words (Copy from into) = codes "copy" ∷ from ∷ into ∷ []
op_words Checkpoint = codes "checkpoint" ∷ []

-- its spelling
abbrev pub op_text : Op → List ℕ
op_text op = joined (op_words op)

-- it is ordered before or after every other command
abbrev pub is_checkpoint : Op → Bool
is_checkpoint Checkpoint = true
is_checkpoint op = false

-- the key with this access
abbrev pub touch : List ℕ → Access → Touch
touch key access = record { key = key; access = access }

-- the first key is read and the second one is written; if they are equal, the key is only written
abbrev pub copy_foot : Ordering → List ℕ → List ℕ → List Touch
copy_foot Less from into = touch from access.Read ∷ touch into access.Write ∷ []
copy_foot Equal from into = touch into access.Write ∷ []
copy_foot Greater from into = touch into access.Write ∷ touch from access.Read ∷ []

-- the keys that it touches, in ascending order
abbrev pub op_foot : Op → List Touch
op_foot (Put key value) = touch key access.Write ∷ []
op_foot (Add key value) = touch key access.Add ∷ []
op_foot (Get key) = touch key access.Read ∷ []
op_foot (Del key) = touch key access.Write ∷ []
op_foot (Cas key old new) = touch key access.Write ∷ []
op_foot (Copy from into) = copy_foot (key_cmp from into) from into
op_foot Checkpoint = []

-- the draft of a command that does it
abbrev pub draft_for : Op → DraftView
draft_for op = record { checkpoint = is_checkpoint op; foot = op_foot op; body = op_text op }
