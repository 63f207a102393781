-- The messages of a run. A run is a list of entries, the newest first.
use Rattle.std.specs.Prelude.{List, [], ◌∷◌, ◌++◌, Option, Some, None}
use Rattle.gp_msg.specs.Messages.{Stamped, Entry}

-- all messages of a run, the oldest first: message k is at place k, from 0
abbrev pub messages : List Entry → List Stamped
messages [] = []
messages (e ∷ es) = messages es ++ e.sent

-- a function applied to a message, or a default if there is none
abbrev pub on_message : {X : Type 0} → X → (Stamped → X) → Option Stamped → X
on_message x f None = x
on_message x f (Some m) = f m
