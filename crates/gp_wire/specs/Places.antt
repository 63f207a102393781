-- The places of the messages in a list of records.
use Rattle.std.specs.Prelude.{ℕ, zero, suc, List, [], ◌∷◌, ◌++◌, map, slice_get, Option, Some, None}
use Rattle.gp_msg.specs.declared.message.Msg.{Msg}
use Rattle.gp_msg.specs.declared.record.Record.{Record}
use Rattle.gp_wire.specs.declared.indexed.Place.{Place}

-- a message of a record, if there is one at that place
abbrev pub out_at : Option Record → ℕ → Option Msg
out_at None at = None
out_at (Some r) at = slice_get r.out at

-- the message at a place of these records
abbrev pub at_place : List Record → Place → Option Msg
at_place records p = out_at (slice_get records p.index) p.at

-- the message at a place, if there is a place
abbrev pub message_at : List Record → Option Place → Option Msg
message_at records None = None
message_at records (Some p) = at_place records p

abbrev pub place : ℕ → ℕ → Place
place index_ at_ = record { index = index_; at = at_ }

-- the places of the first n messages of a record
abbrev pub places_to : ℕ → ℕ → List Place
places_to r zero = []
places_to r (suc n) = places_to r n ++ place r n ∷ []

-- these messages, none of which is missing
abbrev pub all_there : List Msg → List (Option Msg)
all_there ms = map (λ m. Some m) ms
