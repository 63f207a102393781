-- The places of the messages in a list of records, the oldest record first.
use Rattle.std.specs.Prelude.{ℕ, List, map, slice_get, Option, Some, None}
use Rattle.gp_msg.specs.declared.message.Msg.{Msg}
use Rattle.gp_msg.specs.declared.record.Record.{Record}

-- the first message of a record, if there is a record with one
abbrev pub first_message : Option Record → Option Msg
first_message None = None
first_message (Some r) = slice_get r.out 0

-- the first message of the record at a place
abbrev pub first_at : List Record → ℕ → Option Msg
first_at records place = first_message (slice_get records place)

-- the first messages of the records at these places
abbrev pub messages_at : List Record → List ℕ → List (Option Msg)
messages_at records places = map (first_at records) places

-- these messages, none of which is missing
abbrev pub all_there : List Msg → List (Option Msg)
all_there ms = map (λ m. Some m) ms

-- the message at a place, if there is a place
abbrev pub message_at : List Record → Option ℕ → Option Msg
message_at records None = None
message_at records (Some place) = first_at records place
