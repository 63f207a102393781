-- The messages of a list of records.
use Rattle.std.specs.Prelude.{List}
use Rattle.std.specs.List.{flat_map}
use Rattle.gp_msg.specs.declared.message.Msg.{Msg}
use Rattle.gp_msg.specs.declared.record.Record.{Record}

-- all messages of some records, the oldest of which comes first: message k is at place k, from 0
abbrev pub messages_in : List Record → List Msg
messages_in records = flat_map (λ r. r.out) records
