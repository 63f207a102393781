-- What an operation does to the store and what it replies, and the same for a command.
use Rattle.std.specs.Prelude.{ℕ, ◌+◌, ◌%◌, ◌^◌, ◌==◌, Bool, false, if◌then◌else◌, List, Option, Some, None}
use Rattle.std.specs.FinMap.{empty, insert, remove}
use Rattle.gp_command.specs.declared.command.Command.{Command}
use Rattle.gp_replica.specs.declared.reply.Reply.{Reply}
use Rattle.gp_replica.specs.declared.reply.Reply.TheVariants.{Done, Absent, Yes, No, Value}
use Rattle.gp_replica.specs.Machines.{Rules}
use Rattle.gp_store.specs.declared.op.Op.{Op}
use Rattle.gp_store.specs.declared.op.Op.TheVariants.{Put, Add, Get, Del, Cas, Copy, Checkpoint}
use Rattle.gp_store.specs.Drafts.{op_of}
use Rattle.gp_store.specs.Pairs.{Pairs, value_at, count_at}

-- a value is there, and it is this one
abbrev pub is_value : Option ℕ → ℕ → Bool
is_value None value = false
is_value (Some found) value = found == value

-- the pairs with the value at the key, if there is a value
abbrev pub put_found : Pairs → List ℕ → Option ℕ → Pairs
put_found pairs key None = pairs
put_found pairs key (Some found) = insert pairs key found

-- the pairs after an operation
abbrev pub effect : Pairs → Op → Pairs
effect pairs (Put key value) = insert pairs key value
effect pairs (Add key value) = insert pairs key ((count_at pairs key + value) % 2 ^ 64)
effect pairs (Get key) = pairs
effect pairs (Del key) = remove pairs key
effect pairs (Cas key old new) = if is_value (value_at pairs key) old then insert pairs key new else pairs
effect pairs (Copy from into) = put_found pairs into (value_at pairs from)
effect pairs Checkpoint = pairs

-- the value, or that the key is absent
abbrev pub shown : Option ℕ → Reply
shown None = Absent
shown (Some found) = Value found

-- done if the key was there
abbrev pub done_if_there : Option ℕ → Reply
done_if_there None = Absent
done_if_there (Some found) = Done

-- what an operation on these pairs replies
abbrev pub reply : Pairs → Op → Reply
reply pairs (Put key value) = Done
reply pairs (Add key value) = Done
reply pairs (Get key) = shown (value_at pairs key)
reply pairs (Del key) = done_if_there (value_at pairs key)
reply pairs (Cas key old new) = if is_value (value_at pairs key) old then Yes else No
reply pairs (Copy from into) = done_if_there (value_at pairs from)
reply pairs Checkpoint = Done

-- the effect of an operation; if there is none, nothing changes
abbrev pub effect_if_some : Pairs → Option Op → Pairs
effect_if_some pairs None = pairs
effect_if_some pairs (Some op) = effect pairs op

-- the reply of an operation; if there is none, the reply of an absent key
abbrev pub reply_if_some : Pairs → Option Op → Reply
reply_if_some pairs None = Absent
reply_if_some pairs (Some op) = reply pairs op

-- the pairs after a command
abbrev pub after_command : Pairs → Command → Pairs
after_command pairs command = effect_if_some pairs (op_of command.draft)

-- what a command on these pairs replies
abbrev pub reply_to_command : Pairs → Command → Reply
reply_to_command pairs command = reply_if_some pairs (op_of command.draft)

-- the store as a machine, which is empty at first
abbrev pub store_rules : Rules Pairs
store_rules = record { opening = empty; after = after_command; reply = reply_to_command }
