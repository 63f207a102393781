-- The commands of a workload, by draws from one generator.
use Rattle.std.specs.Prelude.{ℕ, ◌%◌, nat_eq, nat_lt, if◌then◌else◌, List, ◌∷◌, decimal}
use Rattle.gp_command.specs.declared.command.TheConstants.{PROPOSERS}
use Rattle.rand_chacha.specs.ChaCha.{ChaCha}
use Rattle.gp_store.specs.declared.op.Op.{Op}
use Rattle.gp_store.specs.declared.op.Op.TheVariants.{Put, Add, Get, Del, Cas, Checkpoint}
use Rattle.gp_store.specs.Operations.{draft_for}
use Rattle.gp_msg.specs.declared.event.Event.{Event}
use Rattle.gp_msg.specs.declared.event.Event.TheVariants.{Offer}
use Rattle.gp_random.specs.Draws.{draw}

-- the key `k` followed by this number in decimal
abbrev pub numbered_key : ℕ → List ℕ
numbered_key n = 107 ∷ decimal n

-- of eight kinds two put, two add, two get, one deletes and one swaps
abbrev pub op_of_kind : ℕ → List ℕ → ℕ → ℕ → Op
op_of_kind kind key v w =
    if nat_lt kind 2 then Put key v
    else if nat_lt kind 4 then Add key v
    else if nat_lt kind 6 then Get key
    else if nat_lt kind 7 then Del key
    else Cas key v w

-- the kind is drawn, then the key, then a value, and for a swap, the last kind, the other value
abbrev pub drawn_op : ChaCha → Op × ChaCha
drawn_op g =
    let kind = draw g 8 in
    let key = draw kind.1 16 in
    let v = draw key.1 1000 in
    let w = draw v.1 1000 in
    (op_of_kind kind.0 (numbered_key key.0) v.0 w.0, if nat_lt kind.0 7 then v.1 else w.1)

-- each 32nd command is a checkpoint, for which nothing is drawn
abbrev pub op_at : ℕ → ChaCha → Op × ChaCha
op_at i g = if nat_eq (i % 32) 0 then (Checkpoint, g) else drawn_op g

-- the proposer is drawn before the operation of command i, from 1
abbrev pub offer_at : ℕ → ChaCha → Event × ChaCha
offer_at i g =
    let proposer = draw g PROPOSERS in
    let op = op_at i proposer.1 in
    (Offer proposer.0 (draft_for op.0), op.1)
