-- Sweeps: nodes of one role, one after another, take the messages of one kind from a place on.
use Rattle.std.specs.Prelude.{ℕ, zero, suc, Bool, false, cond, nat_eq, List, [], ◌∷◌, map, take, drop, Option, Some, None}
use Rattle.gp_round.specs.Counts.{Counts}
use Rattle.gp_msg.specs.declared.node.Node.{Node}
use Rattle.gp_msg.specs.declared.event.Event.{Event}
use Rattle.gp_msg.specs.declared.event.Event.TheVariants.{Take}
use Rattle.gp_msg.specs.Messages.{Stamped, Entry}
use Rattle.gp_msg.specs.declared.message.MsgKind.{MsgKind}
use Rattle.gp_driver.specs.Kinds.{kind_of, kind_number}
use Rattle.gp_run.specs.Messages.{messages}
use Rattle.gp_run.specs.Runs.{run_onto}

-- the message is of this kind
abbrev pub is_of : MsgKind → Stamped → Bool
is_of kind m = nat_eq (kind_number (kind_of m)) (kind_number kind)

-- there is a message, and it is of this kind
abbrev pub is_there : MsgKind → Option Stamped → Bool
is_there kind None = false
is_there kind (Some m) = is_of kind m

-- the places of the messages of a kind among these messages, the first of which has number n
abbrev pub places_from : MsgKind → ℕ → List Stamped → List ℕ
places_from kind n [] = []
places_from kind n (m ∷ ms) = cond (is_of kind m) (n ∷ places_from kind (suc n) ms) (places_from kind (suc n) ms)

-- the places of the messages of a kind, from a place on
abbrev pub places : MsgKind → ℕ → List Stamped → List ℕ
places kind start ms = places_from kind start (drop start ms)

-- a node takes the messages at these places, in this order
abbrev pub takes : Node → List ℕ → List Event
takes node ks = map (λ k. Take node k) ks

-- a node takes the messages of a kind with numbers from `start` up to, but not including, `end`
abbrev pub took : Counts → Node → MsgKind → ℕ → ℕ → List Entry → List Entry
took config node kind start end es = run_onto config es (takes node (places kind start (take end (messages es))))

-- nodes 0 to n - 1 of a role, one after another, take the messages at these places
abbrev pub swept : Counts → (ℕ → Node) → ℕ → List ℕ → List Entry → List Entry
swept config node zero ks es = es
swept config node (suc n) ks es = run_onto config (swept config node n ks es) (takes (node n) ks)

-- nodes 0 to n - 1 of a role, one after another, take the messages of a kind from a place on
abbrev pub sweep : Counts → (ℕ → Node) → ℕ → MsgKind → ℕ → List Entry → List Entry
sweep config node n kind start es = swept config node n (places kind start (messages es)) es

-- the first of some places, if there is one
abbrev pub first_place : List ℕ → Option ℕ
first_place [] = None
first_place (k ∷ ks) = Some k
