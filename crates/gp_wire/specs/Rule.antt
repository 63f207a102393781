-- The rule of the table. Word 0 is the next ticket, word 1 the ticket that is served, word 2 the number of records. The one slot has the list.
use Rattle.std.specs.Prelude.{◌≡◌, ℕ, ◌+◌, ◌^◌, ◌<◌, ◌≤◌, List, [], ◌∷◌, ◌++◌, map, length, Option, Some, None}
use mathlib.Core.Option as maybe
use lib.ListN.{get_elem?}
use Rattle.atomic_table.specs.Table.{State}
use Rattle.gp_msg.specs.declared.node.Node.{Node}
use Rattle.gp_msg.specs.declared.record.Record.{Record}
use Rattle.gp_wire.specs.declared.view.Post.{Post}
use Rattle.gp_wire.specs.declared.view.Old.{Old}
use Rattle.gp_wire.specs.declared.view.View.{View}
use Rattle.gp_wire.specs.declared.view.Standing.{Standing}
use Rattle.gp_wire.specs.declared.view.Standing.TheVariants.{Idle, Waiting, Serving}
use Rattle.gp_wire.specs.Lists.{Each, Has}
use Rattle.gp_wire.specs.Legal.{LegalFrom}

-- what the slot contains: the list of records, or nothing while the list is out
abbrev pub Slot : Type 0
Slot = Option (List Record)

-- the record of a post
abbrev pub item : Post → Record
item e = e.item

-- the records of posts
abbrev pub items : List Post → List Record
items es = map item es

-- a record that was posted in a turn
abbrev pub post_of : Record → ℕ → Post
post_of x t = record { item = x; turn = t }

-- what a seat knows
abbrev pub view : List Node → List Node → List Post → Standing → Option ℕ → List Old → View
view all nodes seen standing turn olds = record { all = all; nodes = nodes; seen = seen; standing = standing; turn = turn; olds = olds }

-- a seat that has seen nothing
abbrev pub fresh : List Node → List Node → View
fresh all nodes = view all nodes [] Idle None []

-- the first seat, which holds all nodes
abbrev pub newcomer : List Node → View
newcomer nodes = view nodes nodes [] Idle None []

-- the post is of none of these nodes
abbrev pub IsForeign : List Node → Post → Type 0
IsForeign nodes e = ¬ (Has e.item.node nodes)

-- the post is of a later turn, if there was a turn
abbrev pub IsLater : Option ℕ → Post → Type 0
IsLater None e = Unit {0}
IsLater (Some t) e = t < e.turn

-- the number is above that of the turn, if there was a turn
abbrev pub IsBelow : Option ℕ → ℕ → Type 0
IsBelow None n = Unit {0}
IsBelow (Some t) n = t < n

-- the list begins with what was seen. What follows is of no node that is held, and of later turns
pub record Knows (log : List Post) (nodes : List Node) (turn : Option ℕ) (seen : List Post) : Type 0 where
  pub rest : List Post
  pub split : log ≡ seen ++ rest
  pub foreign : Each (IsForeign nodes) rest
  pub later : Each (IsLater turn) rest

-- a list begins with an old one, and what follows is of none of the nodes that came with it, and of turns after its own
pub record Begins (seen : List Post) (o : Old) : Type 0 where
  pub rest : List Post
  pub split : seen ≡ o.seen ++ rest
  pub foreign : Each (IsForeign o.nodes) rest
  pub later : Each (IsLater o.turn) rest

-- some node is held
abbrev pub IsSomebody : List Node → Type 0
IsSomebody nodes = (n : Node) × Has n nodes

-- what holds of a seat in this position: without a ticket it may still have old lists to learn of; a ticket is at least the served one and below the next one; and the seat with the turn has seen the whole list and has taken the slot
abbrev pub Stands : List Post → ℕ → ℕ → List (maybe.Option Slot) → View → Standing → Type 0
Stands log next serving homes v Idle = Each (Begins v.seen) v.olds
Stands log next serving homes v (Waiting t) = (serving ≤ t) × (t < next) × (v.olds ≡ []) × IsSomebody v.nodes
Stands log next serving homes v (Serving t) = (t ≡ serving) × (t < next) × (v.olds ≡ []) × IsSomebody v.nodes × (v.seen ≡ log) × (homes ≡ maybe.none ∷ [])

-- the ticket of a seat, if it has one
abbrev pub ticket : Standing → Option ℕ
ticket Idle = None
ticket (Waiting t) = Some t
ticket (Serving t) = Some t

-- how many tickets a seat has
abbrev pub tickets : Standing → ℕ
tickets Idle = 0
tickets (Waiting t) = 1
tickets (Serving t) = 1

-- how many seats have a ticket
abbrev pub waiting : List View → ℕ
waiting [] = 0
waiting (v ∷ vs) = tickets v.standing + waiting vs

-- the seat does not have the turn
abbrev pub NotServing : Standing → Type 0
NotServing Idle = Unit {0}
NotServing (Waiting t) = Unit {0}
NotServing (Serving t) = ⊥

-- no seat has the turn
abbrev pub NoTurn : List View → Type 0
NoTurn views = (i : ℕ) (v : View) → get_elem? views i ≡ maybe.some v → NotServing v.standing

-- the numbers of the turns do not decrease
abbrev pub Ascends : ℕ → List Post → Type 0
Ascends least [] = Unit {0}
Ascends least (e ∷ es) = (least ≤ e.turn) × Ascends e.turn es

-- The rule between any two steps. There is one list of posts, `log`, and
-- 1. the next ticket is the served one plus the number of seats with a ticket; no two seats have the same ticket; what `Stands` says of a seat holds;
-- 2. word 2 is the number of records; the list is legal and of nodes of the wire; each seat has seen a beginning of it; while no seat has the turn, it is in the slot;
-- 3. each node of the wire is held by exactly one seat, which has seen all records of that node;
-- 4. the turns of the list do not decrease; they are at most the served ticket, and below it while no seat has the turn; the last turn of a seat is below the served ticket, and all that the seat has not seen is of later turns.
pub record Kept (legal : List Record → Record → Type 0) (all : List Node) (s : State Slot View) : Type 0 where
  pub log : List Post
  pub next : ℕ
  pub serving : ℕ
  pub words : s.words ≡ next ∷ serving ∷ length log ∷ []
  pub room : next < 2 ^ 64
  pub lawful : LegalFrom legal [] (items log)
  pub ours : Each (λ e. Has e.item.node all) log
  pub ascends : Ascends 0 log
  pub numbered : Each (λ e. e.turn ≤ serving) log
  pub counted : next ≡ serving + waiting s.views
  pub knows : (i : ℕ) (v : View) → get_elem? s.views i ≡ maybe.some v → Knows log v.nodes v.turn v.seen
  pub below : (i : ℕ) (v : View) → get_elem? s.views i ≡ maybe.some v → IsBelow v.turn serving
  pub stands : (i : ℕ) (v : View) → get_elem? s.views i ≡ maybe.some v → Stands log next serving s.homes v v.standing
  pub one_ticket : (i j : ℕ) (v w : View) (t : ℕ) → get_elem? s.views i ≡ maybe.some v → get_elem? s.views j ≡ maybe.some w → ticket v.standing ≡ Some t → ticket w.standing ≡ Some t → i ≡ j
  pub one_holder : (i j : ℕ) (v w : View) (n : Node) → get_elem? s.views i ≡ maybe.some v → get_elem? s.views j ≡ maybe.some w → Has n v.nodes → Has n w.nodes → i ≡ j
  pub inside : (i : ℕ) (v : View) (n : Node) → get_elem? s.views i ≡ maybe.some v → Has n v.nodes → Has n all
  pub told : (i : ℕ) (v : View) (n : Node) → get_elem? s.views i ≡ maybe.some v → Has n v.nodes → v.all ≡ all
  pub held : (n : Node) → Has n all → (i : ℕ) × (v : View) × (get_elem? s.views i ≡ maybe.some v) × Has n v.nodes
  pub at_rest : NoTurn s.views → (s.homes ≡ maybe.some (Some (items log)) ∷ []) × Each (λ e. e.turn < serving) log
