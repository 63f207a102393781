-- Which events a workload has, by draws from two generators: one makes the commands, the other the schedule.
use Rattle.std.specs.Prelude.{ℕ, zero, suc, ◌+◌, ◌-◌, ◌*◌, min, nat_eq, nat_lt, if◌then◌else◌, Option, Some, None}
use Rattle.gp_round.specs.declared.round.Mode.{Mode}
use Rattle.gp_round.specs.declared.round.Mode.TheVariants.{Single, Multi, Fast}
use Rattle.gp_round.specs.Configs.{round_of}
use Rattle.gp_msg.specs.declared.node.Node.{Node}
use Rattle.gp_msg.specs.declared.node.Node.TheVariants.{Coordinator, Acceptor, Learner}
use Rattle.gp_msg.specs.declared.event.Event.{Event}
use Rattle.gp_msg.specs.declared.event.Event.TheVariants.{Begin, Take, Fall}
use Rattle.gp_random.specs.declared.plan.Plan.{Plan}
use Rattle.gp_random.specs.Draws.{draw, stream_of}
use Rattle.gp_random.specs.Commands.{offer_at}

-- the plan of a seed at its start: stream 0 makes the commands, and stream 1 the schedule, which has eight turns for each command
abbrev pub plan_of : ℕ → ℕ → Plan
plan_of seed commands = record {
  commands = stream_of seed 0;
  schedule = stream_of seed 1;
  size = commands;
  offered = 0;
  top_count = 0;
  turns = 8 * commands;
}

-- the nodes by one number: three acceptors, three coordinators and two learners
abbrev pub node_numbered : ℕ → Node
node_numbered n = if nat_lt n 3 then Acceptor n else if nat_lt n 6 then Coordinator (n - 3) else Learner (n - 6)

abbrev pub mode_numbered : ℕ → Mode
mode_numbered n = if nat_eq n 0 then Single else if nat_eq n 1 then Multi else Fast

-- the next command is offered, if one is left
abbrev pub offers : Plan → Option Event × Plan
offers p =
    let o = offer_at (p.offered + 1) p.commands in
    if nat_lt p.offered p.size then (Some o.0, record p { commands = o.1; offered = p.offered + 1 }) else (None, p)

-- a coordinator and a mode are drawn, and it begins a round with a greater count than all before
abbrev pub begins : Plan → Option Event × Plan
begins p =
    let c = draw p.schedule 3 in
    let m = draw c.1 3 in
    let mode = mode_numbered m.0 in
    (Some (Begin c.0 (round_of c.0 (p.top_count + 1) mode)), record p { schedule = m.1; top_count = p.top_count + 1 })

-- a node is drawn, and it crashes and keeps nothing
abbrev pub falls : Plan → Option Event × Plan
falls p =
    let n = draw p.schedule 8 in
    (Some (Fall (node_numbered n.0) None), record p { schedule = n.1 })

-- of sixteen draws, one begins a round, one makes a node crash, and the others do nothing
abbrev pub interrupts : Plan → Option Event × Plan
interrupts p =
    let e = draw p.schedule 16 in
    let q = record p { schedule = e.1 } in
    if nat_eq e.0 0 then begins q else if nat_eq e.0 1 then falls q else (None, q)

-- a node is drawn; if messages were sent, one of the last 32 is drawn, and the node takes it
abbrev pub takes : ℕ → Plan → Option Event × Plan
takes have p =
    let n = draw p.schedule 8 in
    let j = draw n.1 (min have 32) in
    if nat_eq have 0 then (None, record p { schedule = n.1 }) else (Some (Take (node_numbered n.0) (have - 1 - j.0)), record p { schedule = j.1 })

-- of eight turns two offer, one interrupts, and five take a message
abbrev pub turn : ℕ → Plan → Option Event × Plan
turn have p =
    let d = draw p.schedule 8 in
    let q = record p { schedule = d.1; turns = p.turns - 1 } in
    if nat_lt d.0 2 then offers q else if nat_eq d.0 2 then interrupts q else takes have q

-- the event of a turn, or, if it has none, the event that follows
abbrev pub or_behind : Option Event × Plan → (Plan → Option Event × Plan) → Option Event × Plan
or_behind (Some event, p) behind = (Some event, p)
or_behind (None, p) behind = behind p

-- the first event of at most n turns; if there is none, a command that is left is offered
abbrev pub next_within : ℕ → ℕ → Plan → Option Event × Plan
next_within have zero p = offers p
next_within have (suc n) p = or_behind (turn have p) (next_within have n)

-- the next event if so many messages were sent, and the plan after it
unfoldable pub next : ℕ → Plan → Option Event × Plan
next have p = next_within have p.turns p
