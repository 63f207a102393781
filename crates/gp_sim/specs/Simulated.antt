-- The settled run of a workload.
use Rattle.std.specs.Prelude.{ℕ, zero, suc, ◌*◌, List, [], ◌∷◌, length, Option, Some, None}
use Rattle.gp_round.specs.Counts.{Counts}
use Rattle.gp_round.specs.Configs.{counts}
use Rattle.gp_msg.specs.declared.event.Event.{Event}
use Rattle.gp_msg.specs.Messages.{Entry}
use Rattle.gp_run.specs.Messages.{messages}
use Rattle.gp_run.specs.Runs.{entry_after}
use Rattle.gp_random.specs.declared.plan.Plan.{Plan}
use Rattle.gp_random.specs.Plans.{plan_of, next}
use Rattle.gp_driver.specs.Settling.{settle}

-- three acceptors, three coordinators and two learners
abbrev pub sim_config : Counts
sim_config = counts 3 3 2

-- what is left of a workload, and the run so far
abbrev pub Progress : Type 0
Progress = Plan × List Entry

-- the event is executed, if there is one
abbrev pub happened : Option Event × Plan → List Entry → Progress
happened (None, p) es = (p, es)
happened (Some event, p) es = (p, entry_after sim_config es event ∷ es)

-- the next event of the workload is executed, given the number of messages that were sent; after the last event nothing happens
abbrev pub one_more : Progress → Progress
one_more s = happened (next (length (messages s.1)) s.0) s.1

-- the progress after at most n events
abbrev pub after : ℕ → Plan → Progress
after zero p = (p, [])
after (suc n) p = one_more (after n p)

-- the progress after all events of the workload of a seed: there are at most nine for each command
unfoldable pub all_drawn : ℕ → ℕ → Progress
all_drawn seed commands = after (suc (9 * commands)) (plan_of seed commands)

-- the run of these events
unfoldable pub drawn : ℕ → ℕ → List Entry
drawn seed commands = (all_drawn seed commands).1

-- the settled run
unfoldable pub simulated : ℕ → ℕ → List Entry
simulated seed commands = settle sim_config (drawn seed commands)
