-- Driving: drafts are learned one after another in one multi round, in which coordinator 2 takes no part.
use Rattle.std.specs.Prelude.{List, [], ◌∷◌, length}
use Rattle.gp_command.specs.declared.draft.Draft.{Draft}
use Rattle.gp_round.specs.Counts.{Counts}
use Rattle.gp_round.specs.declared.round.Mode.TheVariants.{Multi}
use Rattle.gp_round.specs.declared.round.Round.{Round}
use Rattle.gp_msg.specs.declared.node.Node.TheVariants.{Coordinator}
use Rattle.gp_msg.specs.declared.event.Event.TheVariants.{Offer, Begin}
use Rattle.gp_msg.specs.Messages.{Entry}
use Rattle.gp_msg.specs.declared.message.MsgKind.TheVariants as Kind
use Rattle.gp_run.specs.Messages.{messages}
use Rattle.gp_run.specs.Runs.{run_onto}
use Rattle.gp_driver.specs.Sweeps.{sweep}
use Rattle.gp_driver.specs.Phases.{answered_from, voted_from}

-- the multi round of count 1
abbrev pub first_round : Round
first_round = record { count = 1; mode = Multi; lead = 0 }

-- coordinator 0 begins the round, and coordinators 0 and 1 lead it
abbrev pub opened : Counts → List Entry
opened config =
    voted_from config 0
    (answered_from config 2 0
    (sweep config Coordinator 2 Kind.P1a 0
    (run_onto config [] (Begin 0 first_round ∷ []))))

-- proposer 0 offers a draft, and coordinators 0 and 1 bring it to all learners
abbrev pub driven : Counts → Draft → List Entry → List Entry
driven config draft es =
    voted_from config (length (messages es))
    (sweep config Coordinator 2 Kind.Propose (length (messages es))
    (run_onto config es (Offer 0 draft ∷ [])))

-- one draft after another is driven
abbrev pub all_driven : Counts → List Draft → List Entry → List Entry
all_driven config [] es = es
all_driven config (draft ∷ drafts) es = all_driven config drafts (driven config draft es)

-- the driven run
abbrev pub drive_multi : Counts → List Draft → List Entry
drive_multi config drafts = all_driven config drafts (opened config)
