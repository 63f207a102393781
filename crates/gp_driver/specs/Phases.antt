-- The two phases of a round that has begun.
use Rattle.std.specs.Prelude.{ℕ, List}
use Rattle.gp_round.specs.Counts.{Counts}
use Rattle.gp_msg.specs.declared.node.Node.TheVariants.{Coordinator, Acceptor, Learner}
use Rattle.gp_msg.specs.Messages.{Entry}
use Rattle.gp_msg.specs.declared.message.MsgKind.TheVariants as Kind
use Rattle.gp_driver.specs.Sweeps.{sweep}

-- acceptors take the P1a and then the first n coordinators take their answers, each from message number `start` on
abbrev pub answered_from : Counts → ℕ → ℕ → List Entry → List Entry
answered_from config n start es = sweep config Coordinator n Kind.P1b start (sweep config Acceptor config.acceptors Kind.P1a start es)

-- acceptors take the values and then learners take the votes, each from message number `start` on
abbrev pub voted_from : Counts → ℕ → List Entry → List Entry
voted_from config start es = sweep config Learner config.learners Kind.P2b start (sweep config Acceptor config.acceptors Kind.P2a start es)
