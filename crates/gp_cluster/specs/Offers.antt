-- The offers of a script in a list of records, and the commands that they make.
use Rattle.std.specs.Prelude.{◌≡◌, ◌<◌, ◌≤◌, ◌+◌, ℕ, List, [], ◌∷◌, ◌++◌, length, map}
use Rattle.gp_command.specs.declared.command.Command.{Command}
use Rattle.gp_command.specs.Views.{DraftView}
use Rattle.gp_command.specs.declared.command.TheConstants.{PROPOSERS}
use Rattle.gp_history.specs.History.{size}
use Rattle.gp_round.specs.Counts.{Counts}
use Rattle.gp_msg.specs.declared.node.Node.TheVariants.{Proposer}
use Rattle.gp_msg.specs.declared.record.Record.{Record}
use Rattle.gp_msg.specs.Messages.{Entry}
use Rattle.gp_run.specs.Learned.{learned_at}
use Rattle.gp_wire.specs.Own.{own_events}
use Rattle.gp_work.specs.Moves.{event_of}
use Rattle.gp_seats.specs.Offering.{moves_of}

-- each proposer made its own of these offers, in their order, and did nothing else
abbrev pub AreOffered : List (ℕ × DraftView) → List Record → Type 0
AreOffered offers list = (p : ℕ) → p < PROPOSERS → own_events (Proposer p) list ≡ map (event_of (Proposer p)) (moves_of (Proposer p) offers)

-- the command that an offer makes after earlier ones: its number is one more than the number of earlier offers of its proposer
abbrev pub command_after : List (ℕ × DraftView) → ℕ × DraftView → Command
command_after earlier o = record { id = record { proposer = o.0; number = length (moves_of (Proposer o.0) earlier) + 1 }; draft = o.1 }

-- the commands that offers make after earlier ones, in their order
abbrev pub commands_after : List (ℕ × DraftView) → List (ℕ × DraftView) → List Command
commands_after earlier [] = []
commands_after earlier (o ∷ os) = command_after earlier o ∷ commands_after (earlier ++ o ∷ []) os

-- the commands that the offers of a script make, in their order
abbrev pub commands_of : List (ℕ × DraftView) → List Command
commands_of offers = commands_after [] offers

-- each learner shows at least as many commands as there are offers
abbrev pub ShowAsMany : Counts → List (ℕ × DraftView) → List Entry → Type 0
ShowAsMany config offers es = (l : ℕ) → l < config.learners → length offers ≤ size (learned_at config l es)
