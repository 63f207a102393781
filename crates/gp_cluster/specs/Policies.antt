-- What a run leads to, by the policy of its rounds.
use Rattle.std.specs.Prelude.{◌⊎◌, ℕ, List, []}
use Rattle.gp_command.specs.Views.{DraftView}
use Rattle.gp_round.specs.Counts.{Counts}
use Rattle.gp_msg.specs.declared.record.Record.{Record}
use Rattle.gp_phase.specs.Phases.{Answers}
use Rattle.gp_caller.specs.Calling.{IsCalled}
use Rattle.gp_caller.specs.Adapting.{IsAdapted}
use Rattle.gp_ending.specs.Quiet.{IsQuietRun, IsAdaptiveRun}
use Rattle.gp_cluster.specs.Offers.{AreOffered}
use Rattle.gp_cluster.specs.declared.policy.RoundPolicy.{RoundPolicy}
use Rattle.gp_cluster.specs.declared.policy.RoundPolicy.TheVariants.{Multi, Adaptive}

-- what the caller of the rounds may answer
abbrev pub answers_of : RoundPolicy → Answers
answers_of Multi = IsCalled
answers_of Adaptive = IsAdapted

-- the run is quiet, and its rounds began as the policy says
abbrev pub IsQuietBy : RoundPolicy → Counts → List Record → Type 0
IsQuietBy Multi config list = IsQuietRun config list
IsQuietBy Adaptive config list = IsAdaptiveRun config list

-- each proposer made its own of these offers, in their order, and did nothing else. A run whose rounds adapt may have ended before any offer was made
abbrev pub MayBeOffered : RoundPolicy → List (ℕ × DraftView) → List Record → Type 0
MayBeOffered Multi offers list = AreOffered offers list
MayBeOffered Adaptive offers list = AreOffered offers list ⊎ AreOffered [] list
