-- Runs that can be settled.
use Rattle.std.specs.Prelude.{◌<◌, ◌≤◌, ◌+◌, ◌*◌, ◌^◌, List, length}
use Rattle.gp_round.specs.Counts.{Counts}
use Rattle.gp_round.specs.Ranges.{AreInRange}
use Rattle.gp_round.specs.declared.config.TheConstants.{LAST_COUNT}
use Rattle.gp_msg.specs.Messages.{Entry}
use Rattle.gp_run.specs.Messages.{messages}
use Rattle.gp_run.specs.Legal.{Legal}
use Rattle.gp_run.specs.TopCount.{top_count}
use Rattle.gp_driver.specs.Settling.{checkpoints, settle}
use Rattle.gp_stage.specs.declared.settling.TheConstants.{MOST_ENTRIES, MOST_ROUNDS}

-- the greatest count of a round in the run and the number of its messages add up to at most MOST_ROUNDS, and the bound for the number of entries of the settled run is at most MOST_ENTRIES
pub record IsWithin (config : Counts) (es : List Entry) : Type 0 where
  pub rounds : top_count config es + length (messages es) ≤ MOST_ROUNDS
  pub room : length es + 71 * length (messages es) + 50 ≤ MOST_ENTRIES

-- the run is legal, and its rounds and its length are within the bounds that settling requires
pub record CanSettle (config : Counts) (es : List Entry) : Type 0 where
  pub range : AreInRange config.acceptors config.coordinators config.learners
  pub legal : Legal config es
  pub rounds : top_count config es + checkpoints (messages es) < LAST_COUNT
  pub room : length (settle config es) ≤ 2 ^ 31
