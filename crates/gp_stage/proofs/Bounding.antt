-- When a run can be settled.
use Rattle.std.proofs.Common.{◌+◌, ◌<◌, List, arith}
use Rattle.gp_round.specs.Counts.{Counts}
use Rattle.gp_round.specs.Ranges.{AreInRange}
use Rattle.gp_round.specs.declared.config.TheConstants.{LAST_COUNT}
use Rattle.gp_msg.specs.Messages.{Entry}
use Rattle.gp_run.specs.Messages.{messages}
use Rattle.gp_run.specs.Legal.{Legal}
use Rattle.gp_run.specs.TopCount.{top_count}
use Rattle.gp_driver.specs.Settling.{checkpoints}
use Rattle.gp_driver.proofs.SettleCode.{brings}
use Rattle.gp_driver.proofs.Lengths.{settled_length, checkpoints_among}
use Rattle.gp_stage.specs.Bounds.{CanSettle, IsWithin}

pub can_settle : (config : Counts) (es : List Entry) → AreInRange config.acceptors config.coordinators config.learners → Legal config es → IsWithin config es → CanSettle config es
can_settle config es range legal within =
    let rounds = within.rounds in
    let room = within.room in
    let c = checkpoints_among (messages es) in
    let few : top_count config es + checkpoints (messages es) < LAST_COUNT = omega (arith, c, rounds) in
    let l = settled_length config range es (brings config range es legal few) in record {
      range = range;
      legal = legal;
      rounds = few;
      room = omega (arith, l, room);
    }
