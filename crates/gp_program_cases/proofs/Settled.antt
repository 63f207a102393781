-- Small worlds are settled by few events.
use Rattle.std.proofs.Common.{◌≡◌, ℕ, ◌+◌, ◌<◌, ◌≤◌, ◌^◌, List, length, ap, arith}
use Rattle.gp_round.specs.declared.config.TheConstants.{LAST_COUNT}
use Rattle.gp_round.specs.Counts.{Counts}
use Rattle.gp_round.specs.Ranges.{AreInRange}
use Rattle.gp_msg.specs.declared.record.Record.{Record}
use Rattle.gp_run.specs.Messages.{messages}
use Rattle.gp_run.specs.Legal.{Legal}
use Rattle.gp_run.specs.TopCount.{top_count}
use Rattle.gp_world.specs.State.{WorldState, entries_of}
use Rattle.gp_driver.specs.Settling.{checkpoints, settle}
use Rattle.gp_driver.proofs.Lengths.{checkpoints_among, settled_length}
use Rattle.gp_driver.proofs.Worlds.{as_many}
use Rattle.gp_driver.proofs.SettleCode.{range_of, brings}

pub few_rounds : (w : WorldState) (m t : ℕ) → m ≡ length (messages (entries_of w)) → m ≤ 100000 → t ≡ top_count w.config (entries_of w) → t ≤ 100000 → top_count w.config (entries_of w) + checkpoints (messages (entries_of w)) < LAST_COUNT
few_rounds w m t em lm et lt = let n = checkpoints_among (messages (entries_of w)) in omega (arith, n, em, lm, et, lt)

pub few_settled : (w : WorldState) (d : Counts) (rs : List Record) (r m t : ℕ) → AreInRange d.acceptors d.coordinators d.learners → d ≡ w.config → Legal w.config (entries_of w)
    → rs ≡ w.records → r ≡ length rs → r ≤ 100000 → m ≡ length (messages (entries_of w)) → m ≤ 100000 → t ≡ top_count w.config (entries_of w) → t ≤ 100000 → length (settle w.config (entries_of w)) ≤ 2 ^ 31
few_settled w d rs r m t range same legal value er lr em lm et lt =
    let in_range = range_of d w.config same range in
    let s = brings w.config in_range (entries_of w) legal (few_rounds w m t em lm et lt) in
    let a = settled_length w.config in_range (entries_of w) s in
    let n = as_many w in
    let k = ap length value in
    omega (arith, a, n, k, er, lr, em, lm)
