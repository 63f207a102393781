-- How long runs are that drivers make, for each configuration.
use Rattle.std.proofs.Common.{ℕ, suc, ◌+◌, ◌-◌, ◌*◌, ◌≤◌, Bool, true, false, cond, List, [], ◌∷◌, length, arith}
use Rattle.std.proofs.lemmas.Nat.{mul-le}
use Rattle.gp_command.specs.declared.draft.Draft.{Draft}
use Rattle.gp_round.specs.Counts.{Counts}
use Rattle.gp_round.specs.Ranges.{AreInRange}
use Rattle.gp_msg.specs.Messages.{Stamped, Entry}
use Rattle.gp_msg.specs.declared.message.MsgKind.{MsgKind}
use Rattle.gp_msg.specs.declared.message.MsgKind.TheVariants as Kind
use Rattle.gp_run.specs.Messages.{messages}
use Rattle.gp_driver.specs.Sweeps.{is_of, places_from, places}
use Rattle.gp_driver.specs.Settling.{is_checkpoint, checkpoints, settle, settling_passes}
use Rattle.gp_driver.specs.Settled.{Settles}
use Rattle.gp_driver.specs.Driving.{drive_multi}
use Rattle.gp_driver.specs.Driven.{DrivesMulti}

pub checkpoints_among : (ms : List Stamped) → checkpoints ms ≤ length ms
checkpoints_among [] = omega arith
checkpoints_among (m ∷ ms) = by (is_checkpoint m) (checkpoints_among ms) where
  by : (b : Bool) → checkpoints ms ≤ length ms → cond b (suc (checkpoints ms)) (checkpoints ms) ≤ suc (length ms)
  by true h = omega (arith, h)
  by false h = omega (arith, h)

few_from : (kind : MsgKind) (n : ℕ) (ms : List Stamped) → length (places_from kind n ms) ≤ length ms
few_from kind n [] = omega arith
few_from kind n (m ∷ ms) = by (is_of kind m) (few_from kind (suc n) ms) where
  by : (b : Bool) → length (places_from kind (suc n) ms) ≤ length ms → length (cond b (n ∷ places_from kind (suc n) ms) (places_from kind (suc n) ms)) ≤ suc (length ms)
  by true h = omega (arith, h)
  by false h = omega (arith, h)

few_places : (kind : MsgKind) (ms : List Stamped) → length (places kind 0 ms) ≤ length ms
few_places kind ms = few_from kind 0 ms

-- the events of so many passes, by the greatest numbers of nodes
few_events : (f k p q m a l : ℕ) → f ≤ m → k ≤ m → q ≤ m → p ≤ suc q → a ≤ 7 → l ≤ 4 → f * (a + l + 1) + k + p * (1 + 3 * a + a * l) + (p - 1) * (a + 1) ≤ 71 * m + 50
few_events f k p q m a l hf hk hq hp ha hl =
    let x = mul-le f (a + l + 1) m 12 hf (omega (arith, ha, hl)) in
    let y = mul-le a l 7 4 ha hl in
    let z = mul-le p (1 + 3 * a + a * l) (suc m) 50 (omega (arith, hp, hq)) (omega (arith, ha, y)) in
    let w = mul-le (p - 1) (a + 1) m 8 (omega (arith, hp, hq)) (omega (arith, ha)) in
    omega (arith, x, z, w, hk)

-- a settled run by the length and the messages of the run before
pub settled_length : (config : Counts) → AreInRange config.acceptors config.coordinators config.learners → (es : List Entry) → Settles config es → length (settle config es) ≤ length es + 71 * length (messages es) + 50
settled_length config range es s =
    let e = s.events in
    let b = few_events (length (places Kind.Final 0 (messages es))) (length (places Kind.Propose 0 (messages es))) (settling_passes config es) (checkpoints (messages es)) (length (messages es)) config.acceptors config.learners
    (few_places Kind.Final (messages es)) (few_places Kind.Propose (messages es)) (checkpoints_among (messages es)) s.few range.seven_acceptors range.four_learners in
    omega (arith, e, b)

few_driven : (k a l : ℕ) → a ≤ 7 → l ≤ 4 → 3 + 5 * a + a * l + k * (3 + 2 * a + a * l) ≤ 66 + 45 * k
few_driven k a l ha hl =
    let y = mul-le a l 7 4 ha hl in
    let z = mul-le k (3 + 2 * a + a * l) k 45 (omega arith) (omega (arith, ha, y)) in
    omega (arith, y, z, ha)

-- a driven run by the number of drafts
pub driven_length : (config : Counts) → AreInRange config.acceptors config.coordinators config.learners → (drafts : List Draft) → DrivesMulti config drafts → length (drive_multi config drafts) ≤ 66 + 45 * length drafts
driven_length config range drafts d = let e = d.events in let b = few_driven (length drafts) config.acceptors config.learners range.seven_acceptors range.four_learners in omega (arith, e, b)
