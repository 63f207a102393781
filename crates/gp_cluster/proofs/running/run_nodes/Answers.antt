use Rattle.std.proofs.Common.{refl, inl}
use Rattle.std.proofs.Common.{◌≡◌, ◌≤◌, List, map, sym, ap, ◌∙◌, subst, arith}
use Rattle.std.specs.Prelude.{IfSome}
use Rattle.gp_run.specs.Runs.{newest_first}
use Rattle.gp_seats.specs.Seats.{IsBlank}
use Rattle.gp_shelf.specs.Lists.{disk_in, unlent_of, shelved, KeepsOthers}
use Rattle.gp_shelf.specs.Making.{SomeRose, NoneFell}
use Rattle.gp_shelf.specs.Places.{logged}
use Rattle.gp_shelf.proofs.Zips.{AllZip-same}
use Rattle.gp_seats.proofs.Sitting.{all_of_each}
use Rattle.gp_cluster.specs.Runs.{EndCause, HoldParts}
use Rattle.gp_cluster.proofs.Left.{unlent_end, unlent_cause}
use Rattle.gp_cluster.proofs.Shelving as shelving
use Rattle.gp_cluster.proofs.running.run_nodes.Goals as goal

pub returns-in_default-clause-none_fell : goal.returns-in_default-clause-none_fell
returns-in_default-clause-none_fell g c = AllZip-same (λ was is. g.D.Disk.faults was ≤ g.D.Disk.faults is) (λ d. omega arith) c.args.disks.items

pub run_logs-end-requires-clause-blank : goal.run_logs-end-requires-clause-blank
run_logs-end-requires-clause-blank g c κs within k d l = all_of_each IsBlank c.in-Ok-lend.field-0.logs.items (shelving.blank g.D.Disk.content g.D.Disk.image g.D.Disk.faults c.args.limit _ c.in-Ok-lend.field-0.logs.items c.in-Ok-lend.ensures.logs) k d l

pub give_back-disks-requires : goal.give_back-disks-requires
give_back-disks-requires g c = record { as_many = shelving.count_last c.args.policy g.D.Disk.content g.D.Disk.image g.D.Disk.faults c.args.config c.args.limit c.args.offers.now c.args.disks.items c.in-Ok-lend.field-0.logs.items c.run_logs-end.result.logs.items c.run_logs-end.result.posted c.run_logs-end.result.end c.know.ensures.acceptors.1 c.know.ensures.coordinators.1 c.requires.twelve c.in-Ok-lend.ensures.logs c.run_logs-end.ensures.run ∙ ap logged (sym c.in-Ok-lend.ensures.config) }

pub returns-in-Ok-lend-clause-quiet : goal.returns-in-Ok-lend-clause-quiet
returns-in-Ok-lend-clause-quiet g c l calm =
    let back : c.give_back-disks.result.items ≡ shelved c.args.config (unlent_of c.args.config c.args.disks.items) (map disk_in c.run_logs-end.result.logs.items)
    = c.give_back-disks.ensures.disks ∙ (λ i. shelved (c.in-Ok-lend.ensures.config i) (c.in-Ok-lend.ensures.unlent i) (map disk_in c.run_logs-end.result.logs.items)) in
    shelving.quiet c.args.policy g.D.Disk.content g.D.Disk.image g.D.Disk.faults c.args.config c.args.limit c.args.offers.now c.args.disks.items c.in-Ok-lend.field-0.logs.items c.run_logs-end.result.logs.items c.run_logs-end.result.posted c.run_logs-end.result.end c.know.ensures.acceptors.1 c.know.ensures.coordinators.1 c.requires.twelve c.in-Ok-lend.ensures.logs c.run_logs-end.ensures.run l (subst (λ (ds : List g.row.D.Denot). ¬ SomeRose g.D.Disk.faults c.args.disks.items ds) back calm)

pub returns-in-Ok-lend-clause-cause : goal.returns-in-Ok-lend-clause-cause
returns-in-Ok-lend-clause-cause g c =
    let back : c.give_back-disks.result.items ≡ shelved c.args.config (unlent_of c.args.config c.args.disks.items) (map disk_in c.run_logs-end.result.logs.items)
    = c.give_back-disks.ensures.disks ∙ (λ i. shelved (c.in-Ok-lend.ensures.config i) (c.in-Ok-lend.ensures.unlent i) (map disk_in c.run_logs-end.result.logs.items)) in
    subst (λ (ds : List g.row.D.Denot). EndCause g.D.Disk.content g.D.Disk.faults c.args.config c.args.limit c.args.disks.items ds c.run_logs-end.result.posted c.run_logs-end.result.end) (sym back)
    (shelving.cause c.args.policy g.D.Disk.content g.D.Disk.image g.D.Disk.faults c.args.config c.args.limit c.args.offers.now c.args.disks.items c.in-Ok-lend.field-0.logs.items c.run_logs-end.result.logs.items c.run_logs-end.result.posted c.run_logs-end.result.end c.know.ensures.acceptors.1 c.know.ensures.coordinators.1 c.requires.twelve c.in-Ok-lend.ensures.logs c.run_logs-end.ensures.run)

pub returns-in-Ok-lend-clause-parts : goal.returns-in-Ok-lend-clause-parts
returns-in-Ok-lend-clause-parts g c l =
    let back : c.give_back-disks.result.items ≡ shelved c.args.config (unlent_of c.args.config c.args.disks.items) (map disk_in c.run_logs-end.result.logs.items)
    = c.give_back-disks.ensures.disks ∙ (λ i. shelved (c.in-Ok-lend.ensures.config i) (c.in-Ok-lend.ensures.unlent i) (map disk_in c.run_logs-end.result.logs.items)) in
    subst (λ (ds : List g.row.D.Denot). IfSome c.run_logs-end.result.posted (λ list. HoldParts g.D.Disk.content c.args.config c.args.limit (newest_first list) ds)) (sym back)
    (shelving.parts c.args.policy g.D.Disk.content g.D.Disk.image g.D.Disk.faults c.args.config c.args.limit c.args.offers.now c.args.disks.items c.in-Ok-lend.field-0.logs.items c.run_logs-end.result.logs.items c.run_logs-end.result.posted c.run_logs-end.result.end c.know.ensures.acceptors.1 c.know.ensures.coordinators.1 c.requires.twelve c.in-Ok-lend.ensures.logs c.run_logs-end.ensures.run l)

pub returns-in-Ok-lend-clause-others : goal.returns-in-Ok-lend-clause-others
returns-in-Ok-lend-clause-others g c i other =
    let back : c.give_back-disks.result.items ≡ shelved c.args.config (unlent_of c.args.config c.args.disks.items) (map disk_in c.run_logs-end.result.logs.items)
    = c.give_back-disks.ensures.disks ∙ (λ i. shelved (c.in-Ok-lend.ensures.config i) (c.in-Ok-lend.ensures.unlent i) (map disk_in c.run_logs-end.result.logs.items)) in
    subst (λ (ds : List g.row.D.Denot). KeepsOthers c.args.config c.args.disks.items ds) (sym back)
    (shelving.others c.args.policy g.D.Disk.content g.D.Disk.image g.D.Disk.faults c.args.config c.args.limit c.args.offers.now c.args.disks.items c.in-Ok-lend.field-0.logs.items c.run_logs-end.result.logs.items c.run_logs-end.result.posted c.run_logs-end.result.end c.know.ensures.acceptors.1 c.know.ensures.coordinators.1 c.requires.twelve c.in-Ok-lend.ensures.logs c.run_logs-end.ensures.run) i other

pub returns-in-Ok-lend-clause-none_fell : goal.returns-in-Ok-lend-clause-none_fell
returns-in-Ok-lend-clause-none_fell g c =
    let back : c.give_back-disks.result.items ≡ shelved c.args.config (unlent_of c.args.config c.args.disks.items) (map disk_in c.run_logs-end.result.logs.items)
    = c.give_back-disks.ensures.disks ∙ (λ i. shelved (c.in-Ok-lend.ensures.config i) (c.in-Ok-lend.ensures.unlent i) (map disk_in c.run_logs-end.result.logs.items)) in
    subst (λ (ds : List g.row.D.Denot). NoneFell g.D.Disk.faults c.args.disks.items ds) (sym back)
    (shelving.none_fell_there c.args.policy g.D.Disk.content g.D.Disk.image g.D.Disk.faults c.args.config c.args.limit c.args.offers.now c.args.disks.items c.in-Ok-lend.field-0.logs.items c.run_logs-end.result.logs.items c.run_logs-end.result.posted c.run_logs-end.result.end c.know.ensures.acceptors.1 c.know.ensures.coordinators.1 c.requires.twelve c.in-Ok-lend.ensures.logs c.run_logs-end.ensures.run)

pub returns-in_default-clause-posted : goal.returns-in_default-clause-posted
returns-in_default-clause-posted g c = tt

pub returns-in_default-clause-none : goal.returns-in_default-clause-none
returns-in_default-clause-none g c n = inl refl

pub returns-in_default-clause-learned : goal.returns-in_default-clause-learned
returns-in_default-clause-learned g c l = tt

pub returns-in_default-clause-quiet : goal.returns-in_default-clause-quiet
returns-in_default-clause-quiet g c l calm = tt

pub returns-in_default-clause-cause : goal.returns-in_default-clause-cause
returns-in_default-clause-cause g c = tt

pub returns-in_default-clause-parts : goal.returns-in_default-clause-parts
returns-in_default-clause-parts g c l = tt

pub returns-in_default-clause-others : goal.returns-in_default-clause-others
returns-in_default-clause-others g c i other = refl

pub returns-in_default-clause-topics : goal.returns-in_default-clause-topics
returns-in_default-clause-topics g c = refl

pub lend-requires-clause-twelve : goal.lend-requires-clause-twelve
lend-requires-clause-twelve g c = c.requires.twelve

pub lend-requires-clause-low : goal.lend-requires-clause-low
lend-requires-clause-low g c = c.requires.low

pub lend-requires-clause-high : goal.lend-requires-clause-high
lend-requires-clause-high g c = c.requires.high

pub run_logs-end-requires-clause-count : goal.run_logs-end-requires-clause-count
run_logs-end-requires-clause-count g c κs within = c.in-Ok-lend.ensures.count

pub run_logs-end-requires-clause-few : goal.run_logs-end-requires-clause-few
run_logs-end-requires-clause-few g c κs within = c.requires.few

pub run_logs-end-requires-clause-known : goal.run_logs-end-requires-clause-known
run_logs-end-requires-clause-known g c κs within = c.requires.known

pub run_logs-end-requires-clause-cells_room : goal.run_logs-end-requires-clause-cells_room
run_logs-end-requires-clause-cells_room g c κs within = c.in-Ok.ensures.cells

pub run_logs-end-requires-clause-logs_room : goal.run_logs-end-requires-clause-logs_room
run_logs-end-requires-clause-logs_room g c κs within = c.in-Ok.ensures.logs

pub returns-in-Ok-lend-clause-posted : goal.returns-in-Ok-lend-clause-posted
returns-in-Ok-lend-clause-posted g c = c.run_logs-end.ensures.run.run

pub returns-in-Ok-lend-clause-none : goal.returns-in-Ok-lend-clause-none
returns-in-Ok-lend-clause-none g c n = inl (c.run_logs-end.ensures.run.none n)

pub returns-in-Ok-lend-clause-learned : goal.returns-in-Ok-lend-clause-learned
returns-in-Ok-lend-clause-learned g c = c.run_logs-end.ensures.run.learned

pub returns-in-Ok-lend-clause-topics : goal.returns-in-Ok-lend-clause-topics
returns-in-Ok-lend-clause-topics g c = c.run_logs-end.ensures.topics

pub returns-in-Err-clause-posted : goal.returns-in-Err-clause-posted
returns-in-Err-clause-posted g c = tt

pub returns-in-Err-clause-none : goal.returns-in-Err-clause-none
returns-in-Err-clause-none g c n = unlent_end c.in-Err.field-0.why c.end_of.result c.end_of.ensures

pub returns-in-Err-clause-learned : goal.returns-in-Err-clause-learned
returns-in-Err-clause-learned g c l = tt

pub returns-in-Err-clause-quiet : goal.returns-in-Err-clause-quiet
returns-in-Err-clause-quiet g c l calm = tt

pub returns-in-Err-clause-cause : goal.returns-in-Err-clause-cause
returns-in-Err-clause-cause g c = unlent_cause g.D.Disk.content g.D.Disk.faults c.args.config c.args.limit c.args.disks.items c.in-Err.field-0.disks.items c.in-Err.field-0.why c.end_of.result c.end_of.ensures c.in-Err.ensures.cause

pub returns-in-Err-clause-parts : goal.returns-in-Err-clause-parts
returns-in-Err-clause-parts g c l = tt

pub returns-in-Err-clause-others : goal.returns-in-Err-clause-others
returns-in-Err-clause-others g c = c.in-Err.ensures.others

pub returns-in-Err-clause-none_fell : goal.returns-in-Err-clause-none_fell
returns-in-Err-clause-none_fell g c = c.in-Err.ensures.none_fell

pub returns-in-Err-clause-topics : goal.returns-in-Err-clause-topics
returns-in-Err-clause-topics g c = refl
