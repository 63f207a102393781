use Rattle.std.proofs.Common.{List, ◌<◌, ◌≤◌, Some, sym, ap, subst, arith}
use Rattle.gp_msg.specs.declared.record.Record.{Record}
use Rattle.gp_text.specs.Offering.{Offered}
use Rattle.gp_cli.specs.declared.ran.Trail.{Trail}
use Rattle.gp_cli.specs.Outside.{device, disk_states}
use Rattle.gp_cli.specs.Run.{HasRun, IsOffersCause}
use Rattle.gp_cli.specs.Serving.{EndsBy}
use Rattle.gp_cli.specs.Viewed.{TellsViewed}
use Rattle.gp_cli.specs.Trails.{records_in, trail_of}
use Rattle.gp_cli.specs.declared.subcommand.Subcommand.TheVariants.{Run}
use Rattle.gp_cli.proofs.Causes.{starved}
use Rattle.gp_cli.proofs.NodesCauses.{kept_same, has_run, has_viewed, legal_trail, nodes_end, nodes_keep, each_of}
use Rattle.gp_cli.proofs.nodes.run_viewed.Given as given
use Rattle.gp_cli.proofs.nodes.run_viewed.Goals as goal

-- how it was told, by the records of the trail
abbrev Told : (g : given.Over) (c : goal.After-tell_viewed-status g) → List Record → Type 0
Told g c list =
    let before = device (g.K.Sink.written c.args.sink.now) (g.K.Sink.faults c.args.sink.now) in
    let now = device (g.K.Sink.written c.tell_viewed-status.new.sink) (g.K.Sink.faults c.tell_viewed-status.new.sink) in
    TellsViewed c.args.key c.run_nodes-run.result.end c.args.offers.now.config list before now c.tell_viewed-status.result

told : (g : given.Over) (c : goal.After-tell_viewed-status g) → Told g c (records_in (trail_of c.run_nodes-run.result.posted))
told g c = subst (λ (t : Trail). Told g c (records_in t)) c.of-trail.ensures (subst (Told g c) c.records.ensures c.tell_viewed-status.ensures.told)

has : (g : given.Over) (c : goal.After-tell_viewed-status g)
    → let run = c.run_nodes-run.result in
    let offers = c.args.offers.now in
    HasRun c.args.policy c.args.limit (Some c.args.key) (disk_states g.D.Disk.content g.D.Disk.faults c.args.disks.items) (disk_states g.D.Disk.content g.D.Disk.faults run.disks.items) offers (told g c).why offers.config (records_in (trail_of run.posted)) (told g c).text
has g c =
    let run = c.run_nodes-run.result in
    let says = c.run_nodes-run.ensures in
    let before = device (g.K.Sink.written c.args.sink.now) (g.K.Sink.faults c.args.sink.now) in
    let now = device (g.K.Sink.written c.tell_viewed-status.new.sink) (g.K.Sink.faults c.tell_viewed-status.new.sink) in
    has_viewed g.D.Disk.content g.D.Disk.faults c.args.policy c.args.limit c.args.key c.args.offers.now c.args.disks.items run.disks.items run.posted before now c.tell_viewed-status.result says.posted run.end
    (has_run g.D.Disk.content g.D.Disk.faults c.args.policy c.args.limit (Some c.args.key) c.args.offers.now c.args.disks.items run.disks.items run.end run.posted says.posted says.none says.learned says.quiet says.cause says.parts)
    (told g c)

pub returns-clause-ends : goal.returns-clause-ends
returns-clause-ends g c =
    let run = c.run_nodes-run.result in
    let says = c.run_nodes-run.ensures in
    let offers = c.args.offers.now in
    let before = device (g.K.Sink.written c.args.sink.now) (g.K.Sink.faults c.args.sink.now) in
    let now = device (g.K.Sink.written c.tell_viewed-status.new.sink) (g.K.Sink.faults c.tell_viewed-status.new.sink) in
    let old = disk_states g.D.Disk.content g.D.Disk.faults c.args.disks.items in
    let new = disk_states g.D.Disk.content g.D.Disk.faults run.disks.items in
    let right = c.requires.right in
    let range = right.range in
    let some : 0 < offers.config.acceptors = let three = range.three_acceptors in omega (arith, three) in
    let t = told g c in
    let ended = nodes_end c.args.policy c.args.limit (Some c.args.key) offers old new t.why (records_in (trail_of run.posted)) t.text before now c.tell_viewed-status.result some (legal_trail c.args.policy offers run.posted says.posted) (has g c) t.told in
    subst (λ (t : Trail). EndsBy (IsOffersCause c.args.policy c.args.limit (Some c.args.key) (Offered offers) old new) before now c.tell_viewed-status.result (records_in t)) (sym c.of-trail.ensures) ended

pub returns-clause-others : goal.returns-clause-others
returns-clause-others g c =
    let run = c.run_nodes-run.result in
    let says = c.run_nodes-run.ensures in
    let t = told g c in
    nodes_keep c.args.policy c.args.limit (Some c.args.key) c.args.offers.now (disk_states g.D.Disk.content g.D.Disk.faults c.args.disks.items) (disk_states g.D.Disk.content g.D.Disk.faults run.disks.items) t.why (records_in (trail_of run.posted)) t.text g.D.Disk.faults c.args.disks.items run.disks.items (has g c) says.others says.none_fell

pub returns-clause-disks_never_fall : goal.returns-clause-disks_never_fall
returns-clause-disks_never_fall g c =
    let run = c.run_nodes-run.result in
    let says = c.run_nodes-run.ensures in
    each_of (λ was is. g.D.Disk.faults was ≤ g.D.Disk.faults is) c.args.disks.items run.disks.items says.none_fell

pub returns-in_default-clause-ends : goal.returns-in_default-clause-ends
returns-in_default-clause-ends g c =
    let old = disk_states g.D.Disk.content g.D.Disk.faults c.args.disks.items in
    let new = disk_states g.D.Disk.content g.D.Disk.faults c.without_nodes.result.disks.items in
    starved (IsOffersCause c.args.policy c.args.limit (Some c.args.key) (Offered c.args.offers.now) old new) _ _ _ tt c.without_nodes.ensures.status (ap records_in c.without_nodes.ensures.trail)

pub returns-in_default-clause-others : goal.returns-in_default-clause-others
returns-in_default-clause-others g c = kept_same (Some (Run c.args.policy c.args.limit (Some c.args.key))) _ _ _ _ _ _ _ (returns-in_default-clause-ends g c) c.without_nodes.ensures.disks
