use Rattle.std.proofs.Common.{List, ◌<◌, ◌≤◌, None, sym, subst, arith}
use Rattle.gp_msg.specs.declared.record.Record.{Record}
use Rattle.gp_run.specs.Legal.{Legal}
use Rattle.gp_run.specs.Runs.{newest_first}
use Rattle.gp_cli.specs.declared.ran.Trail.{Trail}
use Rattle.gp_cli.specs.Outside.{device, disk_states}
use Rattle.gp_cli.specs.Endings.{Runs, end_text}
use Rattle.gp_cli.specs.Run.{HasRun}
use Rattle.gp_cli.specs.Logs.{TellsEnding}
use Rattle.gp_cli.specs.Trails.{records_in, trail_of}
use Rattle.gp_cli.proofs.NodesCauses.{has_run, legal_trail, nodes_end, nodes_keep, plain_text, each_of}
use Rattle.gp_cli.proofs.nodes.run_plainly.Given as given
use Rattle.gp_cli.proofs.nodes.run_plainly.Goals as goal

-- the disks as they are seen before and after
abbrev Has : (g : given.Over) (c : goal.After-tell_end-status g) → Trail → Type 0
Has g c trail =
    let run = c.run_nodes-run.result in
    let offers = c.args.offers.now in
    HasRun c.args.policy c.args.limit None (disk_states g.D.Disk.content g.D.Disk.faults c.args.disks.items) (disk_states g.D.Disk.content g.D.Disk.faults run.disks.items) offers run.end offers.config (records_in trail) (end_text run.end offers.config (records_in trail))

has : (g : given.Over) (c : goal.After-tell_end-status g) → Has g c c.of-trail.result
has g c =
    let run = c.run_nodes-run.result in
    let says = c.run_nodes-run.ensures in
    let list = records_in (trail_of run.posted) in
    let config = c.args.offers.now.config in
    subst (Has g c) (sym c.of-trail.ensures)
    (has_run g.D.Disk.content g.D.Disk.faults c.args.policy c.args.limit None c.args.offers.now c.args.disks.items run.disks.items run.end run.posted says.posted says.none says.learned says.quiet says.cause says.parts (end_text run.end config list) (plain_text run.end config list))

pub returns-clause-ends : goal.returns-clause-ends
returns-clause-ends g c =
    let run = c.run_nodes-run.result in
    let says = c.run_nodes-run.ensures in
    let offers = c.args.offers.now in
    let before = device (g.K.Sink.written c.args.sink.now) (g.K.Sink.faults c.args.sink.now) in
    let now = device (g.K.Sink.written c.tell_end-status.new.sink) (g.K.Sink.faults c.tell_end-status.new.sink) in
    let right = c.requires.right in
    let range = right.range in
    let some : 0 < offers.config.acceptors = let three = range.three_acceptors in omega (arith, three) in
    let legal : Legal offers.config (newest_first (records_in c.of-trail.result)) =
    subst (λ (t : Trail). Legal offers.config (newest_first (records_in t))) (sym c.of-trail.ensures) (legal_trail c.args.policy offers run.posted says.posted) in
    let told = subst (λ (list : List Record). TellsEnding (Runs run.end offers.config list (end_text run.end offers.config list)) before now c.tell_end-status.result) c.records.ensures c.tell_end-status.ensures.told in
    let list = records_in c.of-trail.result in
    nodes_end c.args.policy c.args.limit None offers (disk_states g.D.Disk.content g.D.Disk.faults c.args.disks.items) (disk_states g.D.Disk.content g.D.Disk.faults run.disks.items) run.end list (end_text run.end offers.config list) before now c.tell_end-status.result some legal (has g c) told

pub returns-clause-others : goal.returns-clause-others
returns-clause-others g c =
    let run = c.run_nodes-run.result in
    let says = c.run_nodes-run.ensures in
    let list = records_in c.of-trail.result in
    nodes_keep c.args.policy c.args.limit None c.args.offers.now (disk_states g.D.Disk.content g.D.Disk.faults c.args.disks.items) (disk_states g.D.Disk.content g.D.Disk.faults run.disks.items) run.end list (end_text run.end c.args.offers.now.config list) g.D.Disk.faults c.args.disks.items run.disks.items (has g c) says.others says.none_fell

pub returns-clause-disks_never_fall : goal.returns-clause-disks_never_fall
returns-clause-disks_never_fall g c =
    let run = c.run_nodes-run.result in
    let says = c.run_nodes-run.ensures in
    each_of (λ was is. g.D.Disk.faults was ≤ g.D.Disk.faults is) c.args.disks.items run.disks.items says.none_fell
