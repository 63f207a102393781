use Rattle.std.proofs.Common.{ℕ, Some, refl, sym, subst, ap, rules}
use Rattle.gp_cli.specs.declared.subcommand.Subcommand.TheVariants.{Run}
use Rattle.gp_cli.specs.Outside.{device, disk_states}
use Rattle.gp_cli.specs.Endings.{Unread}
use Rattle.gp_cli.specs.Run.{IsNodesCause}
use Rattle.gp_cli.specs.Logs.{TellsEnding}
use Rattle.gp_cli.specs.Trails.{records_in}
use Rattle.gp_cli.proofs.Causes.{starved, without_run}
use Rattle.gp_cli.proofs.NodesCauses.{kept_same, script_ends, script_keeps}
use Rattle.gp_cli.proofs.nodes.read_and_run.Goals as goal

pub returns-in-Ok-clause-ends : goal.returns-in-Ok-clause-ends
returns-in-Ok-clause-ends g c =
    script_ends c.args.policy c.args.limit c.args.viewed _ _ _ _ _ _ _ _ c.in-Ok.script.items c.deref.result.now c.deref.ensures.value c.in-Ok.ensures.whole (search rules) c.run_script.ensures.ends

pub returns-in-Ok-clause-others : goal.returns-in-Ok-clause-others
returns-in-Ok-clause-others g c =
    script_keeps c.args.policy c.args.limit c.args.viewed _ _ _ _ _ _ c.in-Ok.script.items c.deref.result.now c.deref.ensures.value c.in-Ok.ensures.whole (search rules) c.run_script.ensures.others

pub returns-in-Err-Failed-clause-ends : goal.returns-in-Err-Failed-clause-ends
returns-in-Err-Failed-clause-ends g c =
    let before = device (g.K.Sink.written c.args.sink.now) (g.K.Sink.faults c.args.sink.now) in
    let now = device (g.K.Sink.written c.tell-status.new.sink) (g.K.Sink.faults c.tell-status.new.sink) in
    let old = disk_states g.D.Disk.content g.D.Disk.faults c.args.disks.items in
    let new = disk_states g.D.Disk.content g.D.Disk.faults c.without_nodes.result.disks.items in
    let P : ℕ → Type 0 = λ status. TellsEnding Unread before now status in
    without_run (IsNodesCause c.args.policy c.args.limit c.args.viewed (device (g.S.Source.rest c.args.source.now) (g.S.Source.faults c.args.source.now)) (device (g.S.Source.rest c.read_up_to.new.source) (g.S.Source.faults c.read_up_to.new.source)) old new)
    Unread before now _ _ (search rules) refl refl (ap records_in c.without_nodes.ensures.trail) (subst P (sym c.without_nodes.ensures.status) c.tell-status.ensures.told)

pub returns-in-Err-Failed-clause-others : goal.returns-in-Err-Failed-clause-others
returns-in-Err-Failed-clause-others g c = kept_same (Some (Run c.args.policy c.args.limit c.args.viewed)) _ _ _ _ _ _ _ (returns-in-Err-Failed-clause-ends g c) c.without_nodes.ensures.disks

pub returns-in-Err-NoMemory-clause-ends : goal.returns-in-Err-NoMemory-clause-ends
returns-in-Err-NoMemory-clause-ends g c =
    let old = disk_states g.D.Disk.content g.D.Disk.faults c.args.disks.items in
    let new = disk_states g.D.Disk.content g.D.Disk.faults c.without_nodes-in-Err-NoMemory.result.disks.items in
    starved (IsNodesCause c.args.policy c.args.limit c.args.viewed (device (g.S.Source.rest c.args.source.now) (g.S.Source.faults c.args.source.now)) (device (g.S.Source.rest c.read_up_to.new.source) (g.S.Source.faults c.read_up_to.new.source)) old new)
    _ _ _ (search rules) c.without_nodes-in-Err-NoMemory.ensures.status (ap records_in c.without_nodes-in-Err-NoMemory.ensures.trail)

pub returns-in-Err-NoMemory-clause-others : goal.returns-in-Err-NoMemory-clause-others
returns-in-Err-NoMemory-clause-others g c = kept_same (Some (Run c.args.policy c.args.limit c.args.viewed)) _ _ _ _ _ _ _ (returns-in-Err-NoMemory-clause-ends g c) c.without_nodes-in-Err-NoMemory.ensures.disks
