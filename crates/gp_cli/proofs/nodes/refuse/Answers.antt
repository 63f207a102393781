use Rattle.std.proofs.Common.{ℕ, None, inl, refl, sym, subst, ap, arith}
use Rattle.gp_cli.specs.Texts.{refusal_text}
use Rattle.gp_cli.specs.Outside.{device, disk_states, Told}
use Rattle.gp_cli.specs.Endings.{Refuses}
use Rattle.gp_cli.specs.Run.{IsOffersCause}
use Rattle.gp_cli.specs.Logs.{TellsEnding}
use Rattle.gp_cli.specs.Trails.{records_in}
use Rattle.gp_cli.proofs.Causes.{starved, without_run, told_of}
use Rattle.gp_cli.proofs.NodesCauses.{of_none, none_ran, read_refused}
use Rattle.gp_cli.proofs.nodes.refuse.Given as given
use Rattle.gp_cli.proofs.nodes.refuse.Goals as goal

-- the refusal was told
told : (g : given.Over) (c : goal.After-without_nodes g)
    → Told (device (g.K.Sink.written c.args.sink.now) (g.K.Sink.faults c.args.sink.now)) (device (g.K.Sink.written c.tell_of-status.new.sink) (g.K.Sink.faults c.tell_of-status.new.sink)) (refusal_text c.in-Bad.line c.in-Bad.reason) 3 3 c.tell_of-status.result
told g c =
    told_of _ _ 3 3 c.tell_of-status.result (refusal_text c.in-Bad.line c.in-Bad.reason) c.refusal_text-text.result (omega arith) c.refusal_text-text.ensures c.tell_of-status.ensures.told c.tell_of-status.ensures.untold

pub returns-in-Bad-clause-ends : goal.returns-in-Bad-clause-ends
returns-in-Bad-clause-ends g c policy limit viewed read reads =
    let before = device (g.K.Sink.written c.args.sink.now) (g.K.Sink.faults c.args.sink.now) in
    let now = device (g.K.Sink.written c.tell_of-status.new.sink) (g.K.Sink.faults c.tell_of-status.new.sink) in
    let old = disk_states g.D.Disk.content g.D.Disk.faults c.args.disks.items in
    let new = disk_states g.D.Disk.content g.D.Disk.faults c.without_nodes.result.disks.items in
    let says = read_refused read c.args.why c.in-Bad.line c.in-Bad.reason c.in-Bad.is reads in
    let P : ℕ → Type 0 = λ status. TellsEnding (Refuses c.in-Bad.line c.in-Bad.reason None) before now status in
    without_run (IsOffersCause policy limit viewed read old new) (Refuses c.in-Bad.line c.in-Bad.reason None) before now c.without_nodes.result.status (records_in c.without_nodes.result.trail) (refl, says) refl refl
    (ap records_in c.without_nodes.ensures.trail) (subst P (sym c.without_nodes.ensures.status) (told g c))

pub returns-in-Bad-clause-posted : goal.returns-in-Bad-clause-posted
returns-in-Bad-clause-posted g c =
    none_ran c.without_nodes.result.trail c.without_nodes.result.status c.tell_of-status.result c.without_nodes.ensures.trail c.without_nodes.ensures.status
    (of_none _ _ (refusal_text c.in-Bad.line c.in-Bad.reason) 3 c.tell_of-status.result (inl refl) (told g c))

pub returns-in-NoMemory-clause-ends : goal.returns-in-NoMemory-clause-ends
returns-in-NoMemory-clause-ends g c policy limit viewed read reads =
    let old = disk_states g.D.Disk.content g.D.Disk.faults c.args.disks.items in
    let new = disk_states g.D.Disk.content g.D.Disk.faults c.without_nodes-in-NoMemory.result.disks.items in
    starved (IsOffersCause policy limit viewed read old new) _ _ _ tt c.without_nodes-in-NoMemory.ensures.status (ap records_in c.without_nodes-in-NoMemory.ensures.trail)
