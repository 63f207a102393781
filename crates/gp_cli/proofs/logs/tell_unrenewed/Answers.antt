use Rattle.std.proofs.Common.{sym, subst, arith}
use Rattle.gp_vlog.specs.declared.fault.AppendFault.{AppendFault}
use Rattle.gp_cli.specs.Texts.{full_text}
use Rattle.gp_cli.specs.Outside.{device}
use Rattle.gp_cli.specs.Logs.{append_ending, TellsEnding}
use Rattle.gp_cli.proofs.Causes.{told_of}
use Rattle.gp_cli.proofs.logs.tell_unrenewed.Goals as goal

pub returns-in-Full-clause-told : goal.returns-in-Full-clause-told
returns-in-Full-clause-told g c =
    let before = device (g.K.Sink.written c.args.sink.now) (g.K.Sink.faults c.args.sink.now) in
    let now = device (g.K.Sink.written c.tell_of.new.sink) (g.K.Sink.faults c.tell_of.new.sink) in
    let P : AppendFault → Type 0 = λ why. TellsEnding (append_ending why) before now c.tell_of.result in
    subst P (sym c.in-Full.is) (told_of before now 7 7 c.tell_of.result (full_text c.in-Full.size c.in-Full.need) c.full_text.result (omega arith) c.full_text.ensures c.tell_of.ensures.told c.tell_of.ensures.untold)

pub returns-in-Disk-clause-told : goal.returns-in-Disk-clause-told
returns-in-Disk-clause-told g c =
    let before = device (g.K.Sink.written c.args.sink.now) (g.K.Sink.faults c.args.sink.now) in
    let now = device (g.K.Sink.written c.tell.new.sink) (g.K.Sink.faults c.tell.new.sink) in
    let P : AppendFault → Type 0 = λ why. TellsEnding (append_ending why) before now c.tell.result in
    subst P (sym c.in-Disk.is) c.tell.ensures.told
