use Rattle.std.proofs.Common.{sym, subst, arith}
use Rattle.gp_vlog.specs.declared.fault.OpenFault.{OpenFault}
use Rattle.gp_cli.specs.Texts.{broken_text}
use Rattle.gp_cli.specs.Outside.{device}
use Rattle.gp_cli.specs.Logs.{open_ending, TellsEnding}
use Rattle.gp_cli.proofs.Causes.{told_of}
use Rattle.gp_cli.proofs.logs.tell_unopened.Goals as goal

pub returns-in-NotLog-clause-told : goal.returns-in-NotLog-clause-told
returns-in-NotLog-clause-told g c =
    let before = device (g.K.Sink.written c.args.sink.now) (g.K.Sink.faults c.args.sink.now) in
    let now = device (g.K.Sink.written c.tell_of.new.sink) (g.K.Sink.faults c.tell_of.new.sink) in
    let P : OpenFault → Type 0 = λ why. TellsEnding (open_ending why) before now c.tell_of.result in
    subst P (sym c.in-NotLog.is) (told_of before now 8 8 c.tell_of.result (broken_text c.in-NotLog.at) c.broken_text.result (omega arith) c.broken_text.ensures c.tell_of.ensures.told c.tell_of.ensures.untold)

pub returns-in-Disk-clause-told : goal.returns-in-Disk-clause-told
returns-in-Disk-clause-told g c =
    let before = device (g.K.Sink.written c.args.sink.now) (g.K.Sink.faults c.args.sink.now) in
    let now = device (g.K.Sink.written c.tell.new.sink) (g.K.Sink.faults c.tell.new.sink) in
    let P : OpenFault → Type 0 = λ why. TellsEnding (open_ending why) before now c.tell.result in
    subst P (sym c.in-Disk.is) c.tell.ensures.told
