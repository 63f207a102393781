use Rattle.std.proofs.Common.{sym, subst, arith}
use Rattle.gp_ending.specs.declared.ends.RunEnd.{RunEnd}
use Rattle.gp_cli.specs.Texts.{full_text, broken_text}
use Rattle.gp_cli.specs.Outside.{device}
use Rattle.gp_cli.specs.Endings.{Runs, end_text}
use Rattle.gp_cli.specs.Logs.{TellsEnding}
use Rattle.gp_cli.proofs.Causes.{told_of}
use Rattle.gp_cli.proofs.nodes.tell_end.Goals as goal

pub returns-in-Disk-clause-told : goal.returns-in-Disk-clause-told
returns-in-Disk-clause-told g c =
    let before = device (g.K.Sink.written c.args.sink.now) (g.K.Sink.faults c.args.sink.now) in
    let now = device (g.K.Sink.written c.tell.new.sink) (g.K.Sink.faults c.tell.new.sink) in
    let P : RunEnd → Type 0 = λ why. TellsEnding (Runs why c.args.config.now c.args.records.now (end_text why c.args.config.now c.args.records.now)) before now c.tell.result in
    subst P (sym c.in-Disk.is) c.tell.ensures.told

pub returns-in-Full-clause-told : goal.returns-in-Full-clause-told
returns-in-Full-clause-told g c =
    let before = device (g.K.Sink.written c.args.sink.now) (g.K.Sink.faults c.args.sink.now) in
    let now = device (g.K.Sink.written c.tell_of-in-Full.new.sink) (g.K.Sink.faults c.tell_of-in-Full.new.sink) in
    let P : RunEnd → Type 0 = λ why. TellsEnding (Runs why c.args.config.now c.args.records.now (end_text why c.args.config.now c.args.records.now)) before now c.tell_of-in-Full.result in
    subst P (sym c.in-Full.is) (told_of before now 7 7 c.tell_of-in-Full.result (full_text c.in-Full.size c.in-Full.need) c.full_text.result (omega arith) c.full_text.ensures c.tell_of-in-Full.ensures.told c.tell_of-in-Full.ensures.untold)

pub returns-in-NotLog-clause-told : goal.returns-in-NotLog-clause-told
returns-in-NotLog-clause-told g c =
    let before = device (g.K.Sink.written c.args.sink.now) (g.K.Sink.faults c.args.sink.now) in
    let now = device (g.K.Sink.written c.tell_of-in-NotLog.new.sink) (g.K.Sink.faults c.tell_of-in-NotLog.new.sink) in
    let P : RunEnd → Type 0 = λ why. TellsEnding (Runs why c.args.config.now c.args.records.now (end_text why c.args.config.now c.args.records.now)) before now c.tell_of-in-NotLog.result in
    subst P (sym c.in-NotLog.is) (told_of before now 8 8 c.tell_of-in-NotLog.result (broken_text c.in-NotLog.at) c.broken_text.result (omega arith) c.broken_text.ensures c.tell_of-in-NotLog.ensures.told c.tell_of-in-NotLog.ensures.untold)

pub returns-in-Changed-clause-told : goal.returns-in-Changed-clause-told
returns-in-Changed-clause-told g c =
    let before = device (g.K.Sink.written c.args.sink.now) (g.K.Sink.faults c.args.sink.now) in
    let now = device (g.K.Sink.written c.tell-in-Changed.new.sink) (g.K.Sink.faults c.tell-in-Changed.new.sink) in
    let P : RunEnd → Type 0 = λ why. TellsEnding (Runs why c.args.config.now c.args.records.now (end_text why c.args.config.now c.args.records.now)) before now c.tell-in-Changed.result in
    subst P (sym c.in-Changed.is) c.tell-in-Changed.ensures.told
