use Rattle.std.proofs.Common.{refl, subst}
use Rattle.gp_round.specs.Counts.{Counts}
use Rattle.gp_cli.specs.Outside.{device}
use Rattle.gp_cli.specs.Endings.{Drives}
use Rattle.gp_cli.specs.Causes.{IsRunCause}
use Rattle.gp_cli.specs.Serving.{EndsBy}
use Rattle.gp_cli.proofs.Causes.{printed_ends}
use Rattle.gp_cli.proofs.runs.drive_and_report.Goals as goal

pub returns-clause-ends : goal.returns-clause-ends
returns-clause-ends g c =
    let before = device (g.K.Sink.written c.args.sink.now) (g.K.Sink.faults c.args.sink.now) in
    let now = device (g.K.Sink.written c.print.new.sink) (g.K.Sink.faults c.print.new.sink) in
    let P : Counts → Type 0 = λ config. EndsBy (IsRunCause (Drives config c.args.commands)) before now c.print.result.status c.print.result.trail in
    subst P c.driven_config.ensures
    (printed_ends (Drives c.driven_config.result c.args.commands) c.driven_config.result before now _ _ c.driven-made.result tt refl refl c.driven-made.ensures.run c.driven-made.ensures.text c.driven-made.ensures.agreement c.print.ensures.made c.print.ensures.starved)
