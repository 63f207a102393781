use Rattle.std.proofs.Common.{◌≡◌, Option, Some, sym, ap, subst, ◌∙◌}
use Rattle.gp_cli.specs.declared.subcommand.Subcommand.{Subcommand}
use Rattle.gp_cli.specs.declared.subcommand.Subcommand.TheVariants.{Run}
use Rattle.gp_cli.specs.Subcommands.{texts_of, named}
use Rattle.gp_cli.specs.Outside.{Outside, outside}
use Rattle.gp_cli.specs.Causes.{IsCauseFor}
use Rattle.gp_cli.specs.Serving.{KeepsUnused}
use Rattle.gp_cli.proofs.serving.serve.Goals as goal

pub returns-in-Some-Run-clause-others : goal.returns-in-Some-Run-clause-others
returns-in-Some-Run-clause-others g c =
    let before : Outside = outside g.S.Source.rest g.S.Source.faults g.K.Sink.written g.K.Sink.faults g.D.Disk.content g.D.Disk.faults c.args.source.now c.args.sink.now c.args.disks.items in
    let now : Outside = outside g.S.Source.rest g.S.Source.faults g.K.Sink.written g.K.Sink.faults g.D.Disk.content g.D.Disk.faults c.read_and_run.new.source c.read_and_run.new.sink c.read_and_run.result.disks.items in
    let is : named (texts_of c.args.words.now) ≡ Some (Run c.in-Some-Run.policy c.in-Some-Run.limit c.in-Some-Run.viewed) = sym c.subcommand_of.ensures.named ∙ c.in-Some-Run.is ∙ ap (λ (sub : Subcommand). Some sub) c.in-Some-Run.field-0-is in
    let P : Option Subcommand → Type 0 = λ sub. KeepsUnused sub (IsCauseFor sub before now) c.args.disks.items c.read_and_run.result.disks.items in
    subst P (sym is) c.read_and_run.ensures.others
