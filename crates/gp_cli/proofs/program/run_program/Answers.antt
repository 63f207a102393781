use Rattle.std.proofs.Common.{◌≡◌, sym, ap, subst, ◌∙◌}
use Rattle.std.specs.Prelude.{is_ok}
use Rattle.gp_cli.specs.Outside.{outside}
use Rattle.gp_cli.specs.Trails.{records_in}
use Rattle.gp_cli.specs.Causes.{RunsNodes}
use Rattle.gp_cli.specs.Logs.{KeepsLast}
use Rattle.gp_cli.specs.Serving.{Ends, EachDisk, KeepsUnused}
use Rattle.gp_cli.specs.Program.{subcommand_in, given_disks, IsProgramCause}
use Rattle.gp_cli.proofs.Causes.{in_its_config}
use Rattle.gp_cli.proofs.NodesCauses.{kept_same}
use Rattle.gp_cli.proofs.Arguments.{did_nothing}
use Rattle.gp_cli.proofs.program.run_program.Goals as goal
use Rattle.gp_cli.proofs.program.run_program.Goals.{in-Ok-1, in-Err-1}

pub returns-in-Ok-clause-ends : goal.returns-in-Ok-clause-ends
returns-in-Ok-clause-ends g c =
    let now = outside g.S.Source.rest g.S.Source.faults g.K.Sink.written g.K.Sink.faults g.D.Disk.content g.D.Disk.faults c.run_arguments.new.source c.run_arguments.new.sink c.run_arguments.result.disks.items in
    subst (λ disks. Ends (IsProgramCause c.args.arguments (is_ok disks)) (outside g.S.Source.rest g.S.Source.faults g.K.Sink.written g.K.Sink.faults g.D.Disk.content g.D.Disk.faults c.args.source.now c.args.sink.now (given_disks disks)) now c.run_arguments.result.status (records_in c.run_arguments.result.trail))
    (sym c.in-Ok.is) c.run_arguments.ensures.ends

pub returns-in-Ok-clause-crash : goal.returns-in-Ok-clause-crash
returns-in-Ok-clause-crash g c =
    subst (λ disks. ¬ RunsNodes (subcommand_in c.args.arguments) → EachDisk (KeepsLast g.D.Disk.content g.D.Disk.image g.D.Disk.moment g.D.Disk.since) (given_disks disks) c.run_arguments.result.disks.items) (sym c.in-Ok.is) c.run_arguments.ensures.crash

pub returns-in-Ok-clause-others : goal.returns-in-Ok-clause-others
returns-in-Ok-clause-others g c =
    let now = outside g.S.Source.rest g.S.Source.faults g.K.Sink.written g.K.Sink.faults g.D.Disk.content g.D.Disk.faults c.run_arguments.new.source c.run_arguments.new.sink c.run_arguments.result.disks.items in
    subst (λ disks. KeepsUnused (subcommand_in c.args.arguments) (IsProgramCause c.args.arguments (is_ok disks) (outside g.S.Source.rest g.S.Source.faults g.K.Sink.written g.K.Sink.faults g.D.Disk.content g.D.Disk.faults c.args.source.now c.args.sink.now (given_disks disks)) now) (given_disks disks) c.run_arguments.result.disks.items)
    (sym c.in-Ok.is) c.run_arguments.ensures.others

pub returns-in-Err-clause-ends : goal.returns-in-Err-clause-ends
returns-in-Err-clause-ends g c =
    let same : c.match-arguments.result ≡ c.starved.result = elim c.match-arguments.branch [ in-Ok-1 w ↦ w.result-is | in-Err-1 w ↦ w.result-is ] in
    let none = ap (λ ran. ran.disks.items) same ∙ c.starved.ensures.disks ∙ c.new.ensures.items ∙ sym (ap (λ disks. given_disks disks) c.in-Err.is) in
    did_nothing (is_ok c.args.disks) c.args.arguments _ _ _ _
    (ap (λ ds. outside g.S.Source.rest g.S.Source.faults g.K.Sink.written g.K.Sink.faults g.D.Disk.content g.D.Disk.faults c.args.source.now c.args.sink.now ds) none)
    (λ e. absurd (let differ = sym e ∙ ap (λ disks. is_ok disks) c.in-Err.is in cc)) (ap (λ ran. ran.status) same ∙ c.starved.ensures.status) (ap (λ ran. records_in ran.trail) same ∙ ap records_in c.starved.ensures.trail)

pub returns-in-Err-clause-agreement : goal.returns-in-Err-clause-agreement
returns-in-Err-clause-agreement g c = in_its_config _ _ _ _ _ (returns-in-Err-clause-ends g c)

pub returns-in-Err-clause-others : goal.returns-in-Err-clause-others
returns-in-Err-clause-others g c =
    let same : c.match-arguments.result ≡ c.starved.result = elim c.match-arguments.branch [ in-Ok-1 w ↦ w.result-is | in-Err-1 w ↦ w.result-is ] in
    let none = ap (λ ran. ran.disks.items) same ∙ c.starved.ensures.disks ∙ c.new.ensures.items ∙ sym (ap (λ disks. given_disks disks) c.in-Err.is) in
    kept_same (subcommand_in c.args.arguments) _ _ _ _ _ _ _ (returns-in-Err-clause-ends g c) none
