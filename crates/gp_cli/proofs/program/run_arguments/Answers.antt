use Rattle.std.proofs.Common.{true, sym, subst, ap}
use Rattle.std.specs.Prelude.{Option}
use Rattle.gp_cli.specs.declared.subcommand.Subcommand.{Subcommand}
use Rattle.gp_cli.specs.Subcommands.{texts_of}
use Rattle.gp_cli.specs.Outside.{outside}
use Rattle.gp_cli.specs.Causes.{IsReader, RunsNodes}
use Rattle.gp_cli.specs.Trails.{records_in, IsMadeFor}
use Rattle.gp_cli.specs.Program.{AreWords, subcommand_in}
use Rattle.gp_cli.proofs.Causes.{in_its_config}
use Rattle.gp_cli.proofs.NodesCauses.{kept_same}
use Rattle.gp_cli.proofs.Arguments.{did_nothing, by_arguments, keeps_by_arguments, named_is}
use Rattle.gp_cli.proofs.program.run_arguments.Given as given
use Rattle.gp_cli.proofs.program.run_arguments.Goals as goal

-- the words that `serve` got are those of the arguments
are : (g : given.Over) (c : goal.After-drop-words g) → AreWords c.args.arguments (texts_of c.deref.result.now)
are g c = subst (λ ws. AreWords c.args.arguments (texts_of ws)) (sym c.deref.ensures.value) c.in-Ok.ensures.words

pub returns-in-Ok-clause-ends : goal.returns-in-Ok-clause-ends
returns-in-Ok-clause-ends g c = by_arguments c.args.arguments (texts_of c.deref.result.now) _ _ _ _ (are g c) c.serve.ensures.ends

pub returns-in-Ok-clause-agreement : goal.returns-in-Ok-clause-agreement
returns-in-Ok-clause-agreement g c = in_its_config _ _ _ _ _ (returns-in-Ok-clause-ends g c)

pub returns-in-Ok-clause-untouched : goal.returns-in-Ok-clause-untouched
returns-in-Ok-clause-untouched g c = λ none. c.serve.ensures.untouched (subst (λ (sub : Option Subcommand). ¬ IsReader sub) (sym (named_is c.args.arguments (texts_of c.deref.result.now) (are g c))) none)

pub returns-in-Ok-clause-others : goal.returns-in-Ok-clause-others
returns-in-Ok-clause-others g c = keeps_by_arguments c.args.arguments (texts_of c.deref.result.now) _ _ _ _ (are g c) c.serve.ensures.others

pub returns-in-Ok-clause-posted : goal.returns-in-Ok-clause-posted
returns-in-Ok-clause-posted g c = subst (λ (sub : Option Subcommand). IsMadeFor sub c.serve.result.status c.serve.result.trail) (named_is c.args.arguments (texts_of c.deref.result.now) (are g c)) c.serve.ensures.posted

pub returns-in-Ok-clause-crash : goal.returns-in-Ok-clause-crash
returns-in-Ok-clause-crash g c = λ no_nodes. c.serve.ensures.crash (subst (λ (sub : Option Subcommand). ¬ RunsNodes sub) (sym (named_is c.args.arguments (texts_of c.deref.result.now) (are g c))) no_nodes)

pub returns-in-Err-clause-ends : goal.returns-in-Err-clause-ends
returns-in-Err-clause-ends g c = did_nothing true c.args.arguments _ _ _ _
    (ap (λ ds. outside g.S.Source.rest g.S.Source.faults g.K.Sink.written g.K.Sink.faults g.D.Disk.content g.D.Disk.faults c.args.source.now c.args.sink.now ds) c.starved.ensures.disks) (λ e. c.in-Err.ensures.refused) c.starved.ensures.status (ap records_in c.starved.ensures.trail)

pub returns-in-Err-clause-agreement : goal.returns-in-Err-clause-agreement
returns-in-Err-clause-agreement g c = in_its_config _ _ _ _ _ (returns-in-Err-clause-ends g c)

pub returns-in-Err-clause-others : goal.returns-in-Err-clause-others
returns-in-Err-clause-others g c = kept_same (subcommand_in c.args.arguments) _ _ _ _ _ _ _ (returns-in-Err-clause-ends g c) c.starved.ensures.disks
