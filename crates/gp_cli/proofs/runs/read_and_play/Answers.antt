use Rattle.std.proofs.Common.{ℕ, refl, sym, subst, rules}
use Rattle.gp_cli.specs.Outside.{device}
use Rattle.gp_cli.specs.Endings.{Unread}
use Rattle.gp_cli.specs.Causes.{IsReadCause}
use Rattle.gp_cli.specs.Logs.{TellsEnding}
use Rattle.gp_cli.proofs.Causes.{read_ends, starved, without_run}
use Rattle.gp_cli.proofs.runs.read_and_play.Goals as goal

pub returns-in-Ok-clause-ends : goal.returns-in-Ok-clause-ends
returns-in-Ok-clause-ends g c = read_ends c.args.operations _ _ _ _ _ _ c.in-Ok.script.items c.deref.result.now c.deref.ensures.value c.in-Ok.ensures.whole (search rules) c.play_script.ensures.ends

pub returns-in-Err-Failed-clause-ends : goal.returns-in-Err-Failed-clause-ends
returns-in-Err-Failed-clause-ends g c =
    without_run (IsReadCause c.args.operations (device (g.S.Source.rest c.args.source.now) (g.S.Source.faults c.args.source.now)) (device (g.S.Source.rest c.read_up_to.new.source) (g.S.Source.faults c.read_up_to.new.source)))
    Unread _ _ _ _ (search rules) refl refl c.without_run.ensures.trail
    (let P : ℕ → Type 0 = λ s. TellsEnding Unread (device (g.K.Sink.written c.args.sink.now) (g.K.Sink.faults c.args.sink.now)) (device (g.K.Sink.written c.tell-status.new.sink) (g.K.Sink.faults c.tell-status.new.sink)) s in subst P (sym c.without_run.ensures.status) c.tell-status.ensures.told)

pub returns-in-Err-NoMemory-clause-ends : goal.returns-in-Err-NoMemory-clause-ends
returns-in-Err-NoMemory-clause-ends g c =
    starved (IsReadCause c.args.operations (device (g.S.Source.rest c.args.source.now) (g.S.Source.faults c.args.source.now)) (device (g.S.Source.rest c.read_up_to.new.source) (g.S.Source.faults c.read_up_to.new.source)))
    _ _ _ (search rules) c.without_run-in-Err-NoMemory.ensures.status c.without_run-in-Err-NoMemory.ensures.trail
