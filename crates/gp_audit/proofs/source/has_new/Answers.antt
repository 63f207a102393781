use Rattle.std.proofs.Common.{sym, ap, ◌∙◌}
use Rattle.std.specs.Prelude.{not}
use Rattle.gp_history.specs.History.{has}
use Rattle.gp_history.specs.Sequence.{history_of}
use Rattle.gp_history.proofs.Places.{all_stop, all_step}
use Rattle.gp_audit.proofs.source.has_new.Goals as goal

pub returns-then-not-has : goal.returns-then-not-has
returns-then-not-has c = sym (ap not (all_stop (has (history_of c.args.known.now)) c.args.learned.now c.loop-i.i c.at.result.now (sym c.has.ensures ∙ c.if-not-has.true) c.at.ensures))

pub loop-i-preserved : goal.loop-i-preserved
loop-i-preserved c = all_step (has (history_of c.args.known.now)) c.args.learned.now c.loop-i.i c.at.result.now c.loop-i.invariant (sym c.has.ensures ∙ c.if-not-has.false) c.at.ensures
