use Rattle.std.proofs.Common.{ℕ, take, sym, subst}
use Rattle.gp_run.specs.Runs.{newest_first}
use Rattle.gp_audit.specs.Replays.{IsReplayed}
use Rattle.gp_audit.proofs.certifying.replay_of.Goals as goal

pub step-requires-clause-before : goal.step-requires-clause-before
step-requires-clause-before c = let i = c.loop-at.invariant in subst (λ (n : ℕ). IsReplayed c.args.world.now.config (newest_first (take c.loop-at.at c.args.world.now.records)) n c.loop-at.replay) (sym i.number) i
