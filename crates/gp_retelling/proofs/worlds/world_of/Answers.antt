use Rattle.std.proofs.Common.{List, sym, subst, rules}
use Rattle.gp_round.specs.Counts.{Counts}
use Rattle.gp_msg.specs.Messages.{Entry, entry_of}
use Rattle.gp_run.specs.Legal.{Follows}
use Rattle.gp_world.specs.State.{entries_of}
use Rattle.gp_retelling.proofs.Following.{follows_before}
use Rattle.gp_retelling.proofs.worlds.world_of.Goals as goal

pub retell-requires-clause-follows : goal.retell-requires-clause-follows
retell-requires-clause-follows c =
    let world = c.loop-at.world in
    let r = c.index-records-at.result in
    let there = follows_before c.args.config c.args.records.now c.loop-at.at r c.requires c.loop-at-test.true c.index-records-at.is in
    subst (λ (config : Counts). Follows config (entries_of world) (entry_of r)) (sym c.loop-at.invariant.0)
    (subst (λ (es : List Entry). Follows c.args.config es (entry_of r)) (sym c.loop-at.invariant.1) there)

pub loop-at-init : goal.loop-at-init
loop-at-init c = search rules
