use Rattle.std.proofs.Common.{refl}
use Rattle.gp_history.specs.Sequence.{history_of}
use Rattle.gp_replica.proofs.Steps.{may_run, ran_more, runs_on_either}
use Rattle.gp_replica.proofs.replica.Replica.run_all.Goals as goal

pub run_next-requires-clause-fresh : goal.run_next-requires-clause-fresh
run_next-requires-clause-fresh g c =
    let ordered = c.args.ordered.now in
    (may_run (history_of ordered) c.args.self.now ordered c.loop-place.self c.loop-place.next c.loop-place.place c.at-c.result.now c.loop-place.invariant refl c.requires.identities c.len-place-end.ensures.distinct c.at-c.ensures).fresh

pub run_next-requires-clause-identities : goal.run_next-requires-clause-identities
run_next-requires-clause-identities g c =
    let ordered = c.args.ordered.now in
    (may_run (history_of ordered) c.args.self.now ordered c.loop-place.self c.loop-place.next c.loop-place.place c.at-c.result.now c.loop-place.invariant refl c.requires.identities c.len-place-end.ensures.distinct c.at-c.ensures).identities

pub returns-in_err-run_next-clause-some : goal.returns-in_err-run_next-clause-some
returns-in_err-run_next-clause-some g c =
    let ordered = c.args.ordered.now in
    (runs_on_either (history_of ordered) c.args.self.now ordered c.loop-place.self c.loop-place.next c.run_next.new.self c.loop-place.place c.at-c.result.now c.loop-place.invariant refl c.requires.order c.at-c.ensures c.in_err-run_next.ensures.either).prefix

pub returns-in_err-run_next-clause-order : goal.returns-in_err-run_next-clause-order
returns-in_err-run_next-clause-order g c =
    let ordered = c.args.ordered.now in
    (runs_on_either (history_of ordered) c.args.self.now ordered c.loop-place.self c.loop-place.next c.run_next.new.self c.loop-place.place c.at-c.result.now c.loop-place.invariant refl c.requires.order c.at-c.ensures c.in_err-run_next.ensures.either).order

pub loop-place-preserved : goal.loop-place-preserved
loop-place-preserved g c =
    let ordered = c.args.ordered.now in
    ran_more (history_of ordered) c.args.self.now ordered c.loop-place.self c.loop-place.next c.run_next.new.self c.run_next.new.next c.loop-place.place c.at-c.result.now c.loop-place.invariant refl c.requires.order c.at-c.ensures c.in_ok-run_next.ensures.ran c.in_ok-run_next.ensures.next
