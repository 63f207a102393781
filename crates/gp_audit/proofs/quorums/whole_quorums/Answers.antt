use Rattle.std.proofs.Common.{sym, ap, ◌∙◌}
use Rattle.std.specs.Option.{option_map}
use Rattle.gp_history.specs.Sequence.{history_of}
use Rattle.gp_learner.specs.Table.{vote_of}
use Rattle.gp_audit.proofs.WholeQuorums.{whole_pushed, whole_passed}
use Rattle.gp_audit.proofs.quorums.whole_quorums.Goals as goal

pub loop-mask-preserved-in-Continue-branch-3 : goal.loop-mask-preserved-in-Continue-branch-3
loop-mask-preserved-in-Continue-branch-3 c =
    whole_pushed (vote_of c.args.votes.now.entries c.args.round) c.args.n c.loop-mask.yielded c.in-Some.mask c.loop-mask.quorums.items c.push.new.self.items c.in-Some-2.met
    c.loop-mask.invariant (sym (ap (option_map history_of) c.in-Some-2.is) ∙ c.in_ok-met.ensures) c.in_ok-push.ensures.items

pub loop-mask-preserved : goal.loop-mask-preserved
loop-mask-preserved c =
    whole_passed (vote_of c.args.votes.now.entries c.args.round) c.args.n c.loop-mask.yielded c.in-Some.mask c.loop-mask.quorums.items
    c.loop-mask.invariant (sym (ap (option_map history_of) c.in_default.is) ∙ c.in_ok-met.ensures)
