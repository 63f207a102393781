use Rattle.std.proofs.Common.{◌≡◌, map}
use Rattle.gp_learner.specs.Table.{vote_of}
use Rattle.gp_audit.specs.Noting.{whole_quorums}
use Rattle.gp_audit.proofs.WholeQuorums.{met_pair}
use Rattle.gp_audit.proofs.quorums.whole_quorums.Given as goal

abbrev pub invariant-loop-mask : goal.invariant-loop-mask
invariant-loop-mask l = map met_pair l.quorums.items ≡ whole_quorums (vote_of l.votes.entries l.round) l.n l.yielded
