use Rattle.std.proofs.Common.{◌≡◌, ◌&&◌, Some}
use Rattle.std.specs.Option.{option_map}
use Rattle.gp_history.specs.Sequence.{history_of}
use Rattle.gp_round.specs.Sets.{bit}
use Rattle.gp_safe.specs.Meets.{gathered, everyone}
use Rattle.gp_learner.specs.Table.{vote_of}
use Rattle.gp_audit.proofs.quorums.meet_of.Given as goal

abbrev pub invariant-loop-i : goal.invariant-loop-i
invariant-loop-i l = gathered (vote_of l.votes.entries l.round) (λ i. bit l.mask i && everyone i) l.i ≡ Some (option_map history_of l.met)
