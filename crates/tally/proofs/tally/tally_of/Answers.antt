use Rattle.std.proofs.Common.{[], sym, subst}
use Rattle.gp_history.specs.History.{IsPrefix}
use Rattle.gp_history.specs.Sequence.{history_of}
use Rattle.gp_history.proofs.Joins.{history_of-append, history_of_is}
use Rattle.gp_history.proofs.Bound.{pushed_extends}
use Rattle.tally.proofs.tally.tally_of.Goals as goal

-- nothing is a prefix of everything
pub catch_up-requires-clause-prefix : goal.catch_up-requires-clause-prefix
catch_up-requires-clause-prefix c =
    let learned = c.args.learned.now in
    let all : IsPrefix (history_of []) (history_of learned) = subst (IsPrefix (history_of [])) (sym (history_of-append [] learned)) (pushed_extends (history_of []) learned (history_of_is [])) in
    subst (λ ran. IsPrefix (history_of ran) (history_of learned)) (sym c.in_ok-replica.ensures) all
