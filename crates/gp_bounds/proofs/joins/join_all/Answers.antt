use Rattle.std.proofs.Common.{ap, ◌∙◌}
use Rattle.std.specs.Prelude.{map}
use Rattle.gp_history.specs.Sequence.{history_of}
use Rattle.gp_history.proofs.Joins.{history_of-empty}
use Rattle.gp_history.specs.Bounds.{joined}
use Rattle.gp_bounds.proofs.joins.join_all.Goals as goal

pub loop-h-init : goal.loop-h-init
loop-h-init g c =
    let meaning = λ (x : g.row.H.Denot). history_of (g.H.Hist.sequence x) in
    ap (λ u. joined u (map meaning c.args.list.now)) (ap history_of c.in_ok-all.ensures ∙ history_of-empty)
