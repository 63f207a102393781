use Rattle.std.proofs.Common.{◌≡◌, not, length, take, sym, ap, ◌∙◌, arith}
use Rattle.std.specs.Option.{is_some}
use Rattle.std.proofs.Math.Seq.{take-length}
use Rattle.gp_history.specs.History.{pushes}
use Rattle.gp_history.specs.Sequence.{history_of}
use Rattle.gp_history.proofs.Joins.{history_within}
use Rattle.gp_bounds.proofs.Joining.{join_of_pushes, join_step, join_past, join_start, found_there}
use Rattle.gp_bounds.proofs.joins.join_onto.Goals as goal
use Rattle.gp_bounds.proofs.joins.join_onto.Goals.{then-is_none+in_ok-copy+in_ok-push, else-is_none}

pub loop-i-init : goal.loop-i-init
loop-i-init g c = join_start (g.H.Hist.sequence c.args.a) (g.H.Hist.sequence c.args.b.now) c.common_start-i.result c.common_start-i.ensures.alike

pub loop-i-preserved : goal.loop-i-preserved
loop-i-preserved g c =
    let xs = g.H.Hist.sequence c.args.a in
    let ys = g.H.Hist.sequence c.args.b.now in
    let d = c.at-c.result.now in
    let joined = g.H.Hist.sequence c.loop-i.a in
    elim c.if-is_none.branch [
      | then-is_none+in_ok-copy+in_ok-push w ↦
          ap (λ z. history_of (g.H.Hist.sequence z)) w.a-is
          ∙ join_step (history_of xs) joined ys (g.H.Hist.sequence w.push.new.self) c.loop-i.i w.in_ok-copy.field-0 d c.loop-i.invariant w.in_ok-push.ensures.pushed w.in_ok-copy.ensures c.at-c.ensures
      | else-is_none w ↦
          let there = found_there joined d (sym (ap is_some c.place_of.ensures) ∙ c.is_none.ensures ∙ ap not w.if-is_none.false) in
          ap (λ z. history_of (g.H.Hist.sequence z)) w.a-is
          ∙ join_past (history_of xs) joined ys c.loop-i.i d c.loop-i.invariant c.at-c.ensures there
    ]

pub returns : goal.returns
returns g c =
    let xs = g.H.Hist.sequence c.args.a in
    let ys = g.H.Hist.sequence c.args.b.now in
    let end : c.loop-i.i ≡ length ys = omega (arith, c.len-i-end.ensures.items, c.common_start-i.ensures.right) in
    c.loop-i.invariant
    ∙ ap (pushes (history_of xs)) (ap (λ n. take n ys) end ∙ take-length ys)
    ∙ join_of_pushes (history_of xs) (history_within xs) ys
