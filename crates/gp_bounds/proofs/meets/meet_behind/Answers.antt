use Rattle.std.proofs.Common.{◌≡◌, length, take, sym, ap, ◌∙◌, arith}
use Rattle.std.specs.Prelude.{filter}
use Rattle.std.proofs.Math.Seq.{take-length}
use Rattle.gp_history.specs.Sequence.{history_of}
use Rattle.gp_history.specs.Bounds.{in_meet}
use Rattle.gp_history.proofs.Places.{place_at_is}
use Rattle.gp_bounds.proofs.Meeting.{stays_is_meet, meet_step_kept, meet_step_left, meet_of_filter, meet_start, start_kept, copy_step}
use Rattle.gp_bounds.proofs.meets.meet_behind.Goals as goal
use Rattle.gp_bounds.proofs.meets.meet_behind.Goals.{then-stays+in_ok-copy-2+in_ok-push-2, else-stays}

pub loop-k-preserved : goal.loop-k-preserved
loop-k-preserved g c =
    let sequence = g.H.Hist.sequence in
    copy_step (g.H.Hist.sequence c.args.a.now) (sequence c.loop-k.kept) (sequence c.push.new.self) c.loop-k.k c.in_ok-copy.field-0 c.at-d.result.now
    c.loop-k.invariant c.in_ok-push.ensures.pushed c.in_ok-copy.ensures c.at-d.ensures

pub loop-i-init : goal.loop-i-init
loop-i-init g c =
    let end : c.loop-k.k ≡ c.args.from = omega arith in
    c.loop-k.invariant ∙ ap history_of (ap (λ n. take n (g.H.Hist.sequence c.args.a.now)) end ∙ sym (meet_start (g.H.Hist.sequence c.args.a.now) (g.H.Hist.sequence c.args.b.now) c.args.from c.requires.alike))

pub stays-requires-clause-there : goal.stays-requires-clause-there
stays-requires-clause-there g c = place_at_is (g.H.Hist.sequence c.args.a.now) c.loop-i.i c.at-c.result.now c.len-i-end.ensures.distinct c.at-c.ensures

pub stays-requires-clause-kept : goal.stays-requires-clause-kept
stays-requires-clause-kept g c =
    start_kept (g.H.Hist.sequence c.args.a.now) (g.H.Hist.sequence c.args.b.now) c.args.from c.loop-i.i (history_of (g.H.Hist.sequence c.loop-i.kept)) c.requires.alike (omega arith) c.loop-i.invariant

pub loop-i-preserved : goal.loop-i-preserved
loop-i-preserved g c =
    let sequence = g.H.Hist.sequence in
    let p = in_meet (history_of (g.H.Hist.sequence c.args.a.now)) (history_of (g.H.Hist.sequence c.args.b.now)) in
    let test = stays_is_meet (g.H.Hist.sequence c.args.a.now) (g.H.Hist.sequence c.args.b.now) c.loop-i.i c.at-c.result.now c.at-c.ensures (history_of (sequence c.loop-i.kept)) c.loop-i.invariant in
    elim c.if-stays.branch [
      | then-stays+in_ok-copy-2+in_ok-push-2 w ↦
          ap (λ z. history_of (sequence z)) w.kept-is
          ∙ meet_step_kept p (g.H.Hist.sequence c.args.a.now) (sequence c.loop-i.kept) (sequence w.push-then-stays.new.self) c.loop-i.i w.in_ok-copy-2.field-0 c.at-c.result.now
          c.loop-i.invariant w.in_ok-push-2.ensures.pushed w.in_ok-copy-2.ensures c.at-c.ensures (sym test ∙ sym c.stays.ensures ∙ w.if-stays.true)
      | else-stays w ↦
          ap (λ z. history_of (sequence z)) w.kept-is
          ∙ meet_step_left p (g.H.Hist.sequence c.args.a.now) (sequence c.loop-i.kept) c.loop-i.i c.at-c.result.now c.loop-i.invariant c.at-c.ensures (sym test ∙ sym c.stays.ensures ∙ w.if-stays.false)
    ]

pub returns : goal.returns
returns g c =
    let end : c.loop-i.i ≡ length (g.H.Hist.sequence c.args.a.now) = omega (arith, c.len-i-end.ensures.items, c.requires.left) in
    c.loop-i.invariant
    ∙ ap (λ zs. history_of (filter (in_meet (history_of (g.H.Hist.sequence c.args.a.now)) (history_of (g.H.Hist.sequence c.args.b.now))) zs)) (ap (λ n. take n (g.H.Hist.sequence c.args.a.now)) end ∙ take-length (g.H.Hist.sequence c.args.a.now))
    ∙ meet_of_filter (g.H.Hist.sequence c.args.a.now) (g.H.Hist.sequence c.args.b.now)
