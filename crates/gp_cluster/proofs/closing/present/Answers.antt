use Rattle.std.proofs.Common.{◌≤◌, ◌<◌, vec_capacity, length, reverse, None, arith, ◌∷◌, ◌++◌, [], ◌≡◌, true, sym, ap, ◌∙◌, subst, Some}
use Rattle.std.specs.List.{All}
use Rattle.std.proofs.lemmas.List.Elements.{All-push}
use Rattle.gp_vlog.specs.Logs.{LogState, IsReady}
use Rattle.std.proofs.lemmas.List.{append-nil, reverse-reverse}
use Rattle.gp_cluster.specs.Cells.{present}
use Rattle.gp_cluster.proofs.Present.{turned, found_more, shorter, room_left, all_found, none_left}
use Rattle.gp_cluster.proofs.closing.present.Goals as goal

pub loop-log-preserved-in-Some-log : goal.loop-log-preserved-in-Some-log
loop-log-preserved-in-Some-log g c =
    let inv = c.loop-log.invariant in
    let log : LogState g.row.D.Denot = c.in-Some-log.log in
    let split = turned c.loop-log.left.items c.pop.new.self.items (Some log) (c.in-Some.ensures.items ∙ ap (λ o. c.pop.new.self.items ++ o ∷ []) c.in-Some-log.is) in (
      found_more _ _ (Some log) split c.loop-log.found.items c.push_reserved.new.self.items _ c.push_reserved.ensures.items inv.0,
      subst (λ n. length (present c.args.logs.items) ≤ n) (sym c.push_reserved.ensures.capacity) inv.1,
      subst (All (λ (l : LogState g.row.D.Denot). l.ready ≡ true → IsReady g.D.Disk.content g.D.Disk.image l)) (sym c.push_reserved.ensures.items)
          (All-push (λ l. l.ready ≡ true → IsReady g.D.Disk.content g.D.Disk.image l) c.loop-log.found.items log inv.2 c.know_log.ensures),
    )

pub loop-log-init : goal.loop-log-init
loop-log-init g c = ((λ i. c.requires.0 i ++ present (reverse (c.reverse.ensures.items i))) ∙ ap present (reverse-reverse c.args.logs.items), c.requires.1, λ k d l. absurd (let none = ap length c.requires.0 in omega (arith, l, none)))

pub push_reserved-requires : goal.push_reserved-requires
push_reserved-requires g c =
    let room : length c.loop-log.found.items < vec_capacity c.loop-log.found = room_left _ _ c.in-Some-log.log (turned c.loop-log.left.items c.pop.new.self.items (Some c.in-Some-log.log) (c.in-Some.ensures.items ∙ ap (λ o. c.pop.new.self.items ++ o ∷ []) c.in-Some-log.is)) c.loop-log.found.items (present c.args.logs.items) c.loop-log.invariant.0 _ c.loop-log.invariant.1 in
    omega (arith, room)

pub loop-log-smaller-in-Some-log : goal.loop-log-smaller-in-Some-log
loop-log-smaller-in-Some-log g c = shorter c.loop-log.left.items c.pop.new.self.items c.in-Some.log c.in-Some.ensures.items

pub loop-log-smaller : goal.loop-log-smaller
loop-log-smaller g c = shorter c.loop-log.left.items c.pop.new.self.items c.in-Some.log c.in-Some.ensures.items

pub loop-log-preserved : goal.loop-log-preserved
loop-log-preserved g c =
    let split = turned c.loop-log.left.items c.pop.new.self.items None (c.in-Some.ensures.items ∙ ap (λ o. c.pop.new.self.items ++ o ∷ []) c.in_default-log.is) in
    (found_more _ _ None split c.loop-log.found.items c.loop-log.found.items _ (sym (append-nil c.loop-log.found.items)) c.loop-log.invariant.0, c.loop-log.invariant.1, c.loop-log.invariant.2)

pub returns-clause-logs : goal.returns-clause-logs
returns-clause-logs g c = all_found (reverse c.loop-log.left.items) (ap reverse (none_left c.loop-log.left.items (let none = c.in_default.ensures.cases.0 in omega (arith, none)))) c.loop-log.found.items _ c.loop-log.invariant.0

pub returns-clause-ready : goal.returns-clause-ready
returns-clause-ready g c = c.loop-log.invariant.2
