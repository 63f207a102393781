use Rattle.std.proofs.Common.{◌≤◌, ◌<◌, vec_capacity, ◌++◌, length, None, arith, ◌∷◌, ◌≡◌, true, map, reverse, sym, ap, ◌∙◌, subst, Some}
use Rattle.std.specs.List.{All}
use Rattle.std.proofs.lemmas.List.Elements.{All-push}
use Rattle.gp_vlog.specs.Logs.{LogState, IsReady}
use Rattle.gp_cell.specs.Cells.{log_of}
use Rattle.std.proofs.lemmas.List.{append-nil, reverse-reverse}
use Rattle.gp_cluster.specs.Cells.{present, logs_of}
use Rattle.gp_cluster.proofs.Present.{turned_logs, found_more, shorter, room_left, all_found, none_left}
use Rattle.gp_cluster.proofs.closing.logs_of.Goals as goal

pub loop-cell-preserved-in-Some-log : goal.loop-cell-preserved-in-Some-log
loop-cell-preserved-in-Some-log g c =
    let inv = c.loop-cell.invariant in
    let log : LogState g.row.D.Denot = c.in-Some-log.log in
    let is = sym c.into_parts-pass.ensures.log ∙ c.in-Some-log.is in
    let split = turned_logs c.loop-cell.left.items c.pop.new.self.items c.in-Some.cell c.in-Some.ensures.items ∙ ap (λ o. o ∷ map log_of (reverse c.pop.new.self.items)) is in (
      found_more _ _ (Some log) split c.loop-cell.found.items c.push_reserved.new.self.items _ c.push_reserved.ensures.items inv.0,
      subst (λ n. length (logs_of c.args.cells.items) ≤ n) (sym c.push_reserved.ensures.capacity) inv.1,
      subst (All (λ (l : LogState g.row.D.Denot). l.ready ≡ true → IsReady g.D.Disk.content g.D.Disk.image l)) (sym c.push_reserved.ensures.items)
          (All-push (λ l. l.ready ≡ true → IsReady g.D.Disk.content g.D.Disk.image l) c.loop-cell.found.items log inv.2 c.know_log.ensures),
    )

pub loop-cell-init : goal.loop-cell-init
loop-cell-init g c = ((λ i. c.requires.0 i ++ present (map log_of (reverse (c.reverse.ensures.items i)))) ∙ ap (λ cs. present (map log_of cs)) (reverse-reverse c.args.cells.items), c.requires.1, λ k d l. absurd (let none = ap length c.requires.0 in omega (arith, l, none)))

pub push_reserved-requires : goal.push_reserved-requires
push_reserved-requires g c =
    let is = sym c.into_parts-pass.ensures.log ∙ c.in-Some-log.is in
    let split = turned_logs c.loop-cell.left.items c.pop.new.self.items c.in-Some.cell c.in-Some.ensures.items ∙ ap (λ o. o ∷ map log_of (reverse c.pop.new.self.items)) is in
    let room : length c.loop-cell.found.items < vec_capacity c.loop-cell.found = room_left _ _ c.in-Some-log.log split c.loop-cell.found.items (logs_of c.args.cells.items) c.loop-cell.invariant.0 _ c.loop-cell.invariant.1 in
    omega (arith, room)

pub loop-cell-smaller-in-Some-log : goal.loop-cell-smaller-in-Some-log
loop-cell-smaller-in-Some-log g c = shorter c.loop-cell.left.items c.pop.new.self.items c.in-Some.cell c.in-Some.ensures.items

pub loop-cell-smaller : goal.loop-cell-smaller
loop-cell-smaller g c = shorter c.loop-cell.left.items c.pop.new.self.items c.in-Some.cell c.in-Some.ensures.items

pub loop-cell-preserved : goal.loop-cell-preserved
loop-cell-preserved g c =
    let is = sym c.into_parts-pass.ensures.log ∙ c.in_default-log.is in
    let split = turned_logs c.loop-cell.left.items c.pop.new.self.items c.in-Some.cell c.in-Some.ensures.items ∙ ap (λ o. o ∷ map log_of (reverse c.pop.new.self.items)) is in
    (found_more _ _ None split c.loop-cell.found.items c.loop-cell.found.items _ (sym (append-nil c.loop-cell.found.items)) c.loop-cell.invariant.0, c.loop-cell.invariant.1, c.loop-cell.invariant.2)

pub returns-clause-logs : goal.returns-clause-logs
returns-clause-logs g c = all_found (map log_of (reverse c.loop-cell.left.items)) (ap (λ cs. map log_of (reverse cs)) (none_left c.loop-cell.left.items (let none = c.in_default.ensures.cases.0 in omega (arith, none)))) c.loop-cell.found.items _ c.loop-cell.invariant.0

pub returns-clause-ready : goal.returns-clause-ready
returns-clause-ready g c = c.loop-cell.invariant.2
