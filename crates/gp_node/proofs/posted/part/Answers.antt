use Rattle.std.proofs.Common.{◌≡◌, length, length-append, map, [], ◌∷◌, ◌++◌, reverse, sym, ap, ◌∙◌, append_assoc, arith, rules}
use Rattle.std.proofs.lemmas.List.{reverse-reverse, reverse-append, map-append, length-map, length-reverse, append-nil}
use Rattle.gp_cell.specs.Cells.{CellState, pass_of, log_of}
use Rattle.gp_node.proofs.posted.part.Goals as goal

pub loop-cell-init : goal.loop-cell-init
loop-cell-init g c = (
  [],
  sym (reverse-reverse c.args.cells.items) ∙ ap reverse (sym c.reverse.ensures.items),
  c.requires.passes.0,
  c.requires.logs.0,
  c.requires.passes.1,
  c.requires.logs.1,
)

pub loop-cell-preserved : goal.loop-cell-preserved
loop-cell-preserved g c =
    let k = c.loop-cell.invariant in let cell : CellState g.row.D.Denot = c.in-Some.cell in let left = c.pop.new.self.items in
    let split = k.1 ∙ ap (λ l. k.0 ++ l) (ap reverse c.in-Some.ensures.items ∙ reverse-append left (cell ∷ [])) in (
      k.0 ++ cell ∷ [],
      split ∙ sym (append_assoc k.0 (cell ∷ []) (reverse left)),
      c.push_reserved.ensures.items ∙ (λ i. k.2 i ++ c.into_parts-pass.ensures.pass i ∷ []) ∙ sym (map-append pass_of k.0 (cell ∷ [])),
      c.push_reserved-in-Some.ensures.items ∙ (λ i. k.3 i ++ c.into_parts-pass.ensures.log i ∷ []) ∙ sym (map-append log_of k.0 (cell ∷ [])),
      omega (arith, k.4, c.push_reserved.ensures.capacity),
      omega (arith, k.5, c.push_reserved-in-Some.ensures.capacity),
    )

pub push_reserved-requires : goal.push_reserved-requires
push_reserved-requires g c =
    let k = c.loop-cell.invariant in let left = c.pop.new.self.items in
    let all = ap length k.1 in let parts = length-append k.0 (reverse c.loop-cell.left.items) in let turned = length-reverse c.loop-cell.left.items in
    let some = ap length c.in-Some.ensures.items in let more = length-append left (c.in-Some.cell ∷ []) in
    let done = ap length k.2 ∙ length-map k.0 pass_of in
    omega (arith, c.loop-cell.passes.ok.0, all, parts, turned, some, more, done, k.4)

pub push_reserved-requires-in-Some : goal.push_reserved-requires-in-Some
push_reserved-requires-in-Some g c =
    let k = c.loop-cell.invariant in let left = c.pop.new.self.items in
    let all = ap length k.1 in let parts = length-append k.0 (reverse c.loop-cell.left.items) in let turned = length-reverse c.loop-cell.left.items in
    let some = ap length c.in-Some.ensures.items in let more = length-append left (c.in-Some.cell ∷ []) in
    let done = ap length k.3 ∙ length-map k.0 log_of in
    omega (arith, c.loop-cell.logs.ok.0, all, parts, turned, some, more, done, k.5)

pub loop-cell-smaller : goal.loop-cell-smaller
loop-cell-smaller g c = omega (arith, ap length c.in-Some.ensures.items, length-append c.pop.new.self.items (c.in-Some.cell ∷ []))

pub returns-clause-passes : goal.returns-clause-passes
returns-clause-passes g c =
    let k = c.loop-cell.invariant in let none : c.loop-cell.left.items ≡ [] = search rules in
    k.2 ∙ ap (map pass_of) (sym (k.1 ∙ ap (λ l. k.0 ++ reverse l) none ∙ append-nil k.0))

pub returns-clause-logs : goal.returns-clause-logs
returns-clause-logs g c =
    let k = c.loop-cell.invariant in let none : c.loop-cell.left.items ≡ [] = search rules in
    k.3 ∙ ap (map log_of) (sym (k.1 ∙ ap (λ l. k.0 ++ reverse l) none ∙ append-nil k.0))
