use Rattle.std.proofs.Common.{◌≡◌, ◌+◌, List, [], ◌∷◌, ◌++◌, length, reverse, refl, sym, subst, ap, ◌∙◌, append_assoc, length-append, arith}
use Rattle.std.specs.List.{All}
use Rattle.std.proofs.lemmas.List.Elements.{All-push}
use Rattle.std.proofs.lemmas.List.{reverse-reverse, reverse-append, map-append, append-nil, length-map, length-reverse}
use Rattle.gp_work.specs.declared.job.Job.{Job}
use Rattle.gp_cell.specs.Cells.{CellState}
use Rattle.gp_ending.specs.Ended.{cell_in, cells_of}
use Rattle.gp_cluster.specs.Cells.{IsKnownCell}
use Rattle.gp_cluster.proofs.Present.{shorter, none_left}
use Rattle.gp_cluster.proofs.gathering.take_cells.Goals as goal

-- one more of the jobs is done, the last of those that were left
jobs_more : {A : Type 0} (jobs done left more : List A) (job : A) → left ≡ more ++ job ∷ [] → jobs ≡ done ++ reverse left → jobs ≡ (done ++ job ∷ []) ++ reverse more
jobs_more jobs done left more job split so = so ∙ ap (λ l. done ++ l) (ap reverse split ∙ reverse-append more (job ∷ [])) ∙ sym (append_assoc done (job ∷ []) (reverse more))

-- its cell was appended
cells_more : {D : Type 0} (first cells after : List (CellState D)) (done : List (Job (CellState D))) (job : Job (CellState D)) (cell : CellState D) → cell ≡ job.cell → after ≡ cells ++ cell ∷ [] → cells ≡ first ++ cells_of done → after ≡ first ++ cells_of (done ++ job ∷ [])
cells_more first cells after done job cell is grown so = grown ∙ (λ i. so i ++ is i ∷ []) ∙ append_assoc first (cells_of done) (job.cell ∷ []) ∙ ap (λ l. first ++ l) (sym (map-append cell_in done (job ∷ [])))

pub loop-job-init : goal.loop-job-init
loop-job-init g c = ([], sym (reverse-reverse c.args.jobs.items) ∙ ap reverse (sym c.reverse.ensures.items), sym (append-nil c.args.cells.now.items), (λ k d l. absurd (omega arith)), refl)

pub push_reserved-requires : goal.push_reserved-requires
push_reserved-requires g c =
    let k = c.loop-job.invariant in let left = c.pop.new.self.items in
    let job : Job (CellState g.row.D.Denot) = c.in-Some.job in
    let all : length c.args.jobs.items ≡ length k.0 + length (reverse c.loop-job.left.items) = ap length k.1 ∙ length-append k.0 (reverse c.loop-job.left.items) in
    let size : length (reverse c.loop-job.left.items) ≡ length left + 1 = length-reverse c.loop-job.left.items ∙ ap length c.in-Some.ensures.items ∙ length-append left (job ∷ []) in
    let grown : length c.loop-job.cells.items ≡ length c.args.cells.now.items + length k.0 = ap length k.2 ∙ length-append c.args.cells.now.items (cells_of k.0) ∙ ap (λ n. length c.args.cells.now.items + n) (length-map k.0 cell_in) in
    let room = c.requires in let same = k.4 in omega arith

pub loop-job-preserved : goal.loop-job-preserved
loop-job-preserved g c =
    let k = c.loop-job.invariant in let left = c.pop.new.self.items in
    let job : Job (CellState g.row.D.Denot) = c.in-Some.job in
    let more : cells_of (k.0 ++ job ∷ []) ≡ cells_of k.0 ++ job.cell ∷ [] = map-append cell_in k.0 (job ∷ []) in (
      k.0 ++ job ∷ [],
      jobs_more c.args.jobs.items k.0 c.loop-job.left.items left job c.in-Some.ensures.items k.1,
      cells_more c.args.cells.now.items c.loop-job.cells.items c.push_reserved.new.self.items k.0 job _ c.take_cell.ensures.cell c.push_reserved.ensures.items k.2,
      subst (All IsKnownCell) (sym more) (All-push IsKnownCell (cells_of k.0) job.cell k.3 c.take_cell.ensures.known),
      c.push_reserved.ensures.capacity ∙ k.4,
    )

pub returns-clause-known : goal.returns-clause-known
returns-clause-known g c =
    let k = c.loop-job.invariant in
    let left : c.loop-job.left.items ≡ [] = none_left c.loop-job.left.items (let none = c.in_default.ensures.cases.0 in omega (arith, none)) in
    subst (λ (js : List (Job (CellState g.row.D.Denot))). All IsKnownCell (cells_of js)) (sym (k.1 ∙ ap (λ l. k.0 ++ reverse l) left ∙ append-nil k.0)) k.3

pub loop-job-smaller : goal.loop-job-smaller
loop-job-smaller g c = shorter c.loop-job.left.items c.pop.new.self.items c.in-Some.job c.in-Some.ensures.items

pub returns-clause-cells : goal.returns-clause-cells
returns-clause-cells g c =
    let k = c.loop-job.invariant in
    let left : c.loop-job.left.items ≡ [] = none_left c.loop-job.left.items (let none = c.in_default.ensures.cases.0 in omega (arith, none)) in
    k.2 ∙ ap (λ (js : List (Job (CellState g.row.D.Denot))). c.args.cells.now.items ++ cells_of js) (sym (k.1 ∙ ap (λ l. k.0 ++ reverse l) left ∙ append-nil k.0))

pub returns-clause-room : goal.returns-clause-room
returns-clause-room g c = c.loop-job.invariant.4
