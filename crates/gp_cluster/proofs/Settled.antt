-- Cells that were settled.
use Rattle.std.proofs.Common.{◌≡◌, ◌≢◌, true, ℕ, zero, suc, inl, inr, List, [], ◌∷◌, map, refl, sym, ap, ◌∙◌, subst, arith, Some, Result, Ok, Err, OnOk}
use Rattle.std.specs.Prelude.{slice_get}
use Rattle.std.specs.List.{AllZip}
use Rattle.gp_edge.specs.Faults.{Rose}
use Rattle.gp_msg.specs.declared.node.Node.{Node}
use Rattle.gp_msg.specs.declared.node.Node.TheVariants.{Proposer}
use Rattle.gp_msg.specs.declared.record.Record.{Record}
use Rattle.gp_round.specs.Counts.{Counts}
use Rattle.gp_run.specs.Legal.{fits}
use Rattle.gp_run.specs.Runs.{newest_first}
use Rattle.gp_wire.specs.Own.{own_events}
use Rattle.gp_cell.specs.Cells.{CellState}
use Rattle.gp_cell.specs.Refusals.{faults_of, limit_of}
use Rattle.gp_driver.specs.declared.stage.StageFault.{StageFault}
use Rattle.gp_driver.specs.declared.stage.StageFault.TheVariants as fault
use Rattle.gp_driver.specs.Settling.{settle}
use Rattle.gp_driver.specs.Settled.{AllLearned, Settles}
use Rattle.gp_driver.specs.Stages.{StageNode, IsProposer, NodeGoes, HasRisen, SomeNodeRose, UnlessDiskFailed, FailsByNode, HasDriven, fault_counts}
use Rattle.gp_stage.specs.Held.{HeldCells, stage_node, stage_of, whole_list}
use Rattle.gp_stage.specs.Gathered.{AreSameBut, rest_of}
use Rattle.gp_ending.specs.declared.ends.RunEnd.TheVariants.{Disk}
use Rattle.gp_ending.proofs.Deciding.{no_some}
use Rattle.gp_cluster.specs.Cells.{CellGoes, CellsGo, SomeCellRose, disk_counts}
use Rattle.gp_cluster.specs.Closing.{SettledTo, end_of}

pub some_is : {A : Type 0} {x y : A} → Some x ≡ Some y → x ≡ y
some_is e = cc

module _ {D : Type 0} (faults : D → ℕ) where
  -- but for their passes they are the same
  pub go_same : (old new : List (CellState D)) → AreSameBut old new → CellsGo faults old new
  go_same [] [] e = tt
  go_same [] (y ∷ ys) e = absurd (let wrong : rest_of y ∷ map rest_of ys ≡ [] = e in cc)
  go_same (x ∷ xs) [] e = absurd (let wrong : [] ≡ rest_of x ∷ map rest_of xs = e in cc)
  go_same (x ∷ xs) (y ∷ ys) e =
      let same : rest_of y ≡ rest_of x = (let both : rest_of y ∷ map rest_of ys ≡ rest_of x ∷ map rest_of xs = e in cc) in
      let rest : map rest_of ys ≡ map rest_of xs = (let both : rest_of y ∷ map rest_of ys ≡ rest_of x ∷ map rest_of xs = e in cc) in
      let log : y.log ≡ x.log = ap (λ (q : _). q.3) same in (
        record { node = ap (λ (q : _). q.1) same; config = ap (λ (q : _). q.0) same; limit = ap limit_of log; later = let f = ap (faults_of faults) log in omega (arith, f) },
        go_same xs ys rest,
      )

  module _ (idle : Node → Type 0) (before now : List Record) where
    -- what the stage tells of its nodes, where all cells are of one configuration
    pub go_nodes : (old new : List (CellState D)) → ((i : ℕ) (x y : CellState D) → slice_get old i ≡ Some x → slice_get new i ≡ Some y → y.config ≡ x.config)
        → AllZip (NodeGoes idle) (map (stage_node faults before) old) (map (stage_node faults now) new) → CellsGo faults old new
    go_nodes [] [] c h = tt
    go_nodes [] (y ∷ ys) c h = absurd h
    go_nodes (x ∷ xs) [] c h = absurd h
    go_nodes (x ∷ xs) (y ∷ ys) c h = (
      record { node = h.0.same_node; config = c 0 x y refl refl; limit = h.0.same_limit; later = h.0.later },
      go_nodes xs ys (λ i. c (suc i)) h.1,
    )

    -- an idle node has the events that it had
    pub idle_rests : (old new : List (CellState D)) → AllZip (NodeGoes idle) (map (stage_node faults before) old) (map (stage_node faults now) new) → (i : ℕ) (x : CellState D) → slice_get old i ≡ Some x → idle x.node
        → own_events x.node now ≡ own_events x.node before
    idle_rests [] new h i x e q = no_some e
    idle_rests (o ∷ old) [] h i x e q = absurd h
    idle_rests (o ∷ old) (n ∷ new) h zero x e q =
        let same : o ≡ x = some_is e in
        subst (λ (z : CellState D). own_events z.node now ≡ own_events z.node before) same (ap (λ m. own_events m now) (sym h.0.same_node) ∙ h.0.rests (subst (λ (z : CellState D). idle z.node) (sym same) q))
    idle_rests (o ∷ old) (n ∷ new) h (suc i) x e q = idle_rests old new h.1 i x e q

  -- ---- a disk that failed

  edge_rose : (a b : ℕ) → HasRisen a b → Rose a b
  edge_rose a b (inl l) = omega (arith, l)
  edge_rose a b (inr l) = omega (arith, l)

  -- the cell at the place of a node
  record CellAt (f : CellState D → StageNode) (cells : List (CellState D)) (place : ℕ) (node : StageNode) : Type 0 where
    cell : CellState D
    there : slice_get cells place ≡ Some cell
    is : f cell ≡ node

  cell_at : (f : CellState D → StageNode) (cells : List (CellState D)) (place : ℕ) (node : StageNode) → slice_get (map f cells) place ≡ Some node → CellAt f cells place node
  cell_at f [] place node e = no_some e
  cell_at f (c ∷ cells) zero node e = record { cell = c; there = refl; is = some_is e }
  cell_at f (c ∷ cells) (suc place) node e = let r = cell_at f cells place node e in record { cell = r.cell; there = r.there; is = r.is }

  pub cell_failed : (before now : List Record) (old new : List (CellState D)) → SomeNodeRose (map (stage_node faults before) old) (map (stage_node faults now) new) → SomeCellRose faults old new
  cell_failed before now old new r =
      let a = cell_at (stage_node faults before) old r.place r.was r.before in
      let b = cell_at (stage_node faults now) new r.place r.is r.after in
      let x : faults_of faults a.cell.log ≡ r.was.faults = ap (λ (n : StageNode). n.faults) a.is in
      let y : faults_of faults b.cell.log ≡ r.is.faults = ap (λ (n : StageNode). n.faults) b.is in
      record {
        place = r.place;
        was = a.cell;
        is = b.cell;
        before = a.there;
        after = b.there;
        rose = let e = edge_rose r.was.faults r.is.faults r.rose in omega (arith, e, x, y);
      }

  -- ---- cells at one place

  record CellLater (cells : List (CellState D)) (place : ℕ) (c : CellState D) : Type 0 where
    cell : CellState D
    there : slice_get cells place ≡ Some cell
    goes : CellGoes faults c cell

  later_at : (old new : List (CellState D)) → CellsGo faults old new → (i : ℕ) (c : CellState D) → slice_get old i ≡ Some c → CellLater new i c
  later_at [] new h i c e = no_some e
  later_at (x ∷ xs) [] h i c e = absurd h
  later_at (x ∷ xs) (y ∷ ys) h zero c e = record { cell = y; there = refl; goes = subst (λ (z : CellState D). CellGoes faults z y) (some_is e) h.0 }
  later_at (x ∷ xs) (y ∷ ys) h (suc i) c e = let r = later_at xs ys h.1 i c e in record { cell = r.cell; there = r.there; goes = r.goes }

  record CellEarlier (cells : List (CellState D)) (place : ℕ) (c : CellState D) : Type 0 where
    cell : CellState D
    there : slice_get cells place ≡ Some cell
    goes : CellGoes faults cell c

  earlier_at : (old new : List (CellState D)) → CellsGo faults old new → (i : ℕ) (c : CellState D) → slice_get new i ≡ Some c → CellEarlier old i c
  earlier_at [] [] h i c e = no_some e
  earlier_at [] (y ∷ ys) h i c e = absurd h
  earlier_at (x ∷ xs) [] h i c e = absurd h
  earlier_at (x ∷ xs) (y ∷ ys) h zero c e = record { cell = x; there = refl; goes = subst (λ (z : CellState D). CellGoes faults x z) (some_is e) h.0 }
  earlier_at (x ∷ xs) (y ∷ ys) h (suc i) c e = let r = earlier_at xs ys h.1 i c e in record { cell = r.cell; there = r.there; goes = r.goes }

  -- a disk that failed later failed since the beginning
  pub rose_before : (old mid new : List (CellState D)) → CellsGo faults old mid → SomeCellRose faults mid new → SomeCellRose faults old new
  rose_before old mid new h r =
      let a = earlier_at old mid h r.place r.was r.before in
      record { place = r.place; was = a.cell; is = r.is; before = a.there; after = r.after; rose = let l = a.goes.later in let x = r.rose in omega (arith, l, x) }

  -- a disk that failed earlier has failed
  pub rose_after : (old mid new : List (CellState D)) → CellsGo faults mid new → SomeCellRose faults old mid → SomeCellRose faults old new
  rose_after old mid new h r =
      let b = later_at mid new h r.place r.is r.after in
      record { place = r.place; was = r.was; is = b.cell; before = r.before; after = b.there; rose = let l = b.goes.later in let x = r.rose in omega (arith, l, x) }

  -- all are of one configuration
  pub configs_are : (old new : List (CellState D)) (config : Counts) → CellsGo faults old new → ((i : ℕ) (c : CellState D) → slice_get old i ≡ Some c → c.config ≡ config)
      → (i : ℕ) (c : CellState D) → slice_get new i ≡ Some c → c.config ≡ config
  configs_are old new config h all i c e = let a = earlier_at old new h i c e in a.goes.config ∙ all i a.cell a.there

  pub same_rests : (old mid new : List (CellState D)) (before now : List Record) → CellsGo faults old mid → AllZip (NodeGoes IsProposer) (map (stage_node faults before) mid) (map (stage_node faults now) new)
      → (i : ℕ) (c : CellState D) (p : ℕ) → slice_get old i ≡ Some c → c.node ≡ Proposer p → own_events c.node now ≡ own_events c.node before
  same_rests old mid new before now h rests i c p e is =
      let a = later_at old mid h i c e in
      ap (λ n. own_events n now) (sym a.goes.node) ∙ idle_rests IsProposer before now mid new rests i a.cell a.there (p, a.goes.node ∙ is) ∙ ap (λ n. own_events n before) a.goes.node

-- ---- disks that did not fail

module _ {D : Type 0} (faults : D → ℕ) where
  counts_shown : (list : List Record) (cells : List (CellState D)) → fault_counts (map (stage_node faults list) cells) ≡ disk_counts faults cells
  counts_shown list [] = refl
  counts_shown list (c ∷ cells) = ap (λ l. faults_of faults c.log ∷ l) (counts_shown list cells)

  counts_same : (old new : List (CellState D)) → AreSameBut old new → disk_counts faults new ≡ disk_counts faults old
  counts_same [] [] e = refl
  counts_same [] (y ∷ ys) e = absurd (let wrong : rest_of y ∷ map rest_of ys ≡ [] = e in cc)
  counts_same (x ∷ xs) [] e = absurd (let wrong : [] ≡ rest_of x ∷ map rest_of xs = e in cc)
  counts_same (x ∷ xs) (y ∷ ys) e =
      let same : rest_of y ≡ rest_of x = (let both : rest_of y ∷ map rest_of ys ≡ rest_of x ∷ map rest_of xs = e in cc) in
      let rest : map rest_of ys ≡ map rest_of xs = (let both : rest_of y ∷ map rest_of ys ≡ rest_of x ∷ map rest_of xs = e in cc) in
      let first = ap (λ (q : _). faults_of faults q.3) same in let others = counts_same xs ys rest in (λ i. first i ∷ others i)

  unless_disk : {P : Type 0} (r : Result ℕ StageFault) → UnlessDiskFailed r P → end_of r ≢ Disk → P
  unless_disk (Ok n) s other = s
  unless_disk (Err fault.NoMemory) s other = s
  unless_disk (Err fault.Disk) s other = absurd (other refl)
  unless_disk (Err (fault.Full size need)) s other = s

  pub settled_steady : (cells : List (CellState D)) (old new : HeldCells D) → AreSameBut cells old.cells → (r : Result ℕ StageFault) → FailsByNode (stage_of faults old).nodes (stage_of faults new).nodes r → end_of r ≢ Disk
      → disk_counts faults new.cells ≡ disk_counts faults cells
  settled_steady cells old new same r f other =
      sym (counts_shown (whole_list new) new.cells) ∙ unless_disk {P = fault_counts (stage_of faults new).nodes ≡ fault_counts (stage_of faults old).nodes} r f.steady other
      ∙ counts_shown (whole_list old) old.cells ∙ counts_same cells old.cells same

-- ---- how settling ended

module _ {D : Type 0} (faults : D → ℕ) (config : Counts) (cells : List (CellState D)) (old new : HeldCells D) (list : List Record) (config_is : old.config ≡ config) (list_is : list ≡ whole_list new) (goes : CellsGo faults cells old.cells) where
  run_is : newest_first (whole_list new) ≡ newest_first list
  run_is = ap newest_first (sym list_is)

  pub settled_to : (r : Result ℕ StageFault) → HasDriven (stage_of faults old) (stage_of faults new) (settle old.config (newest_first (whole_list old))) r → FailsByNode (stage_of faults old).nodes (stage_of faults new).nodes r
      → OnOk r (Settles old.config (newest_first (whole_list old))) → SettledTo faults config (whole_list old) cells new.cells list (end_of r)
  settled_to (Ok n) d f b =
      let same : newest_first list ≡ settle config (newest_first (whole_list old)) = sym run_is ∙ d.outcome.0 ∙ ap (λ k. settle k (newest_first (whole_list old))) config_is in (
        same,
        subst (AllLearned config) (sym same) (subst (λ k. AllLearned k (settle k (newest_first (whole_list old)))) config_is b.learned),
        d.outcome.2,
      )
  settled_to (Err fault.NoMemory) d f b = tt
  settled_to (Err fault.Disk) d f b = rose_before faults cells old.cells new.cells goes (cell_failed faults (whole_list old) (whole_list new) old.cells new.cells f.by_node)
  settled_to (Err (fault.Full size need)) d f b =
      let x = d.outcome.1 in let y = x.great in record {
        cell = y.cell;
        place = y.place;
        there = y.there;
        pass = y.pass;
        whole = y.whole ∙ sym list_is;
        event = x.event;
        no_fall = x.no_fall;
        may_come = subst (λ k. fits k (newest_first list) x.event ≡ true) config_is (subst (λ es. fits old.config es x.event ≡ true) run_is x.event_fits);
        great = y.great;
      }
