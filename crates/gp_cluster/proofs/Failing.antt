-- Disks that failed in a run.
use Rattle.std.proofs.Common.{◌≡◌, ◌<◌, ◌+◌, ℕ, zero, suc, List, [], ◌∷◌, ◌++◌, length, get_or, refl, ◌∙◌, arith, Some}
use Rattle.std.specs.Prelude.{slice_get}
use Rattle.std.proofs.lemmas.List.{length-map}
use Rattle.gp_edge.specs.Faults.{Rose}
use Rattle.gp_work.specs.declared.job.Job.{Job}
use Rattle.gp_cell.specs.Cells.{CellState}
use Rattle.gp_cell.specs.Refusals.{faults_of}
use Rattle.gp_ending.specs.Ended.{cell_in, cells_of}
use Rattle.gp_shelf.proofs.Segments.{get-append_left, get-append_right}
use Rattle.gp_cluster.specs.Cells.{SomeCellRose}

module _ {D : Type 0} where
  pub cell_there : (js : List (Job (CellState D))) (i : ℕ) (d : Job (CellState D)) → i < length js → slice_get (cells_of js) i ≡ Some (get_or js i d).cell
  cell_there [] i d l = absurd (omega (arith, l))
  cell_there (j ∷ js) zero d l = refl
  cell_there (j ∷ js) (suc i) d l = cell_there js i d (omega (arith, l))

  module _ (faults : D → ℕ) (jobs proposing worked offered : List (Job (CellState D))) (size : length worked ≡ length jobs) (as_many : length offered ≡ length proposing) where
    -- the disk of a node that works
    pub first_rose : (i : ℕ) (d : Job (CellState D)) → i < length jobs → Rose (faults_of faults (get_or jobs i d).cell.log) (faults_of faults (get_or worked i d).cell.log)
        → SomeCellRose faults (cells_of jobs ++ cells_of proposing) (cells_of worked ++ cells_of offered)
    first_rose i d l r = record {
      place = i;
      was = (get_or jobs i d).cell;
      is = (get_or worked i d).cell;
      before = get-append_left (cells_of jobs) (cells_of proposing) i (let n = length-map jobs cell_in in omega (arith, l, n)) ∙ cell_there jobs i d l;
      after = get-append_left (cells_of worked) (cells_of offered) i (let n = length-map worked cell_in in omega (arith, l, n, size)) ∙ cell_there worked i d (omega (arith, l, size));
      rose = r;
    }

    -- the disk of a proposer
    pub second_rose : (i : ℕ) (d : Job (CellState D)) → i < length proposing → Rose (faults_of faults (get_or proposing i d).cell.log) (faults_of faults (get_or offered i d).cell.log)
        → SomeCellRose faults (cells_of jobs ++ cells_of proposing) (cells_of worked ++ cells_of offered)
    second_rose i d l r = record {
      place = length jobs + i;
      was = (get_or proposing i d).cell;
      is = (get_or offered i d).cell;
      before = get-append_right (cells_of jobs) (cells_of proposing) (length jobs) i (length-map jobs cell_in) ∙ cell_there proposing i d l;
      after = get-append_right (cells_of worked) (cells_of offered) (length jobs) i (length-map worked cell_in ∙ size) ∙ cell_there offered i d (omega (arith, l, as_many));
      rose = r;
    }
