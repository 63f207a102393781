-- Disks that lost what was written, among the logs of cells and among all disks.
use Rattle.std.proofs.Common.{◌≡◌, ◌<◌, ◌≤◌, ℕ, zero, suc, List, [], ◌∷◌, ◌++◌, map, length, refl, sym, ◌∙◌, subst, arith, Option, Some, None}
use Rattle.std.specs.Prelude.{slice_get}
use Rattle.std.specs.Option.{option_to_list}
use Rattle.std.proofs.lemmas.Option.{slice_get_within}
use Rattle.gp_round.specs.Counts.{Counts}
use Rattle.gp_edge.specs.Faults.{Rose}
use Rattle.gp_vlog.specs.Logs.{LogState}
use Rattle.gp_cell.specs.Cells.{CellState}
use Rattle.gp_cell.specs.Downs.{HidesLog}
use Rattle.gp_cell.specs.Refusals.{faults_of, limit_of}
use Rattle.gp_shelf.specs.Lists.{disk_in, lent_of, unlent_of, shelved}
use Rattle.gp_shelf.specs.Places.{logged, place_at}
use Rattle.gp_shelf.proofs.Segments.{lent_at, shelved_at, length-unlent}
use Rattle.gp_cluster.specs.Cells.{logs_of, CellsGo}
use Rattle.gp_cluster.specs.Runs.{SomeLost}

module _ {D : Type 0} (content : D → Option (List ℕ)) (faults : D → ℕ) where
  abbrev Lost : List D → List D → Type 0
  Lost = SomeLost content faults

  -- ---- the logs of cells

  -- one log comes before the others, or none
  next_lost : (x y : Option (LogState D)) → limit_of y ≡ limit_of x → (xs ys : List (LogState D)) → Lost (map disk_in xs) (map disk_in ys) → Lost (map disk_in (option_to_list x ++ xs)) (map disk_in (option_to_list y ++ ys))
  next_lost None None e xs ys h = h
  next_lost None (Some b) e xs ys h = absurd (let wrong : Some b.limit ≡ None = e in cc)
  next_lost (Some a) None e xs ys h = absurd (let wrong : None ≡ Some a.limit = e in cc)
  next_lost (Some a) (Some b) e xs ys h = record { place = suc h.place; was = h.was; is = h.is; before = h.before; after = h.after; rose = h.rose; hidden = h.hidden }

  this_lost : (x y : Option (LogState D)) → limit_of y ≡ limit_of x → Rose (faults_of faults x) (faults_of faults y) → HidesLog content y → (xs ys : List (LogState D))
      → Lost (map disk_in (option_to_list x ++ xs)) (map disk_in (option_to_list y ++ ys))
  this_lost None None e r h xs ys = absurd (omega (arith, r))
  this_lost None (Some log) e r h xs ys = absurd (let wrong : Some log.limit ≡ None = e in cc)
  this_lost (Some old) None e r h xs ys = absurd (let wrong : None ≡ Some old.limit = e in cc)
  this_lost (Some old) (Some log) e r h xs ys = record {
    place = 0;
    was = old.disk;
    is = log.disk;
    before = refl;
    after = refl;
    rose = r;
    hidden = h;
  }

  -- the log of one of these cells
  pub log_lost : (cs ds : List (CellState D)) → CellsGo faults cs ds → (k : ℕ) (c d : CellState D) → slice_get cs k ≡ Some c → slice_get ds k ≡ Some d → Rose (faults_of faults c.log) (faults_of faults d.log)
      → HidesLog content d.log → Lost (map disk_in (logs_of cs)) (map disk_in (logs_of ds))
  log_lost [] ds h k c d e f r b = absurd (let wrong : None ≡ Some c = e in cc)
  log_lost (x ∷ xs) [] h k c d e f r b = absurd h
  log_lost (x ∷ xs) (y ∷ ys) h zero c d e f r b =
      let here : c ≡ x = (let same : Some c ≡ Some x = sym e in cc) in let there : d ≡ y = (let same : Some d ≡ Some y = sym f in cc) in
      this_lost x.log y.log h.0.limit (subst (λ z. Rose (faults_of faults x.log) (faults_of faults z.log)) there (subst (λ z. Rose (faults_of faults z.log) (faults_of faults d.log)) here r))
      (subst (λ (z : CellState D). HidesLog content z.log) there b) (logs_of xs) (logs_of ys)
  log_lost (x ∷ xs) (y ∷ ys) h (suc k) c d e f r b = next_lost x.log y.log h.0.limit (logs_of xs) (logs_of ys) (log_lost xs ys h.1 k c d e f r b)

  -- ---- all disks

  pub lost_there : (n : Counts) (disks back : List D) → n.acceptors ≤ 7 → n.coordinators ≤ 5 → length disks ≡ 12 → length back ≡ logged n → Lost (lent_of n disks) back → Lost disks (shelved n (unlent_of n disks) back)
  lost_there n disks back a c twelve many r =
      let within : r.place < logged n = omega (arith, slice_get_within back r.place r.is r.after, many) in
      record {
        place = place_at n r.place;
        was = r.was;
        is = r.is;
        before = sym (lent_at n disks r.place twelve a within) ∙ r.before;
        after = shelved_at n (unlent_of n disks) back a c (length-unlent n disks twelve a c) many r.place within ∙ r.after;
        rose = r.rose;
        hidden = r.hidden;
      }
