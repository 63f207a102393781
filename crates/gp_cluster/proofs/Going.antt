-- Cells and their logs, earlier and later.
use Rattle.std.proofs.Common.{◌≡◌, ◌≤◌, ℕ, zero, suc, List, [], ◌∷◌, ◌++◌, map, refl, sym, ◌∙◌, subst, arith, Option, Some, None}
use Rattle.std.specs.Prelude.{slice_get}
use Rattle.std.specs.List.{AllZip}
use Rattle.std.specs.Option.{option_to_list}
use Rattle.gp_edge.specs.Faults.{Rose}
use Rattle.gp_vlog.specs.Logs.{LogState}
use Rattle.gp_cell.specs.Cells.{CellState}
use Rattle.gp_cell.specs.Refusals.{faults_of, limit_of}
use Rattle.gp_shelf.specs.Lists.{disk_in}
use Rattle.gp_shelf.specs.Making.{SomeRose}
use Rattle.gp_cluster.specs.Cells.{node_in, logs_of, CellGoes, CellsGo, SomeCellRose, LogGoes}

module _ {A : Type 0} (R : A → A → Type 0) where
  pub zip_same : ((x : A) → R x x) → (xs : List A) → AllZip R xs xs
  zip_same h [] = tt
  zip_same h (x ∷ xs) = (h x, zip_same h xs)

  pub zip_on : ((x y z : A) → R x y → R y z → R x z) → (xs ys zs : List A) → AllZip R xs ys → AllZip R ys zs → AllZip R xs zs
  zip_on h [] [] zs p q = q
  zip_on h [] (y ∷ ys) zs p q = absurd p
  zip_on h (x ∷ xs) [] zs p q = absurd p
  zip_on h (x ∷ xs) (y ∷ ys) [] p q = absurd q
  zip_on h (x ∷ xs) (y ∷ ys) (z ∷ zs) p q = (h x y z p.0 q.0, zip_on h xs ys zs p.1 q.1)

module _ {D : Type 0} (faults : D → ℕ) where
  cell_same : (c : CellState D) → CellGoes faults c c
  cell_same c = record { node = refl; config = refl; limit = refl; later = omega arith }

  cell_on : (a b c : CellState D) → CellGoes faults a b → CellGoes faults b c → CellGoes faults a c
  cell_on a b c p q = record { node = q.node ∙ p.node; config = q.config ∙ p.config; limit = q.limit ∙ p.limit; later = let x = p.later in let y = q.later in omega arith }

  pub cells_same : (cs : List (CellState D)) → CellsGo faults cs cs
  cells_same = zip_same (CellGoes faults) cell_same

  pub cells_on : (xs ys zs : List (CellState D)) → CellsGo faults xs ys → CellsGo faults ys zs → CellsGo faults xs zs
  cells_on = zip_on (CellGoes faults) cell_on

  pub nodes_go : (cs ds : List (CellState D)) → CellsGo faults cs ds → map node_in ds ≡ map node_in cs
  nodes_go [] [] h = refl
  nodes_go [] (d ∷ ds) h = absurd h
  nodes_go (c ∷ cs) [] h = absurd h
  nodes_go (c ∷ cs) (d ∷ ds) h = (λ i. h.0.node i ∷ nodes_go cs ds h.1 i)

  -- ---- logs

  log_goes : (x y : Option (LogState D)) → limit_of y ≡ limit_of x → faults_of faults x ≤ faults_of faults y → (xs ys : List (LogState D)) → AllZip (LogGoes faults) xs ys
      → AllZip (LogGoes faults) (option_to_list x ++ xs) (option_to_list y ++ ys)
  log_goes None None e l xs ys h = h
  log_goes None (Some b) e l xs ys h = absurd (let wrong : Some b.limit ≡ None = e in cc)
  log_goes (Some a) None e l xs ys h = absurd (let wrong : None ≡ Some a.limit = e in cc)
  log_goes (Some a) (Some b) e l xs ys h = (record { limit = (let same : Some b.limit ≡ Some a.limit = e in cc); later = l }, h)

  pub logs_go : (cs ds : List (CellState D)) → CellsGo faults cs ds → AllZip (LogGoes faults) (logs_of cs) (logs_of ds)
  logs_go [] [] h = tt
  logs_go [] (d ∷ ds) h = absurd h
  logs_go (c ∷ cs) [] h = absurd h
  logs_go (c ∷ cs) (d ∷ ds) h = log_goes c.log d.log h.0.limit h.0.later (logs_of cs) (logs_of ds) (logs_go cs ds h.1)

  -- a disk that failed is among the disks of the logs
  next_rose : (x y : Option (LogState D)) → limit_of y ≡ limit_of x → (xs ys : List (LogState D)) → SomeRose faults (map disk_in xs) (map disk_in ys)
      → SomeRose faults (map disk_in (option_to_list x ++ xs)) (map disk_in (option_to_list y ++ ys))
  next_rose None None e xs ys h = h
  next_rose None (Some b) e xs ys h = absurd (let wrong : Some b.limit ≡ None = e in cc)
  next_rose (Some a) None e xs ys h = absurd (let wrong : None ≡ Some a.limit = e in cc)
  next_rose (Some a) (Some b) e xs ys h = record { place = suc h.place; was = h.was; is = h.is; before = h.before; after = h.after; rose = h.rose }

  this_rose : (x y : Option (LogState D)) → limit_of y ≡ limit_of x → Rose (faults_of faults x) (faults_of faults y) → (xs ys : List (LogState D))
      → SomeRose faults (map disk_in (option_to_list x ++ xs)) (map disk_in (option_to_list y ++ ys))
  this_rose None None e r xs ys = absurd (omega (arith, r))
  this_rose None (Some b) e r xs ys = absurd (let wrong : Some b.limit ≡ None = e in cc)
  this_rose (Some a) None e r xs ys = absurd (let wrong : None ≡ Some a.limit = e in cc)
  this_rose (Some a) (Some b) e r xs ys = record { place = 0; was = a.disk; is = b.disk; before = refl; after = refl; rose = r }

  rose_at : (cs ds : List (CellState D)) → CellsGo faults cs ds → (k : ℕ) (c d : CellState D) → slice_get cs k ≡ Some c → slice_get ds k ≡ Some d → Rose (faults_of faults c.log) (faults_of faults d.log)
      → SomeRose faults (map disk_in (logs_of cs)) (map disk_in (logs_of ds))
  rose_at [] ds h k c d e f r = absurd (let wrong : None ≡ Some c = e in cc)
  rose_at (x ∷ xs) [] h k c d e f r = absurd h
  rose_at (x ∷ xs) (y ∷ ys) h zero c d e f r =
      let here : x ≡ c = (let same : Some x ≡ Some c = e in cc) in let there : y ≡ d = (let same : Some y ≡ Some d = f in cc) in
      this_rose x.log y.log h.0.limit (subst (λ z. Rose (faults_of faults x.log) (faults_of faults z.log)) (sym there) (subst (λ z. Rose (faults_of faults z.log) (faults_of faults d.log)) (sym here) r)) (logs_of xs) (logs_of ys)
  rose_at (x ∷ xs) (y ∷ ys) h (suc k) c d e f r = next_rose x.log y.log h.0.limit (logs_of xs) (logs_of ys) (rose_at xs ys h.1 k c d e f r)

  pub cell_rose : (cs ds : List (CellState D)) → CellsGo faults cs ds → SomeCellRose faults cs ds → SomeRose faults (map disk_in (logs_of cs)) (map disk_in (logs_of ds))
  cell_rose cs ds h r = rose_at cs ds h r.place r.was r.is r.before r.after r.rose
