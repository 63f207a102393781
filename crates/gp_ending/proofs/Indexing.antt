-- Elements of a list, by their places and in order.
use Rattle.std.proofs.Common.{◌≡◌, ℕ, zero, suc, ◌<◌, List, [], ◌∷◌, ◌++◌, length, map, get_or, refl, sym, inl, inr, arith, subst, Some}
use Rattle.std.specs.Prelude.{slice_get}
use Rattle.std.specs.List.{All}
use Rattle.gp_msg.specs.declared.node.Node.{Node}
use Rattle.gp_wire.specs.Lists.{Each, Has}
use Rattle.gp_work.specs.declared.job.Job.{Job}
use Rattle.gp_cell.specs.Cells.{CellState}
use Rattle.gp_ending.specs.Ended.{cell_in, cells_of, nodes_of}

pub no_place : {X : Type 0} (i : ℕ) → i < 0 → X
no_place i l = absurd (omega (arith, l))

module _ {A : Type 0} where
  -- some element of a list that has one
  pub pick : (xs : List A) (i : ℕ) → i < length xs → A
  pick [] i l = no_place i l
  pick (x ∷ xs) i l = x

  pub each_of : (P : A → Type 0) (xs : List A) → All P xs → Each P xs
  each_of P [] h = tt
  each_of P (x ∷ xs) h = (h 0 x (omega arith), each_of P xs (λ i d l. h (suc i) d (omega (arith, l))))

  pub each_at : (P : A → Type 0) (xs : List A) → Each P xs → (i : ℕ) (d : A) → i < length xs → P (get_or xs i d)
  each_at P [] h i d l = no_place i l
  each_at P (x ∷ xs) h zero d l = h.0
  each_at P (x ∷ xs) h (suc i) d l = each_at P xs h.1 i d (omega (arith, l))

  pub each_got : (P : A → Type 0) (xs : List A) → ((i : ℕ) (x : A) → slice_get xs i ≡ Some x → P x) → Each P xs
  each_got P [] h = tt
  each_got P (x ∷ xs) h = (h 0 x refl, each_got P xs (λ i y e. h (suc i) y e))

  pub get_each : (P : A → Type 0) (xs : List A) → Each P xs → (i : ℕ) (x : A) → slice_get xs i ≡ Some x → P x
  get_each P [] h i x e = absurd (cc)
  get_each P (y ∷ xs) h zero x e = subst P (let is : y ≡ x = cc in is) h.0
  get_each P (y ∷ xs) h (suc i) x e = get_each P xs h.1 i x e

  pub each_front : (P : A → Type 0) (xs ys : List A) → Each P (xs ++ ys) → Each P xs
  each_front P [] ys h = tt
  each_front P (x ∷ xs) ys h = (h.0, each_front P xs ys h.1)

  pub each_back : (P : A → Type 0) (xs ys : List A) → Each P (xs ++ ys) → Each P ys
  each_back P [] ys h = h
  each_back P (x ∷ xs) ys h = each_back P xs ys h.1

  pub each_map : {B : Type 0} (P : B → Type 0) (f : A → B) (xs : List A) → Each P (map f xs) → Each (λ x. P (f x)) xs
  each_map P f [] h = tt
  each_map P f (x ∷ xs) h = (h.0, each_map P f xs h.1)

  pub each_both : (P : A → Type 0) (xs ys : List A) → Each P xs → Each P ys → Each P (xs ++ ys)
  each_both P [] ys a b = b
  each_both P (x ∷ xs) ys a b = (a.0, each_both P xs ys a.1 b)

  pub each_mapped : {B : Type 0} (P : B → Type 0) (f : A → B) (xs : List A) → Each (λ x. P (f x)) xs → Each P (map f xs)
  each_mapped P f [] h = tt
  each_mapped P f (x ∷ xs) h = (h.0, each_mapped P f xs h.1)

  pub each_then : (P Q : A → Type 0) → ((x : A) → P x → Q x) → (xs : List A) → Each P xs → Each Q xs
  each_then P Q f [] h = tt
  each_then P Q f (x ∷ xs) h = (f x h.0, each_then P Q f xs h.1)

module _ {D : Type 0} where
  -- the cells of the first jobs, and of the second
  pub first_cells : (P : CellState D → Type 0) (js ks : List (Job (CellState D))) → Each P (cells_of js ++ cells_of ks) → (i : ℕ) (d : Job (CellState D)) → i < length js → P (get_or js i d).cell
  first_cells P js ks h = each_at (λ (j : Job (CellState D)). P j.cell) js (each_map P cell_in js (each_front P (cells_of js) (cells_of ks) h))

  pub second_cells : (P : CellState D → Type 0) (js ks : List (Job (CellState D))) → Each P (cells_of js ++ cells_of ks) → (i : ℕ) (d : Job (CellState D)) → i < length ks → P (get_or ks i d).cell
  second_cells P js ks h = each_at (λ (j : Job (CellState D)). P j.cell) ks (each_map P cell_in ks (each_back P (cells_of js) (cells_of ks) h))

  -- the job of a node
  pub record JobOf (n : Node) (js : List (Job (CellState D))) : Type 0 where
    pub place : ℕ
    pub some : Job (CellState D)
    pub within : place < length js
    pub node_is : (get_or js place some).cell.node ≡ n

  pub job_of : (n : Node) (js : List (Job (CellState D))) → Has n (nodes_of js) → JobOf n js
  job_of n [] h = absurd h
  job_of n (j ∷ js) (inl e) = record { place = 0; some = j; within = omega arith; node_is = sym e }
  job_of n (j ∷ js) (inr h) = let k = job_of n js h in record { place = suc k.place; some = k.some; within = let l = k.within in omega arith; node_is = k.node_is }

  pub has_node : (js : List (Job (CellState D))) (i : ℕ) (d : Job (CellState D)) → i < length js → Has (get_or js i d).cell.node (nodes_of js)
  has_node [] i d l = no_place i l
  has_node (j ∷ js) zero d l = inl refl
  has_node (j ∷ js) (suc i) d l = inr (has_node js i d (omega (arith, l)))

  pub same_nodes : (js ks : List (Job (CellState D))) → length ks ≡ length js → ((i : ℕ) (d : Job (CellState D)) → i < length js → (get_or ks i d).cell.node ≡ (get_or js i d).cell.node) → nodes_of ks ≡ nodes_of js
  same_nodes [] [] size h = refl
  same_nodes [] (k ∷ ks) size h = absurd (omega (arith, size))
  same_nodes (j ∷ js) [] size h = absurd (omega (arith, size))
  same_nodes (j ∷ js) (k ∷ ks) size h = (λ i. h 0 j (omega arith) i ∷ same_nodes js ks (omega (arith, size)) (λ n d l. h (suc n) d (omega (arith, l))) i)
