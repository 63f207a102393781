-- How many records the proposers post.
use Rattle.std.proofs.Common.{◌≡◌, ◌<◌, ◌≤◌, ◌+◌, ◌^◌, inl, inr, ⊎_elim, ℕ, zero, suc, cond, List, [], ◌∷◌, ◌++◌, map, length, nat_eq, refl, sym, subst, ap, ◌∙◌, arith, All, slice_index_or, Option}
use Rattle.std.proofs.lemmas.List.{length-map}
use Rattle.std.proofs.lemmas.Bool.{eq-eqb, ne_eqb}
use Rattle.gp_command.specs.Views.{DraftView}
use Rattle.gp_msg.specs.declared.node.Node.{Node}
use Rattle.gp_wire.specs.Known.{WireState, records}
use Rattle.gp_wire.specs.Lists.{Each, Has}
use Rattle.gp_cell.specs.declared.rules.PaxosRules.{PaxosRules}
use Rattle.gp_wire.specs.Own.{own, event_in}
use Rattle.gp_work.specs.declared.job.Job.{Job}
use Rattle.gp_work.specs.Doing.{posted}
use Rattle.gp_work.specs.Moves.{event_of}
use Rattle.gp_work.proofs.Stretches.{posted_more}
use Rattle.gp_cell.specs.Cells.{CellState}
use Rattle.gp_cell.specs.Working.{process_of}
use Rattle.gp_node.specs.Phases.{IsReadyJob, IsWorkedJob}
use Rattle.gp_phase.specs.Phases.{total}
use Rattle.gp_seats.specs.declared.nodes.Role.TheVariants.{Proposer}
use Rattle.gp_seats.specs.Nodes.{node_of, first_of, proposer_nodes}
use Rattle.gp_seats.specs.Seats.{IsNewAt}
use Rattle.gp_seats.specs.Offering.{is_proposer, moves_of, given_to, node_in, IsKnown, IsDone, HasOffered}
use Rattle.gp_seats.proofs.Listing.{below_or_last, first_has}
use Rattle.gp_seats.proofs.Sitting.{all_of_each, each_of_all, length_proposers}
use Rattle.gp_seats.proofs.Offered.{has_offered, ready, length_more}

-- how many moves these nodes have in all
sum_moves : List Node → List (ℕ × DraftView) → ℕ
sum_moves [] os = 0
sum_moves (n ∷ ns) os = length (moves_of n os) + sum_moves ns os

-- how many of these nodes are the proposer with a number
hits : List Node → ℕ → ℕ
hits [] q = 0
hits (n ∷ ns) q = cond (is_proposer n q) 1 0 + hits ns q

hits_append : (xs ys : List Node) (q : ℕ) → hits (xs ++ ys) q ≡ hits xs q + hits ys q
unfolding hits
hits_append [] ys q = omega arith
hits_append (x ∷ xs) ys q = let h = hits_append xs ys q in omega arith

hits_one : (k q : ℕ) → hits (node_of Proposer k ∷ []) q ≡ cond {A = ℕ} (nat_eq k q) 1 0
unfolding hits
hits_one k q = omega arith

hits_below : (k q : ℕ) → k ≤ q → hits (first_of Proposer k) q ≡ 0
unfolding hits
hits_below zero q l = refl
hits_below (suc k) q l =
    let h = hits_below k q (omega arith) in let a = hits_append (first_of Proposer k) (node_of Proposer k ∷ []) q in
    let last : hits (node_of Proposer k ∷ []) q ≡ 0 = hits_one k q ∙ ap (λ b. cond {A = ℕ} b 1 0) (ne_eqb k q (λ e. omega arith)) in omega arith

sum_is : {a b m n : ℕ} → a ≡ m → b ≡ n → a + b ≡ m + n
sum_is e f = λ i. e i + f i

hits_within : (k q : ℕ) → q < k → hits (first_of Proposer k) q ≡ 1
hits_within zero q l = absurd (omega arith)
hits_within (suc k) q l =
    let a = hits_append (first_of Proposer k) (node_of Proposer k ∷ []) q in ⊎_elim
    (λ below. let h = hits_within k q below in let last : hits (node_of Proposer k ∷ []) q ≡ 0 = hits_one k q ∙ ap (λ b. cond {A = ℕ} b 1 0) (ne_eqb k q (λ e. omega arith)) in a ∙ sum_is h last)
    (λ same. let h = hits_below k q (omega arith) in let last : hits (node_of Proposer k ∷ []) q ≡ 1 = hits_one k q ∙ ap (λ b. cond {A = ℕ} b 1 0) (eq-eqb k q (sym same)) in a ∙ sum_is h last)
    (below_or_last q k l)

sum_none : (ns : List Node) → sum_moves ns [] ≡ 0
unfolding sum_moves
sum_none [] = refl
sum_none (n ∷ ns) = let h = sum_none ns in omega arith

sum_more : (ns : List Node) (o : ℕ × DraftView) (os : List (ℕ × DraftView)) → sum_moves ns (o ∷ os) ≡ hits ns o.0 + sum_moves ns os
unfolding sum_moves hits
sum_more [] o os = refl
sum_more (n ∷ ns) o os = let h = sum_more ns o os in let one = length_more o.1 (is_proposer n o.0) (moves_of n os) in omega arith

sum_all : (os : List (ℕ × DraftView)) → Each IsKnown os → sum_moves proposer_nodes os ≡ length os
sum_all [] known = sum_none proposer_nodes
sum_all (o ∷ os) known = let h = sum_all os known.1 in let more = sum_more proposer_nodes o os in let one = hits_within 8 o.0 known.0 in omega arith

has_at : (ns : List Node) (i : ℕ) (d : Node) → i < length ns → Has (slice_index_or ns i d) ns
has_at [] i d l = absurd (omega arith)
has_at (n ∷ ns) zero d l = inl refl
has_at (n ∷ ns) (suc i) d l = inr (has_at ns i d (omega arith))

get_map : {A B : Type 0} (f : A → B) (xs : List A) (i : ℕ) (d : A) (e : B) → i < length xs → slice_index_or (map f xs) i e ≡ f (slice_index_or xs i d)
get_map f [] i d e l = absurd (omega arith)
get_map f (x ∷ xs) zero d e l = refl
get_map f (x ∷ xs) (suc i) d e l = get_map f xs i d e (omega arith)

module _ {D : Type 0} (faults : D → ℕ) (wire : WireState PaxosRules) (os : List (ℕ × DraftView)) where
  each_ready : (js : List (Job (CellState D))) → length os < 2 ^ 32 → Each (IsNewAt faults wire) js → Each (IsReadyJob faults wire) (map (given_to os) js)
  each_ready [] few new = tt
  each_ready (j ∷ js) few new = (ready faults wire os j few new.0, each_ready js few new.1)

  pub all_ready : (js given : List (Job (CellState D))) → length os < 2 ^ 32 → All (IsNewAt faults wire) js → given ≡ map (given_to os) js → All (IsReadyJob faults wire) given
  all_ready js given few new e = subst (λ (l : List (Job (CellState D))). All (IsReadyJob faults wire) l) (sym e) (all_of_each (IsReadyJob faults wire) (map (given_to os) js) (each_ready js few (each_of_all (IsNewAt faults wire) js new)))

  pub count_given : (js given : List (Job (CellState D))) → map node_in js ≡ proposer_nodes → given ≡ map (given_to os) js → (length given ≡ length js) × (0 < length given)
  count_given js given nodes e =
      let same : length given ≡ length js = ap length e ∙ length-map js (given_to os) in
      let eight : length js ≡ 8 = sym (length-map js node_in) ∙ ap length nodes ∙ length_proposers in (same, omega arith)

  pub all_offered : (content : D → Option (List ℕ)) (js given ks : List (Job (CellState D))) → All (IsNewAt faults wire) js → map node_in js ≡ proposer_nodes → given ≡ map (given_to os) js → length ks ≡ length given
      → ((i : ℕ) (d : Job (CellState D)) → i < length given → IsWorkedJob content faults wire (slice_index_or given i d) (slice_index_or ks i d)) → All IsDone ks
      → (i : ℕ) (d : Job (CellState D)) → i < length js → HasOffered faults wire os (slice_index_or js i d) (slice_index_or ks i d)
  all_offered content js given ks new nodes e size worked done i d l =
      let j = slice_index_or js i d in let k = slice_index_or ks i d in
      let count = (count_given js given nodes e).0 in
      let which = first_has Proposer 8 j.cell.node (subst (λ n. Has n proposer_nodes) (ap (λ ns. slice_index_or ns i (node_in d)) (sym nodes) ∙ get_map node_in js i d (node_in d) l) (has_at proposer_nodes i (node_in d) (let all = sym (length-map js node_in) ∙ ap length nodes in omega arith))) in
      let given_is = ap (λ (js : List (Job (CellState D))). slice_index_or js i d) e ∙ get_map (given_to os) js i d d l in
      has_offered content faults wire os which.0 j k (new i d l) which.2 (subst (λ x. IsWorkedJob content faults wire x k) given_is (worked i d (omega arith))) (done i d (omega arith))

  posted_of : (j k : Job (CellState D)) → IsNewAt faults wire j → HasOffered faults wire os j k → posted (process_of faults k.cell) ≡ length (moves_of j.cell.node os)
  posted_of j k new h =
      let none : length (own j.cell.node (records j.cell.pass)) ≡ 0 = sym (length-map (own j.cell.node (records j.cell.pass)) event_in) ∙ ap length new.nothing in
      let more = posted_more (process_of faults j.cell) (process_of faults k.cell) (map (event_of j.cell.node) (moves_of j.cell.node os)) h.posts in
      let size = length-map (moves_of j.cell.node os) (event_of j.cell.node) in omega arith

  total_is : (js ks : List (Job (CellState D))) → length ks ≡ length js → All (IsNewAt faults wire) js
      → ((i : ℕ) (d : Job (CellState D)) → i < length js → HasOffered faults wire os (slice_index_or js i d) (slice_index_or ks i d)) → total (process_of faults) 0 ks ≡ sum_moves (map node_in js) os
  unfolding sum_moves
  total_is [] [] size new h = refl
  total_is [] (k ∷ ks) size new h = absurd (omega (arith, size))
  total_is (j ∷ js) [] size new h = absurd (omega (arith, size))
  total_is (j ∷ js) (k ∷ ks) size new h =
      let first = posted_of j k (new 0 j (omega arith)) (h 0 j (omega arith)) in
      let rest = total_is js ks (omega (arith, size)) (λ i d l. new (suc i) d (omega arith)) (λ i d l. h (suc i) d (omega arith)) in omega arith

  pub total_offered : (js ks : List (Job (CellState D))) → length ks ≡ length js → All (IsNewAt faults wire) js → map node_in js ≡ proposer_nodes → All IsKnown os
      → ((i : ℕ) (d : Job (CellState D)) → i < length js → HasOffered faults wire os (slice_index_or js i d) (slice_index_or ks i d)) → total (process_of faults) 0 ks ≡ length os
  total_offered js ks size new nodes known h = total_is js ks size new h ∙ ap (λ ns. sum_moves ns os) nodes ∙ sum_all os (each_of_all IsKnown os known)
