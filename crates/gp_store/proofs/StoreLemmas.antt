-- The map that the store keeps, and the pairs that contracts see.
use Rattle.std.proofs.Common.{◌≡◌, ℕ, true, cond, ◌&&◌, List, [], ◌∷◌, Option, Some, None, refl, sym, ap, ◌∙◌}
use Rattle.std.specs.Prelude.{T}
use Rattle.std.specs.BTreeMap as tree
use Rattle.std.specs.BTreeMap.{BTreeMap, is_at}
use Rattle.std.specs.Cmp.{eq_by_cmp_equiv}
use Rattle.std.specs.FinMap.{entries, insert, remove, get-from_entries, get-entries, get-insert, get-remove, entries_sorted, is_sorted, find, slice_cmp-IsAntisymmetric, nat_cmp-IsAntisymmetric}
use Rattle.std.specs.FinMap.Entries.{below_all, same_entries}
use Rattle.std.specs.List.{AllByRecursion}
use Rattle.std.specs.List.Sorted.{IsStrictlySortedBy}
use Rattle.std.specs.Map.{lookup, keys_of}
use Rattle.std.specs.Ordering.{is_lt}
use Rattle.std.specs.declared.cmp.Ordering.TheVariants.{Less}
use Rattle.std.proofs.lemmas.Map.Keys.{sorted_head, sorted_tail}
use Rattle.gp_command.specs.Key.{key_cmp, key_cmp_total}
use Rattle.gp_store.specs.Pairs.{pairs_of, value_at}
use Rattle.gp_store.specs.Changes.{same_key, same_pairs}

abbrev Entries : Type 0
Entries = List (List ℕ × ℕ)

found_alike : (es : Entries) (q : List ℕ) → find key_cmp q es ≡ lookup (is_at (key_cmp q)) es
found_alike [] q = refl
found_alike (e ∷ es) q = ap (λ (o : Option ℕ). cond (same_key q e.0) (Some e.1) o) (found_alike es q)

-- the map has the value that its pairs have
pub value_in_map : (es : Entries) (q : List ℕ) → value_at (pairs_of es) q ≡ lookup (is_at (key_cmp q)) es
value_in_map es q = get-from_entries key_cmp_total es q ∙ found_alike es q

-- ---- the pairs of a map in order are its entries

below_each : (key : List ℕ) (es : Entries) → AllByRecursion (λ k. key_cmp key k ≡ Less) (keys_of es) → below_all key_cmp key es ≡ true
below_each key [] h = refl
below_each key (e ∷ es) h = (λ i. is_lt (h.0 i) && below_each key es h.1 i)

in_order : (es : Entries) → IsStrictlySortedBy key_cmp (keys_of es) → is_sorted key_cmp es ≡ true
in_order [] h = refl
in_order (e ∷ es) h = (λ i. below_each e.0 es (sorted_head key_cmp e.0 (keys_of es) h) i && in_order es (sorted_tail key_cmp e.0 (keys_of es) h) i)

pub entries_of_map : (es : Entries) → IsStrictlySortedBy key_cmp (keys_of es) → entries (pairs_of es) ≡ es
entries_of_map es h =
    let sorted : T (is_sorted key_cmp es) = rw (in_order es h) tt in
    same_entries key_cmp key_cmp_total (slice_cmp-IsAntisymmetric nat_cmp-IsAntisymmetric) (entries (pairs_of es)) es (entries_sorted (pairs_of es)) sorted (λ q. sym (get-entries (pairs_of es) q) ∙ get-from_entries key_cmp_total es q)

-- ---- a map that changed at one key

module _ (m n : BTreeMap (List ℕ) ℕ) (key : List ℕ) where
  turned_test : (q : List ℕ) → same_key key q ≡ same_key q key
  turned_test q = (eq_by_cmp_equiv key_cmp_total).symm key q

  behind : (w : Option ℕ) (q : List ℕ) → tree.get key_cmp n q ≡ cond (is_at (key_cmp key) q) w (tree.get key_cmp m q) → value_at (pairs_of n.entries) q ≡ cond (same_key q key) w (value_at (pairs_of m.entries) q)
  behind w q e = value_in_map n.entries q ∙ e ∙ (λ i. cond (turned_test q i) w (sym (value_in_map m.entries q) i))

  pub pairs_put : (value : ℕ) → ((q : List ℕ) → tree.get key_cmp n q ≡ cond (is_at (key_cmp key) q) (Some value) (tree.get key_cmp m q)) → pairs_of n.entries ≡ insert (pairs_of m.entries) key value
  pairs_put value h = same_pairs (pairs_of n.entries) (insert (pairs_of m.entries) key value) (λ q. behind (Some value) q (h q) ∙ sym (get-insert key_cmp_total (pairs_of m.entries) key value q))

  pub pairs_removed : ((q : List ℕ) → tree.get key_cmp n q ≡ cond (is_at (key_cmp key) q) None (tree.get key_cmp m q)) → pairs_of n.entries ≡ remove (pairs_of m.entries) key
  pairs_removed h = same_pairs (pairs_of n.entries) (remove (pairs_of m.entries) key) (λ q. behind None q (h q) ∙ sym (get-remove key_cmp_total (pairs_of m.entries) key q))
