-- Steps on the word of a book.
use Rattle.std.proofs.Common.{◌≡◌, ◌≤◌, ℕ, ◌+◌, ◌<◌, ◌==◌, Bool, true, false, List, [], ◌∷◌, ◌++◌, length, refl, ap, sym, subst, ◌∙◌, arith, inl, ⊎_elim, None}
use Rattle.std.proofs.lemmas.List.{append-nil, length-append}
use Rattle.std.proofs.lemmas.Bool.Decides.{nat_tests}
use mathlib.Core.List.{IsPrefix}
use prog.Atomic.{either}
use Rattle.logbook.specs.Pages.{Book, Cell, cell, keeps, no_nib, step, Moves, Goes}
use Rattle.gp_command.specs.declared.command.Command.{Command}
use Rattle.gp_views.specs.Ends.{Published}
use Rattle.gp_views.specs.Lists.{Extends}
use Rattle.gp_views.specs.Books.{last_of, IsNested, IsKept, Adds}
use Rattle.gp_views.proofs.Begun.{extends_itself, extends_more, begins_itself, begins_or_whole, shorter_begins, as_long}

abbrev Lists : Type 0
Lists = List (List Command)

pub last_snoc : (log : Lists) (cs : List Command) → last_of (log ++ cs ∷ []) ≡ cs
last_snoc [] cs = refl
last_snoc (a ∷ []) cs = refl
last_snoc (a ∷ b ∷ log) cs = last_snoc (b ∷ log) cs

-- a record of these parts
pub published : (p : Published) (feed : Book) (cs : List Command) → feed ≡ p.feed → cs ≡ p.list → record { feed = feed; list = cs } ≡ p
published p feed cs e d = ap (λ (b : Book). record { feed = b; list = cs }) e ∙ ap (λ (l : List Command). record { feed = p.feed; list = l }) d

pub nested_none : IsNested []
nested_none xs ys p q = let nothing : ys ≡ [] = as_long ys [] q (omega arith) in
    let none : xs ≡ [] = as_long xs [] (subst (IsPrefix xs) nothing p) (omega arith) in
    subst (λ (z : Lists). Extends (last_of ys) (last_of z)) (nothing ∙ sym none) (extends_itself (last_of ys))

-- a list behind all others that extends the last one
pub nested_more : (log : Lists) (cs : List Command) → IsNested log → Extends cs (last_of log) → IsNested (log ++ cs ∷ [])
nested_more log cs nested more xs ys p q =
    let all : Lists = log ++ cs ∷ [] in
    let last : last_of all ≡ cs = last_snoc log cs in
    let below : IsPrefix xs log → Extends (last_of all) (last_of xs) = λ r. subst (λ (z : List Command). Extends z (last_of xs)) (sym last) (extends_more cs (last_of log) (last_of xs) more (nested xs log r (begins_itself log))) in
    let at_end : ys ≡ all → Extends (last_of ys) (last_of xs) = λ whole. subst (λ (z : Lists). Extends (last_of z) (last_of xs)) (sym whole)
    (⊎_elim below (λ (same : xs ≡ all). subst (λ (z : Lists). Extends (last_of all) (last_of z)) (sym same) (extends_itself (last_of all))) (begins_or_whole xs log cs (subst (IsPrefix xs) whole p))) in
    ⊎_elim (λ (r : IsPrefix ys log). nested xs ys p r) at_end (begins_or_whole ys log cs q)

-- of two beginnings of a book the longer one's last list extends that of the other
pub in_order : (xs ys both : Lists) (cells : List Cell) → IsPrefix xs both → IsPrefix ys both → IsKept cells both → length xs ≤ length ys → Extends (last_of ys) (last_of xs)
in_order xs ys both cells p q kept less = kept.nested xs ys (shorter_begins xs ys both p q less) q

pub opens : IsKept ((0, true) ∷ (0, true) ∷ []) []
opens = record { words = refl; nested = nested_none }

abbrev pub shown : Lists → Lists
shown log = []

abbrev pub moved : Lists → Lists → Unit {0} → Type 0
moved xs ys n = Unit {0}

module _ (v : Lists) (cs : List Command) (old new : ℕ) (len : old ≡ length v) (next : new ≡ old + 1) (more : Extends cs (last_of v)) where
  abbrev Commits : List Cell → Lists → Type 0
  Commits = Goes IsKept shown moved 0 (v, (no_nib, None)) (λ n. either (n == old) new n) (Adds (step 0 old new cs) (v, (no_nib, None)))

  commits : (log : Lists) → IsNested log → IsPrefix v log → (b : Bool) → (length log == old) ≡ b → Commits ((length log, true) ∷ (0, true) ∷ []) log
  commits log nested pre true is =
      let here : length log ≡ old = grind (arith, nat_tests) in
      let same : v ≡ log = as_long v log pre (omega (arith, here, len)) in
      let count : either (length log == old) new (length log) ≡ length (log ++ cs ∷ []) = rw is (omega (arith, here, next, length-append log (cs ∷ []))) in (
        keeps,
        cs ∷ [],
        None,
        tt,
        record { words = ap (λ (k : ℕ). (k, true) ∷ (0, true) ∷ []) count; nested = nested_more log cs nested (subst (λ (z : Lists). Extends cs (last_of z)) same more) },
        inl (refl, refl),
        λ _. ap (λ (z : Lists). z ++ cs ∷ []) (sym same),
      )
  commits log nested pre false is =
      let all : log ++ [] ≡ log = append-nil log in
      let count : either (length log == old) new (length log) ≡ length (log ++ []) = rw is (ap length (sym all)) in (
        keeps,
        [],
        None,
        tt,
        record { words = ap (λ (k : ℕ). (k, true) ∷ (0, true) ∷ []) count; nested = subst IsNested (sym all) nested },
        inl (refl, refl),
        λ (found : length log ≡ old). absurd (grind (arith, nat_tests)),
      )

  -- whatever the book is, the exchange adds the list to all that was seen, or finds another number
  pub commits_moves : Moves IsKept shown moved 0 (v, (no_nib, None)) (λ n. either (n == old) new n) (Adds (step 0 old new cs) (v, (no_nib, None)))
  commits_moves cells log kept pre away =
      let P : List Cell → Type 0 = λ c. (0 < length c) × ((cell c 0).1 ≡ true) × Commits c log in
      subst P (sym kept.words) (omega arith, refl, commits log kept.nested pre (length log == old) refl)
