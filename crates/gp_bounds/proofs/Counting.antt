-- Counts of marks: where they show that a command is alone, it conflicts with none that stands before it.
use Rattle.std.proofs.Common.{◌≡◌, ℕ, suc, ◌+◌, ◌≤◌, ◌<◌, ◌%◌, Bool, true, false, not, cond, List, [], ◌∷◌, length, get_or, set, take, Some, sym, ap, subst, ◌∙◌, arith}
use Rattle.std.specs.Prelude.{◌≢◌, slice_get, nat_lt, nat_eq}
use Rattle.std.specs.List.{list_any, list_all}
use Rattle.std.proofs.lemmas.Bool.{ltb-true, ltb-false, eqb-true, eqb-false, true≢false}
use Rattle.std.proofs.lemmas.List.{get_or-set_same, get_or-set_other, length-set}
use Rattle.gp_command.specs.declared.command.Command.{Command}
use Rattle.gp_command.specs.Conflict.{same, conflict}
use Rattle.gp_command.proofs.ConflictLemmas.{same-true}
use Rattle.gp_command.proofs.Marks.{marks_apart}
use Rattle.gp_history.specs.History.{History, has, before}
use Rattle.gp_history.specs.Sequence.{history_of, place, place_in}
use Rattle.gp_history.specs.Walks.{behind}
use Rattle.gp_history.proofs.Joins.{later}
use Rattle.gp_history.proofs.Places.{in_take, behind_start, behind_apart, place_tells, place_within}
use Rattle.gp_history.proofs.Tests.{In, by_cases, never, one_of, left_of, all_gives, all_from}
use Rattle.gp_bounds.specs.Marks.{entry, IsMarked, IsAlone, AreCounted}

-- ---- the loop that counts

pub none_counted : (xs : List Command) (from : ℕ) (counts : List ℕ) → length counts ≡ 4096 → AreCounted xs from from counts true
none_counted xs from counts l = record {
  size = l;
  marked = λ _ p c lo hi at. absurd (omega (arith, lo, hi));
  once = λ p c lo hi at. absurd (omega (arith, lo, hi));
  twice = λ p q c d lo lt hi at there e. absurd (omega (arith, lo, lt, hi));
}

pub all_counted : (xs : List Command) (from to : ℕ) (counts : List ℕ) (all : Bool) → AreCounted xs from to counts all → length xs ≤ to → AreCounted xs from (length xs) counts all
all_counted xs from to counts all a end = record {
  size = a.size;
  marked = λ yes p c lo hi at. a.marked yes p c lo (omega (arith, hi, end)) at;
  once = λ p c lo hi at. a.once p c lo (omega (arith, hi, end)) at;
  twice = λ p q c d lo lt hi at there e. a.twice p q c d lo lt (omega (arith, hi, end)) at there e;
}

same_there : (xs : List Command) (p i : ℕ) (c d : Command) → slice_get xs i ≡ Some c → slice_get xs p ≡ Some d → p ≡ i → c ≡ d
same_there xs p i c d a b e = let f : Some c ≡ Some d = sym a ∙ ap (slice_get xs) (sym e) ∙ b in cc

pub one_counted : (xs : List Command) (from i : ℕ) (c : Command) (counts later : List ℕ) (r : ℕ) (all still : Bool) → AreCounted xs from i counts all → slice_get xs i ≡ Some c → later ≡ set counts (entry c) r → r ≢ 0 → (get_or counts (entry c) 0 ≢ 0 → r ≡ 2) → (still ≡ true → (all ≡ true) × IsMarked c) → AreCounted xs from (i + 1) later still
one_counted xs from i c counts later r all still a at is some again both = record {
  size = ap length is ∙ length-set counts (entry c) r ∙ a.size;
  marked = λ yes p d lo hi there. by_cases (nat_lt p i)
      (λ t. a.marked (both yes).0 p d lo (ltb-true p i t) there)
      (λ f. subst (λ z. IsMarked z) (same_there xs p i c d at there (last p f hi)) (both yes).1);
  once = λ p d lo hi there. by_cases (nat_lt p i)
      (λ t. still_some (entry d) (a.once p d lo (ltb-true p i t) there))
      (λ f z. some (sym (new_at d (same_there xs p i c d at there (last p f hi))) ∙ z));
  twice = λ p q d e lo lt hi first second alike. by_cases (nat_lt q i)
      (λ t. still_two (entry e) (a.twice p q d e lo lt (ltb-true q i t) first second alike))
      (λ f. let is_last = same_there xs q i c e at second (last q f hi) in
      new_at e is_last ∙ again (λ z. a.once p d lo (omega (arith, lt, last q f hi)) first (ap (λ k. get_or counts k 0) (alike ∙ ap (λ z. entry z) (sym is_last)) ∙ z)));
}
  where
    last : (p : ℕ) → nat_lt p i ≡ false → p < i + 1 → p ≡ i
    last p f hi = let le = ltb-false p i f in omega (arith, le, hi)

    new : get_or later (entry c) 0 ≡ r
    new = ap (λ zs. get_or zs (entry c) 0) is ∙ get_or-set_same counts (entry c) r 0 (omega (arith, a.size))

    new_at : (d : Command) → c ≡ d → get_or later (entry d) 0 ≡ r
    new_at d e = ap (λ z. get_or later (entry z) 0) (sym e) ∙ new

    other : (k : ℕ) → nat_eq k (entry c) ≡ false → get_or later k 0 ≡ get_or counts k 0
    other k f = ap (λ zs. get_or zs k 0) is ∙ get_or-set_other counts (entry c) k r 0 (eqb-false k (entry c) f)

    still_some : (k : ℕ) → get_or counts k 0 ≢ 0 → get_or later k 0 ≢ 0
    still_some k old = by_cases (nat_eq k (entry c))
        (λ t z. some (sym (ap (λ n. get_or later n 0) (eqb-true k (entry c) t) ∙ new) ∙ z))
        (λ f z. old (sym (other k f) ∙ z))

    still_two : (k : ℕ) → get_or counts k 0 ≡ 2 → get_or later k 0 ≡ 2
    still_two k old = by_cases (nat_eq k (entry c))
        (λ t. ap (λ n. get_or later n 0) (eqb-true k (entry c) t) ∙ new
        ∙ again (λ z. let two : 0 ≡ 2 = sym z ∙ ap (λ n. get_or counts n 0) (sym (eqb-true k (entry c) t)) ∙ old in omega (arith, two)))
        (λ f. other k f ∙ old)

-- ---- a command that is alone

stands : (xs : List Command) (c : Command) → In xs c → slice_get xs (place xs c) ≡ Some c
stands [] c i = absurd (true≢false (sym i))
stands (x ∷ xs) c i = by_cases (same c x)
    (λ s. ap (λ n. slice_get (x ∷ xs) n) (ap (λ b. cond b 0 (suc (place xs c))) s) ∙ ap Some (sym (same-true c x s)))
    (λ s. ap (λ n. slice_get (x ∷ xs) n) (ap (λ b. cond b 0 (suc (place xs c))) s) ∙ stands xs c (one_of (same c x) (list_any (same c) xs) i (λ t. never (same c x) t s) (λ m. m)))

pub alone_is_behind : (xs ys : List Command) (kept : History) (from i j : ℕ) (d : Command) (counts : List ℕ) (all : Bool) → AreCounted xs from (length xs) counts all → IsAlone d counts all → place_in xs d ≡ Some i → place_in ys d ≡ Some j → take from xs ≡ take from ys → list_all (has kept) (take from xs) ≡ true → true ≡ list_all (behind (history_of xs) (history_of ys) kept d) xs
alone_is_behind xs ys kept from i j d counts all a alone left right alike start =
    sym (all_from (behind (history_of xs) (history_of ys) kept d) xs (λ c t. by_cases (before (history_of xs) c d)
    (λ r. by_cases (nat_lt (place xs c) from)
    (λ early. all_gives (behind (history_of xs) (history_of ys) kept d) (take from xs) c
    (behind_start xs ys kept from d alike start there (place_tells ys d j right).there)
    (in_take xs from c t (ltb-true (place xs c) from early)))
    (λ late. behind_apart xs ys kept c d (apart c t (ltb-false (place xs c) from late) (later xs c d r))))
    (λ r. left_of (not (before (history_of xs) c d)) _ (ap not r)))) where
      there : In xs d
      there = (place_tells xs d i left).there

      within : place xs d < length xs
      within = let at = (place_tells xs d i left).stands in let lt = place_within xs d i left in omega (arith, at, lt)

      apart : (c : Command) → In xs c → from ≤ place xs c → place xs c < place xs d → conflict c d ≡ false
      apart c t lo lt =
          let mark = a.marked alone.counted (place xs c) c lo (omega (arith, lt, within)) (stands xs c t) in
          marks_apart c d mark.plain alone.marked.plain mark.some alone.marked.some
          (λ e. alone.single (a.twice (place xs c) (place xs d) c d lo lt within (stands xs c t) (stands xs d there) (ap (λ k. k % 4096) e)))
