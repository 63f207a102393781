-- Going on in canonical order.
use Rattle.std.proofs.Common.{◌≡◌, ℕ, zero, suc, ◌+◌, ◌<◌, ◌≤◌, Bool, true, false, not, cond, List, [], ◌∷◌, ◌++◌, length, take, set, Some, None, refl, sym, ap, subst, ◌∙◌, ◌⊎◌, inl, inr, arith}
use Rattle.std.specs.Prelude.{Result, Ok, Err, IfOk, slice_get, is_some}
use Rattle.std.proofs.Math.Seq.{take-length}
use Rattle.std.proofs.lemmas.List.{take-append-le}
use Rattle.gp_command.specs.declared.command.Command.{Command}
use Rattle.gp_command.specs.Conflict.{same, conflict}
use Rattle.gp_command.proofs.ConflictLemmas.{same-true, conflict_symm}
use Rattle.gp_history.specs.History.{History, IsHistory, IsPrefix, has, before, size, push}
use Rattle.gp_history.specs.Sequence.{history_of, no_repeat}
use Rattle.gp_history.specs.Canonical.{canonical, next_least, IsNext}
use Rattle.gp_history.proofs.Tests.{right_of, one_of, not_true, by_cases, never}
use Rattle.gp_history.proofs.Sets.{has_history_of}
use Rattle.gp_history.proofs.Push.{has-push, push_old, push_last}
use Rattle.gp_history.proofs.Joins.{history_of_is, history_of-push}
use Rattle.gp_history.proofs.Least.{none_iff}
use Rattle.gp_history.proofs.Next.{next_is}
use Rattle.gp_history.proofs.Counts.{no_longer_lists}
use Rattle.gp_history.proofs.Sequences.{may_push}
use Rattle.gp_history.proofs.Places.{take_next}
use Rattle.gp_history.proofs.Size.{size_of_sequence}
use Rattle.gp_history.proofs.Acyclic.{canonical_is, canonical_no_repeat}
use Rattle.gp_history.proofs.Walk.{walks, length_push}
use Rattle.gp_history.proofs.Many.{empty_below}
use Rattle.gp_history.proofs.Pushing.{history_of_nothing}
use Rattle.gp_index.specs.Ordering.{Continues, marks_in}
use Rattle.gp_index.proofs.Marks.{marks_more}

-- a prefix with the next command is a prefix
module _ (h t : History) (w : IsHistory h) (v : IsHistory t) (a : IsPrefix t h) (c : Command) (next : IsNext h t c) where
  split : (x : Command) → has (push t c) x ≡ true → (P : Type 0) → (x ≡ c → P) → (has t x ≡ true → P) → P
  split x i P f g = one_of (same x c) (has t x) (sym (has-push t c x) ∙ i) (λ s. f (same-true x c s)) g

  -- it stands before nothing that was taken
  not_before : (y : Command) → has t y ≡ true → before h c y ≡ false
  not_before y q = not_true (before h c y) (λ r. never (has t c) (a.closed c y q r) next.fresh)

  not_pushed_before : (y : Command) → has t y ≡ true → before (push t c) c y ≡ false
  not_pushed_before y q = push_old t v.within c c y q ∙ not_true (before t c y) (λ r. never (has t c) (v.within c y r).0 next.fresh)

  -- behind what it conflicts with in both
  last : (x : Command) → has t x ≡ true → before (push t c) x c ≡ before h x c
  last x q = push_last t v.within c x next.fresh q ∙ by_cases (before h x c)
      (λ r. (w.within x c r).2 ∙ sym r)
      (λ r. not_true (conflict x c) (λ k. never (before h c x) (w.one_way c x next.there (a.commands x q) (conflict_symm c x ∙ k) ∙ ap not r) (not_before x q)) ∙ sym r)

  not_itself : (u : History) → IsHistory u → before u c c ≡ false
  not_itself u z = z.acyclic c []

  next_prefix : IsHistory (push t c) → IsPrefix (push t c) h
  next_prefix z = record {
    commands = λ x i. split x i (has h x ≡ true) (λ e. ap (has h) e ∙ next.there) (a.commands x);
    pairs = λ x y i j. split y j (before (push t c) x y ≡ before h x y)
        (λ e. ap (before (push t c) x) e ∙ split x i (before (push t c) x c ≡ before h x c)
        (λ d. ap (λ k. before (push t c) k c) d ∙ not_itself (push t c) z ∙ sym (ap (λ k. before h k c) d ∙ not_itself h w))
        (last x)
        ∙ sym (ap (before h x) e))
        (λ q. split x i (before (push t c) x y ≡ before h x y)
        (λ d. ap (λ k. before (push t c) k y) d ∙ not_pushed_before y q ∙ sym (ap (λ k. before h k y) d ∙ not_before y q))
        (λ p. push_old t v.within c x y q ∙ a.pairs x y p q));
    closed = λ x y j r. has-push t c x ∙ right_of (same x c) (has t x) (split y j (has t x ≡ true)
        (λ e. next.behind x (ap (before h x) (sym e) ∙ r))
        (λ q. a.closed x y q r));
  }

-- ---- of sequences

-- the next command is not there, and with it there is a prefix
pub record CanTake (h : History) (xs : List Command) (c : Command) : Type 0 where
  pub fresh : has (history_of xs) c ≡ false
  pub prefix : IsPrefix (history_of (xs ++ c ∷ [])) h

pub can_take : (xs ys : List Command) (c : Command) → IsPrefix (history_of xs) (history_of ys) → next_least (history_of ys) (history_of xs) ≡ Some c → CanTake (history_of ys) xs c
can_take xs ys c a e =
    let next = next_is (history_of ys) (history_of xs) (history_of_is ys) c e in
    let is = history_of-push xs c in record {
      fresh = next.fresh;
      prefix = subst (λ u. IsPrefix u (history_of ys)) (sym is) (next_prefix (history_of ys) (history_of xs) (history_of_is ys) (history_of_is xs) a c next (subst IsHistory is (history_of_is (xs ++ c ∷ []))));
    }

pub prefix_shorter : (xs ys : List Command) → no_repeat xs ≡ true → IsPrefix (history_of xs) (history_of ys) → length xs ≤ length ys
prefix_shorter xs ys n a = no_longer_lists xs ys n (λ c i. sym (has_history_of ys c) ∙ a.commands c (has_history_of xs c ∙ i))

-- ---- the order

get_push : (xs : List Command) (c : Command) (i : ℕ) → i < length xs → slice_get (xs ++ c ∷ []) i ≡ slice_get xs i
get_push [] c i lt = absurd (omega (arith, lt))
get_push (x ∷ xs) c zero lt = refl
get_push (x ∷ xs) c (suc i) lt = get_push xs c i (omega (arith, lt))

get_last : (xs : List Command) (c : Command) → slice_get (xs ++ c ∷ []) (length xs) ≡ Some c
get_last [] c = refl
get_last (x ∷ xs) c = get_last xs c

pub continues_itself : (h : History) (xs : List Command) → Continues h xs xs
continues_itself h xs = record { start = take-length xs; least = λ i le lt. absurd (omega (arith, le, lt)) }

pub continues_on : (h : History) (xs ys : List Command) (c : Command) → length xs ≤ length ys → Continues h xs ys → next_least h (history_of ys) ≡ Some c → Continues h xs (ys ++ c ∷ [])
continues_on h xs ys c le k e = record {
  start = take-append-le (length xs) ys (c ∷ []) le ∙ k.start;
  least = λ i from to. at i from (elim_less i (length ys) (let n = length_push ys c in omega (arith, n, to)));
} where
  elim_less : (i n : ℕ) → i < suc n → (i < n) ⊎ (i ≡ n)
  elim_less i n lt = grind arith

  at : (i : ℕ) → length xs ≤ i → (i < length ys) ⊎ (i ≡ length ys) → next_least h (history_of (take i (ys ++ c ∷ []))) ≡ slice_get (ys ++ c ∷ []) i
  at i from (inl lt) = ap (λ zs. next_least h (history_of zs)) (take-append-le i ys (c ∷ []) (omega (arith, lt))) ∙ k.least i from lt ∙ sym (get_push ys c i lt)
  at i from (inr is) =
      ap (λ n. next_least h (history_of (take n (ys ++ c ∷ [])))) is
      ∙ ap (λ zs. next_least h (history_of zs)) (take-append-le (length ys) ys (c ∷ []) (omega arith) ∙ take-length ys)
      ∙ e ∙ sym (get_last ys c) ∙ ap (slice_get (ys ++ c ∷ [])) (sym is)

-- ---- what was ordered on the way

-- what was ordered is a prefix that was reached in order, and the marks are those of its commands
pub record GoesOn (xs taken ordered : List Command) (ms : List Bool) : Type 0 where
  pub prefix : IsPrefix (history_of ordered) (history_of xs)
  pub longer : length taken ≤ length ordered
  pub order : Continues (history_of xs) taken ordered
  pub distinct : no_repeat ordered ≡ true
  pub marks : ms ≡ marks_in xs ordered

pub goes_on_from : (xs taken ordered : List Command) (marks : List Bool) → IsPrefix (history_of taken) (history_of xs) → no_repeat taken ≡ true → ordered ≡ taken → marks ≡ marks_in xs taken → GoesOn xs taken ordered marks
goes_on_from xs taken ordered marks a n is e = subst (λ ys. GoesOn xs taken ys marks) (sym is) (record {
  prefix = a;
  longer = omega arith;
  order = continues_itself (history_of xs) taken;
  distinct = n;
  marks = e;
})

-- the next command, where a history lacks it, was pushed
pub taken_more : (xs taken ordered later : List Command) (marks : List Bool) (p : ℕ) (c d : Command) → no_repeat xs ≡ true → GoesOn xs taken ordered marks → next_least (history_of xs) (history_of ordered) ≡ slice_get xs p → slice_get xs p ≡ Some c → d ≡ c → later ≡ cond (has (history_of ordered) d) ordered (ordered ++ d ∷ []) → GoesOn xs taken later (set marks p true) × (length later ≡ suc (length ordered)) × (length later ≤ length xs)
taken_more xs taken ordered later marks p c d n k e at same is =
    let next : next_least (history_of xs) (history_of ordered) ≡ Some c = e ∙ at in
    let can = can_take ordered xs c k.prefix next in
    let pushed : later ≡ ordered ++ c ∷ [] = is ∙ ap (λ x. cond (has (history_of ordered) x) ordered (ordered ++ x ∷ [])) same ∙ ap (λ b. cond b ordered (ordered ++ c ∷ [])) can.fresh in
    let long : length later ≡ suc (length ordered) = ap length pushed ∙ length_push ordered c in
    let distinct : no_repeat (ordered ++ c ∷ []) ≡ true = may_push ordered c k.distinct can.fresh in (
      subst (λ ys. GoesOn xs taken ys (set marks p true)) (sym pushed) (record {
        prefix = can.prefix;
        longer = let m = k.longer in let l = length_push ordered c in omega (arith, m, l);
        order = continues_on (history_of xs) taken ordered c k.longer k.order next;
        distinct = distinct;
        marks = marks_more xs ordered (ordered ++ c ∷ []) marks p c n at k.marks refl;
      }),
      long,
      subst (λ ys. length ys ≤ length xs) (sym pushed) (prefix_shorter (ordered ++ c ∷ []) xs distinct can.prefix),
    )

-- where none is ready, all were taken
pub all_taken : (xs taken ordered : List Command) (marks : List Bool) → GoesOn xs taken ordered marks → next_least (history_of xs) (history_of ordered) ≡ None → history_of ordered ≡ history_of xs
all_taken xs taken ordered marks k e = sym ((none_iff xs ordered k.prefix).0 (ap is_some e))

-- ---- from nothing on

pub nothing_below : (xs : List Command) (h : History) → xs ≡ [] → IsPrefix (history_of xs) h
nothing_below xs h e = subst (λ u. IsPrefix u h) (sym (history_of_nothing xs e)) (empty_below h)

some_at : (xs : List Command) (i : ℕ) → i < length xs → (d : Command) × (slice_get xs i ≡ Some d)
some_at [] i lt = absurd (omega (arith, lt))
some_at (x ∷ xs) zero lt = (x, refl)
some_at (x ∷ xs) (suc i) lt = some_at xs i (omega (arith, lt))

one_more : (xs : List Command) (i : ℕ) (d : Command) → slice_get xs i ≡ Some d → take (suc i) xs ≡ take i xs ++ d ∷ []
one_more xs i d e = let n : suc i ≡ i + 1 = omega arith in ap (λ k. take k xs) n ∙ take_next xs i d e

module _ (h : History) (xs : List Command) (w : IsHistory h) (n : no_repeat xs ≡ true) (e : history_of xs ≡ h) (k : Continues h [] xs) where
  as_long : length xs ≡ length (canonical h)
  as_long = sym (size_of_sequence xs n) ∙ ap size (e ∙ sym (canonical_is h w)) ∙ size_of_sequence (canonical h) (canonical_no_repeat h w)

  alike_to : (i : ℕ) → i ≤ length xs → take i xs ≡ take i (canonical h)
  alike_to zero le = refl
  alike_to (suc i) le =
      let r = alike_to i (omega (arith, le)) in
      let here : i < length xs = omega (arith, le) in
      let there : i < length (canonical h) = let m = as_long in omega (arith, here, m) in
      let d = some_at xs i here in
      let same_at : slice_get (canonical h) i ≡ Some d.0 = sym (walks h i there) ∙ ap (λ zs. next_least h (history_of zs)) (sym r) ∙ k.least i (omega arith) here ∙ d.1 in
      one_more xs i d.0 d.1 ∙ ap (λ zs. zs ++ d.0 ∷ []) r ∙ sym (one_more (canonical h) i d.0 same_at)

  pub is_canonical : xs ≡ canonical h
  is_canonical = sym (take-length xs) ∙ alike_to (length xs) (omega arith) ∙ ap (λ m. take m (canonical h)) as_long ∙ take-length (canonical h)

-- what was ordered from nothing is in canonical order
pub ordered_from_nothing : {E : Type 0} (xs : List Command) (r : Result (List Command) E) → IfOk r (λ ys. history_of ys ≡ history_of xs) → IfOk r (λ ys. Continues (history_of xs) [] ys) → IfOk r (λ ys. no_repeat ys ≡ true) → IfOk r (λ ys. ys ≡ canonical (history_of xs))
ordered_from_nothing xs (Ok ys) same order distinct = is_canonical (history_of xs) ys (history_of_is xs) distinct same order
ordered_from_nothing xs (Err e) same order distinct = tt
