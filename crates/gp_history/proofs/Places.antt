-- Places in sequences.
use Rattle.std.proofs.Common.{◌≡◌, ℕ, zero, suc, ◌+◌, ◌<◌, ◌≤◌, Bool, true, false, not, ◌&&◌, cond, List, [], ◌∷◌, ◌++◌, length, take, Some, None, refl, sym, ap, ◌∙◌, add-one, arith}
use Rattle.std.specs.Prelude.{slice_get, nat_lt}
use Rattle.std.specs.List.{list_any, list_all}
use Rattle.std.proofs.Math.Seq.{take-suc}
use Rattle.std.proofs.lemmas.Bool.{ltb-true, lt-ltb, true≢false}
use Rattle.std.proofs.lemmas.Option.{get_or_from_slice_get, slice_get_within}
use Rattle.gp_command.specs.declared.command.Command.{Command}
use Rattle.gp_command.specs.Conflict.{same, conflict}
use Rattle.gp_command.proofs.ConflictLemmas.{same-true, same_itself}
use Rattle.gp_command.proofs.Truth.{iff_true}
use Rattle.gp_history.specs.History.{History, has, before}
use Rattle.gp_history.specs.Sequence.{history_of, no_repeat, place}
use Rattle.gp_history.specs.Sequence.{place_in}
use Rattle.gp_history.specs.Walks.{behind, fits}
use Rattle.gp_history.proofs.Tests.{In, both, fst_of, snd_of, left_of, right_of, one_of, not_true, by_cases, never, all_gives, all_from}
use Rattle.gp_history.proofs.Sets.{has_history_of}
use Rattle.gp_history.proofs.Push.{before_history_of}
use Rattle.gp_history.proofs.Joins.{history_within, later}

-- ---- loops over a sequence

pub take_next : (ys : List Command) (i : ℕ) (d : Command) → slice_get ys i ≡ Some d → take (i + 1) ys ≡ take i ys ++ d ∷ []
take_next ys i d e =
    ap (λ n. take n ys) (add-one i) ∙ take-suc ys i d (slice_get_within ys i d e) ∙ ap (λ z. take i ys ++ z ∷ []) (get_or_from_slice_get ys i d d e)

all_push : (f : Command → Bool) (xs : List Command) (d : Command) → list_all f xs ≡ true → f d ≡ true → list_all f (xs ++ d ∷ []) ≡ true
all_push f [] d a e = both e refl
all_push f (x ∷ xs) d a e = both (fst_of (f x) _ a) (all_push f xs d (snd_of (f x) _ a) e)

pub all_step : (f : Command → Bool) (xs : List Command) (i : ℕ) (d : Command) → list_all f (take i xs) ≡ true → f d ≡ true → slice_get xs i ≡ Some d → list_all f (take (i + 1) xs) ≡ true
all_step f xs i d a e at = ap (list_all f) (take_next xs i d at) ∙ all_push f (take i xs) d a e

pub at_in : (xs : List Command) (i : ℕ) (d : Command) → slice_get xs i ≡ Some d → In xs d
at_in [] i d e = cc
at_in (x ∷ xs) zero d e = let is : x ≡ d = cc in left_of (same d x) _ (ap (same d) is ∙ same_itself d)
at_in (x ∷ xs) (suc i) d e = right_of (same d x) (list_any (same d) xs) (at_in xs i d e)

pub all_stop : (f : Command → Bool) (xs : List Command) (i : ℕ) (d : Command) → f d ≡ false → slice_get xs i ≡ Some d → list_all f xs ≡ false
all_stop f xs i d e at = not_true (list_all f xs) (λ a. never (f d) (all_gives f xs d a (at_in xs i d at)) e)

-- ---- places

-- a command stands no later than any place that has it
pub place_at : (xs : List Command) (i : ℕ) (d : Command) → slice_get xs i ≡ Some d → place xs d ≤ i
place_at [] i d e = cc
place_at (x ∷ xs) i d e = by_cases (same d x)
    (λ s. let z : place (x ∷ xs) d ≡ 0 = ap (λ b. cond b 0 (suc (place xs d))) s in omega (arith, z))
    (λ s. let z : place (x ∷ xs) d ≡ suc (place xs d) = ap (λ b. cond b 0 (suc (place xs d))) s in later_place xs i (λ j. place_at xs j d) e z s) where
      later_place : (xs : List Command) (i : ℕ) → ((j : ℕ) → slice_get xs j ≡ Some d → place xs d ≤ j) → slice_get (x ∷ xs) i ≡ Some d → place (x ∷ xs) d ≡ suc (place xs d) → same d x ≡ false → place (x ∷ xs) d ≤ i
      later_place xs zero r e z s = let is : x ≡ d = cc in never (same d x) (ap (same d) is ∙ same_itself d) s
      later_place xs (suc i) r e z s = let le = r i e in omega (arith, z, le)

-- in a sequence without repeats it stands just there
pub place_is : (xs : List Command) (i : ℕ) (d : Command) → no_repeat xs ≡ true → slice_get xs i ≡ Some d → place xs d ≡ i
place_is [] i d n e = cc
place_is (x ∷ xs) zero d n e = let is : x ≡ d = cc in ap (λ b. cond b 0 (suc (place xs d))) (ap (same d) is ∙ same_itself d)
place_is (x ∷ xs) (suc i) d n e =
    let apart : same d x ≡ false = not_true (same d x) (λ s.
    let fresh = fst_of (not (list_any (same x) xs)) (no_repeat xs) n in
    true≢false (sym fresh ∙ ap not (ap (λ z. list_any (same z) xs) (sym (same-true d x s)) ∙ at_in xs i d e))) in
    ap (λ b. cond b 0 (suc (place xs d))) apart ∙ ap suc (place_is xs i d (snd_of (not (list_any (same x) xs)) (no_repeat xs) n) e)

-- what stands before a place is in the part before it
pub in_take : (xs : List Command) (i : ℕ) (c : Command) → In xs c → place xs c < i → In (take i xs) c
in_take [] i c m lt = absurd (true≢false (sym m))
in_take (x ∷ xs) zero c m lt = absurd (omega arith)
in_take (x ∷ xs) (suc i) c m lt = by_cases (same c x)
    (λ s. left_of (same c x) _ s)
    (λ s. let z : place (x ∷ xs) c ≡ suc (place xs c) = ap (λ b. cond b 0 (suc (place xs c))) s in
    right_of (same c x) (list_any (same c) (take i xs)) (in_take xs i c (one_of (same c x) (list_any (same c) xs) m (λ t. never (same c x) t s) (λ n. n)) (omega (arith, z, lt))))

-- what is in a part stands there in the whole
pub record Starts (xs : List Command) (i : ℕ) (c : Command) : Type 0 where
  pub there : In xs c
  pub stands : place xs c ≡ place (take i xs) c
  pub early : place xs c < i

pub starts : (xs : List Command) (i : ℕ) (c : Command) → In (take i xs) c → Starts xs i c
starts [] zero c m = absurd (true≢false (sym m))
starts [] (suc i) c m = absurd (true≢false (sym m))
starts (x ∷ xs) zero c m = absurd (true≢false (sym m))
starts (x ∷ xs) (suc i) c m = by_cases (same c x)
    (λ s. record {
      there = left_of (same c x) _ s;
      stands = ap (λ b. cond b 0 (suc (place xs c))) s ∙ sym (ap (λ b. cond b 0 (suc (place (take i xs) c))) s);
      early = let z : place (x ∷ xs) c ≡ 0 = ap (λ b. cond b 0 (suc (place xs c))) s in omega (arith, z);
    })
    (λ s.
    let r : Starts xs i c = starts xs i c (one_of (same c x) (list_any (same c) (take i xs)) m (λ t. never (same c x) t s) (λ n. n)) in
    let z : place (x ∷ xs) c ≡ suc (place xs c) = ap (λ b. cond b 0 (suc (place xs c))) s in
    record {
      there = right_of (same c x) (list_any (same c) xs) r.there;
      stands = z ∙ ap suc r.stands ∙ sym (ap (λ b. cond b 0 (suc (place (take i xs) c))) s);
      early = let e = r.early in omega (arith, z, e);
    })

-- ---- a search for a place

pub place_found : (xs : List Command) (i : ℕ) (c d : Command) → no_repeat xs ≡ true → slice_get xs i ≡ Some d → same c d ≡ true → Some i ≡ place_in xs c
place_found xs i c d n at e =
    let is : c ≡ d = same-true c d e in
    sym (ap (λ z. place_in xs z) is ∙ ap (λ b. cond b (Some (place xs d)) None) (at_in xs i d at) ∙ ap Some (place_is xs i d n at))

pub lost : (xs : List Command) (c : Command) → list_any (same c) xs ≡ false → None ≡ place_in xs c
lost xs c e = sym (ap (λ b. cond b (Some (place xs c)) None) e)

pub record At (xs : List Command) (c : Command) (i : ℕ) : Type 0 where
  pub there : In xs c
  pub stands : place xs c ≡ i

pub place_tells : (xs : List Command) (c : Command) (i : ℕ) → place_in xs c ≡ Some i → At xs c i
place_tells xs c i e = by_cases (list_any (same c) xs)
    (λ t. record { there = t; stands = let f : Some (place xs c) ≡ Some i = sym (ap (λ b. cond b (Some (place xs c)) None) t) ∙ e in cc })
    (λ t. let f : None ≡ Some i = sym (ap (λ b. cond b (Some (place xs c)) None) t) ∙ e in absurd (cc))

pub place_lacks : (xs : List Command) (c : Command) → place_in xs c ≡ None → list_any (same c) xs ≡ false
place_lacks xs c e = not_true (list_any (same c) xs) (λ t. let f : Some (place xs c) ≡ None = sym (ap (λ b. cond b (Some (place xs c)) None) t) ∙ e in cc)

-- ---- what stands before a command

pub before_if : (xs : List Command) (c d : Command) → In xs c → In xs d → conflict c d ≡ true → place xs c < place xs d → before (history_of xs) c d ≡ true
before_if xs c d p q r lt = before_history_of xs c d ∙ both (both p q) (both r (lt-ltb (place xs c) (place xs d) lt))

-- a common start is ordered alike before what is in both
pub start_alike : (xs ys : List Command) (n : ℕ) → take n xs ≡ take n ys → (c d : Command) → In (take n xs) c → In xs d → In ys d → before (history_of xs) c d ≡ before (history_of ys) c d
start_alike xs ys n e c d i p q = iff_true (before (history_of xs) c d) (before (history_of ys) c d) (to xs ys e i p q) (to ys xs (sym e) (ap (λ zs. list_any (same c) zs) (sym e) ∙ i) q p) where
  to : (us vs : List Command) → take n us ≡ take n vs → In (take n us) c → In us d → In vs d → before (history_of us) c d ≡ true → before (history_of vs) c d ≡ true
  to us vs e i p q r =
      let a = starts us n c i in
      let b = starts vs n c (ap (λ zs. list_any (same c) zs) (sym e) ∙ i) in
      let lt = later us c d r in
      let here : place us c ≡ place vs c = a.stands ∙ ap (λ zs. place zs c) e ∙ sym b.stands in
      before_if vs c d b.there q ((history_within us c d r).2) (by_cases (list_any (same d) (take n vs))
      (λ m. let x = starts vs n d m in let y = starts us n d (ap (λ zs. list_any (same d) zs) e ∙ m) in
      let there : place us d ≡ place vs d = y.stands ∙ ap (λ zs. place zs d) e ∙ sym x.stands in omega (arith, lt, here, there))
      (λ m. let l = b.early in by_place vs d q m l)) where
        by_le : (a b : ℕ) → a < n → (a < b → ⊥) → b < n
        by_le a b l f = omega arith

        not_less : (a b : ℕ) → nat_lt a b ≡ false → a < n → b < n
        not_less a b u l = by_le a b l (λ t. never (nat_lt a b) (lt-ltb a b t) u)

        by_place : (vs : List Command) (d : Command) → In vs d → list_any (same d) (take n vs) ≡ false → place vs c < n → place vs c < place vs d
        by_place vs d q m l = by_cases (nat_lt (place vs d) n)
            (λ t. never (list_any (same d) (take n vs)) (in_take vs n d q (ltb-true (place vs d) n t)) m)
            (λ t. by_cases (nat_lt (place vs c) (place vs d))
            (λ u. ltb-true (place vs c) (place vs d) u)
            (λ u. absurd (never (nat_lt (place vs d) n) (lt-ltb (place vs d) n (not_less (place vs c) (place vs d) u l)) t)))

-- ---- the walk over what stands before a command

-- what is in a common start needs no test
pub behind_start : (xs ys : List Command) (kept : History) (n : ℕ) (d : Command) → take n xs ≡ take n ys → list_all (has kept) (take n xs) ≡ true → In xs d → In ys d → list_all (behind (history_of xs) (history_of ys) kept d) (take n xs) ≡ true
behind_start xs ys kept n d e k p q = all_from (behind (history_of xs) (history_of ys) kept d) (take n xs) (λ c i. by_cases (before (history_of xs) c d)
    (λ r. right_of (not (before (history_of xs) c d)) _ (both (all_gives (has kept) (take n xs) c k i) (sym (start_alike xs ys n e c d i p q) ∙ r)))
    (λ r. left_of (not (before (history_of xs) c d)) _ (ap not r)))

pub behind_apart : (xs ys : List Command) (kept : History) (c d : Command) → conflict c d ≡ false → behind (history_of xs) (history_of ys) kept d c ≡ true
behind_apart xs ys kept c d e = left_of (not (before (history_of xs) c d)) _ (ap not (not_true (before (history_of xs) c d) (λ r. never (conflict c d) (history_within xs c d r).2 e)))

pub behind_found : (xs ys : List Command) (kept : History) (c d : Command) (q j : ℕ) → has kept c ≡ true → conflict c d ≡ true → place_in ys c ≡ Some q → place_in ys d ≡ Some j → q < j → behind (history_of xs) (history_of ys) kept d c ≡ true
behind_found xs ys kept c d q j k e f g lt =
    let a = place_tells ys c q f in let b = place_tells ys d j g in
    let x = a.stands in let y = b.stands in
    right_of (not (before (history_of xs) c d)) _ (both k (before_if ys c d a.there b.there e (omega (arith, lt, x, y))))

-- a command at an earlier place stands before `d` if it conflicts
here : (xs : List Command) (c d : Command) (p i : ℕ) → slice_get xs p ≡ Some c → place_in xs d ≡ Some i → p < i → conflict c d ≡ true → before (history_of xs) c d ≡ true
here xs c d p i at g lt e =
    let b = place_tells xs d i g in
    let le = place_at xs p c at in let y = b.stands in
    before_if xs c d (at_in xs p c at) b.there e (omega (arith, lt, le, y))

pub behind_lost : (xs ys : List Command) (kept : History) (c d : Command) (p i : ℕ) → slice_get xs p ≡ Some c → place_in xs d ≡ Some i → p < i → conflict c d ≡ true → has kept c ≡ false → behind (history_of xs) (history_of ys) kept d c ≡ false
behind_lost xs ys kept c d p i at g lt e k = not_true (behind (history_of xs) (history_of ys) kept d c) (λ t. one_of (not (before (history_of xs) c d)) (has kept c && before (history_of ys) c d) t
    (λ n. true≢false (sym n ∙ ap not (here xs c d p i at g lt e)))
    (λ m. never (has kept c) (fst_of (has kept c) (before (history_of ys) c d) m) k))

pub behind_gone : (xs ys : List Command) (kept : History) (c d : Command) (p i : ℕ) → slice_get xs p ≡ Some c → place_in xs d ≡ Some i → p < i → conflict c d ≡ true → place_in ys c ≡ None → behind (history_of xs) (history_of ys) kept d c ≡ false
behind_gone xs ys kept c d p i at g lt e f = not_true (behind (history_of xs) (history_of ys) kept d c) (λ t. one_of (not (before (history_of xs) c d)) (has kept c && before (history_of ys) c d) t
    (λ n. true≢false (sym n ∙ ap not (here xs c d p i at g lt e)))
    (λ m. never (list_any (same c) ys) (sym (has_history_of ys c) ∙ (history_within ys c d (snd_of (has kept c) (before (history_of ys) c d) m)).0) (place_lacks ys c f)))

pub behind_late : (xs ys : List Command) (kept : History) (c d : Command) (p i q j : ℕ) → slice_get xs p ≡ Some c → place_in xs d ≡ Some i → p < i → conflict c d ≡ true → place_in ys c ≡ Some q → place_in ys d ≡ Some j → j ≤ q → behind (history_of xs) (history_of ys) kept d c ≡ false
behind_late xs ys kept c d p i q j at g lt e f b le = not_true (behind (history_of xs) (history_of ys) kept d c) (λ t. one_of (not (before (history_of xs) c d)) (has kept c && before (history_of ys) c d) t
    (λ n. true≢false (sym n ∙ ap not (here xs c d p i at g lt e)))
    (λ m.
    let l = later ys c d (snd_of (has kept c) (before (history_of ys) c d) m) in
    let x = (place_tells ys c q f).stands in let y = (place_tells ys d j b).stands in absurd (omega (arith, l, x, y, le))))

-- nothing behind the place of `d` stands before it
pub behind_rest : (xs ys : List Command) (kept : History) (d : Command) (p i : ℕ) → list_all (behind (history_of xs) (history_of ys) kept d) (take p xs) ≡ true → place_in xs d ≡ Some i → i ≤ p → list_all (behind (history_of xs) (history_of ys) kept d) xs ≡ true
behind_rest xs ys kept d p i a g le = all_from (behind (history_of xs) (history_of ys) kept d) xs (λ c m. by_cases (before (history_of xs) c d)
    (λ r.
    let lt = later xs c d r in let y = (place_tells xs d i g).stands in
    all_gives (behind (history_of xs) (history_of ys) kept d) (take p xs) c a (in_take xs p c m (omega (arith, lt, y, le))))
    (λ r. left_of (not (before (history_of xs) c d)) _ (ap not r)))

pub kept_found : (zs : List Command) (c : Command) (i : ℕ) → place_in zs c ≡ Some i → has (history_of zs) c ≡ true
kept_found zs c i e = has_history_of zs c ∙ (place_tells zs c i e).there

pub kept_lost : (zs : List Command) (c : Command) → place_in zs c ≡ None → has (history_of zs) c ≡ false
kept_lost zs c e = has_history_of zs c ∙ place_lacks zs c e

pub place_at_is : (xs : List Command) (i : ℕ) (c : Command) → no_repeat xs ≡ true → slice_get xs i ≡ Some c → place_in xs c ≡ Some i
place_at_is xs i c n at = sym (place_found xs i c c n at (same_itself c))

pub place_within : (xs : List Command) (c : Command) (i : ℕ) → place_in xs c ≡ Some i → i < length xs
place_within xs c i e = let a = place_tells xs c i e in let y = a.stands in let lt = within xs a.there in omega (arith, y, lt) where
  within : (zs : List Command) → In zs c → place zs c < length zs
  within [] m = absurd (true≢false (sym m))
  within (z ∷ zs) m = by_cases (same c z)
      (λ s. let k : place (z ∷ zs) c ≡ 0 = ap (λ b. cond b 0 (suc (place zs c))) s in omega (arith, k))
      (λ s. let k : place (z ∷ zs) c ≡ suc (place zs c) = ap (λ b. cond b 0 (suc (place zs c))) s in
      let lt = within zs (one_of (same c z) (list_any (same c) zs) m (λ t. never (same c z) t s) (λ r. r)) in omega (arith, k, lt))

pub has_start : (xs : List Command) (n : ℕ) → list_all (has (history_of xs)) (take n xs) ≡ true
has_start xs n = all_from (has (history_of xs)) (take n xs) (λ c i. has_history_of xs c ∙ (starts xs n c i).there)

-- a common start, one further
pub start_step : (xs ys : List Command) (i : ℕ) (c d : Command) → take i xs ≡ take i ys → slice_get xs i ≡ Some c → slice_get ys i ≡ Some d → same c d ≡ true → take (i + 1) xs ≡ take (i + 1) ys
start_step xs ys i c d e f g s = take_next xs i c f ∙ (λ j. e j ++ same-true c d s j ∷ []) ∙ sym (take_next ys i d g)

-- what is in a common start fits
pub fits_start : (xs ys : List Command) (n : ℕ) → take n xs ≡ take n ys → list_all (fits xs ys) (take n xs) ≡ true
fits_start xs ys n e = all_from (fits xs ys) (take n xs) (λ c i.
    let there : In ys c = (starts ys n c (ap (λ zs. list_any (same c) zs) (sym e) ∙ i)).there in
    both there (all_from (behind (history_of ys) (history_of xs) (history_of ys) c) ys (λ d m. by_cases (before (history_of ys) d c)
    (λ r. right_of (not (before (history_of ys) d c)) _ (both (has_history_of ys d ∙ m)
    (let lt = later ys d c r in let early = (starts ys n c (ap (λ zs. list_any (same c) zs) (sym e) ∙ i)).early in
    sym (start_alike ys xs n (sym e) d c (in_take ys n d m (omega (arith, lt, early))) there (starts xs n c i).there) ∙ r)))
    (λ r. left_of (not (before (history_of ys) d c)) _ (ap not r)))))

pub fits_if : (xs ys : List Command) (c : Command) (j : ℕ) → place_in ys c ≡ Some j → list_all (behind (history_of ys) (history_of xs) (history_of ys) c) ys ≡ true → fits xs ys c ≡ true
fits_if xs ys c j e t = both (place_tells ys c j e).there t

pub fits_not : (xs ys : List Command) (c : Command) → list_all (behind (history_of ys) (history_of xs) (history_of ys) c) ys ≡ false → fits xs ys c ≡ false
fits_not xs ys c t = not_true (fits xs ys c) (λ f. never (list_all (behind (history_of ys) (history_of xs) (history_of ys) c) ys) (snd_of (list_any (same c) ys) _ f) t)

pub fits_lost : (xs ys : List Command) (c : Command) → place_in ys c ≡ None → fits xs ys c ≡ false
fits_lost xs ys c e = not_true (fits xs ys c) (λ f. never (list_any (same c) ys) (fst_of (list_any (same c) ys) _ f) (place_lacks ys c e))
