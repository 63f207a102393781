-- The meet by a walk over a sequence.
use Rattle.std.proofs.Common.{◌≡◌, ℕ, suc, ◌+◌, ◌≤◌, Bool, true, false, not, ◌&&◌, ◌||◌, cond, List, [], ◌∷◌, ◌++◌, length, take, Some, refl, sym, ap, ◌∙◌, arith}
use Rattle.std.specs.Prelude.{slice_get, nat_lt, filter}
use Rattle.std.specs.List.{list_any, list_all}
use Rattle.std.proofs.Math.Seq.{take-length}
use Rattle.std.proofs.lemmas.Bool.{ltb-true, lt-ltb, true≢false}
use Rattle.gp_command.specs.declared.command.Command.{Command}
use Rattle.gp_command.specs.Conflict.{same, conflict}
use Rattle.gp_command.proofs.ConflictLemmas.{same-true, same_itself}
use Rattle.gp_history.specs.History.{History, IsPrefix, has, before, push}
use Rattle.gp_history.specs.Sequence.{history_of, place}
use Rattle.gp_history.specs.Bounds.{meet, in_meet}
use Rattle.gp_history.specs.Walks.{behind, fits}
use Rattle.gp_history.proofs.Tests.{In, both, fst_of, snd_of, left_of, right_of, one_of, not_true, by_cases, never, all_gives, all_from}
use Rattle.gp_history.proofs.Sets.{same_history, has_history_of}
use Rattle.gp_history.proofs.Push.{before_history_of, lt_suc}
use Rattle.gp_history.proofs.Joins.{history_within, history_of-push, later, history_of_is}
use Rattle.gp_history.proofs.Prefix.{prefix_refl, prefix_antisymm}
use Rattle.gp_history.proofs.PrefixTest.{fits_is_prefix}
use Rattle.gp_history.proofs.Meet.{in_filter, from_filter, meet_shares, shared_in_meet, has-meet, before-meet}
use Rattle.gp_history.proofs.Bound.{meet_is_greatest, meet_is_history}
use Rattle.gp_history.proofs.Canonical.{in_filtered}
use Rattle.gp_history.proofs.Places.{take_next, at_in, place_at, in_take, starts, start_alike, fits_start}
use Rattle.gp_command.proofs.Truth.{iff_true}
use Rattle.gp_bounds.specs.Agree.{agrees}
use Rattle.gp_history.proofs.Pushing.{pushed_sequence}

-- ---- the test of the loop

module _ (xs ys : List Command) where
  abbrev h : History
  h = history_of xs

  abbrev k : History
  k = history_of ys

  pub stays_is_meet : (i : ℕ) (d : Command) → slice_get xs i ≡ Some d → (kept : History) → kept ≡ history_of (filter (in_meet (history_of xs) (history_of ys)) (take i xs))
      → (has (history_of ys) d && agrees xs ys kept d) ≡ in_meet (history_of xs) (history_of ys) d
  stays_is_meet i d at kept so = iff_true _ (in_meet h k d)
      (λ t.
      let in_h : has h d ≡ true = has_history_of xs d ∙ at_in xs i d at in
      let in_k : has k d ≡ true = fst_of (has k d) _ t in
      let tests = snd_of (has k d) _ t in
      shared_in_meet h k (history_within xs) (history_within ys) (λ x. in_meet h k x || same x d)
      (λ x e. one_of (in_meet h k x) (same x d) e (λ m. let s = meet_shares h k (history_within xs) (history_within ys) x m in s.left) (λ s. ap (has h) (same-true x d s) ∙ in_h))
      (λ x e. one_of (in_meet h k x) (same x d) e (λ m. let s = meet_shares h k (history_within xs) (history_within ys) x m in s.right) (λ s. ap (has k) (same-true x d s) ∙ in_k))
      (λ c x e r. one_of (in_meet h k x) (same x d) e
      (λ m. let s = meet_shares h k (history_within xs) (history_within ys) x m in let f = s.earlier c r in both (left_of (in_meet h k c) _ f.0) (both f.1 f.2))
      (λ s. let is = same-true x d s in
      let r' : (before h c d || before k c d) ≡ true = ap (λ z. before h c z || before k c z) (sym is) ∙ r in
      let f = agreed tests c r' in
      both (left_of (in_meet h k c) _ f.0) (ap (λ z. before h c z && before k c z) is ∙ f.1)))
      d (right_of (in_meet h k d) (same d d) (same_itself d)))
      (λ m.
      let s = meet_shares h k (history_within xs) (history_within ys) d m in
      both s.right (both
      (all_from (behind h k kept d) xs (λ c _. by_cases (before h c d)
      (λ r. let f = s.earlier c (left_of (before h c d) _ r) in right_of (not (before h c d)) _ (both (keep c f.0 f.1) f.2))
      (λ r. left_of (not (before h c d)) _ (ap not r))))
      (all_from (behind k h kept d) ys (λ c _. by_cases (before k c d)
      (λ r. let f = s.earlier c (right_of (before h c d) (before k c d) r) in right_of (not (before k c d)) _ (both (keep c f.0 f.1) f.1))
      (λ r. left_of (not (before k c d)) _ (ap not r)))))) where
        keep : (c : Command) → in_meet h k c ≡ true → before h c d ≡ true → has kept c ≡ true
        keep c m r =
            let lt = later xs c d r in let le = place_at xs i d at in
            ap (λ u. has u c) so ∙ has_history_of (filter (in_meet h k) (take i xs)) c
            ∙ in_filter (in_meet h k) (take i xs) c (in_take xs i c (sym (has_history_of xs c) ∙ (history_within xs c d r).0) (omega (arith, lt, le))) m

        were : (c : Command) → has kept c ≡ true → in_meet h k c ≡ true
        were c m = from_filter (in_meet h k) (take i xs) c (sym (has_history_of (filter (in_meet h k) (take i xs)) c) ∙ ap (λ u. has u c) (sym so) ∙ m)

        agreed : agrees xs ys kept d ≡ true → (c : Command) → (before h c d || before k c d) ≡ true → (in_meet h k c ≡ true) × ((before h c d && before k c d) ≡ true)
        agreed tests c r = one_of (before h c d) (before k c d) r
            (λ b. let t : (has kept c && before k c d) ≡ true = one_of (not (before h c d)) (has kept c && before k c d) (all_gives (behind h k kept d) xs c (fst_of (list_all (behind h k kept d) xs) _ tests) (sym (has_history_of xs c) ∙ (history_within xs c d b).0))
            (λ n. absurd (true≢false (sym n ∙ ap not b))) (λ m. m) in
            (were c (fst_of (has kept c) _ t), both b (snd_of (has kept c) (before k c d) t)))
            (λ b. let t : (has kept c && before h c d) ≡ true = one_of (not (before k c d)) (has kept c && before h c d) (all_gives (behind k h kept d) ys c (snd_of (list_all (behind h k kept d) xs) _ tests) (sym (has_history_of ys c) ∙ (history_within ys c d b).0))
            (λ n. absurd (true≢false (sym n ∙ ap not b))) (λ m. m) in
            (were c (fst_of (has kept c) _ t), both (snd_of (has kept c) (before h c d) t) b))

-- ---- what is left of a sequence is ordered as before

place_filter : (p : Command → Bool) (xs : List Command) (c d : Command) → p c ≡ true → p d ≡ true → nat_lt (place (filter p xs) c) (place (filter p xs) d) ≡ nat_lt (place xs c) (place xs d)
place_filter p [] c d a b = refl
place_filter p (x ∷ xs) c d a b = by_cases (p x)
    (λ k. rw k (by_cases (same c x)
    (λ e. by_cases (same d x)
    (λ f. rw (e, f) refl)
    (λ f. rw (e, f) (lt-ltb 0 (suc (place (filter p xs) d)) (omega arith) ∙ sym (lt-ltb 0 (suc (place xs d)) (omega arith)))))
    (λ e. by_cases (same d x)
    (λ f. rw (e, f) (not_true _ (λ t. let l = ltb-true (suc (place (filter p xs) c)) 0 t in omega (arith, l)) ∙ sym (not_true _ (λ t. let l = ltb-true (suc (place xs c)) 0 t in omega (arith, l)))))
    (λ f. rw (e, f) (lt_suc (place (filter p xs) c) (place (filter p xs) d) ∙ place_filter p xs c d a b ∙ sym (lt_suc (place xs c) (place xs d)))))))
    (λ k.
    let e : same c x ≡ false = not_true (same c x) (λ s. never (p x) (ap p (sym (same-true c x s)) ∙ a) k) in
    let f : same d x ≡ false = not_true (same d x) (λ s. never (p x) (ap p (sym (same-true d x s)) ∙ b) k) in
    rw (k, e, f) (place_filter p xs c d a b ∙ sym (lt_suc (place xs c) (place xs d))))

pub meet_of_filter : (xs ys : List Command) → history_of (filter (in_meet (history_of xs) (history_of ys)) xs) ≡ meet (history_of xs) (history_of ys)
meet_of_filter xs ys =
    let p = in_meet (history_of xs) (history_of ys) in
    let h = history_of xs in
    let members : (c : Command) → has (history_of (filter p xs)) c ≡ has (meet h (history_of ys)) c =
    λ c. has_history_of (filter p xs) c ∙ iff_true (list_any (same c) (filter p xs)) (has h c && p c)
    (λ i. both (has_history_of xs c ∙ in_filtered p xs c i) (from_filter p xs c i))
    (λ t. in_filter p xs c (sym (has_history_of xs c) ∙ fst_of (has h c) _ t) (snd_of (has h c) _ t))
    ∙ sym (has-meet h (history_of ys) (history_within xs) (history_within ys) c) in
    same_history (history_of (filter p xs)) (meet h (history_of ys)) members (λ c d.
    iff_true (before (history_of (filter p xs)) c d) (before (meet h (history_of ys)) c d)
    (λ r.
    let w = history_within (filter p xs) c d r in
    let c_in = sym (has_history_of (filter p xs) c) ∙ w.0 in let d_in = sym (has_history_of (filter p xs) d) ∙ w.1 in
    before-meet h (history_of ys) (history_within xs) (history_within ys) c d ∙ both (both (sym (members c) ∙ w.0) (sym (members d) ∙ w.1))
    (before_history_of xs c d ∙ both (both (in_filtered p xs c c_in) (in_filtered p xs d d_in)) (both w.2
    (sym (place_filter p xs c d (from_filter p xs c c_in) (from_filter p xs d d_in)) ∙ snd_of (conflict c d) _ (snd_of (list_any (same c) (filter p xs) && list_any (same d) (filter p xs)) _ (sym (before_history_of (filter p xs) c d) ∙ r))))))
    (λ r.
    let t = sym (before-meet h (history_of ys) (history_within xs) (history_within ys) c d) ∙ r in
    let ins = fst_of (has (meet h (history_of ys)) c && has (meet h (history_of ys)) d) _ t in
    let c_in = sym (has_history_of (filter p xs) c) ∙ members c ∙ fst_of (has (meet h (history_of ys)) c) _ ins in
    let d_in = sym (has_history_of (filter p xs) d) ∙ members d ∙ snd_of (has (meet h (history_of ys)) c) _ ins in
    let was = snd_of (has (meet h (history_of ys)) c && has (meet h (history_of ys)) d) _ t in
    let parts = snd_of (list_any (same c) xs && list_any (same d) xs) _ (sym (before_history_of xs c d) ∙ was) in
    before_history_of (filter p xs) c d ∙ both (both c_in d_in) (both (fst_of (conflict c d) _ parts)
    (place_filter p xs c d (from_filter p xs c c_in) (from_filter p xs d d_in) ∙ snd_of (conflict c d) _ parts))))

filter_push : (p : Command → Bool) (xs : List Command) (d : Command) → filter p (xs ++ d ∷ []) ≡ cond (p d) (filter p xs ++ d ∷ []) (filter p xs)
filter_push p [] d = by_cases (p d) (λ k. rw k refl) (λ k. rw k refl)
filter_push p (x ∷ xs) d = by_cases (p x)
    (λ k. rw k (ap (λ zs. x ∷ zs) (filter_push p xs d) ∙ by_cases (p d) (λ e. rw e refl) (λ e. rw e refl)))
    (λ k. rw k (filter_push p xs d))

pub filter_step : (p : Command → Bool) (xs : List Command) (i : ℕ) (d : Command) → slice_get xs i ≡ Some d → filter p (take (i + 1) xs) ≡ cond (p d) (filter p (take i xs) ++ d ∷ []) (filter p (take i xs))
filter_step p xs i d at = ap (filter p) (take_next xs i d at) ∙ filter_push p (take i xs) d

-- a step of the loop that keeps the command, and one that does not
pub meet_step_kept : (p : Command → Bool) (xs kept new : List Command) (i : ℕ) (c d : Command) → history_of kept ≡ history_of (filter p (take i xs)) → new ≡ cond (has (history_of kept) c) kept (kept ++ c ∷ []) → c ≡ d → slice_get xs i ≡ Some d → p d ≡ true → history_of new ≡ history_of (filter p (take (i + 1) xs))
meet_step_kept p xs kept new i c d so now is at e =
    ap history_of now ∙ pushed_sequence kept c ∙ (λ j. push (so j) (is j)) ∙ sym (history_of-push (filter p (take i xs)) d)
    ∙ ap history_of (sym (filter_step p xs i d at ∙ ap (λ b. cond b (filter p (take i xs) ++ d ∷ []) (filter p (take i xs))) e))

pub meet_step_left : (p : Command → Bool) (xs kept : List Command) (i : ℕ) (d : Command) → history_of kept ≡ history_of (filter p (take i xs)) → slice_get xs i ≡ Some d → p d ≡ false → history_of kept ≡ history_of (filter p (take (i + 1) xs))
meet_step_left p xs kept i d so at e = so ∙ ap history_of (sym (filter_step p xs i d at ∙ ap (λ b. cond b (filter p (take i xs) ++ d ∷ []) (filter p (take i xs))) e))

-- ---- a common start

-- it is in the meet
pub start_in_meet : (xs ys : List Command) (n : ℕ) → take n xs ≡ take n ys → (c : Command) → In (take n xs) c → in_meet (history_of xs) (history_of ys) c ≡ true
start_in_meet xs ys n e =
    shared_in_meet (history_of xs) (history_of ys) (history_within xs) (history_within ys) (λ x. list_any (same x) (take n xs))
    (λ x i. has_history_of xs x ∙ (starts xs n x i).there)
    (λ x i. has_history_of ys x ∙ (starts ys n x (across x i)).there)
    (λ c x i r. one_of (before (history_of xs) c x) (before (history_of ys) c x) r
    (λ b. let lt = later xs c x b in let early = (starts xs n x i).early in
    let m : In (take n xs) c = in_take xs n c (sym (has_history_of xs c) ∙ (history_within xs c x b).0) (omega (arith, lt, early)) in
    both m (both b (sym (start_alike xs ys n e c x m (starts xs n x i).there (starts ys n x (across x i)).there) ∙ b)))
    (λ b. let lt = later ys c x b in let early = (starts ys n x (across x i)).early in
    let m : In (take n ys) c = in_take ys n c (sym (has_history_of ys c) ∙ (history_within ys c x b).0) (omega (arith, lt, early)) in
    let m' : In (take n xs) c = ap (λ zs. list_any (same c) zs) e ∙ m in
    both m' (both (start_alike xs ys n e c x m' (starts xs n x i).there (starts ys n x (across x i)).there ∙ b) b))) where
      across : (x : Command) → In (take n xs) x → In (take n ys) x
      across x i = ap (λ zs. list_any (same x) zs) (sym e) ∙ i

all_filter : (p : Command → Bool) (zs : List Command) → ((c : Command) → In zs c → p c ≡ true) → filter p zs ≡ zs
all_filter p [] f = refl
all_filter p (z ∷ zs) f =
    let k = f z (left_of (same z z) (list_any (same z) zs) (same_itself z)) in
    rw k (ap (λ us. z ∷ us) (all_filter p zs (λ c i. f c (right_of (same c z) (list_any (same c) zs) i))))

pub meet_start : (xs ys : List Command) (n : ℕ) → take n xs ≡ take n ys → filter (in_meet (history_of xs) (history_of ys)) (take n xs) ≡ take n xs
meet_start xs ys n e = all_filter (in_meet (history_of xs) (history_of ys)) (take n xs) (start_in_meet xs ys n e)

-- what was copied is kept
pub start_kept : (xs ys : List Command) (n i : ℕ) (kept : History) → take n xs ≡ take n ys → n ≤ i → kept ≡ history_of (filter (in_meet (history_of xs) (history_of ys)) (take i xs)) → list_all (has kept) (take n xs) ≡ true
start_kept xs ys n i kept e le so = all_from (has kept) (take n xs) (λ c m.
    let s = starts xs n c m in let early = s.early in
    ap (λ u. has u c) so ∙ has_history_of (filter (in_meet (history_of xs) (history_of ys)) (take i xs)) c
    ∙ in_filter (in_meet (history_of xs) (history_of ys)) (take i xs) c (in_take xs i c s.there (omega (arith, early, le))) (start_in_meet xs ys n e c m))

pub copy_step : (xs kept new : List Command) (i : ℕ) (c d : Command) → history_of kept ≡ history_of (take i xs) → new ≡ cond (has (history_of kept) c) kept (kept ++ c ∷ []) → c ≡ d → slice_get xs i ≡ Some d → history_of new ≡ history_of (take (i + 1) xs)
copy_step xs kept new i c d so now is at =
    ap history_of now ∙ pushed_sequence kept c ∙ (λ j. push (so j) (is j)) ∙ sym (history_of-push (take i xs) d) ∙ ap history_of (sym (take_next xs i d at))

-- ---- one sequence begins with the other

pub start_prefix : (xs ys : List Command) (n : ℕ) → take n xs ≡ take n ys → n ≡ length xs → IsPrefix (history_of xs) (history_of ys)
start_prefix xs ys n e is = (fits_is_prefix xs ys).0 (ap (list_all (fits xs ys)) (sym (ap (λ m. take m xs) is ∙ take-length xs)) ∙ fits_start xs ys n e)

pub meet_left_whole : (xs ys : List Command) → IsPrefix (history_of xs) (history_of ys) → history_of xs ≡ meet (history_of xs) (history_of ys)
meet_left_whole xs ys p =
    let g = meet_is_greatest (history_of xs) (history_of ys) (history_of_is xs) (history_of_is ys) in
    prefix_antisymm (history_of xs) (meet (history_of xs) (history_of ys)) (history_of_is xs) (meet_is_history (history_of xs) (history_of ys) (history_of_is xs) (history_of_is ys))
    (g.greatest (history_of xs) (prefix_refl (history_of xs) (history_of_is xs)) p) g.left

pub meet_right_whole : (xs ys : List Command) → IsPrefix (history_of ys) (history_of xs) → history_of ys ≡ meet (history_of xs) (history_of ys)
meet_right_whole xs ys p =
    let g = meet_is_greatest (history_of xs) (history_of ys) (history_of_is xs) (history_of_is ys) in
    prefix_antisymm (history_of ys) (meet (history_of xs) (history_of ys)) (history_of_is ys) (meet_is_history (history_of xs) (history_of ys) (history_of_is xs) (history_of_is ys))
    (g.greatest (history_of ys) p (prefix_refl (history_of ys) (history_of_is ys))) g.right
