-- The first checkpoint and the cut by any sequence that stands for the history.
use Rattle.std.proofs.Common.{◌≡◌, ◌+◌, ℕ, true, false, cond, ◌&&◌, ◌||◌, List, [], ◌∷◌, ◌++◌, Option, Some, None, take, slice_get, refl, sym, ap, subst, ◌∙◌}
use Rattle.std.specs.List.{find}
use Rattle.std.proofs.lemmas.Bool.{lt-ltb}
use Rattle.std.specs.Prelude.{drop}
use Rattle.std.proofs.lemmas.List.{take-append-drop}
use Rattle.gp_command.specs.declared.command.Command.{Command}
use Rattle.gp_command.specs.Conflict.{same}
use Rattle.gp_command.proofs.ConflictLemmas.{same-true}
use Rattle.gp_history.specs.History.{History, IsHistory, IsPrefix, has, before, push, pushes}
use Rattle.gp_history.specs.Sequence.{history_of, place}
use Rattle.gp_history.proofs.Tests.{In, both, fst_of, snd_of, left_of, right_of, one_of, not_true, by_cases, never, different}
use Rattle.gp_history.proofs.Sets.{same_history, has_history_of}
use Rattle.gp_history.proofs.Push.{has-push, push_last, before_history_of}
use Rattle.gp_history.proofs.Joins.{history_of_is, history_of-push, history_of-append}
use Rattle.gp_history.proofs.Bound.{pushed_extends}
use Rattle.gp_history.proofs.Places.{take_next}
use Rattle.gp_history.proofs.Pushing.{pushed_sequence}
use Rattle.gp_command.proofs.Truth.{iff_true}
use Rattle.gp_epoch.specs.Cut.{first_checkpoint, cut_at, cut}
use Rattle.gp_epoch.proofs.Checkpoints.{is_checkpoint, checkpoint_conflicts, found_in, found_first, none_found, found_is_first, first_is_found}
use Rattle.gp_epoch.proofs.Cuts.{has-cut_at, before-cut_at, cut_is, cut_above}

-- ---- the first checkpoint

first_in : (xs : List Command) (o : Option Command) → find is_checkpoint xs ≡ o → first_checkpoint (history_of xs) ≡ o
first_in xs (Some z) e =
    let f = found_in xs z e in
    first_is_found (history_of xs) (history_of_is xs) z (record {
      there = has_history_of xs z ∙ f.0;
      marked = f.1;
      first = λ c p m n.
          let i : In xs c = sym (has_history_of xs c) ∙ p in
          before_history_of xs z c ∙ both (both f.0 i) (both (checkpoint_conflicts z c m (different c z n)) (lt-ltb (place xs z) (place xs c) (found_first xs z c e i m n)));
    })
first_in xs None e = by_option (first_checkpoint (history_of xs)) refl
  where
    by_option : (o : Option Command) → first_checkpoint (history_of xs) ≡ o → first_checkpoint (history_of xs) ≡ None
    by_option None q = q
    by_option (Some z) q =
        let f = found_is_first (history_of xs) (history_of_is xs) z q in
        never z.draft.checkpoint f.marked (none_found xs z e (sym (has_history_of xs z) ∙ f.there))

pub first_of_sequence : (xs : List Command) → first_checkpoint (history_of xs) ≡ find is_checkpoint xs
first_of_sequence xs = first_in xs (find is_checkpoint xs) refl

-- ---- walking

find-append : (xs ys : List Command) → find is_checkpoint xs ≡ None → find is_checkpoint (xs ++ ys) ≡ find is_checkpoint ys
find-append [] ys e = refl
find-append (x ∷ xs) ys e = by_cases (is_checkpoint x)
    (λ b. absurd (let h : Some x ≡ None = sym (ap (λ t. cond t (Some x) (find is_checkpoint xs)) b) ∙ e in cc))
    (λ b. ap (λ t. cond t (Some x) (find is_checkpoint (xs ++ ys))) b ∙ find-append xs ys (sym (ap (λ t. cond t (Some x) (find is_checkpoint xs)) b) ∙ e))

-- one more command that is no checkpoint
pub none_next : (xs : List Command) (i : ℕ) (c : Command) → find is_checkpoint (take i xs) ≡ None → slice_get xs i ≡ Some c → c.draft.checkpoint ≡ false → find is_checkpoint (take (i + 1) xs) ≡ None
none_next xs i c e at m = ap (find is_checkpoint) (take_next xs i c at) ∙ find-append (take i xs) (c ∷ []) e ∙ ap (λ b. cond b (Some c) None) m

-- one that is
pub found_next : (xs : List Command) (i : ℕ) (c : Command) → find is_checkpoint (take i xs) ≡ None → slice_get xs i ≡ Some c → c.draft.checkpoint ≡ true → find is_checkpoint (take (i + 1) xs) ≡ Some c
found_next xs i c e at m = ap (find is_checkpoint) (take_next xs i c at) ∙ find-append (take i xs) (c ∷ []) e ∙ ap (λ b. cond b (Some c) None) m

found-append : (xs ys : List Command) (z : Command) → find is_checkpoint xs ≡ Some z → find is_checkpoint (xs ++ ys) ≡ Some z
found-append [] ys z e = absurd (cc)
found-append (x ∷ xs) ys z e = by_cases (is_checkpoint x)
    (λ b. ap (λ t. cond t (Some x) (find is_checkpoint (xs ++ ys))) b ∙ sym (ap (λ t. cond t (Some x) (find is_checkpoint xs)) b) ∙ e)
    (λ b. ap (λ t. cond t (Some x) (find is_checkpoint (xs ++ ys))) b ∙ found-append xs ys z (sym (ap (λ t. cond t (Some x) (find is_checkpoint xs)) b) ∙ e))

-- the first of a beginning is the first of all
pub found_whole : (xs : List Command) (n : ℕ) (z : Command) → find is_checkpoint (take n xs) ≡ Some z → first_checkpoint (history_of xs) ≡ Some z
found_whole xs n z e = first_in xs (Some z) (ap (find is_checkpoint) (sym (take-append-drop n xs)) ∙ found-append (take n xs) (drop n xs) z e)

-- ---- the cut

-- a history whose last command is its only checkpoint is its cut
whole_cut : (ys : List Command) (z : Command) → find is_checkpoint ys ≡ None → z.draft.checkpoint ≡ true → cut_at (push (history_of ys) z) z ≡ push (history_of ys) z
whole_cut ys z e m = same_history (cut_at h z) h alike (λ c d. before-cut_at h z c d ∙ (λ i. (alike c i && alike d i) && before h c d) ∙ pairs c d)
  where
    g : History
    g = history_of ys

    h : History
    h = push (history_of ys) z

    w : IsHistory (push (history_of ys) z)
    w = subst IsHistory (history_of-push ys z) (history_of_is (ys ++ z ∷ []))

    new : has (history_of ys) z ≡ false
    new = not_true (has (history_of ys) z) (λ t. never z.draft.checkpoint m (none_found ys z e (sym (has_history_of ys z) ∙ t)))

    kept : (c : Command) → has (push (history_of ys) z) c ≡ true → (same c z || before (push (history_of ys) z) c z) ≡ true
    kept c p = one_of (same c z) (has (history_of ys) c) (sym (has-push (history_of ys) z c) ∙ p)
        (λ s. left_of (same c z) _ s)
        (λ old. let apart : same c z ≡ false = not_true (same c z) (λ t. never (has (history_of ys) z) (ap (has (history_of ys)) (sym (same-true c z t)) ∙ old) new) in
        right_of (same c z) _ (push_last (history_of ys) (history_of_is ys).within z c new old ∙ checkpoint_conflicts c z m apart))

    alike : (c : Command) → has (cut_at (push (history_of ys) z) z) c ≡ has (push (history_of ys) z) c
    alike c = has-cut_at (push (history_of ys) z) z c ∙ iff_true _ _ (λ t. fst_of (has (push (history_of ys) z) c) _ t) (λ t. both t (kept c t))

    pairs : (c d : Command) → ((has (push (history_of ys) z) c && has (push (history_of ys) z) d) && before (push (history_of ys) z) c d) ≡ before (push (history_of ys) z) c d
    pairs c d = iff_true _ _ (λ t. snd_of (has (push (history_of ys) z) c && has (push (history_of ys) z) d) _ t) (λ t. let k = w.within c d t in both (both k.0 k.1) t)

-- what a sequence has up to its first checkpoint is the cut of its history
pub cut_of_sequence : (xs : List Command) (i : ℕ) (z : Command) → find is_checkpoint (take i xs) ≡ None → slice_get xs i ≡ Some z → z.draft.checkpoint ≡ true → history_of (take (i + 1) xs) ≡ cut (history_of xs)
cut_of_sequence xs i z e at m =
    let found = found_next xs i z e at m in
    let first = first_in (take (i + 1) xs) (Some z) found in
    let is : history_of (take (i + 1) xs) ≡ push (history_of (take i xs)) z = ap history_of (take_next xs i z at) ∙ history_of-push (take i xs) z in
    let rest : pushes (history_of (take (i + 1) xs)) (drop (i + 1) xs) ≡ history_of xs = sym (history_of-append (take (i + 1) xs) (drop (i + 1) xs)) ∙ ap history_of (take-append-drop (i + 1) xs) in
    let below : IsPrefix (history_of (take (i + 1) xs)) (history_of xs) = subst (λ (u : History). IsPrefix (history_of (take (i + 1) xs)) u) rest (pushed_extends (history_of (take (i + 1) xs)) (drop (i + 1) xs) (history_of_is (take (i + 1) xs))) in
    is ∙ sym (whole_cut (take i xs) z e m) ∙ (λ k. cut_at (sym is k) z) ∙ sym (cut_is (history_of (take (i + 1) xs)) (Some z) first)
    ∙ cut_above (history_of (take (i + 1) xs)) (history_of xs) (history_of_is (take (i + 1) xs)) (history_of_is xs) below (z, first)

-- with no checkpoint nothing is cut
pub uncut_sequence : (xs : List Command) → find is_checkpoint xs ≡ None → history_of xs ≡ cut (history_of xs)
uncut_sequence xs e = sym (cut_is (history_of xs) None (first_in xs None e))

-- one more command is kept
pub kept_next : (kept new xs : List Command) (i : ℕ) (c d : Command) → history_of kept ≡ history_of (take i xs) → new ≡ cond (has (history_of kept) c) kept (kept ++ c ∷ []) → c ≡ d → slice_get xs i ≡ Some d
    → history_of new ≡ history_of (take (i + 1) xs)
kept_next kept new xs i c d so now is at =
    ap history_of now ∙ pushed_sequence kept c ∙ (λ k. push (so k) (is k)) ∙ sym (history_of-push (take i xs) d) ∙ sym (ap history_of (take_next xs i d at))
