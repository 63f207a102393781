-- The test of compatible histories.
use Rattle.std.proofs.Common.{◌≡◌, ◌↔◌, ℕ, Bool, true, false, not, ◌&&◌, ◌||◌, cond, List, take, Some, None, sym, ap, ◌∙◌}
use Rattle.std.specs.Prelude.{IsTrue}
use Rattle.std.specs.List.{list_any, list_all}
use Rattle.std.proofs.lemmas.Bool.{true≢false}
use Rattle.gp_command.specs.declared.command.Command.{Command}
use Rattle.gp_command.specs.Conflict.{same, conflict}
use Rattle.gp_history.specs.History.{History, has, before}
use Rattle.gp_history.specs.Sequence.{history_of}
use Rattle.gp_history.specs.Bounds.{IsCompatible}
use Rattle.gp_history.proofs.Tests.{In, both, fst_of, snd_of, left_of, right_of, one_of, not_true, by_cases, never, all_gives, all_from}
use Rattle.gp_history.proofs.Sets.{has_history_of}
use Rattle.gp_history.proofs.Joins.{history_within}
use Rattle.gp_history.specs.Sequence.{place_in}
use Rattle.gp_history.specs.Walks.{behind, fits}
use Rattle.gp_history.proofs.Places.{starts, kept_found, kept_lost, fits_start}
use Rattle.gp_command.proofs.Truth.{iff_true}
use Rattle.gp_bounds.specs.Agree.{is_apart, goes_beside}

module _ (xs ys : List Command) where
  abbrev h : History
  h = history_of xs

  abbrev k : History
  k = history_of ys

  abbrev agreed : Command → Bool
  agreed d = list_all (behind (history_of xs) (history_of ys) (history_of xs) d) xs && list_all (behind (history_of ys) (history_of xs) (history_of ys) d) ys

  from_beside : list_all (goes_beside xs ys) ys ≡ true → IsCompatible (history_of xs) (history_of ys)
  from_beside t = record {
    closed_left = λ c d q r. (history_within ys c d (together c d (history_within xs c d r).1 q (left_of (before h c d) _ r)).1).0;
    closed_right = λ c d p r. (history_within xs c d (together c d p (history_within ys c d r).1 (right_of (before h c d) (before k c d) r)).0).0;
    alike = λ c d p q s u. iff_true (before h c d) (before k c d) (λ r. (together c d s u (left_of (before h c d) _ r)).1) (λ r. (together c d s u (right_of (before h c d) (before k c d) r)).0);
    apart = λ c d p q s u. not_true (conflict c d) (λ r.
        let f : list_all (is_apart k d) xs ≡ true = sym (ap (λ b. cond b (agreed d) (list_all (is_apart k d) xs)) u) ∙ test d s in
        one_of (has k c) (not (conflict c d)) (all_gives (is_apart k d) xs c f (sym (has_history_of xs c) ∙ p)) (λ m. never (has k c) m q) (λ n. true≢false (sym n ∙ ap not r)));
  } where
    test : (d : Command) → has k d ≡ true → goes_beside xs ys d ≡ true
    test d q = all_gives (goes_beside xs ys) ys d t (sym (has_history_of ys d) ∙ q)

    together : (c d : Command) → has h d ≡ true → has k d ≡ true → (before h c d || before k c d) ≡ true → (before h c d ≡ true) × (before k c d ≡ true)
    together c d p q r =
        let f : agreed d ≡ true = sym (ap (λ b. cond b (agreed d) (list_all (is_apart k d) xs)) p) ∙ test d q in
        one_of (before h c d) (before k c d) r
        (λ b. let t = one_of (not (before h c d)) (has h c && before k c d) (all_gives (behind h k h d) xs c (fst_of (list_all (behind h k h d) xs) _ f) (sym (has_history_of xs c) ∙ (history_within xs c d b).0))
        (λ n. absurd (true≢false (sym n ∙ ap not b))) (λ m. snd_of (has h c) (before k c d) m) in (b, t))
        (λ b. let t = one_of (not (before k c d)) (has k c && before h c d) (all_gives (behind k h k d) ys c (snd_of (list_all (behind h k h d) xs) _ f) (sym (has_history_of ys c) ∙ (history_within ys c d b).0))
        (λ n. absurd (true≢false (sym n ∙ ap not b))) (λ m. snd_of (has k c) (before h c d) m) in (t, b))

  to_beside : IsCompatible (history_of xs) (history_of ys) → list_all (goes_beside xs ys) ys ≡ true
  to_beside a = all_from (goes_beside xs ys) ys (λ d i.
      let q : has k d ≡ true = has_history_of ys d ∙ i in
      by_cases (has h d)
      (λ p. ap (λ b. cond b (agreed d) (list_all (is_apart k d) xs)) p ∙ both (all_from (behind h k h d) xs (λ c _. left c d q p)) (all_from (behind k h k d) ys (λ c _. right c d q p)))
      (λ p. ap (λ b. cond b (agreed d) (list_all (is_apart k d) xs)) p ∙ all_from (is_apart k d) xs (λ c m. by_cases (has k c)
      (λ e. left_of (has k c) _ e)
      (λ e. right_of (has k c) (not (conflict c d)) (ap not (a.apart c d (has_history_of xs c ∙ m) e q p)))))) where
        left : (c d : Command) → has k d ≡ true → has h d ≡ true → behind h k h d c ≡ true
        left c d q p = by_cases (before h c d)
            (λ b. let c_h = (history_within xs c d b).0 in let c_k = a.closed_left c d q b in right_of (not (before h c d)) _ (both c_h (sym (a.alike c d c_h c_k p q) ∙ b)))
            (λ b. left_of (not (before h c d)) _ (ap not b))

        right : (c d : Command) → has k d ≡ true → has h d ≡ true → behind k h k d c ≡ true
        right c d q p = by_cases (before k c d)
            (λ b. let c_k = (history_within ys c d b).0 in let c_h = a.closed_right c d p b in right_of (not (before k c d)) _ (both c_k (a.alike c d c_h c_k p q ∙ b)))
            (λ b. left_of (not (before k c d)) _ (ap not b))

pub beside_is_compatible : (xs ys : List Command) → IsTrue (list_all (goes_beside xs ys) ys) ↔ IsCompatible (history_of xs) (history_of ys)
beside_is_compatible xs ys = (from_beside xs ys, to_beside xs ys)

-- what is in a common start goes beside
pub beside_start : (xs ys : List Command) (n : ℕ) → take n xs ≡ take n ys → list_all (goes_beside xs ys) (take n ys) ≡ true
beside_start xs ys n e = all_from (goes_beside xs ys) (take n ys) (λ d i.
    let j : In (take n xs) d = ap (λ zs. list_any (same d) zs) e ∙ i in
    let p : has (history_of xs) d ≡ true = has_history_of xs d ∙ (starts xs n d j).there in
    ap (λ b. cond b (list_all (behind (history_of xs) (history_of ys) (history_of xs) d) xs && list_all (behind (history_of ys) (history_of xs) (history_of ys) d) ys) (list_all (is_apart (history_of ys) d) xs)) p
    ∙ both
    (snd_of (list_any (same d) xs) _ (all_gives (fits ys xs) (take n ys) d (fits_start ys xs n (sym e)) i))
    (snd_of (list_any (same d) ys) _ (all_gives (fits xs ys) (take n xs) d (fits_start xs ys n e) j)))

pub beside_both : (xs ys : List Command) (d : Command) (i : ℕ) → place_in xs d ≡ Some i → goes_beside xs ys d ≡ (list_all (behind (history_of xs) (history_of ys) (history_of xs) d) xs && list_all (behind (history_of ys) (history_of xs) (history_of ys) d) ys)
beside_both xs ys d i e = ap (λ b. cond b (list_all (behind (history_of xs) (history_of ys) (history_of xs) d) xs && list_all (behind (history_of ys) (history_of xs) (history_of ys) d) ys) (list_all (is_apart (history_of ys) d) xs)) (kept_found xs d i e)

pub beside_one : (xs ys : List Command) (d : Command) → place_in xs d ≡ None → goes_beside xs ys d ≡ list_all (is_apart (history_of ys) d) xs
beside_one xs ys d e = ap (λ b. cond b (list_all (behind (history_of xs) (history_of ys) (history_of xs) d) xs && list_all (behind (history_of ys) (history_of xs) (history_of ys) d) ys) (list_all (is_apart (history_of ys) d) xs)) (kept_lost xs d e)

pub apart_start : (xs ys : List Command) (n : ℕ) (d : Command) → take n xs ≡ take n ys → list_all (is_apart (history_of ys) d) (take n xs) ≡ true
apart_start xs ys n d e = all_from (is_apart (history_of ys) d) (take n xs) (λ c i. left_of (has (history_of ys) c) _ (has_history_of ys c ∙ (starts ys n c (ap (λ zs. list_any (same c) zs) (sym e) ∙ i)).there))

pub apart_calm : (k : History) (c d : Command) → conflict c d ≡ false → is_apart k d c ≡ true
apart_calm k c d e = right_of (has k c) (not (conflict c d)) (ap not e)

pub apart_there : (ys : List Command) (c d : Command) (i : ℕ) → place_in ys c ≡ Some i → is_apart (history_of ys) d c ≡ true
apart_there ys c d i e = left_of (has (history_of ys) c) _ (kept_found ys c i e)

pub apart_not : (ys : List Command) (c d : Command) → conflict c d ≡ true → place_in ys c ≡ None → is_apart (history_of ys) d c ≡ false
apart_not ys c d r e = not_true (is_apart (history_of ys) d c) (λ t. one_of (has (history_of ys) c) (not (conflict c d)) t (λ m. never (has (history_of ys) c) m (kept_lost ys c e)) (λ n. true≢false (sym n ∙ ap not r)))
