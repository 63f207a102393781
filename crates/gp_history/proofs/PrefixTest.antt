-- The test of a prefix by lists.
use Rattle.std.proofs.Common.{◌≡◌, ◌↔◌, true, not, ◌&&◌, List, sym, ap, ◌∙◌}
use Rattle.std.specs.Prelude.{IsTrue}
use Rattle.std.specs.List.{list_any, list_all}
use Rattle.std.proofs.lemmas.Bool.{true≢false}
use Rattle.gp_command.specs.declared.command.Command.{Command}
use Rattle.gp_command.specs.Conflict.{same}
use Rattle.gp_command.proofs.ConflictLemmas.{conflict_symm}
use Rattle.gp_command.proofs.Truth.{iff_true}
use Rattle.gp_history.specs.History.{IsHistory, IsPrefix, has, before}
use Rattle.gp_history.specs.Sequence.{history_of}
use Rattle.gp_history.specs.Walks.{fits, behind}
use Rattle.gp_history.proofs.Tests.{In, both, fst_of, snd_of, left_of, right_of, one_of, by_cases, never, all_gives, all_from}
use Rattle.gp_history.proofs.Sets.{has_history_of}
use Rattle.gp_history.proofs.Joins.{history_of_is}

module _ (xs ys : List Command) where
  wh : IsHistory (history_of xs)
  wh = history_of_is xs

  wk : IsHistory (history_of ys)
  wk = history_of_is ys

  in_xs : (c : Command) → has (history_of xs) c ≡ true → In xs c
  in_xs c p = sym (has_history_of xs c) ∙ p

  from_fits : list_all (fits xs ys) xs ≡ true → IsPrefix (history_of xs) (history_of ys)
  from_fits t = record {
    commands = commands;
    pairs = λ c d p q. iff_true (before (history_of xs) c d) (before (history_of ys) c d) (λ r.
        by_cases (before (history_of ys) c d) (λ e. e) (λ e.
        let back : before (history_of ys) d c ≡ true = wk.one_way d c (commands d q) (commands c p) (conflict_symm d c ∙ (wh.within c d r).2) ∙ ap not e in
        let here : before (history_of xs) d c ≡ true = earlier d c p back in
        never (before (history_of xs) c d) r (wh.one_way c d p q ((wh.within c d r).2) ∙ ap not here)))
        (earlier c d q);
    closed = λ c d q r. (wh.within c d (earlier c d q r)).0;
  } where
    fit : (c : Command) → has (history_of xs) c ≡ true → fits xs ys c ≡ true
    fit c p = all_gives (fits xs ys) xs c t (in_xs c p)

    commands : (c : Command) → has (history_of xs) c ≡ true → has (history_of ys) c ≡ true
    commands c p = has_history_of ys c ∙ fst_of (list_any (same c) ys) _ (fit c p)

    earlier : (d c : Command) → has (history_of xs) c ≡ true → before (history_of ys) d c ≡ true → before (history_of xs) d c ≡ true
    earlier d c p r =
        let w = wk.within d c r in
        one_of (not (before (history_of ys) d c)) (has (history_of ys) d && before (history_of xs) d c)
        (all_gives (behind (history_of ys) (history_of xs) (history_of ys) c) ys d (snd_of (list_any (same c) ys) _ (fit c p)) (sym (has_history_of ys d) ∙ w.0))
        (λ n. absurd (true≢false (sym n ∙ ap not r)))
        (λ m. snd_of (has (history_of ys) d) (before (history_of xs) d c) m)

  to_fits : IsPrefix (history_of xs) (history_of ys) → list_all (fits xs ys) xs ≡ true
  to_fits a = all_from (fits xs ys) xs (λ c i.
      let p : has (history_of xs) c ≡ true = has_history_of xs c ∙ i in
      both (sym (has_history_of ys c) ∙ a.commands c p)
      (all_from (behind (history_of ys) (history_of xs) (history_of ys) c) ys (λ d i. by_cases (before (history_of ys) d c)
      (λ r. right_of (not (before (history_of ys) d c)) _ (both (has_history_of ys d ∙ i) (a.pairs d c (a.closed d c p r) p ∙ r)))
      (λ r. left_of (not (before (history_of ys) d c)) _ (ap not r)))))

pub fits_is_prefix : (xs ys : List Command) → IsTrue (list_all (fits xs ys) xs) ↔ IsPrefix (history_of xs) (history_of ys)
fits_is_prefix xs ys = (from_fits xs ys, to_fits xs ys)
