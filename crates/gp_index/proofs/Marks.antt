-- What the marks of the commands that were taken tell.
use Rattle.std.proofs.Common.{◌≡◌, ℕ, zero, suc, Bool, true, false, not, ◌&&◌, ◌||◌, List, [], ◌∷◌, ◌++◌, map, set, take, Some, refl, sym, ap, ◌∙◌}
use Rattle.std.specs.Prelude.{slice_get, slice_index_or}
use Rattle.std.specs.List.{list_any, list_all}
use Rattle.std.proofs.lemmas.Bool.{true≢false}
use Rattle.std.proofs.lemmas.List.{get_or-map}
use Rattle.std.proofs.lemmas.Option.{get_or_from_slice_get, slice_get_within}
use Rattle.gp_command.specs.declared.command.Command.{Command}
use Rattle.gp_command.specs.Conflict.{same}
use Rattle.gp_command.proofs.ConflictLemmas.{same_itself, same-true, same_symm}
use Rattle.gp_history.specs.History.{History, has, before}
use Rattle.gp_history.specs.Sequence.{history_of, no_repeat}
use Rattle.gp_history.specs.Canonical.{is_ready}
use Rattle.gp_history.specs.Walks.{behind}
use Rattle.gp_history.proofs.Tests.{both, fst_of, snd_of, left_of, right_of, not_true, by_cases, never}
use Rattle.gp_history.proofs.Push.{has-push}
use Rattle.gp_history.proofs.Joins.{history_of-push}
use Rattle.gp_history.proofs.Places.{at_in, behind_start}
use Rattle.gp_history.proofs.Ready.{ready_is}
use Rattle.gp_index.specs.Ordering.{marks_in}

-- the mark at a place tells whether the command there was taken
pub mark_at : (xs ts : List Command) (marks : List Bool) (p : ℕ) (c : Command) → marks ≡ marks_in xs ts → slice_get xs p ≡ Some c → slice_index_or marks p false ≡ has (history_of ts) c
mark_at xs ts marks p c e at =
    ap (λ ms. slice_index_or ms p false) e
    ∙ get_or-map (has (history_of ts)) xs p c false (slice_get_within xs p c at)
    ∙ ap (has (history_of ts)) (get_or_from_slice_get xs p c c at)

-- the commands with the first marks were taken
pub marked_start : (xs ts : List Command) (n : ℕ) → list_all (λ mark. mark) (take n (marks_in xs ts)) ≡ true → list_all (has (history_of ts)) (take n xs) ≡ true
marked_start [] ts zero e = refl
marked_start [] ts (suc n) e = refl
marked_start (x ∷ xs) ts zero e = refl
marked_start (x ∷ xs) ts (suc n) e = both (fst_of (has (history_of ts) x) _ e) (marked_start xs ts n (snd_of (has (history_of ts) x) _ e))

module _ (xs ts : List Command) where
  taken : History
  taken = history_of ts

  -- the walk over what stands before a command
  pub walk_start : (marks : List Bool) (n p : ℕ) (d : Command) → no_repeat xs ≡ true → slice_get xs p ≡ Some d → list_all (λ mark. mark) (take n marks) ≡ true → marks ≡ marks_in xs ts → list_all (behind (history_of xs) (history_of xs) (history_of ts) d) (take n xs) ≡ true
  unfolding taken
  walk_start marks n p d distinct at first e =
      let there = at_in xs p d at in
      behind_start xs xs (history_of ts) n d refl (marked_start xs ts n (ap (λ ms. list_all (λ mark. mark) (take n ms)) (sym e) ∙ first)) there there

  pub behind_kept : (c d : Command) → has (history_of ts) c ≡ true → behind (history_of xs) (history_of xs) (history_of ts) d c ≡ true
  behind_kept c d k = by_cases (before (history_of xs) c d)
      (λ r. right_of (not (before (history_of xs) c d)) _ (both k r))
      (λ r. left_of (not (before (history_of xs) c d)) _ (ap not r))

  -- what is ready has no mark, and all before it have
  pub ready_if : (c : Command) → has (history_of ts) c ≡ false → (b : Bool) → list_all (behind (history_of xs) (history_of xs) (history_of ts) c) xs ≡ b → b ≡ is_ready (history_of xs) (history_of ts) c
  ready_if c fresh b all = sym (ready_is xs ts c ∙ ap (λ t. not t && list_all (behind (history_of xs) (history_of xs) (history_of ts) c) xs) fresh ∙ all)

-- ---- one more mark

marked_apart : (xs ts : List Command) (c : Command) → list_any (same c) xs ≡ false → map (λ d. same d c || has (history_of ts) d) xs ≡ marks_in xs ts
marked_apart [] ts c none = refl
marked_apart (x ∷ xs) ts c none =
    let apart : same c x ≡ false = not_true (same c x) (λ s. never (list_any (same c) (x ∷ xs)) (left_of (same c x) _ s) none) in
    let rest : list_any (same c) xs ≡ false = not_true (list_any (same c) xs) (λ m. never (list_any (same c) (x ∷ xs)) (right_of (same c x) _ m) none) in
    λ i. ((same_symm x c ∙ apart) i || has (history_of ts) x) ∷ marked_apart xs ts c rest i

marked_more : (xs ts : List Command) (p : ℕ) (c : Command) → no_repeat xs ≡ true → slice_get xs p ≡ Some c → set (marks_in xs ts) p true ≡ map (λ d. same d c || has (history_of ts) d) xs
marked_more [] ts p c n at = cc
marked_more (x ∷ xs) ts zero c n at =
    let is : x ≡ c = cc in
    let fresh : list_any (same x) xs ≡ false = not_true (list_any (same x) xs) (λ m. true≢false (sym (fst_of (not (list_any (same x) xs)) (no_repeat xs) n) ∙ ap not m)) in
    let here : true ≡ (same x c || has (history_of ts) x) = sym (left_of (same x c) _ (ap (λ d. same d c) is ∙ same_itself c)) in
    λ i. here i ∷ sym (marked_apart xs ts c (ap (λ d. list_any (same d) xs) (sym is) ∙ fresh)) i
marked_more (x ∷ xs) ts (suc p) c n at =
    let apart : same x c ≡ false = not_true (same x c) (λ s. never (list_any (same x) xs) (ap (λ d. list_any (same d) xs) (same-true x c s) ∙ at_in xs p c at)
    (not_true (list_any (same x) xs) (λ m. true≢false (sym (fst_of (not (list_any (same x) xs)) (no_repeat xs) n) ∙ ap not m)))) in
    λ i. (sym apart i || has (history_of ts) x) ∷ marked_more xs ts p c (snd_of (not (list_any (same x) xs)) (no_repeat xs) n) at i

map_as : {X Y : Type 0} (f g : X → Y) (xs : List X) → ((x : X) → f x ≡ g x) → map f xs ≡ map g xs
map_as f g [] e = refl
map_as f g (x ∷ xs) e = λ i. e x i ∷ map_as f g xs e i

-- the marks after the command at a place was taken too
pub marks_more : (xs ts more : List Command) (marks : List Bool) (p : ℕ) (c : Command) → no_repeat xs ≡ true → slice_get xs p ≡ Some c → marks ≡ marks_in xs ts → more ≡ ts ++ c ∷ [] → set marks p true ≡ marks_in xs more
marks_more xs ts more marks p c n at e is =
    ap (λ ms. set ms p true) e
    ∙ marked_more xs ts p c n at
    ∙ map_as (λ d. same d c || has (history_of ts) d) (has (history_of more)) xs (λ d.
    sym (ap (λ ys. has (history_of ys) d) is ∙ ap (λ (u : History). has u d) (history_of-push ts c) ∙ has-push (history_of ts) c d))
