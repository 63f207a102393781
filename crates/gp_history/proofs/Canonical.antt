-- The canonical sequence of a history stands for it.
use Rattle.std.proofs.Common.{◌≡◌, ℕ, zero, suc, ◌+◌, ◌<◌, ◌≤◌, Bool, true, false, not, ◌||◌, cond, List, [], ◌∷◌, ◌++◌, length, refl, sym, ap, subst, ◌∙◌, ◌⊎◌, inl, inr, arith}
use Rattle.std.specs.Prelude.{Some, None, filter}
use Rattle.std.specs.List.{list_any}
use Rattle.std.specs.FinSet as set
use Rattle.std.specs.Ordering.{is_gt}
use Rattle.std.proofs.lemmas.Bool.{true≢false}
use Rattle.gp_command.specs.declared.command.Command.{Command}
use Rattle.gp_command.specs.Order.{command_cmp}
use Rattle.gp_command.specs.Conflict.{same, conflict}
use Rattle.gp_command.proofs.ConflictLemmas.{same-true, same_itself, conflict_symm, conflict_itself}
use Rattle.gp_command.proofs.Truth.{iff_true}
use Rattle.gp_history.specs.History.{History, IsHistory, IsPrefix, has, before, push, empty}
use Rattle.gp_history.specs.Sequence.{history_of, place}
use Rattle.gp_history.specs.Canonical.{is_ready, lesser, least, next_least, and_next, least_first, canonical}
use Rattle.gp_history.proofs.Tests.{In, both, fst_of, snd_of, left_of, right_of, one_of, not_true, by_cases, never, all_gives, all_from}
use Rattle.gp_history.proofs.Sets.{has_history_of}
use Rattle.gp_history.proofs.Prefix.{prefix_antisymm}
use Rattle.gp_history.proofs.Push.{Within, has-push, push_old, push_last, push_within}
use Rattle.gp_history.proofs.Joins.{history_of_is, later, history_of-push, history_of-empty, empty_none, history_within}
use Rattle.gp_history.specs.Sequence.{no_repeat}
use Rattle.gp_history.proofs.Sequences.{may_push}
use Rattle.gp_history.proofs.Meet.{in_filter, from_filter, in_items}

-- ---- what is ready may be pushed

push_ready : (h t : History) → IsHistory h → Within t → IsPrefix t h → (c : Command) → has h c ≡ true → has t c ≡ false → ((d : Command) → before h d c ≡ true → has t d ≡ true) → IsPrefix (push t c) h
push_ready h t w wt a c p n early = record {
  commands = λ x i. split x i (has h x ≡ true) (λ e. ap (has h) e ∙ p) (a.commands x);
  pairs = λ x y i j. split y j (before (push t c) x y ≡ before h x y)
      (λ e. split x i (before (push t c) x y ≡ before h x y)
      (λ f. by_cases (has t y) (λ g. never (has t c) (ap (has t) (sym e) ∙ g) n)
      (λ g. not_true (before (push t c) x y) (λ r. never (conflict c c) (ap (λ z. conflict z c) (sym f) ∙ ap (conflict x) (sym e) ∙ (pushed_within x y r)) (conflict_itself c))
      ∙ sym (not_true (before h x y) (λ r. never (conflict c c) (ap (λ z. conflict z c) (sym f) ∙ ap (conflict x) (sym e) ∙ (w.within x y r).2) (conflict_itself c)))))
      (λ q. ap (before (push t c) x) e ∙ push_last t wt c x n q ∙ iff_true (conflict x c) (before h x c)
      (λ r. by_cases (before h x c) (λ g. g) (λ g.
      let back : before h c x ≡ true = w.one_way c x p (a.commands x q) (conflict_symm c x ∙ r) ∙ ap not g in
      never (has t c) (a.closed c x q back) n))
      (λ r. (w.within x c r).2) ∙ ap (before h x) (sym e)))
      (λ q. push_old t wt c x y q ∙ split x i (before t x y ≡ before h x y)
      (λ f. not_true (before t x y) (λ r. never (has t c) (ap (has t) (sym f) ∙ (wt x y r).0) n)
      ∙ sym (not_true (before h x y) (λ r. never (has t c) (ap (has t) (sym f) ∙ a.closed x y q r) n)))
      (λ g. a.pairs x y g q));
  closed = λ x y j r. has-push t c x ∙ right_of (same x c) (has t x) (split y j (has t x ≡ true)
      (λ e. early x (ap (before h x) (sym e) ∙ r))
      (λ q. a.closed x y q r));
} where
  split : (x : Command) → has (push t c) x ≡ true → (P : Type 0) → (x ≡ c → P) → (has t x ≡ true → P) → P
  split x i P f g = one_of (same x c) (has t x) (sym (has-push t c x) ∙ i) (λ s. f (same-true x c s)) g

  pushed_within : (x y : Command) → before (push t c) x y ≡ true → conflict x y ≡ true
  pushed_within x y r = (push_within t wt c x y r).2

-- ---- the least of some

pub least_in : (xs : List Command) (c : Command) → least xs ≡ Some c → In xs c
least_in [] c e = cc
least_in (x ∷ xs) c e = elim (least xs) as (λ o. least xs ≡ o → Some (lesser x o) ≡ Some c → (same c x || list_any (same c) xs) ≡ true) [
  | None ↦ λ _ e. let is : x ≡ c = cc in left_of (same c x) _ (ap (same c) is ∙ same_itself c)
  | Some y ↦ λ f e. elim (is_gt (command_cmp x y)) as (λ b. Some (cond b y x) ≡ Some c → (same c x || list_any (same c) xs) ≡ true) [
    | true ↦ λ e. let is : y ≡ c = cc in right_of (same c x) _ (least_in xs c (f ∙ ap Some is))
    | false ↦ λ e. let is : x ≡ c = cc in left_of (same c x) _ (ap (same c) is ∙ same_itself c)
  ] e
] refl e

pub least_some : (xs : List Command) (c : Command) → In xs c → least xs ≡ None → ⊥
least_some [] c i e = true≢false (sym i)
least_some (x ∷ xs) c i e = cc

-- ---- fewer are left with each step

fewer : (p q : Command → Bool) (xs : List Command) → ((x : Command) → q x ≡ true → p x ≡ true) → length (filter q xs) ≤ length (filter p xs)
fewer p q [] h = omega arith
fewer p q (x ∷ xs) h = by_cases (q x)
    (λ e. let k = h x e in rw (e, k) (let r = fewer p q xs h in omega (arith, r)))
    (λ e. by_cases (p x)
    (λ k. rw (e, k) (let r = fewer p q xs h in omega (arith, r)))
    (λ k. rw (e, k) (fewer p q xs h)))

one_fewer : (p q : Command → Bool) (xs : List Command) → ((x : Command) → q x ≡ true → p x ≡ true) → (c : Command) → In xs c → p c ≡ true → q c ≡ false → length (filter q xs) < length (filter p xs)
one_fewer p q [] h c i e f = absurd (true≢false (sym i))
one_fewer p q (x ∷ xs) h c i e f = one_of (same c x) (list_any (same c) xs) i
    (λ s. let is = same-true c x s in
    let a : p x ≡ true = ap p (sym is) ∙ e in let b : q x ≡ false = ap q (sym is) ∙ f in
    rw (a, b) (let r = fewer p q xs h in omega (arith, r)))
    (λ m. let r = one_fewer p q xs h c m e f in by_cases (q x)
    (λ b. let k = h x b in rw (b, k) (omega (arith, r)))
    (λ b. by_cases (p x)
    (λ k. rw (b, k) (omega (arith, r)))
    (λ k. rw (b, k) r)))

none_left : (p : Command → Bool) (xs : List Command) → length (filter p xs) ≡ 0 → (c : Command) → In xs c → p c ≡ false
none_left p xs e c i = not_true (p c) (λ t. nothing (filter p xs) e c (in_filter p xs c i t)) where
  nothing : (zs : List Command) → length zs ≡ 0 → (c : Command) → In zs c → ⊥
  nothing [] e c i = true≢false (sym i)
  nothing (z ∷ zs) e c i = omega (arith, e)

all_gone : (p : Command → Bool) (xs : List Command) → ((c : Command) → In xs c → p c ≡ false) → length (filter p xs) ≡ 0
all_gone p [] h = refl
all_gone p (x ∷ xs) h =
    let e : p x ≡ false = h x (left_of (same x x) (list_any (same x) xs) (same_itself x)) in
    rw e (all_gone p xs (λ c i. h c (right_of (same c x) (list_any (same c) xs) i)))

pub in_filtered : (p : Command → Bool) (zs : List Command) (c : Command) → In (filter p zs) c → In zs c
in_filtered p [] c i = i
in_filtered p (z ∷ zs) c i = by_cases (p z)
    (λ k. one_of (same c z) (list_any (same c) (filter p zs)) (rw k at i) (λ s. left_of (same c z) _ s) (λ m. right_of (same c z) (list_any (same c) zs) (in_filtered p zs c m)))
    (λ k. right_of (same c z) (list_any (same c) zs) (in_filtered p zs c (rw k at i)))

-- a prefix with all of the commands is the history
pub stands_if_all : (h : History) → IsHistory h → (ts : List Command) → IsPrefix (history_of ts) h → ((c : Command) → has h c ≡ true → has (history_of ts) c ≡ true) → history_of ts ≡ h
stands_if_all h w ts a d = prefix_antisymm (history_of ts) h (history_of_is ts) w a (record {
  commands = d;
  pairs = λ x y p q. sym (a.pairs x y (d x p) (d y q));
  closed = λ x y q r. a.commands x (history_within ts x y r).0;
})

-- ---- a history in which something is ready as long as something is left

abbrev pub Progresses : History → Type 0
Progresses h = (t : History) → Within t → IsPrefix t h → (c : Command) → has h c ≡ true → has t c ≡ false → (d : Command) × (has h d ≡ true) × (is_ready h t d ≡ true)

module _ (h : History) (w : IsHistory h) (progress : Progresses h) where
  abbrev left : List Command → List Command
  left xs = filter (λ c. not (has (history_of xs) c)) (set.items h.commands)

  record Walked (n : ℕ) (xs : List Command) : Type 0 where
    prefix : IsPrefix (history_of xs) h
    distinct : no_repeat xs ≡ true
    count : length (left xs) + n ≤ length (set.items h.commands)

  -- the whole history was taken
  abbrev Done : List Command → Type 0
  Done xs = (c : Command) → has h c ≡ true → has (history_of xs) c ≡ true

  pub record Stands (xs : List Command) : Type 0 where
    pub prefix : IsPrefix (history_of xs) h
    pub distinct : no_repeat xs ≡ true

  ready_gives : (t : History) (c : Command) → has h c ≡ true → is_ready h t c ≡ true → (has t c ≡ false) × ((d : Command) → before h d c ≡ true → has t d ≡ true)
  ready_gives t c p r = (
    not_true (has t c) (λ e. true≢false (sym (fst_of (not (has t c)) _ r) ∙ ap not e)),
    λ d b. one_of (not (before h d c)) (has t d)
        (all_gives (λ z. not (before h z c) || has t z) (set.items h.commands) d (snd_of (not (has t c)) _ r) (sym (in_items h d) ∙ (w.within d c b).0))
        (λ n. absurd (true≢false (sym n ∙ ap not b)))
        (λ m. m),
  )

  step_some : (xs : List Command) (c : Command) → next_least h (history_of xs) ≡ Some c → (has h c ≡ true) × (is_ready h (history_of xs) c ≡ true)
  unfolding next_least
  step_some xs c e =
      let i = least_in (filter (is_ready h (history_of xs)) (set.items h.commands)) c e in
      let r = from_filter (is_ready h (history_of xs)) (set.items h.commands) c i in
      (in_items h c ∙ in_filtered (is_ready h (history_of xs)) (set.items h.commands) c i, r)

  step_none : (xs : List Command) → IsPrefix (history_of xs) h → next_least h (history_of xs) ≡ None → (c : Command) → has h c ≡ true → has (history_of xs) c ≡ true
  unfolding next_least
  step_none xs a e c p = by_cases (has (history_of xs) c) (λ k. k) (λ k.
      let d = progress (history_of xs) (history_within xs) a c p k in
      absurd (least_some (filter (is_ready h (history_of xs)) (set.items h.commands)) d.0 (in_filter (is_ready h (history_of xs)) (set.items h.commands) d.0 (sym (in_items h d.0) ∙ d.1) d.2) e))

  pushed : (n : ℕ) (xs : List Command) → Walked n xs → (c : Command) → next_least h (history_of xs) ≡ Some c → Walked (suc n) (xs ++ c ∷ [])
  pushed n xs k c e =
      let r = step_some xs c e in
      let g = ready_gives (history_of xs) c r.0 r.1 in
      let is : history_of (xs ++ c ∷ []) ≡ push (history_of xs) c = history_of-push xs c in
      let more : (x : Command) → has (history_of (xs ++ c ∷ [])) x ≡ (same x c || has (history_of xs) x) = λ x. ap (λ u. has u x) is ∙ has-push (history_of xs) c x in
      let less = one_fewer (λ x. not (has (history_of xs) x)) (λ x. not (has (history_of (xs ++ c ∷ [])) x)) (set.items h.commands)
      (λ x q. by_cases (has (history_of xs) x) (λ t. absurd (true≢false (sym q ∙ ap not (more x ∙ right_of (same x c) _ t)))) (λ f. ap not f))
      c (sym (in_items h c) ∙ r.0) (ap not g.0) (ap not (more c ∙ left_of (same c c) _ (same_itself c))) in
      let before_count = k.count in
      record {
        prefix = let P : History → Type 0 = λ u. IsPrefix u h in subst P (sym is) (push_ready h (history_of xs) w (history_within xs) k.prefix c r.0 g.0 g.1);
        distinct = may_push xs c k.distinct g.0;
        count = omega (arith, less, before_count);
      }

  walk : (n : ℕ) → (Walked n (least_first n h)) ⊎ (Stands (least_first n h) × Done (least_first n h))
  walk zero = inl (record {
    prefix = let P : History → Type 0 = λ u. IsPrefix u h in subst P (sym history_of-empty) (record {
      commands = λ c p. never (has empty c) p (empty_none c);
      pairs = λ c d p q. never (has empty c) p (empty_none c);
      closed = λ c d q r. never (has empty d) q (empty_none d);
    });
    distinct = refl;
    count = let m = fewer (λ c. true) (λ c. not (has (history_of []) c)) (set.items h.commands) (λ x _. refl) in let a = all_kept (set.items h.commands) in omega (arith, m, a);
  }) where
    all_kept : (xs : List Command) → length (filter (λ c. true) xs) ≡ length xs
    all_kept [] = refl
    all_kept (x ∷ xs) = ap suc (all_kept xs)
  walk (suc n) = elim (walk n) [
    | inl k ↦ elim (next_least h (history_of (least_first n h))) as (λ o. next_least h (history_of (least_first n h)) ≡ o → (Walked (suc n) (and_next (least_first n h) o)) ⊎ (Stands (and_next (least_first n h) o) × Done (and_next (least_first n h) o))) [
      | None ↦ λ e. inr (record { prefix = k.prefix; distinct = k.distinct }, step_none (least_first n h) k.prefix e)
      | Some c ↦ λ e. inl (pushed n (least_first n h) k c e)
    ] refl
    | inr d ↦ elim (next_least h (history_of (least_first n h))) as (λ o. next_least h (history_of (least_first n h)) ≡ o → (Walked (suc n) (and_next (least_first n h) o)) ⊎ (Stands (and_next (least_first n h) o) × Done (and_next (least_first n h) o))) [
      | None ↦ λ e. inr d
      | Some c ↦ λ e. let r = step_some (least_first n h) c e in let g = ready_gives (history_of (least_first n h)) c r.0 r.1 in never (has (history_of (least_first n h)) c) (d.1 c r.0) g.0
    ] refl
  ]

  finished : (n : ℕ) → n ≡ length (set.items h.commands) → Stands (least_first n h) × Done (least_first n h)
  finished n e = elim (walk n) [
    | inl k ↦ let c = k.count in (
      record { prefix = k.prefix; distinct = k.distinct },
      λ x p. by_cases (has (history_of (least_first n h)) x) (λ t. t) (λ f.
          let z : length (left (least_first n h)) ≡ 0 = omega (arith, c, e) in
          absurd (true≢false (sym (ap not f) ∙ none_left (λ y. not (has (history_of (least_first n h)) y)) (set.items h.commands) z x (sym (in_items h x) ∙ p)))),
    )
    | inr d ↦ d
  ]

  stands_for : (xs : List Command) → Stands xs → Done xs → history_of xs ≡ h
  stands_for xs s d = prefix_antisymm (history_of xs) h (history_of_is xs) w s.prefix (record {
    commands = d;
    pairs = λ x y p q. sym (s.prefix.pairs x y (d x p) (d y q));
    closed = λ x y q r. s.prefix.commands x (history_within xs x y r).0;
  })

  pub history_of-canonical : history_of (canonical h) ≡ h
  unfolding canonical
  history_of-canonical = let f = finished (length (set.items h.commands)) refl in stands_for _ f.0 f.1

  pub canonical-distinct : no_repeat (canonical h) ≡ true
  unfolding canonical
  canonical-distinct = let f = finished (length (set.items h.commands)) refl in f.0.distinct

-- the first that passes
first_of : (p : Command → Bool) (xs : List Command) (c : Command) → In xs c → p c ≡ true → (d : Command) × (In xs d) × (p d ≡ true) × ((x : Command) → p x ≡ true → place xs d ≤ place xs x)
first_of p [] c i e = absurd (true≢false (sym i))
first_of p (x ∷ xs) c i e = by_cases (p x)
    (λ k. (x, left_of (same x x) _ (same_itself x), k, λ y q. let z : place (x ∷ xs) x ≡ 0 = ap (λ b. cond b 0 (suc (place xs x))) (same_itself x) in omega (arith, z)))
    (λ k. let f = first_of p xs c (one_of (same c x) (list_any (same c) xs) i (λ s. never (p x) (ap p (sym (same-true c x s)) ∙ e) k) (λ m. m)) e in (
      f.0,
      right_of (same f.0 x) (list_any (same f.0) xs) f.1,
      f.2,
      λ y q.
          let a : same f.0 x ≡ false = not_true (same f.0 x) (λ s. never (p x) (ap p (sym (same-true f.0 x s)) ∙ f.2) k) in
          let b : same y x ≡ false = not_true (same y x) (λ s. never (p x) (ap p (sym (same-true y x s)) ∙ q) k) in
          let u : place (x ∷ xs) f.0 ≡ suc (place xs f.0) = ap (λ t. cond t 0 (suc (place xs f.0))) a in
          let v : place (x ∷ xs) y ≡ suc (place xs y) = ap (λ t. cond t 0 (suc (place xs y))) b in
          let le = f.3 y q in
          omega (arith, u, v, le),
    ))

pub sequences_progress : (xs : List Command) → Progresses (history_of xs)
sequences_progress xs t wt a c p n =
    let f = first_of (λ x. not (has t x)) xs c (sym (has_history_of xs c) ∙ p) (ap not n) in (
      f.0,
      has_history_of xs f.0 ∙ f.1,
      both f.2 (all_from _ (set.items (history_of xs).commands) (λ d _. by_cases (before (history_of xs) d f.0)
          (λ r. right_of (not (before (history_of xs) d f.0)) (has t d) (by_cases (has t d) (λ k. k) (λ k.
          let lt = later xs d f.0 r in let le = f.3 d (ap not k) in absurd (omega (arith, lt, le)))))
          (λ r. left_of (not (before (history_of xs) d f.0)) (has t d) (ap not r)))),
    )

pub canonical_stands : (xs : List Command) → history_of (canonical (history_of xs)) ≡ history_of xs
canonical_stands xs = history_of-canonical (history_of xs) (history_of_is xs) (sequences_progress xs)
