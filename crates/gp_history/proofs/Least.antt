-- The least command that is ready, found by going over a list.
use Rattle.std.proofs.Common.{◌≡◌, ◌↔◌, Bool, true, false, not, ◌&&◌, ◌||◌, cond, List, [], ◌∷◌, ◌++◌, refl, sym, ap, ◌∙◌}
use Rattle.std.specs.Prelude.{Option, Some, None, filter, IsNone}
use Rattle.std.specs.Cmp.{upto, tied_itself}
use Rattle.std.specs.declared.cmp.Ordering.{Ordering}
use Rattle.std.specs.declared.cmp.Ordering.TheVariants.{Equal, Less, Greater}
use Rattle.std.specs.List.{list_any, list_all}
use Rattle.std.specs.FinSet as set
use Rattle.std.specs.Ordering.{is_gt, ordering_reverse}
use Rattle.std.proofs.lemmas.Bool.{true≢false}
use Rattle.gp_command.specs.declared.command.Command.{Command}
use Rattle.gp_command.specs.Order.{command_cmp, command_cmp_total}
use Rattle.gp_command.proofs.Ties.{tied_command}
use Rattle.gp_command.specs.Conflict.{same}
use Rattle.gp_command.proofs.ConflictLemmas.{same-true}
use Rattle.gp_command.proofs.Truth.{iff_true}
use Rattle.gp_history.specs.History.{History, IsPrefix, has, before}
use Rattle.gp_history.specs.Sequence.{history_of}
use Rattle.gp_history.specs.Canonical.{is_ready, lesser, least, next_least}
use Rattle.gp_history.proofs.Tests.{In, fst_of, one_of, by_cases, all_gives, all_from, any-append}
use Rattle.gp_history.proofs.Sets.{has_history_of}
use Rattle.gp_history.proofs.Joins.{history_of_is, history_within}
use Rattle.gp_history.proofs.Meet.{in_filter, from_filter, in_items}
use Rattle.gp_history.proofs.Canonical.{least_in, least_some, in_filtered, sequences_progress, stands_if_all}

not_gt_itself : (c : Command) → is_gt (command_cmp c c) ≡ false
not_gt_itself c = ap is_gt (tied_itself command_cmp_total c)

turned : (c d : Command) → is_gt (command_cmp c d) ≡ true → is_gt (command_cmp d c) ≡ false
turned c d h = by_order (command_cmp d c) (ap is_gt (sym (command_cmp_total.antisymm c d)) ∙ h) where
  by_order : (r : Ordering) → is_gt (ordering_reverse r) ≡ true → is_gt r ≡ false
  by_order Less h = refl
  by_order Equal h = refl
  by_order Greater h = absurd (true≢false (sym h))

-- the least is not above any
pub least_min : (xs : List Command) (c d : Command) → least xs ≡ Some c → In xs d → is_gt (command_cmp c d) ≡ false
least_min [] c d e i = absurd (true≢false (sym i))
least_min (x ∷ xs) c d e i = elim (least xs) as (λ o. least xs ≡ o → Some (lesser x o) ≡ Some c → is_gt (command_cmp c d) ≡ false) [
  | None ↦ λ f e. let is : x ≡ c = cc in one_of (same d x) (list_any (same d) xs) i
      (λ s. ap (λ z. is_gt (command_cmp c z)) (same-true d x s ∙ is) ∙ not_gt_itself c)
      (λ m. absurd (least_some xs d m f))
  | Some y ↦ λ f e. by_cases (is_gt (command_cmp x y))
      (λ g. let is : y ≡ c = picked x y c true g e in one_of (same d x) (list_any (same d) xs) i
      (λ s. (λ j. is_gt (command_cmp (sym is j) (same-true d x s j))) ∙ turned x y g)
      (λ m. least_min xs c d (f ∙ ap Some is) m))
      (λ g. let is : x ≡ c = picked x y c false g e in one_of (same d x) (list_any (same d) xs) i
      (λ s. ap (λ z. is_gt (command_cmp c z)) (same-true d x s ∙ is) ∙ not_gt_itself c)
      (λ m. ap (λ z. is_gt (command_cmp z d)) (sym is) ∙ upto command_cmp_total x y d g (least_min xs y d f m)))
] refl e where
  picked : (x y c : Command) (b : Bool) → is_gt (command_cmp x y) ≡ b → Some (cond (is_gt (command_cmp x y)) y x) ≡ Some c → cond b y x ≡ c
  picked x y c b g e = let k : cond (is_gt (command_cmp x y)) y x ≡ c = cc in ap (λ t. cond t y x) (sym g) ∙ k

pub one_least : (c d : Command) → is_gt (command_cmp c d) ≡ false → is_gt (command_cmp d c) ≡ false → c ≡ d
one_least c d p q = tied_command c d (level (command_cmp c d) p (ap is_gt (sym (command_cmp_total.antisymm d c)) ∙ q)) where
  level : (r : Ordering) → is_gt r ≡ false → is_gt (ordering_reverse r) ≡ false → r ≡ Equal
  level Less p q = absurd (true≢false q)
  level Equal p q = refl
  level Greater p q = absurd (true≢false p)

-- lists with the same members have one least
pub least_same : (xs ys : List Command) → ((c : Command) → list_any (same c) xs ≡ list_any (same c) ys) → least xs ≡ least ys
least_same xs ys h = elim (least xs) as (λ o. least xs ≡ o → o ≡ least ys) [
  | None ↦ λ e. elim (least ys) as (λ p. least ys ≡ p → None ≡ p) [
    | None ↦ λ f. refl
    | Some b ↦ λ f. absurd (least_some xs b (h b ∙ least_in ys b f) e)
  ] refl
  | Some a ↦ λ e. elim (least ys) as (λ p. least ys ≡ p → Some a ≡ p) [
    | None ↦ λ f. absurd (least_some ys a (sym (h a) ∙ least_in xs a e) f)
    | Some b ↦ λ f. ap Some (one_least a b (least_min xs a b e (h b ∙ least_in ys b f)) (least_min ys b a f (sym (h a) ∙ least_in xs a e)))
  ] refl
] refl

filter_same : (p : Command → Bool) (xs ys : List Command) → ((c : Command) → list_any (same c) xs ≡ list_any (same c) ys) → (c : Command) → list_any (same c) (filter p xs) ≡ list_any (same c) (filter p ys)
filter_same p xs ys h c = iff_true (list_any (same c) (filter p xs)) (list_any (same c) (filter p ys))
    (λ i. in_filter p ys c (sym (h c) ∙ in_filtered p xs c i) (from_filter p xs c i))
    (λ i. in_filter p xs c (h c ∙ in_filtered p ys c i) (from_filter p ys c i))

-- the least of those that are ready may be sought in any sequence of the history
pub next_least_of : (xs : List Command) (t : History) → next_least (history_of xs) t ≡ least (filter (is_ready (history_of xs) t) xs)
unfolding next_least
next_least_of xs t = least_same _ _ (filter_same (is_ready (history_of xs) t) (set.items (history_of xs).commands) xs (λ c. sym (in_items (history_of xs) c) ∙ has_history_of xs c))

pub ready_of : (xs : List Command) (t : History) (c : Command) → is_ready (history_of xs) t c ≡ (not (has t c) && list_all (λ d. not (before (history_of xs) d c) || has t d) xs)
ready_of xs t c = ap (λ b. not (has t c) && b) (all_same _ (set.items (history_of xs).commands) xs (λ d. sym (in_items (history_of xs) d) ∙ has_history_of xs d)) where
  all_same : (f : Command → Bool) (us vs : List Command) → ((d : Command) → list_any (same d) us ≡ list_any (same d) vs) → list_all f us ≡ list_all f vs
  all_same f us vs h = iff_true (list_all f us) (list_all f vs)
      (λ a. all_from f vs (λ d i. all_gives f us d a (h d ∙ i)))
      (λ a. all_from f us (λ d i. all_gives f vs d a (sym (h d) ∙ i)))

-- one more at the end
pub least_push : (p : Command → Bool) (xs : List Command) (c : Command) → least (filter p (xs ++ c ∷ [])) ≡ cond (p c) (Some (lesser c (least (filter p xs)))) (least (filter p xs))
least_push p xs c = least_same (filter p (xs ++ c ∷ [])) (filter p (c ∷ xs)) (filter_same p (xs ++ c ∷ []) (c ∷ xs) (λ d. any-append (same d) xs (c ∷ []) ∙ turn (list_any (same d) xs) (same d c)))
    ∙ first (p c) refl where
      turn : (a b : Bool) → (a || (b || false)) ≡ (b || a)
      turn true true = refl
      turn true false = refl
      turn false true = refl
      turn false false = refl

      first : (b : Bool) → p c ≡ b → least (filter p (c ∷ xs)) ≡ cond (p c) (Some (lesser c (least (filter p xs)))) (least (filter p xs))
      first true e = rw e refl
      first false e = rw e refl

abbrev next_least_filter : List Command → List Command → Option Command
next_least_filter xs ts = least (filter (is_ready (history_of xs) (history_of ts)) (set.items (history_of xs).commands))

none_is : (o : Option Command) → IsNone o → o ≡ None
none_is None h = refl
none_is (Some c) h = absurd (true≢false h)

is_none : (o : Option Command) → ((c : Command) → o ≡ Some c → ⊥) → IsNone o
is_none None h = refl
is_none (Some c) h = absurd (h c refl)

pub none_iff : (xs ts : List Command) → IsPrefix (history_of ts) (history_of xs) → IsNone (next_least (history_of xs) (history_of ts)) ↔ (history_of xs ≡ history_of ts)
unfolding next_least
none_iff xs ts a = (
  (λ e. sym (stands_if_all (history_of xs) (history_of_is xs) ts a (λ c p. by_cases (has (history_of ts) c) (λ k. k) (λ k.
      let d = sequences_progress xs (history_of ts) (history_within ts) a c p k in
      absurd (least_some (filter (is_ready (history_of xs) (history_of ts)) (set.items (history_of xs).commands)) d.0 (in_filter (is_ready (history_of xs) (history_of ts)) (set.items (history_of xs).commands) d.0 (sym (in_items (history_of xs) d.0) ∙ d.1) d.2) (none_is (next_least_filter xs ts) e)))))),
  (λ e. is_none (next_least_filter xs ts) (λ c f.
      let i = least_in (filter (is_ready (history_of xs) (history_of ts)) (set.items (history_of xs).commands)) c f in
      let r = fst_of (not (has (history_of ts) c)) _ (from_filter (is_ready (history_of xs) (history_of ts)) (set.items (history_of xs).commands) c i) in
      let p = in_items (history_of xs) c ∙ in_filtered (is_ready (history_of xs) (history_of ts)) (set.items (history_of xs).commands) c i in
      true≢false (sym r ∙ ap not (ap (λ u. has u c) (sym e) ∙ p)))),
)
