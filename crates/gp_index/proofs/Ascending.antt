-- The least command that is ready, found by going over the commands in ascending order.
use Rattle.std.proofs.Common.{◌≡◌, ℕ, ◌+◌, ◌<◌, ◌≤◌, Bool, true, false, List, [], length, get_or, Some, None, inl, inr, refl, sym, ap, ◌∙◌, arith}
use Rattle.std.specs.Prelude.{filter, slice_get}
use Rattle.std.specs.Ordering.{is_gt}
use Rattle.std.proofs.lemmas.Bool.{cases_lt, true≢false}
use Rattle.std.proofs.lemmas.Cmp.{tied_itself}
use Rattle.std.proofs.lemmas.Option.{get_or_from_slice_get, slice_get_cases, slice_get_within}
use Rattle.gp_command.specs.declared.command.Command.{Command}
use Rattle.gp_command.specs.Order.{command_cmp, command_cmp_total}
use Rattle.gp_history.specs.History.{History}
use Rattle.gp_history.specs.Sequence.{history_of, place}
use Rattle.gp_history.specs.Canonical.{is_ready, least, next_least}
use Rattle.gp_history.proofs.Tests.{In}
use Rattle.gp_history.proofs.Places.{at_in}
use Rattle.gp_history.proofs.Meet.{in_filter, from_filter}
use Rattle.gp_history.proofs.Canonical.{least_in, least_some, in_filtered}
use Rattle.gp_history.proofs.Least.{least_min, one_least, next_least_of}
use Rattle.gp_index.specs.Index.{IsIndex, named}
use Rattle.gp_index.proofs.Searches.{entry, stands}

pub index_of_nothing : (order : List ℕ) → order ≡ [] → IsIndex [] order
index_of_nothing order e = record {
  within = λ k h. let n = ap length e in absurd (omega (arith, h, n));
  rising = λ i j d h l. let n = ap length e in absurd (omega (arith, l, n));
  complete = λ p h. absurd (omega (arith, h));
}

-- one that passes and is not above any other that passes
least_is : (p : Command → Bool) (xs : List Command) (c : Command) → In xs c → p c ≡ true → ((d : Command) → In xs d → p d ≡ true → is_gt (command_cmp c d) ≡ false) → least (filter p xs) ≡ Some c
least_is p xs c i e low = elim (least (filter p xs)) as (λ o. least (filter p xs) ≡ o → o ≡ Some c) [
  | None ↦ λ f. absurd (least_some (filter p xs) c (in_filter p xs c i e) f)
  | Some b ↦ λ f. ap Some (one_least b c (least_min (filter p xs) b c f (in_filter p xs c i e))
      (let there = least_in (filter p xs) b f in low b (in_filtered p xs b there) (from_filter p xs b there)))
] refl

none_passes : (p : Command → Bool) (xs : List Command) → ((d : Command) → In xs d → p d ≡ false) → least (filter p xs) ≡ None
none_passes p xs h = elim (least (filter p xs)) as (λ o. least (filter p xs) ≡ o → o ≡ None) [
  | None ↦ λ f. refl
  | Some b ↦ λ f. let there = least_in (filter p xs) b f in absurd (true≢false (sym (from_filter p xs b there) ∙ h b (in_filtered p xs b there)))
] refl

-- no command that one of the first k entries names passes
abbrev pub NonePasses : (Command → Bool) → List Command → List ℕ → ℕ → Type 0
NonePasses p xs order k = (j : ℕ) (e : Command) → j < k → p (named xs order j e) ≡ false

pub none_more : (p : Command → Bool) (xs : List Command) (order : List ℕ) (k : ℕ) (c : Command) → NonePasses p xs order k → ((e : Command) → named xs order k e ≡ c) → p c ≡ false → NonePasses p xs order (k + 1)
none_more p xs order k c old is fails j e l = elim (cases_lt j k) [
  | inl u ↦ old j e u
  | inr g ↦ let s : k ≡ j = omega arith in ap (λ n. p (named xs order n e)) (sym s) ∙ ap p (is e) ∙ fails
]

module _ (xs : List Command) (order : List ℕ) (index : IsIndex xs order) where
  record Named (d : Command) : Type 0 where
    at : ℕ
    within : at < length order
    is : (e : Command) → named xs order at e ≡ d

  named_at : (d : Command) → In xs d → Named d
  named_at d i =
      let s = stands xs d i in
      let r = entry order (place xs d) (index.complete (place xs d) (slice_get_within xs (place xs d) d s)) in
      record { at = r.at; within = r.within; is = λ e. ap (λ p. get_or xs p e) r.is ∙ get_or_from_slice_get xs (place xs d) d e s }

  pub first_is_least : (t : History) (k : ℕ) (c : Command) → In xs c → k < length order → ((e : Command) → named xs order k e ≡ c) → is_ready (history_of xs) t c ≡ true → NonePasses (is_ready (history_of xs) t) xs order k → next_least (history_of xs) t ≡ Some c
  first_is_least t k c i l is ready none = next_least_of xs t ∙ least_is (is_ready (history_of xs) t) xs c i ready (λ d j r.
      let n = named_at d j in
      elim (cases_lt n.at k) [
        | inl u ↦ absurd (true≢false (sym r ∙ ap (is_ready (history_of xs) t) (sym (n.is d)) ∙ none n.at d u))
        | inr g ↦ elim (cases_lt k n.at) [
          | inl u ↦ (λ q. is_gt (command_cmp (sym (is c) q) (sym (n.is c) q))) ∙ ap is_gt (index.rising k n.at c u n.within)
          | inr h ↦ let s : n.at ≡ k = omega arith in
              let one : d ≡ c = sym (n.is c) ∙ ap (λ m. named xs order m c) s ∙ is c in
              ap (λ x. is_gt (command_cmp c x)) one ∙ ap is_gt (tied_itself command_cmp_total c)
        ]
      ])

  pub nothing_is_ready : (t : History) (k : ℕ) → length order ≤ k → NonePasses (is_ready (history_of xs) t) xs order k → next_least (history_of xs) t ≡ None
  nothing_is_ready t k whole none = next_least_of xs t ∙ none_passes (is_ready (history_of xs) t) xs (λ d j.
      let n = named_at d j in
      ap (is_ready (history_of xs) t) (sym (n.is d)) ∙ none n.at d (let w = n.within in omega (arith, w, whole)))

  -- the same, where the place is named and not the command
  pub first_place_is_least : (t : History) (k : ℕ) → k < length order → ((c : Command) → slice_get xs (get_or order k 0) ≡ Some c → is_ready (history_of xs) t c ≡ true) → NonePasses (is_ready (history_of xs) t) xs order k → next_least (history_of xs) t ≡ slice_get xs (get_or order k 0)
  first_place_is_least t k l ready none = elim (slice_get_cases xs (get_or order k 0)).1 [
    | inl there ↦ first_is_least t k there.0 (at_in xs (get_or order k 0) there.0 there.2) l (λ e. get_or_from_slice_get xs (get_or order k 0) there.0 e there.2) (ready there.0 there.2) none ∙ sym there.2
    | inr past ↦ absurd (let lt = index.within k l in let le = past.0 in omega (arith, lt, le))
  ]

  pub none_at_place : (t : History) (k : ℕ) → k < length order → ((c : Command) → slice_get xs (get_or order k 0) ≡ Some c → is_ready (history_of xs) t c ≡ false) → NonePasses (is_ready (history_of xs) t) xs order k → NonePasses (is_ready (history_of xs) t) xs order (k + 1)
  none_at_place t k l fails none = elim (slice_get_cases xs (get_or order k 0)).1 [
    | inl there ↦ none_more (is_ready (history_of xs) t) xs order k there.0 none (λ e. get_or_from_slice_get xs (get_or order k 0) there.0 e there.2) (fails there.0 there.2)
    | inr past ↦ absurd (let lt = index.within k l in let le = past.0 in omega (arith, lt, le))
  ]
