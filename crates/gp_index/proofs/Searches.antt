-- Searches by an index, and an entry more.
use Rattle.std.proofs.Common.{◌≡◌, ℕ, suc, ◌+◌, ◌-◌, ◌<◌, ◌≤◌, Bool, true, false, List, [], ◌∷◌, ◌++◌, length, get_or, Some, None, inl, inr, refl, sym, ap, subst, ◌∙◌, arith, length-append}
use Rattle.std.specs.Prelude.{slice_get, nat_eq, ◌≢◌, cond}
use Rattle.std.specs.List.{list_any, insert}
use Rattle.std.specs.Option.{is_some}
use Rattle.std.specs.declared.cmp.Ordering.{Ordering}
use Rattle.std.specs.declared.cmp.Ordering.TheVariants.{Less, Equal, Greater}
use Rattle.std.specs.Ordering.{is_lt, is_eq, ordering_reverse}
use Rattle.std.proofs.Math.ListN.{get_or-append}
use Rattle.std.proofs.Math.Seq.{get_or-append_seam}
use Rattle.std.proofs.lemmas.Bool.{cases_lt, true≢false, eqb-true, eq-eqb}
use Rattle.std.proofs.lemmas.Cmp.{tied_itself}
use Rattle.std.proofs.lemmas.List.{get_or_default}
use Rattle.std.proofs.lemmas.List.Edits.{length-insert, get_or-insert_below, get_or-insert_at, get_or-insert_above}
use Rattle.std.proofs.lemmas.List.Sorted.{list_any-IsPermutation, IsPermutation-insert}
use Rattle.std.proofs.lemmas.Option.{get_or_from_slice_get, slice_get_within, slice_get_read}
use Rattle.gp_command.specs.declared.command.Command.{Command}
use Rattle.gp_command.specs.Order.{command_cmp, command_cmp_total}
use Rattle.gp_command.specs.Conflict.{same, same_ties}
use Rattle.gp_command.proofs.ConflictLemmas.{same_itself, same_symm, same-true}
use Rattle.gp_history.specs.History.{has}
use Rattle.gp_history.specs.Sequence.{history_of, no_repeat, place, place_in}
use Rattle.gp_history.proofs.Tests.{In, left_of, right_of, one_of, not_true, by_cases, never}
use Rattle.gp_history.proofs.Sets.{has_history_of}
use Rattle.gp_history.proofs.Places.{place_found, place_tells, at_in}
use Rattle.gp_history.proofs.Sequences.{no_repeat_push}
use Rattle.gp_index.specs.Index.{IsIndex, IsGap, IsParts, named}
use Rattle.gp_index.specs.Epochs.{starts_from}
use Rattle.gp_index.proofs.Starts.{starts_push}

-- ---- answers of comparisons

is_Less : (o : Ordering) → is_lt o ≡ true → o ≡ Less
is_Less Less h = refl
is_Less Equal h = absurd (true≢false (sym h))
is_Less Greater h = absurd (true≢false (sym h))

turned : (o : Ordering) → (o ≡ Less → ⊥) → (o ≡ Equal → ⊥) → ordering_reverse o ≡ Less
turned Less l e = absurd (l refl)
turned Equal l e = absurd (e refl)
turned Greater l e = refl

-- ---- what stands in a list

pub stands : (xs : List Command) (c : Command) → In xs c → slice_get xs (place xs c) ≡ Some c
stands [] c i = absurd (true≢false (sym i))
stands (x ∷ xs) c i = by_cases (same c x)
    (λ s. ap (λ n. slice_get (x ∷ xs) n) (ap (λ b. cond b 0 (suc (place xs c))) s) ∙ ap Some (sym (same-true c x s)))
    (λ s. ap (λ n. slice_get (x ∷ xs) n) (ap (λ b. cond b 0 (suc (place xs c))) s) ∙ stands xs c (one_of (same c x) (list_any (same c) xs) i (λ t. never (same c x) t s) (λ m. m)))

pub record Entry (order : List ℕ) (p : ℕ) : Type 0 where
  pub at : ℕ
  pub within : at < length order
  pub is : get_or order at 0 ≡ p

pub entry : (order : List ℕ) (p : ℕ) → list_any (nat_eq p) order ≡ true → Entry order p
entry [] p h = absurd (true≢false (sym h))
entry (q ∷ order) p h = one_of (nat_eq p q) (list_any (nat_eq p) order) h
    (λ e. record { at = 0; within = omega arith; is = sym (eqb-true p q e) })
    (λ m. let r = entry order p m in record { at = suc r.at; within = omega (arith, r.within); is = r.is })

module _ (xs : List Command) (order : List ℕ) (index : IsIndex xs order) (c : Command) where
  any_other : (k : ℕ) (d e : Command) → k < length order → named xs order k d ≡ named xs order k e
  any_other k d e h = get_or_default xs (get_or order k 0) d e (index.within k h)

  -- ---- steps of a search

  pub below_step : (m : ℕ) (r : Command) → m < length order → r ≡ named xs order m r → is_lt (command_cmp r c) ≡ true → (k : ℕ) (e : Command) → k < m + 1 → command_cmp (named xs order k e) c ≡ Less
  below_step m r h is less k e l = elim (cases_lt k m) [
    | inl u ↦ command_cmp_total.trans (named xs order k e) (named xs order m e) c (index.rising k m e u h) here
    | inr g ↦ let s : m ≡ k = omega arith in subst (λ j. command_cmp (named xs order j e) c ≡ Less) s here
  ] where
    here : command_cmp (named xs order m e) c ≡ Less
    here = ap (λ d. command_cmp d c) (any_other m e r h ∙ sym is) ∙ is_Less (command_cmp r c) less

  pub above_step : (m : ℕ) (r : Command) → m < length order → r ≡ named xs order m r → is_lt (command_cmp r c) ≡ false → (k : ℕ) (e : Command) → m ≤ k → k < length order → command_cmp (named xs order k e) c ≢ Less
  above_step m r h is not k e l u less = elim (cases_lt m k) [
    | inl v ↦ here (command_cmp_total.trans (named xs order m e) (named xs order k e) c (index.rising m k e v u) less)
    | inr g ↦ let s : k ≡ m = omega arith in here (subst (λ j. command_cmp (named xs order j e) c ≡ Less) s less)
  ] where
    here : command_cmp (named xs order m e) c ≡ Less → ⊥
    here a = true≢false (sym (ap is_lt (ap (λ d. command_cmp d c) (sym (any_other m e r h ∙ sym is)) ∙ a)) ∙ not)

  -- ---- what a search finds

  pub found_at : (k : ℕ) (r : Command) → no_repeat xs ≡ true → k < length order → r ≡ named xs order k r → same r c ≡ true → Some (get_or order k 0) ≡ place_in xs c
  found_at k r n h is s = place_found xs (get_or order k 0) c r n (slice_get_read xs (length xs) (get_or order k 0) r refl (index.within k h) is) (same_symm c r ∙ s)

  pub lacking : (k : ℕ) (r e : Command) → k < length order → r ≡ named xs order k r → same r c ≡ false → same (named xs order k e) c ≡ false
  lacking k r e h is s = ap (λ d. same d c) (any_other k e r h ∙ sym is) ∙ s

  module _ (at : ℕ) (below : (k : ℕ) (e : Command) → k < at → command_cmp (named xs order k e) c ≡ Less) (above : (k : ℕ) (e : Command) → at ≤ k → k < length order → command_cmp (named xs order k e) c ≢ Less) where
    -- it is not there, where it is not at the place of the search
    pub absent : ((e : Command) → at < length order → same (named xs order at e) c ≡ false) → list_any (same c) xs ≡ false
    absent lacks = not_true (list_any (same c) xs) (λ i.
        let s = stands xs c i in
        let r = entry order (place xs c) (index.complete (place xs c) (slice_get_within xs (place xs c) c s)) in
        let is : named xs order r.at c ≡ c = ap (λ p. get_or xs p c) r.is ∙ get_or_from_slice_get xs (place xs c) c c s in
        let tie : command_cmp (named xs order r.at c) c ≡ Equal = ap (λ d. command_cmp d c) is ∙ tied_itself command_cmp_total c in
        elim (cases_lt r.at at) [
          | inl l ↦ let d : Less ≡ Equal = sym (below r.at c l) ∙ tie in absurd (cc)
          | inr g ↦ elim (cases_lt at r.at) [
            | inl l ↦ above at c (omega arith) (omega (arith, r.within)) (ap (λ d. command_cmp (named xs order at c) d) (sym is) ∙ index.rising at r.at c l r.within)
            | inr u ↦ let q : r.at ≡ at = omega arith in
                never (same (named xs order at c) c) (ap (λ k. same (named xs order k c) c) (sym q) ∙ ap (λ d. same d c) is ∙ same_itself c) (lacks c (omega (arith, q, r.within)))
          ]
        ])

    -- and then its entry goes there
    pub gap : at ≤ length order → list_any (same c) xs ≡ false → IsGap xs order c at
    gap le none = record {
      within = le;
      below = below;
      above = λ k e g h. command_cmp_total.antisymm c (named xs order k e) ∙ turned (command_cmp (named xs order k e) c) (above k e g h) (λ t.
          let s : same (named xs order k e) c ≡ true = same_ties (named xs order k e) c ∙ ap is_eq t in
          let is : named xs order k e ≡ c = same-true (named xs order k e) c s in
          let there : slice_get xs (get_or order k 0) ≡ Some c = slice_get_read xs (length xs) (get_or order k 0) c refl (index.within k h) (sym is ∙ any_other k e c h) in
          never (list_any (same c) xs) (at_in xs (get_or order k 0) c there) none);
    }

  -- ---- an entry more

  module _ (at : ℕ) (fits : IsGap xs order c at) where
    longer : List Command
    longer = xs ++ c ∷ []

    more : List ℕ
    more = insert order at (length xs)

    entry_below : (k : ℕ) → k < at → get_or more k 0 ≡ get_or order k 0
    unfolding more
    entry_below k l = get_or-insert_below order at (length xs) 0 k l fits.within

    entry_here : get_or more at 0 ≡ length xs
    unfolding more
    entry_here = get_or-insert_at order at (length xs) 0 fits.within

    entry_above : (k : ℕ) → at ≤ k → get_or more (k + 1) 0 ≡ get_or order k 0
    unfolding more
    entry_above k g = get_or-insert_above order at (length xs) 0 k g fits.within

    length_more : length more ≡ length order + 1
    unfolding more
    length_more = length-insert order at (length xs) fits.within

    old : (k : ℕ) (e : Command) → k < length order → get_or longer (get_or order k 0) e ≡ named xs order k e
    unfolding longer
    old k e h = get_or-append xs (c ∷ []) e (get_or order k 0) (index.within k h)

    named_below : (k : ℕ) (e : Command) → k < at → named longer more k e ≡ named xs order k e
    named_below k e l = ap (λ p. get_or longer p e) (entry_below k l) ∙ old k e (omega (arith, fits.within))

    named_here : (e : Command) → named longer more at e ≡ c
    unfolding longer
    named_here e = ap (λ p. get_or longer p e) entry_here ∙ get_or-append_seam xs c [] e

    named_above : (k : ℕ) (e : Command) → at ≤ k → k < length order → named longer more (k + 1) e ≡ named xs order k e
    named_above k e g h = ap (λ p. get_or longer p e) (entry_above k g) ∙ old k e h

    length_longer : length longer ≡ length xs + 1
    unfolding longer
    length_longer = length-append xs (c ∷ [])

    within : (k : ℕ) → k < length more → get_or more k 0 < length longer
    within k h = elim (cases_lt k at) [
      | inl l ↦ omega (arith, entry_below k l, index.within k (omega (arith, fits.within)), length_longer)
      | inr g ↦ elim (cases_lt at k) [
        | inl l ↦ let s : k - 1 + 1 ≡ k = omega arith in
            let e : get_or more k 0 ≡ get_or order (k - 1) 0 = subst (λ j. get_or more j 0 ≡ get_or order (k - 1) 0) s (entry_above (k - 1) (omega arith)) in
            omega (arith, e, index.within (k - 1) (omega (arith, length_more)), length_longer)
        | inr u ↦ let s : at ≡ k = omega arith in
            let e : get_or more k 0 ≡ length xs = subst (λ j. get_or more j 0 ≡ length xs) s entry_here in
            omega (arith, e, length_longer)
      ]
    ]

    less_along : (d e d' e' : Command) → d ≡ d' → e ≡ e' → command_cmp d' e' ≡ Less → command_cmp d e ≡ Less
    less_along d e d' e' p q h = (λ i. command_cmp (p i) (q i)) ∙ h

    -- the place of an entry that is not the new one, before
    rising : (i j : ℕ) (e : Command) → i < j → j < length more → command_cmp (named longer more i e) (named longer more j e) ≡ Less
    rising i j e l h = elim (cases_lt j at) [
      | inl u ↦ less_along _ _ _ _ (named_below i e (omega arith)) (named_below j e u) (index.rising i j e l (omega (arith, fits.within)))
      | inr g ↦ elim (cases_lt at j) [
        | inr u ↦ let s : at ≡ j = omega arith in
            less_along _ _ _ _ (named_below i e (omega arith)) (subst (λ k. named longer more k e ≡ c) s (named_here e)) (fits.below i e (omega arith))
        | inl v ↦
            let sj : j - 1 + 1 ≡ j = omega arith in
            let in_j : j - 1 < length order = omega (arith, length_more) in
            let nj : named longer more j e ≡ named xs order (j - 1) e = subst (λ k. named longer more k e ≡ named xs order (j - 1) e) sj (named_above (j - 1) e (omega arith) in_j) in
            elim (cases_lt i at) [
              | inl u ↦ less_along _ _ _ _ (named_below i e u) nj (index.rising i (j - 1) e (omega arith) in_j)
              | inr w ↦ elim (cases_lt at i) [
                | inl u ↦
                    let si : i - 1 + 1 ≡ i = omega arith in
                    let ni : named longer more i e ≡ named xs order (i - 1) e = subst (λ k. named longer more k e ≡ named xs order (i - 1) e) si (named_above (i - 1) e (omega arith) (omega arith)) in
                    less_along _ _ _ _ ni nj (index.rising (i - 1) (j - 1) e (omega arith) in_j)
                | inr u ↦ let s : at ≡ i = omega arith in
                    less_along _ _ _ _ (subst (λ k. named longer more k e ≡ c) s (named_here e)) nj (fits.above (j - 1) e (omega arith) in_j)
              ]
            ]
      ]
    ]

    complete : (p : ℕ) → p < length longer → list_any (nat_eq p) more ≡ true
    unfolding more
    complete p h =
        sym (list_any-IsPermutation (nat_eq p) (length xs ∷ order) (insert order at (length xs)) (IsPermutation-insert order at (length xs)))
        ∙ elim (cases_lt p (length xs)) [
          | inl l ↦ right_of (nat_eq p (length xs)) (list_any (nat_eq p) order) (index.complete p l)
          | inr g ↦ let s : p ≡ length xs = omega (arith, length_longer) in left_of (nat_eq p (length xs)) (list_any (nat_eq p) order) (eq-eqb p (length xs) s)
        ]

    pub index_more : IsIndex (xs ++ c ∷ []) (insert order at (length xs))
    unfolding longer more
    index_more = record { within = within; rising = rising; complete = complete }

-- what is kept of a sequence with a command more
pub parts_more : (xs : List Command) (order starts starts' : List ℕ) (c : Command) (at : ℕ) → IsParts xs order starts → IsGap xs order c at → list_any (same c) xs ≡ false
    → starts' ≡ starts ++ cond c.draft.checkpoint (suc (length xs) ∷ []) [] → IsParts (xs ++ c ∷ []) (insert order at (length xs)) starts'
parts_more xs order starts starts' c at parts fits none e =
    let place : 0 + length xs ≡ length xs = omega arith in
    record {
      distinct = no_repeat_push xs c parts.distinct none;
      index = index_more xs order parts.index c at fits;
      cut = e ∙ ap (λ s. s ++ cond c.draft.checkpoint (suc (length xs) ∷ []) []) parts.cut ∙ ap (λ n. starts_from 0 xs ++ cond c.draft.checkpoint (suc n ∷ []) []) (sym place) ∙ sym (starts_push 0 xs c);
    }

pub same_parts : (xs ys : List Command) (order order' starts starts' : List ℕ) → xs ≡ ys → order ≡ order' → starts ≡ starts' → IsParts ys order' starts' → IsParts xs order starts
same_parts xs ys order order' starts starts' p q r h = subst (λ zs. IsParts zs order starts) (sym p) (subst (λ o. IsParts ys o starts) (sym q) (subst (λ s. IsParts ys order' s) (sym r) h))

pub there_if_found : (xs : List Command) (c : Command) (i : ℕ) → Some i ≡ place_in xs c → has (history_of xs) c ≡ true
there_if_found xs c i e = has_history_of xs c ∙ (place_tells xs c i (sym e)).there

pub has_if_found : (xs : List Command) (c : Command) → has (history_of xs) c ≡ is_some (place_in xs c)
has_if_found xs c = has_history_of xs c ∙ some_if (list_any (same c) xs) where
  some_if : (b : Bool) → b ≡ is_some (cond b (Some (place xs c)) None)
  some_if true = refl
  some_if false = refl
