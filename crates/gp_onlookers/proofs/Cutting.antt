-- Looks that are cut at the end of an order.
use Rattle.std.proofs.Common.{◌≡◌, ◌≤◌, ◌<◌, ◌+◌, ℕ, zero, suc, Bool, true, false, cond, List, [], ◌∷◌, ◌++◌, length, map, take, drop, set, get_or, ap, sym, subst, refl, ◌∙◌, arith}
use Rattle.std.specs.Prelude.{nat_lt}
use Rattle.std.specs.List.Sorted.{IsNonDecreasingBy}
use Rattle.std.proofs.lemmas.Bool.Decides.{nat_tests}
use Rattle.std.proofs.lemmas.List.{length-map, map-append, get_or-map}
use Rattle.gp_command.specs.declared.command.Command.{Command}
use Rattle.gp_views.specs.Lists.{Extends}
use Rattle.gp_onlookers.specs.declared.looks.Look.{Look}
use Rattle.gp_onlookers.specs.Ends.{WatcherView}
use Rattle.gp_onlookers.specs.Looks.{look_after, cut_at, IsLook, HasLooked, AreLooks}
use Rattle.gp_onlookers.proofs.Looking.{look_itself, shorter, no_more}

-- ---- a loop that writes f of each element in its place

module _ {A : Type 0} (f : A → A) where
  stay_step : (xs : List A) (i : ℕ) (d : A) → i < length xs → f (get_or xs i d) ≡ get_or xs i d → map f (take i xs) ++ drop i xs ≡ map f (take (suc i) xs) ++ drop (suc i) xs
  stay_step [] i d lt e = absurd (omega (arith, lt))
  stay_step (x ∷ xs) zero d lt e = ap (λ (z : A). z ∷ xs) (sym e)
  stay_step (x ∷ xs) (suc i) d lt e = ap (λ (z : List A). f x ∷ z) (stay_step xs i d (omega (arith, lt)) e)

  set_step : (xs : List A) (i : ℕ) (d : A) → i < length xs → set (map f (take i xs) ++ drop i xs) i (f (get_or xs i d)) ≡ map f (take (suc i) xs) ++ drop (suc i) xs
  set_step [] i d lt = absurd (omega (arith, lt))
  set_step (x ∷ xs) zero d lt = refl
  set_step (x ∷ xs) (suc i) d lt = ap (λ (z : List A). f x ∷ z) (set_step xs i d (omega (arith, lt)))

  get_behind : (xs : List A) (i : ℕ) (d : A) → i < length xs → get_or (map f (take i xs) ++ drop i xs) i d ≡ get_or xs i d
  get_behind [] i d lt = absurd (omega (arith, lt))
  get_behind (x ∷ xs) zero d lt = refl
  get_behind (x ∷ xs) (suc i) d lt = get_behind xs i d (omega (arith, lt))

-- ---- a cut

at_less : (b : Bool) (end look : Look) → nat_lt end.seen look.seen ≡ b → (cut_at end look).seen ≤ end.seen
at_less true end look is = omega (arith, ap (λ (c : Bool). (cond c end look).seen) is)
at_less false end look is = let here : look.seen ≤ end.seen = grind (arith, nat_tests) in omega (arith, here, ap (λ (c : Bool). (cond c end look).seen) is)

module _ (end : Look) where
  cut_more : (look : Look) → end.seen < look.seen → cut_at end look ≡ end
  cut_more look less = let b : nat_lt end.seen look.seen ≡ true = grind (arith, nat_tests) in ap (λ (c : Bool). cond c end look) b

  cut_less : (look : Look) → look.seen ≤ end.seen → cut_at end look ≡ look
  cut_less look less = let b : nat_lt end.seen look.seen ≡ false = grind (arith, nat_tests) in ap (λ (c : Bool). cond c end look) b

  cut_seen : (look : Look) → (cut_at end look).seen ≤ look.seen
  cut_seen look = at_most (nat_lt end.seen look.seen) refl where
    at_most : (b : Bool) → nat_lt end.seen look.seen ≡ b → (cut_at end look).seen ≤ look.seen
    at_most true is = let less : end.seen < look.seen = grind (arith, nat_tests) in omega (arith, less, ap (λ (c : Bool). (cond c end look).seen) is)
    at_most false is = omega (arith, ap (λ (c : Bool). (cond c end look).seen) is)

  -- a cut keeps the order of two looks
  cut_rises : (a b : Look) → a.seen ≤ b.seen → (cut_at end a).seen ≤ (cut_at end b).seen
  cut_rises a b less = by (nat_lt end.seen b.seen) refl where
    by : (c : Bool) → nat_lt end.seen b.seen ≡ c → (cut_at end a).seen ≤ (cut_at end b).seen
    by true is = omega (arith, at_less (nat_lt end.seen a.seen) end a refl, ap (λ (c : Bool). (cond c end b).seen) is)
    by false is = omega (arith, less, cut_seen a, ap (λ (c : Bool). (cond c end b).seen) is)

  cut_ascending : (looks : List Look) → IsNonDecreasingBy (λ (look : Look). look.seen) looks → IsNonDecreasingBy (λ (look : Look). look.seen) (map (cut_at end) looks)
  cut_ascending looks rising i j d le low =
      let within : j < length looks = omega (arith, low, length-map looks (cut_at end)) in
      let at_i = get_or-map (cut_at end) looks i d d (omega (arith, le, within)) in
      let at_j = get_or-map (cut_at end) looks j d d within in
      let less = cut_rises (get_or looks i d) (get_or looks j d) (rising i j d le within) in
      omega (arith, less, ap (λ (look : Look). look.seen) at_i, ap (λ (look : Look). look.seen) at_j)

  -- ---- a step of the loop

  pub cut_next : (old now : List Look) (i : ℕ) (d : Look) → now ≡ map (cut_at end) (take i old) ++ drop i old → i < length old → end.seen < (get_or now i d).seen → set now i end ≡ map (cut_at end) (take (i + 1) old) ++ drop (i + 1) old
  cut_next old now i d is lt less =
      let here : get_or now i d ≡ get_or old i d = ap (λ (z : List Look). get_or z i d) is ∙ get_behind (cut_at end) old i d lt in
      let cut : cut_at end (get_or old i d) ≡ end = cut_more (get_or old i d) (omega (arith, less, ap (λ (look : Look). look.seen) here)) in
      let one : suc i ≡ i + 1 = omega arith in
      ap (λ (z : List Look). set z i end) is
      ∙ (ap (λ (e : Look). set (map (cut_at end) (take i old) ++ drop i old) i e) (sym cut)
      ∙ (set_step (cut_at end) old i d lt ∙ ap (λ (k : ℕ). map (cut_at end) (take k old) ++ drop k old) one))

  pub kept_next : (old now : List Look) (i : ℕ) (d : Look) → now ≡ map (cut_at end) (take i old) ++ drop i old → i < length old → (get_or now i d).seen ≤ end.seen → now ≡ map (cut_at end) (take (i + 1) old) ++ drop (i + 1) old
  kept_next old now i d is lt less =
      let here : get_or now i d ≡ get_or old i d = ap (λ (z : List Look). get_or z i d) is ∙ get_behind (cut_at end) old i d lt in
      let kept : cut_at end (get_or old i d) ≡ get_or old i d = cut_less (get_or old i d) (omega (arith, less, ap (λ (look : Look). look.seen) here)) in
      let one : suc i ≡ i + 1 = omega arith in
      is ∙ (stay_step (cut_at end) old i d lt kept ∙ ap (λ (k : ℕ). map (cut_at end) (take k old) ++ drop k old) one)

-- ---- the looks of a reader that has seen more than the order

module _ (key : List ℕ) (order seen : List Command) (more : Extends seen order) (end : Look) (is_end : end ≡ look_after key order) where
  end_seen : end.seen ≡ length order
  end_seen = ap (λ (look : Look). look.seen) is_end

  cut_is : (look : Look) → IsLook key seen look → IsLook key order (cut_at end look)
  cut_is look is = by (nat_lt end.seen look.seen) refl where
    by : (b : Bool) → nat_lt end.seen look.seen ≡ b → IsLook key order (cut_at end look)
    by true t = subst (IsLook key order) (sym (ap (λ (c : Bool). cond c end look) t ∙ is_end)) (look_itself key order)
    by false t =
        let less : look.seen ≤ end.seen = grind (arith, nat_tests) in
        subst (IsLook key order) (sym (ap (λ (c : Bool). cond c end look) t)) (shorter key order seen look more (omega (arith, less, end_seen)) is)

  -- a reader that has seen no more than the order has seen the order
  cut_last : cut_at end (look_after key seen) ≡ look_after key order
  cut_last = by (nat_lt end.seen (length seen)) refl where
    by : (b : Bool) → nat_lt end.seen (length seen) ≡ b → cut_at end (look_after key seen) ≡ look_after key order
    by true t = ap (λ (c : Bool). cond c end (look_after key seen)) t ∙ is_end
    by false t =
        let less : length seen ≤ end.seen = grind (arith, nat_tests) in
        let same : seen ≡ order = no_more seen order more (omega (arith, less, end_seen)) in
        ap (λ (c : Bool). cond c end (look_after key seen)) t ∙ ap (look_after key) same

  cut_looks : (before looks cut : List Look) → HasLooked key seen looks → looks ≡ before ++ look_after key seen ∷ [] → cut ≡ map (cut_at end) looks → AreLooks key order before cut
  cut_looks before looks cut h last is = subst (AreLooks key order before) (sym is) (record {
    along = record {
      each = λ k d low.
          let within : k < length looks = omega (arith, low, length-map looks (cut_at end)) in
          subst (IsLook key order) (sym (get_or-map (cut_at end) looks k d d within)) (cut_is (get_or looks k d) (h.each k d within));
      ascending = cut_ascending end looks h.ascending;
    };
    all = ap (map (cut_at end)) last
        ∙ (map-append (cut_at end) before (look_after key seen ∷ [])
        ∙ (ap (λ (e : Look). map (cut_at end) before ++ e ∷ []) cut_last
        ∙ ap (λ (e : Look). map (cut_at e) before ++ look_after key order ∷ []) is_end));
  })

-- the same of a watcher that was told of the order
pub watched_cut : (key : List ℕ) (order : List Command) (now : WatcherView) (before looks cut : List Look) (end : Look) → now.key ≡ key → HasLooked now.key now.seen now.looks → Extends now.seen order → end ≡ look_after key order → now.looks ≡ before ++ look_after now.key now.seen ∷ [] → looks ≡ now.looks → cut ≡ map (cut_at end) looks → AreLooks key order before cut
watched_cut key order now before looks cut end e has more is_end last same is =
    let here : HasLooked key now.seen now.looks = subst (λ (k : List ℕ). HasLooked k now.seen now.looks) e has in
    let at_end : now.looks ≡ before ++ look_after key now.seen ∷ [] = last ∙ ap (λ (k : List ℕ). before ++ look_after k now.seen ∷ []) e in
    cut_looks key order now.seen more end is_end before now.looks cut here at_end (is ∙ ap (map (cut_at end)) same)
