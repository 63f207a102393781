-- A history with a sequence pushed after it, and the history of a sequence.
use Rattle.std.proofs.Common.{◌≡◌, ℕ, suc, ◌<◌, Bool, true, false, not, ◌&&◌, ◌||◌, cond, List, [], ◌∷◌, ◌++◌, refl, sym, ap, ◌∙◌, arith}
use Rattle.std.specs.Prelude.{nat_lt}
use Rattle.std.proofs.lemmas.Bool.{ltb-true, lt-ltb, true≢false}
use Rattle.std.specs.List.{list_any}
use Rattle.std.specs.FinSet as set
use Rattle.gp_command.specs.declared.command.Command.{Command}
use Rattle.gp_command.specs.Order.{command_cmp}
use Rattle.gp_command.specs.Conflict.{same, conflict}
use Rattle.gp_command.proofs.ConflictLemmas.{same_itself, same-true, conflict_itself, conflict_symm}
use Rattle.gp_command.proofs.Truth.{iff_true}
use Rattle.gp_history.specs.History.{History, IsHistory, has, before, leads, pair_cmp, empty, push, pushes}
use Rattle.gp_history.specs.Sequence.{history_of, place}
use Rattle.gp_history.proofs.Tests.{In, both, fst_of, snd_of, left_of, right_of, one_of, not_true, by_cases, never}
use Rattle.gp_history.proofs.Sets.{same_history, has_history_of}
use Rattle.gp_history.proofs.Push.{Within, Joins, has-push, push_old, push_last, push_within, before_history_of, before_first, none_first, before_rest}

or_later : (a b c : Bool) → ((a || b) || c) ≡ (b || (a || c))
or_later true true c = refl
or_later true false c = refl
or_later false b c = refl

pub history_within : (xs : List Command) → Within (history_of xs)
history_within xs c d r =
    let s = sym (before_history_of xs c d) ∙ r in
    let k = fst_of (list_any (same c) xs && list_any (same d) xs) _ s in (
      has_history_of xs c ∙ fst_of (list_any (same c) xs) _ k,
      has_history_of xs d ∙ snd_of (list_any (same c) xs) _ k,
      fst_of (conflict c d) _ (snd_of (list_any (same c) xs && list_any (same d) xs) _ s),
    )

-- outside the commands there are no pairs
pub outside : (h : History) → Within h → (x y : Command) → has h x ≡ false → before h x y ≡ false
outside h w x y e = not_true (before h x y) (λ r. never (has h x) (w x y r).0 e)

pub joins : (ys : List Command) (h : History) → Within h → Joins h ys (pushes h ys)
joins [] h w = record {
  within = w;
  commands = λ x. iff_true (has h x) (has h x || false) (left_of (has h x) false) (λ o. one_of (has h x) false o (λ p. p) (λ f. absurd (true≢false (sym f))));
  old = λ x y p. refl;
  mixed = λ x y p q r. absurd (true≢false (sym r));
  fresh = λ x y p q. outside h w x y p ∙ sym (outside (history_of []) (history_within []) x y (has_history_of [] x));
}
joins (y ∷ ys) h w =
    let u = pushes (push h y) ys in
    let w' = push_within h w y in
    let r : Joins (push h y) ys u = joins ys (push h y) w' in
    let pushed : (x : Command) → has (push h y) x ≡ (same x y || has h x) = has-push h y in
    record {
      within = r.within;
      commands = λ x. r.commands x ∙ ap (λ b. b || list_any (same x) ys) (pushed x) ∙ or_later (same x y) (has h x) (list_any (same x) ys);
      old = λ a b p. r.old a b (pushed b ∙ right_of (same b y) (has h b) p) ∙ push_old h w y a b p;
      mixed = λ a b p q i.
          let in_a : has (push h y) a ≡ true = pushed a ∙ right_of (same a y) (has h a) p in
          by_cases (same b y)
          (λ e. let is : b ≡ y = same-true b y e in
          let new : has h y ≡ false = ap (has h) (sym is) ∙ q in
          ap (before u a) is ∙ r.old a y (pushed y ∙ left_of (same y y) (has h y) (same_itself y)) ∙ push_last h w y a new p ∙ ap (conflict a) (sym is))
          (λ e. r.mixed a b in_a (pushed b ∙ (λ j. e j || q j)) (one_of (same b y) (list_any (same b) ys) i (λ t. never (same b y) t e) (λ m. m)));
      fresh = λ a b p q. by_cases (same b y)
          (λ e. let is : b ≡ y = same-true b y e in
          let new : has h y ≡ false = ap (has h) (sym is) ∙ q in
          let in_y : has (push h y) y ≡ true = pushed y ∙ left_of (same y y) (has h y) (same_itself y) in
          let nothing : before u a y ≡ false = by_cases (same a y)
          (λ f. let am : a ≡ y = same-true a y f in
          not_true (before u a y) (λ t. never (conflict y y) (ap (λ z. conflict z y) (sym am) ∙ (r.within a y t).2) (conflict_itself y)))
          (λ f. r.old a y in_y ∙ outside (push h y) w' a y (pushed a ∙ (λ j. f j || p j))) in
          ap (before u a) is ∙ nothing ∙ sym (none_first y ys a) ∙ ap (before (history_of (y ∷ ys)) a) (sym is))
          (λ e. by_cases (same a y)
          (λ f. let am : a ≡ y = same-true a y f in
          let new : has h y ≡ false = ap (has h) (sym am) ∙ p in
          let in_y : has (push h y) y ≡ true = pushed y ∙ left_of (same y y) (has h y) (same_itself y) in
          let not_b : has (push h y) b ≡ false = pushed b ∙ (λ j. e j || q j) in
          ap (λ z. before u z b) am
          ∙ iff_true (before u y b) (list_any (same b) ys && conflict y b)
          (λ t. let k = r.within y b t in
          both (one_of (has (push h y) b) (list_any (same b) ys) (sym (r.commands b) ∙ k.1) (λ m. never (has (push h y) b) m not_b) (λ m. m)) k.2)
          (λ t. r.mixed y b in_y not_b (fst_of (list_any (same b) ys) _ t) ∙ snd_of (list_any (same b) ys) _ t)
          ∙ sym (before_first y ys b e)
          ∙ ap (λ z. before (history_of (y ∷ ys)) z b) (sym am))
          (λ f. r.fresh a b (pushed a ∙ (λ j. f j || p j)) (pushed b ∙ (λ j. e j || q j)) ∙ sym (before_rest y ys a b f e)));
    }

pub empty_none : (c : Command) → has empty c ≡ false
unfolding empty has
empty_none c = set.contains-empty command_cmp c

pub empty_no_pairs : (c d : Command) → before empty c d ≡ false
unfolding empty before
empty_no_pairs c d = set.contains-empty pair_cmp (c, d)

pub empty_within : Within empty
empty_within c d r = never (before empty c d) r (empty_no_pairs c d)

-- the history of a sequence is made by pushes
pub history_of-pushes : (xs : List Command) → history_of xs ≡ pushes empty xs
history_of-pushes xs =
    let r = joins xs empty empty_within in
    same_history (history_of xs) (pushes empty xs)
    (λ c. has_history_of xs c ∙ ap (λ b. b || list_any (same c) xs) (sym (empty_none c)) ∙ sym (r.commands c))
    (λ c d. sym (r.fresh c d (empty_none c) (empty_none d)))

pub pushes-append : (h : History) (xs ys : List Command) → pushes h (xs ++ ys) ≡ pushes (pushes h xs) ys
pushes-append h [] ys = refl
pushes-append h (x ∷ xs) ys = pushes-append (push h x) xs ys

pub history_of-append : (xs ys : List Command) → history_of (xs ++ ys) ≡ pushes (history_of xs) ys
history_of-append xs ys = history_of-pushes (xs ++ ys) ∙ pushes-append empty xs ys ∙ ap (λ h. pushes h ys) (sym (history_of-pushes xs))

pub history_of-push : (xs : List Command) (c : Command) → history_of (xs ++ c ∷ []) ≡ push (history_of xs) c
history_of-push xs c = history_of-append xs (c ∷ [])

pub history_of-empty : history_of [] ≡ empty
history_of-empty = history_of-pushes []

same_place : (xs : List Command) (c d : Command) → In xs c → place xs c ≡ place xs d → c ≡ d
same_place [] c d i e = absurd (true≢false (sym i))
same_place (x ∷ xs) c d i e = by_cases (same c x)
    (λ f. by_cases (same d x)
    (λ g. same-true c x f ∙ sym (same-true d x g))
    (λ g. let h : 0 ≡ suc (place xs d) = sym (ap (λ b. cond b 0 (suc (place xs c))) f) ∙ e ∙ ap (λ b. cond b 0 (suc (place xs d))) g in absurd (omega (arith, h))))
    (λ f. by_cases (same d x)
    (λ g. let h : suc (place xs c) ≡ 0 = sym (ap (λ b. cond b 0 (suc (place xs c))) f) ∙ e ∙ ap (λ b. cond b 0 (suc (place xs d))) g in absurd (omega (arith, h)))
    (λ g. let h : suc (place xs c) ≡ suc (place xs d) = sym (ap (λ b. cond b 0 (suc (place xs c))) f) ∙ e ∙ ap (λ b. cond b 0 (suc (place xs d))) g in
    same_place xs c d (one_of (same c x) (list_any (same c) xs) i (λ t. never (same c x) t f) (λ m. m)) (omega (arith, h))))

pub later : (xs : List Command) (c d : Command) → before (history_of xs) c d ≡ true → place xs c < place xs d
later xs c d r = ltb-true (place xs c) (place xs d) (snd_of (conflict c d) _ (snd_of (list_any (same c) xs && list_any (same d) xs) _ (sym (before_history_of xs c d) ∙ r)))

leads_later : (xs : List Command) (c : Command) (path : List Command) (d : Command) → leads (history_of xs) c path d ≡ true → place xs c < place xs d
leads_later xs c [] d r = later xs c d r
leads_later xs c (x ∷ path) d r =
    let a = later xs c x (fst_of (before (history_of xs) c x) _ r) in
    let b = leads_later xs x path d (snd_of (before (history_of xs) c x) _ r) in
    omega (arith, a, b)

lt_turn : (a b : ℕ) → (a ≡ b → ⊥) → nat_lt a b ≡ not (nat_lt b a)
lt_turn a b n = by_cases (nat_lt b a)
    (λ e. not_true (nat_lt a b) (λ t. let x = ltb-true a b t in let y = ltb-true b a e in omega (arith, x, y)) ∙ ap not (sym e))
    (λ e. by_cases (nat_lt a b)
    (λ t. t ∙ ap not (sym e))
    (λ f. absurd (n (equal a b f e)))) where
      not_lt : (a b : ℕ) → (a < b → ⊥) → (b < a → ⊥) → a ≡ b
      not_lt a b p q = omega arith

      equal : (a b : ℕ) → nat_lt a b ≡ false → nat_lt b a ≡ false → a ≡ b
      equal a b f e = not_lt a b (λ t. never (nat_lt a b) (lt-ltb a b t) f) (λ t. never (nat_lt b a) (lt-ltb b a t) e)

pub history_of_is : (xs : List Command) → IsHistory (history_of xs)
history_of_is xs = record {
  within = history_within xs;
  one_way = λ c d p q r.
      let in_c : In xs c = sym (has_history_of xs c) ∙ p in
      let in_d : In xs d = sym (has_history_of xs d) ∙ q in
      let apart : place xs c ≡ place xs d → ⊥ = λ e. never (conflict c c) (ap (conflict c) (same_place xs c d in_c e) ∙ r) (conflict_itself c) in
      before_history_of xs c d
      ∙ (λ i. (in_c i && in_d i) && (r i && lt_turn (place xs c) (place xs d) apart i))
      ∙ ap not (sym (before_history_of xs d c ∙ (λ i. (in_d i && in_c i) && ((conflict_symm d c ∙ r) i && nat_lt (place xs d) (place xs c)))));
  acyclic = λ c path. not_true (leads (history_of xs) c path c) (λ r. let x = leads_later xs c path c r in omega (arith, x));
}
