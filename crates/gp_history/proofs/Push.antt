-- What a push and many pushes add.
use Rattle.std.proofs.Common.{◌≡◌, ℕ, suc, true, false, ◌&&◌, ◌||◌, cond, List, ◌∷◌, sym, ap, ◌∙◌, arith}
use Rattle.std.specs.Prelude.{nat_lt}
use Rattle.std.proofs.lemmas.Bool.{ltb-true, lt-ltb}
use Rattle.std.specs.FinSet as set
use Rattle.std.specs.List.{list_any}
use Rattle.gp_command.specs.declared.command.Command.{Command}
use Rattle.gp_command.specs.Order.{command_cmp, command_cmp_total}
use Rattle.gp_command.specs.Conflict.{same, conflict}
use Rattle.gp_command.proofs.ConflictLemmas.{same_itself, same-true}
use Rattle.gp_command.proofs.Truth.{iff_true}
use Rattle.gp_history.specs.History.{History, IsHistory, IsPrefix, has, before, ordered_by, push}
use Rattle.gp_history.specs.Sequence.{history_of, place}
use Rattle.gp_history.proofs.Tests.{In, both, fst_of, snd_of, left_of, right_of, one_of, not_true, by_cases, never}
use Rattle.gp_history.proofs.Sets.{has-ordered_by, before-ordered_by}

-- pairs stand between commands of the history, and conflict
abbrev pub Within : History → Type 0
Within h = (c d : Command) → before h c d ≡ true → (has h c ≡ true) × (has h d ≡ true) × (conflict c d ≡ true)

pub push_there : (h : History) (c : Command) → has h c ≡ true → push h c ≡ h
unfolding push
push_there h c e = ap (λ b. cond b h (ordered_by (set.insert h.commands c) (λ x y. before h x y || (conflict x y && same y c)))) e

pub push_new : (h : History) (c : Command) → has h c ≡ false → push h c ≡ ordered_by (set.insert h.commands c) (λ x y. before h x y || (conflict x y && same y c))
unfolding push
push_new h c e = ap (λ b. cond b h (ordered_by (set.insert h.commands c) (λ x y. before h x y || (conflict x y && same y c)))) e

has_insert : (h : History) (c x : Command) → set.contains (set.insert h.commands c) x ≡ (same x c || has h x)
unfolding has same
has_insert h c x = set.contains-insert command_cmp_total h.commands c x

pub has-push : (h : History) (c x : Command) → has (push h c) x ≡ (same x c || has h x)
has-push h c x = by_cases (has h c)
    (λ e. ap (λ u. has u x) (push_there h c e)
    ∙ iff_true (has h x) (same x c || has h x) (right_of (same x c) (has h x)) (λ o. one_of (same x c) (has h x) o (λ s. ap (has h) (same-true x c s) ∙ e) (λ p. p)))
    (λ e. ap (λ u. has u x) (push_new h c e) ∙ has-ordered_by _ _ x ∙ has_insert h c x)

before-push_new : (h : History) (c x y : Command) → has h c ≡ false → before (push h c) x y ≡ (((same x c || has h x) && (same y c || has h y)) && (before h x y || (conflict x y && same y c)))
before-push_new h c x y e = ap (λ u. before u x y) (push_new h c e) ∙ before-ordered_by _ _ x y ∙ (λ i. (has_insert h c x i && has_insert h c y i) && (before h x y || (conflict x y && same y c)))

-- nothing new stands before a command that was there
pub push_old : (h : History) → Within h → (c x y : Command) → has h y ≡ true → before (push h c) x y ≡ before h x y
push_old h w c x y p = by_cases (has h c)
    (λ e. ap (λ u. before u x y) (push_there h c e))
    (λ e. before-push_new h c x y e ∙ iff_true _ (before h x y)
    (λ t. one_of (before h x y) (conflict x y && same y c) (snd_of ((same x c || has h x) && (same y c || has h y)) _ t) (λ r. r)
    (λ r. never (has h c) (sym (ap (has h) (same-true y c (snd_of (conflict x y) (same y c) r))) ∙ p) e))
    (λ r. both (both (right_of (same x c) (has h x) (w x y r).0) (right_of (same y c) (has h y) p)) (left_of (before h x y) _ r)))

-- what was there and conflicts stands before the new one
pub push_last : (h : History) → Within h → (c x : Command) → has h c ≡ false → has h x ≡ true → before (push h c) x c ≡ conflict x c
push_last h w c x e p = before-push_new h c x c e ∙ iff_true _ (conflict x c)
    (λ t. one_of (before h x c) (conflict x c && same c c) (snd_of ((same x c || has h x) && (same c c || has h c)) _ t) (λ r. (w x c r).2) (λ r. fst_of (conflict x c) (same c c) r))
    (λ r. both (both (right_of (same x c) (has h x) p) (left_of (same c c) (has h c) (same_itself c))) (right_of (before h x c) _ (both r (same_itself c))))

pub push_within : (h : History) → Within h → (c : Command) → Within (push h c)
push_within h w c x y r = by_cases (has h c)
    (λ e. let s = sym (ap (λ u. before u x y) (push_there h c e)) ∙ r in
    let k = w x y s in
    (has-push h c x ∙ right_of (same x c) (has h x) k.0, has-push h c y ∙ right_of (same y c) (has h y) k.1, k.2))
    (λ e. let s = sym (before-push_new h c x y e) ∙ r in
    let k = fst_of ((same x c || has h x) && (same y c || has h y)) _ s in (
      has-push h c x ∙ fst_of (same x c || has h x) _ k,
      has-push h c y ∙ snd_of (same x c || has h x) _ k,
      one_of (before h x y) (conflict x y && same y c) (snd_of ((same x c || has h x) && (same y c || has h y)) _ s) (λ b. (w x y b).2) (λ b. fst_of (conflict x y) (same y c) b),
    ))

pub prefix_push : (h : History) → IsHistory h → (c : Command) → IsPrefix h (push h c)
prefix_push h w c = record {
  commands = λ x p. has-push h c x ∙ right_of (same x c) (has h x) p;
  pairs = λ x y p q. sym (push_old h w.within c x y q);
  closed = λ x y q r. (w.within x y (sym (push_old h w.within c x y q) ∙ r)).0;
}

-- what `pushes h ys` is
pub record Joins (h : History) (ys : List Command) (u : History) : Type 0 where
  pub within : Within u
  pub commands : (x : Command) → has u x ≡ (has h x || list_any (same x) ys)
  pub old : (x y : Command) → has h y ≡ true → before u x y ≡ before h x y
  pub mixed : (x y : Command) → has h x ≡ true → has h y ≡ false → In ys y → before u x y ≡ conflict x y
  pub fresh : (x y : Command) → has h x ≡ false → has h y ≡ false → before u x y ≡ before (history_of ys) x y

pub before_history_of : (xs : List Command) (c d : Command) → before (history_of xs) c d ≡ ((list_any (same c) xs && list_any (same d) xs) && (conflict c d && nat_lt (place xs c) (place xs d)))
unfolding history_of same
before_history_of xs c d =
    before-ordered_by (set.from_list xs) (λ x y. conflict x y && nat_lt (place xs x) (place xs y)) c d
    ∙ (λ i. (listed xs c i && listed xs d i) && (conflict c d && nat_lt (place xs c) (place xs d))) where
      listed : (zs : List Command) (x : Command) → set.contains (set.from_list {R = command_cmp} zs) x ≡ list_any (same x) zs
      listed zs x = set.contains-from_list command_cmp_total zs x

pub lt_suc : (a b : ℕ) → nat_lt (suc a) (suc b) ≡ nat_lt a b
lt_suc a b = iff_true (nat_lt (suc a) (suc b)) (nat_lt a b)
    (λ h. lt-ltb a b (omega (arith, ltb-true (suc a) (suc b) h)))
    (λ h. lt-ltb (suc a) (suc b) (omega (arith, ltb-true a b h)))

-- a first command is before each that conflicts with it
pub before_first : (y : Command) (ys : List Command) (d : Command) → same d y ≡ false → before (history_of (y ∷ ys)) y d ≡ (list_any (same d) ys && conflict y d)
before_first y ys d e =
    before_history_of (y ∷ ys) y d
    ∙ (λ i. ((same_itself y i || list_any (same y) ys) && (e i || list_any (same d) ys)) && (conflict y d && nat_lt (cond (same_itself y i) 0 (suc (place ys y))) (cond (e i) 0 (suc (place ys d)))))
    ∙ iff_true _ (list_any (same d) ys && conflict y d)
    (λ t. both (fst_of (list_any (same d) ys) _ t) (fst_of (conflict y d) _ (snd_of (list_any (same d) ys) _ t)))
    (λ t. both (fst_of (list_any (same d) ys) _ t) (both (snd_of (list_any (same d) ys) _ t) (lt-ltb 0 (suc (place ys d)) (omega arith))))

pub none_first : (y : Command) (ys : List Command) (c : Command) → before (history_of (y ∷ ys)) c y ≡ false
none_first y ys c = not_true (before (history_of (y ∷ ys)) c y) (λ t.
    let s = sym (before_history_of (y ∷ ys) c y) ∙ t in
    let r = snd_of (conflict c y) _ (snd_of ((same c y || list_any (same c) ys) && (same y y || list_any (same y) ys)) _ s) in
    let lt = ltb-true (place (y ∷ ys) c) (place (y ∷ ys) y) r in
    let e : place (y ∷ ys) y ≡ 0 = ap (λ b. cond b 0 (suc (place ys y))) (same_itself y) in
    omega (arith, lt, e))

pub before_rest : (y : Command) (ys : List Command) (c d : Command) → same c y ≡ false → same d y ≡ false → before (history_of (y ∷ ys)) c d ≡ before (history_of ys) c d
before_rest y ys c d e f =
    before_history_of (y ∷ ys) c d
    ∙ (λ i. ((e i || list_any (same c) ys) && (f i || list_any (same d) ys)) && (conflict c d && nat_lt (cond (e i) 0 (suc (place ys c))) (cond (f i) 0 (suc (place ys d)))))
    ∙ ap (λ b. (list_any (same c) ys && list_any (same d) ys) && (conflict c d && b)) (lt_suc (place ys c) (place ys d))
    ∙ sym (before_history_of ys c d)
