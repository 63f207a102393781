-- Prefixes of sequences whose starts are equal as histories: the starts may be left out.
use Rattle.std.proofs.Common.{◌≡◌, ℕ, take, drop, Bool, true, false, not, ◌&&◌, ◌||◌, List, [], ◌∷◌, ◌++◌, refl, sym, ap, subst, ◌∙◌}
use Rattle.std.specs.List.{list_any}
use Rattle.std.proofs.lemmas.Bool.{true≢false}
use Rattle.std.proofs.lemmas.List.{take-append-drop}
use Rattle.gp_command.specs.declared.command.Command.{Command}
use Rattle.gp_command.specs.Conflict.{same}
use Rattle.gp_command.proofs.ConflictLemmas.{same-true}
use Rattle.gp_history.specs.History.{History, IsPrefix, has, before}
use Rattle.gp_history.specs.Sequence.{history_of, no_repeat}
use Rattle.gp_history.proofs.Tests.{In, fst_of, snd_of, left_of, right_of, one_of, not_true, by_cases, never, any-append, turned_false}
use Rattle.gp_history.proofs.Sets.{has_history_of}
use Rattle.gp_history.proofs.Push.{Joins}
use Rattle.gp_history.proofs.Joins.{history_within, joins, history_of-append}

pub apart : (u v : List Command) → no_repeat (u ++ v) ≡ true → (c : Command) → In u c → In v c → ⊥
apart [] v n c i j = true≢false (sym i)
apart (x ∷ u) v n c i j = one_of (same c x) (list_any (same c) u) i
    (λ s.
    let is : c ≡ x = same-true c x s in
    let fresh = turned_false (list_any (same x) (u ++ v)) (fst_of (not (list_any (same x) (u ++ v))) (no_repeat (u ++ v)) n) in
    true≢false (sym (any-append (same x) u v ∙ right_of (list_any (same x) u) (list_any (same x) v) (ap (λ d. list_any (same d) v) (sym is) ∙ j)) ∙ fresh))
    (λ m. apart u v (snd_of (not (list_any (same x) (u ++ v))) (no_repeat (u ++ v)) n) c m j)

pub no_repeat_rest : (u v : List Command) → no_repeat (u ++ v) ≡ true → no_repeat v ≡ true
no_repeat_rest [] v n = n
no_repeat_rest (x ∷ u) v n = no_repeat_rest u v (snd_of (not (list_any (same x) (u ++ v))) (no_repeat (u ++ v)) n)

pub first_part : (u v : List Command) → no_repeat (u ++ v) ≡ true → no_repeat u ≡ true
first_part [] v n = refl
first_part (x ∷ u) v n = both_of (list_any (same x) u) (list_any (same x) v) (list_any (same x) (u ++ v)) (no_repeat u) (no_repeat (u ++ v)) (first_part u v (snd_of (not (list_any (same x) (u ++ v))) (no_repeat (u ++ v)) n)) (any-append (same x) u v) n where
  both_of : (a b c r s : Bool) → r ≡ true → c ≡ (a || b) → (not c && s) ≡ true → (not a && r) ≡ true
  both_of true b c r s h e k = absurd (true≢false (sym (sym (ap (λ d. not d && s) e) ∙ k)))
  both_of false b c r s h e k = h

pub no_repeat_drop : (xs : List Command) (n : ℕ) → no_repeat xs ≡ true → no_repeat (drop n xs) ≡ true
no_repeat_drop xs n d = no_repeat_rest (take n xs) (drop n xs) (ap no_repeat (take-append-drop n xs) ∙ d)

pub no_repeat_take : (xs : List Command) (n : ℕ) → no_repeat xs ≡ true → no_repeat (take n xs) ≡ true
no_repeat_take xs n d = first_part (take n xs) (drop n xs) (ap no_repeat (take-append-drop n xs) ∙ d)

pub joined_parts : (u v : List Command) → Joins (history_of u) v (history_of (u ++ v))
joined_parts u v = subst (Joins (history_of u) v) (sym (history_of-append u v)) (joins v (history_of u) (history_within u))

pub lacks : (u v : List Command) → no_repeat (u ++ v) ≡ true → (c : Command) → In v c → has (history_of u) c ≡ false
lacks u v n c i = not_true (has (history_of u) c) (λ t. apart u v n c (sym (has_history_of u c) ∙ t) i)

module _ (u v w z : List Command) (alike : history_of u ≡ history_of w) (nx : no_repeat (u ++ v) ≡ true) (ny : no_repeat (w ++ z) ≡ true) where
  h : History
  h = history_of u

  left : Joins (history_of u) v (history_of (u ++ v))
  left = joined_parts u v

  right : Joins (history_of u) z (history_of (w ++ z))
  right = subst (λ k. Joins k z (history_of (w ++ z))) (sym alike) (joined_parts w z)

  lacks_left : (c : Command) → In v c → has (history_of u) c ≡ false
  lacks_left c i = lacks u v nx c i

  lacks_right : (c : Command) → In z c → has (history_of u) c ≡ false
  lacks_right c i = ap (λ k. has k c) alike ∙ lacks w z ny c i

  -- what is not in the start is in the rest
  in_rest : (ys : List Command) (k : History) → Joins (history_of u) ys k → (c : Command) → has k c ≡ true → has (history_of u) c ≡ false → In ys c
  in_rest ys k j c t f = one_of (has (history_of u) c) (list_any (same c) ys) (sym (j.commands c) ∙ t) (λ p. never (has (history_of u) c) p f) (λ m. m)

  from_rest : (ys : List Command) (k : History) → Joins (history_of u) ys k → (c : Command) → In ys c → has k c ≡ true
  from_rest ys k j c i = j.commands c ∙ right_of (has (history_of u) c) (list_any (same c) ys) i

  from_start : (ys : List Command) (k : History) → Joins (history_of u) ys k → (c : Command) → has (history_of u) c ≡ true → has k c ≡ true
  from_start ys k j c t = j.commands c ∙ left_of (has (history_of u) c) (list_any (same c) ys) t

  pub rests : IsPrefix (history_of (u ++ v)) (history_of (w ++ z)) → IsPrefix (history_of v) (history_of z)
  rests p = record {
    commands = λ c t. let i : In v c = sym (has_history_of v c) ∙ t in has_history_of z c ∙ in_rest z (history_of (w ++ z)) right c (p.commands c (from_rest v (history_of (u ++ v)) left c i)) (lacks_left c i);
    pairs = λ c d s t.
        let i : In v c = sym (has_history_of v c) ∙ s in
        let j : In v d = sym (has_history_of v d) ∙ t in
        sym (left.fresh c d (lacks_left c i) (lacks_left d j))
        ∙ p.pairs c d (from_rest v (history_of (u ++ v)) left c i) (from_rest v (history_of (u ++ v)) left d j)
        ∙ right.fresh c d (lacks_left c i) (lacks_left d j);
    closed = λ c d t r.
        let j : In v d = sym (has_history_of v d) ∙ t in
        let i : In z c = sym (has_history_of z c) ∙ (history_within z c d r).0 in
        let whole : before (history_of (w ++ z)) c d ≡ true = right.fresh c d (lacks_right c i) (lacks_left d j) ∙ r in
        has_history_of v c ∙ in_rest v (history_of (u ++ v)) left c (p.closed c d (from_rest v (history_of (u ++ v)) left d j) whole) (lacks_right c i);
  }

  pub wholes : IsPrefix (history_of v) (history_of z) → IsPrefix (history_of (u ++ v)) (history_of (w ++ z))
  wholes q = record {
    commands = λ c t. by_cases (has (history_of u) c) (from_start z (history_of (w ++ z)) right c) (λ f. from_rest z (history_of (w ++ z)) right c (over c (in_rest v (history_of (u ++ v)) left c t f)));
    pairs = λ c d s t. by_cases (has (history_of u) d)
        (λ m. left.old c d m ∙ sym (right.old c d m))
        (λ f. let j = in_rest v (history_of (u ++ v)) left d t f in by_cases (has (history_of u) c)
        (λ m. left.mixed c d m f j ∙ sym (right.mixed c d m f (over d j)))
        (λ g. let i = in_rest v (history_of (u ++ v)) left c s g in
        left.fresh c d g f ∙ q.pairs c d (has_history_of v c ∙ i) (has_history_of v d ∙ j) ∙ sym (right.fresh c d g f)));
    closed = λ c d t r. by_cases (has (history_of u) d)
        (λ m. from_start v (history_of (u ++ v)) left c (history_within u c d (sym (right.old c d m) ∙ r)).0)
        (λ f. by_cases (has (history_of u) c)
        (from_start v (history_of (u ++ v)) left c)
        (λ g. from_rest v (history_of (u ++ v)) left c (sym (has_history_of v c) ∙ q.closed c d (has_history_of v d ∙ in_rest v (history_of (u ++ v)) left d t f) (sym (right.fresh c d g f) ∙ r))));
  } where
    over : (c : Command) → In v c → In z c
    over c i = sym (has_history_of z c) ∙ q.commands c (has_history_of v c ∙ i)
