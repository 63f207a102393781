-- Compatible histories, their join, and the law of three.
use Rattle.std.proofs.Common.{◌≡◌, true, false, not, ◌||◌, List, sym, ap, ◌∙◌}
use Rattle.std.specs.List.{list_any}
use Rattle.gp_command.specs.declared.command.Command.{Command}
use Rattle.gp_command.specs.Conflict.{same, conflict}
use Rattle.gp_command.proofs.ConflictLemmas.{conflict_symm}
use Rattle.gp_command.proofs.Truth.{iff_true}
use Rattle.gp_history.specs.History.{History, IsHistory, IsPrefix, has, before, pushes}
use Rattle.gp_history.specs.Sequence.{history_of}
use Rattle.gp_history.specs.Bounds.{IsCompatible, IsLeastUpperBound}
use Rattle.gp_history.proofs.Tests.{In, left_of, right_of, one_of, not_true, by_cases, never}
use Rattle.gp_history.proofs.Sets.{has_history_of}
use Rattle.gp_history.proofs.Push.{Joins}
use Rattle.gp_history.proofs.Joins.{joins, history_of_is}

-- what two prefixes of one history have in common is ordered alike
pub bounded_compatible : (h k u : History) → IsHistory h → IsHistory k → IsHistory u → IsPrefix h u → IsPrefix k u → IsCompatible h k
bounded_compatible h k u wh wk wu a b = record {
  closed_left = λ c d p r. let w = wh.within c d r in b.closed c d p (sym (a.pairs c d w.0 w.1) ∙ r);
  closed_right = λ c d p r. let w = wk.within c d r in a.closed c d p (sym (b.pairs c d w.0 w.1) ∙ r);
  alike = λ c d p q s t. a.pairs c d p s ∙ sym (b.pairs c d q t);
  apart = λ c d p q s t. not_true (conflict c d) (λ r.
      by_cases (before u c d)
      (λ e. never (has k c) (b.closed c d s e) q)
      (λ e. let back : before u d c ≡ true = wu.one_way d c (b.commands d s) (a.commands c p) (conflict_symm d c ∙ r) ∙ ap not e in
      never (has h d) (a.closed d c p back) t));
}

pub compatible_symm : (h k : History) → IsCompatible h k → IsCompatible k h
compatible_symm h k a = record {
  closed_left = a.closed_right;
  closed_right = a.closed_left;
  alike = λ c d p q s t. sym (a.alike c d q p t s);
  apart = λ c d p q s t. conflict_symm c d ∙ a.apart d c s t p q;
}

-- a history with what a compatible one has more behind it is the least upper bound
module _ (h : History) (wh : IsHistory h) (ys : List Command) (a : IsCompatible h (history_of ys)) where
  abbrev pub k : History
  k = history_of ys

  j : Joins h ys (pushes h ys)
  j = joins ys h wh.within

  in_join : (x : Command) → has (pushes h ys) x ≡ true → (P : Type 0) → (has h x ≡ true → P) → (has h x ≡ false → In ys x → P) → P
  in_join x p P f g = by_cases (has h x) f (λ e. g e (one_of (has h x) (list_any (same x) ys) (sym (j.commands x) ∙ p) (λ t. never (has h x) t e) (λ m. m)))

  left_in : (x : Command) → has h x ≡ true → has (pushes h ys) x ≡ true
  left_in x p = j.commands x ∙ left_of (has h x) (list_any (same x) ys) p

  right_in : (x : Command) → In ys x → has (pushes h ys) x ≡ true
  right_in x p = j.commands x ∙ right_of (has h x) (list_any (same x) ys) p

  pub join_left : IsPrefix h (pushes h ys)
  join_left = record {
    commands = left_in;
    pairs = λ c d p q. sym (j.old c d q);
    closed = λ c d q r. (wh.within c d (sym (j.old c d q) ∙ r)).0;
  }

  wk : IsHistory k
  wk = history_of_is ys

  listed : (x : Command) → has k x ≡ true → In ys x
  listed x p = sym (has_history_of ys x) ∙ p

  in_k : (x : Command) → In ys x → has k x ≡ true
  in_k x p = has_history_of ys x ∙ p

  -- a common command stands in `k` before each that it conflicts with and that `k` has alone
  mixed_k : (c d : Command) → has h c ≡ true → has k c ≡ true → has k d ≡ true → has h d ≡ false → before k c d ≡ conflict c d
  mixed_k c d p q s t = iff_true (before k c d) (conflict c d) (λ r. (wk.within c d r).2) (λ r.
      by_cases (before k c d) (λ e. e) (λ e.
      let back : before k d c ≡ true = wk.one_way d c s q (conflict_symm d c ∙ r) ∙ ap not e in
      never (has h d) (a.closed_right d c p back) t))

  pub join_right : IsPrefix k (pushes h ys)
  join_right = record {
    commands = λ x p. right_in x (listed x p);
    pairs = λ c d p q. by_cases (has h d)
        (λ e. by_cases (has h c)
        (λ f. sym (a.alike c d f p e q) ∙ sym (j.old c d e))
        (λ f. not_true (before k c d) (λ r. never (has h c) (a.closed_right c d e r) f)
        ∙ sym (j.old c d e ∙ not_true (before h c d) (λ r. never (has h c) (wh.within c d r).0 f))))
        (λ e. by_cases (has h c)
        (λ f. mixed_k c d f p q e ∙ sym (j.mixed c d f e (listed d q)))
        (λ f. sym (j.fresh c d f e)));
    closed = λ c d q r. by_cases (has h d)
        (λ e. a.closed_left c d q (sym (j.old c d e) ∙ r))
        (λ e. by_cases (has h c)
        (λ f. by_cases (has k c) (λ g. g) (λ g. never (conflict c d) (sym (j.mixed c d f e (listed d q)) ∙ r) (a.apart c d f g q e)))
        (λ f. in_join c (j.within c d r).0 (has k c ≡ true) (λ t. never (has h c) t f) (λ _ m. in_k c m)));
  }

  pub join_least : (w : History) → IsPrefix h w → IsPrefix k w → IsPrefix (pushes h ys) w
  join_least w x y = record {
    commands = λ c p. in_join c p (has w c ≡ true) (x.commands c) (λ _ m. y.commands c (in_k c m));
    pairs = λ c d p q. in_join d q (before (pushes h ys) c d ≡ before w c d)
        (λ e. j.old c d e ∙ by_cases (has h c)
        (λ f. x.pairs c d f e)
        (λ f. not_true (before h c d) (λ r. never (has h c) (wh.within c d r).0 f) ∙ sym (not_true (before w c d) (λ r. never (has h c) (x.closed c d e r) f))))
        (λ e m. in_join c p (before (pushes h ys) c d ≡ before w c d)
        (λ f. j.mixed c d f e m ∙ by_cases (has k c)
        (λ g. sym (mixed_k c d f g (in_k d m) e) ∙ y.pairs c d g (in_k d m))
        (λ g. a.apart c d f g (in_k d m) e ∙ sym (not_true (before w c d) (λ r. never (has k c) (y.closed c d (in_k d m) r) g))))
        (λ f n. j.fresh c d f e ∙ y.pairs c d (in_k c n) (in_k d m)));
    closed = λ c d q r. in_join d q (has (pushes h ys) c ≡ true)
        (λ e. left_in c (x.closed c d e r))
        (λ e m. right_in c (listed c (y.closed c d (in_k d m) r)));
  }

  pub join_least_upper_bound : IsLeastUpperBound h k (pushes h ys)
  join_least_upper_bound = record { left = join_left; right = join_right; least = join_least }

-- what is compatible with both is compatible with any history that is above both and has no more
pub three_compatible : (u v w j : History) → IsHistory j → IsCompatible u v → IsCompatible u w → IsPrefix v j → IsPrefix w j → ((c : Command) → has j c ≡ true → (has v c || has w c) ≡ true) → IsCompatible u j
three_compatible u v w j wj a b x y all = record {
  closed_left = λ c d p r. one_of (has v d) (has w d) (all d p) (λ e. x.commands c (a.closed_left c d e r)) (λ e. y.commands c (b.closed_left c d e r));
  closed_right = λ c d p r. one_of (has v d) (has w d) (all d (wj.within c d r).1)
      (λ e. let c_in = x.closed c d e r in a.closed_right c d p (x.pairs c d c_in e ∙ r))
      (λ e. let c_in = y.closed c d e r in b.closed_right c d p (y.pairs c d c_in e ∙ r));
  alike = λ c d p q s t. one_of (has v d) (has w d) (all d t)
      (λ e. iff_true (before u c d) (before j c d)
      (λ r. let c_in = a.closed_left c d e r in sym (x.pairs c d c_in e) ∙ sym (a.alike c d p c_in s e) ∙ r)
      (λ r. let c_in = x.closed c d e r in a.alike c d p c_in s e ∙ x.pairs c d c_in e ∙ r))
      (λ e. iff_true (before u c d) (before j c d)
      (λ r. let c_in = b.closed_left c d e r in sym (y.pairs c d c_in e) ∙ sym (b.alike c d p c_in s e) ∙ r)
      (λ r. let c_in = y.closed c d e r in b.alike c d p c_in s e ∙ y.pairs c d c_in e ∙ r));
  apart = λ c d p q s t. one_of (has v d) (has w d) (all d s)
      (λ e. a.apart c d p (not_true (has v c) (λ r. never (has j c) (x.commands c r) q)) e t)
      (λ e. b.apart c d p (not_true (has w c) (λ r. never (has j c) (y.commands c r) q)) e t);
}
