-- Joins behind one history.
use Rattle.std.proofs.Common.{◌≡◌, true, false, not, ◌||◌, sym, ap, subst, ◌∙◌}
use Rattle.gp_command.specs.declared.command.Command.{Command}
use Rattle.gp_command.specs.Conflict.{conflict}
use Rattle.gp_command.proofs.ConflictLemmas.{conflict_symm}
use Rattle.gp_history.specs.History.{History, IsHistory, IsPrefix, has, before}
use Rattle.gp_history.specs.Sequence.{history_of}
use Rattle.gp_history.specs.Canonical.{canonical}
use Rattle.gp_history.specs.Bounds.{IsCompatible, join}
use Rattle.gp_history.proofs.Tests.{left_of, right_of, one_of, not_true, by_cases, never}
use Rattle.gp_history.proofs.Sets.{same_history, has_history_of}
use Rattle.gp_history.proofs.Push.{Within}
use Rattle.gp_history.proofs.Joins.{joins}
use Rattle.gp_history.proofs.Acyclic.{canonical_is}
use Rattle.gp_history.proofs.Lub.{bounded_compatible}
use Rattle.gp_history.proofs.Bound.{join_is_least, join_is_history, join_grows}
use Rattle.gp_command.proofs.Truth.{iff_true}

-- what a join with k behind it is, by what k is
pub record JoinOf (b k j : History) : Type 0 where
  pub within : Within j
  pub commands : (c : Command) → has j c ≡ (has b c || has k c)
  pub old : (c d : Command) → has b d ≡ true → before j c d ≡ before b c d
  pub mixed : (c d : Command) → has b c ≡ true → has b d ≡ false → has k d ≡ true → before j c d ≡ conflict c d
  pub fresh : (c d : Command) → has b c ≡ false → has b d ≡ false → before j c d ≡ before k c d

pub join_of : (b k : History) → IsHistory b → IsHistory k → JoinOf b k (join b k)
unfolding join
join_of b k wb wk =
    let is : history_of (canonical k) ≡ k = canonical_is k wk in
    let r = joins (canonical k) b wb.within in
    record {
      within = r.within;
      commands = λ c. r.commands c ∙ ap (λ x. has b c || x) (sym (has_history_of (canonical k) c) ∙ ap (λ u. has u c) is);
      old = r.old;
      mixed = λ c d p q m. r.mixed c d p q (sym (has_history_of (canonical k) d) ∙ ap (λ u. has u d) is ∙ m);
      fresh = λ c d p q. r.fresh c d p q ∙ ap (λ u. before u c d) is;
    }

module _ (b u v : History) (wb : IsHistory b) (wu : IsHistory u) (wv : IsHistory v) (p : IsPrefix u v) where
  first : JoinOf b u (join b u)
  first = join_of b u wb wu

  both_joined : JoinOf (join b u) v (join (join b u) v)
  both_joined = join_of (join b u) v (join_is_history b u wb wu) wv

  once : JoinOf b v (join b v)
  once = join_of b v wb wv

  -- a command of u comes before each of v alone with which it conflicts
  mixed_v : (c d : Command) → has u c ≡ true → has u d ≡ false → has v d ≡ true → before v c d ≡ conflict c d
  mixed_v c d i j k = iff_true (before v c d) (conflict c d) (λ r. (wv.within c d r).2) (λ r.
      by_cases (before v c d) (λ e. e) (λ e.
      let back : before v d c ≡ true = wv.one_way d c k (p.commands c i) (conflict_symm d c ∙ r) ∙ ap not e in
      never (has u d) (p.closed d c i back) j))

  same_commands : (c : Command) → has (join (join b u) v) c ≡ has (join b v) c
  same_commands c = both_joined.commands c ∙ ap (λ x. x || has v c) (first.commands c) ∙ by_cases (has b c)
      (λ e. ap (λ x. (x || has u c) || has v c) e ∙ sym (ap (λ x. x || has v c) e))
      (λ e. ap (λ x. (x || has u c) || has v c) e ∙ iff_true (has u c || has v c) (has v c) (λ t. one_of (has u c) (has v c) t (p.commands c) (λ m. m)) (right_of (has u c) (has v c)) ∙ sym (ap (λ x. x || has v c) e))
      ∙ sym (once.commands c)

  in_first : (c : Command) → has b c ≡ true → has (join b u) c ≡ true
  in_first c e = first.commands c ∙ left_of (has b c) (has u c) e

  neither : (c : Command) → has b c ≡ false → has u c ≡ false → has (join b u) c ≡ false
  neither c e f = first.commands c ∙ (λ i. e i || f i)

  -- d is a command of u alone
  of_u : (c d : Command) → has b d ≡ false → has u d ≡ true → before (join (join b u) v) c d ≡ before (join b v) c d
  of_u c d n m =
      both_joined.old c d (first.commands d ∙ right_of (has b d) (has u d) m)
      ∙ by_cases (has b c)
      (λ e. first.mixed c d e n m ∙ sym (once.mixed c d e n (p.commands d m)))
      (λ e. first.fresh c d e n
      ∙ by_cases (has u c) (λ f. p.pairs c d f m) (λ f. not_true (before u c d) (λ r. never (has u c) (wu.within c d r).0 f) ∙ sym (not_true (before v c d) (λ r. never (has u c) (p.closed c d m r) f)))
      ∙ sym (once.fresh c d e n))

  -- d is a command of v alone
  of_v : (c d : Command) → has b d ≡ false → has u d ≡ false → has v d ≡ true → before (join (join b u) v) c d ≡ before (join b v) c d
  of_v c d n m k = by_cases (has b c)
      (λ e. both_joined.mixed c d (in_first c e) (neither d n m) k ∙ sym (once.mixed c d e n k))
      (λ e. by_cases (has u c)
      (λ f. both_joined.mixed c d (first.commands c ∙ right_of (has b c) (has u c) f) (neither d n m) k ∙ sym (mixed_v c d f m k) ∙ sym (once.fresh c d e n))
      (λ f. both_joined.fresh c d (neither c e f) (neither d n m) ∙ sym (once.fresh c d e n)))

  -- d is no command of either
  of_none : (c d : Command) → has b d ≡ false → has v d ≡ false → before (join (join b u) v) c d ≡ before (join b v) c d
  of_none c d n k =
      let gone : has (join b v) d ≡ false = once.commands d ∙ (λ i. n i || k i) in
      not_true (before (join (join b u) v) c d) (λ r. never (has (join b v) d) (sym (same_commands d) ∙ (both_joined.within c d r).1) gone)
      ∙ sym (not_true (before (join b v) c d) (λ r. never (has (join b v) d) (once.within c d r).1 gone))

  -- what was joined before a greater history adds nothing
  pub join_again : join (join b u) v ≡ join b v
  join_again = same_history (join (join b u) v) (join b v) same_commands (λ c d.
      by_cases (has b d)
      (λ e. both_joined.old c d (in_first d e) ∙ first.old c d e ∙ sym (once.old c d e))
      (λ e. by_cases (has u d) (of_u c d e) (λ f. by_cases (has v d) (of_v c d e f) (of_none c d e))))

  pub join_prefix : IsPrefix (join b u) (join b v)
  join_prefix = subst (λ (k : History). IsPrefix (join b u) k) join_again (join_grows (join b u) v (join_is_history b u wb wu))

pub join_compatible : (b u v : History) → IsHistory b → IsHistory u → IsHistory v → IsCompatible u v → IsCompatible (join b u) (join b v)
join_compatible b u v wb wu wv a =
    let l = join_is_least u v wu wv a in
    let ww = join_is_history u v wu wv in
    bounded_compatible (join b u) (join b v) (join b (join u v)) (join_is_history b u wb wu) (join_is_history b v wb wv) (join_is_history b (join u v) wb ww)
    (join_prefix b u (join u v) wb wu ww l.left) (join_prefix b v (join u v) wb wv ww l.right)
