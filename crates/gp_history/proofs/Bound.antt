-- The bounds of all histories.
use Rattle.std.proofs.Common.{◌≡◌, true, not, ◌&&◌, ◌||◌, List, [], ◌∷◌, ◌++◌, sym, ap, subst, ◌∙◌}
use Rattle.gp_command.specs.declared.command.Command.{Command}
use Rattle.gp_command.proofs.Truth.{iff_true}
use Rattle.gp_history.specs.History.{History, IsHistory, IsPrefix, has, before, leads, empty, push, pushes}
use Rattle.gp_history.specs.Sequence.{history_of}
use Rattle.gp_history.specs.Canonical.{canonical}
use Rattle.gp_history.specs.Bounds.{IsCompatible, IsLeastUpperBound, IsGreatestLowerBound, join, meet}
use Rattle.gp_history.proofs.Tests.{both, fst_of, snd_of, left_of, not_true, never}
use Rattle.gp_history.proofs.Sets.{same_history, has_history_of}
use Rattle.gp_history.proofs.Prefix.{prefix_refl, prefix_trans, prefix_antisymm}
use Rattle.gp_history.proofs.Push.{Within, Joins, prefix_push}
use Rattle.gp_history.proofs.Joins.{joins, history_of_is, history_of-append, history_of-push, history_of-empty}
use Rattle.gp_history.proofs.Lub.{bounded_compatible, join_least_upper_bound, three_compatible}
use Rattle.gp_history.proofs.Meet.{meet_left, meet_right, meet_greatest, before-meet}
use Rattle.gp_history.proofs.Acyclic.{canonical_is}

-- the join of two compatible histories is their least upper bound
pub join_is_least : (h k : History) → IsHistory h → IsHistory k → IsCompatible h k → IsLeastUpperBound h k (join h k)
unfolding join
join_is_least h k wh wk a =
    let is : history_of (canonical k) ≡ k = canonical_is k wk in
    subst (λ u. IsLeastUpperBound h u (pushes h (canonical k))) is (join_least_upper_bound h wh (canonical k) (subst (IsCompatible h) (sym is) a))

-- the join is a history
pub join_is_history : (h k : History) → IsHistory h → IsHistory k → IsHistory (join h k)
unfolding join
join_is_history h k wh wk =
    let is : history_of (canonical h) ≡ h = canonical_is h wh in
    subst IsHistory (history_of-append (canonical h) (canonical k) ∙ ap (λ u. pushes u (canonical k)) is) (history_of_is _)

pub has-join : (h k : History) → IsHistory h → IsHistory k → (c : Command) → has (join h k) c ≡ (has h c || has k c)
unfolding join
has-join h k wh wk c =
    let r : Joins h (canonical k) (pushes h (canonical k)) = joins (canonical k) h wh.within in
    r.commands c ∙ ap (λ b. has h c || b) (sym (has_history_of (canonical k) c) ∙ ap (λ u. has u c) (canonical_is k wk))

-- what is compatible with two compatible ones is compatible with their join
pub compatible_join : (u v w : History) → IsHistory u → IsHistory v → IsHistory w → IsCompatible u v → IsCompatible u w → IsCompatible v w → IsCompatible u (join v w)
compatible_join u v w hu hv hw a b c =
    let l = join_is_least v w hv hw c in
    three_compatible u v w (join v w) (join_is_history v w hv hw) a b l.left l.right (λ x p. sym (has-join v w hv hw x) ∙ p)

pub meet_is_greatest : (h k : History) → IsHistory h → IsHistory k → IsGreatestLowerBound h k (meet h k)
meet_is_greatest h k wh wk = record { left = meet_left h k wh.within wk.within; right = meet_right h k wh.within wk.within; greatest = meet_greatest h k wh.within wk.within }

-- a part of a history with its pairs is a history
pub part_is_history : (m h : History) → IsHistory h → IsPrefix m h → Within m → IsHistory m
part_is_history m h w a within = record {
  within = within;
  one_way = λ c d p q r. a.pairs c d p q ∙ w.one_way c d (a.commands c p) (a.commands d q) r ∙ ap not (sym (a.pairs d c q p));
  acyclic = λ c path. not_true (leads m c path c) (λ r. never (leads h c path c) (along c path c r) (w.acyclic c path));
} where
  step : (c d : Command) → before m c d ≡ true → before h c d ≡ true
  step c d r = let k = within c d r in sym (a.pairs c d k.0 k.1) ∙ r

  along : (c : Command) (path : List Command) (d : Command) → leads m c path d ≡ true → leads h c path d ≡ true
  along c [] d r = step c d r
  along c (x ∷ path) d r = both (step c x (fst_of (before m c x) _ r)) (along x path d (snd_of (before m c x) _ r))

-- the meet is a history
pub meet_is_history : (h k : History) → IsHistory h → IsHistory k → IsHistory (meet h k)
meet_is_history h k wh wk = part_is_history (meet h k) h wh (meet_left h k wh.within wk.within) (λ c d r.
    let t = sym (before-meet h k wh.within wk.within c d) ∙ r in
    let i = fst_of (has (meet h k) c && has (meet h k) d) _ t in
    let w = wh.within c d (snd_of (has (meet h k) c && has (meet h k) d) (before h c d) t) in
    (fst_of (has (meet h k) c) _ i, snd_of (has (meet h k) c) (has (meet h k) d) i, w.2))

pub empty_is_history : IsHistory empty
empty_is_history = subst IsHistory history_of-empty (history_of_is [])

pub push_is_history : (h : History) (c : Command) → IsHistory h → IsHistory (push h c)
push_is_history h c w = subst IsHistory (history_of-push (canonical h) c ∙ ap (λ u. push u c) (canonical_is h w)) (history_of_is (canonical h ++ c ∷ []))

-- the join has what the first has, for every pair
pub join_grows : (h k : History) → IsHistory h → IsPrefix h (join h k)
unfolding join
join_grows h k wh =
    let r : Joins h (canonical k) (pushes h (canonical k)) = joins (canonical k) h wh.within in
    record {
      commands = λ c p. r.commands c ∙ left_of (has h c) _ p;
      pairs = λ c d p q. sym (r.old c d q);
      closed = λ c d q b. (wh.within c d (sym (r.old c d q) ∙ b)).0;
    }

pub join_bounded : (h k z : History) → IsHistory h → IsHistory k → IsHistory z → IsPrefix h z → IsPrefix k z → IsPrefix (join h k) z
join_bounded h k z wh wk wz p q = (join_is_least h k wh wk (bounded_compatible h k z wh wk wz p q)).least z p q

-- compatible histories with the same commands are equal
pub alike_same : (h k : History) → IsHistory h → IsHistory k → IsCompatible h k → ((c : Command) → has h c ≡ has k c) → h ≡ k
alike_same h k wh wk a e =
    same_history h k e (λ c d. iff_true (before h c d) (before k c d)
    (λ r. let w = wh.within c d r in sym (a.alike c d w.0 (sym (e c) ∙ w.0) w.1 (sym (e d) ∙ w.1)) ∙ r)
    (λ r. let w = wk.within c d r in a.alike c d (e c ∙ w.0) w.0 (e d ∙ w.1) w.1 ∙ r))

-- ---- a prefix is what pushes extend

pub pushed_extends : (h : History) (cs : List Command) → IsHistory h → IsPrefix h (pushes h cs)
pushed_extends h [] w = prefix_refl h w
pushed_extends h (c ∷ cs) w = prefix_trans h (push h c) (pushes (push h c) cs) (prefix_push h w c) (pushed_extends (push h c) cs (push_is_history h c w))

pub extended_by : (h k : History) → IsHistory h → IsHistory k → IsPrefix h k → pushes h (canonical k) ≡ k
unfolding join
extended_by h k wh wk p =
    let whole = prefix_refl k wk in
    let least = join_is_least h k wh wk (bounded_compatible h k k wh wk wk p whole) in
    prefix_antisymm (join h k) k (join_is_history h k wh wk) wk (least.least k p whole) least.right
