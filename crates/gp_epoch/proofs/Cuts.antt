-- Cuts.
use Rattle.std.proofs.Common.{◌≡◌, Bool, true, false, not, ◌&&◌, ◌||◌, [], ◌∷◌, Option, Some, None, refl, sym, ap, subst, ◌∙◌}
use Rattle.std.specs.FinSet as set
use Rattle.gp_command.specs.declared.command.Command.{Command}
use Rattle.gp_command.specs.Conflict.{same}
use Rattle.gp_command.proofs.Ties.{tied_command}
use Rattle.gp_command.proofs.ConflictLemmas.{same-true, conflict_symm}
use Rattle.gp_history.specs.History.{History, IsHistory, IsPrefix, has, before}
use Rattle.gp_history.specs.Bounds.{IsCompatible, join}
use Rattle.gp_history.proofs.Tests.{both, fst_of, snd_of, left_of, right_of, one_of, not_true, by_cases, never, different}
use Rattle.gp_history.proofs.Sets.{same_history, has-ordered_by, before-ordered_by}
use Rattle.gp_history.proofs.Bound.{join_is_least, join_is_history, part_is_history}
use Rattle.gp_command.proofs.Truth.{iff_true}
use Rattle.gp_epoch.specs.Cut.{first_checkpoint, IsFirstCheckpoint, HasCheckpoint, HasNoCheckpoint, cut_at, cut_by, cut}
use Rattle.gp_epoch.proofs.Checkpoints.{checkpoint_conflicts, found_is_first, first_is_found}

abbrev is_kept : History → Command → Command → Bool
is_kept h z c = same c z || before h c z

pub has-cut_at : (h : History) (z c : Command) → has (cut_at h z) c ≡ (has h c && is_kept h z c)
unfolding cut_at has
has-cut_at h z c =
    has-ordered_by (set.retain h.commands (is_kept h z)) (before h) c
    ∙ set.contains-retain h.commands (is_kept h z) c (λ x e. ap (is_kept h z) (sym (tied_command c x e)))

pub before-cut_at : (h : History) (z c d : Command) → before (cut_at h z) c d ≡ ((has (cut_at h z) c && has (cut_at h z) d) && before h c d)
unfolding cut_at
before-cut_at h z c d =
    before-ordered_by (set.retain h.commands (is_kept h z)) (before h) c d
    ∙ (λ i. (sym (has-ordered_by (set.retain h.commands (is_kept h z)) (before h) c) i && sym (has-ordered_by (set.retain h.commands (is_kept h z)) (before h) d) i) && before h c d)

module _ (h : History) (w : IsHistory h) (z : Command) (f : IsFirstCheckpoint h z) where
  -- what precedes a command that is kept is kept
  kept_closed : (c d : Command) → is_kept h z d ≡ true → before h c d ≡ true → is_kept h z c ≡ true
  kept_closed c d k r = by_cases (same c z) (λ e. left_of (same c z) _ e) (λ n.
      right_of (same c z) _ (one_of (same d z) (before h d z) k
      (λ e. ap (before h c) (sym (same-true d z e)) ∙ r)
      (λ b. by_cases (before h c z) (λ e. e) (λ no.
      let conflicting = checkpoint_conflicts c z f.marked n in
      let back : before h z c ≡ true = w.one_way z c f.there (w.within c d r).0 (conflict_symm z c ∙ conflicting) ∙ ap not no in
      never _ (both back (both r b)) (w.acyclic z (c ∷ d ∷ []))))))

  pub cut_at_prefix : IsPrefix (cut_at h z) h
  cut_at_prefix = record {
    commands = λ c p. fst_of (has h c) _ (sym (has-cut_at h z c) ∙ p);
    pairs = λ c d p q. before-cut_at h z c d ∙ (λ i. (p i && q i) && before h c d);
    closed = λ c d q r. has-cut_at h z c ∙ both (w.within c d r).0 (kept_closed c d (snd_of (has h d) _ (sym (has-cut_at h z d) ∙ q)) r);
  }

  pub cut_at_history : IsHistory (cut_at h z)
  cut_at_history = part_is_history (cut_at h z) h w cut_at_prefix (λ c d r.
      let t = sym (before-cut_at h z c d) ∙ r in
      let i = fst_of (has (cut_at h z) c && has (cut_at h z) d) _ t in
      (fst_of (has (cut_at h z) c) _ i, snd_of (has (cut_at h z) c) _ i, (w.within c d (snd_of (has (cut_at h z) c && has (cut_at h z) d) (before h c d) t)).2))

pub cut_is : (h : History) (o : Option Command) → first_checkpoint h ≡ o → cut h ≡ cut_by h o
unfolding cut
cut_is h o e = ap (cut_by h) e

pub cut_history : (h : History) → IsHistory h → IsHistory (cut h)
cut_history h w = by_option (first_checkpoint h) refl where
  by_option : (o : Option Command) → first_checkpoint h ≡ o → IsHistory (cut h)
  by_option None e = subst IsHistory (sym (cut_is h None e)) w
  by_option (Some z) e = subst IsHistory (sym (cut_is h (Some z) e)) (cut_at_history h w z (found_is_first h w z e))

pub cut_prefix : (h : History) → IsHistory h → IsPrefix (cut h) h
cut_prefix h w = by_option (first_checkpoint h) refl where
  by_option : (o : Option Command) → first_checkpoint h ≡ o → IsPrefix (cut h) h
  by_option None e = subst (λ (k : History). IsPrefix k h) (sym (cut_is h None e)) (record { commands = λ c p. p; pairs = λ c d p q. refl; closed = λ c d q r. (w.within c d r).0 })
  by_option (Some z) e = subst (λ (k : History). IsPrefix k h) (sym (cut_is h (Some z) e)) (cut_at_prefix h w z (found_is_first h w z e))

pub has-cut : (h : History) (z c : Command) → IsHistory h → first_checkpoint h ≡ Some z → has (cut h) c ≡ (has h c && (same c z || before h c z))
has-cut h z c w e = ap (λ k. has k c) (cut_is h (Some z) e) ∙ has-cut_at h z c

-- ---- a prefix with a checkpoint has the cut of the whole

module _ (h u : History) (wh : IsHistory h) (wu : IsHistory u) (p : IsPrefix h u) where
  first_above : (z : Command) → IsFirstCheckpoint h z → IsFirstCheckpoint u z
  first_above z f = record {
    there = p.commands z f.there;
    marked = f.marked;
    first = λ c i m n. by_cases (has h c)
        (λ j. sym (p.pairs z c f.there j) ∙ f.first c j m n)
        (λ j. by_cases (before u z c) (λ e. e) (λ e.
        let conflicting = checkpoint_conflicts z c m (different c z n) in
        let back : before u c z ≡ true = wu.one_way c z i (p.commands z f.there) (conflict_symm c z ∙ conflicting) ∙ ap not e in
        never (has h c) (p.closed c z f.there back) j));
  }

  pub cut_above : HasCheckpoint h → cut h ≡ cut u
  cut_above t =
      let z = t.0 in
      let f = found_is_first h wh z t.1 in
      let e = first_is_found u wu z (first_above z f) in
      cut_is h (Some z) t.1 ∙ same_history (cut_at h z) (cut_at u z) alike (λ c d. before-cut_at h z c d ∙ pairs c d ∙ sym (before-cut_at u z c d)) ∙ sym (cut_is u (Some z) e)
    where
      z : Command
      z = t.0

      f : IsFirstCheckpoint h z
      f = found_is_first h wh z t.1

      alike : (c : Command) → has (cut_at h z) c ≡ has (cut_at u z) c
      alike c = has-cut_at h z c ∙ iff_true _ _
          (λ t. let i = fst_of (has h c) _ t in both (p.commands c i) (one_of (same c z) (before h c z) (snd_of (has h c) _ t) (λ e. left_of (same c z) _ e) (λ b. right_of (same c z) _ (sym (p.pairs c z i f.there) ∙ b))))
          (λ t. one_of (same c z) (before u c z) (snd_of (has u c) _ t)
          (λ e. both (ap (has h) (same-true c z e) ∙ f.there) (left_of (same c z) _ e))
          (λ b. let i = p.closed c z f.there b in both i (right_of (same c z) _ (p.pairs c z i f.there ∙ b))))
          ∙ sym (has-cut_at u z c)

      in_h : (c : Command) → has (cut_at u z) c ≡ true → has h c ≡ true
      in_h c q = fst_of (has h c) _ (sym (has-cut_at h z c) ∙ alike c ∙ q)

      pairs : (c d : Command) → ((has (cut_at h z) c && has (cut_at h z) d) && before h c d) ≡ ((has (cut_at u z) c && has (cut_at u z) d) && before u c d)
      pairs c d = (λ i. (alike c i && alike d i) && before h c d) ∙ iff_true _ _
          (λ t. let i = fst_of (has (cut_at u z) c && has (cut_at u z) d) _ t in both i (sym (p.pairs c d (in_h c (fst_of (has (cut_at u z) c) _ i)) (in_h d (snd_of (has (cut_at u z) c) _ i))) ∙ snd_of (has (cut_at u z) c && has (cut_at u z) d) _ t))
          (λ t. let i = fst_of (has (cut_at u z) c && has (cut_at u z) d) _ t in both i (p.pairs c d (in_h c (fst_of (has (cut_at u z) c) _ i)) (in_h d (snd_of (has (cut_at u z) c) _ i)) ∙ snd_of (has (cut_at u z) c && has (cut_at u z) d) _ t))

  -- a prefix with no checkpoint is below the cut
  pub below_cut : HasNoCheckpoint h → HasCheckpoint u → IsPrefix h (cut u)
  below_cut none t =
      let z = t.0 in
      let f = found_is_first u wu z t.1 in
      subst (λ (k : History). IsPrefix h k) (sym (cut_is u (Some z) t.1)) (record {
        commands = inside z f;
        pairs = λ c d i j. p.pairs c d i j ∙ sym (before-cut_at u z c d ∙ (λ k. (inside z f c i k && inside z f d j k) && before u c d));
        closed = λ c d j r. p.closed c d j (snd_of (has (cut_at u z) c && has (cut_at u z) d) _ (sym (before-cut_at u z c d) ∙ r));
      })
    where
      inside : (z : Command) → IsFirstCheckpoint u z → (c : Command) → has h c ≡ true → has (cut_at u z) c ≡ true
      inside z f c i =
          let n : same c z ≡ false = not_true (same c z) (λ e. never z.draft.checkpoint f.marked (sym (ap (λ (x : Command). x.draft.checkpoint) (same-true c z e)) ∙ none c i)) in
          has-cut_at u z c ∙ both (p.commands c i) (right_of (same c z) _ (by_cases (before u c z) (λ e. e) (λ e.
          let conflicting = checkpoint_conflicts c z f.marked n in
          let back : before u z c ≡ true = wu.one_way z c f.there (p.commands c i) (conflict_symm z c ∙ conflicting) ∙ ap not e in
          never z.draft.checkpoint f.marked (none z (p.closed z c i back)))))

-- ---- compatible histories

pub equal_cuts : (h k : History) → IsHistory h → IsHistory k → IsCompatible h k → HasCheckpoint h → HasCheckpoint k → cut h ≡ cut k
equal_cuts h k wh wk a x y =
    let l = join_is_least h k wh wk a in
    let wj = join_is_history h k wh wk in
    cut_above h (join h k) wh wj l.left x ∙ sym (cut_above k (join h k) wk wj l.right y)

pub below_other_cut : (h k : History) → IsHistory h → IsHistory k → IsCompatible h k → HasNoCheckpoint h → HasCheckpoint k → IsPrefix h (cut k)
below_other_cut h k wh wk a none t =
    let l = join_is_least h k wh wk a in
    let wj = join_is_history h k wh wk in
    let e = cut_above k (join h k) wk wj l.right t in
    subst (λ (u : History). IsPrefix h u) (sym e) (below_cut h (join h k) wh wj l.left none (t.0, first_is_found (join h k) wj t.0 (first_above k (join h k) wk wj l.right t.0 (found_is_first k wk t.0 t.1))))
