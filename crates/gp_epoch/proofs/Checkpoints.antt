-- The first checkpoint of a history.
use Rattle.std.proofs.Common.{◌≡◌, ◌<◌, suc, Bool, true, false, not, cond, List, [], ◌∷◌, Option, Some, None, refl, sym, ap, subst, ◌∙◌, arith}
use Rattle.std.specs.List.{list_any, find}
use Rattle.std.proofs.lemmas.Bool.{lt-ltb}
use Rattle.gp_command.specs.declared.command.Command.{Command}
use Rattle.gp_command.specs.Conflict.{same, conflict}
use Rattle.gp_command.proofs.ConflictLemmas.{same_itself, same-true}
use Rattle.gp_history.specs.History.{History, IsHistory, has, before}
use Rattle.gp_history.specs.Sequence.{history_of, place}
use Rattle.gp_history.specs.Canonical.{canonical}
use Rattle.gp_history.proofs.Tests.{In, both, left_of, right_of, one_of, not_true, by_cases, never, different}
use Rattle.gp_history.proofs.Sets.{has_history_of}
use Rattle.gp_history.proofs.Push.{before_history_of}
use Rattle.gp_history.proofs.Acyclic.{canonical_is}
use Rattle.gp_epoch.specs.Cut.{first_checkpoint, IsFirstCheckpoint, HasNoCheckpoint}

-- ---- the conflicts of checkpoints

-- a checkpoint conflicts with every other command
pub checkpoint_conflicts : (c z : Command) → z.draft.checkpoint ≡ true → same c z ≡ false → conflict c z ≡ true
unfolding conflict
checkpoint_conflicts c z m n = both (ap not n) (right_of c.draft.checkpoint _ (left_of z.draft.checkpoint _ m))

-- ---- the first that passes

abbrev pub is_checkpoint : Command → Bool
is_checkpoint c = c.draft.checkpoint

pub found_in : (xs : List Command) (z : Command) → find is_checkpoint xs ≡ Some z → In xs z × (z.draft.checkpoint ≡ true)
found_in [] z e = absurd (cc)
found_in (x ∷ xs) z e = by_cases (is_checkpoint x)
    (λ m. let is : Some x ≡ Some z = sym (ap (λ b. cond b (Some x) (find is_checkpoint xs)) m) ∙ e in
    let s : x ≡ z = cc in
    (left_of (same z x) _ (subst (λ (y : Command). same z y ≡ true) (sym s) (same_itself z)), sym (ap is_checkpoint s) ∙ m))
    (λ m. let r = found_in xs z (sym (ap (λ b. cond b (Some x) (find is_checkpoint xs)) m) ∙ e) in (right_of (same z x) _ r.0, r.1))

-- it stands before every other that passes
pub found_first : (xs : List Command) (z c : Command) → find is_checkpoint xs ≡ Some z → In xs c → c.draft.checkpoint ≡ true → same c z ≡ false → place xs z < place xs c
found_first [] z c e i m n = absurd (cc)
found_first (x ∷ xs) z c e i m n = by_cases (is_checkpoint x)
    (λ k. let is : Some x ≡ Some z = sym (ap (λ b. cond b (Some x) (find is_checkpoint xs)) k) ∙ e in
    let s : z ≡ x = cc in
    let zero_there : place (x ∷ xs) z ≡ 0 = ap (λ b. cond b 0 (suc (place xs z))) (ap (same z) (sym s) ∙ same_itself z) in
    let behind : place (x ∷ xs) c ≡ suc (place xs c) = ap (λ b. cond b 0 (suc (place xs c))) (ap (same c) (sym s) ∙ n) in
    omega (arith, zero_there, behind))
    (λ k. let rest = sym (ap (λ b. cond b (Some x) (find is_checkpoint xs)) k) ∙ e in
    let not_x : (d : Command) → d.draft.checkpoint ≡ true → same d x ≡ false = λ d md. not_true (same d x) (λ t. never (is_checkpoint x) (sym (ap is_checkpoint (same-true d x t)) ∙ md) k) in
    let mz = (found_in xs z rest).1 in
    let pz : place (x ∷ xs) z ≡ suc (place xs z) = ap (λ b. cond b 0 (suc (place xs z))) (not_x z mz) in
    let pc : place (x ∷ xs) c ≡ suc (place xs c) = ap (λ b. cond b 0 (suc (place xs c))) (not_x c m) in
    let r = found_first xs z c rest (one_of (same c x) (list_any (same c) xs) i (λ t. never (same c x) t (not_x c m)) (λ j. j)) m n in
    omega (arith, pz, pc, r))

pub none_found : (xs : List Command) (c : Command) → find is_checkpoint xs ≡ None → In xs c → c.draft.checkpoint ≡ false
none_found [] c e i = absurd (cc)
none_found (x ∷ xs) c e i = by_cases (is_checkpoint x)
    (λ k. let is : Some x ≡ None = sym (ap (λ b. cond b (Some x) (find is_checkpoint xs)) k) ∙ e in absurd (cc))
    (λ k. one_of (same c x) (list_any (same c) xs) i
    (λ t. ap is_checkpoint (same-true c x t) ∙ k)
    (λ j. none_found xs c (sym (ap (λ b. cond b (Some x) (find is_checkpoint xs)) k) ∙ e) j))

-- ---- of a history

module _ (h : History) (w : IsHistory h) where
  stands : history_of (canonical h) ≡ h
  stands = canonical_is h w

  listed : (c : Command) → has h c ≡ true → In (canonical h) c
  listed c p = sym (has_history_of (canonical h) c) ∙ ap (λ u. has u c) stands ∙ p

  there : (c : Command) → In (canonical h) c → has h c ≡ true
  there c i = sym (ap (λ u. has u c) stands) ∙ has_history_of (canonical h) c ∙ i

  pub found_is_first : (z : Command) → first_checkpoint h ≡ Some z → IsFirstCheckpoint h z
  unfolding first_checkpoint
  found_is_first z e =
      let f = found_in (canonical h) z e in
      record {
        there = there z f.0;
        marked = f.1;
        first = λ c p m n.
            let t = found_first (canonical h) z c e (listed c p) m n in
            sym (ap (λ u. before u z c) stands) ∙ before_history_of (canonical h) z c
            ∙ both (both f.0 (listed c p)) (both (checkpoint_conflicts z c m (different c z n)) (lt-ltb (place (canonical h) z) (place (canonical h) c) t));
      }

  pub none_has_none : first_checkpoint h ≡ None → HasNoCheckpoint h
  unfolding first_checkpoint
  none_has_none e c p = none_found (canonical h) c e (listed c p)

  -- two first checkpoints are one
  pub one_first : (y z : Command) → IsFirstCheckpoint h y → IsFirstCheckpoint h z → y ≡ z
  one_first y z f g = by_cases (same y z) (λ e. same-true y z e)
      (λ n. let a : before h z y ≡ true = g.first y f.there f.marked n in
      let b : before h y z ≡ true = f.first z g.there g.marked (different y z n) in
      let k = w.one_way y z f.there g.there (w.within y z b).2 in
      never (before h y z) b (k ∙ ap not a))

  pub first_is_found : (z : Command) → IsFirstCheckpoint h z → first_checkpoint h ≡ Some z
  first_is_found z f = by_option (first_checkpoint h) refl
    where
      by_option : (o : Option Command) → first_checkpoint h ≡ o → first_checkpoint h ≡ Some z
      by_option None e = never z.draft.checkpoint f.marked (none_has_none e z f.there)
      by_option (Some y) e = e ∙ ap Some (one_first y z (found_is_first y e) f)
