-- The meet is the greatest lower bound.
use Rattle.std.proofs.Common.{◌≡◌, Bool, true, false, not, ◌&&◌, ◌||◌, List, [], ◌∷◌, ◌++◌, sym, ap, ◌∙◌}
use Rattle.std.specs.Prelude.{filter, map}
use Rattle.std.specs.List.{list_any, list_all}
use Rattle.std.specs.FinSet as set
use Rattle.std.proofs.lemmas.Bool.{true≢false}
use Rattle.gp_command.specs.declared.command.Command.{Command}
use Rattle.gp_command.proofs.Ties.{tied_command}
use Rattle.gp_command.specs.Conflict.{same}
use Rattle.gp_command.proofs.ConflictLemmas.{same-true}
use Rattle.gp_command.proofs.Truth.{iff_true}
use Rattle.gp_history.specs.History.{History, IsPrefix, has, before}
use Rattle.gp_history.specs.Bounds.{IsCompatible, sublists, is_shared, in_meet, meet}
use Rattle.gp_history.proofs.Tests.{In, both, fst_of, snd_of, left_of, right_of, one_of, by_cases, all_gives, all_from, any-append, any-map}
use Rattle.gp_history.proofs.Sets.{has-ordered_by, before-ordered_by}
use Rattle.gp_history.proofs.Push.{Within}

any_more : {X : Type 0} (f g : X → Bool) (xs : List X) → ((x : X) → f x ≡ true → g x ≡ true) → list_any f xs ≡ true → list_any g xs ≡ true
any_more f g [] h t = t
any_more f g (x ∷ xs) h t = one_of (f x) (list_any f xs) t (λ p. left_of (g x) (list_any g xs) (h x p)) (λ m. right_of (g x) (list_any g xs) (any_more f g xs h m))

pub any_one : {X : Type 0} (f : X → Bool) (xs : List X) {P : Type 0} → list_any f xs ≡ true → ((x : X) → f x ≡ true → P) → P
any_one f [] t h = absurd (true≢false (sym t))
any_one f (x ∷ xs) t h = one_of (f x) (list_any f xs) t (h x) (λ m. any_one f xs m h)

-- what passes is among the sublists
filtered : (f : List Command → Bool) (p : Command → Bool) (xs : List Command) → f (filter p xs) ≡ true → list_any f (sublists xs) ≡ true
filtered f p [] t = left_of (f []) false t
filtered f p (x ∷ xs) t =
    any-append f (map (λ s. x ∷ s) (sublists xs)) (sublists xs)
    ∙ by_cases (p x)
    (λ e. left_of (list_any f (map (λ s. x ∷ s) (sublists xs))) _
    (any-map f (λ s. x ∷ s) (sublists xs) ∙ filtered (λ s. f (x ∷ s)) p xs (rw e at t)))
    (λ e. right_of _ (list_any f (sublists xs)) (filtered f p xs (rw e at t)))

pub in_filter : (p : Command → Bool) (xs : List Command) (c : Command) → In xs c → p c ≡ true → In (filter p xs) c
in_filter p [] c i e = i
in_filter p (x ∷ xs) c i e = one_of (same c x) (list_any (same c) xs) i
    (λ s. let k : p x ≡ true = ap p (sym (same-true c x s)) ∙ e in rw k (left_of (same c x) (list_any (same c) (filter p xs)) s))
    (λ m. by_cases (p x)
    (λ k. rw k (right_of (same c x) (list_any (same c) (filter p xs)) (in_filter p xs c m e)))
    (λ k. rw k (in_filter p xs c m e)))

pub from_filter : (p : Command → Bool) (xs : List Command) (c : Command) → In (filter p xs) c → p c ≡ true
from_filter p [] c i = absurd (true≢false (sym i))
from_filter p (x ∷ xs) c i = by_cases (p x)
    (λ k. one_of (same c x) (list_any (same c) (filter p xs)) (rw k at i) (λ s. ap p (same-true c x s) ∙ k) (λ m. from_filter p xs c m))
    (λ k. from_filter p xs c (rw k at i))

pub in_items : (h : History) (c : Command) → has h c ≡ list_any (same c) (set.items h.commands)
unfolding has same
in_items h c = set.contains-items h.commands c

module _ (h k : History) (wh : Within h) (wk : Within k) where
  all : List Command
  all = set.items h.commands ++ set.items k.commands

  abbrev keeps : (Command → Bool) → Command → Command → Bool
  keeps p d c = not (before h c d || before k c d) || (p c && (before h c d && before k c d))

  in_all_left : (c : Command) → has h c ≡ true → In (set.items h.commands ++ set.items k.commands) c
  in_all_left c p = any-append (same c) (set.items h.commands) (set.items k.commands) ∙ left_of (list_any (same c) (set.items h.commands)) _ (sym (in_items h c) ∙ p)

  in_all_right : (c : Command) → has k c ≡ true → In (set.items h.commands ++ set.items k.commands) c
  in_all_right c p = any-append (same c) (set.items h.commands) (set.items k.commands) ∙ right_of _ (list_any (same c) (set.items k.commands)) (sym (in_items k c) ∙ p)

  kept : (p : Command → Bool) (d c : Command) → keeps p d c ≡ true → (before h c d || before k c d) ≡ true → (p c && (before h c d && before k c d)) ≡ true
  kept p d c t r = one_of (not (before h c d || before k c d)) _ t (λ n. absurd (true≢false (sym n ∙ ap not r))) (λ m. m)

  -- what holds of a command of the meet
  pub record Shares (d : Command) : Type 0 where
    pub left : has h d ≡ true
    pub right : has k d ≡ true
    pub earlier : (c : Command) → (before h c d || before k c d) ≡ true → (in_meet h k c ≡ true) × (before h c d ≡ true) × (before k c d ≡ true)

  pub meet_shares : (d : Command) → in_meet h k d ≡ true → Shares d
  meet_shares d t = record {
    left = any_one _ (sublists (set.items h.commands)) t (λ s e. fst_of (has h d) _ (passes s e));
    right = any_one _ (sublists (set.items h.commands)) t (λ s e. fst_of (has k d) _ (snd_of (has h d) _ (passes s e)));
    earlier = λ c r.
        let step : (s : List Command) → (is_shared h k s && list_any (same d) s) ≡ true → (list_any (same c) s && (before h c d && before k c d)) ≡ true =
        λ s e. kept (λ x. list_any (same x) s) d c (all_gives (keeps (λ x. list_any (same x) s) d) (set.items h.commands ++ set.items k.commands) c
        (snd_of (has k d) _ (snd_of (has h d) _ (passes s e))) (reached c d r)) r in (
          any_more _ _ (sublists (set.items h.commands)) (λ s e. both (fst_of (is_shared h k s) _ e) (fst_of (list_any (same c) s) _ (step s e))) t,
          any_one _ (sublists (set.items h.commands)) t (λ s e. fst_of (before h c d) _ (snd_of (list_any (same c) s) _ (step s e))),
          any_one _ (sublists (set.items h.commands)) t (λ s e. snd_of (before h c d) _ (snd_of (list_any (same c) s) _ (step s e))),
        );
  } where
    passes : (s : List Command) → (is_shared h k s && list_any (same d) s) ≡ true → (has h d && (has k d && list_all (keeps (λ x. list_any (same x) s) d) (set.items h.commands ++ set.items k.commands))) ≡ true
    passes s e = all_gives (λ x. has h x && (has k x && list_all (keeps (λ y. list_any (same y) s) x) (set.items h.commands ++ set.items k.commands))) s d (fst_of (is_shared h k s) _ e) (snd_of (is_shared h k s) (list_any (same d) s) e)

    reached : (c d : Command) → (before h c d || before k c d) ≡ true → In (set.items h.commands ++ set.items k.commands) c
    reached c d r = one_of (before h c d) (before k c d) r (λ b. in_all_left c (wh c d b).0) (λ b. in_all_right c (wk c d b).0)

  -- what is shared is in the meet
  pub shared_in_meet : (p : Command → Bool) → ((d : Command) → p d ≡ true → has h d ≡ true) → ((d : Command) → p d ≡ true → has k d ≡ true)
      → ((c d : Command) → p d ≡ true → (before h c d || before k c d) ≡ true → (p c && (before h c d && before k c d)) ≡ true)
      → (d : Command) → p d ≡ true → in_meet h k d ≡ true
  shared_in_meet p left right closed d e =
      let hs = set.items h.commands in
      let mem : (c : Command) → p c ≡ true → In (filter p hs) c = λ c q. in_filter p hs c (sym (in_items h c) ∙ left c q) q in
      filtered (λ s. is_shared h k s && list_any (same d) s) p hs (both
      (all_from _ (filter p hs) (λ x i.
      let q = from_filter p hs x i in
      both (left x q) (both (right x q) (all_from _ (hs ++ set.items k.commands) (λ c _. by_cases (before h c x || before k c x)
      (λ r. let m = closed c x q r in right_of _ _ (both (mem c (fst_of (p c) _ m)) (snd_of (p c) _ m)))
      (λ r. left_of _ _ (ap not r)))))))
      (mem d e))

  retained : (c : Command) → set.contains (set.retain h.commands (in_meet h k)) c ≡ (has h c && in_meet h k c)
  unfolding has
  retained c = set.contains-retain h.commands (in_meet h k) c (λ x e. ap (in_meet h k) (sym (tied_command c x e)))

  pub has-meet : (c : Command) → has (meet h k) c ≡ (has h c && in_meet h k c)
  unfolding meet
  has-meet c = has-ordered_by (set.retain h.commands (in_meet h k)) (before h) c ∙ retained c

  pub before-meet : (c d : Command) → before (meet h k) c d ≡ ((has (meet h k) c && has (meet h k) d) && before h c d)
  unfolding meet
  before-meet c d =
      before-ordered_by (set.retain h.commands (in_meet h k)) (before h) c d
      ∙ (λ i. (sym (has-ordered_by (set.retain h.commands (in_meet h k)) (before h) c) i && sym (has-ordered_by (set.retain h.commands (in_meet h k)) (before h) d) i) && before h c d)

  shares_of : (d : Command) → has (meet h k) d ≡ true → Shares d
  shares_of d p = meet_shares d (snd_of (has h d) _ (sym (has-meet d) ∙ p))

  meets : (c : Command) → in_meet h k c ≡ true → has (meet h k) c ≡ true
  meets c i = let s : Shares c = meet_shares c i in has-meet c ∙ both s.left i

  pub meet_left : IsPrefix (meet h k) h
  meet_left = record {
    commands = λ c p. fst_of (has h c) _ (sym (has-meet c) ∙ p);
    pairs = λ c d p q. before-meet c d ∙ (λ i. (p i && q i) && before h c d);
    closed = λ c d q r. let s : Shares d = shares_of d q in meets c (s.earlier c (left_of (before h c d) _ r)).0;
  }

  pub meet_right : IsPrefix (meet h k) k
  meet_right = record {
    commands = λ c p. let s : Shares c = shares_of c p in s.right;
    pairs = λ c d p q. let s : Shares d = shares_of d q in
        meet_left.pairs c d p q ∙ iff_true (before h c d) (before k c d) (λ r. (s.earlier c (left_of (before h c d) _ r)).2) (λ r. (s.earlier c (right_of (before h c d) (before k c d) r)).1);
    closed = λ c d q r. let s : Shares d = shares_of d q in meets c (s.earlier c (right_of (before h c d) (before k c d) r)).0;
  }

  pub meet_greatest : (u : History) → IsPrefix u h → IsPrefix u k → IsPrefix u (meet h k)
  meet_greatest u a b =
      let inside : (d : Command) → has u d ≡ true → in_meet h k d ≡ true =
      shared_in_meet (has u) a.commands b.commands (λ c d p r. one_of (before h c d) (before k c d) r
      (λ e. let c_in = a.closed c d p e in both c_in (both e (sym (b.pairs c d c_in p) ∙ a.pairs c d c_in p ∙ e)))
      (λ e. let c_in = b.closed c d p e in both c_in (both (sym (a.pairs c d c_in p) ∙ b.pairs c d c_in p ∙ e) e))) in
      record {
        commands = λ c p. meets c (inside c p);
        pairs = λ c d p q. a.pairs c d p q ∙ sym (meet_left.pairs c d (meets c (inside c p)) (meets d (inside d q)));
        closed = λ c d q r. a.closed c d q (snd_of (has (meet h k) c && has (meet h k) d) _ (sym (before-meet c d) ∙ r));
      }

  -- what two compatible histories have in common is in their meet
  pub common_in_meet : IsCompatible h k → (c : Command) → has h c ≡ true → has k c ≡ true → has (meet h k) c ≡ true
  common_in_meet a c p q = meets c (shared_in_meet (λ x. has h x && has k x) (λ d e. fst_of (has h d) _ e) (λ d e. snd_of (has h d) _ e)
      (λ c d e r. let d_h = fst_of (has h d) _ e in let d_k = snd_of (has h d) (has k d) e in one_of (before h c d) (before k c d) r
      (λ b. let c_h = (wh c d b).0 in let c_k = a.closed_left c d d_k b in both (both c_h c_k) (both b (sym (a.alike c d c_h c_k d_h d_k) ∙ b)))
      (λ b. let c_k = (wk c d b).0 in let c_h = a.closed_right c d d_h b in both (both c_h c_k) (both (a.alike c d c_h c_k d_h d_k ∙ b) b)))
      c (both p q))
