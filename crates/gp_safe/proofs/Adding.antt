-- A meet has no command that not each member has, and where all of its commands are known it adds nothing.
use Rattle.std.proofs.Common.{subst, ◌≡◌, ℕ, zero, suc, ◌<◌, Bool, true, false, not, ◌&&◌, ◌||◌, cond, List, [], ◌∷◌, ◌++◌, length, Some, None, inl, inr, refl, sym, ap, ◌∙◌, arith}
use Rattle.std.specs.Prelude.{Option, filter, slice_get, unwrap_or, OnSome}
use Rattle.std.specs.List.{list_any, list_all}
use Rattle.std.specs.Option.{is_some, option_map}
use Rattle.std.specs.FinSet as set
use Rattle.std.proofs.lemmas.Bool.{cases_eq, true≢false}
use Rattle.std.proofs.lemmas.List.Elements.{Contains-append_left, Contains-append_right}
use Rattle.gp_command.specs.declared.command.Command.{Command}
use Rattle.gp_command.specs.Conflict.{same}
use Rattle.gp_command.proofs.ConflictLemmas.{same-true}
use Rattle.gp_command.proofs.Ties.{tied_command}
use Rattle.gp_history.specs.History.{History, has, before}
use Rattle.gp_history.specs.Sequence.{history_of, place, place_in}
use Rattle.gp_history.specs.Canonical.{is_ready, next_least, and_next, least_first, canonical}
use Rattle.gp_history.specs.Bounds.{sublists, is_shared, in_meet, meet, join, joined}
use Rattle.gp_history.proofs.Tests.{In, both, fst_of, snd_of, left_of, right_of, one_of, not_true, all_gives, any-append}
use Rattle.gp_history.proofs.Sets.{has_history_of, has-ordered_by}
use Rattle.gp_history.proofs.Canonical.{least_in, in_filtered}
use Rattle.gp_history.proofs.Meet.{in_items, any_one}
use Rattle.gp_history.proofs.Places.{at_in}
use Rattle.gp_history.proofs.Pushing.{pushes_there}
use Rattle.gp_round.specs.Sets.{bit}
use Rattle.gp_safe.specs.Meets.{with_one, gathered, quorum_meet, add_meet, quorum_meets}
use Rattle.gp_safe.specs.News.{is_in, all_have, is_new, Addition, AdditionAmong}
use Rattle.gp_safe.proofs.Gathering.{quorum_meets_last}

pub has_from_place : (xs : List Command) (c : Command) → has (history_of xs) c ≡ is_some (place_in xs c)
has_from_place xs c = has_history_of xs c ∙ some_if (list_any (same c) xs) where
  some_if : (b : Bool) → b ≡ is_some (cond b (Some (place xs c)) None)
  some_if true = refl
  some_if false = refl

-- ---- what a meet has

in_second : (h k : History) (c : Command) → in_meet h k c ≡ true → has k c ≡ true
in_second h k c t = any_one (λ s. is_shared h k s && list_any (same c) s) (sublists (set.items h.commands)) t (λ s e.
    fst_of (has k c) _ (snd_of (has h c) _ (all_gives (λ d. has h d && (has k d && list_all (λ x. not (before h x d || before k x d) || (list_any (same x) s && (before h x d && before k x d))) (set.items h.commands ++ set.items k.commands))) s c (fst_of (is_shared h k s) _ e) (snd_of (is_shared h k s) (list_any (same c) s) e))))

retained : (h k : History) (c : Command) → set.contains (set.retain h.commands (in_meet h k)) c ≡ (has h c && in_meet h k c)
unfolding has
retained h k c = set.contains-retain h.commands (in_meet h k) c (λ x e. ap (in_meet h k) (sym (tied_command c x e)))

has-meet : (h k : History) (c : Command) → has (meet h k) c ≡ (has h c && in_meet h k c)
unfolding meet
has-meet h k c = has-ordered_by (set.retain h.commands (in_meet h k)) (before h) c ∙ retained h k c

meet_in_both : (h k : History) (c : Command) → has (meet h k) c ≡ true → (has h c ≡ true) × (has k c ≡ true)
meet_in_both h k c t =
    let s = sym (has-meet h k c) ∙ t in
    (fst_of (has h c) _ s, in_second h k c (snd_of (has h c) _ s))

-- ---- what was gathered of members has only what each of them has

abbrev pub in_gathered : Option (Option History) → Command → Bool
in_gathered None c = false
in_gathered (Some None) c = true
in_gathered (Some (Some m)) c = has m c

pub each_has : (f : ℕ → Option History) (p : ℕ → Bool) (n : ℕ) (c : Command) → in_gathered (gathered f p n) c ≡ true → all_have f p n c ≡ true
each_has f p zero c t = refl
each_has f p (suc n) c t = step (p n) (f n) (gathered f p n) (all_have f p n c) (each_has f p n c) t where
  step : (b : Bool) (o : Option History) (g : Option (Option History)) (a : Bool) → (in_gathered g c ≡ true → a ≡ true) → in_gathered (cond b (with_one o g) g) c ≡ true → (a && (not b || is_in o c)) ≡ true
  step false o g a r t = both (r t) refl
  step true None g a r t = absurd (true≢false (sym t))
  step true (Some v) None a r t = absurd (true≢false (sym t))
  step true (Some v) (Some None) a r t = both (r refl) t
  step true (Some v) (Some (Some m)) a r t = let s = meet_in_both m v c t in both (r s.0) s.1

pub member_has : (f : ℕ → Option History) (p : ℕ → Bool) (n : ℕ) (c : Command) (i : ℕ) → all_have f p n c ≡ true → i < n → p i ≡ true → is_in (f i) c ≡ true
member_has f p zero c i t h e = absurd (omega (arith, h))
member_has f p (suc n) c i t h e = elim (cases_eq i n) [
  | inl q ↦ one_of (not (p n)) (is_in (f n) c) (snd_of (all_have f p n c) _ t)
      (λ x. absurd (true≢false (sym x ∙ ap not (ap p (sym q) ∙ e))))
      (λ y. ap (λ j. is_in (f j) c) q ∙ y)
  | inr q ↦ member_has f p n c i (fst_of (all_have f p n c) _ t) (omega (arith, h, q)) e
]

-- ---- a join with what is there

next_in : (h taken : History) (c : Command) → next_least h taken ≡ Some c → has h c ≡ true
unfolding next_least
next_in h taken c e = in_items h c ∙ in_filtered (is_ready h taken) (set.items h.commands) c (least_in (filter (is_ready h taken) (set.items h.commands)) c e)

walked_in : (h : History) (n : ℕ) (c : Command) → In (least_first n h) c → has h c ≡ true
walked_in h zero c i = absurd (true≢false (sym i))
walked_in h (suc n) c i = last (least_first n h) (next_least h (history_of (least_first n h))) (walked_in h n c) (next_in h (history_of (least_first n h))) i where
  last : (xs : List Command) (o : Option Command) → (In xs c → has h c ≡ true) → ((d : Command) → o ≡ Some d → has h d ≡ true) → In (and_next xs o) c → has h c ≡ true
  last xs None r s i = r i
  last xs (Some d) r s i = one_of (list_any (same c) xs) (list_any (same c) (d ∷ [])) (sym (any-append (same c) xs (d ∷ [])) ∙ i) r
      (λ t. one_of (same c d) false t (λ u. ap (has h) (same-true c d u) ∙ s d refl) (λ v. absurd (true≢false (sym v))))

pub join_known : (h u : History) → ((c : Command) → has u c ≡ true → has h c ≡ true) → join h u ≡ h
unfolding join canonical
join_known h u r = pushes_there h (canonical u) (λ c i. r c (walked_in u (length (set.items u.commands)) c i))

-- ---- sets that add nothing

any_gives : (q : Command → Bool) (xs : List Command) (c : Command) → In xs c → q c ≡ true → list_any q xs ≡ true
any_gives q [] c i e = absurd (true≢false (sym i))
any_gives q (x ∷ xs) c i e = one_of (same c x) (list_any (same c) xs) i
    (λ s. left_of (q x) (list_any q xs) (ap q (sym (same-true c x s)) ∙ e))
    (λ m. right_of (q x) (list_any q xs) (any_gives q xs c m e))

-- ---- loops

pub any_stop : (q : Command → Bool) (xs : List Command) (i : ℕ) (d : Command) → q d ≡ true → slice_get xs i ≡ Some d → list_any q xs ≡ true
any_stop q xs i d e at = any_gives q xs d (at_in xs i d at) e

pub all_have_stops : (f : ℕ → Option History) (p : ℕ → Bool) (n : ℕ) (c : Command) (i : ℕ) → i < n → p i ≡ true → is_in (f i) c ≡ false → all_have f p n c ≡ false
all_have_stops f p n c i h e lacks = not_true (all_have f p n c) (λ t. true≢false (sym (member_has f p n c i t h e) ∙ lacks))

joined-append : (u : History) (hs ks : List History) → joined u (hs ++ ks) ≡ joined (joined u hs) ks
joined-append u [] ks = refl
joined-append u (h ∷ hs) ks = joined-append (join u h) hs ks

-- one mask more
pub one_more_joined : (f : ℕ → Option History) (w : ℕ → Bool) (n : ℕ) (ms : List ℕ) (m : ℕ) (known now : History) → now ≡ joined known (quorum_meets f w n ms)
    → joined now (add_meet (quorum_meet f w n m) []) ≡ joined known (quorum_meets f w n (ms ++ m ∷ []))
one_more_joined f w n ms m known now e =
    ap (λ u. joined u (add_meet (quorum_meet f w n m) [])) e
    ∙ sym (joined-append known (quorum_meets f w n ms) (add_meet (quorum_meet f w n m) []))
    ∙ ap (joined known) (sym (quorum_meets_last f w n ms m))

-- ---- sets that add

pub addition_of : (known : History) (f : ℕ → Option History) (p : ℕ → Bool) (n i : ℕ) (xs : List Command) → is_some (gathered f p n) ≡ true → i < n → p i ≡ true → list_any (is_new known f p n) xs ≡ true → Addition known f p n
addition_of known f p n i xs whole h e any = any_one (is_new known f p n) xs any (λ c new. record { whole = whole; member = i; below = h; counts = e; command = c; new = new })

more_masks : (known : History) (f : ℕ → Option History) (w : ℕ → Bool) (n : ℕ) (ms : List ℕ) (m : ℕ) → AdditionAmong known f w n ms → AdditionAmong known f w n (ms ++ m ∷ [])
more_masks known f w n ms m a = record { mask = a.mask; among = Contains-append_left ms (m ∷ []) a.mask a.among; addition = a.addition }

at_last : (known : History) (f : ℕ → Option History) (w : ℕ → Bool) (n : ℕ) (ms : List ℕ) (m : ℕ) → Addition known f (λ i. bit m i && w i) n → AdditionAmong known f w n (ms ++ m ∷ [])
at_last known f w n ms m a = record { mask = m; among = Contains-append_right ms (m ∷ []) m (0, omega arith, refl); addition = a }

-- what was joined by one mask more
pub one_more_addition : {X : Type 0} (view : X → History) (f : ℕ → Option History) (w : ℕ → Bool) (n : ℕ) (ms : List ℕ) (m : ℕ) (known now : History) (news met next : Option X)
    → now ≡ unwrap_or (option_map view news) known → OnSome news (AdditionAmong known f w n ms) → OnSome met (Addition now f (λ i. bit m i && w i) n) → is_some next ≡ (is_some news || is_some met) → OnSome next (AdditionAmong known f w n (ms ++ m ∷ []))
one_more_addition view f w n ms m known now news met None e old new some = tt
one_more_addition view f w n ms m known now (Some x) met (Some y) e old new some = more_masks known f w n ms m old
one_more_addition view f w n ms m known now None (Some z) (Some y) e old new some = at_last known f w n ms m (subst (λ (u : History). Addition u f (λ i. bit m i && w i) n) e new)
one_more_addition view f w n ms m known now None None (Some y) e old new some = absurd (true≢false some)
