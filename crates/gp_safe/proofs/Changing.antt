-- What is new in the meets of sets once one sender's value took the place of an older one.
use Rattle.std.proofs.Common.{◌≡◌, ℕ, zero, suc, ◌+◌, ◌<◌, ◌≤◌, Bool, true, false, not, ◌&&◌, ◌||◌, cond, List, [], ◌∷◌, ◌++◌, length, take, drop, Some, None, inl, inr, append_assoc, refl, sym, ap, subst, ◌∙◌, arith}
use Rattle.std.specs.Prelude.{Option, nat_eq, nat_lt, slice_get, slice_index_or}
use Rattle.std.specs.List.{list_any, Contains}
use Rattle.std.specs.Option.{option_map, is_some}
use Rattle.std.specs.FinSet as set
use Rattle.std.proofs.lemmas.Bool.{cases_lt, true≢false, ltb-true, lt-ltb, eqb-true, eq-eqb}
use Rattle.std.proofs.Math.Seq.{take-length}
use Rattle.std.proofs.lemmas.List.{take-append-drop}
use Rattle.std.proofs.lemmas.List.Elements.{Contains-append_right}
use Rattle.std.proofs.lemmas.Option.{slice_get_within}
use Rattle.gp_command.specs.declared.command.Command.{Command}
use Rattle.gp_command.specs.Conflict.{same}
use Rattle.gp_command.proofs.ConflictLemmas.{same-true}
use Rattle.gp_history.specs.History.{History, IsHistory, IsPrefix, has, before}
use Rattle.gp_history.specs.Sequence.{history_of, no_repeat, place}
use Rattle.gp_history.specs.Bounds.{meet, join, joined}
use Rattle.gp_history.proofs.Tests.{In, both, fst_of, snd_of, left_of, right_of, one_of, not_true, by_cases, never, all_from}
use Rattle.gp_history.proofs.Sets.{has_history_of}
use Rattle.gp_history.proofs.Push.{Joins}
use Rattle.gp_history.proofs.Joins.{history_of_is, history_within, history_of-append, joins, later}
use Rattle.gp_history.proofs.Prefix.{prefix_trans}
use Rattle.gp_history.proofs.Lub.{bounded_compatible}
use Rattle.gp_history.proofs.Bound.{has-join, join_is_history, meet_is_greatest}
use Rattle.gp_history.proofs.Meet.{common_in_meet}
use Rattle.gp_history.proofs.Places.{place_is, in_take, at_in}
use Rattle.gp_round.specs.Sets.{members, bit, masks}
use Rattle.gp_round.proofs.Masks.{subset_is}
use Rattle.gp_index.proofs.Searches.{stands as stands_at_place}
use Rattle.gp_safe.specs.Meets.{with_one, gathered, if_whole, quorum_meet, add_meet, quorum_meets}
use Rattle.gp_safe.specs.Held.{value_with}
use Rattle.gp_safe.specs.News.{all_have, is_new}
use Rattle.gp_safe.specs.Changes.{opens, may_add, IsInOld, IsFromOld, IsAnyHistory, AreHistories, IsMetKnown, AreKnown, NoneFrom}
use Rattle.gp_safe.proofs.Meetings.{IsMeet, Tells, wider, with_more}
use Rattle.gp_safe.proofs.Adding.{join_known, each_has, in_gathered}

-- ---- counts

pub more_members : (p q : ℕ → Bool) (n : ℕ) → ((i : ℕ) → i < n → p i ≡ true → q i ≡ true) → members p n ≤ members q n
more_members p q zero h = omega arith
more_members p q (suc n) h =
    let r = more_members p q n (λ i l. h i (omega (arith, l))) in
    by (p n) (q n) (h n (omega arith)) r where
      by : (a b : Bool) → (a ≡ true → b ≡ true) → members p n ≤ members q n → cond a 1 0 + members p n ≤ cond b 1 0 + members q n
      by true true k r = omega (arith, r)
      by true false k r = absurd (true≢false (sym (k refl)))
      by false true k r = omega (arith, r)
      by false false k r = omega (arith, r)

-- ---- what was gathered, of values below n that are histories

pub gathered_tells : (f : ℕ → Option History) (p : ℕ → Bool) (n : ℕ) → AreHistories f n → Tells f p n (gathered f p n)
gathered_tells f p zero w = λ i a b. omega (arith, a)
gathered_tells f p (suc n) w =
    let r = gathered_tells f p n (λ i h l. w i h (omega (arith, l))) in
    by_cases (p n)
    (λ e. subst (λ (b : Bool). Tells f p (suc n) (cond b (with_one (f n) (gathered f p n)) (gathered f p n))) (sym e) (with_more f p n (f n) (gathered f p n) (λ v. w n v (omega arith)) refl e r))
    (λ e. subst (λ (b : Bool). Tells f p (suc n) (cond b (with_one (f n) (gathered f p n)) (gathered f p n))) (sym e) (wider f p n (gathered f p n) e r))

-- a meet is the meet of the members
pub met : (f : ℕ → Option History) (p : ℕ → Bool) (n : ℕ) → AreHistories f n → (m : History) → if_whole (gathered f p n) ≡ Some m → IsMeet f p n m
met f p n w m e = by (gathered f p n) (gathered_tells f p n w) e where
  by : (g : Option (Option History)) → Tells f p n g → if_whole g ≡ Some m → IsMeet f p n m
  by None t e = absurd cc
  by (Some None) t e = absurd cc
  by (Some (Some x)) t e = let is : x ≡ m = cc in subst (IsMeet f p n) is t

-- where each member has a value, and there is one, there is a meet
pub record HasMeet (f : ℕ → Option History) (p : ℕ → Bool) (n : ℕ) : Type 0 where
  pub meet : History
  pub is : if_whole (gathered f p n) ≡ Some meet
  pub meets : IsMeet f p n meet

pub has_meet : (f : ℕ → Option History) (p : ℕ → Bool) (n : ℕ) → AreHistories f n → (i : ℕ) → i < n → p i ≡ true → ((j : ℕ) → j < n → p j ≡ true → f j ≡ None → ⊥) → HasMeet f p n
has_meet f p n w i l e all = by (gathered f p n) (gathered_tells f p n w) refl where
  by : (g : Option (Option History)) → Tells f p n g → gathered f p n ≡ g → HasMeet f p n
  by None (j, a, b, c) s = absurd (all j a b c)
  by (Some None) t s = absurd (t i l e)
  by (Some (Some x)) t s = record { meet = x; is = ap if_whole s; meets = t }

-- ---- what was joined is known

module _ (f : ℕ → Option History) (w : ℕ → Bool) (n : ℕ) (all : AreHistories f n) where
  stays : (u : History) → IsHistory u → (ms : List ℕ) (c : Command) → has u c ≡ true → has (joined u (quorum_meets f w n ms)) c ≡ true
  stays u wu [] c t = t
  stays u wu (m ∷ ms) c t = by (quorum_meet f w n m) (λ x e. (met f (λ i. bit m i && w i) n all x e).history) (λ v wv s. stays v wv ms c s) where
    by : (o : Option History) → ((x : History) → o ≡ Some x → IsHistory x) → ((v : History) → IsHistory v → has v c ≡ true → has (joined v (quorum_meets f w n ms)) c ≡ true) → has (joined u (add_meet o (quorum_meets f w n ms))) c ≡ true
    by None h more = more u wu t
    by (Some x) h more = more (join u x) (join_is_history u x wu (h x refl)) (has-join u x wu (h x refl) c ∙ left_of (has u c) (has x c) t)

  joined_has : (u : History) → IsHistory u → (ms : List ℕ) (m : ℕ) → Contains ms m → (x : History) → quorum_meet f w n m ≡ Some x → (c : Command) → has x c ≡ true → has (joined u (quorum_meets f w n ms)) c ≡ true
  joined_has u wu [] m i x e c t = absurd (omega (arith, i.1))
  joined_has u wu (k ∷ ms) m i x e c t = at i.0 i.1 i.2 (quorum_meet f w n k) refl (λ v wv j. joined_has v wv ms m j x e c t) where
    at : (j : ℕ) → j < length (k ∷ ms) → slice_index_or (k ∷ ms) j m ≡ m → (o : Option History) → quorum_meet f w n k ≡ o → ((v : History) → IsHistory v → Contains ms m → has (joined v (quorum_meets f w n ms)) c ≡ true)
        → has (joined u (add_meet o (quorum_meets f w n ms))) c ≡ true
    at zero l is None q more = let d : None ≡ Some x = sym q ∙ ap (λ z. quorum_meet f w n z) is ∙ e in absurd cc
    at zero l is (Some y) q more =
        let d : Some y ≡ Some x = sym q ∙ ap (λ z. quorum_meet f w n z) is ∙ e in
        let same : y ≡ x = cc in
        let wy = (met f (λ i. bit k i && w i) n all y q).history in
        stays (join u y) (join_is_history u y wu wy) ms c (has-join u y wu wy c ∙ right_of (has u c) (has y c) (ap (λ z. has z c) same ∙ t))
    at (suc j) l is None q more = more u wu (j, omega (arith, l), is)
    at (suc j) l is (Some y) q more = let wy = (met f (λ i. bit k i && w i) n all y q).history in more (join u y) (join_is_history u y wu wy) (j, omega (arith, l), is)

  -- where the meets add nothing, all that they have is known
  pub all_known : (known : History) → IsHistory known → (size : ℕ) → joined known (quorum_meets f w n (masks n size)) ≡ known → AreKnown known f w n size
  all_known known wk size e m i x q c t = sym (ap (λ u. has u c) e) ∙ joined_has known wk (masks n size) m i x q c t

  -- and it stays known
  pub still_known : (known : History) → IsHistory known → (g : ℕ → Option History) (v : ℕ → Bool) (size : ℕ) (ms : List ℕ) (later : History) → later ≡ joined known (quorum_meets f w n ms) → AreKnown known g v n size → AreKnown later g v n size
  still_known known wk g v size ms later e was m i x q c t = ap (λ u. has u c) e ∙ stays known wk ms c (was m i x q c t)

-- ---- the first that passes a test

pub record First (q : Command → Bool) (xs : List Command) : Type 0 where
  pub at : ℕ
  pub command : Command
  pub stands : slice_get xs at ≡ Some command
  pub passes : q command ≡ true
  pub before : (y : Command) → In xs y → place xs y < at → q y ≡ false

pub first_that : (q : Command → Bool) (xs : List Command) (c : Command) → In xs c → q c ≡ true → First q xs
first_that q [] c i t = absurd (true≢false (sym i))
first_that q (x ∷ xs) c i t = by_cases (q x)
    (λ e. record { at = 0; command = x; stands = refl; passes = e; before = λ y j l. absurd (omega (arith, l)) })
    (λ e.
    let r = first_that q xs c (one_of (same c x) (list_any (same c) xs) i (λ s. never (q c) t (ap q (same-true c x s) ∙ e)) (λ m. m)) t in
    record {
      at = suc r.at;
      command = r.command;
      stands = r.stands;
      passes = r.passes;
      before = λ y j l. by_cases (same y x)
          (λ s. ap q (same-true y x s) ∙ e)
          (λ s.
          let p : place (x ∷ xs) y ≡ suc (place xs y) = ap (λ b. cond b 0 (suc (place xs y))) s in
          r.before y (one_of (same y x) (list_any (same y) xs) j (λ u. never (same y x) u s) (λ m. m)) (omega (arith, p, l)));
    })

gathered_same : (f g : ℕ → Option History) (p : ℕ → Bool) (n : ℕ) → ((i : ℕ) → i < n → p i ≡ true → f i ≡ g i) → gathered f p n ≡ gathered g p n
gathered_same f g p zero h = refl
gathered_same f g p (suc n) h =
    let r = gathered_same f g p n (λ i l e. h i (omega (arith, l)) e) in
    by_cases (p n)
    (λ e. (λ k. cond (p n) (with_one (h n (omega arith) e k) (r k)) (r k)))
    (λ e. ap (λ b. cond b (with_one (f n) (gathered f p n)) (gathered f p n)) e ∙ r ∙ ap (λ b. cond b (with_one (g n) (gathered g p n)) (gathered g p n)) (sym e))

pub start_prefix : (u v : List Command) → IsPrefix (history_of u) (history_of (u ++ v))
start_prefix u v =
    let j : Joins (history_of u) v (history_of (u ++ v)) = subst (Joins (history_of u) v) (sym (history_of-append u v)) (joins v (history_of u) (history_within u)) in
    record {
      commands = λ c t. j.commands c ∙ left_of (has (history_of u) c) (list_any (same c) v) t;
      pairs = λ c d p q. sym (j.old c d q);
      closed = λ c d q r. (history_within u c d (sym (j.old c d q) ∙ r)).0;
    }

-- a sequence that another one starts with, in the place of a sender's value
pub from_start : (ys xs : List Command) (o : Option History) (from : ℕ) → o ≡ Some (history_of ys) → take from ys ≡ take from xs → from ≡ length ys → IsFromOld o xs from
from_start ys xs o from e alike whole c i =
    let all : ys ≡ take from xs = sym (take-length ys) ∙ ap (λ n. take n ys) (sym whole) ∙ alike in
    record {
      history = history_of ys;
      is = e;
      prefix = subst (λ l. IsPrefix (history_of l) (history_of xs)) (sym all) (subst (λ l. IsPrefix (history_of (take from xs)) (history_of l)) (take-append-drop from xs) (start_prefix (take from xs) (drop from xs)));
      there = has_history_of ys c ∙ ap (λ l. list_any (same c) l) all ∙ i;
    }

-- ---- the loop over senders

pub any_history : (o : Option (List Command)) (v : Option History) → option_map history_of o ≡ v → IsAnyHistory v
any_history None v e h f = let d : None ≡ Some h = e ∙ f in absurd (cc)
any_history (Some ys) v e h f = let d : Some (history_of ys) ≡ Some h = e ∙ f in let same : history_of ys ≡ h = cc in subst IsHistory same (history_of_is ys)

pub histories_step : (f : ℕ → Option History) (i : ℕ) → AreHistories f i → IsAnyHistory (f i) → AreHistories f (i + 1)
histories_step f i all one k h l e = elim (cases_lt k i) [
  | inl u ↦ all k h u e
  | inr g ↦ let s : k ≡ i = omega (arith, l, g) in one h (ap f (sym s) ∙ e)
]

pub members_step : (p : ℕ → Bool) (i k k' : ℕ) (b : Bool) → k ≡ members p i → p i ≡ b → k' ≡ cond b (k + 1) k → k' ≡ members p (i + 1)
members_step p i k k' b e f g =
    let s : i + 1 ≡ suc i = omega arith in
    let t : cond b (k + 1) k ≡ cond b 1 0 + members p i = by b in
    g ∙ t ∙ ap (λ c. cond c 1 0 + members p i) (sym f) ∙ ap (members p) (sym s) where
      by : (b : Bool) → cond b (k + 1) k ≡ cond b 1 0 + members p i
      by true = omega (arith, e)
      by false = omega (arith, e)

-- where too few have a value, none may be added
pub too_few : (known : History) (f : ℕ → Option History) (w : ℕ → Bool) (n size : ℕ) (c : Command) → members (λ i. is_some (f i) || not (w i)) n < size → may_add known f w n size c ≡ false
too_few known f w n size c l = not_true (may_add known f w n size c) (λ t.
    let le = more_members (λ i. opens (w i) (f i) known c) (λ i. is_some (f i) || not (w i)) n (λ i k e. there (w i) (f i) e) in
    let lt : members (λ i. opens (w i) (f i) known c) n < size = omega (arith, l, le) in
    true≢false (sym (snd_of (not (has known c)) _ t) ∙ ap not (lt-ltb (members (λ i. opens (w i) (f i) known c) n) size lt))) where
      there : (b : Bool) (o : Option History) → opens b o known c ≡ true → (is_some o || not b) ≡ true
      there b (Some h) e = refl
      there true None e = e
      there false None e = refl

-- ---- a loop over a sequence from a place on

pub none_step : (q : Command → Bool) (xs : List Command) (from i : ℕ) (c : Command) → ((k : ℕ) (d : Command) → from ≤ k → k < i → slice_get xs k ≡ Some d → q d ≡ false) → slice_get xs i ≡ Some c → q c ≡ false
    → (k : ℕ) (d : Command) → from ≤ k → k < i + 1 → slice_get xs k ≡ Some d → q d ≡ false
none_step q xs from i c none at f k d a b e = elim (cases_lt k i) [
  | inl l ↦ none k d a l e
  | inr g ↦ let s : k ≡ i = omega (arith, g, b) in let t : Some d ≡ Some c = sym e ∙ ap (slice_get xs) s ∙ at in let same : d ≡ c = cc in ap q same ∙ f
]

pub none_from : (q : Command → Bool) (xs : List Command) (from i : ℕ) → ((k : ℕ) (d : Command) → from ≤ k → k < i → slice_get xs k ≡ Some d → q d ≡ false) → length xs ≤ i → NoneFrom q xs from
none_from q xs from i none le k d a e = none k d a (let l = slice_get_within xs k d e in omega (arith, l, le)) e

-- ---- one value changed

module _ (f0 : ℕ → Option History) (w : ℕ → Bool) (n a : ℕ) (xs : List Command) (from : ℕ) (old : AreHistories f0 n) (kept : IsFromOld (f0 a) xs from) where
  abbrev now : ℕ → Option History
  now = value_with f0 a (Some (history_of xs))

  now_other : (i : ℕ) → nat_eq i a ≡ false → now i ≡ f0 i
  now_other i e = ap (λ b. cond b (Some (history_of xs)) (f0 i)) e

  now_sender : now a ≡ Some (history_of xs)
  now_sender = ap (λ b. cond b (Some (history_of xs)) (f0 a)) (eq-eqb a a refl)

  pub now_histories : AreHistories now n
  now_histories i h l e = by_cases (nat_eq i a)
      (λ s. let is : Some (history_of xs) ≡ Some h = sym (ap (λ b. cond b (Some (history_of xs)) (f0 i)) s) ∙ e in let same : history_of xs ≡ h = cc in subst IsHistory same (history_of_is xs))
      (λ s. old i h l (sym (now_other i s) ∙ e))

  module _ (m : ℕ) (mm : History) (e : quorum_meet now w n m ≡ Some mm) where
    abbrev counts : ℕ → Bool
    counts = λ i. bit m i && w i

    is_meet : IsMeet now counts n mm
    is_meet = met now counts n now_histories mm e

    -- without the sender the meet is that of before
    without : (a < n → counts a ≡ true → ⊥) → quorum_meet f0 w n m ≡ Some mm
    without out = ap if_whole (sym (gathered_same now f0 counts n (λ i l t. by_cases (nat_eq i a)
        (λ s. let is : i ≡ a = eqb-true i a s in absurd (out (subst (λ j. j < n) is l) (ap counts (sym is) ∙ t)))
        (now_other i)))) ∙ e

    module _ (l : a < n) (t : counts a ≡ true) where
      below_new : IsPrefix mm (history_of xs)
      below_new =
          let b = is_meet.below a l t in
          let is : Some b.0 ≡ Some (history_of xs) = sym b.1 ∙ now_sender in
          let same : b.0 ≡ history_of xs = cc in
          subst (IsPrefix mm) same b.2

      -- what is in the old value of the sender was in the meet before
      was_met : (c : Command) → has mm c ≡ true → IsInOld (f0 a) (history_of xs) c → (x : History) × (quorum_meet f0 w n m ≡ Some x) × (has x c ≡ true)
      was_met c i o =
          let u = o.history in
          let hu : IsHistory u = old a u l o.is in
          let before = has_meet f0 counts n old a l t (λ j k s none. by_cases (nat_eq j a)
          (λ q. let d : None ≡ Some u = sym none ∙ ap f0 (eqb-true j a q) ∙ o.is in absurd (cc))
          (λ q. let b = is_meet.below j k s in let d : None ≡ Some b.0 = sym none ∙ sym (now_other j q) ∙ b.1 in absurd (cc))) in
          let both = meet_is_greatest mm u is_meet.history hu in
          let common : has (meet mm u) c ≡ true = common_in_meet mm u is_meet.history.within hu.within (bounded_compatible mm u (history_of xs) is_meet.history hu (history_of_is xs) below_new o.prefix) c i o.there in
          let least : IsPrefix (meet mm u) before.meet = before.meets.greatest (meet mm u) (λ j x k s is. by_cases (nat_eq j a)
          (λ q. let d : Some x ≡ Some u = sym is ∙ ap f0 (eqb-true j a q) ∙ o.is in let same : u ≡ x = cc in subst (IsPrefix (meet mm u)) same both.right)
          (λ q. let b = is_meet.below j k s in let d : Some b.0 ≡ Some x = sym b.1 ∙ now_other j q ∙ is in let same : b.0 ≡ x = cc in
          prefix_trans (meet mm u) mm x both.left (subst (IsPrefix mm) same b.2))) in
          (before.meet, before.is, least.commands c common)

    -- a command of the meet that is not known stands behind what is from the old value, and the sender is a member
    pub record IsFresh (c : Command) : Type 0 where
      pub below : a < n
      pub member : counts a ≡ true
      pub behind : list_any (same c) (take from xs) ≡ false

    pub fresh : (known : History) → ((x : History) → quorum_meet f0 w n m ≡ Some x → (c : Command) → has x c ≡ true → has known c ≡ true) → (c : Command) → has mm c ≡ true → has known c ≡ false → IsFresh c
    fresh known was c i lacks = by_cases (nat_lt a n)
        (λ l. by_cases (counts a)
        (λ t. record {
          below = ltb-true a n l;
          member = t;
          behind = not_true (list_any (same c) (take from xs)) (λ k. let x = was_met (ltb-true a n l) t c i (kept c k) in never (has known c) (was x.0 x.1 c x.2) lacks);
        })
        (λ t. absurd (never (has known c) (was mm (without (λ l t'. true≢false (sym t' ∙ t))) c i) lacks)))
        (λ l. absurd (never (has known c) (was mm (without (λ k t. true≢false (sym (lt-ltb a n k) ∙ l))) c i) lacks))

    -- the first of those in the sender's value may be added by as many as the set has
    pub record MayAdd (known : History) (size : ℕ) : Type 0 where
      pub at : ℕ
      pub command : Command
      pub from_there : from ≤ at
      pub stands : slice_get xs at ≡ Some command
      pub may : may_add known now w n size command ≡ true

    module _ (known : History) (distinct : no_repeat xs ≡ true) (was : (x : History) → quorum_meet f0 w n m ≡ Some x → (c : Command) → has x c ≡ true → has known c ≡ true) where
      abbrev new_here : Command → Bool
      new_here d = has mm d && not (has known d)

      known_before : (y : Command) → new_here y ≡ false → has mm y ≡ true → has known y ≡ true
      known_before y e i = by_cases (has known y) (λ k. k) (λ k. absurd (true≢false (sym (both i (ap not k)) ∙ e)))

      pub may_add_one : (size : ℕ) → members (bit m) n ≡ size → (c : Command) → has mm c ≡ true → has known c ≡ false → MayAdd known size
      may_add_one size count c i lacks =
          let f = fresh known was c i lacks in
          let below = below_new f.below f.member in
          let r = first_that new_here xs c (sym (has_history_of xs c) ∙ below.commands c i) (both i (ap not lacks)) in
          let d = r.command in
          let in_mm : has mm d ≡ true = fst_of (has mm d) _ r.passes in
          let unknown : has known d ≡ false = turned (has known d) (snd_of (has mm d) _ r.passes) in
          let g = fresh known was d in_mm unknown in
          let stands_there : place xs d ≡ r.at = place_is xs r.at d distinct r.stands in
          let opened : (k : ℕ) → k < n → bit m k ≡ true → opens (w k) (now k) known d ≡ true =
          (λ k l b. by_cases (w k)
          (λ t.
          let v = is_meet.below k l (both b t) in
          ap (λ b. opens b (now k) known d) t ∙ ap (λ o. opens true o known d) v.1
          ∙ both (v.2.commands d in_mm) (both (ap not unknown) (all_from (λ y. not (before v.0 y d) || has known y) (set.items v.0.commands) (λ y j. by_cases (before v.0 y d)
          (λ q.
          let in_y : has mm y ≡ true = v.2.closed y d in_mm q in
          let here : before (history_of xs) y d ≡ true = sym (below.pairs y d in_y in_mm) ∙ v.2.pairs y d in_y in_mm ∙ q in
          let ahead : place xs y < place xs d = later xs y d here in
          right_of (not (before v.0 y d)) (has known y) (known_before y (r.before y (sym (has_history_of xs y) ∙ (history_within xs y d here).0) (omega (arith, ahead, stands_there))) in_y))
          (λ q. left_of (not (before v.0 y d)) (has known y) (ap not q))))))
          (λ t. ap (λ b. opens b (now k) known d) t)) in
          let enough : size ≤ members (λ k. opens (w k) (now k) known d) n = (let le = more_members (bit m) (λ k. opens (w k) (now k) known d) n opened in omega (arith, le, count)) in
          record {
            at = r.at;
            command = d;
            from_there = by_cases (nat_lt r.at from)
                (λ t. let l : r.at < from = ltb-true r.at from t in never (list_any (same d) (take from xs)) (in_take xs from d (at_in xs r.at d r.stands) (omega (arith, l, stands_there))) g.behind)
                (λ t. not_below r.at from t);
            stands = r.stands;
            may = both (ap not unknown) (ap not (not_true (nat_lt (members (λ k. opens (w k) (now k) known d) n) size) (λ t. let l = ltb-true (members (λ k. opens (w k) (now k) known d) n) size t in omega (arith, l, enough))));
          } where
            turned : (b : Bool) → not b ≡ true → b ≡ false
            turned true h = absurd (true≢false (sym h))
            turned false h = refl

            not_below : (i j : ℕ) → nat_lt i j ≡ false → j ≤ i
            not_below i j t = elim (cases_lt i j) [ inl l ↦ absurd (true≢false (sym (lt-ltb i j l) ∙ t)) | inr g ↦ g ]

  -- ---- what adds nothing

  module _ (known : History) where
    meet_of : (m : ℕ) → ((mm : History) → quorum_meet now w n m ≡ Some mm → (c : Command) → has mm c ≡ true → has known c ≡ true) → joined known (add_meet (quorum_meet now w n m) []) ≡ known
    meet_of m r = by (quorum_meet now w n m) r where
      by : (o : Option History) → ((mm : History) → o ≡ Some mm → (c : Command) → has mm c ≡ true → has known c ≡ true) → joined known (add_meet o []) ≡ known
      by None r = refl
      by (Some mm) r = join_known known mm (r mm refl)

    -- where no command may be added, no set adds one
    pub nothing_may_add : (size : ℕ) → no_repeat xs ≡ true → AreKnown known f0 w n size → NoneFrom (may_add known now w n size) xs from → (m : ℕ) → Contains (masks n size) m → joined known (add_meet (quorum_meet now w n m) []) ≡ known
    nothing_may_add size distinct was none m i = meet_of m (λ mm e c t. by_cases (has known c) (λ k. k) (λ k.
        let r = may_add_one m mm e known distinct (was m i) size ((subset_is n size m).0 i).1 c t k in
        absurd (true≢false (sym r.may ∙ none r.at r.command r.from_there r.stands))))

    -- a set without the sender adds nothing
    pub without_sender : (m : ℕ) → IsMetKnown known f0 w n m → (bit m a && w a) ≡ false → joined known (add_meet (quorum_meet now w n m) []) ≡ known
    without_sender m was out = meet_of m (λ mm e c t. by_cases (has known c) (λ k. k) (λ k.
        let f = fresh m mm e known was c t k in absurd (true≢false (sym f.member ∙ out))))

    -- nor does one whose members have nothing new in common
    pub nothing_in_common : (m : ℕ) → IsMetKnown known f0 w n m → NoneFrom (is_new known now (λ i. bit m i && w i) n) xs from → joined known (add_meet (quorum_meet now w n m) []) ≡ known
    nothing_in_common m was none = meet_of m (λ mm e c t. by_cases (has known c) (λ k. k) (λ k.
        let f = fresh m mm e known was c t k in
        let below = below_new m mm e f.below f.member in
        let there : In xs c = sym (has_history_of xs c) ∙ below.commands c t in
        let all : all_have now (λ j. bit m j && w j) n c ≡ true = each_has now (λ j. bit m j && w j) n c (in_whole (gathered now (λ j. bit m j && w j) n) mm c e t) in
        absurd (true≢false (sym (both (ap not k) all) ∙ none (place xs c) c (behind_start c there f.behind) (stands_at_place xs c there))))) where
          in_whole : (g : Option (Option History)) (mm : History) (c : Command) → if_whole g ≡ Some mm → has mm c ≡ true → in_gathered g c ≡ true
          in_whole None mm c e t = absurd (cc)
          in_whole (Some None) mm c e t = refl
          in_whole (Some (Some x)) mm c e t = let same : x ≡ mm = cc in ap (λ z. has z c) same ∙ t

          behind_start : (c : Command) → In xs c → list_any (same c) (take from xs) ≡ false → from ≤ place xs c
          behind_start c i b = elim (cases_lt (place xs c) from) [ inl l ↦ never (list_any (same c) (take from xs)) (in_take xs from c i l) b | inr g ↦ g ]

-- where no set adds anything, all together add nothing
pub nothing_added : (f : ℕ → Option History) (w : ℕ → Bool) (n : ℕ) (known : History) (ms : List ℕ) → ((m : ℕ) → Contains ms m → joined known (add_meet (quorum_meet f w n m) []) ≡ known) → joined known (quorum_meets f w n ms) ≡ known
nothing_added f w n known [] each = refl
nothing_added f w n known (m ∷ ms) each =
    more (quorum_meet f w n m) (each m (0, omega arith, refl))
    ∙ nothing_added f w n known ms (λ k i. each k (Contains-append_right (m ∷ []) ms k i)) where
      more : (o : Option History) → joined known (add_meet o []) ≡ known → joined known (add_meet o (quorum_meets f w n ms)) ≡ joined known (quorum_meets f w n ms)
      more None e = refl
      more (Some h) e = ap (λ u. joined u (quorum_meets f w n ms)) e

-- the values of before are histories, where those of now are, and the one that was replaced
pub histories_before : (f0 : ℕ → Option History) (n a : ℕ) (v : Option History) → AreHistories (value_with f0 a v) n → IsAnyHistory (f0 a) → AreHistories f0 n
histories_before f0 n a None all one i h l e = all i h l e
histories_before f0 n a (Some v) all one i h l e = by_cases (nat_eq i a)
    (λ s. one h (ap f0 (sym (eqb-true i a s)) ∙ e))
    (λ s. all i h l (ap (λ b. cond b (Some v) (f0 i)) s ∙ e))

-- ---- the loop over masks

pub mask_there : (all ms rest : List ℕ) (it : List ℕ) (m : ℕ) → all ≡ ms ++ it → it ≡ m ∷ rest → Contains all m
mask_there all ms rest it m e f = subst (λ l. Contains l m) (sym (e ∙ ap (λ l. ms ++ l) f)) (Contains-append_right ms (m ∷ rest) m (0, omega arith, refl))

pub masks_step : (all ms rest : List ℕ) (it : List ℕ) (m : ℕ) → all ≡ ms ++ it → it ≡ m ∷ rest → all ≡ (ms ++ m ∷ []) ++ rest
masks_step all ms rest it m e f = e ∙ ap (λ l. ms ++ l) f ∙ sym (append_assoc ms (m ∷ []) rest)
