-- Which commands messages offer, and which a Final message has.
use Rattle.std.proofs.Common.{◌≡◌, ℕ, zero, suc, ◌<◌, Bool, true, false, ◌||◌, List, [], ◌∷◌, ◌++◌, Some, refl, sym, ap, ◌∙◌, subst, arith}
use Rattle.std.specs.Prelude.{slice_get, max}
use Rattle.std.specs.List.{Contains, list_any}
use Rattle.gp_command.specs.declared.command.Command.{Command}
use Rattle.gp_command.specs.Conflict.{same}
use Rattle.gp_command.proofs.ConflictLemmas.{same_itself}
use Rattle.gp_history.specs.History.{History, has}
use Rattle.gp_history.proofs.Tests.{any-append, left_of, right_of, one_of}
use Rattle.gp_msg.specs.Messages.{Stamped, Offered, InEpoch, Final}
use Rattle.gp_driver.proofs.Lists.{outs}
use Rattle.gp_driver.proofs.Closings.{closed_from, closed-append}

-- the message offers the command
abbrev pub is_offer : Command → Stamped → Bool
is_offer c (Offered d) = same c d
is_offer c (InEpoch e m) = false
is_offer c (Final e l v) = false

-- it is a Final message with the command
abbrev pub final_has : Command → Stamped → Bool
final_has c (Offered d) = false
final_has c (InEpoch e m) = false
final_has c (Final e l v) = has v c

abbrev pub is_offered : List Stamped → Command → Bool
is_offered ms c = list_any (is_offer c) ms

abbrev pub is_closed : List Stamped → Command → Bool
is_closed ms c = list_any (final_has c) ms

-- messages that neither offer nor close
pub record AreWithin (ms : List Stamped) : Type 0 where
  pub offers : (c : Command) → is_offered ms c ≡ false
  pub has_none : (c : Command) → is_closed ms c ≡ false
  pub closes : (n : ℕ) → closed_from n ms ≡ n

pub one_within : (e : ℕ) (m : _) → AreWithin (InEpoch e m ∷ [])
one_within e m = record { offers = λ c. refl; has_none = λ c. refl; closes = λ n. refl }

pub both_within : (xs ys : List Stamped) → AreWithin xs → AreWithin ys → AreWithin (xs ++ ys)
both_within xs ys a b = record {
  offers = λ c. any-append (is_offer c) xs ys ∙ (λ i. a.offers c i || b.offers c i);
  has_none = λ c. any-append (final_has c) xs ys ∙ (λ i. a.has_none c i || b.has_none c i);
  closes = λ n. closed-append n xs ys ∙ (λ i. closed_from (a.closes n i) ys) ∙ b.closes n;
}

none_within : AreWithin []
none_within = record { offers = λ c. refl; has_none = λ c. refl; closes = λ n. refl }

pub outs_within : (e : ℕ) (x : ℕ → _) (n : ℕ) → AreWithin (outs (λ i. InEpoch e (x i)) n)
outs_within e x zero = none_within
outs_within e x (suc n) = both_within (outs (λ i. InEpoch e (x i)) n) (InEpoch e (x n) ∷ []) (outs_within e x n) (one_within e (x n))

-- ---- a command among messages

pub offered_there : (ms : List Stamped) (c : Command) → Contains ms (Offered c) → is_offered ms c ≡ true
offered_there [] c (i, l, e) = absurd (omega (arith, l))
offered_there (m ∷ ms) c (zero, l, e) = left_of (is_offer c m) (is_offered ms c) (subst (λ (x : Stamped). is_offer c x ≡ true) (sym e) (same_itself c))
offered_there (m ∷ ms) c (suc i, l, e) = right_of (is_offer c m) (is_offered ms c) (offered_there ms c (i, omega (arith, l), e))

-- a Final message that stands closes with its commands
pub closed_there : (ms : List Stamped) (c : Command) (k e l : ℕ) (v : History) → slice_get ms k ≡ Some (Final e l v) → has v c ≡ true → is_closed ms c ≡ true
closed_there [] c k e l v h t = cc
closed_there (m ∷ ms) c zero e l v h t = left_of (final_has c m) (is_closed ms c) (subst (λ (x : Stamped). final_has c x ≡ true) (let is : Final e l v ≡ m = cc in is) t)
closed_there (m ∷ ms) c (suc k) e l v h t = right_of (final_has c m) (is_closed ms c) (closed_there ms c k e l v h t)

-- a command that is closed is in a Final message that stands
pub record ClosedBy (ms : List Stamped) (c : Command) : Type 0 where
  pub place : ℕ
  pub epoch : ℕ
  pub learner : ℕ
  pub value : History
  pub there : slice_get ms place ≡ Some (Final epoch learner value)
  pub has_it : has value c ≡ true

pub closed_by_one : (ms : List Stamped) (c : Command) → is_closed ms c ≡ true → ClosedBy ms c
closed_by_one [] c t = absurd cc
closed_by_one (m ∷ ms) c t = one_of (final_has c m) (is_closed ms c) t (here m refl) (λ s. let r = closed_by_one ms c s in record { place = suc r.place; epoch = r.epoch; learner = r.learner; value = r.value; there = r.there; has_it = r.has_it }) where
  here : (x : Stamped) → m ≡ x → final_has c x ≡ true → ClosedBy (m ∷ ms) c
  here (Offered d) q s = absurd cc
  here (InEpoch e y) q s = absurd cc
  here (Final e l v) q s = record { place = 0; epoch = e; learner = l; value = v; there = ap Some q; has_it = s }

pub contained : {X : Type 0} (ms : List X) (k : ℕ) (m : X) → slice_get ms k ≡ Some m → Contains ms m
contained [] k m h = cc
contained (x ∷ ms) zero m h = (0, omega arith, let is : x ≡ m = cc in is)
contained (x ∷ ms) (suc k) m h = let r = contained ms k m h in (suc r.0, omega (arith, r.1), r.2)

-- ---- a Final message of each learner, all with one value

pub finals_offer_nothing : (e : ℕ) (v : ℕ → History) (n : ℕ) (c : Command) → is_offered (outs (λ l. Final e l (v l)) n) c ≡ false
finals_offer_nothing e v zero c = refl
finals_offer_nothing e v (suc n) c = any-append (is_offer c) (outs (λ l. Final e l (v l)) n) (Final e n (v n) ∷ []) ∙ ap (λ b. b || false) (finals_offer_nothing e v n c)

pub finals_close : (e : ℕ) (v : ℕ → History) (n : ℕ) → 0 < n → closed_from e (outs (λ l. Final e l (v l)) n) ≡ suc e
finals_close e v zero l = absurd (omega (arith, l))
finals_close e v (suc zero) l = omega arith
finals_close e v (suc (suc n)) l =
    let r = finals_close e v (suc n) (omega arith) in
    closed-append e (outs (λ i. Final e i (v i)) (suc n)) (Final e (suc n) (v (suc n)) ∷ []) ∙ ap (λ m. max m (suc e)) r ∙ omega arith

pub finals_have : (e : ℕ) (v : ℕ → History) (u : History) (n : ℕ) (c : Command) → 0 < n → ((l : ℕ) → l < n → v l ≡ u) → is_closed (outs (λ l. Final e l (v l)) n) c ≡ has u c
finals_have e v u zero c l h = absurd (omega (arith, l))
finals_have e v u (suc zero) c l h = (λ i. has (h 0 l i) c || false) ∙ or_false (has u c) where
  or_false : (b : Bool) → (b || false) ≡ b
  or_false true = refl
  or_false false = refl
finals_have e v u (suc (suc n)) c l h =
    any-append (final_has c) (outs (λ i. Final e i (v i)) (suc n)) (Final e (suc n) (v (suc n)) ∷ [])
    ∙ (λ i. finals_have e v u (suc n) c (omega arith) (λ j q. h j (omega (arith, q))) i || (has (h (suc n) (omega arith) i) c || false))
    ∙ twice (has u c)
  where
    twice : (b : Bool) → (b || (b || false)) ≡ b
    twice true = refl
    twice false = refl
