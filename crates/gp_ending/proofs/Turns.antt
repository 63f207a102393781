-- Which round comes next in an epoch, by how many were called for it.
use Rattle.std.proofs.Common.{◌≡◌, ◌⊎◌, inl, inr, ℕ, zero, suc, ◌+◌, ◌<◌, ◌≤◌, Bool, true, false, cond, ◌&&◌, List, [], ◌∷◌, ◌++◌, Some, None, refl, ap, ◌∙◌, subst, arith}
use Rattle.std.specs.Prelude.{nat_eq, nat_lt}
use Rattle.std.specs.Option.{option_map}
use Rattle.std.proofs.lemmas.Bool.{eq-eqb}
use Rattle.std.proofs.lemmas.Bool.Decides.{eqb_tells}
use Rattle.gp_round.specs.declared.round.Round.{Round}
use Rattle.gp_round.specs.Rounds.{earlier, is_multi, round_zero}
use Rattle.gp_phase.specs.declared.caller.Call.{Call}
use Rattle.gp_caller.specs.declared.policy.TheConstants.{FIRST_ROUND}
use Rattle.gp_round.specs.declared.config.TheConstants.{LAST_COUNT}
use Rattle.gp_caller.specs.Rounds.{next_round, multi_above, single_above}
use Rattle.gp_caller.specs.Calling.{call_in, called_for, highest_for}
use Rattle.gp_ending.specs.Begins.{clash_round}
use Rattle.gp_ending.proofs.Following.{some_is}

-- the highest of the first k rounds of an epoch
abbrev pub round_at : ℕ → Round
round_at zero = round_zero
round_at (suc zero) = FIRST_ROUND
round_at (suc (suc k)) = clash_round

-- the round is one of the two that are begun
abbrev pub IsOfTurn : Round → Type 0
IsOfTurn r = (r ≡ FIRST_ROUND) ⊎ (r ≡ clash_round)

-- ---- the next call

-- what is called in epoch e where k rounds were called for it
pub record Next (e k : ℕ) (clashed : Bool) (c : Call) : Type 0 where
  pub few : k ≤ 1
  pub call_is : c ≡ call_in e (round_at (suc k))
  pub answers : k ≡ 1 → clashed ≡ true

pub first_next : (e : ℕ) (own : Round) (clashed : Bool) (c : Call) → Some c ≡ option_map (call_in e) (next_round (highest_for 0 own) clashed 0) → Next e 0 clashed c
first_next e own clashed c h = record { few = omega arith; call_is = some_is h; answers = λ k. absurd (omega (arith, k)) }

second_next : (e : ℕ) (clashed : Bool) (c : Call) → Some c ≡ option_map (call_in e) (next_round FIRST_ROUND clashed 1) → Next e 1 clashed c
second_next e true c h = record { few = omega arith; call_is = some_is h; answers = λ k. refl }
second_next e false c h = absurd (cc)

pub differs : (n m : ℕ) → (n ≡ m → ⊥) → nat_eq n m ≡ false
differs n m other = elim (eqb_tells n m) [ inl t ↦ absurd (other t.1) | inr t ↦ t.0 ]

not_none : (k : ℕ) → nat_eq (suc (suc k)) 0 ≡ false
not_none k = differs (suc (suc k)) 0 (λ e. omega (arith, e))

not_one : (k : ℕ) → nat_eq (suc (suc k)) 1 ≡ false
not_one k = differs (suc (suc k)) 1 (λ e. omega (arith, e))

-- there is no third round
no_third : (k : ℕ) (clashed : Bool) → next_round clash_round clashed (suc (suc k)) ≡ None
no_third k clashed i =
    cond (nat_lt clash_round.count LAST_COUNT)
    (cond (not_none k i) (Some (multi_above clash_round)) (cond (not_one k i && clashed) (Some (single_above clash_round)) None))
    None

third_next : (e k : ℕ) (own : Round) (clashed : Bool) (c : Call) → own ≡ clash_round → Some c ≡ option_map (call_in e) (next_round (highest_for (suc (suc k)) own) clashed (suc (suc k))) → ⊥
third_next e k own clashed c o h =
    let high : highest_for (suc (suc k)) own ≡ clash_round = ap (λ b. cond b round_zero own) (not_none k) ∙ o in
    let nothing : Some c ≡ None = h ∙ ap (λ r. option_map (call_in e) (next_round r clashed (suc (suc k)))) high ∙ ap (option_map (call_in e)) (no_third k clashed) in
    cc

pub next_is : (e k : ℕ) (own : Round) (clashed : Bool) (c : Call) → own ≡ round_at k → Some c ≡ option_map (call_in e) (next_round (highest_for k own) clashed k) → Next e k clashed c
next_is e zero own clashed c o h = first_next e own clashed c h
next_is e (suc zero) own clashed c o h = second_next e clashed c (subst (λ r. Some c ≡ option_map (call_in e) (next_round r clashed 1)) o h)
next_is e (suc (suc k)) own clashed c o h = absurd (third_next e k own clashed c o h)

-- nothing more is called in epoch e: one round was called for it that has not clashed, or two were
pub none_next : (e k : ℕ) (own : Round) (clashed : Bool) → own ≡ round_at k → None ≡ option_map (call_in e) (next_round (highest_for k own) clashed k) → ((k ≡ 1) × (clashed ≡ false)) ⊎ (2 ≤ k)
none_next e zero own clashed o h = absurd (cc)
none_next e (suc zero) own clashed o h = inl (refl, by_test clashed (subst (λ r. None ≡ option_map (call_in e) (next_round r clashed 1)) o h)) where
  by_test : (b : Bool) → None ≡ option_map (call_in e) (next_round FIRST_ROUND b 1) → b ≡ false
  by_test true n = absurd (cc)
  by_test false n = refl
none_next e (suc (suc k)) own clashed o h = inr (omega arith)

-- ---- the order of the two rounds

pub turn_is : (k : ℕ) → 0 < k → IsOfTurn (round_at k)
turn_is zero l = absurd (omega (arith, l))
turn_is (suc zero) l = inl refl
turn_is (suc (suc k)) l = inr refl

-- a round that begins is above the coordinator's own
pub next_is_above : (k : ℕ) → k ≤ 1 → earlier (round_at k) (round_at (suc k)) ≡ true
next_is_above zero l = refl
next_is_above (suc zero) l = refl
next_is_above (suc (suc k)) l = absurd (omega (arith, l))

-- no round that was asked for raises a coordinator that has begun one
pub none_raises : (k : ℕ) (r : Round) → 0 < k → IsOfTurn r → (is_multi r.mode && earlier (round_at k) r) ≡ false
none_raises zero r l h = absurd (omega (arith, l))
none_raises (suc zero) r l (inl e) = ap (λ q. is_multi q.mode && earlier FIRST_ROUND q) e
none_raises (suc zero) r l (inr e) = ap (λ q. is_multi q.mode && earlier FIRST_ROUND q) e
none_raises (suc (suc k)) r l (inl e) = ap (λ q. is_multi q.mode && earlier clash_round q) e
none_raises (suc (suc k)) r l (inr e) = ap (λ q. is_multi q.mode && earlier clash_round q) e

pub first_is_not_clash : FIRST_ROUND ≡ clash_round → ⊥
first_is_not_clash e = let counts : FIRST_ROUND.count ≡ clash_round.count = ap (λ (r : Round). r.count) e in omega (arith, counts)

-- the same round comes at one turn only
pub one_turn : (i k : ℕ) → 0 < i → i ≤ k → k ≤ 1 → round_at i ≡ round_at (suc k) → ⊥
one_turn zero k l m n e = omega (arith, l)
one_turn (suc zero) zero l m n e = omega (arith, m)
one_turn (suc zero) (suc zero) l m n e = first_is_not_clash e
one_turn (suc zero) (suc (suc k)) l m n e = omega (arith, n)
one_turn (suc (suc i)) k l m n e = omega (arith, m, n)

pub only_second : (k : ℕ) → k ≤ 1 → round_at (suc k) ≡ clash_round → k ≡ 1
only_second zero l e = absurd (first_is_not_clash e)
only_second (suc zero) l e = refl
only_second (suc (suc k)) l e = absurd (omega (arith, l))

-- ---- how many were called for an epoch

pub called_append : (e : ℕ) (xs ys : List Call) → called_for e (xs ++ ys) ≡ called_for e xs + called_for e ys
called_append e [] ys = omega arith
called_append e (x ∷ xs) ys = let h = called_append e xs ys in omega arith

pub called_here : (e : ℕ) (r : Round) (xs : List Call) → called_for e (xs ++ call_in e r ∷ []) ≡ suc (called_for e xs)
called_here e r xs =
    called_append e xs (call_in e r ∷ [])
    ∙ ap (λ b. called_for e xs + (cond b 1 0 + 0)) (eq-eqb e e refl)
    ∙ (let one : called_for e xs + (1 + 0) ≡ suc (called_for e xs) = omega arith in one)

pub called_there : (e n : ℕ) (r : Round) (xs : List Call) → (n ≡ e → ⊥) → called_for e (xs ++ call_in n r ∷ []) ≡ called_for e xs
called_there e n r xs other =
    called_append e xs (call_in n r ∷ [])
    ∙ ap (λ b. called_for e xs + (cond b 1 0 + 0)) (differs n e other)
    ∙ (let none : called_for e xs + (0 + 0) ≡ called_for e xs = omega arith in none)

pub called_more : (e : ℕ) (xs ys : List Call) → called_for e xs ≤ called_for e (xs ++ ys)
called_more e xs ys = let h = called_append e xs ys in omega arith
