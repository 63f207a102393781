-- How many of the checkpoints that were offered are open.
use Rattle.std.proofs.Common.{◌≡◌, ℕ, suc, ◌+◌, ◌<◌, ◌≤◌, Bool, true, false, cond, ◌&&◌, List, [], ◌∷◌, ◌++◌, refl, sym, ◌∙◌, arith}
use Rattle.std.specs.Prelude.{not}
use Rattle.gp_command.specs.declared.command.Command.{Command}
use Rattle.gp_command.specs.Conflict.{same}
use Rattle.gp_command.proofs.ConflictLemmas.{same_itself, same-true}
use Rattle.gp_history.proofs.Tests.{left_of, one_of, never}
use Rattle.gp_msg.specs.Messages.{Stamped, Offered, InEpoch, Final}
use Rattle.gp_driver.specs.Settling.{checkpoints, is_checkpoint}
use Rattle.gp_driver.proofs.Offers.{is_offer, is_offered}

-- a checkpoint that is offered, and is none of the closed ones
abbrev pub is_open : (Command → Bool) → Stamped → Bool
is_open p (Offered c) = c.draft.checkpoint && not (p c)
is_open p (InEpoch e m) = false
is_open p (Final e l v) = false

abbrev pub opens : (Command → Bool) → List Stamped → ℕ
opens p [] = 0
opens p (m ∷ ms) = cond (is_open p m) (suc (opens p ms)) (opens p ms)

abbrev one : Bool → ℕ
one b = cond b 1 0

count : (b : Bool) (n : ℕ) → cond b (suc n) n ≡ one b + n
count true n = omega arith
count false n = omega arith

pub opens-append : (p : Command → Bool) (xs ys : List Stamped) → opens p (xs ++ ys) ≡ opens p xs + opens p ys
opens-append p [] ys = omega arith
opens-append p (m ∷ xs) ys = let r = opens-append p xs ys in let a = count (is_open p m) (opens p (xs ++ ys)) in let b = count (is_open p m) (opens p xs) in omega (arith, r, a, b)

pub nothing_opens : (p : Command → Bool) (ms : List Stamped) → ((c : Command) → is_offered ms c ≡ false) → opens p ms ≡ 0
nothing_opens p [] h = refl
nothing_opens p (Offered d ∷ ms) h = absurd (never (is_offered (Offered d ∷ ms) d) (left_of (same d d) (is_offered ms d) (same_itself d)) (h d))
nothing_opens p (InEpoch e m ∷ ms) h = nothing_opens p ms h
nothing_opens p (Final e l v ∷ ms) h = nothing_opens p ms h

-- ---- fewer are open where more are closed

less_open : (p q : Command → Bool) → ((c : Command) → p c ≡ true → q c ≡ true) → (m : Stamped) → one (is_open q m) ≤ one (is_open p m)
less_open p q h (Offered c) = by c.draft.checkpoint (p c) (q c) (h c) where
  by : (b x y : Bool) → (x ≡ true → y ≡ true) → one (b && not y) ≤ one (b && not x)
  by false x y f = omega arith
  by true true true f = omega arith
  by true false true f = omega arith
  by true false false f = omega arith
  by true true false f = absurd (let bad = f refl in cc)
less_open p q h (InEpoch e m) = omega arith
less_open p q h (Final e l v) = omega arith

pub fewer : (p q : Command → Bool) → ((c : Command) → p c ≡ true → q c ≡ true) → (ms : List Stamped) → opens q ms ≤ opens p ms
fewer p q h [] = omega arith
fewer p q h (m ∷ ms) =
    let r = fewer p q h ms in
    let s = less_open p q h m in
    let a = count (is_open q m) (opens q ms) in
    let b = count (is_open p m) (opens p ms) in
    omega (arith, r, s, a, b)

-- one offered checkpoint is closed that was open
pub one_fewer : (p q : Command → Bool) → ((c : Command) → p c ≡ true → q c ≡ true) → (z : Command) → z.draft.checkpoint ≡ true → p z ≡ false → q z ≡ true → (ms : List Stamped) → is_offered ms z ≡ true → opens q ms < opens p ms
one_fewer p q h z mark was is [] t = absurd cc
one_fewer p q h z mark was is (m ∷ ms) t =
    let s = less_open p q h m in
    let a = count (is_open q m) (opens q ms) in
    let b = count (is_open p m) (opens p ms) in
    one_of (is_offer z m) (is_offered ms z) t
    (λ here. let r = fewer p q h ms in let x = now m here in omega (arith, r, x, a, b))
    (λ there. let r = one_fewer p q h z mark was is ms there in omega (arith, r, s, a, b))
  where
    of_z : (c : Command) → c ≡ z → one (is_open q (Offered c)) < one (is_open p (Offered c))
    of_z c e =
        let x : one (is_open q (Offered c)) ≡ 0 = (λ i. one ((e i).draft.checkpoint && not (q (e i)))) ∙ (λ i. one (mark i && not (is i))) in
        let y : one (is_open p (Offered c)) ≡ 1 = (λ i. one ((e i).draft.checkpoint && not (p (e i)))) ∙ (λ i. one (mark i && not (was i))) in
        omega (arith, x, y)

    now : (m : Stamped) → is_offer z m ≡ true → one (is_open q m) < one (is_open p m)
    now (Offered c) e = of_z c (sym (same-true z c e))
    now (InEpoch e m) f = absurd cc
    now (Final e l v) f = absurd cc

-- ---- of all checkpoints

pub all_open : (ms : List Stamped) → opens (λ c. false) ms ≡ checkpoints ms
all_open [] = refl
all_open (m ∷ ms) = (λ i. cond (same_test m i) (suc (all_open ms i)) (all_open ms i)) where
  and_true : (b : Bool) → (b && true) ≡ b
  and_true true = refl
  and_true false = refl

  same_test : (m : Stamped) → is_open (λ c. false) m ≡ is_checkpoint m
  same_test (Offered c) = and_true c.draft.checkpoint
  same_test (InEpoch e m) = refl
  same_test (Final e l v) = refl

pub fewer_than_all : (q : Command → Bool) (z : Command) → z.draft.checkpoint ≡ true → q z ≡ true → (ms : List Stamped) → is_offered ms z ≡ true → opens q ms < checkpoints ms
fewer_than_all q z mark is ms t =
    let r = one_fewer (λ c. false) q (λ c e. absurd cc) z mark refl is ms t in
    let a = all_open ms in
    omega (arith, r, a)
