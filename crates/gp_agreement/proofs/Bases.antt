-- The values of the first Final messages, and their joins.
use Rattle.std.proofs.Common.{◌≡◌, ◌≤◌, ℕ, zero, suc, Bool, cond, nat_eq, List, [], ◌∷◌, ◌++◌, Option, Some, None, refl, sym, subst, ap, ◌∙◌, inl, inr, arith}
use Rattle.std.proofs.lemmas.Bool.{eq-eqb, eqb-true}
use Rattle.std.specs.Option.{option_or}
use Rattle.gp_history.specs.History.{History, IsHistory, IsPrefix}
use Rattle.gp_history.proofs.Tests.{by_cases}
use Rattle.gp_history.proofs.Prefix.{prefix_refl, prefix_trans}
use Rattle.gp_history.proofs.Bound.{empty_is_history, join_is_history, join_grows}
use Rattle.gp_cstructs.specs.CStructs.{Among}
use Rattle.gp_cstructs.proofs.Lists.{nat_cases}
use Rattle.gp_msg.specs.Messages.{Stamped, Offered, InEpoch, Final}
use Rattle.gp_run.specs.Learned.{final_value, first_final, joined_with, base}
use Rattle.gp_agreement.proofs.FinalsBelow.{HasFinal, Below}

-- the first Final of an epoch, if there is one
pub record FirstFinal (e : ℕ) (ms : List Stamped) : Type 0 where
  pub learner : ℕ
  pub value : History
  pub is : first_final e ms ≡ Some value
  pub there : Among ms (Final e learner value)

first_more : (e : ℕ) (m : Stamped) (ms : List Stamped) → final_value e m ≡ None → FirstFinal e ms → FirstFinal e (m ∷ ms)
first_more e m ms q k = record { learner = k.learner; value = k.value; is = ap (λ (o : Option History). option_or o (first_final e ms)) q ∙ k.is; there = inr k.there }

pub final_found : (e : ℕ) (ms : List Stamped) → HasFinal ms e → FirstFinal e ms
final_found e [] h = elim h.2 [ ]
final_found e (Offered c ∷ ms) h = elim h.2 [
  | inl q ↦ absurd (cc)
  | inr n ↦ first_more e (Offered c) ms refl (final_found e ms (h.0, h.1, n))
]
final_found e (InEpoch i m ∷ ms) h = elim h.2 [
  | inl q ↦ absurd (cc)
  | inr n ↦ first_more e (InEpoch i m) ms refl (final_found e ms (h.0, h.1, n))
]
final_found e (Final i l v ∷ ms) h = by_cases (nat_eq i e)
    (λ b. record {
      learner = l;
      value = v;
      is = ap (λ (t : Bool). option_or (cond t (Some v) None) (first_final e ms)) b;
      there = inl (ap (λ (j : ℕ). Final j l v) (eqb-true i e b));
    })
    (λ b. elim h.2 [
      | inl q ↦ absurd (let i_is : i ≡ e = cc in let t = eq-eqb i e i_is in cc)
      | inr n ↦ first_more e (Final i l v) ms (ap (λ (t : Bool). cond t (Some v) None) b) (final_found e ms (h.0, h.1, n))
    ])

pub first_there : (e : ℕ) (ms : List Stamped) (v : History) → first_final e ms ≡ Some v → (l : ℕ) × Among ms (Final e l v)
first_there e [] v q = absurd (cc)
first_there e (Offered c ∷ ms) v q = let t = first_there e ms v q in (t.0, inr t.1)
first_there e (InEpoch i m ∷ ms) v q = let t = first_there e ms v q in (t.0, inr t.1)
first_there e (Final i l u ∷ ms) v q = by_cases (nat_eq i e)
    (λ b.
    let same : Some u ≡ Some v = sym (ap (λ (t : Bool). option_or (cond t (Some u) None) (first_final e ms)) b) ∙ q in
    let is : u ≡ v = cc in
    (l, inl (λ k. Final (eqb-true i e b k) l (is k))))
    (λ b. let t = first_there e ms v (sym (ap (λ (t : Bool). option_or (cond t (Some u) None) (first_final e ms)) b) ∙ q) in (t.0, inr t.1))

option_or_assoc : (a b c : Option History) → option_or a (option_or b c) ≡ option_or (option_or a b) c
option_or_assoc None b c = refl
option_or_assoc (Some v) b c = refl

first_append : (e : ℕ) (ms ns : List Stamped) → first_final e (ms ++ ns) ≡ option_or (first_final e ms) (first_final e ns)
first_append e [] ns = refl
first_append e (m ∷ ms) ns = ap (option_or (final_value e m)) (first_append e ms ns) ∙ option_or_assoc (final_value e m) (first_final e ms) (first_final e ns)

-- more messages do not change the first Final
pub first_stays : (e : ℕ) (ms ns : List Stamped) → HasFinal ms e → first_final e (ms ++ ns) ≡ first_final e ms
first_stays e ms ns h = let k = final_found e ms h in first_append e ms ns ∙ ap (λ (o : Option History). option_or o (first_final e ns)) k.is ∙ sym k.is

-- nor the base of an epoch below which every epoch is closed
pub base_stays : (ms ns : List Stamped) (n : ℕ) → Below ms n → base (ms ++ ns) n ≡ base ms n
base_stays ms ns zero h = refl
base_stays ms ns (suc n) h = (λ k. joined_with (base_stays ms ns n (λ j less. h j (omega (arith, less))) k) (first_stays n ms ns (h n (omega arith)) k))

-- ---- if the values are histories

module _ (ms : List Stamped) (valid : (e l : ℕ) (v : History) → Among ms (Final e l v) → IsHistory v) where
  joined_history : (e : ℕ) (h : History) (o : Option History) → first_final e ms ≡ o → IsHistory h → IsHistory (joined_with h o)
  joined_history e h None q w = w
  joined_history e h (Some v) q w = let t = first_there e ms v q in join_is_history h v w (valid e t.0 v t.1)

  pub base_history : (n : ℕ) → IsHistory (base ms n)
  base_history zero = empty_is_history
  base_history (suc n) = joined_history n (base ms n) (first_final n ms) refl (base_history n)

  joined_grows : (h : History) (o : Option History) → IsHistory h → IsPrefix h (joined_with h o)
  joined_grows h None w = prefix_refl h w
  joined_grows h (Some v) w = join_grows h v w

  -- the base of an earlier epoch is a prefix of that of a later one
  pub base_grows : (n m : ℕ) → n ≤ m → IsPrefix (base ms n) (base ms m)
  base_grows n zero le = subst (λ (i : ℕ). IsPrefix (base ms n) (base ms i)) (let q : n ≡ 0 = omega (arith, le) in q) (prefix_refl (base ms n) (base_history n))
  base_grows n (suc m) le = elim (nat_cases n (suc m)) [
    | inl q ↦ subst (λ (i : ℕ). IsPrefix (base ms n) (base ms i)) q (prefix_refl (base ms n) (base_history n))
    | inr d ↦ prefix_trans (base ms n) (base ms m) (base ms (suc m)) (base_grows n m (lower n m le d)) (joined_grows (base ms m) (first_final m ms) (base_history m))
  ] where
    lower : (n m : ℕ) → n ≤ suc m → (n ≡ suc m → ⊥) → n ≤ m
    lower n m le d = omega arith
