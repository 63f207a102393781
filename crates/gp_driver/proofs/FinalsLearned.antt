-- A learner past an epoch shows what the Final messages of that epoch have.
use Rattle.std.proofs.Common.{◌≡◌, ℕ, zero, suc, ◌<◌, Bool, true, false, cond, List, [], ◌∷◌, Some, None, inl, inr, refl, sym, ap, ◌∙◌, subst, arith}
use Rattle.std.specs.Prelude.{Option, nat_eq, slice_get}
use Rattle.std.proofs.lemmas.Bool.{eq-eqb, eqb-true, cases_eq}
use Rattle.std.specs.Option.{option_or}
use Rattle.gp_command.specs.declared.command.Command.{Command}
use Rattle.gp_history.specs.History.{History, IsHistory, has}
use Rattle.gp_history.proofs.Tests.{left_of, right_of}
use Rattle.gp_history.proofs.Bound.{join_is_history, has-join, empty_is_history}
use Rattle.gp_round.specs.Counts.{Counts}
use Rattle.gp_msg.specs.Messages.{Stamped, Offered, InEpoch, Final, Entry}
use Rattle.gp_run.specs.Messages.{messages}
use Rattle.gp_run.specs.States.{learner_at}
use Rattle.gp_run.specs.Learned.{learned_at, base_at, base, joined_with, first_final}
use Rattle.gp_run.specs.Agreement.{Agrees, IsLearned}
use Rattle.gp_driver.proofs.Closings.{AllSound}
use Rattle.gp_driver.proofs.Offers.{contained}

-- the first Final message of an epoch
pub record FirstFinal (e : ℕ) (ms : List Stamped) (w : History) : Type 0 where
  pub place : ℕ
  pub learner : ℕ
  pub there : slice_get ms place ≡ Some (Final e learner w)

later : (e : ℕ) (m : Stamped) (ms : List Stamped) (w : History) → FirstFinal e ms w → FirstFinal e (m ∷ ms) w
later e m ms w f = record { place = suc f.place; learner = f.learner; there = f.there }

first_stands : (e : ℕ) (ms : List Stamped) (w : History) → first_final e ms ≡ Some w → FirstFinal e ms w
first_stands e [] w h = cc
first_stands e (Offered c ∷ ms) w h = later e (Offered c) ms w (first_stands e ms w h)
first_stands e (InEpoch i m ∷ ms) w h = later e (InEpoch i m) ms w (first_stands e ms w h)
first_stands e (Final i l v ∷ ms) w h = by (nat_eq i e) refl h (first_stands e ms w) where
  by : (b : Bool) → nat_eq i e ≡ b → option_or (cond b (Some v) None) (first_final e ms) ≡ Some w → (first_final e ms ≡ Some w → FirstFinal e ms w) → FirstFinal e (Final i l v ∷ ms) w
  by true q t more = record { place = 0; learner = l; there = (let is : v ≡ w = cc in λ j. Some (Final (eqb-true i e q j) l (is j))) }
  by false q t more = later e (Final i l v) ms w (more t)

there_is_one : (e : ℕ) (ms : List Stamped) (k l : ℕ) (v : History) → slice_get ms k ≡ Some (Final e l v) → first_final e ms ≡ None → ⊥
there_is_one e [] k l v h n = cc
there_is_one e (Offered c ∷ ms) zero l v h n = cc
there_is_one e (Offered c ∷ ms) (suc k) l v h n = there_is_one e ms k l v h n
there_is_one e (InEpoch i m ∷ ms) zero l v h n = cc
there_is_one e (InEpoch i m ∷ ms) (suc k) l v h n = there_is_one e ms k l v h n
there_is_one e (Final i j w ∷ ms) zero l v h n = here (let is : i ≡ e = cc in eq-eqb i e is) where
  here : nat_eq i e ≡ true → ⊥
  here q = let bad : Some w ≡ None = sym (ap (λ b. option_or (cond b (Some w) None) (first_final e ms)) q) ∙ n in cc
there_is_one e (Final i j w ∷ ms) (suc k) l v h n = there_is_one e ms k l v h (rest (nat_eq i e) n) where
  rest : (b : Bool) → option_or (cond b (Some w) None) (first_final e ms) ≡ None → first_final e ms ≡ None
  rest true t = cc
  rest false t = t

-- ---- what epochs gave

module _ (ms : List Stamped) (sound : AllSound ms) where
  with_one : (h : History) (e : ℕ) (o : Option History) → first_final e ms ≡ o → IsHistory h → IsHistory (joined_with h o)
  with_one h e None q w = w
  with_one h e (Some v) q w = let f = first_stands e ms v q in join_is_history h v w (sound f.place (Final e f.learner v) f.there)

  pub base_is_history : (n : ℕ) → IsHistory (base ms n)
  base_is_history zero = empty_is_history
  base_is_history (suc n) = with_one (base ms n) n (first_final n ms) refl (base_is_history n)

  module _ (same : (e l i : ℕ) (v w : History) (j k : ℕ) → slice_get ms j ≡ Some (Final e l v) → slice_get ms k ≡ Some (Final e i w) → v ≡ w) where
    pub in_base : (n e l k : ℕ) (v : History) (c : Command) → slice_get ms k ≡ Some (Final e l v) → e < n → has v c ≡ true → has (base ms n) c ≡ true
    in_base zero e l k v c h lt t = absurd (omega (arith, lt))
    in_base (suc n) e l k v c h lt t = elim (cases_eq e n) [
      | inl q ↦ newest (first_final n ms) refl (subst (λ i. slice_get ms k ≡ Some (Final i l v)) q h)
      | inr q ↦ older (first_final n ms) refl (in_base n e l k v c h (omega (arith, lt, q)) t)
    ] where
      newest : (o : Option History) → first_final n ms ≡ o → slice_get ms k ≡ Some (Final n l v) → has (joined_with (base ms n) o) c ≡ true
      newest None q s = absurd (there_is_one n ms k l v s q)
      newest (Some w) q s =
          let f = first_stands n ms w q in
          let is : v ≡ w = same n l f.learner v w k f.place s f.there in
          has-join (base ms n) w (base_is_history n) (sound f.place (Final n f.learner w) f.there) c ∙ right_of (has (base ms n) c) (has w c) (ap (λ u. has u c) (sym is) ∙ t)

      older : (o : Option History) → first_final n ms ≡ o → has (base ms n) c ≡ true → has (joined_with (base ms n) o) c ≡ true
      older None q s = s
      older (Some w) q s =
          let f = first_stands n ms w q in
          has-join (base ms n) w (base_is_history n) (sound f.place (Final n f.learner w) f.there) c ∙ left_of (has (base ms n) c) (has w c) s

pub finals_are_learned : (config : Counts) (es : List Entry) → Agrees config es → AllSound (messages es) → (l k e i : ℕ) (v : History) (c : Command)
    → slice_get (messages es) k ≡ Some (Final e i v) → e < (learner_at config l es).epoch → has v c ≡ true → has (learned_at config l es) c ≡ true
finals_are_learned config es agrees sound l k e i v c h lt t =
    let is : IsLearned config es l = agrees.learned [] es refl l in
    let same = λ (e : ℕ) (l i : ℕ) (v w : History) (j k : ℕ) (a : slice_get (messages es) j ≡ Some (Final e l v)) (b : slice_get (messages es) k ≡ Some (Final e i w)). agrees.one_final e l i v w (contained (messages es) j (Final e l v) a) (contained (messages es) k (Final e i w) b) in
    ap (λ u. has u c) is.joined
    ∙ has-join (base_at config l es) is.part (base_is_history (messages es) sound (learner_at config l es).epoch) is.bound.history c
    ∙ left_of (has (base_at config l es) c) (has is.part c) (in_base (messages es) sound same (learner_at config l es).epoch e i k v c h lt t)
