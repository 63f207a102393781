-- A join that has all commands of all values: no meet adds any.
use Rattle.std.proofs.Common.{◌≡◌, ℕ, ◌+◌, ◌<◌, Bool, true, ◌&&◌, List, [], ◌∷◌, ◌++◌, Some, None, inl, inr, refl, sym, ap, subst, ◌∙◌, arith}
use Rattle.std.specs.Prelude.{Option}
use Rattle.std.specs.List.{list_all}
use Rattle.std.specs.Option.{option_map}
use Rattle.std.proofs.lemmas.Bool.{cases_lt}
use Rattle.gp_command.specs.declared.command.Command.{Command}
use Rattle.gp_history.specs.History.{History, IsHistory, has}
use Rattle.gp_history.specs.Sequence.{history_of}
use Rattle.gp_history.specs.Canonical.{canonical}
use Rattle.gp_history.specs.Bounds.{join}
use Rattle.gp_history.proofs.Tests.{all_gives}
use Rattle.gp_history.proofs.Sets.{has_history_of}
use Rattle.gp_history.proofs.Joins.{history_of_is}
use Rattle.gp_history.proofs.Acyclic.{canonical_is}
use Rattle.gp_round.specs.Sets.{bit}
use Rattle.gp_safe.specs.Meets.{quorum_meet, quorum_meets, all_joined, with_meet}
use Rattle.gp_safe.specs.Covered.{HasValue, HasAllValues}
use Rattle.gp_safe.proofs.Meetings.{IsMeet}
use Rattle.gp_safe.proofs.Gathering.{one_more_meet}
use Rattle.gp_safe.proofs.Adding.{join_known}
use Rattle.gp_safe.proofs.Changing.{met}

pub covered : (xs ys : List Command) (o : Option History) → o ≡ Some (history_of ys) → list_all (has (history_of xs)) ys ≡ true → HasValue (history_of xs) o
covered xs ys o e all h f =
    let d : Some (history_of ys) ≡ Some h = sym e ∙ f in
    let same : history_of ys ≡ h = cc in
    subst (λ k. IsHistory k × ((c : Command) → has k c ≡ true → has (history_of xs) c ≡ true)) same
    (history_of_is ys, λ c t. all_gives (has (history_of xs)) ys c all (sym (has_history_of ys c) ∙ t))

pub covered_step : (j : History) (f : ℕ → Option History) (i : ℕ) → ((k : ℕ) → k < i → HasValue j (f k)) → HasValue j (f i) → (k : ℕ) → k < i + 1 → HasValue j (f k)
covered_step j f i all one k l = elim (cases_lt k i) [
  | inl u ↦ all k u
  | inr g ↦ let s : i ≡ k = omega (arith, l, g) in subst (λ n. HasValue j (f n)) s one
]

with_nothing : (o : Option History) → o ≡ with_meet o None
with_nothing None = refl
with_nothing (Some h) = refl

-- one mask more, whose meet need not be formed
pub covered_meet : (f : ℕ → Option History) (w : ℕ → Bool) (n : ℕ) (ms : List ℕ) (m : ℕ) (o : Option (List Command)) → option_map history_of o ≡ all_joined (quorum_meets f w n ms) → HasAllValues (option_map history_of o) f w n
    → option_map history_of o ≡ all_joined (quorum_meets f w n (ms ++ m ∷ []))
covered_meet f w n ms m None e all = absurd all
covered_meet f w n ms m (Some zs) e all = by (quorum_meet f w n m) refl where
  has_it : (mm : History) → IsMeet f (λ i. bit m i && w i) n mm → (c : Command) → has mm c ≡ true → has (history_of zs) c ≡ true
  has_it mm is c t = let s = is.some in let b = is.below s.0 s.1 s.2 in (all s.0 s.1 b.0 b.1).1 c (b.2.commands c t)

  by : (q : Option History) → quorum_meet f w n m ≡ q → Some (history_of zs) ≡ all_joined (quorum_meets f w n (ms ++ m ∷ []))
  by None q = e ∙ with_nothing (all_joined (quorum_meets f w n ms)) ∙ one_more_meet f w n ms m None (sym q)
  by (Some mm) q =
      let is = met f (λ i. bit m i && w i) n (λ i h l k. (all i l h k).0) mm q in
      let seq : history_of (canonical mm) ≡ mm = canonical_is mm is.history in
      ap Some (sym (join_known (history_of zs) mm (has_it mm is)))
      ∙ ap (λ h. Some (join (history_of zs) h)) (sym seq)
      ∙ ap (λ u. with_meet u (Some (history_of (canonical mm)))) e
      ∙ one_more_meet f w n ms m (Some (canonical mm)) (ap Some seq ∙ sym q)
