-- The drafts that are driven.
use Rattle.std.proofs.Common.{◌≡◌, ◌+◌, ◌<◌, ◌≤◌, ◌++◌, ℕ, List, [], ◌∷◌, length, false, get_or, refl, sym, ap, ◌∙◌, subst, arith}
use Rattle.std.specs.Prelude.{codes}
use Rattle.std.proofs.lemmas.List.FromFn.{map-range_with_len_more, length-map-range_with_len, get_or-map-range_with_len}
use Rattle.gp_command.specs.declared.draft.Draft.{Draft}
use Rattle.gp_round.specs.Counts.{Counts}
use Rattle.gp_round.specs.Ranges.{AreInRange}
use Rattle.gp_store.specs.declared.op.Op.TheVariants.{Put}
use Rattle.gp_store.specs.Operations.{draft_for}
use Rattle.gp_driver.specs.Driving.{drive_multi}
use Rattle.gp_driver.specs.Driven.{AreNoCheckpoints}
use Rattle.gp_driver.proofs.DrivingCode.{drives}
use Rattle.gp_driver.proofs.Lengths.{driven_length}
use Rattle.gp_sim.specs.Driven.{puts}

abbrev pub put : ℕ → Draft
put before = draft_for (Put (codes "k") (before + 1))

pub puts_more : (n : ℕ) (draft : Draft) → draft ≡ put n → puts n ++ draft ∷ [] ≡ puts (n + 1)
puts_more n draft is = ap (λ (d : Draft). puts n ++ d ∷ []) is ∙ sym (map-range_with_len_more put 0 n n (omega arith))

pub puts_length : (n : ℕ) → length (puts n) ≡ n
puts_length n = length-map-range_with_len put 0 n

plain : (n k : ℕ) (d : Draft) → k < n → (get_or (puts n) k d).checkpoint ≡ false
plain n k d lt = ap (λ (x : Draft). x.checkpoint) (get_or-map-range_with_len put 0 n k k d lt (omega arith)) ∙ refl

pub puts_are_plain : (n : ℕ) → AreNoCheckpoints (puts n)
puts_are_plain n = λ k d lt. let all = puts_length n in plain n k d (omega (arith, all, lt))

-- these are few enough
module _ (config own : Counts) (drafts : List Draft) (n : ℕ) where
  pub driven_short : n ≤ 64 → AreInRange config.acceptors config.coordinators config.learners → config.coordinators ≡ 3 → own ≡ config → drafts ≡ puts n → length (drive_multi own drafts) ≤ 2147483648
  driven_short few range three same are =
      let l = driven_length config range (puts n) (drives config (puts n) range three (puts_are_plain n)) in
      let all = puts_length n in
      let P : Counts → List Draft → Type 0 = λ c ds. length (drive_multi c ds) ≤ 2147483648 in
      subst (λ (c : Counts). P c drafts) (sym same) (subst (P config) (sym are) (omega (arith, l, all, few)))
