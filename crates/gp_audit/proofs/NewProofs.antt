-- Proofs that are added, one command after another.
use Rattle.std.proofs.Common.{◌≡◌, ℕ, ◌+◌, true, cond, List, [], ◌∷◌, ◌++◌, length, take, drop, Some, None, refl, sym, ap, ◌∙◌}
use Rattle.std.specs.Prelude.{Option, Result, Ok, Err, OnErr, slice_get}
use Rattle.std.proofs.Math.Seq.{take-append_seam}
use Rattle.std.specs.List.{filter_map, cons_option, list_all}
use Rattle.std.specs.Option.{option_map}
use Rattle.std.proofs.lemmas.List.{append_assoc, append-nil, take-append-drop}
use Rattle.std.proofs.lemmas.List.Elements.{filter_map-append}
use Rattle.gp_command.specs.declared.command.Command.{Command}
use Rattle.gp_history.specs.History.{History, has}
use Rattle.gp_history.proofs.Places.{take_next}
use Rattle.gp_history.proofs.Tests.{fst_of, snd_of}
use Rattle.gp_audit.specs.declared.proof.Proof.{Proof}
use Rattle.gp_audit.specs.declared.proof.Cause.{Cause}
use Rattle.gp_audit.specs.Noting.{new_proofs, proof_of}

-- what holds in any case holds of a refusal
pub on_err : {X E : Type 0} (r : Result X E) {P : Type 0} → P → OnErr r P
on_err (Ok x) p = tt
on_err (Err e) p = p

module _ (h : Command → Option Proof) where
  one_more : (cs : List Command) (i : ℕ) (d : Command) → slice_get cs i ≡ Some d → filter_map h (take (i + 1) cs) ≡ filter_map h (take i cs) ++ cons_option (h d) []
  one_more cs i d is = ap (filter_map h) (take_next cs i d is) ∙ filter_map-append h (take i cs) (d ∷ [])

  -- one more command, with a proof
  pub proof_pushed : (cs : List Command) (i : ℕ) (d : Command) (before now new : List Proof) (p : Proof) → slice_get cs i ≡ Some d → now ≡ before ++ filter_map h (take i cs)
      → Some p ≡ h d → new ≡ now ++ p ∷ [] → new ≡ before ++ filter_map h (take (i + 1) cs)
  proof_pushed cs i d before now new p is e found more =
      more ∙ ap (λ x. x ++ p ∷ []) e ∙ append_assoc before (filter_map h (take i cs)) (p ∷ [])
      ∙ ap (λ x. before ++ x) (ap (λ o. filter_map h (take i cs) ++ cons_option o []) found ∙ sym (one_more cs i d is))

  -- one more command without a proof
  pub proof_passed : (cs : List Command) (i : ℕ) (d : Command) (before now : List Proof) → slice_get cs i ≡ Some d → now ≡ before ++ filter_map h (take i cs)
      → None ≡ h d → now ≡ before ++ filter_map h (take (i + 1) cs)
  proof_passed cs i d before now is e none =
      e ∙ ap (λ x. before ++ x) (sym (append-nil (filter_map h (take i cs))) ∙ ap (λ o. filter_map h (take i cs) ++ cons_option o []) none ∙ sym (one_more cs i d is))

  -- the proofs of some first commands are the first ones
  pub first_proofs : (cs : List Command) (i : ℕ) (before now new : List Proof) → now ≡ before ++ filter_map h (take i cs) → new ≡ now → (n : ℕ) × (new ≡ before ++ take n (filter_map h cs))
  first_proofs cs i before now new e same =
      let front = filter_map h (take i cs) in
      let whole : filter_map h cs ≡ front ++ filter_map h (drop i cs) = ap (filter_map h) (sym (take-append-drop i cs)) ∙ filter_map-append h (take i cs) (drop i cs) in
      (length front, same ∙ e ∙ ap (λ x. before ++ x) (sym (ap (take (length front)) whole ∙ take-append_seam front (filter_map h (drop i cs)))))

module _ (known : History) (at : ℕ) (why : Command → Option Cause) where
  -- if all commands are known there is none
  none_new : (cs : List Command) → list_all (has known) cs ≡ true → new_proofs known at why cs ≡ []
  none_new [] h = refl
  none_new (c ∷ cs) h =
      ap (λ b. cons_option (cond b None (option_map (proof_of at c) (why c))) (new_proofs known at why cs)) (fst_of (has known c) (list_all (has known) cs) h)
      ∙ none_new cs (snd_of (has known c) (list_all (has known) cs) h)

  pub none_added : (cs : List Command) (ps : List Proof) → list_all (has known) cs ≡ true → ps ≡ ps ++ new_proofs known at why cs
  none_added cs ps h = sym (append-nil ps) ∙ ap (λ x. ps ++ x) (sym (none_new cs h))
