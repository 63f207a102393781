-- The round that was called last for an epoch, once one more is called.
use Rattle.std.proofs.Common.{◌≡◌, ℕ, cond, List, [], ◌∷◌, ◌++◌, Some, None, ap}
use Rattle.std.specs.Prelude.{nat_eq}
use Rattle.gp_phase.specs.declared.caller.Call.{Call}
use Rattle.gp_caller.specs.Adapting.{first_there, last_for}
use Rattle.gp_ending.proofs.Turns.{differs}

pub last_there : (e : ℕ) (xs : List Call) (c : Call) → (c.epoch ≡ e → ⊥) → last_for e (xs ++ c ∷ []) ≡ last_for e xs
last_there e [] c other = ap (λ b. cond b (Some c.round) None) (differs c.epoch e other)
last_there e (x ∷ xs) c other = ap (λ o. first_there o (cond (nat_eq x.epoch e) (Some x.round) None)) (last_there e xs c other)
