use Rattle.std.proofs.Common.{List, [], ◌∷◌, sym, subst, refl}
use Rattle.atomic_table.specs.Table.{opening}
use Rattle.gp_wire.specs.Rule.{Slot, newcomer, Kept}
use Rattle.gp_wire.proofs.Parts.{opens}
use Rattle.gp_wire.proofs.wire.Wire.empty.Goals as goal

pub new-requires : goal.new-requires
new-requires g c = subst (λ (xs : List Slot). Kept (g.R.Rules.legal c.args.rules) c.in-Ok.copy.items (opening (0 ∷ 0 ∷ 0 ∷ []) xs (newcomer c.in-Ok.copy.items))) (sym c.in_ok-slots.ensures) (opens _ _ c.in-Ok.copy.items refl)
