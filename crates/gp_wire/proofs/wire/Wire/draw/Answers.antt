use Rattle.std.proofs.Common.{rules, ap, ◌∙◌, sym, subst, refl}
use Rattle.gp_wire.specs.Rule.{IsSomebody}
use Rattle.gp_wire.proofs.Keeps.{draws}
use Rattle.gp_wire.proofs.wire.Wire.draw.Goals as goal

pub compare_exchange-found-requires : goal.compare_exchange-found-requires
compare_exchange-found-requires g c = let still = c.loop.invariant.2 in (
  search rules,
  search rules,
  draws _ _ _ _ _ _ _ (ap (λ m. m.0.standing) still ∙ c.requires.idle.0) (ap (λ m. m.0.olds) still ∙ c.requires.idle.1) (subst (λ m. IsSomebody m.0.nodes) (sym still) c.requires.idle.2) refl (search rules),
)
