use Rattle.std.proofs.Common.{rules, ap, ◌∙◌}
use Rattle.gp_wire.proofs.Keeps.{looks}
use Rattle.gp_wire.proofs.wire.Wire.wait.Goals as goal

pub load-served-requires : goal.load-served-requires
load-served-requires g c = let still = c.loop.invariant.2 in (search rules, search rules, looks _ _ _ _ _ c.args.ticket (ap (λ m. m.0.standing) still ∙ c.requires.waits))
