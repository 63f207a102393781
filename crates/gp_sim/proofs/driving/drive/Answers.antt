use Rattle.std.proofs.Common.{sym, ap, subst}
use Rattle.gp_world.specs.State.{WorldState}
use Rattle.gp_driver.specs.Driven.{AreNoCheckpoints}
use Rattle.gp_sim.proofs.Puts.{puts_are_plain, driven_short}
use Rattle.gp_sim.proofs.driving.drive.Goals as goal

pub drive_multi-requires-clause-plain : goal.drive_multi-requires-clause-plain
drive_multi-requires-clause-plain g c = subst AreNoCheckpoints (sym c.in_ok-drafts.ensures) (puts_are_plain c.args.commands)

pub drive_multi-requires-clause-room : goal.drive_multi-requires-clause-room
drive_multi-requires-clause-room g c =
    driven_short c.args.config c.in_ok-world.world.config c.in_ok-drafts.drafts.items c.args.commands c.requires.few c.in_range.ensures c.requires.three (ap (λ (w : WorldState). w.config) c.in_ok-world.ensures) c.in_ok-drafts.ensures
