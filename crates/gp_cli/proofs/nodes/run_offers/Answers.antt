use Rattle.std.proofs.Common.{List, ℕ, Option, Some, sym, subst}
use Rattle.gp_text.specs.Offering.{Offered}
use Rattle.gp_cli.specs.declared.subcommand.Subcommand.TheVariants.{Run}
use Rattle.gp_cli.specs.Outside.{disk_states}
use Rattle.gp_cli.specs.Run.{IsOffersCause}
use Rattle.gp_cli.specs.Serving.{KeepsUnused}
use Rattle.gp_cli.proofs.nodes.run_offers.Goals as goal

pub returns-in-Some-clause-others : goal.returns-in-Some-clause-others
returns-in-Some-clause-others g c =
    let old = disk_states g.D.Disk.content g.D.Disk.faults c.args.disks.items in
    let new = disk_states g.D.Disk.content g.D.Disk.faults c.run_viewed.result.disks.items in
    let P : Option (List ℕ) → Type 0 = λ viewed. KeepsUnused (Some (Run c.args.policy c.args.limit viewed)) (IsOffersCause c.args.policy c.args.limit viewed (Offered c.args.offers.now) old new) c.args.disks.items c.run_viewed.result.disks.items in
    subst P (sym c.in-Some.is) c.run_viewed.ensures.others
