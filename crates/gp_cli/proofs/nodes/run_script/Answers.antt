use Rattle.std.proofs.Common.{Some, sym, subst}
use Rattle.gp_text.specs.OfferAnswers.{Reads}
use Rattle.gp_text.specs.Offering.{OffersReading, offers_reading}
use Rattle.gp_cli.specs.declared.subcommand.Subcommand.TheVariants.{Run}
use Rattle.gp_cli.specs.Outside.{disk_states}
use Rattle.gp_cli.specs.Run.{IsOffersCause}
use Rattle.gp_cli.specs.Serving.{KeepsUnused}
use Rattle.gp_cli.proofs.NodesCauses.{kept_same}
use Rattle.gp_cli.proofs.nodes.run_script.Goals as goal

pub returns-in-Ok-clause-others : goal.returns-in-Ok-clause-others
returns-in-Ok-clause-others g c =
    let old = disk_states g.D.Disk.content g.D.Disk.faults c.args.disks.items in
    let new = disk_states g.D.Disk.content g.D.Disk.faults c.run_offers.result.disks.items in
    let P : OffersReading → Type 0 = λ read. KeepsUnused (Some (Run c.args.policy c.args.limit c.args.viewed)) (IsOffersCause c.args.policy c.args.limit c.args.viewed read old new) c.args.disks.items c.run_offers.result.disks.items in
    subst P (sym c.in-Ok.ensures.reads) c.run_offers.ensures.others

pub returns-in-Err-clause-ends : goal.returns-in-Err-clause-ends
returns-in-Err-clause-ends g c = c.refuse.ensures.ends c.args.policy c.args.limit c.args.viewed (offers_reading c.args.script.now) (subst (Reads (offers_reading c.args.script.now)) c.in-Err.is c.read_offers.ensures.reads)

pub returns-in-Err-clause-others : goal.returns-in-Err-clause-others
returns-in-Err-clause-others g c = kept_same (Some (Run c.args.policy c.args.limit c.args.viewed)) _ _ _ _ _ _ _ (returns-in-Err-clause-ends g c) c.refuse.ensures.disks
