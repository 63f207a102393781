use Rattle.gp_ending.proofs.Offering.{no_disk}
use Rattle.gp_ending.proofs.laws.a_proposer_has_no_disk.Goals as goal

pub returns : goal.returns
returns g c = λ j k proposer up kept. no_disk g.D.Disk.faults j k proposer up kept
