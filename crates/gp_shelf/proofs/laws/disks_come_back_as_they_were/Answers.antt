use Rattle.gp_shelf.proofs.Segments.{come_back}
use Rattle.gp_shelf.proofs.laws.disks_come_back_as_they_were.Goals as goal

pub returns : goal.returns
returns g c n a b disks twelve = come_back n disks twelve a b
