use Rattle.gp_shelf.proofs.Segments.{lent_at}
use Rattle.gp_shelf.proofs.laws.each_node_is_lent_its_own_disk.Goals as goal

pub returns : goal.returns
returns g c n a b disks twelve k within = lent_at n disks k twelve a within
