use Rattle.gp_shelf.specs.Lists.{unlent_of}
use Rattle.gp_shelf.proofs.Segments.{shelved_at, others_stay, length-unlent}
use Rattle.gp_shelf.proofs.laws.each_disk_is_given_back_in_its_place.Goals as goal

pub returns-clause-nodes : goal.returns-clause-nodes
returns-clause-nodes g c n a b disks lent twelve many k within =
    shelved_at n (unlent_of n disks) lent a b (length-unlent n disks twelve a b) many k within

pub returns-clause-others : goal.returns-clause-others
returns-clause-others g c n a b disks lent twelve many i other = others_stay n disks lent a b twelve many i other
