-- What contracts see of a shelf, and its invariant.
use Rattle.std.specs.Prelude.{◌≡◌, ◌+◌, List, length}
use Rattle.std.specs.Global.{Vec}
use Rattle.gp_round.specs.Counts.{Counts}
use Rattle.gp_shelf.specs.Lists.{HasRoomFor}
use Rattle.gp_shelf.specs.Places.{logged}

-- the configuration whose nodes have the logs, and the disks of no node, in order
pub record ShelfState (D : Type 0) : Type 0 where
  pub config : Counts
  pub unlent : List D

-- twelve disks are kept or lent, and there is room for those that are lent, and for all
pub record IsWhole {D : Type 0} (config : Counts) (unlent : List D) (lent all : Vec D) : Type 0 where
  pub twelve : length unlent + logged config ≡ 12
  pub lent_room : HasRoomFor (logged config) lent
  pub all_room : HasRoomFor 12 all
