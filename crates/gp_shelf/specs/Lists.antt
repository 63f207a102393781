-- Disks in their places, those of nodes, and the others.
use Rattle.std.specs.Prelude.{◌≡◌, ◌≤◌, ℕ, ◌+◌, ◌-◌, List, [], ◌++◌, take, drop, slice_get, vec_capacity}
use Rattle.std.specs.Global.{Vec}
use Rattle.gp_round.specs.Counts.{Counts}
use Rattle.gp_vlog.specs.Logs.{LogState}
use Rattle.gp_shelf.specs.Places.{IsOther}

-- the disks of the nodes with a log, in the order of these nodes
abbrev pub lent_of : {D : Type 0} → Counts → List D → List D
lent_of n disks = take n.acceptors disks ++ take n.coordinators (drop 7 disks)

-- the other disks, in the order of their places
abbrev pub unlent_of : {D : Type 0} → Counts → List D → List D
unlent_of n disks = take (7 - n.acceptors) (drop n.acceptors disks) ++ drop (7 + n.coordinators) disks

-- the others and those of the nodes, all in their places
abbrev pub shelved : {D : Type 0} → Counts → List D → List D → List D
shelved n unlent lent = take n.acceptors lent ++ take (7 - n.acceptors) unlent ++ drop n.acceptors lent ++ drop (7 - n.acceptors) unlent

-- the disks of no node are as before
abbrev pub KeepsOthers : {D : Type 0} → Counts → List D → List D → Type 0
KeepsOthers n old new = (i : ℕ) → IsOther n i → slice_get new i ≡ slice_get old i

abbrev pub disk_in : {D : Type 0} → LogState D → D
disk_in log = log.disk

-- a vector is empty, and has room for `count` elements
abbrev pub HasRoomFor : {D : Type 0} → ℕ → Vec D → Type 0
HasRoomFor count v = (v.items ≡ []) × (count ≤ vec_capacity v)
