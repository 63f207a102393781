-- The durable parts that a node had, and its log.
use Rattle.std.specs.Prelude.{◌≡◌, ◌≢◌, ◌⊎◌, List, [], ◌∷◌, ◌++◌, map, Option, Some, None}
use Rattle.gp_round.specs.Counts.{Counts}
use Rattle.gp_msg.specs.declared.node.Node.{Node}
use Rattle.gp_msg.specs.declared.record.Record.{Record}
use Rattle.gp_msg.specs.Messages.{EpochPart, Entry, part_of}
use Rattle.gp_run.specs.Runs.{newest_first}
use Rattle.gp_vlog.specs.Logs.{LogState}
use Rattle.gp_cell.specs.Cores.{core_at, part_in}

-- one more part, if the part has changed
abbrev pub Grows : Option EpochPart → Option EpochPart → List EpochPart → List EpochPart → Type 0
Grows before after ps qs = ((after ≡ before) × (qs ≡ ps)) ⊎ ((p : EpochPart) × (after ≡ Some p) × (before ≢ Some p) × (qs ≡ ps ++ p ∷ []))

-- the durable parts of a node after those of its own entries that changed the part, the oldest first. A run is a list of entries, the newest first
abbrev pub AreParts : Counts → Node → List Entry → List EpochPart → Type 0
AreParts config n [] qs = qs ≡ []
AreParts config n (e ∷ es) qs = (ps : List EpochPart) × AreParts config n es ps × Grows (part_in (core_at config n es)) (part_in (core_at config n (e ∷ es))) ps qs

-- the entries of a log are the last of these parts
pub record HoldsLast (config : Counts) (n : Node) (es : List Entry) (entries : List EpochPart) : Type 0 where
  pub parts : List EpochPart
  pub are : AreParts config n es parts
  pub front : List EpochPart
  pub split : parts ≡ front ++ entries

-- the log of a node, if it has one, holds the last durable parts that the node had after these records
abbrev pub HoldsLastParts : {D : Type 0} → Counts → Node → List Record → Option (LogState D) → Type 0
HoldsLastParts config n seen None = Unit {0}
HoldsLastParts config n seen (Some log) = HoldsLast config n (newest_first seen) (map part_of log.entries)
