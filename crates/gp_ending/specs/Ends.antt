-- Which fault decides how a run of nodes ends.
use Rattle.std.specs.Prelude.{◌≡◌, ◌<◌, ◌≤◌, ℕ, cond, nat_lt, List, [], ◌∷◌, slice_get, Option, Some, None}
use Rattle.gp_work.specs.declared.faults.JobFault.{JobFault}
use Rattle.gp_work.specs.declared.faults.JobFault.TheVariants as fault
use Rattle.gp_work.specs.declared.job.Job.{Job}
use Rattle.gp_ending.specs.declared.ends.RunEnd.{RunEnd}
use Rattle.gp_ending.specs.declared.ends.RunEnd.TheVariants.{Learned, NoMemory, Disk, Full, NotLog, Changed}

-- how a run ends if this fault decides
abbrev pub end_of : JobFault → RunEnd
end_of fault.NoMemory = NoMemory
end_of fault.Disk = Disk
end_of (fault.Full size need) = Full size need
end_of (fault.NotLog at) = NotLog at
end_of (fault.Changed found) = Changed

-- the order in which ends decide
abbrev pub rank : RunEnd → ℕ
rank NoMemory = 0
rank Disk = 1
rank (Full size need) = 2
rank (NotLog at) = 3
rank Changed = 4
rank Learned = 5

-- the end of lower rank, and the first if both have the same rank
abbrev pub sooner : RunEnd → Option RunEnd → RunEnd
sooner first None = first
sooner first (Some second) = cond (nat_lt (rank second) (rank first)) second first

abbrev pub fault_in : {P : Type 0} → Job P → Option JobFault
fault_in j = j.fault

-- what decides, given one fault or none, and what decides among the others
abbrev pub with_fault : Option JobFault → Option RunEnd → Option RunEnd
with_fault None rest = rest
with_fault (Some f) rest = Some (sooner (end_of f) rest)

-- the end that these faults decide, if there is one
abbrev pub deciding : List (Option JobFault) → Option RunEnd
deciding [] = None
deciding (f ∷ fs) = with_fault f (deciding fs)

-- this end is that of a fault: no fault has a lower rank, and none before it has the same one
pub record Decides (faults : List (Option JobFault)) (end : RunEnd) : Type 0 where
  pub place : ℕ
  pub fault : JobFault
  pub there : slice_get faults place ≡ Some (Some fault)
  pub end_is : end_of fault ≡ end
  pub least : (i : ℕ) (f : JobFault) → slice_get faults i ≡ Some (Some f) → rank end ≤ rank (end_of f)
  pub first : (i : ℕ) (f : JobFault) → i < place → slice_get faults i ≡ Some (Some f) → rank end < rank (end_of f)
