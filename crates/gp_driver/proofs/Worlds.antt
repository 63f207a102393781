-- The kinds that a world tells, and the faults that it has.
use Rattle.std.proofs.Common.{◌≡◌, ℕ, List, Some, None, inl, inr, length, reverse, refl, ◌∙◌, ap, arith}
use Rattle.std.specs.Prelude.{Option, Result, Ok, Err, IfErr}
use Rattle.std.specs.Option.{option_map}
use Rattle.std.proofs.lemmas.List.{length-map, length-reverse}
use Rattle.gp_msg.specs.declared.message.Msg.{Msg}
use Rattle.gp_msg.specs.declared.message.Msg.TheVariants as msg
use Rattle.gp_msg.specs.Messages.{Entry, message_of, entry_of}
use Rattle.gp_msg.specs.Reads as reads
use Rattle.gp_world.specs.State.{WorldState, entries_of}
use Rattle.gp_driver.specs.Kinds.{kind_of}
use Rattle.gp_driver.specs.declared.stage.StageFault.{StageFault}
use Rattle.gp_driver.specs.declared.stage.StageFault.TheVariants.{NoMemory, Disk, Full}
use Rattle.gp_driver.specs.Stages.{HasDriven}
use Rattle.gp_driver.specs.Worlds.{stage_of}

pub kind_of_message : (m : Msg) → kind_of (message_of m) ≡ reads.kind_of m
kind_of_message (msg.Propose c) = refl
kind_of_message (msg.P1a e r) = refl
kind_of_message (msg.P1b e r a q v) = refl
kind_of_message (msg.P2a e r c v) = refl
kind_of_message (msg.P2b e r a v) = refl
kind_of_message (msg.Final e l v) = refl

-- the kind of a message that may be there
pub kind_told : (o : Option Msg) → option_map kind_of (option_map message_of o) ≡ option_map reads.kind_of o
kind_told None = refl
kind_told (Some m) = ap (λ k. Some k) (kind_of_message m)

-- each record is an entry
pub as_many : (w : WorldState) → length (entries_of w) ≡ length w.records
as_many w = length-map (reverse w.records) entry_of ∙ length-reverse w.records

-- its count of faults never rises, so a fault of a driver is want of memory
pub only_memory : (old new : WorldState) (target : List Entry) (result : Result ℕ StageFault) → HasDriven (stage_of old) (stage_of new) target result → IfErr result (λ fault. fault ≡ NoMemory)
only_memory old new target (Ok n) h = tt
only_memory old new target (Err NoMemory) h = refl
only_memory old new target (Err Disk) h = elim h.outcome [ inl a ↦ absurd (omega (arith, a)) | inr a ↦ absurd (omega (arith, a)) ]
only_memory old new target (Err (Full size need)) h = absurd h.outcome.1.great
