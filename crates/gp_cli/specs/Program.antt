-- What the program does with the arguments that the environment gave.
use Rattle.std.specs.Prelude.{◌≡◌, ◌≢◌, ◌⊎◌, ℕ, Bool, true, false, List, [], drop, Option, None, Result, Ok, Err, String}
use Rattle.std.specs.IoError.{error_kind}
use Rattle.std.specs.Vec.Iter.{into_iter_items}
use Rattle.std.specs.declared.alloc.Global.{Global}
use Rattle.std.specs.declared.io.Error.{Error}
use Rattle.std.specs.declared.io.ErrorKind.TheVariants.{InvalidData}
use Rattle.std.specs.declared.vec.IntoIter.{IntoIter}
use Rattle.std.specs.Global.{Vec}
use Rattle.gp_memory.specs.declared.memory.NoMemory.{NoMemory}
use Rattle.gp_cli.specs.declared.subcommand.Subcommand.{Subcommand}
use Rattle.gp_cli.specs.Subcommands.{texts_of, named}
use Rattle.gp_cli.specs.Outside.{Outside}
use Rattle.gp_cli.specs.Endings.{Ending, Misused, Starved}
use Rattle.gp_cli.specs.Causes.{IsCause}

-- the arguments, the program's name first, or why there are none
abbrev pub Arguments : Type 0
Arguments = Result (IntoIter (String Global) Global) Error

-- the words after the program's name
abbrev pub words_after_name : IntoIter (String Global) Global → List (List ℕ)
words_after_name given = texts_of (drop 1 (into_iter_items given))

-- an argument is not text
abbrev pub IsNoText : Arguments → Type 0
IsNoText (Ok given) = ⊥
IsNoText (Err error) = error_kind error ≡ InvalidData

-- these are the words that the program gets: those after the program's name, and none if an argument is not text
abbrev pub AreWords : Arguments → List (List ℕ) → Type 0
AreWords (Ok given) words = words ≡ words_after_name given
AreWords (Err error) words = (error_kind error ≡ InvalidData) × (words ≡ [])

-- the subcommand that the words after the program's name name, and none if an argument is not text
abbrev pub subcommand_in : Arguments → Option Subcommand
subcommand_in (Ok given) = named (words_after_name given)
subcommand_in (Err error) = None

-- the disks; there are none if memory ran out for them
abbrev pub given_disks : {D : Type 0} → Result (Vec D) NoMemory → List D
given_disks (Ok disks) = disks.items
given_disks (Err e) = []

-- why the program ends in this way, by its arguments, whether there are disks, and the outside before and now: as the words after its name say; with the usage if an argument is not text; without memory after another error, or if there are no disks
abbrev pub IsProgramCause : Arguments → Bool → Outside → Outside → Ending → Type 0
IsProgramCause given false before now ending = ending ≡ Starved
IsProgramCause (Ok given) true before now ending = IsCause (words_after_name given) before now ending
IsProgramCause (Err error) true before now ending = ((error_kind error ≡ InvalidData) × (ending ≡ Misused)) ⊎ ((error_kind error ≢ InvalidData) × (ending ≡ Starved))
