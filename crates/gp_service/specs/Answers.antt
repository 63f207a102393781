-- What the reading of words returns.
use Rattle.std.specs.Prelude.{◌≡◌, Option, Some, None, Result, Ok, Err}
use Rattle.gp_command.specs.Views.{DraftView}
use Rattle.gp_store.specs.declared.form.OpFault.{OpFault}
use Rattle.gp_service.specs.declared.service.Unsaid.{Unsaid}
use Rattle.gp_service.specs.declared.service.Unsaid.TheVariants.{NoOperation, Fault, NoMemory}

-- the result is what the words mean, unless memory ran out
abbrev pub Answers : Option (Result DraftView OpFault) → Result DraftView Unsaid → Type 0
Answers said (Ok draft) = said ≡ Some (Ok draft)
Answers said (Err NoOperation) = said ≡ None
Answers said (Err (Fault fault)) = said ≡ Some (Err fault)
Answers said (Err NoMemory) = Unit {0}
