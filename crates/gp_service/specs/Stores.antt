-- The key store as a service.
use Rattle.std.specs.Prelude.{[], Option, Some, None, Result, Ok, Err}
use Rattle.gp_command.specs.Views.{DraftView}
use Rattle.gp_store.specs.declared.op.Op.{Op}
use Rattle.gp_store.specs.declared.form.OpFault.{OpFault}
use Rattle.gp_store.specs.Operations.{draft_for}
use Rattle.gp_store.specs.Forms.{OpForm, op_form, op_of_form}
use Rattle.gp_store.specs.Pairs.{Pairs}
use Rattle.gp_store.specs.Effects.{store_rules}
use Rattle.gp_service.specs.Languages.{Language}
use Rattle.gp_service.specs.Profiles.{Profile}

-- the draft of the operation, if there is no fault
abbrev pub some_drafted : Result Op OpFault → Result DraftView OpFault
some_drafted (Ok op) = Ok (draft_for op)
some_drafted (Err fault) = Err fault

-- the same for a form, if there is one
abbrev pub store_said : Option OpForm → Option (Result DraftView OpFault)
store_said None = None
store_said (Some form) = Some (some_drafted (op_of_form form))

-- the operations of the key store by their words
unfoldable pub store_language : Language
store_language words = store_said (op_form words)

-- the pairs are those of the store, and there are no further lines
abbrev pub store_profile : Profile Pairs
store_profile = record { language = store_language; rules = store_rules; pairs = λ pairs. pairs; totals = λ _ _. [] }
