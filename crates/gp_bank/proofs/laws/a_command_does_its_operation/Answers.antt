use Rattle.gp_bank.proofs.DraftLemmas.{operation_done, nothing_done}
use Rattle.gp_bank.proofs.laws.a_command_does_its_operation.Goals as goal

pub returns-clause-done : goal.returns-clause-done
returns-clause-done c = operation_done

pub returns-clause-nothing : goal.returns-clause-nothing
returns-clause-nothing c = nothing_done
