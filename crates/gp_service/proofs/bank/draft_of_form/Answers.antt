use Rattle.std.proofs.Common.{rules}
use Rattle.gp_service.proofs.bank.draft_of_form.Goals as goal

pub returns-in-Err : goal.returns-in-Err
returns-in-Err c = search rules

pub returns-in-Ok-bank_draft : goal.returns-in-Ok-bank_draft
returns-in-Ok-bank_draft c = search rules
