use Rattle.std.proofs.Common.{rules}
use Rattle.gp_cli.proofs.telling.tell.Goals as goal

pub returns-in-Err-Failed-clause-told : goal.returns-in-Err-Failed-clause-told
returns-in-Err-Failed-clause-told g c = search rules
