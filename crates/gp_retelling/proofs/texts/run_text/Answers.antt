use Rattle.std.proofs.Common.{rules}
use Rattle.gp_retelling.proofs.texts.run_text.Goals as goal

pub returns : goal.returns
returns c = search rules
