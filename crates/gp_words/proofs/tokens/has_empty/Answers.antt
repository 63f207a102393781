use Rattle.std.proofs.Common.{◌∙◌}
use Rattle.gp_words.proofs.TokenLemmas.{empty_seen}
use Rattle.gp_words.proofs.tokens.has_empty.Goals as goal

pub returns : goal.returns
returns c = c.any_empty.ensures ∙ empty_seen c.args.tokens.now
