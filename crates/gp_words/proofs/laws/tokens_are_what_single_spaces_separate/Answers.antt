use Rattle.std.proofs.lemmas.List.Elements.{recursion_from_All}
use Rattle.gp_words.specs.Bytes.{Lacks}
use Rattle.gp_words.specs.Tokens.{is_space}
use Rattle.gp_words.proofs.TokenLemmas.{token_then, token_last, tokens_split, joined_tokens}
use Rattle.gp_words.proofs.laws.tokens_are_what_single_spaces_separate.Goals as goal

pub returns-clause-joined : goal.returns-clause-joined
returns-clause-joined c = joined_tokens

pub returns-clause-split : goal.returns-clause-split
returns-clause-split c = λ words some free. tokens_split words some (recursion_from_All (Lacks is_space) words free)

pub returns-clause-first : goal.returns-clause-first
returns-clause-first c = token_then

pub returns-clause-last : goal.returns-clause-last
returns-clause-last c = token_last
