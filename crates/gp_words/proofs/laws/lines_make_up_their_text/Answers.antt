use Rattle.std.proofs.Common.{ℕ, ◌<◌, List, length}
use Rattle.std.proofs.lemmas.List.Elements.{All-from_recursion}
use Rattle.gp_words.specs.Lines.{lines_of}
use Rattle.gp_words.proofs.LineLemmas.{lines_whole, lines_some}
use Rattle.gp_words.proofs.laws.lines_make_up_their_text.Goals as goal

pub returns-clause-whole : goal.returns-clause-whole
returns-clause-whole c = lines_whole

pub returns-clause-some : goal.returns-clause-some
returns-clause-some c = λ bytes. All-from_recursion (λ (line : List ℕ). 0 < length line) (lines_of bytes) (lines_some bytes)
