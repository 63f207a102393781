use Rattle.std.proofs.Common.{◌≡◌, length}
use Rattle.gp_words.specs.Lines.{lines_of}
use Rattle.gp_service.specs.Languages.{Language}
use Rattle.gp_text.specs.Reading.{reading_from, reading_in}
use Rattle.gp_text.proofs.LineSteps.{Within}
use Rattle.gp_text.proofs.beginning.read_beginning.Given as goal

abbrev pub invariant-loop-rest : goal.invariant-loop-rest
invariant-loop-rest l = ((language : Language) → reading_from language l.number l.place (lines_of l.rest) ≡ reading_in language l.bytes) × Within l.bytes l.rest l.number l.place

abbrev pub decreases-loop-rest : goal.decreases-loop-rest
decreases-loop-rest l = length l.rest
