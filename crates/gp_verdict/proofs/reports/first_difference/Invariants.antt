use Rattle.std.proofs.Common.{◌≡◌, ◌<◌, ◌+◌, ◌^◌, length}
use Rattle.gp_words.specs.Lines.{lines_of}
use Rattle.gp_verdict.specs.Parts.{texts_of, first_difference}
use Rattle.gp_verdict.proofs.reports.first_difference.Given as goal

abbrev pub invariant-loop-printed : goal.invariant-loop-printed
invariant-loop-printed l =
    (first_difference l.number (texts_of (lines_of l.printed)) (texts_of (lines_of l.wanted)) ≡ first_difference l.fn.number (texts_of (lines_of l.fn.printed)) (texts_of (lines_of l.fn.wanted)))
    × (l.number + length l.printed < 2 ^ 63)

abbrev pub decreases-loop-printed : goal.decreases-loop-printed
decreases-loop-printed l = length l.printed
