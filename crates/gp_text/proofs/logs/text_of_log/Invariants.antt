use Rattle.std.proofs.Common.{◌≡◌, ◌++◌, length, take}
use Rattle.gp_text.specs.Logs.{head_line}
use Rattle.gp_text.proofs.LogLines.{lines}
use Rattle.gp_text.proofs.logs.text_of_log.Given as goal

abbrev pub invariant-loop-i : goal.invariant-loop-i
invariant-loop-i g l = l.text.items ≡ head_line l.number (length l.log.entries) l.log.size ++ lines (take l.i l.log.entries)
