use Rattle.std.proofs.Common.{◌≡◌, ◌++◌, take}
use Rattle.gp_onlookers.specs.Texts.{look_lines}
use Rattle.gp_onlookers.proofs.texts.push_looks.Given as goal

abbrev pub invariant-loop-look : goal.invariant-loop-look
invariant-loop-look l = l.to.items ≡ l.fn.to.items ++ look_lines l.reader (take l.look-index l.looks)
