use Rattle.std.proofs.Common.{◌≡◌, ◌++◌, map, take}
use Rattle.gp_words.specs.Spacing.{joined}
use Rattle.gp_report.specs.Texts.{identity}
use Rattle.gp_onlookers.proofs.texts.push_identities.Given as goal

abbrev pub invariant-loop-i : goal.invariant-loop-i
invariant-loop-i l = l.to.items ≡ l.fn.to.items ++ joined (map identity (take l.i l.order))
