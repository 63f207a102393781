use Rattle.std.proofs.Common.{◌≡◌, take}
use Rattle.gp_history.proofs.sequence_history.SeqHistoryHist.copy.Given as goal

abbrev pub invariant-loop-c : goal.invariant-loop-c
invariant-loop-c l = l.commands.items ≡ take l.c-index l.c-items
