use Rattle.std.proofs.Common.{◌≡◌, take}
use Rattle.std.specs.Prelude.{filter}
use Rattle.std.specs.Option.{option_copied}
use Rattle.gp_history.specs.Sequence.{history_of}
use Rattle.gp_history.specs.Canonical.{is_ready, least}
use Rattle.gp_history.proofs.walks.next_least.Given as goal

abbrev pub invariant-loop-i : goal.invariant-loop-i
invariant-loop-i g l =
    option_copied l.best ≡ least (filter (is_ready (history_of (g.H.Hist.sequence l.h)) (history_of (g.H.Hist.sequence l.taken))) (take l.i (g.H.Hist.sequence l.h)))
