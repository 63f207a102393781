use Rattle.std.proofs.Common.{◌≡◌, take, None}
use Rattle.std.specs.List.{find}
use Rattle.gp_history.specs.Sequence.{history_of}
use Rattle.gp_epoch.proofs.Checkpoints.{is_checkpoint}
use Rattle.gp_epoch.proofs.cutting.cut.Given as goal

abbrev pub invariant-loop-place : goal.invariant-loop-place
invariant-loop-place g l =
    (find is_checkpoint (take l.place (g.H.Hist.sequence l.h)) ≡ None) × (history_of (g.H.Hist.sequence l.kept) ≡ history_of (take l.place (g.H.Hist.sequence l.h)))
