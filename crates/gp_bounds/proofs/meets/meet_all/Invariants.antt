use Rattle.std.proofs.Common.{◌≡◌, drop}
use Rattle.std.specs.Prelude.{map}
use Rattle.std.specs.Option.{option_map}
use Rattle.gp_history.specs.Sequence.{history_of}
use Rattle.gp_history.specs.Bounds.{chosen_from, meet_all}
use Rattle.gp_bounds.specs.Agree.{met_with}
use Rattle.gp_bounds.proofs.Masked.{HasBitsFrom}
use Rattle.gp_bounds.proofs.meets.meet_all.Given as goal

abbrev pub invariant-loop-h : goal.invariant-loop-h
invariant-loop-h g l =
    let meaning = λ (x : g.row.H.Denot). history_of (g.H.Hist.sequence x) in
    record {
      bits : HasBitsFrom l.rest l.mask l.h-index;
      met : met_with (option_map meaning l.so_far) (chosen_from l.mask l.h-index (map meaning (drop l.h-index l.list))) ≡ meet_all l.mask (map meaning l.list);
    }
