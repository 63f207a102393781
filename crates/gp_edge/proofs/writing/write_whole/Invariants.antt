use Rattle.std.proofs.Common.{◌≡◌, ◌≤◌, ◌-◌, length, Ok}
use Rattle.gp_edge.specs.declared.refusal.Refused.{Refused}
use Rattle.gp_edge.specs.Writes.{AppendsFirst}
use Rattle.gp_edge.proofs.writing.write_whole.Given as goal

-- the first bytes of the text were written, and none by a call that was not made
abbrev pub invariant-loop-done : goal.invariant-loop-done
invariant-loop-done g l = record {
  sofar : AppendsFirst {E = Refused} (g.K.Sink.written l.fn.sink) (g.K.Sink.written l.sink) l.text (Ok l.done);
  within : l.done ≤ length l.text;
  steady : g.K.Sink.faults l.sink ≡ g.K.Sink.faults l.fn.sink;
  untouched : l.done ≡ 0 → l.sink ≡ l.fn.sink;
}

abbrev pub decreases-loop-done : goal.decreases-loop-done
decreases-loop-done g l = length l.text - l.done
