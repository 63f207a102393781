use Rattle.gp_edge.proofs.DiskSteps.{shortened_none}
use Rattle.gp_run_tests.proofs.doubles.DoubleDisk.cut.Goals as goal

pub returns-then-fails-clause-count : goal.returns-then-fails-clause-count
returns-then-fails-clause-count c = record { never_falls = c.fails.ensures.never_falls; failed = λ _. c.fails.ensures.failed c.if-fails.true; steady = λ no. absurd (no tt) }

pub returns-then-fails-clause-crash : goal.returns-then-fails-clause-crash
returns-then-fails-clause-crash c = λ d image. (d, tt, shortened_none c.args.len d)

pub returns-then-is_exchanged-clause-crash : goal.returns-then-is_exchanged-clause-crash
returns-then-is_exchanged-clause-crash c = λ d image. (d, tt, shortened_none c.args.len d)

pub returns-else-is_exchanged-clause-crash : goal.returns-else-is_exchanged-clause-crash
returns-else-is_exchanged-clause-crash c = λ d image. (d, tt, shortened_none c.args.len d)
