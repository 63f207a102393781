use Rattle.gp_edge.specs.Puts.{torn_none}
use Rattle.gp_run_tests.proofs.doubles.DoubleDisk.write_at.Goals as goal

pub returns-then-fails-clause-count : goal.returns-then-fails-clause-count
returns-then-fails-clause-count c = record { never_falls = c.fails.ensures.never_falls; failed = λ _. c.fails.ensures.failed c.if-fails.true; steady = λ no. absurd (no tt) }

pub returns-then-fails-clause-crash : goal.returns-then-fails-clause-crash
returns-then-fails-clause-crash c = λ d image. (d, tt, torn_none c.args.at _ d)

pub returns-then-is_exchanged-clause-crash : goal.returns-then-is_exchanged-clause-crash
returns-then-is_exchanged-clause-crash c = λ d image. (d, tt, torn_none c.args.at _ d)

pub returns-else-is_exchanged-clause-crash : goal.returns-else-is_exchanged-clause-crash
returns-else-is_exchanged-clause-crash c = λ d image. (d, tt, torn_none c.args.at _ d)
