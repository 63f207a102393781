use Rattle.gp_run_tests.proofs.doubles.DoubleDisk.len.Goals as goal

pub returns-then-fails-clause-count : goal.returns-then-fails-clause-count
returns-then-fails-clause-count c = record { never_falls = c.fails.ensures.never_falls; failed = λ _. c.fails.ensures.failed c.if-fails.true; steady = λ no. absurd (no tt) }
