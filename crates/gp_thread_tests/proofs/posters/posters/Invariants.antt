use Rattle.std.proofs.Common.{◌≡◌, ◌++◌, map, reverse, length}
use Rattle.gp_thread_tests.specs.declared.posters.Poster.{Poster}
use Rattle.gp_thread_tests.proofs.posters.posters.Given as goal

-- the passes that are left stand the last first
abbrev pub invariant-loop-pass : goal.invariant-loop-pass
invariant-loop-pass l = l.fn.passes.items ≡ map (λ (p : Poster). p.pass) l.posters.items ++ reverse l.left.items

abbrev pub decreases-loop-pass : goal.decreases-loop-pass
decreases-loop-pass l = length l.left.items
