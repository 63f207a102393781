use Rattle.std.proofs.Common.{◌≡◌, ◌++◌, map, reverse, length}
use Rattle.gp_thread_tests.specs.declared.posters.Poster.{Poster}
use Rattle.gp_thread_tests.proofs.posters.parts.Given as goal

-- the posters that are left stand the last first
abbrev pub invariant-loop-poster : goal.invariant-loop-poster
invariant-loop-poster l = map (λ (p : Poster). p.pass) l.fn.posters.items ≡ l.passes.items ++ map (λ (p : Poster). p.pass) (reverse l.left.items)

abbrev pub decreases-loop-poster : goal.decreases-loop-poster
decreases-loop-poster l = length l.left.items
