use Rattle.std.proofs.Common.{refl}
use Rattle.gp_thread_tests.specs.declared.posters.Poster.{Poster}
use Rattle.gp_thread_tests.proofs.Passing.{opened, some_of, ready_of, still_of}
use Rattle.gp_thread_tests.proofs.posters.posted.Goals as goal

pub work_all-worked-requires-clause-some : goal.work_all-worked-requires-clause-some
work_all-worked-requires-clause-some g c _ _ = some_of Poster (λ p. p.pass) c.in_ok-wire.wire.id c.args.nodes.now c.in_ok-posters.posters.items c.requires.some
    (opened Poster (λ p. p.pass) c.in_ok-wire.wire.id c.args.nodes.now c.args.nodes.now c.in_ok-wire.passes.items c.in_ok-posters.posters.items c.in_ok-wire.ensures.passes refl c.in_ok-posters.ensures)

pub work_all-worked-requires-clause-ready : goal.work_all-worked-requires-clause-ready
work_all-worked-requires-clause-ready g c _ _ = ready_of Poster (λ p. p.pass) c.in_ok-wire.wire.id c.args.nodes.now c.in_ok-posters.posters.items
    (opened Poster (λ p. p.pass) c.in_ok-wire.wire.id c.args.nodes.now c.args.nodes.now c.in_ok-wire.passes.items c.in_ok-posters.posters.items c.in_ok-wire.ensures.passes refl c.in_ok-posters.ensures)

pub returns : goal.returns
returns g c = still_of Poster (λ p. p.pass) c.in_ok-wire.wire.id c.in_ok-wire.wire.nodes c.in_ok-posters.posters.items c.work_all-worked.result.items c.work_all-worked.ensures.same (λ i d l. c.work_all-worked.ensures.each i d l)
    (opened Poster (λ p. p.pass) c.in_ok-wire.wire.id c.args.nodes.now c.in_ok-wire.wire.nodes c.in_ok-wire.passes.items c.in_ok-posters.posters.items c.in_ok-wire.ensures.passes c.in_ok-wire.ensures.about.1 c.in_ok-posters.ensures)
