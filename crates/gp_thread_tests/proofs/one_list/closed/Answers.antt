use Rattle.std.proofs.Common.{List, sym, subst}
use Rattle.gp_wire.specs.Known.{PassState}
use Rattle.gp_thread_tests.specs.Posters.{AreOfNodes}
use Rattle.gp_thread_tests.proofs.Passing.{all_of_wire, all_held}
use Rattle.gp_thread_tests.proofs.one_list.closed.Goals as goal

pub close-requires-clause-own : goal.close-requires-clause-own
close-requires-clause-own c = all_of_wire c.args.wire.id c.args.wire.nodes c.in_ok-passes.passes.items
    (subst (λ (ps : List PassState). AreOfNodes c.args.wire.id c.args.wire.nodes ps) (sym c.in_ok-passes.ensures) c.requires.of)

pub close-requires-clause-all : goal.close-requires-clause-all
close-requires-clause-all c = all_held c.args.wire.id c.args.wire.nodes c.in_ok-passes.passes.items
    (subst (λ (ps : List PassState). AreOfNodes c.args.wire.id c.args.wire.nodes ps) (sym c.in_ok-passes.ensures) c.requires.of)
