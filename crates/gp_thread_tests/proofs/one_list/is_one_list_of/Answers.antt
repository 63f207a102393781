use Rattle.std.proofs.Common.{List, sym, ◌∙◌, subst}
use Rattle.gp_msg.specs.declared.node.Node.{Node}
use Rattle.gp_wire.specs.Lists.{IsDistinct}
use Rattle.gp_thread_tests.proofs.Passing.{acceptors_distinct}
use Rattle.gp_thread_tests.proofs.one_list.is_one_list_of.Goals as goal

pub is_one_list-requires-clause-distinct : goal.is_one_list-requires-clause-distinct
is_one_list-requires-clause-distinct g c κs within =
    subst (λ (ns : List Node). IsDistinct ns) (sym (c.deref.ensures.value ∙ c.in_ok-nodes.ensures)) (acceptors_distinct c.args.count)
