use Rattle.std.proofs.Common.{List, sym, subst}
use Rattle.gp_msg.specs.declared.node.Node.{Node}
use Rattle.gp_wire.specs.Lists.{Has}
use Rattle.gp_thread_tests.proofs.one_list.sees_all.Goals as goal

pub closed_by-requires-clause-all : goal.closed_by-requires-clause-all
closed_by-requires-clause-all g c n has = subst (λ (ns : List Node). Has n ns) (sym c.posts_at-is_posted.ensures.still.2) (c.in-Some.ensures.all n has)
