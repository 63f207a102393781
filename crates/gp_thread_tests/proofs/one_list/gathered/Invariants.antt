use Rattle.std.proofs.Common.{◌≡◌, List, length, ◌⊎◌}
use Rattle.gp_msg.specs.declared.node.Node.{Node}
use Rattle.gp_wire.specs.Lists.{Has}
use Rattle.gp_wire.specs.Ends.{AreOf, IsHeld}
use Rattle.gp_thread_tests.specs.Posters.{IsReady}
use Rattle.gp_thread_tests.proofs.one_list.gathered.Given as goal

-- each node is held by a pass that is left, or by the one pass
abbrev pub invariant-loop-next : goal.invariant-loop-next
invariant-loop-next l =
    IsReady l.fn.wire.id l.whole
    × AreOf l.fn.wire.id l.left.items
    × ((n : Node) → Has n l.fn.wire.nodes → IsHeld n l.left.items ⊎ Has n l.whole.holds)

abbrev pub decreases-loop-next : goal.decreases-loop-next
decreases-loop-next l = length l.left.items
