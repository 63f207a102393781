use Rattle.std.proofs.Common.{rules, ◌≡◌, List, [], ◌∷◌, ◌⊎◌, sym, subst}
use Rattle.gp_msg.specs.declared.node.Node.{Node}
use Rattle.gp_wire.specs.Lists.{Has}
use Rattle.gp_wire.specs.Known.{PassState}
use Rattle.gp_wire.specs.Ends.{AreOf, IsHeld}
use Rattle.gp_wire.proofs.Words.{has_left}
use Rattle.gp_wire.proofs.Ends.{are_front, are_end}
use Rattle.gp_thread_tests.specs.Posters.{AreOfNodes, IsReady}
use Rattle.gp_thread_tests.proofs.Passing.{all_of_wire, all_held, end_ready, held_end, met_end, none_left}
use Rattle.gp_thread_tests.proofs.one_list.gathered.Goals as goal

pub loop-next-init : goal.loop-next-init
loop-next-init c =
    let id = c.args.wire.now.id in let nodes : List Node = c.args.wire.now.nodes in
    let rest : List PassState = c.pop.new.self.items in let whole : PassState = c.in_ok-whole.whole in
    let of = subst (AreOfNodes id nodes) c.in_ok-whole.ensures.items c.requires.of in (
      end_ready id nodes rest whole of,
      are_front id rest (whole ∷ []) (all_of_wire id nodes _ of),
      (λ n has. held_end n rest whole (all_held id nodes _ of n has)),
    )

pub meet-requires-clause-own_too : goal.meet-requires-clause-own_too
meet-requires-clause-own_too c = are_end c.args.wire.now.id c.pop-in-loop-next.new.self.items c.in-Some.next (subst (AreOf c.args.wire.now.id) c.in-Some.ensures.items c.loop-next.invariant.1)

pub loop-next-preserved : goal.loop-next-preserved
loop-next-preserved c =
    let k = c.loop-next.invariant in let id = c.args.wire.now.id in let nodes : List Node = c.args.wire.now.nodes in
    let rest : List PassState = c.pop-in-loop-next.new.self.items in let whole : PassState = c.loop-next.whole in let next : PassState = c.in-Some.next in
    subst (λ (q : PassState). IsReady id q × AreOf id rest × ((n : Node) → Has n nodes → IsHeld n rest ⊎ Has n q.holds)) (sym c.meet.ensures.pass) (
      (k.0.0, has_left whole.node whole.holds next.holds k.0.1),
      are_front id rest (next ∷ []) (subst (AreOf id) c.in-Some.ensures.items k.1),
      (λ n has. met_end n rest next whole.holds (subst (λ (ps : List PassState). IsHeld n ps ⊎ Has n whole.holds) c.in-Some.ensures.items (k.2 n has))),
    )

pub returns-clause-all : goal.returns-clause-all
returns-clause-all c n has =
    let none : c.loop-next.left.items ≡ [] = search rules in
    none_left n c.loop-next.left.items c.loop-next.whole.holds none (c.loop-next.invariant.2 n has)
