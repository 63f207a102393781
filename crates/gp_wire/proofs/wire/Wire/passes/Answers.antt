use Rattle.std.proofs.Common.{rules, ◌≡◌, ◌+◌, List, ℕ, [], ◌∷◌, ap, ◌∙◌, sym, subst, refl, get_or, take, drop}
use Rattle.std.proofs.lemmas.List.{take_more}
use Rattle.gp_msg.specs.declared.node.Node.{Node}
use Rattle.gp_msg.specs.declared.node.Node.TheVariants.{Proposer}
use Rattle.gp_wire.specs.Lists.{IsDistinct}
use Rattle.gp_wire.specs.Rule.{fresh}
use Rattle.gp_wire.specs.Told.{SeatState, behind, front, rest_nodes, first_node}
use Rattle.gp_wire.proofs.Parts.{cuts}
use Rattle.gp_wire.proofs.Opens.{distinct_drop, front_in, behind_in, apart, either_part, fresh_more, next_node}
use Rattle.gp_wire.proofs.Seen.{state_of}
use Rattle.gp_wire.proofs.wire.Wire.passes.Goals as goal

pub split_seat-seat-requires : goal.split_seat-seat-requires
split_seat-seat-requires g c = let k = c.loop-node.invariant in
    let ns : List Node = c.loop-node.first.me.0.nodes in
    let same : ns ≡ drop c.loop-node.node-index c.args.nodes.now = ap (λ (m : SeatState). m.0.nodes) k.1 in
    let distinct : IsDistinct ns = subst IsDistinct (sym same) (distinct_drop c.args.nodes.now c.loop-node.node-index c.requires.distinct) in (
      search rules,
      search rules,
      cuts _ _ _ c.loop-node.first.me.0 (behind ns) (front ns) (ap (λ (m : SeatState). m.0.standing) k.1) (ap (λ (m : SeatState). m.0.olds) k.1) (behind_in ns) (front_in ns) (λ n. apart ns n distinct) (either_part ns),
    )

pub loop-node-preserved : goal.loop-node-preserved
loop-node-preserved g c = let k = c.loop-node.invariant in let i : ℕ = c.loop-node.node-index in let all : List Node = c.args.nodes.now in
    let d : Node = Proposer 0 in
    let next : drop i all ≡ get_or all i d ∷ drop (i + 1) all = next_node all i d (search rules) in
    let e = c.split_seat-seat.ensures in
    let seat = c.split_seat-seat.result in
    let id = c.args.self.now.id in (
      e.0 ∙ k.0,
      e.2 ∙ (ap (λ (m : SeatState). (rest_nodes m.0, m.1)) k.1 ∙ ap (λ l. (fresh all (behind l), [])) next),
      rw (take_more all i d (search rules), c.push_reserved.ensures.items)
          (fresh_more id all (take i all) c.loop-node.passes.items (get_or all i d) _ k.2
          (refl
          ∙ ap (λ w. state_of (get_or all i d) w seat.me) (e.3 ∙ k.0)
          ∙ ap (state_of (get_or all i d) id) (e.4 ∙ (ap (λ (m : SeatState). (first_node m.0, [])) k.1 ∙ ap (λ l. (fresh all (front l), [])) next)))),
      search rules,
      search rules,
    )
