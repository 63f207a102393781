use Rattle.std.proofs.Common.{rules, ◌≡◌, List, [], ◌∷◌, ◌++◌, ap, ◌∙◌, sym, subst, append_assoc}
use Rattle.gp_msg.specs.declared.node.Node.{Node}
use Rattle.gp_wire.specs.Lists.{Has}
use Rattle.gp_wire.specs.Known.{WireState, PassState, old_of}
use Rattle.gp_wire.specs.Ends.{AreOf, IsHeld, Closed}
use Rattle.gp_wire.proofs.Parts.{joins}
use Rattle.gp_wire.proofs.Keeps.{learns}
use Rattle.gp_wire.proofs.Ends.{no_passes, gathers_first, are_front, are_end, closes, closed_as, learned_more}
use Rattle.gp_wire.proofs.wire.Wire.close.Goals as goal

pub unreachable-requires : goal.unreachable-requires
unreachable-requires g c =
    let none : c.args.passes.items ≡ [] = search rules in
    let all = subst (λ ns. (n : Node) → Has n ns → IsHeld n c.args.passes.items) (sym (ap (λ (w : WireState g.row.R.Denot). w.nodes) c.self.view_is)) c.requires.all in
    no_passes c.self.inside.table.shared.key.nodes c.self.invariant.2 (subst (λ (ps : List PassState). (n : Node) → Has n c.self.inside.table.shared.key.nodes → IsHeld n ps) none all)

pub loop-next-init : goal.loop-next-init
loop-next-init g c = let here = c.in-Some.ensures.items in (
  c.in-Some.first ∷ [],
  here,
  gathers_first _ c.in-Some.first c.first.inside.seat (ap (λ (q : PassState). q.wire) c.first.view_is ∙ are_end _ c.pop.new.self.items c.in-Some.first (subst (AreOf c.args.self.id) here c.requires.own))
      c.first.invariant.0 (ap old_of (sym c.first.view_is)),
)

pub join_seat-requires : goal.join_seat-requires
join_seat-requires g c = let k = c.loop-next.invariant in let p = c.in-Some-pop.next in
    let table = sym (ap (λ (w : WireState g.row.R.Denot). w.id) c.self.view_is) in
    let mine = are_end c.args.self.id c.pop-in-loop-next.new.self.items p
    (subst (AreOf c.args.self.id) c.in-Some-pop.ensures.items (are_front _ c.loop-next.passes.items k.0 (subst (AreOf c.args.self.id) k.1 c.requires.own))) in (
      k.2.own ∙ table,
      ap (λ (q : PassState). q.wire) c.next.view_is ∙ mine ∙ table,
      c.next.invariant.0.2,
      search rules,
      joins _ _ _ c.loop-next.whole.me.0 _ c.next.inside.seat.me.0 k.2.idle.0 c.next.invariant.0.0,
    )

pub load-requires : goal.load-requires
load-requires g c = (c.join_seat.ensures.0 ∙ c.loop-next.invariant.2.own ∙ sym (ap (λ (w : WireState g.row.R.Denot). w.id) c.self.view_is), search rules, learns _ _ _ _ _ (ap (λ m. m.0.standing) c.join_seat.ensures.2))

pub loop-next-preserved : goal.loop-next-preserved
loop-next-preserved g c = let k = c.loop-next.invariant in let p = c.in-Some-pop.next in (
  p ∷ k.0,
  k.1 ∙ (ap (λ l. l ++ k.0) c.in-Some-pop.ensures.items ∙ append_assoc c.pop-in-loop-next.new.self.items (p ∷ []) k.0),
  learned_more c.loop-next.whole c.join_seat.new.seat c.load.new.seat c.next.inside.seat c.args.self.id k.0 p (ap old_of (sym c.next.view_is)) k.2 (c.load.ensures.0 ∙ c.join_seat.ensures.0) c.join_seat.ensures.2 c.load.ensures.2,
)

pub unreachable-requires-in_default-taken : goal.unreachable-requires-in_default-taken
unreachable-requires-in_default-taken g c = let k = c.loop-next.invariant in
    let all = subst (λ ns. (n : Node) → Has n ns → IsHeld n c.args.passes.items) (sym (ap (λ (w : WireState g.row.R.Denot). w.nodes) c.self.view_is)) c.requires.all in
    let e = closes (g.R.Rules.legal c.self.inside.table.shared.key.rules) c.self.inside.table.shared.key.nodes c.loop-next.whole _ c.loop-next.passes.items k.0 c.args.passes.items _ _ c.take-taken.result k.2 k.1
    (search rules) all c.close_with-closed.ensures.values.2 c.take-taken.ensures.value in
    c.in_default-taken.not-Some _ e.there

pub returns : goal.returns
returns g c = let k = c.loop-next.invariant in
    let all = subst (λ ns. (n : Node) → Has n ns → IsHeld n c.args.passes.items) (sym (ap (λ (w : WireState g.row.R.Denot). w.nodes) c.self.view_is)) c.requires.all in
    let e = closes (g.R.Rules.legal c.self.inside.table.shared.key.rules) c.self.inside.table.shared.key.nodes c.loop-next.whole _ c.loop-next.passes.items k.0 c.args.passes.items _ _ c.take-taken.result k.2 k.1
    (search rules) all c.close_with-closed.ensures.values.2 c.take-taken.ensures.value in
    let here = closed_as (g.R.Rules.legal c.self.inside.table.shared.key.rules) c.self.inside.table.shared.key.nodes c.args.passes.items c.take-taken.result c.in-Some-taken.list e c.in-Some-taken.is in
    subst (λ l. Closed (g.R.Rules.legal c.args.self.rules) c.args.self.nodes c.args.passes.items l) (sym c.into_records.ensures)
    (subst (λ (w : WireState g.row.R.Denot). Closed (g.R.Rules.legal w.rules) w.nodes c.args.passes.items c.in-Some-taken.list) c.self.view_is here)
