use Rattle.std.proofs.Common.{◌≡◌, ◌+◌, ◌≤◌, true, false, Result, Ok, Err, sym, subst, ◌∙◌, arith, vec_len, vec_capacity}
use Rattle.std.specs.Prelude.{OnOk}
use Rattle.std.specs.Result.{is_err}
use Rattle.gp_msg.specs.declared.node.Node.{Node}
use Rattle.gp_wire.specs.Lists.{Has}
use Rattle.gp_wire.specs.Ends.{AreOf, IsHeld, Closed}
use Rattle.gp_cell.specs.Lawful.{paxos_legal}
use Rattle.gp_cell.proofs.Runs.{legal_run}
use Rattle.gp_node.proofs.posted.finish.Goals as goal

on_ok : {T E : Type 0} (P : Type 0) (r : Result T E) → false ≡ is_err r → OnOk r P → P
on_ok P (Ok x) e h = h
on_ok P (Err x) e h = absurd (let wrong : false ≡ true = e in cc)

pub close-records-requires-clause-all : goal.close-records-requires-clause-all
close-records-requires-clause-all g c = subst (λ ps. (n : Node) → Has n c.args.wire.nodes → IsHeld n ps) (sym c.part.ensures.passes) c.requires.all

pub returns-clause-legal : goal.returns-clause-legal
returns-clause-legal g c = legal_run c.args.wire.rules.config c.close-records.result c.close-records.ensures.lawful

pub returns-clause-closed : goal.returns-clause-closed
returns-clause-closed g c = subst (λ ps. Closed (paxos_legal c.args.wire.rules.config) c.args.wire.nodes ps c.close-records.result) c.part.ensures.passes c.close-records.ensures

pub returns-clause-logs : goal.returns-clause-logs
returns-clause-logs g c = c.part.ensures.logs

pub part-requires-clause-passes : goal.part-requires-clause-passes
part-requires-clause-passes g c =
    let room = on_ok (vec_len c.reserve.new.self + c.len.result ≤ vec_capacity c.reserve.new.self) c.reserve.result c.if-is_err.ensures.value c.reserve.ensures.ok in
    (c.reserve.ensures.items ∙ c.new-passes.ensures.items, omega (arith, room, c.len.ensures, c.args.cells.ok.0))

pub part-requires-clause-logs : goal.part-requires-clause-logs
part-requires-clause-logs g c =
    let room = on_ok (vec_len c.reserve-else-is_err.new.self + c.len-else-is_err.result ≤ vec_capacity c.reserve-else-is_err.new.self) c.reserve-else-is_err.result c.if-is_err-2.ensures.value c.reserve-else-is_err.ensures.ok in
    (c.reserve-else-is_err.ensures.items ∙ c.new-logs.ensures.items, omega (arith, room, c.len-else-is_err.ensures, c.args.cells.ok.0))

pub close-records-requires-clause-own : goal.close-records-requires-clause-own
close-records-requires-clause-own g c = subst (AreOf c.args.wire.id) (sym c.part.ensures.passes) c.requires.own
