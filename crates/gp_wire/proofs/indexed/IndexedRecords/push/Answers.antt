use Rattle.std.proofs.Common.{◌≡◌, ap, ◌∙◌, length, rules}
use Rattle.gp_wire.proofs.Placing.{placed}
use Rattle.gp_wire.proofs.indexed.IndexedRecords.push.Goals as goal

pub returns-clause-pushed : goal.returns-clause-pushed
returns-clause-pushed c = search rules

pub invariant_of-self-2 : goal.invariant_of-self-2
invariant_of-self-2 c =
    let here : c.len.result ≡ length c.reserve.new.self.items = search rules in
    rw (c.push_reserved.ensures.items, c.add_places.ensures, c.reserve.ensures.items, c.reserve-else-is_err.ensures.items)
    (placed c.self.inside.records.items c.args.item c.self.inside.places.items _ _ (here ∙ ap length c.reserve.ensures.items) (ap length c.as_slice-count.ensures) c.self.invariant)
