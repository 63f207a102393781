use Rattle.std.proofs.Common.{◌≡◌, length, sym, subst, ap, ◌∙◌, arith, rules}
use Rattle.gp_cell.specs.declared.rules.PaxosRules.{PaxosRules}
use Rattle.gp_wire.specs.Lists.{IsDistinct}
use Rattle.gp_seats.specs.Nodes.{all_nodes, proposer_nodes}
use Rattle.gp_seats.specs.Seats.{CanSit, new_passes, seats}
use Rattle.gp_seats.proofs.Listing.{all_distinct}
use Rattle.gp_seats.proofs.Sitting.{made_passes, count_passes, parted_passes, proposers_sit}
use Rattle.gp_seats.proofs.seating.open.Goals as goal

pub new-requires-clause-distinct : goal.new-requires-clause-distinct
new-requires-clause-distinct g c = subst IsDistinct (sym (c.deref.ensures.value ∙ c.in_ok-nodes.ensures)) (all_distinct c.args.config)

pub overflow_sub-count : goal.overflow_sub-count
overflow_sub-count g c =
    let ps = made_passes c.in_ok-wire.wire (all_nodes c.args.config) c.deref.result.now c.in_ok-wire.passes.items c.in_ok-wire.ensures.about.1 c.in_ok-wire.ensures.passes (c.deref.ensures.value ∙ c.in_ok-nodes.ensures) in
    let known = count_passes c.in_ok-wire.wire c.args.config c.in_ok-wire.passes.items ps in
    let count : c.len.result ≡ length c.in_ok-wire.passes.items = search rules in omega arith

pub make_jobs-requires : goal.make_jobs-requires
make_jobs-requires g c =
    let wire = c.in_ok-wire.wire in let config = c.args.config in let all = c.in_ok-wire.passes.items in
    let ps = made_passes wire (all_nodes config) c.deref.result.now all c.in_ok-wire.ensures.about.1 c.in_ok-wire.ensures.passes (c.deref.ensures.value ∙ c.in_ok-nodes.ensures) in
    let count : c.len.result ≡ length all = search rules in
    let parts = parted_passes wire config all c.split_behind.new.passes.items c.in_ok-last.last.items c.len.result ps c.in_ok-last.ensures.split count c.in_ok-last.ensures.first in
    subst (λ l. CanSit config l c.new-2.result.items) (sym parts.1) (subst (λ ls. CanSit config (new_passes wire proposer_nodes) ls) (sym c.new-2.ensures.items) (proposers_sit g.row.D.Denot config wire))

pub returns-in-Ok-clause-wire : goal.returns-in-Ok-clause-wire
returns-in-Ok-clause-wire g c = (ap (λ (r : PaxosRules). r.config) c.in_ok-wire.ensures.about.0, c.in_ok-wire.ensures.about.1 ∙ c.deref.ensures.value ∙ c.in_ok-nodes.ensures)

pub returns-in-Ok-clause-passes : goal.returns-in-Ok-clause-passes
returns-in-Ok-clause-passes g c =
    let wire = c.in_ok-wire.wire in let config = c.args.config in let all = c.in_ok-wire.passes.items in
    let ps = made_passes wire (all_nodes config) c.deref.result.now all c.in_ok-wire.ensures.about.1 c.in_ok-wire.ensures.passes (c.deref.ensures.value ∙ c.in_ok-nodes.ensures) in
    let count : c.len.result ≡ length all = search rules in
    (parted_passes wire config all c.split_behind.new.passes.items c.in_ok-last.last.items c.len.result ps c.in_ok-last.ensures.split count c.in_ok-last.ensures.first).0

pub returns-in-Ok-clause-proposers : goal.returns-in-Ok-clause-proposers
returns-in-Ok-clause-proposers g c =
    let wire = c.in_ok-wire.wire in let config = c.args.config in let all = c.in_ok-wire.passes.items in
    let ps = made_passes wire (all_nodes config) c.deref.result.now all c.in_ok-wire.ensures.about.1 c.in_ok-wire.ensures.passes (c.deref.ensures.value ∙ c.in_ok-nodes.ensures) in
    let count : c.len.result ≡ length all = search rules in
    let parts = parted_passes wire config all c.split_behind.new.passes.items c.in_ok-last.last.items c.len.result ps c.in_ok-last.ensures.split count c.in_ok-last.ensures.first in
    c.in-Ok.ensures.made ∙ ap (λ l. seats config l c.new-2.result.items) parts.1 ∙ ap (λ ls. seats config (new_passes wire proposer_nodes) ls) c.new-2.ensures.items
