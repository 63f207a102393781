use Rattle.std.proofs.Common.{◌≡◌, ◌∷◌, [], false, ◌+◌, ◌≤◌, length, sym, ap, ◌∙◌, inl, arith, rules}
use Rattle.std.proofs.lemmas.Bool.{false≢true}
use Rattle.gp_msg.specs.declared.durable.Durable.{Durable}
use Rattle.gp_vlog.specs.Logs.{LogState, OldOrRenewed, entry_for, log_entries}
use Rattle.gp_vlog.proofs.Standing.{IsSized}
use Rattle.gp_vlog.proofs.Appends.{unwritten, renewing, renewed, renewed_seen, kept_renewed, ready_renewed, left_unready}
use Rattle.gp_vlog.proofs.log.Log.renew.Goals as goal

pub returns-in_err-plan-clause-any_moment : goal.returns-in_err-plan-clause-any_moment
returns-in_err-plan-clause-any_moment g c =
    let i = c.self.inside in
    let k = c.self.invariant in
    let e = entry_for false c.args.entry.now in
    let es = log_entries i.first_version i.entries.items in
    let sized : IsSized i.limit = record { low = k.low; high = k.high } in
    let holds = k.revealed (ap (λ (v : LogState _). v.ready) c.self.view_is ∙ c.requires.ready) in
    renewed_seen g.D.Disk.content g.D.Disk.image g.D.Disk.moment g.D.Disk.since i.limit i.second es i.closed sized _ _ _ e c.self.view_is
    (unwritten g.D.Disk.content g.D.Disk.image g.D.Disk.moment g.D.Disk.since i.limit i.second es i.closed sized i.disk (OldOrRenewed i.limit es e) holds (g.met.D.Disk.only_now i.disk) (λ b q. inl q))

pub returns-in_err-write_and_mark-clause-any_moment : goal.returns-in_err-write_and_mark-clause-any_moment
returns-in_err-write_and_mark-clause-any_moment g c =
    let i = c.self.inside in
    let k = c.self.invariant in
    let e = entry_for false c.args.entry.now in
    let es = log_entries i.first_version i.entries.items in
    let sized : IsSized i.limit = record { low = k.low; high = k.high } in
    let holds = k.revealed (ap (λ (v : LogState _). v.ready) c.self.view_is ∙ c.requires.ready) in
    let plan_is = rw c.in_ok-plan.was at c.planned-outcome.ensures.plan in
    let room = rw c.in_ok-plan.was at c.planned-outcome.ensures.room in
    let need = plan_is.need in
    let fits : 17 + (5 + length plan_is.body) ≤ i.limit = omega (arith, room, need) in
    let piece_is = c.deref.ensures.value ∙ plan_is.bytes in
    let moments = rw c.first_gate-other.ensures.value at c.write_and_mark.ensures.any_moment in
    renewed_seen g.D.Disk.content g.D.Disk.image g.D.Disk.moment g.D.Disk.since i.limit i.second es i.closed sized _ _ _ e c.self.view_is
    (renewing g.D.Disk.content g.D.Disk.image g.D.Disk.moment g.D.Disk.since i.limit i.second es i.closed sized i.disk c.write_and_mark.new.disk plan_is.body _ e holds piece_is plan_is.means fits moments)

pub returns-in_err-push-clause-any_moment : goal.returns-in_err-push-clause-any_moment
returns-in_err-push-clause-any_moment g c =
    let i = c.self.inside in
    let k = c.self.invariant in
    let e = entry_for false c.args.entry.now in
    let es = log_entries i.first_version i.entries.items in
    let sized : IsSized i.limit = record { low = k.low; high = k.high } in
    let holds = k.revealed (ap (λ (v : LogState _). v.ready) c.self.view_is ∙ c.requires.ready) in
    renewed_seen g.D.Disk.content g.D.Disk.image g.D.Disk.moment g.D.Disk.since i.limit i.second es i.closed sized _ _ _ e c.self.view_is
    (unwritten g.D.Disk.content g.D.Disk.image g.D.Disk.moment g.D.Disk.since i.limit i.second es i.closed sized i.disk (OldOrRenewed i.limit es e) holds (g.met.D.Disk.only_now i.disk) (λ b q. inl q))

pub returns-clause-any_moment : goal.returns-clause-any_moment
returns-clause-any_moment g c =
    let i = c.self.inside in
    let k = c.self.invariant in
    let e = entry_for false c.args.entry.now in
    let es = log_entries i.first_version i.entries.items in
    let sized : IsSized i.limit = record { low = k.low; high = k.high } in
    let holds = k.revealed (ap (λ (v : LogState _). v.ready) c.self.view_is ∙ c.requires.ready) in
    let plan_is = rw c.in_ok-plan.was at c.planned-outcome.ensures.plan in
    let room = rw c.in_ok-plan.was at c.planned-outcome.ensures.room in
    let need = plan_is.need in
    let fits : 17 + (5 + length plan_is.body) ≤ i.limit = omega (arith, room, need) in
    let piece_is = c.deref.ensures.value ∙ plan_is.bytes in
    let moments = rw c.first_gate-other.ensures.value at c.write_and_mark.ensures.any_moment in
    renewed_seen g.D.Disk.content g.D.Disk.image g.D.Disk.moment g.D.Disk.since i.limit i.second es i.closed sized _ _ _ e c.self.view_is
    (renewing g.D.Disk.content g.D.Disk.image g.D.Disk.moment g.D.Disk.since i.limit i.second es i.closed sized i.disk c.write_and_mark.new.disk plan_is.body _ e holds piece_is plan_is.means fits moments)

pub invariant_of-self-2 : goal.invariant_of-self-2
invariant_of-self-2 g c =
    let i = c.self.inside in
    let k = c.self.invariant in
    let e = entry_for false c.args.entry.now in
    let es = log_entries i.first_version i.entries.items in
    let sized : IsSized i.limit = record { low = k.low; high = k.high } in
    let holds = k.revealed (ap (λ (v : LogState _). v.ready) c.self.view_is ∙ c.requires.ready) in
    let plan_is = rw c.in_ok-plan.was at c.planned-outcome.ensures.plan in
    let room = rw c.in_ok-plan.was at c.planned-outcome.ensures.room in
    let need = plan_is.need in
    let fits : 17 + (5 + length plan_is.body) ≤ i.limit = omega (arith, room, need) in
    let piece_is = c.deref.ensures.value ∙ plan_is.bytes in
    let turns = rw c.first_gate-other.ensures.value at c.in_ok-write_and_mark.ensures.written in
    let after = renewed g.D.Disk.content g.D.Disk.image g.D.Disk.moment g.D.Disk.since i.limit i.second es i.closed sized i.disk c.write_and_mark.new.disk _ plan_is.body _ e holds c.switch_to-switch.ensures piece_is plan_is.means fits c.write_and_mark.ensures.reveals turns in
    let alone : c.push.new.self.items ≡ c.in_ok-plan.plan.entry ∷ [] = search rules in
    let alone_is = alone ∙ ap (λ (d : Durable). d ∷ []) plan_is.entry_is in
    kept_renewed g.D.Disk.content g.D.Disk.image c.write_and_mark.new.disk i.limit i.second c.push.new.self.items c.args.entry.now (5 + length plan_is.body) c.in_ok-plan.plan.need sized alone_is need fits after

pub returns-clause-ready : goal.returns-clause-ready
returns-clause-ready g c =
    let i = c.self.inside in
    let k = c.self.invariant in
    let e = entry_for false c.args.entry.now in
    let es = log_entries i.first_version i.entries.items in
    let sized : IsSized i.limit = record { low = k.low; high = k.high } in
    let holds = k.revealed (ap (λ (v : LogState _). v.ready) c.self.view_is ∙ c.requires.ready) in
    let plan_is = rw c.in_ok-plan.was at c.planned-outcome.ensures.plan in
    let room = rw c.in_ok-plan.was at c.planned-outcome.ensures.room in
    let need = plan_is.need in
    let fits : 17 + (5 + length plan_is.body) ≤ i.limit = omega (arith, room, need) in
    let piece_is = c.deref.ensures.value ∙ plan_is.bytes in
    let turns = rw c.first_gate-other.ensures.value at c.in_ok-write_and_mark.ensures.written in
    let after = renewed g.D.Disk.content g.D.Disk.image g.D.Disk.moment g.D.Disk.since i.limit i.second es i.closed sized i.disk c.write_and_mark.new.disk _ plan_is.body _ e holds c.switch_to-switch.ensures piece_is plan_is.means fits c.write_and_mark.ensures.reveals turns in
    let alone : c.push.new.self.items ≡ c.in_ok-plan.plan.entry ∷ [] = search rules in
    let alone_is = alone ∙ ap (λ (d : Durable). d ∷ []) plan_is.entry_is in
    ready_renewed g.D.Disk.content g.D.Disk.image c.write_and_mark.new.disk i.limit i.second c.push.new.self.items c.args.entry.now (5 + length plan_is.body) c.in_ok-plan.plan.need sized alone_is need fits after

pub invariant_of-self-in_err-write_and_mark : goal.invariant_of-self-in_err-write_and_mark
invariant_of-self-in_err-write_and_mark g c =
    let k = c.self.invariant in
    let full : c.is_full-self-inside.result ≡ false = rw c.in_ok-plan.was at c.is_full-self-inside.ensures in
    record { low = k.low; high = k.high; room = k.room; some = k.some; revealed = λ ready. absurd (false≢true (sym full ∙ ready)) }

pub returns-in_err-write_and_mark-clause-left : goal.returns-in_err-write_and_mark-clause-left
returns-in_err-write_and_mark-clause-left g c =
    let i = c.self.inside in
    let full : c.is_full-self-inside.result ≡ false = rw c.in_ok-plan.was at c.is_full-self-inside.ensures in
    let old : LogState g.row.D.Denot = c.args.self.now in
    let new : LogState g.row.D.Denot = record { disk = c.write_and_mark.new.disk; limit = i.limit; entries = i.entries.items; is_old = i.first_version; size = 17 + i.closed; ready = c.is_full-self-inside.result } in
    left_unready old new c.from_residual-in_err-write_and_mark.result _ c.from_residual-in_err-write_and_mark.ensures.1 (λ x. let was = c.self.view_is x in record { disk = new.disk; limit = was.limit; entries = was.entries; is_old = was.is_old; size = was.size; ready = full x })
