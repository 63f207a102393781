use Rattle.std.proofs.Common.{◌≡◌, ◌++◌, ◌∷◌, [], false, None, Some, ◌+◌, ◌-◌, ◌≤◌, length, take, drop, sym, ap, ◌∙◌, inl, arith, rules}
use Rattle.std.proofs.lemmas.List.{take_rest}
use Rattle.std.specs.Option.{option_map, option_copied}
use Rattle.gp_msg.specs.declared.durable.Durable.{Durable}
use Rattle.gp_vlog.specs.Bodies.{entry_of}
use Rattle.gp_vlog.specs.Gates.{block}
use Rattle.gp_vlog.specs.Logs.{LogState, OldOrAdded, entry_for, log_entries, last}
use Rattle.gp_vlog.proofs.Areas.{last_or}
use Rattle.gp_vlog.proofs.Standing.{IsSized}
use Rattle.gp_vlog.proofs.Appends.{unwritten, appending, appended, last_kept, added_seen, kept_added, ready_added}
use Rattle.gp_vlog.proofs.log.Log.append.Goals as goal

pub returns-in_err-plan-clause-any_moment : goal.returns-in_err-plan-clause-any_moment
returns-in_err-plan-clause-any_moment g c =
    let i = c.self.inside in
    let k = c.self.invariant in
    let e = entry_for false c.args.entry.now in
    let es = log_entries i.first_version i.entries.items in
    let sized : IsSized i.limit = record { low = k.low; high = k.high } in
    let holds = k.revealed (ap (λ (v : LogState _). v.ready) c.self.view_is ∙ c.requires.ready) in
    added_seen g.D.Disk.content g.D.Disk.image g.D.Disk.moment g.D.Disk.since i.limit i.second es i.closed sized _ _ _ e c.self.view_is c.requires.new
    (unwritten g.D.Disk.content g.D.Disk.image g.D.Disk.moment g.D.Disk.since i.limit i.second es i.closed sized i.disk (OldOrAdded i.limit es e) holds (g.met.D.Disk.only_now i.disk) (λ b q. inl q))

pub returns-in_err-write_and_mark-clause-any_moment : goal.returns-in_err-write_and_mark-clause-any_moment
returns-in_err-write_and_mark-clause-any_moment g c =
    let i = c.self.inside in
    let k = c.self.invariant in
    let e = entry_for false c.args.entry.now in
    let es = log_entries i.first_version i.entries.items in
    let sized : IsSized i.limit = record { low = k.low; high = k.high } in
    let holds = k.revealed (ap (λ (v : LogState _). v.ready) c.self.view_is ∙ c.requires.ready) in
    let plan_is = rw c.in_ok-plan.was at c.planned-outcome.ensures.plan in
    let room = rw c.in_ok-plan.was at c.planned-outcome.ensures.room in
    let need = plan_is.need in
    let fits : 17 + i.closed + (5 + length plan_is.body) ≤ i.limit = omega (arith, room, need) in
    let piece_is : take (length c.deref-2.result.now - 1) (drop 1 c.deref-2.result.now) ≡ block plan_is.body = take_rest c.deref-2.result.now 1 ∙ ap (drop 1) (c.deref-2.ensures.value ∙ plan_is.bytes) in
    let old_is : i.first_version ≡ false = ap (λ (v : LogState _). v.is_old) c.self.view_is ∙ c.requires.new in
    let before_is : option_copied c.last-before.result ≡ last i.entries.items = c.last-before.ensures.value ∙ ap last c.deref.ensures.value in
    let next_is : last_or entry_of (i.limit - 16) None es ≡ option_map (entry_for false) (option_copied c.last-before.result) =
    ap (λ b. last_or entry_of (i.limit - 16) None (log_entries b i.entries.items)) old_is ∙ last_kept false i.entries.items (i.limit - 16) ∙ ap (option_map (entry_for false)) (sym before_is) in
    let means : entry_of (last_or entry_of (i.limit - 16) None es) plan_is.body ≡ Some e = ap (λ o. entry_of o plan_is.body) next_is ∙ plan_is.means in
    let moments = rw c.first_gate.ensures.value at c.write_and_mark.ensures.any_moment in
    added_seen g.D.Disk.content g.D.Disk.image g.D.Disk.moment g.D.Disk.since i.limit i.second es i.closed sized _ _ _ e c.self.view_is c.requires.new
    (appending g.D.Disk.content g.D.Disk.image g.D.Disk.moment g.D.Disk.since i.limit i.second es i.closed sized i.disk c.write_and_mark.new.disk plan_is.body _ e holds piece_is means fits moments)

pub returns-in_err-push-clause-any_moment : goal.returns-in_err-push-clause-any_moment
returns-in_err-push-clause-any_moment g c =
    let i = c.self.inside in
    let k = c.self.invariant in
    let e = entry_for false c.args.entry.now in
    let es = log_entries i.first_version i.entries.items in
    let sized : IsSized i.limit = record { low = k.low; high = k.high } in
    let holds = k.revealed (ap (λ (v : LogState _). v.ready) c.self.view_is ∙ c.requires.ready) in
    let plan_is = rw c.in_ok-plan.was at c.planned-outcome.ensures.plan in
    let room = rw c.in_ok-plan.was at c.planned-outcome.ensures.room in
    let need = plan_is.need in
    let fits : 17 + i.closed + (5 + length plan_is.body) ≤ i.limit = omega (arith, room, need) in
    let piece_is : take (length c.deref-2.result.now - 1) (drop 1 c.deref-2.result.now) ≡ block plan_is.body = take_rest c.deref-2.result.now 1 ∙ ap (drop 1) (c.deref-2.ensures.value ∙ plan_is.bytes) in
    let old_is : i.first_version ≡ false = ap (λ (v : LogState _). v.is_old) c.self.view_is ∙ c.requires.new in
    let before_is : option_copied c.last-before.result ≡ last i.entries.items = c.last-before.ensures.value ∙ ap last c.deref.ensures.value in
    let next_is : last_or entry_of (i.limit - 16) None es ≡ option_map (entry_for false) (option_copied c.last-before.result) =
    ap (λ b. last_or entry_of (i.limit - 16) None (log_entries b i.entries.items)) old_is ∙ last_kept false i.entries.items (i.limit - 16) ∙ ap (option_map (entry_for false)) (sym before_is) in
    let means : entry_of (last_or entry_of (i.limit - 16) None es) plan_is.body ≡ Some e = ap (λ o. entry_of o plan_is.body) next_is ∙ plan_is.means in
    let moments = rw c.first_gate.ensures.value at c.write_and_mark.ensures.any_moment in
    added_seen g.D.Disk.content g.D.Disk.image g.D.Disk.moment g.D.Disk.since i.limit i.second es i.closed sized _ _ _ e c.self.view_is c.requires.new
    (appending g.D.Disk.content g.D.Disk.image g.D.Disk.moment g.D.Disk.since i.limit i.second es i.closed sized i.disk c.write_and_mark.new.disk plan_is.body _ e holds piece_is means fits moments)

pub returns-clause-any_moment : goal.returns-clause-any_moment
returns-clause-any_moment g c =
    let i = c.self.inside in
    let k = c.self.invariant in
    let e = entry_for false c.args.entry.now in
    let es = log_entries i.first_version i.entries.items in
    let sized : IsSized i.limit = record { low = k.low; high = k.high } in
    let holds = k.revealed (ap (λ (v : LogState _). v.ready) c.self.view_is ∙ c.requires.ready) in
    let plan_is = rw c.in_ok-plan.was at c.planned-outcome.ensures.plan in
    let room = rw c.in_ok-plan.was at c.planned-outcome.ensures.room in
    let need = plan_is.need in
    let fits : 17 + i.closed + (5 + length plan_is.body) ≤ i.limit = omega (arith, room, need) in
    let piece_is : take (length c.deref-2.result.now - 1) (drop 1 c.deref-2.result.now) ≡ block plan_is.body = take_rest c.deref-2.result.now 1 ∙ ap (drop 1) (c.deref-2.ensures.value ∙ plan_is.bytes) in
    let old_is : i.first_version ≡ false = ap (λ (v : LogState _). v.is_old) c.self.view_is ∙ c.requires.new in
    let before_is : option_copied c.last-before.result ≡ last i.entries.items = c.last-before.ensures.value ∙ ap last c.deref.ensures.value in
    let next_is : last_or entry_of (i.limit - 16) None es ≡ option_map (entry_for false) (option_copied c.last-before.result) =
    ap (λ b. last_or entry_of (i.limit - 16) None (log_entries b i.entries.items)) old_is ∙ last_kept false i.entries.items (i.limit - 16) ∙ ap (option_map (entry_for false)) (sym before_is) in
    let means : entry_of (last_or entry_of (i.limit - 16) None es) plan_is.body ≡ Some e = ap (λ o. entry_of o plan_is.body) next_is ∙ plan_is.means in
    let moments = rw c.first_gate.ensures.value at c.write_and_mark.ensures.any_moment in
    added_seen g.D.Disk.content g.D.Disk.image g.D.Disk.moment g.D.Disk.since i.limit i.second es i.closed sized _ _ _ e c.self.view_is c.requires.new
    (appending g.D.Disk.content g.D.Disk.image g.D.Disk.moment g.D.Disk.since i.limit i.second es i.closed sized i.disk c.write_and_mark.new.disk plan_is.body _ e holds piece_is means fits moments)

pub invariant_of-self-2 : goal.invariant_of-self-2
invariant_of-self-2 g c =
    let i = c.self.inside in
    let k = c.self.invariant in
    let e = entry_for false c.args.entry.now in
    let es = log_entries i.first_version i.entries.items in
    let sized : IsSized i.limit = record { low = k.low; high = k.high } in
    let holds = k.revealed (ap (λ (v : LogState _). v.ready) c.self.view_is ∙ c.requires.ready) in
    let plan_is = rw c.in_ok-plan.was at c.planned-outcome.ensures.plan in
    let room = rw c.in_ok-plan.was at c.planned-outcome.ensures.room in
    let need = plan_is.need in
    let fits : 17 + i.closed + (5 + length plan_is.body) ≤ i.limit = omega (arith, room, need) in
    let piece_is : take (length c.deref-2.result.now - 1) (drop 1 c.deref-2.result.now) ≡ block plan_is.body = take_rest c.deref-2.result.now 1 ∙ ap (drop 1) (c.deref-2.ensures.value ∙ plan_is.bytes) in
    let old_is : i.first_version ≡ false = ap (λ (v : LogState _). v.is_old) c.self.view_is ∙ c.requires.new in
    let before_is : option_copied c.last-before.result ≡ last i.entries.items = c.last-before.ensures.value ∙ ap last c.deref.ensures.value in
    let next_is : last_or entry_of (i.limit - 16) None es ≡ option_map (entry_for false) (option_copied c.last-before.result) =
    ap (λ b. last_or entry_of (i.limit - 16) None (log_entries b i.entries.items)) old_is ∙ last_kept false i.entries.items (i.limit - 16) ∙ ap (option_map (entry_for false)) (sym before_is) in
    let means : entry_of (last_or entry_of (i.limit - 16) None es) plan_is.body ≡ Some e = ap (λ o. entry_of o plan_is.body) next_is ∙ plan_is.means in
    let turns = rw c.first_gate.ensures.value at c.in_ok-write_and_mark.ensures.written in
    let after = appended g.D.Disk.content g.D.Disk.image g.D.Disk.moment g.D.Disk.since i.limit i.second es i.closed sized i.disk c.write_and_mark.new.disk plan_is.body _ e holds piece_is means fits c.write_and_mark.ensures.reveals turns in
    let grown : c.push.new.self.items ≡ i.entries.items ++ c.in_ok-plan.plan.entry ∷ [] = search rules in
    let grown_is = grown ∙ ap (λ (d : Durable). i.entries.items ++ d ∷ []) plan_is.entry_is in
    kept_added g.D.Disk.content g.D.Disk.image c.write_and_mark.new.disk i.limit i.second i.first_version i.entries.items c.push.new.self.items c.args.entry.now i.closed (5 + length plan_is.body) (i.closed + c.in_ok-plan.plan.need) sized old_is grown_is (ap (λ n. i.closed + n) need) fits after

pub returns-clause-ready : goal.returns-clause-ready
returns-clause-ready g c =
    let i = c.self.inside in
    let k = c.self.invariant in
    let e = entry_for false c.args.entry.now in
    let es = log_entries i.first_version i.entries.items in
    let sized : IsSized i.limit = record { low = k.low; high = k.high } in
    let holds = k.revealed (ap (λ (v : LogState _). v.ready) c.self.view_is ∙ c.requires.ready) in
    let plan_is = rw c.in_ok-plan.was at c.planned-outcome.ensures.plan in
    let room = rw c.in_ok-plan.was at c.planned-outcome.ensures.room in
    let need = plan_is.need in
    let fits : 17 + i.closed + (5 + length plan_is.body) ≤ i.limit = omega (arith, room, need) in
    let piece_is : take (length c.deref-2.result.now - 1) (drop 1 c.deref-2.result.now) ≡ block plan_is.body = take_rest c.deref-2.result.now 1 ∙ ap (drop 1) (c.deref-2.ensures.value ∙ plan_is.bytes) in
    let old_is : i.first_version ≡ false = ap (λ (v : LogState _). v.is_old) c.self.view_is ∙ c.requires.new in
    let before_is : option_copied c.last-before.result ≡ last i.entries.items = c.last-before.ensures.value ∙ ap last c.deref.ensures.value in
    let next_is : last_or entry_of (i.limit - 16) None es ≡ option_map (entry_for false) (option_copied c.last-before.result) =
    ap (λ b. last_or entry_of (i.limit - 16) None (log_entries b i.entries.items)) old_is ∙ last_kept false i.entries.items (i.limit - 16) ∙ ap (option_map (entry_for false)) (sym before_is) in
    let means : entry_of (last_or entry_of (i.limit - 16) None es) plan_is.body ≡ Some e = ap (λ o. entry_of o plan_is.body) next_is ∙ plan_is.means in
    let turns = rw c.first_gate.ensures.value at c.in_ok-write_and_mark.ensures.written in
    let after = appended g.D.Disk.content g.D.Disk.image g.D.Disk.moment g.D.Disk.since i.limit i.second es i.closed sized i.disk c.write_and_mark.new.disk plan_is.body _ e holds piece_is means fits c.write_and_mark.ensures.reveals turns in
    let grown : c.push.new.self.items ≡ i.entries.items ++ c.in_ok-plan.plan.entry ∷ [] = search rules in
    let grown_is = grown ∙ ap (λ (d : Durable). i.entries.items ++ d ∷ []) plan_is.entry_is in
    ready_added g.D.Disk.content g.D.Disk.image c.write_and_mark.new.disk i.limit i.second i.first_version i.entries.items c.push.new.self.items c.args.entry.now i.closed (5 + length plan_is.body) (i.closed + c.in_ok-plan.plan.need) sized old_is grown_is (ap (λ n. i.closed + n) need) fits after
