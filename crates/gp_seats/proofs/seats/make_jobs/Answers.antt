use Rattle.std.proofs.Common.{◌≡◌, ◌≤◌, ◌+◌, [], ◌∷◌, ◌++◌, length, reverse, sym, subst, ap, ◌∙◌, length-append, vec_capacity, vec_len, arith, rules}
use Rattle.std.proofs.lemmas.List.{append-nil, reverse-reverse, length-reverse}
use Rattle.std.specs.Option.{option_to_list}
use Rattle.gp_work.specs.declared.job.Job.{Job}
use Rattle.gp_cell.specs.Cells.{CellState, log_of}
use Rattle.gp_seats.specs.Seats.{CanSit, first_log, logs_in, seat, seats}
use Rattle.gp_seats.proofs.Sitting.{sit_step, jobs_step, logs_step, length_whole, on_ok}
use Rattle.gp_seats.proofs.seats.make_jobs.Goals as goal

pub loop-pass-init : goal.loop-pass-init
loop-pass-init g c =
    let config = c.args.config in let logs = c.reverse-2.new.self.items in
    let ps : reverse c.reverse.new.self.items ≡ c.args.passes.items = ap reverse c.reverse.ensures.items ∙ reverse-reverse c.args.passes.items in
    let ls : reverse logs ≡ c.args.logs.items = ap reverse c.reverse-2.ensures.items ∙ reverse-reverse c.args.logs.items in
    let empty : c.reserve.new.self.items ≡ [] = c.reserve.ensures.items ∙ c.new-jobs.ensures.items in
    let room = on_ok (vec_len c.reserve.new.self + c.len.result ≤ vec_capacity c.reserve.new.self) c.reserve.result c.if-is_err.ensures.value c.reserve.ensures.ok in
    let count : c.len.result ≡ length c.args.passes.items = search rules in let none = ap length empty in
    let same = ap length c.reverse.ensures.items ∙ length-reverse c.args.passes.items in (
      ap (λ js. js ++ seats config (reverse c.reverse.new.self.items) (reverse logs)) empty ∙ ap (λ x. seats config x (reverse logs)) ps ∙ ap (λ x. seats config c.args.passes.items x) ls,
      ap (λ js. logs_in js ++ reverse logs) empty ∙ ls,
      subst (λ x. CanSit config x (reverse logs)) (sym ps) (subst (λ x. CanSit config c.args.passes.items x) (sym ls) c.requires),
      omega arith,
      search rules,
    )

pub make_job-requires-clause-unused : goal.make_job-requires-clause-unused
make_job-requires-clause-unused g c =
    (sit_step c.args.config c.loop-pass.passes.items c.pop.new.self.items c.in-Some.pass c.loop-pass.logs.items c.next_log-log.new.logs.items c.next_log-log.result
    c.in-Some.ensures.items (c.next_log-log.ensures.log ∙ ap (λ n. first_log n (reverse c.loop-pass.logs.items)) c.node.ensures) c.next_log-log.ensures.rest c.loop-pass.invariant.2).0

pub make_job-requires-clause-log : goal.make_job-requires-clause-log
make_job-requires-clause-log g c =
    (sit_step c.args.config c.loop-pass.passes.items c.pop.new.self.items c.in-Some.pass c.loop-pass.logs.items c.next_log-log.new.logs.items c.next_log-log.result
    c.in-Some.ensures.items (c.next_log-log.ensures.log ∙ ap (λ n. first_log n (reverse c.loop-pass.logs.items)) c.node.ensures) c.next_log-log.ensures.rest c.loop-pass.invariant.2).1

pub loop-pass-preserved : goal.loop-pass-preserved
loop-pass-preserved g c =
    let config = c.args.config in let jobs = c.loop-pass.jobs.items in let after = c.push_reserved.new.self.items in
    let ps = c.loop-pass.passes.items in let more = c.pop.new.self.items in let p = c.in-Some.pass in
    let logs = c.loop-pass.logs.items in let rest = c.next_log-log.new.logs.items in let log = c.next_log-log.result in let h = c.loop-pass.invariant in
    let s = sit_step config ps more p logs rest log c.in-Some.ensures.items (c.next_log-log.ensures.log ∙ ap (λ n. first_log n (reverse logs)) c.node.ensures) c.next_log-log.ensures.rest h.2 in
    let one : length ps ≡ length more + 1 = ap length c.in-Some.ensures.items ∙ length-append more (p ∷ []) in
    let grown = c.push_reserved.ensures.len in let room = c.push_reserved.ensures.capacity in let fits = h.3 in
    let kept = c.next_log-log.ensures.room in let held = h.4 in (
      jobs_step jobs after (seats config (reverse ps) (reverse logs)) (seats config (reverse more) (reverse rest)) (seats config c.args.passes.items c.args.logs.items) c.in-Ok.job (seat config p log) c.push_reserved.ensures.items c.in-Ok.ensures.made s.3 h.0,
      logs_step jobs after c.in-Ok.job log (reverse logs) (reverse rest) c.args.logs.items c.push_reserved.ensures.items (ap (λ (j : Job (CellState g.row.D.Denot)). log_of j.cell) c.in-Ok.ensures.made) s.4 h.1,
      s.2,
      search rules,
      search rules,
    )

pub take_back-requires : goal.take_back-requires
take_back-requires g c =
    let rest = c.next_log-log.new.logs.items in let log = c.next_log-log.result in
    let back = ap length (c.push_log.ensures.items ∙ ap (λ o. rest ++ option_to_list o) c.in-Err.ensures.back ∙ sym c.next_log-log.ensures.rest) in
    let whole = length_whole c.loop-pass.jobs.items c.loop-pass.logs.items c.args.logs.items c.loop-pass.invariant.1 in
    let held = c.loop-pass.invariant.4 in let room = c.push_log.ensures.room in let kept = c.next_log-log.ensures.room in omega arith

pub push_log-requires : goal.push_log-requires
push_log-requires g c =
    let rest = c.next_log-log.new.logs.items in let log = c.next_log-log.result in
    let whole = length_whole c.loop-pass.jobs.items c.loop-pass.logs.items c.args.logs.items c.loop-pass.invariant.1 in
    let same = ap (λ o. length (option_to_list o)) c.in-Err.ensures.back in
    omega (arith, ap length c.next_log-log.ensures.rest, length-append rest (option_to_list log), same, whole, c.loop-pass.invariant.4, c.next_log-log.ensures.room)

pub push_reserved-requires : goal.push_reserved-requires
push_reserved-requires g c = omega (arith, c.loop-pass.jobs.ok.0, c.loop-pass.invariant.3, ap length c.in-Some.ensures.items, length-append c.pop.new.self.items (c.in-Some.pass ∷ []))

pub loop-pass-smaller : goal.loop-pass-smaller
loop-pass-smaller g c = omega (arith, ap length c.in-Some.ensures.items, length-append c.pop.new.self.items (c.in-Some.pass ∷ []))

pub returns-in-Err-clause-back : goal.returns-in-Err-clause-back
returns-in-Err-clause-back g c =
    let rest = c.next_log-log.new.logs.items in
    let back = c.push_log.ensures.items ∙ ap (λ o. rest ++ option_to_list o) c.in-Err.ensures.back ∙ sym c.next_log-log.ensures.rest in
    c.take_back.ensures ∙ ap (λ l. logs_in c.loop-pass.jobs.items ++ reverse l) back ∙ c.loop-pass.invariant.1

pub returns-clause-made : goal.returns-clause-made
returns-clause-made g c =
    let jobs = c.loop-pass.jobs.items in let logs = reverse c.loop-pass.logs.items in
    let none : c.loop-pass.passes.items ≡ [] = search rules in
    sym (append-nil jobs) ∙ ap (λ l. jobs ++ seats c.args.config (reverse l) logs) (sym none) ∙ c.loop-pass.invariant.0
