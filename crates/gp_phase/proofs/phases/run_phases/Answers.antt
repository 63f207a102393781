use Rattle.std.proofs.Common.{◌≡◌, inl, inr, ◌++◌, ◌<◌, true, List, length, get_or, set, refl, sym, ap, ◌∙◌, subst, None, arith, get_or-set_same, length-set}
use Rattle.std.proofs.lemmas.List.{append-nil}
use Rattle.std.specs.Option.{option_to_list}
use Rattle.std.specs.List.{All}
use Rattle.gp_work.specs.declared.job.Job.{Job}
use Rattle.gp_phase.specs.Phases.{Asked, Follows, total}
use Rattle.gp_phase.proofs.Phasing.{Looks, starts, ready, worked, looked, asked, finished, all_carried, carried_asked, known, none_left, only_none, not_quiet_fault, not_quiet_memory, not_fault_quiet, not_fault_memory}
use Rattle.gp_phase.proofs.Opening.{worked_open, looked_open}
use Rattle.gp_phase.proofs.phases.run_phases.Goals as goal

pub loop-init : goal.loop-init
loop-init g c = let r = c.requires.ready in (
  refl,
  refl,
  c.requires.knows,
  r.begun,
  r.pending,
  starts g.P.Process.state g.P.Process.is_of g.P.Process.causes c.args.net.now g.C.Caller.answers c.args.at c.args.jobs.items (g.C.Caller.node c.args.caller.now) (g.C.Caller.config c.args.caller.now) (g.C.Caller.called c.args.caller.now) r (λ d. (c.requires.node d, c.requires.config d)),
  inl refl,
  refl,
)

pub workers_beside-jobs-requires-clause-ready : goal.workers_beside-jobs-requires-clause-ready
workers_beside-jobs-requires-clause-ready g c κs within =
    let inv = c.loop.invariant in let ph = inv.5 in let size = ph.size in let there = c.requires.at in record {
      some = omega arith;
      ready = ready g.P.Process.state g.P.Process.is_of g.P.Process.causes c.args.net.now g.C.Caller.answers c.args.at c.args.jobs.items c.loop.jobs.items (g.C.Caller.node c.args.caller.now) (g.C.Caller.config c.args.caller.now) inv.3 inv.4 (g.C.Caller.called c.loop.caller) inv.5;
    }

pub returns-then-has_fault-clause-carried : goal.returns-then-has_fault-clause-carried
returns-then-has_fault-clause-carried g c =
    let inv = c.loop.invariant in
    all_carried g.P.Process.state g.P.Process.is_of g.P.Process.causes c.args.net.now g.C.Caller.answers c.args.at c.args.jobs.items c.loop.jobs.items c.workers_beside-jobs.result.items (g.C.Caller.node c.args.caller.now) (g.C.Caller.config c.args.caller.now) inv.3 inv.4 (g.C.Caller.called c.loop.caller) inv.5 c.workers_beside-jobs.ensures.worked.each

pub index_mut-requires : goal.index_mut-requires
index_mut-requires g c = let size = c.loop.invariant.5.size in let same = c.workers_beside-jobs.ensures.worked.same in let there = c.requires.at in omega arith

pub call_round-requires-clause-up : goal.call_round-requires-clause-up
call_round-requires-clause-up g c =
    let js0 = c.args.jobs.items in let js = c.loop.jobs.items in let ks = c.workers_beside-jobs.result.items in
    let me = g.C.Caller.node c.args.caller.now in let us = g.C.Caller.config c.args.caller.now in let called = g.C.Caller.called c.loop.caller in
    let inv = c.loop.invariant in let ph = inv.5 in
    let none : All (λ (k : Job g.row.P.Denot). k.fault ≡ None) ks = subst (All (λ (k : Job g.row.P.Denot). k.fault ≡ None)) c.deref-in-loop.ensures.value (c.if-has_fault.ensures.none refl) in
    let done = worked g.P.Process.state g.P.Process.is_of g.P.Process.causes c.args.net.now g.C.Caller.answers c.args.at js0 js ks me us inv.3 inv.4 called c.requires.at ph c.workers_beside-jobs.ensures.worked.same c.workers_beside-jobs.ensures.worked.each none in
    let j : Job g.row.P.Denot = c.index_mut.result.now in
    let here : j ≡ get_or ks c.args.at j = c.index_mut.ensures.value in
    subst (λ (x : Job g.row.P.Denot). (g.P.Process.state x.cell).up ≡ true) (sym here) (done.each c.args.at j c.requires.at).up

pub call_round-requires-clause-knows : goal.call_round-requires-clause-knows
call_round-requires-clause-knows g c =
    let js0 = c.args.jobs.items in let js = c.loop.jobs.items in let ks = c.workers_beside-jobs.result.items in
    let me = g.C.Caller.node c.args.caller.now in let us = g.C.Caller.config c.args.caller.now in let called = g.C.Caller.called c.loop.caller in
    let inv = c.loop.invariant in let ph = inv.5 in
    let none : All (λ (k : Job g.row.P.Denot). k.fault ≡ None) ks = subst (All (λ (k : Job g.row.P.Denot). k.fault ≡ None)) c.deref-in-loop.ensures.value (c.if-has_fault.ensures.none refl) in
    let done = worked g.P.Process.state g.P.Process.is_of g.P.Process.causes c.args.net.now g.C.Caller.answers c.args.at js0 js ks me us inv.3 inv.4 called c.requires.at ph c.workers_beside-jobs.ensures.worked.same c.workers_beside-jobs.ensures.worked.each none in
    let j : Job g.row.P.Denot = c.index_mut.result.now in
    let here : j ≡ get_or ks c.args.at j = c.index_mut.ensures.value in
    let size = ph.size in let there = c.requires.at in
    let goes = (c.workers_beside-jobs.ensures.worked.each c.args.at j (omega arith)).stretch.goes in
    subst (λ (x : Job g.row.P.Denot). g.C.Caller.knows c.loop.caller (g.P.Process.state x.cell).list) (sym here)
    (known g.P.Process.state g.P.Process.is_of g.P.Process.causes c.args.net.now g.C.Caller.answers c.args.at (g.C.Caller.knows c.loop.caller) (g.C.Caller.lasts c.loop.caller) (g.P.Process.state (get_or js c.args.at j).cell) (g.P.Process.state (get_or ks c.args.at j).cell) goes (inv.2 j))

pub returns-in-Err-clause-carried : goal.returns-in-Err-clause-carried
returns-in-Err-clause-carried g c =
    let js0 = c.args.jobs.items in let js = c.loop.jobs.items in let ks = c.workers_beside-jobs.result.items in
    let me = g.C.Caller.node c.args.caller.now in let us = g.C.Caller.config c.args.caller.now in let called = g.C.Caller.called c.loop.caller in
    let inv = c.loop.invariant in let ph = inv.5 in
    let none : All (λ (k : Job g.row.P.Denot). k.fault ≡ None) ks = subst (All (λ (k : Job g.row.P.Denot). k.fault ≡ None)) c.deref-in-loop.ensures.value (c.if-has_fault.ensures.none refl) in
    let done = worked g.P.Process.state g.P.Process.is_of g.P.Process.causes c.args.net.now g.C.Caller.answers c.args.at js0 js ks me us inv.3 inv.4 called c.requires.at ph c.workers_beside-jobs.ensures.worked.same c.workers_beside-jobs.ensures.worked.each none in
    let j : Job g.row.P.Denot = c.index_mut.result.now in
    let here : j ≡ get_or ks c.args.at j = c.index_mut.ensures.value in
    let y : Job g.row.P.Denot = c.call_round.new.job in let after = g.C.Caller.called c.call_round.new.caller in
    let e = c.call_round.ensures in
    let w0 : Looks g.P.Process.state g.P.Process.is_of g.P.Process.causes c.args.net.now g.C.Caller.answers c.args.at j y = record { own = e.own; goes = e.goes; posts = e.posts; up = e.up; cursor = e.cursor; risen = e.risen; fault = e.fault } in
    let w = subst (λ (x : Job g.row.P.Denot). Looks g.P.Process.state g.P.Process.is_of g.P.Process.causes c.args.net.now g.C.Caller.answers c.args.at x y) here w0 in
    carried_asked g.P.Process.state g.P.Process.is_of g.P.Process.causes c.args.net.now g.C.Caller.answers c.args.at js0 ks me us called y j c.requires.at done w

pub returns-then-not-left-clause-carried : goal.returns-then-not-left-clause-carried
returns-then-not-left-clause-carried g c =
    let js0 = c.args.jobs.items in let js = c.loop.jobs.items in let ks = c.workers_beside-jobs.result.items in
    let me = g.C.Caller.node c.args.caller.now in let us = g.C.Caller.config c.args.caller.now in let called = g.C.Caller.called c.loop.caller in
    let inv = c.loop.invariant in let ph = inv.5 in
    let none : All (λ (k : Job g.row.P.Denot). k.fault ≡ None) ks = subst (All (λ (k : Job g.row.P.Denot). k.fault ≡ None)) c.deref-in-loop.ensures.value (c.if-has_fault.ensures.none refl) in
    let done = worked g.P.Process.state g.P.Process.is_of g.P.Process.causes c.args.net.now g.C.Caller.answers c.args.at js0 js ks me us inv.3 inv.4 called c.requires.at ph c.workers_beside-jobs.ensures.worked.same c.workers_beside-jobs.ensures.worked.each none in
    let j : Job g.row.P.Denot = c.index_mut.result.now in
    let here : j ≡ get_or ks c.args.at j = c.index_mut.ensures.value in
    let y : Job g.row.P.Denot = c.call_round.new.job in let after = g.C.Caller.called c.call_round.new.caller in
    let e = c.call_round.ensures in
    let w0 : Looks g.P.Process.state g.P.Process.is_of g.P.Process.causes c.args.net.now g.C.Caller.answers c.args.at j y = record { own = e.own; goes = e.goes; posts = e.posts; up = e.up; cursor = e.cursor; risen = e.risen; fault = e.fault } in
    let w = subst (λ (x : Job g.row.P.Denot). Looks g.P.Process.state g.P.Process.is_of g.P.Process.causes c.args.net.now g.C.Caller.answers c.args.at x y) here w0 in
    carried_asked g.P.Process.state g.P.Process.is_of g.P.Process.causes c.args.net.now g.C.Caller.answers c.args.at js0 ks me us called y j c.requires.at done w

pub returns-then-not-left-clause-finished : goal.returns-then-not-left-clause-finished
returns-then-not-left-clause-finished g c _ i d l =
    let js0 = c.args.jobs.items in let js = c.loop.jobs.items in let ks = c.workers_beside-jobs.result.items in
    let me = g.C.Caller.node c.args.caller.now in let us = g.C.Caller.config c.args.caller.now in let called = g.C.Caller.called c.loop.caller in
    let inv = c.loop.invariant in let ph = inv.5 in
    let none : All (λ (k : Job g.row.P.Denot). k.fault ≡ None) ks = subst (All (λ (k : Job g.row.P.Denot). k.fault ≡ None)) c.deref-in-loop.ensures.value (c.if-has_fault.ensures.none refl) in
    let done = worked g.P.Process.state g.P.Process.is_of g.P.Process.causes c.args.net.now g.C.Caller.answers c.args.at js0 js ks me us inv.3 inv.4 called c.requires.at ph c.workers_beside-jobs.ensures.worked.same c.workers_beside-jobs.ensures.worked.each none in
    let j : Job g.row.P.Denot = c.index_mut.result.now in
    let here : j ≡ get_or ks c.args.at j = c.index_mut.ensures.value in
    let y : Job g.row.P.Denot = c.call_round.new.job in let after = g.C.Caller.called c.call_round.new.caller in
    let e = c.call_round.ensures in
    let w0 : Looks g.P.Process.state g.P.Process.is_of g.P.Process.causes c.args.net.now g.C.Caller.answers c.args.at j y = record { own = e.own; goes = e.goes; posts = e.posts; up = e.up; cursor = e.cursor; risen = e.risen; fault = e.fault } in
    let w = subst (λ (x : Job g.row.P.Denot). Looks g.P.Process.state g.P.Process.is_of g.P.Process.causes c.args.net.now g.C.Caller.answers c.args.at x y) here w0 in
    let a = subst (λ (x : Job g.row.P.Denot). Asked g.P.Process.state (g.C.Caller.answers (g.P.Process.state x.cell).config (g.P.Process.state x.cell).node) called after x y c.in-Ok.left) here c.in-Ok.ensures.asked in
    let ends = looked g.P.Process.state g.P.Process.is_of g.P.Process.causes c.args.net.now g.C.Caller.answers c.args.at js0 js ks me us inv.3 inv.4 called ph c.workers_beside-jobs.ensures.worked.same c.workers_beside-jobs.ensures.worked.each none in
    let quiet : All (λ (k : Job g.row.P.Denot). length (g.P.Process.state k.cell).list ≡ total g.P.Process.state c.args.others ks) ks =
    subst (λ (xs : List (Job g.row.P.Denot)). All (λ (k : Job g.row.P.Denot). length (g.P.Process.state k.cell).list ≡ total g.P.Process.state c.args.others xs) xs) c.deref-in-loop-2.ensures.value (c.if-quiet.ensures refl) in
    finished g.P.Process.state g.P.Process.is_of g.P.Process.causes c.args.net.now g.C.Caller.answers c.args.at js0 ks me us called after c.args.others y j c.in-Ok.left c.requires.at done w a c.if-not-left.true ends quiet i d l

pub returns-then-not-left-clause-opens : goal.returns-then-not-left-clause-opens
returns-then-not-left-clause-opens g c _ i d l =
    let js0 = c.args.jobs.items in let js = c.loop.jobs.items in let ks = c.workers_beside-jobs.result.items in
    let me = g.C.Caller.node c.args.caller.now in let us = g.C.Caller.config c.args.caller.now in let called = g.C.Caller.called c.loop.caller in
    let inv = c.loop.invariant in let ph = inv.5 in
    let none : All (λ (k : Job g.row.P.Denot). k.fault ≡ None) ks = subst (All (λ (k : Job g.row.P.Denot). k.fault ≡ None)) c.deref-in-loop.ensures.value (c.if-has_fault.ensures.none refl) in
    let done = worked g.P.Process.state g.P.Process.is_of g.P.Process.causes c.args.net.now g.C.Caller.answers c.args.at js0 js ks me us inv.3 inv.4 called c.requires.at ph c.workers_beside-jobs.ensures.worked.same c.workers_beside-jobs.ensures.worked.each none in
    let j : Job g.row.P.Denot = c.index_mut.result.now in
    let here : j ≡ get_or ks c.args.at j = c.index_mut.ensures.value in
    let y : Job g.row.P.Denot = c.call_round.new.job in let after = g.C.Caller.called c.call_round.new.caller in
    let e = c.call_round.ensures in
    let w0 : Looks g.P.Process.state g.P.Process.is_of g.P.Process.causes c.args.net.now g.C.Caller.answers c.args.at j y = record { own = e.own; goes = e.goes; posts = e.posts; up = e.up; cursor = e.cursor; risen = e.risen; fault = e.fault } in
    let w = subst (λ (x : Job g.row.P.Denot). Looks g.P.Process.state g.P.Process.is_of g.P.Process.causes c.args.net.now g.C.Caller.answers c.args.at x y) here w0 in
    let opened = worked_open g.P.Process.state g.P.Process.is_of g.P.Process.causes c.args.net.now js0 js ks ph.size c.workers_beside-jobs.ensures.worked.same inv.6 c.workers_beside-jobs.ensures.worked.each none in
    looked_open g.P.Process.state g.P.Process.is_of g.P.Process.causes c.args.net.now g.C.Caller.answers c.args.at js0 ks y j done.size w opened i d l

pub returns-then-not-left-clause-follows : goal.returns-then-not-left-clause-follows
returns-then-not-left-clause-follows g c _ d =
    let js0 = c.args.jobs.items in let js = c.loop.jobs.items in let ks = c.workers_beside-jobs.result.items in
    let me = g.C.Caller.node c.args.caller.now in let us = g.C.Caller.config c.args.caller.now in let called = g.C.Caller.called c.loop.caller in
    let inv = c.loop.invariant in let ph = inv.5 in
    let none : All (λ (k : Job g.row.P.Denot). k.fault ≡ None) ks = subst (All (λ (k : Job g.row.P.Denot). k.fault ≡ None)) c.deref-in-loop.ensures.value (c.if-has_fault.ensures.none refl) in
    let done = worked g.P.Process.state g.P.Process.is_of g.P.Process.causes c.args.net.now g.C.Caller.answers c.args.at js0 js ks me us inv.3 inv.4 called c.requires.at ph c.workers_beside-jobs.ensures.worked.same c.workers_beside-jobs.ensures.worked.each none in
    let j : Job g.row.P.Denot = c.index_mut.result.now in
    let here : j ≡ get_or ks c.args.at j = c.index_mut.ensures.value in
    let y : Job g.row.P.Denot = c.call_round.new.job in let after = g.C.Caller.called c.call_round.new.caller in
    let e = c.call_round.ensures in
    let w0 : Looks g.P.Process.state g.P.Process.is_of g.P.Process.causes c.args.net.now g.C.Caller.answers c.args.at j y = record { own = e.own; goes = e.goes; posts = e.posts; up = e.up; cursor = e.cursor; risen = e.risen; fault = e.fault } in
    let w = subst (λ (x : Job g.row.P.Denot). Looks g.P.Process.state g.P.Process.is_of g.P.Process.causes c.args.net.now g.C.Caller.answers c.args.at x y) here w0 in
    let a = subst (λ (x : Job g.row.P.Denot). Asked g.P.Process.state (g.C.Caller.answers (g.P.Process.state x.cell).config (g.P.Process.state x.cell).node) called after x y c.in-Ok.left) here c.in-Ok.ensures.asked in
    let next = asked g.P.Process.state g.P.Process.is_of g.P.Process.causes c.args.net.now g.C.Caller.answers c.args.at js0 ks me us called after y j c.in-Ok.left c.requires.at done w a in
    let same : called ≡ after = sym (next.all ∙ ap (λ o. called ++ option_to_list o) (a.none c.if-not-left.true) ∙ append-nil called) in
    subst (λ cs. Follows g.P.Process.state g.C.Caller.answers (get_or (set ks c.args.at y) c.args.at d) cs None) same
    (subst (Follows g.P.Process.state g.C.Caller.answers (get_or (set ks c.args.at y) c.args.at d) called) (a.none c.if-not-left.true) (next.follows d))

pub returns-then-has_fault-clause-size : goal.returns-then-has_fault-clause-size
returns-then-has_fault-clause-size g c = c.workers_beside-jobs.ensures.worked.same ∙ c.loop.invariant.5.size

pub returns-then-has_fault-clause-blamed : goal.returns-then-has_fault-clause-blamed
returns-then-has_fault-clause-blamed g c _ = subst (λ (ks : List (Job g.row.P.Denot)). ¬ All (λ (k : Job g.row.P.Denot). k.fault ≡ None) ks) c.deref-in-loop.ensures.value (c.if-has_fault.ensures.some refl)

pub returns-in-Err-clause-blamed : goal.returns-in-Err-clause-blamed
returns-in-Err-clause-blamed g c q = absurd (not_fault_memory q)

pub returns-then-not-left-clause-blamed : goal.returns-then-not-left-clause-blamed
returns-then-not-left-clause-blamed g c q = absurd (not_fault_quiet q)

pub returns-then-has_fault-clause-finished : goal.returns-then-has_fault-clause-finished
returns-then-has_fault-clause-finished g c q i d l = absurd (not_quiet_fault q)

pub returns-in-Err-clause-finished : goal.returns-in-Err-clause-finished
returns-in-Err-clause-finished g c q i d l = absurd (not_quiet_memory q)

pub returns-then-has_fault-clause-opens : goal.returns-then-has_fault-clause-opens
returns-then-has_fault-clause-opens g c q i d l = absurd (not_quiet_fault q)

pub returns-in-Err-clause-opens : goal.returns-in-Err-clause-opens
returns-in-Err-clause-opens g c q i d l = absurd (not_quiet_memory q)

pub returns-then-has_fault-clause-follows : goal.returns-then-has_fault-clause-follows
returns-then-has_fault-clause-follows g c q d = absurd (not_quiet_fault q)

pub returns-in-Err-clause-follows : goal.returns-in-Err-clause-follows
returns-in-Err-clause-follows g c q d = absurd (not_quiet_memory q)

pub returns-then-has_fault-clause-last : goal.returns-then-has_fault-clause-last
returns-then-has_fault-clause-last g c q d = absurd (not_quiet_fault q)

pub returns-in-Err-clause-last : goal.returns-in-Err-clause-last
returns-in-Err-clause-last g c q d = absurd (not_quiet_memory q)

pub returns-then-has_fault-clause-knows : goal.returns-then-has_fault-clause-knows
returns-then-has_fault-clause-knows g c q d = absurd (not_quiet_fault q)

pub returns-in-Err-clause-knows : goal.returns-in-Err-clause-knows
returns-in-Err-clause-knows g c q d = absurd (not_quiet_memory q)

pub returns-then-has_fault-clause-node : goal.returns-then-has_fault-clause-node
returns-then-has_fault-clause-node g c = c.loop.invariant.0

pub returns-then-has_fault-clause-config : goal.returns-then-has_fault-clause-config
returns-then-has_fault-clause-config g c = c.loop.invariant.1

pub returns-then-has_fault-clause-topics : goal.returns-then-has_fault-clause-topics
returns-then-has_fault-clause-topics g c = c.workers_beside-jobs.ensures.topics ∙ c.loop.invariant.7

pub returns-in-Err-clause-size : goal.returns-in-Err-clause-size
returns-in-Err-clause-size g c = length-set c.workers_beside-jobs.result.items c.args.at c.call_round.new.job ∙ c.workers_beside-jobs.ensures.worked.same ∙ c.loop.invariant.5.size

pub returns-in-Err-clause-node : goal.returns-in-Err-clause-node
returns-in-Err-clause-node g c = c.call_round.ensures.node ∙ c.loop.invariant.0

pub returns-in-Err-clause-config : goal.returns-in-Err-clause-config
returns-in-Err-clause-config g c = c.call_round.ensures.config ∙ c.loop.invariant.1

pub returns-in-Err-clause-topics : goal.returns-in-Err-clause-topics
returns-in-Err-clause-topics g c = c.workers_beside-jobs.ensures.topics ∙ c.loop.invariant.7

pub returns-then-not-left-clause-size : goal.returns-then-not-left-clause-size
returns-then-not-left-clause-size g c = length-set c.workers_beside-jobs.result.items c.args.at c.call_round.new.job ∙ c.workers_beside-jobs.ensures.worked.same ∙ c.loop.invariant.5.size

pub returns-then-not-left-clause-node : goal.returns-then-not-left-clause-node
returns-then-not-left-clause-node g c = c.call_round.ensures.node ∙ c.loop.invariant.0

pub returns-then-not-left-clause-config : goal.returns-then-not-left-clause-config
returns-then-not-left-clause-config g c = c.call_round.ensures.config ∙ c.loop.invariant.1

pub returns-then-not-left-clause-topics : goal.returns-then-not-left-clause-topics
returns-then-not-left-clause-topics g c = c.workers_beside-jobs.ensures.topics ∙ c.loop.invariant.7

pub call_round-requires-clause-own : goal.call_round-requires-clause-own
call_round-requires-clause-own g c =
    let js0 = c.args.jobs.items in let js = c.loop.jobs.items in let ks = c.workers_beside-jobs.result.items in
    let me = g.C.Caller.node c.args.caller.now in let us = g.C.Caller.config c.args.caller.now in let called = g.C.Caller.called c.loop.caller in
    let inv = c.loop.invariant in let ph = inv.5 in
    let none : All (λ (k : Job g.row.P.Denot). k.fault ≡ None) ks = subst (All (λ (k : Job g.row.P.Denot). k.fault ≡ None)) c.deref-in-loop.ensures.value (c.if-has_fault.ensures.none refl) in
    let done = worked g.P.Process.state g.P.Process.is_of g.P.Process.causes c.args.net.now g.C.Caller.answers c.args.at js0 js ks me us inv.3 inv.4 called c.requires.at ph c.workers_beside-jobs.ensures.worked.same c.workers_beside-jobs.ensures.worked.each none in
    let j : Job g.row.P.Denot = c.index_mut.result.now in
    let here : j ≡ get_or ks c.args.at j = c.index_mut.ensures.value in
    subst (λ (x : Job g.row.P.Denot). g.P.Process.is_of x.cell c.args.net.now) (sym here) (done.each c.args.at j c.requires.at).own

pub call_round-requires-clause-node : goal.call_round-requires-clause-node
call_round-requires-clause-node g c =
    let js0 = c.args.jobs.items in let js = c.loop.jobs.items in let ks = c.workers_beside-jobs.result.items in
    let me = g.C.Caller.node c.args.caller.now in let us = g.C.Caller.config c.args.caller.now in let called = g.C.Caller.called c.loop.caller in
    let inv = c.loop.invariant in let ph = inv.5 in
    let none : All (λ (k : Job g.row.P.Denot). k.fault ≡ None) ks = subst (All (λ (k : Job g.row.P.Denot). k.fault ≡ None)) c.deref-in-loop.ensures.value (c.if-has_fault.ensures.none refl) in
    let done = worked g.P.Process.state g.P.Process.is_of g.P.Process.causes c.args.net.now g.C.Caller.answers c.args.at js0 js ks me us inv.3 inv.4 called c.requires.at ph c.workers_beside-jobs.ensures.worked.same c.workers_beside-jobs.ensures.worked.each none in
    let j : Job g.row.P.Denot = c.index_mut.result.now in
    let here : j ≡ get_or ks c.args.at j = c.index_mut.ensures.value in
    ap (λ (x : Job g.row.P.Denot). (g.P.Process.state x.cell).node) here ∙ (done.whose j).0 ∙ sym inv.0

pub call_round-requires-clause-config : goal.call_round-requires-clause-config
call_round-requires-clause-config g c =
    let js0 = c.args.jobs.items in let js = c.loop.jobs.items in let ks = c.workers_beside-jobs.result.items in
    let me = g.C.Caller.node c.args.caller.now in let us = g.C.Caller.config c.args.caller.now in let called = g.C.Caller.called c.loop.caller in
    let inv = c.loop.invariant in let ph = inv.5 in
    let none : All (λ (k : Job g.row.P.Denot). k.fault ≡ None) ks = subst (All (λ (k : Job g.row.P.Denot). k.fault ≡ None)) c.deref-in-loop.ensures.value (c.if-has_fault.ensures.none refl) in
    let done = worked g.P.Process.state g.P.Process.is_of g.P.Process.causes c.args.net.now g.C.Caller.answers c.args.at js0 js ks me us inv.3 inv.4 called c.requires.at ph c.workers_beside-jobs.ensures.worked.same c.workers_beside-jobs.ensures.worked.each none in
    let j : Job g.row.P.Denot = c.index_mut.result.now in
    let here : j ≡ get_or ks c.args.at j = c.index_mut.ensures.value in
    ap (λ (x : Job g.row.P.Denot). (g.P.Process.state x.cell).config) here ∙ (done.whose j).1 ∙ sym inv.1

pub call_round-requires-clause-first : goal.call_round-requires-clause-first
call_round-requires-clause-first g c =
    let js0 = c.args.jobs.items in let js = c.loop.jobs.items in let ks = c.workers_beside-jobs.result.items in
    let me = g.C.Caller.node c.args.caller.now in let us = g.C.Caller.config c.args.caller.now in let called = g.C.Caller.called c.loop.caller in
    let inv = c.loop.invariant in let ph = inv.5 in
    let none : All (λ (k : Job g.row.P.Denot). k.fault ≡ None) ks = subst (All (λ (k : Job g.row.P.Denot). k.fault ≡ None)) c.deref-in-loop.ensures.value (c.if-has_fault.ensures.none refl) in
    let done = worked g.P.Process.state g.P.Process.is_of g.P.Process.causes c.args.net.now g.C.Caller.answers c.args.at js0 js ks me us inv.3 inv.4 called c.requires.at ph c.workers_beside-jobs.ensures.worked.same c.workers_beside-jobs.ensures.worked.each none in
    let j : Job g.row.P.Denot = c.index_mut.result.now in
    let here : j ≡ get_or ks c.args.at j = c.index_mut.ensures.value in
    ap (λ (x : Job g.row.P.Denot). x.first) here ∙ done.first c.args.at j c.requires.at ∙ only_none c.args.at c.args.at

pub returns-then-not-left-clause-knows : goal.returns-then-not-left-clause-knows
returns-then-not-left-clause-knows g c _ d =
    let ks = c.workers_beside-jobs.result.items in let y : Job g.row.P.Denot = c.call_round.new.job in
    let size = c.loop.invariant.5.size in let same = c.workers_beside-jobs.ensures.worked.same in let there = c.requires.at in
    subst (λ (x : Job g.row.P.Denot). g.C.Caller.knows c.call_round.new.caller (g.P.Process.state x.cell).list) (sym (get_or-set_same ks c.args.at y d (omega arith))) c.call_round.ensures.knows

pub returns-then-not-left-clause-last : goal.returns-then-not-left-clause-last
returns-then-not-left-clause-last g c _ d =
    let js0 = c.args.jobs.items in let js = c.loop.jobs.items in let ks = c.workers_beside-jobs.result.items in
    let me = g.C.Caller.node c.args.caller.now in let us = g.C.Caller.config c.args.caller.now in let called = g.C.Caller.called c.loop.caller in
    let inv = c.loop.invariant in let ph = inv.5 in
    let none : All (λ (k : Job g.row.P.Denot). k.fault ≡ None) ks = subst (All (λ (k : Job g.row.P.Denot). k.fault ≡ None)) c.deref-in-loop.ensures.value (c.if-has_fault.ensures.none refl) in
    let done = worked g.P.Process.state g.P.Process.is_of g.P.Process.causes c.args.net.now g.C.Caller.answers c.args.at js0 js ks me us inv.3 inv.4 called c.requires.at ph c.workers_beside-jobs.ensures.worked.same c.workers_beside-jobs.ensures.worked.each none in
    let j : Job g.row.P.Denot = c.index_mut.result.now in
    let here : j ≡ get_or ks c.args.at j = c.index_mut.ensures.value in
    let y : Job g.row.P.Denot = c.call_round.new.job in let after = g.C.Caller.called c.call_round.new.caller in
    let e = c.call_round.ensures in
    let w0 : Looks g.P.Process.state g.P.Process.is_of g.P.Process.causes c.args.net.now g.C.Caller.answers c.args.at j y = record { own = e.own; goes = e.goes; posts = e.posts; up = e.up; cursor = e.cursor; risen = e.risen; fault = e.fault } in
    let w = subst (λ (x : Job g.row.P.Denot). Looks g.P.Process.state g.P.Process.is_of g.P.Process.causes c.args.net.now g.C.Caller.answers c.args.at x y) here w0 in
    let a = subst (λ (x : Job g.row.P.Denot). Asked g.P.Process.state (g.C.Caller.answers (g.P.Process.state x.cell).config (g.P.Process.state x.cell).node) called after x y c.in-Ok.left) here c.in-Ok.ensures.asked in
    let within : c.args.at < length ks = (let size = done.size in let there = c.requires.at in omega arith) in
    none_left g.P.Process.state g.P.Process.is_of g.P.Process.causes c.args.net.now g.C.Caller.answers c.args.at ks called after y j d c.in-Ok.left within w a c.if-not-left.true

pub loop-preserved : goal.loop-preserved
loop-preserved g c =
    let js0 = c.args.jobs.items in let js = c.loop.jobs.items in let ks = c.workers_beside-jobs.result.items in
    let me = g.C.Caller.node c.args.caller.now in let us = g.C.Caller.config c.args.caller.now in let called = g.C.Caller.called c.loop.caller in
    let inv = c.loop.invariant in let ph = inv.5 in
    let none : All (λ (k : Job g.row.P.Denot). k.fault ≡ None) ks = subst (All (λ (k : Job g.row.P.Denot). k.fault ≡ None)) c.deref-in-loop.ensures.value (c.if-has_fault.ensures.none refl) in
    let done = worked g.P.Process.state g.P.Process.is_of g.P.Process.causes c.args.net.now g.C.Caller.answers c.args.at js0 js ks me us inv.3 inv.4 called c.requires.at ph c.workers_beside-jobs.ensures.worked.same c.workers_beside-jobs.ensures.worked.each none in
    let j : Job g.row.P.Denot = c.index_mut.result.now in
    let here : j ≡ get_or ks c.args.at j = c.index_mut.ensures.value in
    let y : Job g.row.P.Denot = c.call_round.new.job in let after = g.C.Caller.called c.call_round.new.caller in
    let e = c.call_round.ensures in
    let w0 : Looks g.P.Process.state g.P.Process.is_of g.P.Process.causes c.args.net.now g.C.Caller.answers c.args.at j y = record { own = e.own; goes = e.goes; posts = e.posts; up = e.up; cursor = e.cursor; risen = e.risen; fault = e.fault } in
    let w = subst (λ (x : Job g.row.P.Denot). Looks g.P.Process.state g.P.Process.is_of g.P.Process.causes c.args.net.now g.C.Caller.answers c.args.at x y) here w0 in
    let a = subst (λ (x : Job g.row.P.Denot). Asked g.P.Process.state (g.C.Caller.answers (g.P.Process.state x.cell).config (g.P.Process.state x.cell).node) called after x y c.in-Ok.left) here c.in-Ok.ensures.asked in
    let opened = worked_open g.P.Process.state g.P.Process.is_of g.P.Process.causes c.args.net.now js0 js ks ph.size c.workers_beside-jobs.ensures.worked.same inv.6 c.workers_beside-jobs.ensures.worked.each none in
    let next = asked g.P.Process.state g.P.Process.is_of g.P.Process.causes c.args.net.now g.C.Caller.answers c.args.at js0 ks me us called after y j c.in-Ok.left c.requires.at done w a in
    let mine : (d : Job g.row.P.Denot) → get_or (set ks c.args.at y) c.args.at d ≡ y = λ d. get_or-set_same ks c.args.at y d (let size = done.size in let there = c.requires.at in omega arith) in (
      e.node ∙ inv.0,
      e.config ∙ inv.1,
      (λ d. subst (λ (x : Job g.row.P.Denot). g.C.Caller.knows c.call_round.new.caller (g.P.Process.state x.cell).list) (sym (mine d)) e.knows),
      called,
      a.answer,
      next,
      inr (looked_open g.P.Process.state g.P.Process.is_of g.P.Process.causes c.args.net.now g.C.Caller.answers c.args.at js0 ks y j done.size w opened),
      c.workers_beside-jobs.ensures.topics ∙ inv.7,
    )
