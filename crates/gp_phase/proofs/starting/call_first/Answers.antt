use Rattle.std.proofs.Common.{◌≡◌, true, get_or, set, subst, sym, ap, ◌∙◌, get_or-set_same, length-set}
use Rattle.gp_work.specs.declared.job.Job.{Job}
use Rattle.gp_phase.specs.Phases.{Asked}
use Rattle.gp_phase.proofs.Phasing.{Looks, starts_new, asked, ready_on, unbroken_set, carried_asked}
use Rattle.gp_phase.proofs.Opening.{first_asked, first_answer}
use Rattle.gp_phase.proofs.starting.call_first.Goals as goal

pub returns-in-Ok-clause-ready : goal.returns-in-Ok-clause-ready
returns-in-Ok-clause-ready g c =
    let js = c.args.jobs.now.items in let me = g.C.Caller.node c.args.caller.now in let us = g.C.Caller.config c.args.caller.now in
    let called = g.C.Caller.called c.args.caller.now in let after = g.C.Caller.called c.call_round.new.caller in
    let j : Job g.row.P.Denot = c.index_mut.result.now in let y : Job g.row.P.Denot = c.call_round.new.job in
    let here : j ≡ get_or js c.args.at j = c.index_mut.ensures.value in
    let e = c.call_round.ensures in
    let w0 : Looks g.P.Process.state g.P.Process.is_of g.P.Process.causes c.args.net.now g.C.Caller.answers c.args.at j y = record { own = e.own; goes = e.goes; posts = e.posts; up = e.up; cursor = e.cursor; risen = e.risen; fault = e.fault } in
    let w = subst (λ (x : Job g.row.P.Denot). Looks g.P.Process.state g.P.Process.is_of g.P.Process.causes c.args.net.now g.C.Caller.answers c.args.at x y) here w0 in
    let a = subst (λ (x : Job g.row.P.Denot). Asked g.P.Process.state (g.C.Caller.answers (g.P.Process.state x.cell).config (g.P.Process.state x.cell).node) called after x y c.in-Ok.field-0) here c.in-Ok.ensures.asked in
    let start = starts_new g.P.Process.state g.P.Process.is_of g.P.Process.causes c.args.net.now g.C.Caller.answers c.args.at js me us called c.requires.none c.requires.new c.requires.at (λ d. (c.requires.node d, c.requires.config d)) in
    ready_on g.P.Process.state g.P.Process.is_of g.P.Process.causes c.args.net.now g.C.Caller.answers c.args.at js (set js c.args.at y) me us called a.answer after (asked g.P.Process.state g.P.Process.is_of g.P.Process.causes c.args.net.now g.C.Caller.answers c.args.at js js me us called after y j c.in-Ok.field-0 c.requires.at start w a)

pub returns-in-Ok-clause-opening : goal.returns-in-Ok-clause-opening
returns-in-Ok-clause-opening g c i d l =
    let js = c.args.jobs.now.items in
    let called = g.C.Caller.called c.args.caller.now in let after = g.C.Caller.called c.call_round.new.caller in
    let j : Job g.row.P.Denot = c.index_mut.result.now in let y : Job g.row.P.Denot = c.call_round.new.job in
    let here : j ≡ get_or js c.args.at j = c.index_mut.ensures.value in
    let e = c.call_round.ensures in
    let w0 : Looks g.P.Process.state g.P.Process.is_of g.P.Process.causes c.args.net.now g.C.Caller.answers c.args.at j y = record { own = e.own; goes = e.goes; posts = e.posts; up = e.up; cursor = e.cursor; risen = e.risen; fault = e.fault } in
    let w = subst (λ (x : Job g.row.P.Denot). Looks g.P.Process.state g.P.Process.is_of g.P.Process.causes c.args.net.now g.C.Caller.answers c.args.at x y) here w0 in
    let a = subst (λ (x : Job g.row.P.Denot). Asked g.P.Process.state (g.C.Caller.answers (g.P.Process.state x.cell).config (g.P.Process.state x.cell).node) called after x y c.in-Ok.field-0) here c.in-Ok.ensures.asked in
    first_asked g.P.Process.state g.P.Process.is_of g.P.Process.causes c.args.net.now g.C.Caller.answers c.args.at js called after y j c.in-Ok.field-0 c.requires.none c.requires.new c.requires.at w a i d l

pub returns-in-Ok-clause-answered : goal.returns-in-Ok-clause-answered
returns-in-Ok-clause-answered g c d =
    let js = c.args.jobs.now.items in
    let called = g.C.Caller.called c.args.caller.now in let after = g.C.Caller.called c.call_round.new.caller in
    let j : Job g.row.P.Denot = c.index_mut.result.now in let y : Job g.row.P.Denot = c.call_round.new.job in
    let here : j ≡ get_or js c.args.at j = c.index_mut.ensures.value in
    let e = c.call_round.ensures in
    let w0 : Looks g.P.Process.state g.P.Process.is_of g.P.Process.causes c.args.net.now g.C.Caller.answers c.args.at j y = record { own = e.own; goes = e.goes; posts = e.posts; up = e.up; cursor = e.cursor; risen = e.risen; fault = e.fault } in
    let w = subst (λ (x : Job g.row.P.Denot). Looks g.P.Process.state g.P.Process.is_of g.P.Process.causes c.args.net.now g.C.Caller.answers c.args.at x y) here w0 in
    let a = subst (λ (x : Job g.row.P.Denot). Asked g.P.Process.state (g.C.Caller.answers (g.P.Process.state x.cell).config (g.P.Process.state x.cell).node) called after x y c.in-Ok.field-0) here c.in-Ok.ensures.asked in
    first_answer g.P.Process.state g.P.Process.is_of g.P.Process.causes c.args.net.now g.C.Caller.answers c.args.at js called after y j d c.in-Ok.field-0 c.requires.none c.requires.at w a

pub returns-in-Ok-clause-unbroken : goal.returns-in-Ok-clause-unbroken
returns-in-Ok-clause-unbroken g c =
    let js = c.args.jobs.now.items in let j : Job g.row.P.Denot = c.index_mut.result.now in
    let here : j ≡ get_or js c.args.at j = c.index_mut.ensures.value in
    unbroken_set js c.args.at c.call_round.new.job (λ i d l. (c.requires.new i d l).fault)
    (c.call_round.ensures.fault ∙ ap (λ (x : Job g.row.P.Denot). x.fault) here ∙ (c.requires.new c.args.at j c.requires.at).fault)

pub returns-in-Err-clause-unbroken : goal.returns-in-Err-clause-unbroken
returns-in-Err-clause-unbroken g c =
    let js = c.args.jobs.now.items in let j : Job g.row.P.Denot = c.index_mut.result.now in
    let here : j ≡ get_or js c.args.at j = c.index_mut.ensures.value in
    unbroken_set js c.args.at c.call_round.new.job (λ i d l. (c.requires.new i d l).fault)
    (c.call_round.ensures.fault ∙ ap (λ (x : Job g.row.P.Denot). x.fault) here ∙ (c.requires.new c.args.at j c.requires.at).fault)

pub call_round-requires-clause-own : goal.call_round-requires-clause-own
call_round-requires-clause-own g c =
    let js = c.args.jobs.now.items in let j : Job g.row.P.Denot = c.index_mut.result.now in
    let here : j ≡ get_or js c.args.at j = c.index_mut.ensures.value in
    subst (λ (x : Job g.row.P.Denot). g.P.Process.is_of x.cell c.args.net.now) (sym here) (c.requires.new c.args.at j c.requires.at).own

pub call_round-requires-clause-up : goal.call_round-requires-clause-up
call_round-requires-clause-up g c =
    let js = c.args.jobs.now.items in let j : Job g.row.P.Denot = c.index_mut.result.now in
    let here : j ≡ get_or js c.args.at j = c.index_mut.ensures.value in
    subst (λ (x : Job g.row.P.Denot). (g.P.Process.state x.cell).up ≡ true) (sym here) (c.requires.new c.args.at j c.requires.at).up

pub call_round-requires-clause-node : goal.call_round-requires-clause-node
call_round-requires-clause-node g c =
    let js = c.args.jobs.now.items in let j : Job g.row.P.Denot = c.index_mut.result.now in
    let here : j ≡ get_or js c.args.at j = c.index_mut.ensures.value in
    ap (λ (x : Job g.row.P.Denot). (g.P.Process.state x.cell).node) here ∙ c.requires.node j

pub call_round-requires-clause-config : goal.call_round-requires-clause-config
call_round-requires-clause-config g c =
    let js = c.args.jobs.now.items in let j : Job g.row.P.Denot = c.index_mut.result.now in
    let here : j ≡ get_or js c.args.at j = c.index_mut.ensures.value in
    ap (λ (x : Job g.row.P.Denot). (g.P.Process.state x.cell).config) here ∙ c.requires.config j

pub call_round-requires-clause-knows : goal.call_round-requires-clause-knows
call_round-requires-clause-knows g c =
    let js = c.args.jobs.now.items in let j : Job g.row.P.Denot = c.index_mut.result.now in
    let here : j ≡ get_or js c.args.at j = c.index_mut.ensures.value in
    subst (λ (x : Job g.row.P.Denot). g.C.Caller.knows c.args.caller.now (g.P.Process.state x.cell).list) (sym here) (c.requires.knows j)

pub call_round-requires-clause-first : goal.call_round-requires-clause-first
call_round-requires-clause-first g c =
    let js = c.args.jobs.now.items in let j : Job g.row.P.Denot = c.index_mut.result.now in
    let here : j ≡ get_or js c.args.at j = c.index_mut.ensures.value in
    ap (λ (x : Job g.row.P.Denot). x.first) here ∙ (c.requires.new c.args.at j c.requires.at).first

pub returns-in-Ok-clause-size : goal.returns-in-Ok-clause-size
returns-in-Ok-clause-size g c = length-set c.args.jobs.now.items c.args.at c.call_round.new.job

pub returns-in-Ok-clause-carried : goal.returns-in-Ok-clause-carried
returns-in-Ok-clause-carried g c =
    let js = c.args.jobs.now.items in let j : Job g.row.P.Denot = c.index_mut.result.now in
    let me = g.C.Caller.node c.args.caller.now in let us = g.C.Caller.config c.args.caller.now in let called = g.C.Caller.called c.args.caller.now in
    let y : Job g.row.P.Denot = c.call_round.new.job in let e = c.call_round.ensures in
    let here : j ≡ get_or js c.args.at j = c.index_mut.ensures.value in
    let w0 : Looks g.P.Process.state g.P.Process.is_of g.P.Process.causes c.args.net.now g.C.Caller.answers c.args.at j y = record { own = e.own; goes = e.goes; posts = e.posts; up = e.up; cursor = e.cursor; risen = e.risen; fault = e.fault } in
    let w = subst (λ (x : Job g.row.P.Denot). Looks g.P.Process.state g.P.Process.is_of g.P.Process.causes c.args.net.now g.C.Caller.answers c.args.at x y) here w0 in
    let start = starts_new g.P.Process.state g.P.Process.is_of g.P.Process.causes c.args.net.now g.C.Caller.answers c.args.at js me us called c.requires.none c.requires.new c.requires.at (λ d. (c.requires.node d, c.requires.config d)) in
    carried_asked g.P.Process.state g.P.Process.is_of g.P.Process.causes c.args.net.now g.C.Caller.answers c.args.at js js me us called y j c.requires.at start w

pub returns-in-Ok-clause-node : goal.returns-in-Ok-clause-node
returns-in-Ok-clause-node g c d =
    let js = c.args.jobs.now.items in let j : Job g.row.P.Denot = c.index_mut.result.now in
    let y : Job g.row.P.Denot = c.call_round.new.job in let e = c.call_round.ensures in
    let here : j ≡ get_or js c.args.at j = c.index_mut.ensures.value in
    let field = λ (x : Job g.row.P.Denot). (g.P.Process.state x.cell).node in
    ap field (get_or-set_same js c.args.at y d c.requires.at) ∙ e.goes.node ∙ ap field here ∙ c.requires.node j ∙ sym e.node

pub returns-in-Ok-clause-config : goal.returns-in-Ok-clause-config
returns-in-Ok-clause-config g c d =
    let js = c.args.jobs.now.items in let j : Job g.row.P.Denot = c.index_mut.result.now in
    let y : Job g.row.P.Denot = c.call_round.new.job in let e = c.call_round.ensures in
    let here : j ≡ get_or js c.args.at j = c.index_mut.ensures.value in
    let field = λ (x : Job g.row.P.Denot). (g.P.Process.state x.cell).config in
    ap field (get_or-set_same js c.args.at y d c.requires.at) ∙ e.goes.config ∙ ap field here ∙ c.requires.config j ∙ sym e.config

pub returns-in-Ok-clause-knows : goal.returns-in-Ok-clause-knows
returns-in-Ok-clause-knows g c d =
    let y : Job g.row.P.Denot = c.call_round.new.job in
    subst (λ (x : Job g.row.P.Denot). g.C.Caller.knows c.call_round.new.caller (g.P.Process.state x.cell).list) (sym (get_or-set_same c.args.jobs.now.items c.args.at y d c.requires.at)) c.call_round.ensures.knows

pub returns-in-Err-clause-size : goal.returns-in-Err-clause-size
returns-in-Err-clause-size g c = length-set c.args.jobs.now.items c.args.at c.call_round.new.job

pub returns-in-Err-clause-carried : goal.returns-in-Err-clause-carried
returns-in-Err-clause-carried g c =
    let js = c.args.jobs.now.items in let j : Job g.row.P.Denot = c.index_mut.result.now in
    let me = g.C.Caller.node c.args.caller.now in let us = g.C.Caller.config c.args.caller.now in let called = g.C.Caller.called c.args.caller.now in
    let y : Job g.row.P.Denot = c.call_round.new.job in let e = c.call_round.ensures in
    let here : j ≡ get_or js c.args.at j = c.index_mut.ensures.value in
    let w0 : Looks g.P.Process.state g.P.Process.is_of g.P.Process.causes c.args.net.now g.C.Caller.answers c.args.at j y = record { own = e.own; goes = e.goes; posts = e.posts; up = e.up; cursor = e.cursor; risen = e.risen; fault = e.fault } in
    let w = subst (λ (x : Job g.row.P.Denot). Looks g.P.Process.state g.P.Process.is_of g.P.Process.causes c.args.net.now g.C.Caller.answers c.args.at x y) here w0 in
    let start = starts_new g.P.Process.state g.P.Process.is_of g.P.Process.causes c.args.net.now g.C.Caller.answers c.args.at js me us called c.requires.none c.requires.new c.requires.at (λ d. (c.requires.node d, c.requires.config d)) in
    carried_asked g.P.Process.state g.P.Process.is_of g.P.Process.causes c.args.net.now g.C.Caller.answers c.args.at js js me us called y j c.requires.at start w

pub returns-in-Err-clause-node : goal.returns-in-Err-clause-node
returns-in-Err-clause-node g c d =
    let js = c.args.jobs.now.items in let j : Job g.row.P.Denot = c.index_mut.result.now in
    let y : Job g.row.P.Denot = c.call_round.new.job in let e = c.call_round.ensures in
    let here : j ≡ get_or js c.args.at j = c.index_mut.ensures.value in
    let field = λ (x : Job g.row.P.Denot). (g.P.Process.state x.cell).node in
    ap field (get_or-set_same js c.args.at y d c.requires.at) ∙ e.goes.node ∙ ap field here ∙ c.requires.node j ∙ sym e.node

pub returns-in-Err-clause-config : goal.returns-in-Err-clause-config
returns-in-Err-clause-config g c d =
    let js = c.args.jobs.now.items in let j : Job g.row.P.Denot = c.index_mut.result.now in
    let y : Job g.row.P.Denot = c.call_round.new.job in let e = c.call_round.ensures in
    let here : j ≡ get_or js c.args.at j = c.index_mut.ensures.value in
    let field = λ (x : Job g.row.P.Denot). (g.P.Process.state x.cell).config in
    ap field (get_or-set_same js c.args.at y d c.requires.at) ∙ e.goes.config ∙ ap field here ∙ c.requires.config j ∙ sym e.config

pub returns-in-Err-clause-knows : goal.returns-in-Err-clause-knows
returns-in-Err-clause-knows g c d =
    let y : Job g.row.P.Denot = c.call_round.new.job in
    subst (λ (x : Job g.row.P.Denot). g.C.Caller.knows c.call_round.new.caller (g.P.Process.state x.cell).list) (sym (get_or-set_same c.args.jobs.now.items c.args.at y d c.requires.at)) c.call_round.ensures.knows
