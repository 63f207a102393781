use Rattle.std.proofs.Common.{◌∙◌, List, get_or, sym, ap}
use Rattle.gp_msg.specs.declared.record.Record.{Record}
use Rattle.gp_msg.specs.Messages.{message_of}
use Rattle.gp_audit.specs.Owning.{own_event}
use Rattle.gp_audit.proofs.RecordsTaken.{on_ok}
use Rattle.gp_audit.proofs.StepRecords.{step_elsewhere, step_fall, step_none, step_take}
use Rattle.gp_audit.proofs.replay.Replay.step.Goals as goal

pub returns-in-Some : goal.returns-in-Some
returns-in-Some c =
    let rs = c.args.world.now.records in
    let l = c.args.self.now.number in
    let r = c.index-records-at.result in
    let is = c.index-records-at.is ∙ ap (λ (xs : List Record). get_or xs c.args.at r) c.records.ensures.value in
    on_ok c.take.result
    (step_take c.args.world.now.config rs c.args.at r l c.records.ensures.legal c.requires.there is c.args.self.now c.requires.before c.in-Takes.k
    (ap (λ (x : Record). own_event l x.event) c.index-records-at.is ∙ sym c.own_event.ensures ∙ c.in-Takes.is)
    c.take.ensures.some c.take.new.self (message_of c.in-Some.m.now) (sym c.in-Some.ensures.history))
    c.take.ensures.takes

pub returns-in-None : goal.returns-in-None
returns-in-None c =
    let rs = c.args.world.now.records in
    let l = c.args.self.now.number in
    let r = c.index-records-at.result in
    let is = c.index-records-at.is ∙ ap (λ (xs : List Record). get_or xs c.args.at r) c.records.ensures.value in
    step_none c.args.world.now.config rs c.args.at r l c.records.ensures.legal c.requires.there is c.args.self.now c.requires.before c.in-Takes.k
    (ap (λ (x : Record). own_event l x.event) c.index-records-at.is ∙ sym c.own_event.ensures ∙ c.in-Takes.is)
    (sym c.in-None.ensures.history)

pub returns-in-Falls : goal.returns-in-Falls
returns-in-Falls c =
    let rs = c.args.world.now.records in
    let l = c.args.self.now.number in
    let r = c.index-records-at.result in
    let is = c.index-records-at.is ∙ ap (λ (xs : List Record). get_or xs c.args.at r) c.records.ensures.value in
    step_fall c.args.world.now.config rs c.args.at r l c.records.ensures.legal c.requires.there is c.args.self.now c.requires.before
    (ap (λ (x : Record). own_event l x.event) c.index-records-at.is ∙ sym c.own_event.ensures ∙ c.in-Falls.is)
    c.fall.new.self c.fall.ensures.step c.fall.ensures.number c.fall.ensures.next c.fall.ensures.proofs

pub returns-in-Elsewhere : goal.returns-in-Elsewhere
returns-in-Elsewhere c =
    let rs = c.args.world.now.records in
    let l = c.args.self.now.number in
    let r = c.index-records-at.result in
    let is = c.index-records-at.is ∙ ap (λ (xs : List Record). get_or xs c.args.at r) c.records.ensures.value in
    step_elsewhere c.args.world.now.config rs c.args.at r l c.records.ensures.legal c.requires.there is c.args.self.now c.requires.before
    (ap (λ (x : Record). own_event l x.event) c.index-records-at.is ∙ sym c.own_event.ensures ∙ c.in-Elsewhere.is)
