use Rattle.std.proofs.lemmas.Result.{IfOk-from_err}
use Rattle.std.proofs.lemmas.List.{append-nil}
use Rattle.std.proofs.Common.{arith, true, ◌≡◌, ◌++◌, ◌∷◌, [], Some, List, sym, ap, ◌∙◌, subst, refl}
use Rattle.gp_adapt.specs.Courses.{CourseState}
use Rattle.gp_adapt.specs.Choices.{mode_after}
use Rattle.gp_round.specs.Configs.{lead_of, is_owner}
use Rattle.gp_phase.specs.declared.caller.Call.{Call}
use Rattle.gp_caller.specs.Adapting.{last_for, IsInCourse}
use Rattle.gp_caller.proofs.Following.{last_for_next, next_in_course, called, looked}
use Rattle.gp_caller.proofs.adapting.AdaptiveCaller.decide.Goals as goal

pub invariant_of-self-2 : goal.invariant_of-self-2
invariant_of-self-2 g c =
    let self = c.args.self.now in let found = c.in-Some.ensures in let calls = self.calls.items in let call : Call = record { epoch = self.epoch; round = c.in-Some.round } in
    let last : last_for self.epoch c.push_reserved.new.self.items ≡ Some c.in-Some.round =
    ap (last_for self.epoch) (c.push_reserved.ensures.items ∙ ap (λ (cs : List Call). cs ++ call ∷ []) c.reserve.ensures.items) ∙ last_for_next self.epoch calls call refl in
    let next = next_in_course self.sight.watch calls self.epoch self.round self.watches c.requires.over self.adapt.course c.clashed.result c.in-Some.round self.remembers found.when found.count
    (found.after self.modes ∙ ap (λ (s : CourseState). mode_after s.clashes) found.course) (found.lead ∙ ap (λ n. lead_of c.in-Some.round.mode n) self.leads) in
    record {
      watches = self.watches;
      remembers = subst (λ o. IsInCourse c.next.new.self.course o) (sym last) (subst (λ s. IsInCourse s (Some c.in-Some.round)) (sym found.course) next.1);
      leads = found.coordinator ∙ self.leads;
      modes = found.by_clashes ∙ self.modes;
    }

pub returns-clause-call : goal.returns-clause-call
returns-clause-call g c =
    let self = c.args.self.now in let found = c.in-Some.ensures in let calls = self.calls.items in
    let next = next_in_course self.sight.watch calls self.epoch self.round self.watches c.requires.over self.adapt.course c.clashed.result c.in-Some.round self.remembers found.when found.count
    (found.after self.modes ∙ ap (λ (s : CourseState). mode_after s.clashes) found.course) (found.lead ∙ ap (λ n. lead_of c.in-Some.round.mode n) self.leads) in
    called self.sight.watch calls self.epoch self.round self.watches c.requires.over c.clashed.result c.in-Some.round c.clashed.ensures next.0

pub returns-clause-look : goal.returns-clause-look
returns-clause-look g c =
    let self = c.args.self.now in let found = c.in-Some.ensures in let call : Call = record { epoch = self.epoch; round = c.in-Some.round } in
    looked self.adapt.course self.sight.watch c.next.new.self.course c.clashed.result call (last_for self.epoch self.calls.items) self.round.count c.clashed.ensures self.remembers found.course found.when
    (found.after self.modes ∙ ap (λ (s : CourseState). mode_after s.clashes) found.course)

pub invariant_of-self : goal.invariant_of-self
invariant_of-self g c =
    let self = c.args.self.now in record {
      watches = self.watches;
      remembers = subst (λ (cs : List Call). IsInCourse self.adapt.course (last_for self.epoch cs)) (sym {A = List Call} c.in_err-reserve.ensures.items) self.remembers;
      leads = self.leads;
      modes = self.modes;
    }

pub returns-in_err-reserve-clause-rest : goal.returns-in_err-reserve-clause-rest
returns-in_err-reserve-clause-rest g c = (refl, refl)

pub returns-in_err-reserve-clause-calls : goal.returns-in_err-reserve-clause-calls
returns-in_err-reserve-clause-calls g c = IfOk-from_err c.from_residual.result _ c.from_residual.ensures.0

pub returns-in_err-reserve-clause-owned : goal.returns-in_err-reserve-clause-owned
returns-in_err-reserve-clause-owned g c = IfOk-from_err c.from_residual.result _ c.from_residual.ensures.0

pub returns-in_err-reserve-clause-call : goal.returns-in_err-reserve-clause-call
returns-in_err-reserve-clause-call g c = IfOk-from_err c.from_residual.result _ c.from_residual.ensures.0

pub returns-in_err-reserve-clause-look : goal.returns-in_err-reserve-clause-look
returns-in_err-reserve-clause-look g c = IfOk-from_err c.from_residual.result _ c.from_residual.ensures.0

pub returns-in_default-clause-rest : goal.returns-in_default-clause-rest
returns-in_default-clause-rest g c = (c.in_default.ensures.config, refl)

pub returns-in_default-clause-calls : goal.returns-in_default-clause-calls
returns-in_default-clause-calls g c = c.in_ok-reserve.ensures.items ∙ sym (append-nil c.args.self.now.calls.items)

pub returns-in_default-clause-owned : goal.returns-in_default-clause-owned
returns-in_default-clause-owned g c = tt

pub returns-in_default-clause-look : goal.returns-in_default-clause-look
returns-in_default-clause-look g c = record { clashed = c.clashed.result; clash = c.clashed.ensures; course = c.in_default.ensures.course; begun = tt; calm = tt }

pub returns-clause-rest : goal.returns-clause-rest
returns-clause-rest g c = (c.in-Some.ensures.config, refl)

pub returns-clause-calls : goal.returns-clause-calls
returns-clause-calls g c = c.push_reserved.ensures.items ∙ ap (λ (cs : List Call). cs ++ record { epoch = c.args.self.now.epoch; round = c.in-Some.round } ∷ []) c.reserve.ensures.items

pub returns-clause-owned : goal.returns-clause-owned
returns-clause-owned g c = subst (λ n. is_owner c.args.self.now.adapt.config.coordinators n c.in-Some.round ≡ true) c.args.self.now.leads c.in-Some.ensures.owned

pub push_reserved-requires : goal.push_reserved-requires
push_reserved-requires g c = let ok = c.in_ok-reserve.ensures.ok in omega (arith, ok)
