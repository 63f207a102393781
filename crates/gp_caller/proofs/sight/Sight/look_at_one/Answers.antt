use Rattle.std.proofs.Common.{◌≡◌, None, Some, refl, sym, ap, ◌∙◌, subst}
use Rattle.std.specs.Prelude.{slice_get}
use Rattle.gp_wire.specs.Known.{records}
use Rattle.gp_msg.specs.Records.{messages_in}
use Rattle.gp_cell.proofs.Going.{later_goes}
use Rattle.gp_cell.proofs.Posting.{had_later}
use Rattle.gp_caller.specs.Sights.{SightState, Saw}
use Rattle.gp_caller.proofs.Seeing.{saw_on, saw_more, saw_all}
use Rattle.gp_caller.proofs.sight.Sight.look_at_one.Goals as goal

pub returns-in-Ok-None-clause-saw : goal.returns-in-Ok-None-clause-saw
returns-in-Ok-None-clause-saw g c =
    let p = c.args.cell.now.pass in let q = c.look.new.self.pass in saw_on c.args.self.now p q (later_goes p q (had_later p q c.look.ensures.turn)) c.requires.saw

pub returns-in-Ok-None-clause-all : goal.returns-in-Ok-None-clause-all
returns-in-Ok-None-clause-all g c _ =
    let p = c.args.cell.now.pass in let q = c.look.new.self.pass in
    let none : slice_get (messages_in (records q)) c.args.self.now.looked ≡ None =
    ap (λ (s : SightState). slice_get (messages_in (records q)) s.looked) (sym c.self.view_is) ∙ sym c.in-Ok-None.ensures.answer ∙ c.in-Ok-None.field-0-is in
    saw_all c.args.self.now (records q) none (saw_on c.args.self.now p q (later_goes p q (had_later p q c.look.ensures.turn)) c.requires.saw)

pub returns-in-Err-clause-saw : goal.returns-in-Err-clause-saw
returns-in-Err-clause-saw g c =
    let p = c.args.cell.now.pass in let q = c.look.new.self.pass in saw_on c.args.self.now p q (later_goes p q (had_later p q c.look.ensures.turn)) c.requires.saw

pub returns-in-Ok-clause-saw : goal.returns-in-Ok-clause-saw
returns-in-Ok-clause-saw g c =
    let p = c.args.cell.now.pass in let q = c.look.new.self.pass in let found = c.in-Ok-Some in
    let some : slice_get (messages_in (records q)) c.args.self.now.looked ≡ Some found.message =
    ap (λ (s : SightState). slice_get (messages_in (records q)) s.looked) (sym c.self.view_is) ∙ sym found.ensures.answer ∙ found.field-0-is in
    subst (λ s. Saw s (records q)) (sym c.in-Ok.ensures.shown)
    (saw_more c.args.self.now (records q) found.message some (saw_on c.args.self.now p q (later_goes p q (had_later p q c.look.ensures.turn)) c.requires.saw))

pub returns-in-Err-shown-clause-saw : goal.returns-in-Err-shown-clause-saw
returns-in-Err-shown-clause-saw g c =
    let p = c.args.cell.now.pass in let q = c.look.new.self.pass in
    subst (λ s. Saw s (records q)) (sym c.in-Err-shown.ensures.unchanged) (saw_on c.args.self.now p q (later_goes p q (had_later p q c.look.ensures.turn)) c.requires.saw)

pub returns-in-Ok-None-clause-rest : goal.returns-in-Ok-None-clause-rest
returns-in-Ok-None-clause-rest g c = c.look.ensures.rest

pub returns-in-Ok-None-clause-pass : goal.returns-in-Ok-None-clause-pass
returns-in-Ok-None-clause-pass g c = let p = c.args.cell.now.pass in let q = c.look.new.self.pass in later_goes p q (had_later p q c.look.ensures.turn)

pub returns-in-Ok-None-clause-own : goal.returns-in-Ok-None-clause-own
returns-in-Ok-None-clause-own g c = c.look.ensures.own

pub returns-in-Err-clause-rest : goal.returns-in-Err-clause-rest
returns-in-Err-clause-rest g c = c.look.ensures.rest

pub returns-in-Err-clause-pass : goal.returns-in-Err-clause-pass
returns-in-Err-clause-pass g c = let p = c.args.cell.now.pass in let q = c.look.new.self.pass in later_goes p q (had_later p q c.look.ensures.turn)

pub returns-in-Err-clause-own : goal.returns-in-Err-clause-own
returns-in-Err-clause-own g c = c.look.ensures.own

pub returns-in-Ok-clause-rest : goal.returns-in-Ok-clause-rest
returns-in-Ok-clause-rest g c = c.look.ensures.rest

pub returns-in-Ok-clause-pass : goal.returns-in-Ok-clause-pass
returns-in-Ok-clause-pass g c = let p = c.args.cell.now.pass in let q = c.look.new.self.pass in later_goes p q (had_later p q c.look.ensures.turn)

pub returns-in-Ok-clause-own : goal.returns-in-Ok-clause-own
returns-in-Ok-clause-own g c = c.look.ensures.own

pub returns-in-Err-shown-clause-rest : goal.returns-in-Err-shown-clause-rest
returns-in-Err-shown-clause-rest g c = c.look.ensures.rest

pub returns-in-Err-shown-clause-pass : goal.returns-in-Err-shown-clause-pass
returns-in-Err-shown-clause-pass g c = let p = c.args.cell.now.pass in let q = c.look.new.self.pass in later_goes p q (had_later p q c.look.ensures.turn)

pub returns-in-Err-shown-clause-own : goal.returns-in-Err-shown-clause-own
returns-in-Err-shown-clause-own g c = c.look.ensures.own

pub returns-in-Ok-None-clause-round : goal.returns-in-Ok-None-clause-round
returns-in-Ok-None-clause-round g c = refl

pub returns-in-Err-clause-round : goal.returns-in-Err-clause-round
returns-in-Err-clause-round g c = refl

pub returns-in-Err-shown-clause-round : goal.returns-in-Err-shown-clause-round
returns-in-Err-shown-clause-round g c = ap (λ (s : SightState). s.watch.round) c.in-Err-shown.ensures.unchanged
