use Rattle.std.proofs.Common.{◌≡◌, ◌∙◌, sym, ap, subst, length, Some}
use Rattle.std.specs.Prelude.{slice_get}
use Rattle.gp_msg.specs.Records.{messages_in}
use Rattle.gp_wire.specs.Known.{records}
use Rattle.gp_work.specs.declared.moves.Move.{Move}
use Rattle.gp_work.specs.Moves.{IsBeyond}
use Rattle.gp_wire.proofs.Words.{none_beyond}
use Rattle.gp_work.specs.declared.faults.StepFault.TheVariants.{Waiting, NoMemory}
use Rattle.gp_cell.specs.Plans.{Names}
use Rattle.gp_cell.proofs.Posting.{had_later}
use Rattle.gp_cell.proofs.steps.read_named.Goals as goal

pub returns-in-Ok-Some-clause-named : goal.returns-in-Ok-Some-clause-named
returns-in-Ok-Some-clause-named g c =
    let q = c.read.new.pass in
    let at : slice_get (messages_in (records q)) c.in-Take.k ≡ Some c.in-Ok-Some.m = sym c.in-Ok-Some.ensures.answer ∙ c.in-Ok-Some.field-0-is in
    subst (λ (mv : Move). Names (messages_in (records q)) mv (Some c.in-Ok-Some.m)) (sym c.in-Take.is) at

pub returns-in-Ok-None-clause-waiting : goal.returns-in-Ok-None-clause-waiting
returns-in-Ok-None-clause-waiting g c _ =
    let q = c.read.new.pass in
    subst (λ (mv : Move). IsBeyond (length (messages_in (records q))) mv) (sym c.in-Take.is)
    (none_beyond (messages_in (records q)) c.in-Take.k (sym c.in-Ok-None.ensures.answer ∙ c.in-Ok-None.field-0-is))

pub returns-in-Ok-Some-clause-knows : goal.returns-in-Ok-Some-clause-knows
returns-in-Ok-Some-clause-knows g c = had_later c.args.pass.now c.read.new.pass c.read.ensures.turn

pub returns-in-Ok-Some-clause-whole : goal.returns-in-Ok-Some-clause-whole
returns-in-Ok-Some-clause-whole g c all = ap length (c.read.ensures.whole all)

pub returns-in-Ok-None-clause-knows : goal.returns-in-Ok-None-clause-knows
returns-in-Ok-None-clause-knows g c = had_later c.args.pass.now c.read.new.pass c.read.ensures.turn

pub returns-in-Ok-None-clause-whole : goal.returns-in-Ok-None-clause-whole
returns-in-Ok-None-clause-whole g c all = ap length (c.read.ensures.whole all)

pub returns-in-Err-clause-knows : goal.returns-in-Err-clause-knows
returns-in-Err-clause-knows g c = had_later c.args.pass.now c.read.new.pass c.read.ensures.turn

pub returns-in-Err-clause-whole : goal.returns-in-Err-clause-whole
returns-in-Err-clause-whole g c all = ap length (c.read.ensures.whole all)

pub returns-in-Err-clause-waiting : goal.returns-in-Err-clause-waiting
returns-in-Err-clause-waiting g c e = absurd (let wrong : NoMemory ≡ Waiting = e in cc)
