use Rattle.std.proofs.Common.{refl, sym, ◌∙◌}
use Rattle.gp_stage.proofs.Places.{within}
use Rattle.gp_stage.proofs.Meeting.{meeting_keeps_rest}
use Rattle.gp_stage.proofs.Moving.{held_by, held_met, whole_led}
use Rattle.gp_stage.proofs.Keeping.{list_of_lead}
use Rattle.gp_stage.proofs.Taking.{same_holder, same_length}
use Rattle.gp_stage.proofs.playing.take_over.Goals as goal

pub meet_at-requires-clause-own : goal.meet_at-requires-clause-own
meet_at-requires-clause-own g c x e = (c.requires.held.placed c.args.at x e).own

pub meet_at-requires-clause-own_too : goal.meet_at-requires-clause-own_too
meet_at-requires-clause-own_too g c x e = (c.requires.held.placed c.args.holder x e).own

pub meet_at-requires-clause-holder : goal.meet_at-requires-clause-holder
meet_at-requires-clause-holder g c a b p q = held_by c.args.wire.now c.args.wire.now.rules.config c.args.cells.now c.args.holder c.args.at c.requires.held a b p q

pub returns-then-at-holder-clause-taken : goal.returns-then-at-holder-clause-taken
returns-then-at-holder-clause-taken g c = let h = c.requires.held in let m = c.meet_at.ensures in let w = c.args.wire.now in record {
  held = held_met w w.rules.config c.args.cells.now c.meet_at.new.cells c.args.holder c.args.at h m c.if-at-holder.true;
  list_is = whole_led w w.rules.config c.args.cells.now c.meet_at.new.cells c.args.holder c.args.at h m c.if-at-holder.true ∙ sym (list_of_lead w w.rules.config c.args.cells.now c.args.holder h);
  same = meeting_keeps_rest c.args.cells.now c.meet_at.new.cells c.args.at c.args.holder m;
}

pub returns-then-at-holder-clause-long : goal.returns-then-at-holder-clause-long
returns-then-at-holder-clause-long g c = same_length c.args.cells.now c.meet_at.new.cells (meeting_keeps_rest c.args.cells.now c.meet_at.new.cells c.args.at c.args.holder c.meet_at.ensures)

pub returns-else-at-holder-clause-taken : goal.returns-else-at-holder-clause-taken
returns-else-at-holder-clause-taken g c = same_holder c.args.wire.now c.args.cells.now c.args.holder c.args.at c.requires.held (sym c.if-at-holder.false)

pub meet_at-requires-clause-here : goal.meet_at-requires-clause-here
meet_at-requires-clause-here g c = c.requires.here

pub meet_at-requires-clause-there : goal.meet_at-requires-clause-there
meet_at-requires-clause-there g c = within c.args.cells.now c.args.holder c.requires.held.lead c.requires.held.lead_is

pub meet_at-requires-clause-two : goal.meet_at-requires-clause-two
meet_at-requires-clause-two g c = c.if-at-holder.true

pub returns-else-at-holder-clause-long : goal.returns-else-at-holder-clause-long
returns-else-at-holder-clause-long g c = refl
