use Rattle.std.proofs.Common.{◌≡◌, Some, sym, ap, ◌∙◌}
use Rattle.std.specs.Option.{option_copied}
use Rattle.gp_history.specs.Sequence.{history_of}
use Rattle.gp_msg.specs.Messages.{EpochPart, part_of, Acceptors, Coordinators}
use Rattle.gp_run.specs.Runs.{newest_first}
use Rattle.gp_wire.specs.Known.{records}
use Rattle.gp_cell.specs.Cells.{last_entry}
use Rattle.gp_caller.proofs.Stood.{stands}
use Rattle.gp_caller.proofs.standing.standing.Goals as goal

pub unreachable-requires : goal.unreachable-requires
unreachable-requires g c =
    let cell = c.args.cell.now in let up = c.is_down-up.ensures in let found = c.in-Some-Acceptor in
    let s = stands cell.config c.args.number cell.log cell.node cell.core (newest_first (records cell.pass)) c.requires.node up.core (up.kept c.requires.up) in
    let last : last_entry cell.log ≡ Some found.field-0.now = sym c.durable.ensures ∙ ap option_copied found.is in
    let wrong : Acceptors found.field-0-1 found.field-0-2 (history_of found.field-0-3) ≡ Coordinators s.round =
    ap (λ (p : EpochPart). p.part) (sym (ap part_of found.field-0-is) ∙ s.some found.field-0.now last) in cc

pub returns-in-None : goal.returns-in-None
returns-in-None g c =
    let cell = c.args.cell.now in let up = c.is_down-up.ensures in
    let s = stands cell.config c.args.number cell.log cell.node cell.core (newest_first (records cell.pass)) c.requires.node up.core (up.kept c.requires.up) in
    let first = s.none (sym c.durable.ensures ∙ ap option_copied c.in-None.is) in
    s.part_is ∙ (λ i. Some (record { epoch = first.0 i; part = Coordinators ((first.1 ∙ sym c.zero.ensures) i) }))

pub returns-in-Some-Coordinator : goal.returns-in-Some-Coordinator
returns-in-Some-Coordinator g c =
    let cell = c.args.cell.now in let up = c.is_down-up.ensures in let found = c.in-Some-Coordinator in
    let s = stands cell.config c.args.number cell.log cell.node cell.core (newest_first (records cell.pass)) c.requires.node up.core (up.kept c.requires.up) in
    let last : last_entry cell.log ≡ Some found.field-0.now = sym c.durable.ensures ∙ ap option_copied found.is in
    s.part_is ∙ sym (ap Some (sym (ap part_of found.field-0-is) ∙ s.some found.field-0.now last))
