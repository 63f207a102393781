use Rattle.std.proofs.Common.{ap, ◌∙◌, sym}
use Rattle.gp_wire.specs.Known.{records}
use Rattle.gp_wire.specs.Own.{own}
use Rattle.gp_cell.proofs.Acts.{goes, at_same, posted_none, same_faults}
use Rattle.gp_cell.proofs.Going.{later_goes}
use Rattle.gp_cell.proofs.Posting.{had_later}
use Rattle.gp_cell.specs.Refusals.{limit_of}
use Rattle.gp_cell.specs.Working.{is_up}
use Rattle.gp_cell.proofs.process.CellProcessWirePaxosRules.kind.Goals as goal

pub returns-clause-own : goal.returns-clause-own
returns-clause-own g c =
    let e = c.kind_of.ensures in let o = c.args.self.now in let r = c.kind_of.new.self in
    at_same g.D.Disk.faults o r e.rest.0 e.rest.1 c.args.net.now (later_goes o.pass r.pass (had_later o.pass r.pass e.turn)) c.requires

pub returns-clause-goes : goal.returns-clause-goes
returns-clause-goes g c =
    let e = c.kind_of.ensures in let o = c.args.self.now in let r = c.kind_of.new.self in
    goes g.D.Disk.faults o r e.rest.0 e.rest.1 (later_goes o.pass r.pass (had_later o.pass r.pass e.turn)) (same_faults g.D.Disk.faults o r e.rest.3) (ap limit_of e.rest.3)

pub returns-clause-posts : goal.returns-clause-posts
returns-clause-posts g c =
    let e = c.kind_of.ensures in let o = c.args.self.now in let r = c.kind_of.new.self in
    posted_none g.D.Disk.faults o r e.rest.0 e.rest.1 (sym (ap (λ n. own n (records r.pass)) e.rest.1) ∙ e.own)

pub returns-clause-up : goal.returns-clause-up
returns-clause-up g c = ap is_up c.kind_of.ensures.rest.4
