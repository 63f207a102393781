use Rattle.std.proofs.Common.{◌++◌, length, sym, ap, ◌∙◌, subst, arith}
use Rattle.gp_ending.specs.Ended.{cells_of}
use Rattle.gp_shelf.specs.Lists.{HasRoomFor}
use Rattle.gp_cluster.specs.Cells.{logs_of}
use Rattle.gp_cluster.proofs.seated.unclosed.Goals as goal

pub take_cells-requires : goal.take_cells-requires
take_cells-requires g c = let none = ap length c.requires.cells_room.0 in let most = c.requires.cells_room.1 in omega (arith, none, most)

pub leave-requires : goal.leave-requires
leave-requires g c = subst (λ cs. HasRoomFor (length (logs_of cs)) c.args.room.logs) (sym (c.take_cells.ensures.cells ∙ ap (λ l. l ++ cells_of c.args.jobs.items) c.requires.cells_room.0)) c.requires.logs_room

pub returns-clause-posted : goal.returns-clause-posted
returns-clause-posted g c = c.leave.ensures.posted

pub returns-clause-end : goal.returns-clause-end
returns-clause-end g c = c.leave.ensures.end

pub returns-clause-logs : goal.returns-clause-logs
returns-clause-logs g c = c.leave.ensures.logs ∙ ap logs_of (c.take_cells.ensures.cells ∙ ap (λ l. l ++ cells_of c.args.jobs.items) c.requires.cells_room.0)
