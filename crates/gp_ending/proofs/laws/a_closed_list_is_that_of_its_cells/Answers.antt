use Rattle.gp_caller.specs.Calling.{IsCalled}
use Rattle.gp_ending.proofs.Ending.{is_list_of}
use Rattle.gp_ending.proofs.laws.a_closed_list_is_that_of_its_cells.Goals as goal

pub returns : goal.returns
returns g c = λ wire run list quiet closed. is_list_of IsCalled g.D.Disk.content g.D.Disk.faults wire run list quiet closed
