use Rattle.std.proofs.Common.{rules}
use Rattle.gp_work.proofs.worker.recover.Goals as goal

pub returns-in-Ok-clause-now : goal.returns-in-Ok-clause-now
returns-in-Ok-clause-now g c = search rules

pub returns-in-Err-NoMemory-clause-now : goal.returns-in-Err-NoMemory-clause-now
returns-in-Err-NoMemory-clause-now g c = search rules

pub returns-in-Err-Disk-clause-now : goal.returns-in-Err-Disk-clause-now
returns-in-Err-Disk-clause-now g c = search rules

pub returns-in-Err-NotLog-clause-now : goal.returns-in-Err-NotLog-clause-now
returns-in-Err-NotLog-clause-now g c = search rules

pub returns-in-Err-Changed-clause-now : goal.returns-in-Err-Changed-clause-now
returns-in-Err-Changed-clause-now g c = search rules
