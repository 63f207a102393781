use Rattle.gp_store.specs.DraftEquality.{copy_read, copy_written}
use Rattle.gp_store.proofs.DraftLemmas.{copy_alone}
use Rattle.gp_store.proofs.laws.a_copy_touches_both_its_keys.Goals as goal

pub returns-clause-read : goal.returns-clause-read
returns-clause-read c = copy_read

pub returns-clause-written : goal.returns-clause-written
returns-clause-written c = copy_written

pub returns-clause-one : goal.returns-clause-one
returns-clause-one c = copy_alone
