use Rattle.std.proofs.Common.{ap}
use Rattle.gp_history.specs.Canonical.{canonical}
use Rattle.gp_history.proofs.Acyclic.{canonical_is, canonical_no_repeat}
use Rattle.gp_history.proofs.Walk.{walks}
use Rattle.gp_bounds.proofs.laws.the_canonical_sequence_stands_for_its_history.Goals as goal

pub returns-clause-one : goal.returns-clause-one
returns-clause-one g = λ h k e. ap canonical e

pub returns-clause-stands : goal.returns-clause-stands
returns-clause-stands g = canonical_is

pub returns-clause-distinct : goal.returns-clause-distinct
returns-clause-distinct g = canonical_no_repeat

pub returns-clause-walked : goal.returns-clause-walked
returns-clause-walked g = walks
