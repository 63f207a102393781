use Rattle.std.proofs.Common.{◌&&◌, sym, ◌∙◌}
use Rattle.std.specs.Prelude.{nat_lt}
use Rattle.gp_command.specs.Conflict.{conflict}
use Rattle.gp_history.specs.Sequence.{place}
use Rattle.gp_history.proofs.Sets.{has_history_of}
use Rattle.gp_history.proofs.Push.{before_history_of}
use Rattle.gp_history.proofs.Joins.{history_of_is}
use Rattle.gp_history.proofs.Size.{size_of_sequence}
use Rattle.gp_history.proofs.laws.a_sequence_stands_for_a_history.Goals as goal

pub returns-clause-history : goal.returns-clause-history
returns-clause-history g = history_of_is

pub returns-clause-commands : goal.returns-clause-commands
returns-clause-commands g = has_history_of

pub returns-clause-pairs : goal.returns-clause-pairs
returns-clause-pairs g = λ xs c d p q. before_history_of xs c d ∙ (λ i. ((sym (has_history_of xs c) ∙ p) i && (sym (has_history_of xs d) ∙ q) i) && (conflict c d && nat_lt (place xs c) (place xs d)))

pub returns-clause-size : goal.returns-clause-size
returns-clause-size g = size_of_sequence
