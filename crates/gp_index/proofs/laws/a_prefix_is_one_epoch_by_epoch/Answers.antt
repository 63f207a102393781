use Rattle.std.proofs.Common.{◌↔◌, subst}
use Rattle.gp_history.specs.History.{History, IsPrefix}
use Rattle.gp_history.specs.Sequence.{history_of}
use Rattle.gp_history.specs.Canonical.{canonical}
use Rattle.gp_history.proofs.Acyclic.{canonical_is, canonical_no_repeat}
use Rattle.gp_index.specs.Epochs.{IsCutPrefix}
use Rattle.gp_index.proofs.Cut.{cut_law}
use Rattle.gp_index.proofs.laws.a_prefix_is_one_epoch_by_epoch.Goals as goal

pub returns-clause-sequences : goal.returns-clause-sequences
returns-clause-sequences c = cut_law

pub returns-clause-histories : goal.returns-clause-histories
returns-clause-histories c = λ h k wh wk.
    subst (λ (x : History). IsPrefix x k ↔ IsCutPrefix (canonical h) (canonical k)) (canonical_is h wh)
    (subst (λ (y : History). IsPrefix (history_of (canonical h)) y ↔ IsCutPrefix (canonical h) (canonical k)) (canonical_is k wk)
    (cut_law (canonical h) (canonical k) (canonical_no_repeat h wh) (canonical_no_repeat k wk)))
