-- A code of what contracts see of a cell.
use Rattle.std.specs.Prelude.{◌≡◌, ◌⊎◌, ℕ, Bool, List, Option, refl}
use Rattle.std.proofs.Common.{inl, inr}
use Rattle.std.specs.Coded.{Coded, code_by, coded×, coded⊎, coded_ℕ, coded_bool, coded_list, coded_option}
use Rattle.gp_round.specs.Counts.{Counts}
use Rattle.gp_msg.specs.declared.node.Node.{Node}
use Rattle.gp_msg.specs.contracts.node.Node as node
use Rattle.gp_wire.specs.Known.{PassState}
use Rattle.gp_wire.specs.contracts.pass.Pass as pass
use Rattle.gp_work.specs.declared.moves.Move.{Move}
use Rattle.gp_work.specs.contracts.moves.Move as move
use Rattle.gp_proposer.specs.State.{ProposerState}
use Rattle.gp_proposer.specs.Codes.{proposer_code}
use Rattle.gp_round.specs.contracts.config.Config as config
use Rattle.gp_coordinator.specs.Codes as coordinator
use Rattle.gp_coordinator.specs.Epochs.{CoordinatorInEpoch}
use Rattle.gp_acceptor.specs.Codes as acceptor
use Rattle.gp_acceptor.specs.Epochs.{AcceptorInEpoch}
use Rattle.gp_learner.specs.Codes as learner
use Rattle.gp_learner.specs.Epochs.{LearnerInEpoch}
use Rattle.gp_msg.specs.declared.durable.Durable.{Durable}
use Rattle.gp_msg.specs.contracts.durable.Durable as durable
use Rattle.gp_vlog.specs.Logs.{LogState}
use Rattle.gp_cell.specs.declared.roles.Core.{Core}
use Rattle.gp_cell.specs.declared.roles.Core.TheVariants.{Proposer, Coordinator, Acceptor, Learner}
use Rattle.gp_cell.specs.Cells.{CellState}

abbrev pub Cores : Type 0
Cores = ProposerState ⊎ (CoordinatorInEpoch ⊎ (AcceptorInEpoch ⊎ LearnerInEpoch))

abbrev pub to_sum : Core → Cores
to_sum (Proposer s) = inl s
to_sum (Coordinator s) = inr (inl s)
to_sum (Acceptor s) = inr (inr (inl s))
to_sum (Learner s) = inr (inr (inr s))

abbrev pub from_sum : Cores → Core
from_sum (inl s) = Proposer s
from_sum (inr (inl s)) = Coordinator s
from_sum (inr (inr (inl s))) = Acceptor s
from_sum (inr (inr (inr s))) = Learner s

pub back : (c : Core) → from_sum (to_sum c) ≡ c
back (Proposer s) = refl
back (Coordinator s) = refl
back (Acceptor s) = refl
back (Learner s) = refl

abbrev pub core_code : Coded Core
core_code = code_by Cores (coded⊎ proposer_code (coded⊎ coordinator.epoch_code (coded⊎ acceptor.epoch_code learner.epoch_code))) to_sum from_sum back

abbrev pub log_code : {D : Type 0} → Coded D → Coded (LogState D)
log_code {D} d =
    code_by (D × (ℕ × (List Durable × (Bool × (ℕ × Bool))))) (coded× d (coded× coded_ℕ (coded× (coded_list durable.the_row.coded) (coded× coded_bool (coded× coded_ℕ coded_bool)))))
    (λ l. (l.disk, (l.limit, (l.entries, (l.is_old, (l.size, l.ready))))))
    (λ p. record { disk = p.0; limit = p.1.0; entries = p.1.1.0; is_old = p.1.1.1.0; size = p.1.1.1.1.0; ready = p.1.1.1.1.1 })
    (λ _. refl)

abbrev pub cell_code : {D : Type 0} → Coded D → Coded (CellState D)
cell_code {D} d =
    code_by (Counts × (Node × (Core × (Option (LogState D) × (PassState × Option Move)))))
    (coded× config.the_row.coded (coded× node.the_row.coded (coded× core_code (coded× (coded_option (log_code d)) (coded× pass.the_row.coded (coded_option move.the_row.coded))))))
    (λ c. (c.config, (c.node, (c.core, (c.log, (c.pass, c.down))))))
    (λ p. record { config = p.0; node = p.1.0; core = p.1.1.0; log = p.1.1.1.0; pass = p.1.1.1.1.0; down = p.1.1.1.1.1 })
    (λ _. refl)
