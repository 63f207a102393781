-- A code of cells, one of whose passes holds all nodes.
use Rattle.std.specs.Prelude.{ℕ, List, refl}
use Rattle.std.specs.Coded.{Coded, code_by, coded×, coded_ℕ, coded_list}
use Rattle.atomic_table.specs.Seated.{TableId, table_id_coded}
use Rattle.gp_round.specs.Counts.{Counts}
use Rattle.gp_round.specs.contracts.config.Config as config
use Rattle.gp_msg.specs.declared.node.Node.{Node}
use Rattle.gp_msg.specs.contracts.node.Node as node
use Rattle.gp_cell.specs.Cells.{CellState}
use Rattle.gp_cell.specs.Codes.{cell_code}
use Rattle.gp_stage.specs.Held.{HeldCells}

abbrev pub held_code : {D : Type 0} → Coded D → Coded (HeldCells D)
held_code {D} d =
    code_by (Counts × (TableId × (List Node × (List (CellState D) × (ℕ × ℕ)))))
    (coded× config.the_row.coded (coded× table_id_coded (coded× (coded_list node.the_row.coded) (coded× (coded_list (cell_code d)) (coded× coded_ℕ coded_ℕ)))))
    (λ h. (h.config, (h.wire, (h.nodes, (h.cells, (h.holder, h.fulls))))))
    (λ p. record { config = p.0; wire = p.1.0; nodes = p.1.1.0; cells = p.1.1.1.0; holder = p.1.1.1.1.0; fulls = p.1.1.1.1.1 })
    (λ _. refl)
