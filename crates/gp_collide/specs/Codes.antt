-- A code of what a watch keeps.
use Rattle.std.specs.Prelude.{refl}
use Rattle.std.specs.Coded.{Coded, code_by, coded×, coded_ℕ}
use Rattle.std.specs.FinMap.{FinMap, code}
use Rattle.gp_history.specs.History.{History}
use Rattle.gp_history.specs.Codes.{history_code}
use Rattle.gp_round.specs.contracts.round.Round as round
use Rattle.gp_msg.specs.contracts.node.Node as node
use Rattle.gp_collide.specs.Watched.{EpochRound, Watched, node_cmp}

-- the code of a watch is that of the pair of its fields
abbrev pub watched_code : Coded Watched
watched_code =
    code_by (EpochRound × FinMap node_cmp History)
    (coded× (coded× coded_ℕ round.the_row.coded) (code node.the_row.coded history_code))
    (λ w. (w.round, w.values))
    (λ p. record { round = p.0; values = p.1 })
    (λ _. refl)
