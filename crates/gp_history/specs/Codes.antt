-- Codes of histories, for states that hold them.
use Rattle.std.specs.Prelude.{refl}
use Rattle.std.specs.Coded.{Coded, code_by, coded×}
use Rattle.std.specs.FinSet as set
use Rattle.gp_command.specs.Order.{command_cmp}
use Rattle.gp_command.specs.contracts.command.Command as command
use Rattle.gp_history.specs.History.{History, pair_cmp}

abbrev pub history_code : Coded History
history_code =
    code_by (set.FinSet command_cmp × set.FinSet pair_cmp)
    (coded× (set.code command.the_row.coded) (set.code (coded× command.the_row.coded command.the_row.coded)))
    (λ h. (h.commands, h.pairs)) (λ p. record { commands = p.0; pairs = p.1 }) (λ _. refl)
