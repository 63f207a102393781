-- Codes of what contracts see of a caller.
use Rattle.std.specs.Prelude.{ℕ, List, refl}
use Rattle.std.specs.Coded.{Coded, code_by, coded×, coded_ℕ, coded_list}
use Rattle.gp_round.specs.Counts.{Counts}
use Rattle.gp_round.specs.contracts.config.Config as config
use Rattle.gp_collide.specs.Watched.{Watched}
use Rattle.gp_collide.specs.Codes.{watched_code}
use Rattle.gp_phase.specs.declared.caller.Call.{Call}
use Rattle.gp_phase.specs.contracts.caller.Call as call
use Rattle.gp_caller.specs.Sights.{SightState}
use Rattle.gp_caller.specs.Calling.{CallerState}

abbrev pub sight_code : Coded SightState
sight_code = code_by (Watched × ℕ) (coded× watched_code coded_ℕ) (λ s. (s.watch, s.looked)) (λ p. record { watch = p.0; looked = p.1 }) (λ _. refl)

abbrev pub caller_code : Coded CallerState
caller_code =
    code_by (Counts × (List Call × SightState)) (coded× config.the_row.coded (coded× (coded_list call.the_row.coded) sight_code))
    (λ c. (c.config, (c.calls, c.sight))) (λ p. record { config = p.0; calls = p.1.0; sight = p.1.1 }) (λ _. refl)
