-- A code of what contracts see of a proposer.
use Rattle.std.specs.Prelude.{ℕ, refl}
use Rattle.std.specs.Coded.{Coded, code_by, coded×, coded_ℕ}
use Rattle.gp_proposer.specs.State.{ProposerState}

abbrev pub proposer_code : Coded ProposerState
proposer_code = code_by (ℕ × ℕ) (coded× coded_ℕ coded_ℕ) (λ s. (s.number, s.offers)) (λ p. record { number = p.0; offers = p.1 }) (λ _. refl)
