-- Codes of what contracts see of a learner.
use Rattle.std.specs.Prelude.{ℕ, refl}
use Rattle.std.specs.Coded.{Coded, code_by, coded×, coded_ℕ, coded_list}
use Rattle.gp_round.specs.contracts.round.Round as round
use Rattle.gp_round.specs.contracts.config.Config as config
use Rattle.gp_round.specs.Counts.{Counts}
use Rattle.gp_history.specs.History.{History}
use Rattle.gp_history.specs.Codes.{history_code}
use Rattle.gp_learner.specs.State.{LearnerState, Votes}
use Rattle.gp_learner.specs.Epochs.{LearnerInEpoch}

abbrev pub state_code : Coded LearnerState
state_code =
    code_by (Counts × (ℕ × (Votes × History)))
    (coded× config.the_row.coded (coded× coded_ℕ (coded× (coded_list (coded× (coded× round.the_row.coded coded_ℕ) history_code)) history_code)))
    (λ s. (s.config, (s.number, (s.votes, s.learned))))
    (λ p. record { config = p.0; number = p.1.0; votes = p.1.1.0; learned = p.1.1.1 })
    (λ _. refl)

abbrev pub epoch_code : Coded LearnerInEpoch
epoch_code =
    code_by (ℕ × (LearnerState × History)) (coded× coded_ℕ (coded× state_code history_code))
    (λ s. (s.epoch, (s.state, s.learned))) (λ p. record { epoch = p.0; state = p.1.0; learned = p.1.1 }) (λ _. refl)
