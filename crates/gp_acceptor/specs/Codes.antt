-- Codes of what contracts see of an acceptor.
use Rattle.std.specs.Prelude.{ℕ, List, Option, refl}
use Rattle.std.specs.Coded.{Coded, code_by, coded×, coded_ℕ, coded_list, coded_option}
use Rattle.gp_history.specs.History.{History}
use Rattle.gp_history.specs.Codes.{history_code}
use Rattle.gp_round.specs.contracts.round.Round as round
use Rattle.gp_round.specs.contracts.config.Config as config
use Rattle.gp_round.specs.declared.round.Round.{Round}
use Rattle.gp_round.specs.Counts.{Counts}
use Rattle.gp_acceptor.specs.State.{AcceptorState}
use Rattle.gp_acceptor.specs.Epochs.{AcceptorInEpoch}

abbrev pub state_code : Coded AcceptorState
state_code =
    code_by (Counts × (ℕ × (Round × (Round × (History × List (Option History))))))
    (coded× config.the_row.coded (coded× coded_ℕ (coded× round.the_row.coded (coded× round.the_row.coded (coded× history_code (coded_list (coded_option history_code)))))))
    (λ s. (s.config, (s.number, (s.round, (s.voted, (s.vote, s.held))))))
    (λ p. record { config = p.0; number = p.1.0; round = p.1.1.0; voted = p.1.1.1.0; vote = p.1.1.1.1.0; held = p.1.1.1.1.1 })
    (λ _. refl)

abbrev pub epoch_code : Coded AcceptorInEpoch
epoch_code = code_by (ℕ × AcceptorState) (coded× coded_ℕ state_code) (λ s. (s.epoch, s.state)) (λ p. record { epoch = p.0; state = p.1 }) (λ _. refl)
