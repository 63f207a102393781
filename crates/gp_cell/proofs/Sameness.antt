-- Durable parts that are the same.
use Rattle.std.proofs.Common.{◌≡◌, ℕ}
use Rattle.gp_history.specs.History.{History}
use Rattle.gp_round.specs.declared.round.Round.{Round}
use Rattle.gp_msg.specs.Messages.{Acceptors, Coordinators, EpochPart}

abbrev pub acceptors : ℕ → Round → Round → History → EpochPart
acceptors e r q v = record { epoch = e; part = Acceptors r q v }

abbrev pub coordinators : ℕ → Round → EpochPart
coordinators e r = record { epoch = e; part = Coordinators r }

pub same_acceptors : (e i : ℕ) (r s q p : Round) (v w : History) → e ≡ i → r ≡ s → q ≡ p → v ≡ w → acceptors e r q v ≡ acceptors i s p w
same_acceptors e i r s q p v w a b c d = λ x. acceptors (a x) (b x) (c x) (d x)

pub same_coordinators : (e i : ℕ) (r s : Round) → e ≡ i → r ≡ s → coordinators e r ≡ coordinators i s
same_coordinators e i r s a b = λ x. coordinators (a x) (b x)
