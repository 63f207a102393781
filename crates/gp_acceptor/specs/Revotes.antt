-- Votes that replace an older one.
use Rattle.std.specs.Prelude.{◌≡◌, ◌⊎◌, ℕ, false, List, Option, Some, None, unwrap_or}
use Rattle.gp_history.specs.History.{History}
use Rattle.gp_history.specs.Bounds.{join}
use Rattle.gp_round.specs.declared.round.Round.{Round}
use Rattle.gp_round.specs.Rounds.{is_fast}
use Rattle.gp_acceptor.specs.State.{AcceptorState}
use Rattle.gp_msg.specs.Messages.{Message, Sent}
use Rattle.gp_safe.specs.Held.{value_with}
use Rattle.gp_acceptor.specs.Table.{next_vote, agreed, value_at, raised, with_value, with_vote, told_vote, acceptor_take}

-- the join with a history, if there is one
abbrev pub with_join : History → Option History → History
with_join h None = h
with_join h (Some u) = join h u

-- w is the next vote by the table; or the last vote is of this round, which is not fast, and w, or the last vote if there is no w, is the join of the last vote with what was agreed on
abbrev pub Settles : Round → Round → History → Option History → Option History → Type 0
Settles voted round vote agreed w = (w ≡ next_vote voted round vote agreed) ⊎ ((voted ≡ round) × (is_fast round.mode ≡ false) × (unwrap_or w vote ≡ with_join vote agreed))

-- if the last vote is of this round, which is not fast, it has what was agreed on
abbrev pub HasAgreed : ℕ → Round → Round → History → (ℕ → Option History) → Type 0
HasAgreed n voted round vote f = voted ≡ round → is_fast round.mode ≡ false → with_join vote (agreed n round f) ≡ vote

abbrev pub IsAgreed : AcceptorState → Type 0
IsAgreed s = HasAgreed s.config.coordinators s.voted s.round s.vote (value_at s.held)

-- what quorums agreed on with a new value of coordinator c, if there is one
abbrev pub agreed_with : ℕ → Round → List (Option History) → ℕ → Option History → Option History
agreed_with n round values c newer = agreed n round (value_with (value_at values) c newer)

-- in this round, after a value of coordinator c is held and a vote is cast, each if there is one
abbrev pub settled : AcceptorState → Round → ℕ → Option History → Option History → AcceptorState
settled s round c held vote = with_vote (with_value (raised s round) c held) vote

-- the message that sends the vote, if it is sent
abbrev pub vote_sent : AcceptorState → Round → Option History → Option Message
vote_sent s round vote = told_vote s.number s.voted round s.vote vote

-- the held value and the vote that is cast are what the table gives for a value of coordinator c
abbrev pub IsPlan : AcceptorState → Round → ℕ → History → Option History → Option History → Type 0
IsPlan s round c value held vote = ◌≡◌ {A = AcceptorState × Option Message} (settled s round c held vote, vote_sent s round vote) (acceptor_take s (Sent round c value))
