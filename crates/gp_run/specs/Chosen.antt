-- The votes that acceptors had in an epoch, and what is chosen in it.
use Rattle.std.specs.Prelude.{◌≡◌, ◌⊎◌, ◌<◌, ℕ, Bool, true, List, ◌++◌}
use Rattle.gp_history.specs.History.{History, IsPrefix, empty}
use Rattle.gp_round.specs.declared.round.Round.{Round}
use Rattle.gp_round.specs.Counts.{Counts}
use Rattle.gp_round.specs.Rounds.{round_zero}
use Rattle.gp_round.specs.Quorums.{IsQuorum}
use Rattle.gp_msg.specs.Messages.{Entry}
use Rattle.gp_run.specs.States.{acceptor_at}

-- at some moment of the run acceptor a was in epoch e with the vote v of round r
pub record HadVote (config : Counts) (es : List Entry) (a e : ℕ) (r : Round) (v : History) : Type 0 where
  pub later : List Entry
  pub earlier : List Entry
  pub parts : later ++ earlier ≡ es
  pub epoch_is : (acceptor_at config a earlier).epoch ≡ e
  pub round_is : (acceptor_at config a earlier).state.voted ≡ r
  pub vote_is : (acceptor_at config a earlier).state.vote ≡ v

-- v is a vote of acceptor a in round r of epoch e: one that it had at some moment, or the empty history in round zero
abbrev pub IsVote : Counts → List Entry → ℕ → ℕ → Round → History → Type 0
IsVote config es a e r v = HadVote config es a e r v ⊎ ((r ≡ round_zero) × (v ≡ empty))

-- acceptor a has a vote in round r of epoch e that extends w
pub record IsVotedFor (config : Counts) (es : List Entry) (a e : ℕ) (r : Round) (w : History) : Type 0 where
  pub vote : History
  pub cast : IsVote config es a e r vote
  pub below : IsPrefix w vote

-- w is chosen in round r of epoch e: each acceptor of a quorum of the round has a vote in it that extends w
pub record IsChosen (config : Counts) (es : List Entry) (w : History) (e : ℕ) (r : Round) : Type 0 where
  pub quorum : ℕ → Bool
  pub enough : IsQuorum config.acceptors r.mode quorum
  pub voted : (a : ℕ) → a < config.acceptors → quorum a ≡ true → IsVotedFor config es a e r w
