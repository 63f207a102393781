-- Which round is begun next in a run whose leader followed the calls of its caller.
use Rattle.std.proofs.Common.{◌≡◌, ℕ, suc, ◌≤◌, List, ◌∷◌, Some, sym, ap, ◌∙◌, subst}
use Rattle.std.specs.Prelude.{IsTrue}
use Rattle.gp_round.specs.Counts.{Counts}
use Rattle.gp_round.specs.declared.round.Round.{Round}
use Rattle.gp_msg.specs.declared.record.Record.{Record}
use Rattle.gp_run.specs.Messages.{messages}
use Rattle.gp_run.specs.Runs.{newest_first}
use Rattle.gp_work.specs.Doing.{ProcessState}
use Rattle.gp_collide.specs.Values.{HasIncompatibleValues}
use Rattle.gp_collide.proofs.ClashesSeen.{clash_of_values}
use Rattle.gp_phase.specs.declared.caller.Call.{Call}
use Rattle.gp_caller.specs.declared.policy.TheConstants.{FIRST_ROUND}
use Rattle.gp_caller.specs.Calling.{IsCalled, call_in, called_for}
use Rattle.gp_ending.specs.Begins.{leader, HasFollowed}
use Rattle.gp_ending.proofs.Turns.{round_at, Next, first_next, next_is}
use Rattle.gp_ending.proofs.Raising.{IsInTurn}
use Rattle.gp_ending.proofs.Following.{leader_at, first_meant, NextCall, stood, clashed_since}

module _ (p : ProcessState) (calls : List Call) (f : HasFollowed IsCalled p calls) where
  abbrev config : Counts
  config = p.config

  -- the first call is of the first round
  pub first_call : (c : Call) (cs : List Call) → calls ≡ c ∷ cs → c.round ≡ FIRST_ROUND
  first_call c cs is =
      let may = (first_meant p calls f c cs is).may in
      ap (λ (k : Call). k.round) (first_next may.epoch may.own may.clashed c may.call_is).call_is

  -- what round the leader begins behind these records in epoch e, where these were called before, and this call comes next
  pub record Decided (pre : List Record) (done : List Call) (c : Call) (r : Round) (e : ℕ) : Type 0 where
    pub call_is : c ≡ call_in e r
    pub few : called_for e done ≤ 1
    pub round_is : r ≡ round_at (suc (called_for e done))
    pub clash : called_for e done ≡ 1 → HasIncompatibleValues (e, FIRST_ROUND) (messages (newest_first pre))

  module _ (pre : List Record) (done left : List Call) (r : Round) (n : NextCall p calls f pre done left r) (turn : IsInTurn done (leader_at config pre)) where
    abbrev may : IsCalled config leader done n.meant.seen (Some n.call)
    may = n.meant.may

    clash_seen : IsTrue may.clashed → HasIncompatibleValues (may.epoch, FIRST_ROUND) (messages (newest_first pre))
    clash_seen told = clashed_since p calls f pre done left r n may.epoch FIRST_ROUND (clash_of_values (may.epoch, FIRST_ROUND) (messages (newest_first n.meant.seen)) (may.clash.0 told))

    pub decided : Decided pre done n.call r (leader_at config pre).epoch
    decided =
        let there = stood p calls f pre done left r n may.epoch may.own may.stands in
        let own_is : may.own ≡ round_at (called_for may.epoch done) = sym there.1 ∙ turn.round_is ∙ ap (λ e. round_at (called_for e done)) there.0 in
        let next : Next may.epoch (called_for may.epoch done) may.clashed n.call = next_is may.epoch (called_for may.epoch done) may.own may.clashed n.call own_is may.call_is in
        let round : r ≡ round_at (suc (called_for may.epoch done)) = n.round_is ∙ ap (λ (k : Call). k.round) next.call_is in
        subst (Decided pre done n.call r) (sym there.0) (record {
          call_is = next.call_is ∙ ap (call_in may.epoch) (sym round);
          few = next.few;
          round_is = round;
          clash = λ one. clash_seen (next.answers one);
        })
