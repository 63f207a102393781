-- Which round is called for what was seen.
use Rattle.std.specs.Prelude.{◌≡◌, ◌↔◌, ℕ, ◌+◌, Bool, cond, nat_eq, List, [], ◌∷◌, Option, IsTrue}
use Rattle.std.specs.Option.{option_map}
use Rattle.gp_round.specs.Counts.{Counts}
use Rattle.gp_round.specs.Rounds.{round_zero}
use Rattle.gp_round.specs.declared.round.Round.{Round}
use Rattle.gp_msg.specs.declared.node.Node.{Node}
use Rattle.gp_msg.specs.declared.record.Record.{Record}
use Rattle.gp_run.specs.Messages.{messages}
use Rattle.gp_run.specs.Runs.{newest_first}
use Rattle.gp_collide.specs.Watched.{watched, opening}
use Rattle.gp_collide.specs.Clashes.{HasClash}
use Rattle.gp_phase.specs.declared.caller.Call.{Call}
use Rattle.gp_caller.specs.declared.policy.TheConstants.{FIRST_ROUND}
use Rattle.gp_caller.specs.Rounds.{next_round}
use Rattle.gp_caller.specs.Sights.{SightState}
use Rattle.gp_caller.specs.Standing.{StandsIn}

-- its configuration, its calls, and what its watch saw
pub record CallerState : Type 0 where
  pub config : Counts
  pub calls : List Call
  pub sight : SightState

-- a watch over the first round of an epoch that has seen nothing
abbrev pub new_sight : ℕ → SightState
new_sight e = record { watch = opening (e, FIRST_ROUND); looked = 0 }

-- it has called no round and seen no message
abbrev pub new_caller : Counts → CallerState
new_caller config_ = record { config = config_; calls = []; sight = new_sight 0 }

-- a watch over the first round of this epoch, which is a new one if the epoch is another
abbrev pub entered : SightState → ℕ → SightState
entered s e = cond (nat_eq e s.watch.round.0) s (new_sight e)

-- how many rounds were called for an epoch
abbrev pub called_for : ℕ → List Call → ℕ
called_for e [] = 0
called_for e (c ∷ cs) = cond (nat_eq c.epoch e) 1 0 + called_for e cs

abbrev pub call_in : ℕ → Round → Call
call_in e r = record { epoch = e; round = r }

-- the round above which the next one is called: the coordinator's own, and round zero if none was called for its epoch
abbrev pub highest_for : ℕ → Round → Round
highest_for begun own = cond (nat_eq begun 0) round_zero own

-- what is called, after these calls, for a coordinator that has seen these records: it depends on the coordinator's epoch and round, and on whether the first round of that epoch has collided
pub record IsCalled (config : Counts) (node : Node) (calls : List Call) (seen : List Record) (call : Option Call) : Type 0 where
  pub epoch : ℕ
  pub own : Round
  pub stands : StandsIn config node seen epoch own
  pub clashed : Bool
  pub clash : IsTrue clashed ↔ HasClash (watched (epoch, FIRST_ROUND) (messages (newest_first seen)))
  pub call_is : call ≡ option_map (call_in epoch) (next_round (highest_for (called_for epoch calls) own) clashed (called_for epoch calls))

-- the next call of a caller; `own` is the coordinator's round in the epoch of the watch
pub record Decides (s : CallerState) (own : Round) (call : Option Call) : Type 0 where
  pub clashed : Bool
  pub clash : IsTrue clashed ↔ HasClash s.sight.watch
  pub call_is : call ≡ option_map (call_in s.sight.watch.round.0) (next_round (highest_for (called_for s.sight.watch.round.0 s.calls) own) clashed (called_for s.sight.watch.round.0 s.calls))
