-- What a caller that adapts decides is what may be called.
use Rattle.std.proofs.Common.{◌≡◌, ℕ, List, Option, Result, Ok, Err, ap, ◌∙◌, subst}
use Rattle.std.specs.Prelude.{IfOk, IsTrue, ◌↔◌}
use Rattle.gp_memory.specs.declared.memory.NoMemory.{NoMemory}
use Rattle.gp_round.specs.Counts.{Counts}
use Rattle.gp_round.specs.declared.round.Round.{Round}
use Rattle.gp_msg.specs.declared.node.Node.TheVariants.{Coordinator}
use Rattle.gp_msg.specs.declared.record.Record.{Record}
use Rattle.gp_run.specs.Messages.{messages}
use Rattle.gp_run.specs.Runs.{newest_first}
use Rattle.gp_collide.specs.Watched.{EpochRound, watched}
use Rattle.gp_collide.specs.Clashes.{HasClash}
use Rattle.gp_phase.specs.declared.caller.Call.{Call}
use Rattle.gp_caller.specs.declared.policy.TheConstants.{LEADER}
use Rattle.gp_caller.specs.Sights.{SightState, SawAll}
use Rattle.gp_caller.specs.Standing.{StandsIn}
use Rattle.gp_caller.specs.Adapting.{IsAdapted, Follows, MayCall, last_for, or_zero}

adapted_one : (config : Counts) (calls : List Call) (seen : List Record) (e : ℕ) (own : Round) (s : SightState) → StandsIn config (Coordinator LEADER) seen e own → s.watch.round ≡ (e, or_zero (last_for e calls)) → SawAll s seen
    → (call : Option Call) → Follows s.watch calls call → IsAdapted config (Coordinator LEADER) calls seen call
adapted_one config calls seen e own s stands over saw call f =
    let watch_is : s.watch ≡ watched (e, or_zero (last_for e calls)) (messages (newest_first seen)) = saw ∙ ap (λ r. watched r (messages (newest_first seen))) over in record {
      epoch = e;
      own = own;
      stands = stands;
      clashed = f.clashed;
      clash = subst (λ w. IsTrue f.clashed ↔ HasClash w) watch_is f.clash;
      may = subst (λ n. MayCall n (last_for n calls) f.clashed call) (ap (λ (p : EpochRound). p.0) over) f.may;
    }

pub adapted : (config : Counts) (calls : List Call) (seen : List Record) (e : ℕ) (own : Round) (s : SightState) → StandsIn config (Coordinator LEADER) seen e own → s.watch.round ≡ (e, or_zero (last_for e calls)) → SawAll s seen
    → (result : Result (Option Call) NoMemory) → IfOk result (Follows s.watch calls) → IfOk result (IsAdapted config (Coordinator LEADER) calls seen)
adapted config calls seen e own s stands over saw (Err none) f = tt
adapted config calls seen e own s stands over saw (Ok call) f = adapted_one config calls seen e own s stands over saw call f
