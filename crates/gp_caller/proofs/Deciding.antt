-- What a caller decides is what is called.
use Rattle.std.proofs.Common.{◌≡◌, ℕ, cond, List, [], ◌++◌, Option, Result, Ok, Err, inl, inr, sym, ap, ◌∙◌, subst}
use Rattle.std.specs.Prelude.{IfOk, IsTrue, ◌↔◌}
use Rattle.std.specs.Option.{option_map}
use Rattle.std.proofs.lemmas.Bool.Decides.{eqb_tells}
use Rattle.gp_run.specs.Messages.{messages}
use Rattle.gp_collide.specs.Clashes.{HasClash}
use Rattle.gp_caller.specs.Rounds.{next_round}
use Rattle.gp_memory.specs.declared.memory.NoMemory.{NoMemory}
use Rattle.gp_round.specs.Counts.{Counts}
use Rattle.gp_round.specs.declared.round.Round.{Round}
use Rattle.gp_msg.specs.declared.node.Node.{Node}
use Rattle.gp_msg.specs.declared.node.Node.TheVariants.{Coordinator}
use Rattle.gp_msg.specs.declared.record.Record.{Record}
use Rattle.gp_run.specs.Runs.{newest_first}
use Rattle.gp_wire.specs.Own.{own}
use Rattle.gp_wire.proofs.OwnRecords.{own_append}
use Rattle.gp_cell.specs.Cores.{core_at, part_in}
use Rattle.gp_cell.specs.Still.{core_still, entries_append}
use Rattle.gp_cell.proofs.Posting.{nothing_own, back_empty}
use Rattle.gp_collide.specs.Watched.{Watched, watched}
use Rattle.gp_phase.specs.declared.caller.Call.{Call}
use Rattle.gp_caller.specs.declared.policy.TheConstants.{FIRST_ROUND, LEADER}
use Rattle.gp_caller.specs.Sights.{SightState, SawAll}
use Rattle.gp_caller.specs.Standing.{StandsIn}
use Rattle.gp_caller.specs.Calling.{CallerState, IsCalled, Decides, entered, new_sight, called_for, call_in, highest_for}

-- ---- a coordinator stands where it stood, if it posted nothing

pub stands_still : (config : Counts) (n : Node) (ps more qs : List Record) (e : ℕ) (r : Round) → qs ≡ ps ++ more → own n qs ≡ own n ps → StandsIn config n ps e r → StandsIn config n qs e r
stands_still config n ps more qs e r grown same stands =
    let nothing : own n more ≡ [] = back_empty (own n ps) (own n more) (sym (ap (own n) grown ∙ own_append n ps more) ∙ same) in
    let still : core_at config n (newest_first qs) ≡ core_at config n (newest_first ps) =
    ap (λ rs. core_at config n (newest_first rs)) grown ∙ ap (core_at config n) (entries_append ps more) ∙ core_still config n (newest_first more) (newest_first ps) (nothing_own n more nothing) in
    ap part_in still ∙ stands

-- ---- the watch is over the first round of the epoch

pub entered_epoch : (s : SightState) (e : ℕ) → (entered s e).watch.round.0 ≡ e
entered_epoch s e = elim (eqb_tells e s.watch.round.0) [
  | inl t ↦ ap (λ b. (cond b s (new_sight e)).watch.round.0) t.0 ∙ sym t.1
  | inr t ↦ ap (λ b. (cond b s (new_sight e)).watch.round.0) t.0
]

pub round_of : (w : Watched) (n e : ℕ) → w.round ≡ (n, FIRST_ROUND) → w.round.0 ≡ e → w.round ≡ (e, FIRST_ROUND)
round_of w n e is at = is ∙ (λ i. ((sym (ap (λ (p : ℕ × Round). p.0) is) ∙ at) i, FIRST_ROUND))

decided_one : (config : Counts) (calls : List Call) (seen : List Record) (e : ℕ) (own : Round) (s : CallerState) → StandsIn config (Coordinator LEADER) seen e own → s.calls ≡ calls → s.sight.watch.round ≡ (e, FIRST_ROUND) → SawAll s.sight seen
    → (call : Option Call) → Decides s own call → IsCalled config (Coordinator LEADER) calls seen call
decided_one config calls seen e own s stands calls_is round_is saw call d =
    let watch_is : s.sight.watch ≡ watched (e, FIRST_ROUND) (messages (newest_first seen)) = saw ∙ ap (λ r. watched r (messages (newest_first seen))) round_is in record {
      epoch = e;
      own = own;
      stands = stands;
      clashed = d.clashed;
      clash = subst (λ w. IsTrue d.clashed ↔ HasClash w) watch_is d.clash;
      call_is = subst (λ n. call ≡ option_map (call_in n) (next_round (highest_for (called_for n calls) own) d.clashed (called_for n calls))) (ap (λ (p : ℕ × Round). p.0) round_is)
          (subst (λ cs. call ≡ option_map (call_in s.sight.watch.round.0) (next_round (highest_for (called_for s.sight.watch.round.0 cs) own) d.clashed (called_for s.sight.watch.round.0 cs))) calls_is d.call_is);
    }

pub decided : (config : Counts) (calls : List Call) (seen : List Record) (e : ℕ) (own : Round) (s : CallerState) → StandsIn config (Coordinator LEADER) seen e own → s.calls ≡ calls → s.sight.watch.round ≡ (e, FIRST_ROUND) → SawAll s.sight seen
    → (result : Result (Option Call) NoMemory) → IfOk result (Decides s own) → IfOk result (IsCalled config (Coordinator LEADER) calls seen)
decided config calls seen e own s stands calls_is round_is saw (Err none) d = tt
decided config calls seen e own s stands calls_is round_is saw (Ok call) d = decided_one config calls seen e own s stands calls_is round_is saw call d
