-- Which rounds are begun in a run whose leader adapts.
use Rattle.std.proofs.Common.{◌≡◌, ℕ, ◌<◌, true, false, List, [], ◌∷◌, length, Option, Some, None, refl, sym, ◌∙◌, subst}
use Rattle.std.specs.Prelude.{◌↔◌, IsTrue}
use Rattle.gp_round.specs.Counts.{Counts}
use Rattle.gp_round.specs.declared.round.Round.{Round}
use Rattle.gp_msg.specs.declared.node.Node.{Node}
use Rattle.gp_msg.specs.declared.event.Event.{Event}
use Rattle.gp_msg.specs.declared.event.Event.TheVariants.{Begin, Take}
use Rattle.gp_msg.specs.declared.record.Record.{Record}
use Rattle.gp_run.specs.Messages.{messages}
use Rattle.gp_run.specs.Runs.{newest_first}
use Rattle.gp_wire.specs.Own.{own_events}
use Rattle.gp_work.specs.Doing.{ProcessState}
use Rattle.gp_collide.specs.Values.{HasIncompatibleValues}
use Rattle.gp_collide.specs.Watched.{watched}
use Rattle.gp_collide.specs.Clashes.{HasClash}
use Rattle.gp_collide.proofs.ClashesSeen.{values_clash}
use Rattle.gp_phase.specs.declared.caller.Call.{Call}
use Rattle.gp_caller.specs.declared.policy.TheConstants.{LEADER, FIRST_FAST_ROUND}
use Rattle.gp_caller.specs.Adapting.{IsAdapted, MayRest, last_for, or_zero}
use Rattle.gp_ending.specs.Begins.{leader, HasFollowed}
use Rattle.gp_ending.specs.Adapting.{BeginsInCourse}
use Rattle.gp_ending.proofs.GrowingValues.{are_histories, each_grows}
use Rattle.gp_ending.proofs.Following.{ended, first_meant, opens_with}
use Rattle.gp_ending.proofs.Walking.{all_done}
use Rattle.gp_ending.proofs.Courses.{IsLastOf, IsUpToDate, up_to_date, course, each_in_course}

module _ (p : ProcessState) (calls : List Call) (f : HasFollowed IsAdapted p calls) where
  abbrev config : Counts
  config = p.config

  abbrev X : List Record
  X = p.list

  abbrev end : IsAdapted config leader calls X None
  end = ended p calls f

  last_of : (e : ℕ) → IsLastOf config X (length X) e (last_for e calls)
  last_of e = subst (λ cs. IsLastOf config X (length X) e (last_for e cs)) (all_done p calls f (IsUpToDate p calls f) (up_to_date p calls f) (course p calls f (length X))) ((course p calls f (length X)).holds e)

  -- no values of the round that was begun last are incompatible, if it may rest
  calm_of : 0 < config.acceptors → (q : Round) → (IsTrue end.clashed ↔ HasClash (watched (end.epoch, q) (messages (newest_first X)))) → end.clashed ≡ false → HasIncompatibleValues (end.epoch, q) (messages (newest_first X)) → ⊥
  calm_of some q clash none two =
      let seen = values_clash (end.epoch, q) (messages (newest_first X)) (are_histories config some (newest_first X) f.legal end.epoch q) (each_grows config some (newest_first X) f.legal end.epoch q) two in
      let wrong : true ≡ false = sym (clash.1 seen) ∙ none in
      cc

  by_last : 0 < config.acceptors → (o : Option Round) → MayRest o end.clashed → (IsTrue end.clashed ↔ HasClash (watched (end.epoch, or_zero o) (messages (newest_first X))))
      → IsLastOf config X (length X) end.epoch o → BeginsInCourse config X
  by_last some None rest clash last = absurd rest
  by_last some (Some q) rest clash last = record {
    each = each_in_course p calls f some;
    last = end.epoch;
    own = end.own;
    stands = end.stands;
    round = q;
    begun = last;
    calm = λ below. calm_of some q clash (rest below);
  }

  -- **the leader begins its rounds in course**
  pub begins_in_course : 0 < config.acceptors → BeginsInCourse config X
  begins_in_course some = by_last some (last_for end.epoch calls) end.may end.clash (last_of end.epoch)

  -- ---- the first event

  -- the first call is of the first fast round
  first_call : (c : Call) (cs : List Call) → calls ≡ c ∷ cs → c.round ≡ FIRST_FAST_ROUND
  first_call c cs is = (first_meant p calls f c cs is).may.may.1

  -- some round is called
  some_called : calls ≡ [] → ⊥
  some_called is = subst (λ cs. MayRest (last_for end.epoch cs) end.clashed) is end.may

  pub opens_with_first_fast : ((n : Node) (k : ℕ) (rest : List Event) → ¬ (own_events leader X ≡ Take n k ∷ rest)) → (rest : List Event) × (own_events leader X ≡ Begin LEADER FIRST_FAST_ROUND ∷ rest)
  opens_with_first_fast none = by_calls calls refl
    where
      by_calls : (cs : List Call) → calls ≡ cs → (rest : List Event) × (own_events leader X ≡ Begin LEADER FIRST_FAST_ROUND ∷ rest)
      by_calls [] is = absurd (some_called is)
      by_calls (c ∷ cs) is = opens_with p calls f c cs FIRST_FAST_ROUND is (first_call c cs is) none
