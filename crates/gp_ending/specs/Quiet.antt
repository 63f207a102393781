-- A quiet run of nodes.
use Rattle.std.specs.Prelude.{◌≡◌, ℕ, true, List, ◌∷◌}
use Rattle.gp_round.specs.Counts.{Counts}
use Rattle.gp_msg.specs.declared.node.Node.{Node}
use Rattle.gp_msg.specs.declared.node.Node.TheVariants.{Proposer}
use Rattle.gp_msg.specs.declared.event.Event.{Event}
use Rattle.gp_msg.specs.declared.event.Event.TheVariants.{Offer, Begin, Take, Fall}
use Rattle.gp_msg.specs.declared.record.Record.{Record}
use Rattle.gp_msg.specs.Nodes.{is_present}
use Rattle.gp_run.specs.Legal.{Legal}
use Rattle.gp_run.specs.Runs.{newest_first}
use Rattle.gp_wire.specs.Lists.{Each}
use Rattle.gp_wire.specs.Own.{own_events}
use Rattle.gp_phase.specs.Quiet.{IsQuietAt}
use Rattle.gp_caller.specs.declared.policy.TheConstants.{FIRST_ROUND, FIRST_FAST_ROUND, LEADER}
use Rattle.gp_ending.specs.Begins.{leader, BeginsInTurn}
use Rattle.gp_ending.specs.Adapting.{BeginsInCourse}

abbrev pub IsFall : Event → Type 0
IsFall (Offer p d) = ⊥
IsFall (Begin c r) = ⊥
IsFall (Take n k) = ⊥
IsFall (Fall n kept) = Unit {0}

abbrev pub IsOffer : Event → Type 0
IsOffer (Offer p d) = Unit {0}
IsOffer (Begin c r) = ⊥
IsOffer (Take n k) = ⊥
IsOffer (Fall n kept) = ⊥

-- the record is of no proposer, or offers a command
abbrev pub OffersIfProposer : Record → Type 0
OffersIfProposer r = (p : ℕ) → r.node ≡ Proposer p → IsOffer r.event

-- a legal run in which each node took each message that its role reads, exactly once, and no node has crashed
pub record IsQuietList (config : Counts) (list : List Record) : Type 0 where
  pub legal : Legal config (newest_first list)
  -- each node of the configuration took each message of the list that its role reads, exactly once, and took no other. A proposer reads none
  pub quiet : (n : Node) → is_present config n ≡ true → IsQuietAt n list
  pub stands : Each (λ r. ¬ IsFall r.event) list
  pub offers : Each OffersIfProposer list

-- a quiet run whose rounds are a multi round of each epoch and the single round that answers a collision
pub record IsQuietRun (config : Counts) (list : List Record) : Type 0 where
  pub quiet : IsQuietList config list
  -- the leader begins the first round before all else
  pub opens : (rest : List Event) × (own_events leader list ≡ Begin LEADER FIRST_ROUND ∷ rest)
  -- each round begins at most once in an epoch, the second one only after a collision in the first, and none is left out in the last epoch
  pub turns : BeginsInTurn config list

-- a quiet run whose rounds adapt to collisions
pub record IsAdaptiveRun (config : Counts) (list : List Record) : Type 0 where
  pub quiet : IsQuietList config list
  -- the leader begins the first fast round before all else
  pub opens : (rest : List Event) × (own_events leader list ≡ Begin LEADER FIRST_FAST_ROUND ∷ rest)
  -- the first round of an epoch is fast, and each other one follows the one before it as the modes say
  pub course : BeginsInCourse config list
