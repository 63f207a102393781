-- An event is refused exactly if it does not fit.
use Rattle.std.proofs.Common.{◌≡◌, ℕ, Bool, true, false, cond, ◌&&◌, refl, ap, ◌∙◌, Some, None}
use Rattle.std.specs.Prelude.{not, nat_lt, is_none, Option}
use Rattle.gp_round.specs.Counts.{Counts}
use Rattle.gp_round.specs.Configs.{is_between, is_owner}
use Rattle.gp_round.specs.declared.round.Round.{Round}
use Rattle.gp_msg.specs.declared.node.Node.TheVariants.{Proposer, Coordinator, Acceptor, Learner}
use Rattle.gp_msg.specs.declared.event.Event.{Event}
use Rattle.gp_msg.specs.declared.event.Event.TheVariants.{Offer, Begin, Take, Fall}
use Rattle.gp_msg.specs.declared.event.Kept.TheVariants as kept
use Rattle.gp_msg.specs.Nodes.{node_of, is_present, fits_among}
use Rattle.gp_round.proofs.Counting.{left_true, right_true}
use Rattle.gp_run.specs.Refusals.{Refusal, refusal_among, unless_owner, bad_round_or}

-- the node is there, and nothing else refuses
present : (b : Bool) (x : Refusal) (o : Option Refusal) → is_none (cond (not b) (Some x) o) ≡ (b && is_none o)
present true x o = refl
present false x o = refl

free : (b : Bool) (x : Refusal) → is_none (cond b None (Some x)) ≡ b
free true x = refl
free false x = refl

and_true : (b : Bool) → (b && true) ≡ b
and_true true = refl
and_true false = refl

owned : (b : Bool) (r : Round) → is_none (bad_round_or (cond b None (Some r)) None) ≡ b
owned true r = refl
owned false r = refl

-- an owner is one of the coordinators
and_known : (a b c : Bool) → (b && (a && b && c)) ≡ (a && b && c)
and_known true true c = refl
and_known true false c = refl
and_known false true c = refl
and_known false false c = refl

own_round : (config : Counts) (c : ℕ) (r : Round) → (nat_lt c config.coordinators && is_none (bad_round_or (unless_owner config c r) None)) ≡ is_owner config.coordinators c r
own_round config c r =
    ap (λ b. nat_lt c config.coordinators && b) (owned (is_owner config.coordinators c r) r)
    ∙ and_known (is_between 1 1000000 r.count) (nat_lt c config.coordinators) _

pub refused_where : (config : Counts) (have : ℕ) (event : Event) → is_none (refusal_among config have event) ≡ fits_among config have event
refused_where config have (Offer p d) = present _ _ _ ∙ and_true _
refused_where config have (Begin c r) = present _ _ _ ∙ own_round config c r
refused_where config have (Take node k) = present _ _ _ ∙ ap (λ b. is_present config node && b) (free _ _)
refused_where config have (Fall (Proposer p) what) = present _ _ _
refused_where config have (Fall (Coordinator c) None) = present _ _ _
refused_where config have (Fall (Coordinator c) (Some (kept.Begin r))) =
    present _ _ _ ∙ ap (λ b. nat_lt c config.coordinators && b) (owned _ _)
refused_where config have (Fall (Coordinator c) (Some (kept.Take k))) = present _ _ _ ∙ ap (λ b. nat_lt c config.coordinators && b) (free _ _)
refused_where config have (Fall (Acceptor a) None) = present _ _ _
refused_where config have (Fall (Acceptor a) (Some (kept.Begin r))) = present _ _ _
refused_where config have (Fall (Acceptor a) (Some (kept.Take k))) = present _ _ _ ∙ ap (λ b. nat_lt a config.acceptors && b) (free _ _)
refused_where config have (Fall (Learner l) None) = present _ _ _
refused_where config have (Fall (Learner l) (Some what)) = present _ _ _

-- a missing refusal, and the test for it
pub none_told : {X : Type 0} (o : Option X) → is_none o ≡ true → o ≡ None
none_told None h = refl
none_told (Some x) h = cc

pub none_tells : {X : Type 0} (o : Option X) → o ≡ None → is_none o ≡ true
none_tells None h = refl
none_tells (Some x) h = cc

owner_there : (n c : ℕ) (r : Round) → is_owner n c r ≡ true → nat_lt c n ≡ true
owner_there n c r h = right_true (is_between 1 1000000 r.count) (nat_lt c n) (left_true _ _ h)

-- an event that fits happens at a node of the configuration
pub node_there : (config : Counts) (have : ℕ) (event : Event) → fits_among config have event ≡ true → is_present config (node_of event) ≡ true
node_there config have (Offer p d) h = h
node_there config have (Begin c r) h = owner_there config.coordinators c r h
node_there config have (Take node k) h = left_true _ _ h
node_there config have (Fall node what) h = left_true _ _ h
