-- What the events of other nodes leave of the votes that a learner took.
use Rattle.std.proofs.Common.{◌≡◌, ℕ, List, refl, sym, ap}
use Rattle.std.specs.Prelude.{◌≢◌}
use Rattle.gp_round.specs.Counts.{Counts}
use Rattle.gp_msg.specs.declared.node.Node.TheVariants.{Proposer, Coordinator, Acceptor, Learner}
use Rattle.gp_msg.specs.declared.event.Event.{Event}
use Rattle.gp_msg.specs.declared.event.Event.TheVariants.{Offer, Begin, Take, Fall}
use Rattle.gp_msg.specs.Nodes.{node_of}
use Rattle.gp_run.specs.Learned.{Vote, taken_after}
use Rattle.gp_msg.specs.Messages.{Stamped}
use Rattle.gp_run.proofs.Others.{other}

pub taken_rests : (config : Counts) (l e f : ℕ) (votes : List Vote) (ms : List Stamped) (event : Event) → node_of event ≢ Learner l → taken_after config l e f votes ms event ≡ votes
taken_rests config l e f votes ms (Offer p d) n = refl
taken_rests config l e f votes ms (Begin c r) n = refl
taken_rests config l e f votes ms (Take (Proposer p) k) n = refl
taken_rests config l e f votes ms (Take (Coordinator c) k) n = refl
taken_rests config l e f votes ms (Take (Acceptor a) k) n = refl
taken_rests config l e f votes ms (Take (Learner i) k) n = other l i _ _ (λ q. n (ap Learner (sym q)))
taken_rests config l e f votes ms (Fall (Proposer p) what) n = refl
taken_rests config l e f votes ms (Fall (Coordinator c) what) n = refl
taken_rests config l e f votes ms (Fall (Acceptor a) what) n = refl
taken_rests config l e f votes ms (Fall (Learner i) what) n = other l i _ _ (λ q. n (ap Learner (sym q)))
