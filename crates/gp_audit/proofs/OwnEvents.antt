-- What events are to one learner.
use Rattle.std.proofs.Common.{◌≡◌, ℕ, zero, suc, Bool, true, false, cond, nat_eq, List, [], ◌∷◌, ◌++◌, Option, Some, None, refl, sym, ap, subst}
use Rattle.std.specs.Prelude.{slice_get}
use Rattle.std.proofs.lemmas.Bool.{eqb-true, eqb-false}
use Rattle.gp_msg.specs.declared.node.Node.TheVariants.{Proposer, Coordinator, Acceptor, Learner}
use Rattle.gp_msg.specs.declared.event.Event.{Event}
use Rattle.gp_msg.specs.declared.event.Event.TheVariants.{Offer, Begin, Take, Fall}
use Rattle.gp_msg.specs.declared.event.Kept.{Kept}
use Rattle.gp_msg.specs.Messages.{Stamped, Entry}
use Rattle.gp_learner.specs.Epochs.{LearnerInEpoch, take, fall}
use Rattle.gp_run.specs.Messages.{messages, on_message}
use Rattle.gp_run.specs.States.{learner_acts}
use Rattle.gp_run.specs.Agreement.{IsNoFallOf}
use Rattle.gp_audit.specs.declared.own.OwnEvent.{OwnEvent}
use Rattle.gp_audit.specs.declared.own.OwnEvent.TheVariants.{Takes, Falls, Elsewhere}
use Rattle.gp_audit.specs.Owning.{own_event}

-- what the event does, by what it is to learner l
abbrev pub Acts : OwnEvent → ℕ → LearnerInEpoch → List Stamped → Event → Type 0
Acts (Takes k) l s ms event = (event ≡ Take (Learner l) k) × (learner_acts l s ms event ≡ on_message (s, None) (take s) (slice_get ms k))
Acts Falls l s ms event = learner_acts l s ms event ≡ (fall s, None)
Acts Elsewhere l s ms event = (learner_acts l s ms event ≡ (s, None)) × IsNoFallOf l event

module _ (l : ℕ) (s : LearnerInEpoch) (ms : List Stamped) where
  takes : (i k : ℕ) (b : Bool) → nat_eq l i ≡ b → Acts (cond b (Takes k) Elsewhere) l s ms (Take (Learner i) k)
  takes i k true e =
      (ap (λ (j : ℕ). Take (Learner j) k) (sym (eqb-true l i e)), ap (λ (x : Bool). cond x (on_message (s, None) (take s) (slice_get ms k)) (s, None)) e)
  takes i k false e = (ap (λ (x : Bool). cond x (on_message (s, None) (take s) (slice_get ms k)) (s, None)) e, tt)

  falls : (i : ℕ) (what : Option Kept) (b : Bool) → nat_eq l i ≡ b → Acts (cond b Falls Elsewhere) l s ms (Fall (Learner i) what)
  falls i what true e = ap (λ (x : Bool). cond x (fall s, None) (s, None)) e
  falls i what false e = (ap (λ (x : Bool). cond x (fall s, None) (s, None)) e, eqb-false l i e)

  pub acts : (event : Event) → Acts (own_event l event) l s ms event
  acts (Offer p d) = (refl, tt)
  acts (Begin c r) = (refl, tt)
  acts (Take (Proposer p) k) = (refl, tt)
  acts (Take (Coordinator c) k) = (refl, tt)
  acts (Take (Acceptor a) k) = (refl, tt)
  acts (Take (Learner i) k) = takes i k (nat_eq l i) refl
  acts (Fall (Proposer p) what) = (refl, tt)
  acts (Fall (Coordinator c) what) = (refl, tt)
  acts (Fall (Acceptor a) what) = (refl, tt)
  acts (Fall (Learner i) what) = falls i what (nat_eq l i) refl

  -- so for an event that is known to be this to the learner
  pub acts_as : (event : Event) (own : OwnEvent) → own_event l event ≡ own → Acts own l s ms event
  acts_as event own e = subst (λ (o : OwnEvent). Acts o l s ms event) e (acts event)

-- a learner that takes a message does not fall
pub no_fall : (l k : ℕ) (event : Event) → event ≡ Take (Learner l) k → IsNoFallOf l event
no_fall l k event e = subst (IsNoFallOf l) (sym e) tt

-- ---- messages of a run

front : {X : Type 0} (xs ys : List X) (k : ℕ) (x : X) → slice_get xs k ≡ Some x → slice_get (xs ++ ys) k ≡ Some x
front [] ys k x e = cc
front (y ∷ xs) ys zero x e = e
front (y ∷ xs) ys (suc k) x e = front xs ys k x e

-- later entries do not change what a number names
pub message_stays : (later earlier : List Entry) (k : ℕ) (m : Stamped) → slice_get (messages earlier) k ≡ Some m → slice_get (messages (later ++ earlier)) k ≡ Some m
message_stays [] earlier k m e = e
message_stays (x ∷ later) earlier k m e = front (messages (later ++ earlier)) x.sent k m (message_stays later earlier k m e)
