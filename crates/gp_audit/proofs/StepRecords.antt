-- One more record of a world keeps what a replay has.
use Rattle.std.proofs.Common.{◌≡◌, ◌∙◌, ℕ, ◌+◌, ◌<◌, List, [], ◌∷◌, length, take, get_or, Some, None, sym, ap, subst}
use Rattle.std.specs.Prelude.{slice_get}
use Rattle.gp_round.specs.Counts.{Counts}
use Rattle.gp_msg.specs.declared.node.Node.TheVariants.{Learner}
use Rattle.gp_msg.specs.declared.event.Event.TheVariants.{Take}
use Rattle.gp_msg.specs.declared.record.Record.{Record}
use Rattle.gp_msg.specs.Messages.{Stamped, Entry, entry_of}
use Rattle.gp_learner.specs.Epochs as learner
use Rattle.gp_learner.specs.Epochs.{LearnerInEpoch}
use Rattle.gp_run.specs.Messages.{messages}
use Rattle.gp_run.specs.States.{learner_at}
use Rattle.gp_run.specs.Legal.{Legal}
use Rattle.gp_run.specs.Runs.{newest_first}
use Rattle.gp_agreement.proofs.Steps.{learner_own}
use Rattle.gp_audit.specs.declared.own.OwnEvent.TheVariants as own
use Rattle.gp_audit.specs.declared.replay.Replay.{Replay}
use Rattle.gp_audit.specs.Owning.{own_event}
use Rattle.gp_audit.specs.Replays.{IsInStep, Takes, IsReplayed}
use Rattle.gp_audit.proofs.OwnEvents.{acts_as}
use Rattle.gp_audit.proofs.RecordsTaken.{Next, next_of, Named, named}
use Rattle.gp_audit.proofs.Replaying.{replayed_take, replayed_elsewhere, replayed_fall}

module _ (config : Counts) (rs : List Record) (at : ℕ) (r : Record) (l : ℕ) (legal : Legal config (newest_first rs)) (less : at < length rs) (is : r ≡ get_or rs at r) (old : Replay) (h : IsReplayed config (newest_first (take at rs)) l old) where
  next : Next config rs at r
  next = next_of config rs at r legal less is

  then : (new : Replay) → IsReplayed config (entry_of r ∷ newest_first (take at rs)) l new → IsReplayed config (newest_first (take (at + 1) rs)) l new
  then new q = subst (λ (ys : List Entry). IsReplayed config ys l new) (sym next.is) q

  pub step_elsewhere : own_event l r.event ≡ own.Elsewhere → IsReplayed config (newest_first (take (at + 1) rs)) l old
  step_elsewhere e = then old (replayed_elsewhere config l (entry_of r) (newest_first (take at rs)) old h e)

  pub step_fall : own_event l r.event ≡ own.Falls → (new : Replay) → IsInStep new → new.number ≡ old.number → new.learner ≡ learner.fall old.learner → new.proofs.items ≡ []
      → IsReplayed config (newest_first (take (at + 1) rs)) l new
  step_fall e new step number fell none = then new (replayed_fall config l (entry_of r) (newest_first (take at rs)) old new h e step number fell none)

  module _ (k : ℕ) (e : own_event l r.event ≡ own.Takes k) where
    takes : r.event ≡ Take (Learner l) k
    takes = (acts_as l (learner_at config l (newest_first (take at rs))) (messages (newest_first (take at rs))) r.event (own.Takes k) e).0

    there : Named rs (newest_first (take at rs)) k
    there = named config rs at r l k next takes

    -- the message is there
    pub step_none : {P : Type 0} → slice_get (messages (newest_first rs)) k ≡ None → P
    step_none none = absurd (let d = sym there.there ∙ none in cc)

    pub step_take : 0 < old.config.acceptors → (new : Replay) (m : Stamped) → slice_get (messages (newest_first rs)) k ≡ Some m → Takes old new at k m → IsReplayed config (newest_first (take (at + 1) rs)) l new
    step_take some new m found t =
        let same : there.message ≡ m = (let d = sym there.there ∙ found in cc) in
        let own_config = h.step.config ∙ ap (λ (u : LearnerInEpoch). u.state.config) h.learner ∙ (learner_own config l (newest_first (take at rs))).own_config in
        then new (replayed_take config l (entry_of r) (newest_first (take at rs)) (subst (λ (u : Counts). 0 < u.acceptors) own_config some) next.legal k takes old new m
        (there.then_there ∙ ap (λ (u : Stamped). Some u) same) h (subst (λ (n : ℕ). Takes old new n k m) (sym next.count) t))
