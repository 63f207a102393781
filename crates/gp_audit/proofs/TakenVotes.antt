-- The votes that a learner holds are ones that it took.
use Rattle.std.proofs.Common.{◌≡◌, ◌⊎◌, inl, inr, ℕ, Bool, true, false, cond, ◌&&◌, nat_eq, nat_lt, List, [], ◌∷◌, Option, Some, None, refl, sym, ap, subst, ◌∙◌}
use Rattle.std.specs.Prelude.{slice_get}
use Rattle.std.specs.Ordering.{nat_cmp, is_eq}
use Rattle.std.specs.BTreeMap.{insert_entry}
use Rattle.std.proofs.lemmas.Bool.{eqb-true}
use Rattle.gp_command.specs.declared.command.Command.{Command}
use Rattle.gp_history.specs.History.{History, size}
use Rattle.gp_history.proofs.Tests.{fst_of, snd_of}
use Rattle.gp_round.specs.declared.round.Round.{Round}
use Rattle.gp_round.specs.Counts.{Counts}
use Rattle.gp_round.specs.Rounds.{same_round, round_cmp}
use Rattle.gp_epoch.specs.Cut.{first_checkpoint}
use Rattle.gp_safe.specs.Held.{newer}
use Rattle.gp_msg.specs.declared.node.Node.TheVariants.{Learner}
use Rattle.gp_msg.specs.declared.event.Event.TheVariants.{Take}
use Rattle.gp_msg.specs.Messages.{Proposed, Asked, Answered, Sent, Voted, Stamped, Offered, InEpoch, Final, Entry}
use Rattle.gp_learner.specs.State.{Votes}
use Rattle.gp_learner.specs.Table.{voter_cmp, vote_of, votes_held, votes_with, learner_take, hearing}
use Rattle.gp_learner.specs.Epochs as learner
use Rattle.gp_learner.specs.Epochs.{LearnerInEpoch}
use Rattle.gp_learner.proofs.Lookups.{lookup-insert_entry, voter_cmp_total, same_number}
use Rattle.gp_run.specs.Messages.{messages}
use Rattle.gp_run.specs.States.{learner_at}
use Rattle.gp_run.specs.Agreement.{IsNoFallOf}
use Rattle.gp_run.proofs.Choices.{chosen, with_message}
use Rattle.gp_command.proofs.Marks.{equal_then}
use Rattle.gp_round.proofs.Orders.{same_round_is}
use Rattle.gp_audit.specs.declared.own.OwnEvent.{OwnEvent}
use Rattle.gp_audit.specs.declared.own.OwnEvent.TheVariants.{Takes, Falls, Elsewhere}
use Rattle.gp_audit.specs.Owning.{own_event}
use Rattle.gp_audit.specs.Certificates.{HasTaken}
use Rattle.gp_audit.proofs.OwnEvents.{Acts, acts, no_fall}
use Rattle.gp_audit.proofs.LearnerSteps.{with_vote, take_is}

-- ---- one more vote

-- what is held after an insertion was inserted, or was held before
inserted : (votes : Votes) (r : Round) (a : ℕ) (v : History) (q : Round) (b : ℕ) (w : History) → vote_of (insert_entry voter_cmp votes (r, a) v) q b ≡ Some w
    → ((r ≡ q) × (a ≡ b) × (v ≡ w)) ⊎ (vote_of votes q b ≡ Some w)
inserted votes r a v q b w h = by_voter (is_eq (voter_cmp (q, b) (r, a))) refl
  where
    is : vote_of (insert_entry voter_cmp votes (r, a) v) q b ≡ cond (is_eq (voter_cmp (q, b) (r, a))) (Some v) (vote_of votes q b)
    is = lookup-insert_entry voter_cmp voter_cmp_total votes (r, a) (q, b) v

    same : is_eq (voter_cmp (q, b) (r, a)) ≡ (same_round q r && nat_eq b a)
    same = equal_then (round_cmp q r) (nat_cmp b a) ∙ ap (λ (x : Bool). same_round q r && x) (same_number b a)

    by_voter : (x : Bool) → is_eq (voter_cmp (q, b) (r, a)) ≡ x → ((r ≡ q) × (a ≡ b) × (v ≡ w)) ⊎ (vote_of votes q b ≡ Some w)
    by_voter true e =
        let t = sym same ∙ e in
        let value : v ≡ w = let d = sym (ap (λ (x : Bool). cond x (Some v) (vote_of votes q b)) e) ∙ sym is ∙ h in cc in
        inl (sym (same_round_is q r (fst_of (same_round q r) (nat_eq b a) t)), sym (eqb-true b a (snd_of (same_round q r) (nat_eq b a) t)), value)
    by_voter false e = inr (sym (ap (λ (x : Bool). cond x (Some v) (vote_of votes q b)) e) ∙ sym is ∙ h)

-- so for a vote that is held if it is newer
pub with_one_more : (votes : Votes) (r : Round) (a : ℕ) (v : History) (q : Round) (b : ℕ) (w : History) → vote_of (votes_with votes r a v) q b ≡ Some w
    → ((r ≡ q) × (a ≡ b) × (v ≡ w)) ⊎ (vote_of votes q b ≡ Some w)
with_one_more votes r a v q b w = by_held (vote_of votes r a)
  where
    by_size : (x : Bool) → vote_of (votes_held votes r a (cond x (Some v) None)) q b ≡ Some w → ((r ≡ q) × (a ≡ b) × (v ≡ w)) ⊎ (vote_of votes q b ≡ Some w)
    by_size true h = inserted votes r a v q b w h
    by_size false h = inr h

    by_held : (o : Option History) → vote_of (votes_held votes r a (newer o v)) q b ≡ Some w → ((r ≡ q) × (a ≡ b) × (v ≡ w)) ⊎ (vote_of votes q b ≡ Some w)
    by_held None h = inserted votes r a v q b w h
    by_held (Some u) h = by_size (nat_lt (size u) (size v)) h

-- ---- votes that were taken

module _ (config : Counts) (l : ℕ) where
  -- the votes that a learner in this state holds were taken in these entries
  abbrev pub AreTaken : List Entry → LearnerInEpoch → Type 0
  AreTaken es s = (r : Round) (a : ℕ) (v : History) → vote_of s.state.votes r a ≡ Some v → HasTaken config es l s.epoch r a v

  later_taken : (x : Entry) (es : List Entry) → IsNoFallOf l x.event → (e : ℕ) (r : Round) (a : ℕ) (v : History) → HasTaken config es l e r a v → HasTaken config (x ∷ es) l e r a v
  later_taken x es up e r a v t = record {
    later = x ∷ t.later;
    entry = t.entry;
    earlier = t.earlier;
    parts = ap (λ (ys : List Entry). x ∷ ys) t.parts;
    message = t.message;
    takes = t.takes;
    vote = t.vote;
    epoch = t.epoch;
    up = (up, t.up);
  }

  module _ (x : Entry) (es : List Entry) (taken : AreTaken es (learner_at config l es)) where
    abbrev s : LearnerInEpoch
    s = learner_at config l es

    stays : IsNoFallOf l x.event → AreTaken (x ∷ es) s
    stays up r a v h = later_taken x es up s.epoch r a v (taken r a v h)

    abbrev AreTakenThen : LearnerInEpoch × Option Stamped → Type 0
    AreTakenThen p = AreTaken (x ∷ es) p.0

    module _ (k : ℕ) (takes : x.event ≡ Take (Learner l) k) where
      up : IsNoFallOf l x.event
      up = no_fall l k x.event takes

      this_taken : (r : Round) (a : ℕ) (v : History) → slice_get (messages es) k ≡ Some (InEpoch s.epoch (Voted r a v)) → HasTaken config (x ∷ es) l s.epoch r a v
      this_taken r a v found = record { later = []; entry = x; earlier = es; parts = refl; message = k; takes = takes; vote = found; epoch = refl; up = tt }

      -- so are those that it holds with the vote that it takes
      pub then_taken : (r : Round) (a : ℕ) (v : History) → slice_get (messages es) k ≡ Some (InEpoch s.epoch (Voted r a v)) → (q : Round) (b : ℕ) (w : History) → vote_of (votes_with s.state.votes r a v) q b ≡ Some w
          → HasTaken config (x ∷ es) l s.epoch q b w
      then_taken r a v found q b w h = elim (with_one_more s.state.votes r a v q b w h) [
        | inl is ↦ this_taken q b w (found ∙ (λ i. Some (InEpoch s.epoch (Voted (is.0 i) (is.1 i) (is.2 i)))))
        | inr before ↦ stays up q b w before
      ]

      learning_taken : (r : Round) (a : ℕ) (v : History) → slice_get (messages es) k ≡ Some (InEpoch s.epoch (Voted r a v)) → (o : Option Command) → AreTakenThen (learner.learning (learner.with_state s (hearing s.state r (votes_with s.state.votes r a v))) o)
      learning_taken r a v found None = then_taken r a v found
      learning_taken r a v found (Some z) = λ q b w h. absurd (cc)

      voted_taken : (e : ℕ) (r : Round) (a : ℕ) (v : History) → slice_get (messages es) k ≡ Some (InEpoch e (Voted r a v)) → (x : Bool) → (nat_eq e s.epoch && nat_lt a s.state.config.acceptors) ≡ x
          → AreTakenThen (learner.take s (InEpoch e (Voted r a v)))
      voted_taken e r a v found true b =
          let own : e ≡ s.epoch = eqb-true e s.epoch (fst_of (nat_eq e s.epoch) (nat_lt a s.state.config.acceptors) b) in
          let known = snd_of (nat_eq e s.epoch) (nat_lt a s.state.config.acceptors) b in
          subst (λ (i : ℕ). AreTakenThen (learner.take s (InEpoch i (Voted r a v)))) (sym own)
          (subst AreTakenThen (sym (take_is s r a v known))
          (learning_taken r a v (found ∙ ap (λ (i : ℕ). Some (InEpoch i (Voted r a v))) own) (first_checkpoint (with_vote s r a v known).learned)))
      voted_taken e r a v found false b =
          subst AreTakenThen (sym (ap (λ (c : Bool). cond c (learner.hearing s (learner_take s.state (Voted r a v))) (s, None)) b)) (stays up)

      takes_taken : (m : Stamped) → slice_get (messages es) k ≡ Some m → AreTakenThen (learner.take s m)
      takes_taken (Offered c) found = stays up
      takes_taken (InEpoch e (Proposed c)) found = stays up
      takes_taken (InEpoch e (Asked r)) found = stays up
      takes_taken (InEpoch e (Answered r a q v)) found = stays up
      takes_taken (InEpoch e (Sent r c v)) found = stays up
      takes_taken (InEpoch e (Voted r a v)) found = voted_taken e r a v found (nat_eq e s.epoch && nat_lt a s.state.config.acceptors) refl
      takes_taken (Final e i v) found = chosen (AreTaken (x ∷ es)) (nat_eq e s.epoch) (learner.passed s v) s (λ q b w h. absurd (cc)) (stays up)

    by_own : (own : OwnEvent) → Acts own l s (messages es) x.event → AreTaken (x ∷ es) (learner_at config l (x ∷ es))
    by_own (Takes k) facts =
        subst AreTakenThen (sym facts.1) (with_message AreTakenThen (s, None) (learner.take s) (slice_get (messages es) k) (stays (no_fall l k x.event facts.0)) (takes_taken k facts.0))
    by_own Falls facts = subst AreTakenThen (sym facts) (λ q b w h. absurd (cc))
    by_own Elsewhere facts = subst AreTakenThen (sym facts.0) (stays facts.1)

  -- **each vote that a learner holds it took in its epoch and its life**
  pub held_taken : (es : List Entry) → AreTaken es (learner_at config l es)
  held_taken [] = λ r a v h. absurd (cc)
  held_taken (x ∷ es) = by_own x es (held_taken es) (own_event l x.event) (acts l (learner_at config l es) (messages es) x.event)
