-- The values of a round in one epoch of a legal run: each sender only adds to its value.
use Rattle.std.proofs.Common.{◌≡◌, ◌<◌, ◌⊎◌, ℕ, zero, suc, List, [], ◌∷◌, ◌++◌, Some, sym, ap, ◌∙◌, subst}
use Rattle.std.specs.Prelude.{slice_get}
use Rattle.std.specs.List.{Contains}
use Rattle.gp_history.specs.History.{History, IsHistory, IsPrefix}
use Rattle.gp_round.specs.declared.round.Round.{Round}
use Rattle.gp_round.specs.Counts.{Counts}
use Rattle.gp_msg.specs.declared.node.Node.{Node}
use Rattle.gp_msg.specs.declared.node.Node.TheVariants.{Proposer, Coordinator, Acceptor, Learner}
use Rattle.gp_msg.specs.declared.record.Record.{Record}
use Rattle.gp_msg.specs.Messages.{Proposed, Asked, Answered, Sent, Voted, Stamped, Offered, InEpoch, Final, Entry}
use Rattle.gp_run.specs.Messages.{messages}
use Rattle.gp_run.specs.Legal.{Legal}
use Rattle.gp_run.specs.Runs.{newest_first}
use Rattle.gp_run.proofs.Telling.{messages-append}
use Rattle.gp_cell.specs.Still.{entries_append}
use Rattle.gp_cstructs.proofs.Lists.{get_among, among_contains}
use Rattle.gp_agreement.specs.Facts.{HasSent}
use Rattle.gp_agreement.proofs.Facts.{all_facts}
use Rattle.gp_agreement.proofs.Standing as standing
use Rattle.gp_collide.specs.Watched.{EpochRound}
use Rattle.gp_collide.specs.Values.{Brings, IsValueAt, IsValue, HasIncompatibleValues, AreHistories, EachGrows}

module _ (config : Counts) (some : 0 < config.acceptors) (es : List Entry) (legal : Legal config es) (e : ℕ) (r : Round) where
  -- the value comes from this sender: a coordinator sent it, or an acceptor told it as its vote
  abbrev Comes : Node → History → Type 0
  Comes (Proposer p) v = ⊥
  Comes (Coordinator c) v = HasSent es c e r v
  Comes (Acceptor a) v = Contains (messages es) (InEpoch e (Voted r a v))
  Comes (Learner l) v = ⊥

  comes : (s : Node) (v : History) (m : Stamped) → Contains (messages es) m → Brings (e, r) s v m → Comes s v
  comes s v (Offered c) p b = absurd b
  comes s v (InEpoch n (Proposed c)) p b = absurd b
  comes s v (InEpoch n (Asked q)) p b = absurd b
  comes s v (InEpoch n (Answered q a k w)) p b = absurd b
  comes s v (Final n l u) p b = absurd b
  comes s v (InEpoch n (Sent q c w)) p b = subst (λ (k : Node). Comes k v) (sym b.1)
      (subst (λ (k : ℕ × Round). Contains (messages es) (InEpoch k.0 (Sent k.1 c v))) b.0 (subst (λ (k : History). Contains (messages es) (InEpoch n (Sent q c k))) b.2 p))
  comes s v (InEpoch n (Voted q a w)) p b = subst (λ (k : Node). Comes k v) (sym b.1)
      (subst (λ (k : ℕ × Round). Contains (messages es) (InEpoch k.0 (Voted k.1 a v))) b.0 (subst (λ (k : History). Contains (messages es) (InEpoch n (Voted q a k))) b.2 p))

  came : (s : Node) (i : ℕ) (v : History) → IsValueAt (e, r) s (messages es) i v → Comes s v
  came s i v h = comes s v h.message (among_contains (messages es) h.message (get_among (messages es) i h.message h.there)) h.brings

  history_of_sender : (s : Node) (v : History) → Comes s v → IsHistory v
  history_of_sender (Proposer p) v c = absurd c
  history_of_sender (Coordinator b) v c = let u = standing.sent_value config some es legal e b r v c in subst IsHistory u.2 u.0.valid
  history_of_sender (Acceptor a) v c = let u = standing.voted_value config some es legal e r a v c in subst IsHistory u.2 u.0.valid
  history_of_sender (Learner l) v c = absurd c

  chain_of_sender : (s : Node) (v w : History) → Comes s v → Comes s w → IsPrefix v w ⊎ IsPrefix w v
  chain_of_sender (Proposer p) v w a b = absurd a
  chain_of_sender (Coordinator c) v w a b = ((all_facts config some es legal).coordinators c).values_chain e r v w a b
  chain_of_sender (Acceptor i) v w a b =
      let f = (all_facts config some es legal).acceptors i in
      f.votes_chain e r v w (f.sent_cast e r v a) (f.sent_cast e r w b)
  chain_of_sender (Learner l) v w a b = absurd a

  pub are_histories : AreHistories (e, r) (messages es)
  are_histories v h = history_of_sender h.sender v (came h.sender h.place v h.there)

  pub each_grows : EachGrows (e, r) (messages es)
  each_grows s i j v w a b = chain_of_sender s v w (came s i v a) (came s j w b)

-- ---- values stay when more is sent

get_more : {X : Type 0} (xs ys : List X) (k : ℕ) (x : X) → slice_get xs k ≡ Some x → slice_get (xs ++ ys) k ≡ Some x
get_more [] ys k x e = absurd (cc)
get_more (z ∷ xs) ys zero x e = e
get_more (z ∷ xs) ys (suc k) x e = get_more xs ys k x e

value_more : (r : EpochRound) (ms more : List Stamped) (v : History) → IsValue r ms v → IsValue r (ms ++ more) v
value_more r ms more v h = record {
  sender = h.sender;
  place = h.place;
  there = record { message = h.there.message; there = get_more ms more h.place h.there.message h.there.there; brings = h.there.brings };
}

incompatible_more : (r : EpochRound) (ms more : List Stamped) → HasIncompatibleValues r ms → HasIncompatibleValues r (ms ++ more)
incompatible_more r ms more h = record {
  left = h.left;
  right = h.right;
  there_left = value_more r ms more h.left h.there_left;
  there_right = value_more r ms more h.right h.there_right;
  incompatible = h.incompatible;
}

-- two values that the messages of some records have stand among those of more records
pub incompatible_since : (r : EpochRound) (seen more : List Record) → HasIncompatibleValues r (messages (newest_first seen)) → HasIncompatibleValues r (messages (newest_first (seen ++ more)))
incompatible_since r seen more h = subst (HasIncompatibleValues r) sent (incompatible_more r (messages (newest_first seen)) (messages (newest_first more)) h)
  where
    sent : messages (newest_first seen) ++ messages (newest_first more) ≡ messages (newest_first (seen ++ more))
    sent = sym (ap messages (entries_append seen more) ∙ messages-append (newest_first more) (newest_first seen))
