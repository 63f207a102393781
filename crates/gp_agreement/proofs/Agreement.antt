-- What learners show in a legal run over epochs agrees.
use Rattle.std.proofs.Common.{◌≡◌, ◌⊎◌, ◌<◌, ◌≤◌, ℕ, suc, true, ◌&&◌, nat_eq, nat_lt, List, [], ◌∷◌, ◌++◌, Option, Some, None, slice_get, refl, sym, subst, ap, ◌∙◌, inl, inr, arith}
use Rattle.std.specs.List.{Contains}
use Rattle.std.proofs.lemmas.Option.{slice_get-get_or}
use Rattle.std.proofs.lemmas.Bool.{ltb-true, ltb-false, eqb-true}
use Rattle.gp_command.specs.declared.command.Command.{Command}
use Rattle.gp_history.specs.History.{History, IsHistory, IsPrefix, has}
use Rattle.gp_history.specs.Bounds.{IsCompatible, join}
use Rattle.gp_history.proofs.Tests.{by_cases}
use Rattle.gp_history.proofs.Prefix.{prefix_refl, prefix_trans}
use Rattle.gp_history.proofs.Lub.{bounded_compatible}
use Rattle.gp_history.proofs.Bound.{join_is_history, join_grows, alike_same}
use Rattle.gp_round.specs.Counts.{Counts}
use Rattle.gp_msg.specs.declared.node.Node.TheVariants.{Proposer, Coordinator, Acceptor, Learner}
use Rattle.gp_msg.specs.declared.event.Event.{Event}
use Rattle.gp_msg.specs.declared.event.Event.TheVariants.{Offer, Begin, Take, Fall}
use Rattle.gp_msg.specs.Messages.{Proposed, Asked, Answered, Sent, Voted}
use Rattle.gp_learner.specs.Table.{learner_take}
use Rattle.gp_run.specs.Agreement.{IsNoFallOf}
use Rattle.gp_run.specs.Learned.{Vote, IsHeard}
use Rattle.gp_cstructs.specs.CStructs.{Among}
use Rattle.gp_cstructs.specs.Learner as core
use Rattle.gp_cstructs.specs.Loose.{run}
use Rattle.gp_cstructs.proofs.Lists.{cond_cases, among_left, among_contains, contains_among, nat_cases}
use Rattle.gp_agreement.proofs.Heard.{heard_there, heard_as}
use Rattle.gp_epoch.specs.Cut.{first_checkpoint, HasNoCheckpoint, cut}
use Rattle.gp_epoch.proofs.Checkpoints.{none_has_none}
use Rattle.gp_epoch.proofs.Joining.{join_prefix, join_compatible}
use Rattle.gp_msg.specs.Messages.{Stamped, Offered, InEpoch, Final, Entry}
use Rattle.gp_learner.specs.Epochs as learner
use Rattle.gp_learner.specs.Epochs.{LearnerInEpoch}
use Rattle.gp_run.specs.Messages.{messages}
use Rattle.gp_run.specs.States.{learner_acts, learner_at}
use Rattle.gp_run.specs.Legal.{Legal}
use Rattle.gp_run.specs.Learned.{learned_at, epoch_at, joined_with, base, base_at}
use Rattle.gp_run.specs.Agreement.{StaysUp, IsLearned, Agrees}
use Rattle.gp_run.proofs.Choices.{with_message}
use Rattle.gp_run.proofs.Telling.{messages-append}
use Rattle.gp_agreement.proofs.FinalsBelow.{HasFinal, finals_below}
use Rattle.gp_agreement.proofs.Bases.{final_found, base_stays, base_history, base_grows}
use Rattle.gp_agreement.proofs.Projection.{T}
use Rattle.gp_agreement.proofs.Projected.{projection, legal_rest}
use Rattle.gp_agreement.proofs.Moments.{part_is, part_history, whole, parts_compatible, one_final, part_below}
use Rattle.gp_agreement.proofs.LearnedParts.{parts_unmarked, finals_are_histories, all_joined}
use Rattle.gp_agreement.proofs.Proposed.{learned_proposed}
use Rattle.gp_agreement.proofs.Identities.{proposed_once}

-- ---- a learner that does not fall

module _ (l : ℕ) (s : LearnerInEpoch) (ms : List Stamped) where
  abbrev Grows : LearnerInEpoch × Option Stamped → Type 0
  Grows p = IsPrefix s.learned p.0.learned

  learning_grows : (t : LearnerInEpoch) (o : Option Command) → IsHistory s.learned → t.learned ≡ s.learned → Grows (learner.learning t o)
  learning_grows t None w q = subst (λ (h : History). IsPrefix s.learned (join h t.state.learned)) (sym q) (join_grows s.learned t.state.learned w)
  learning_grows t (Some z) w q = subst (λ (h : History). IsPrefix s.learned (join h (cut t.state.learned))) (sym q) (join_grows s.learned (cut t.state.learned) w)

  receives_grows : (m : Stamped) → IsHistory s.learned → Grows (learner.take s m)
  receives_grows (Offered c) w = prefix_refl s.learned w
  receives_grows (InEpoch e (Proposed c)) w = prefix_refl s.learned w
  receives_grows (InEpoch e (Asked r)) w = prefix_refl s.learned w
  receives_grows (InEpoch e (Answered r a q v)) w = prefix_refl s.learned w
  receives_grows (InEpoch e (Sent r c v)) w = prefix_refl s.learned w
  receives_grows (InEpoch e (Voted r a v)) w = cond_cases Grows (nat_eq e s.epoch && nat_lt a s.state.config.acceptors) (learner.hearing s (learner_take s.state (Voted r a v))) (s, None)
      (λ b. learning_grows (learner.with_state s (learner_take s.state (Voted r a v))) (first_checkpoint (learner_take s.state (Voted r a v)).learned) w refl) (λ b. prefix_refl s.learned w)
  receives_grows (Final e j v) w = cond_cases (λ (u : LearnerInEpoch). IsPrefix s.learned u.learned) (nat_eq e s.epoch) (learner.passed s v) s (λ b. join_grows s.learned v w) (λ b. prefix_refl s.learned w)

  acts_grow : (event : Event) → IsHistory s.learned → IsNoFallOf l event → Grows (learner_acts l s ms event)
  acts_grow (Offer p d) w n = prefix_refl s.learned w
  acts_grow (Begin c r) w n = prefix_refl s.learned w
  acts_grow (Take (Proposer p) k) w n = prefix_refl s.learned w
  acts_grow (Take (Coordinator c) k) w n = prefix_refl s.learned w
  acts_grow (Take (Acceptor a) k) w n = prefix_refl s.learned w
  acts_grow (Take (Learner i) k) w n = cond_cases Grows (nat_eq l i) _ _
      (λ e. with_message Grows (s, None) (learner.take s) (slice_get ms k) (prefix_refl s.learned w) (λ m q. receives_grows m w)) (λ e. prefix_refl s.learned w)
  acts_grow (Fall (Proposer p) what) w n = prefix_refl s.learned w
  acts_grow (Fall (Coordinator c) what) w n = prefix_refl s.learned w
  acts_grow (Fall (Acceptor a) what) w n = prefix_refl s.learned w
  acts_grow (Fall (Learner i) what) w n = cond_cases Grows (nat_eq l i) (learner.fall s, None) (s, None) (λ e. absurd (n (eqb-true l i e))) (λ e. prefix_refl s.learned w)

module _ (config : Counts) (some : 0 < config.acceptors) where
  -- ---- one moment

  module _ (es : List Entry) (legal : Legal config es) where
    valid : (e l : ℕ) (v : History) → Among (messages es) (Final e l v) → IsHistory v
    valid = finals_are_histories config es legal

    base_valid : (n : ℕ) → IsHistory (base (messages es) n)
    base_valid = base_history (messages es) (finals_are_histories config es legal)

    own_part : (l : ℕ) → IsHistory (learner_at config l es).state.learned
    own_part l = part_history config (epoch_at config l es) es legal l refl

    pub learned_history : (l : ℕ) → IsHistory (learned_at config l es)
    learned_history l = subst IsHistory (sym (all_joined config some es legal l)) (join_is_history (base_at config l es) (learner_at config l es).state.learned (base_valid (epoch_at config l es)) (own_part l))

    pub no_mark : (l : ℕ) → HasNoCheckpoint (learner_at config l es).state.learned
    no_mark l = none_has_none (learner_at config l es).state.learned (own_part l) (parts_unmarked config l es)

    -- it is the base of its epoch, joined with the least upper bound of what it heard there
    pub is_learned : (l : ℕ) → IsLearned config es l
    is_learned l =
        let e : ℕ = epoch_at config l es in
        let p = projection config e es legal in
        let k = (p.projects.learners l).0 refl in
        let a = whole config e some es legal in
        let t : core.Learner (T config e) = (run (T config e) p.events).learners l in
        let is = part_is config e es legal l refl in
        record {
          part = (learner_at config l es).state.learned;
          bound = record {
            history = own_part l;
            above = λ u h. subst (λ (w : History). IsPrefix u w) is
                (a.has_all [] p.events refl l (record { history = u; valid = h.history }) (heard_as config t.taken u (subst (λ (vs : List Vote). IsHeard config vs u) k.taken h) h.history));
            least = λ z w f. subst (λ (v : History). IsPrefix v z) is
                (a.has_no_more [] p.events refl l (record { history = z; valid = w }) (λ u h. f u.history (subst (λ (vs : List Vote). IsHeard config vs u.history) (sym k.taken) (heard_there config t.taken u h))));
          };
          joined = all_joined config some es legal l;
        }

  grows_since : (ys zs : List Entry) → Legal config (ys ++ zs) → (l : ℕ) → StaysUp l ys → IsPrefix (learned_at config l zs) (learned_at config l (ys ++ zs))
  grows_since [] zs legal l s = prefix_refl (learned_at config l zs) (learned_history zs legal l)
  grows_since (y ∷ ys) zs legal l s = prefix_trans (learned_at config l zs) (learned_at config l (ys ++ zs)) (learned_at config l (y ∷ (ys ++ zs))) (grows_since ys zs legal.0 l s.1)
      (acts_grow l (learner_at config l (ys ++ zs)) (messages (ys ++ zs)) y.event (learned_history (ys ++ zs) legal.0 l) s.0)

  -- ---- two moments

  module _ (es : List Entry) (legal : Legal config es) where
    legal_at : (xs ys : List Entry) → xs ++ ys ≡ es → Legal config ys
    legal_at xs ys e = legal_rest config 0 xs ys (subst (λ (zs : List Entry). Legal config zs) (sym e) legal)

    sent_there : (xs ys : List Entry) → xs ++ ys ≡ es → (m : Stamped) → Among (messages ys) m → Among (messages es) m
    sent_there xs ys e m p = subst (λ (run : List Entry). Among (messages run) m) e (subst (λ (ms : List Stamped). Among ms m) (sym (messages-append xs ys)) (among_left (messages ys) (messages xs) m p))

    all_base : (n : ℕ) → IsHistory (base (messages es) n)
    all_base = base_valid es legal

    -- the base of an epoch that was entered does not change any more
    base_then : (xs ys : List Entry) → xs ++ ys ≡ es → (l : ℕ) → base_at config l ys ≡ base (messages es) (epoch_at config l ys)
    base_then xs ys e l =
        let n : ℕ = epoch_at config l ys in
        sym (ap (λ (run : List Entry). base (messages run) n) (sym e) ∙ ap (λ (ms : List Stamped). base ms n) (messages-append xs ys) ∙ base_stays (messages ys) (messages xs) n ((finals_below config ys (legal_at xs ys e)).learners l))

    shown_is : (xs ys : List Entry) → xs ++ ys ≡ es → (l : ℕ) → learned_at config l ys ≡ join (base (messages es) (epoch_at config l ys)) (learner_at config l ys).state.learned
    shown_is xs ys e l = all_joined config some ys (legal_at xs ys e) l ∙ ap (λ (b : History). join b (learner_at config l ys).state.learned) (base_then xs ys e l)

    -- a learner shows a prefix of the base of each later epoch
    below_next : (xs ys : List Entry) → xs ++ ys ≡ es → (l m : ℕ) → epoch_at config l ys < m → HasFinal (messages es) (epoch_at config l ys) → IsPrefix (learned_at config l ys) (base (messages es) m)
    below_next xs ys e l m less h =
        let n : ℕ = epoch_at config l ys in
        let part : History = (learner_at config l ys).state.learned in
        let k = final_found n (messages es) h in
        let here = legal_at xs ys e in
        let v = valid es legal n k.learner k.value k.there in
        prefix_trans (learned_at config l ys) (base (messages es) (suc n)) (base (messages es) m)
        (subst (λ (h : History). IsPrefix h (base (messages es) (suc n))) (sym (shown_is xs ys e l))
        (subst (λ (o : Option History). IsPrefix (join (base (messages es) n) part) (joined_with (base (messages es) n) o)) (sym k.is)
        (join_prefix (base (messages es) n) part k.value (all_base n) (own_part ys here l) v
        (part_below config n some es legal xs ys e l refl (no_mark ys here l) k.learner k.value k.there))))
        (base_grows (messages es) (valid es legal) (suc n) m (omega (arith, less)))

    -- of two learners the one in an earlier epoch shows a prefix of what the other shows
    earlier_below : (xs ys us vs : List Entry) → xs ++ ys ≡ es → us ++ vs ≡ es → (l i : ℕ) → epoch_at config l ys < epoch_at config i vs → IsPrefix (learned_at config l ys) (learned_at config i vs)
    earlier_below xs ys us vs e g l i less =
        let m : ℕ = epoch_at config i vs in
        let h = (finals_below config vs (legal_at us vs g)).learners i (epoch_at config l ys) less in
        subst (λ (w : History). IsPrefix (learned_at config l ys) w) (sym (shown_is us vs g i))
        (prefix_trans (learned_at config l ys) (base (messages es) m) (join (base (messages es) m) (learner_at config i vs).state.learned)
        (below_next xs ys e l m less (h.0, h.1, sent_there us vs g (Final (epoch_at config l ys) h.0 h.1) h.2))
        (join_grows (base (messages es) m) (learner_at config i vs).state.learned (all_base m)))

    same_epoch : (xs ys us vs : List Entry) → xs ++ ys ≡ es → us ++ vs ≡ es → (l i : ℕ) → epoch_at config l ys ≡ epoch_at config i vs → IsCompatible (learned_at config l ys) (learned_at config i vs)
    same_epoch xs ys us vs e g l i q =
        let n : ℕ = epoch_at config l ys in
        let x : History = (learner_at config l ys).state.learned in
        let y : History = (learner_at config i vs).state.learned in
        subst (λ (w : History). IsCompatible w (learned_at config i vs)) (sym (shown_is xs ys e l))
        (subst (λ (w : History). IsCompatible (join (base (messages es) n) x) w) (sym (shown_is us vs g i ∙ ap (λ (k : ℕ). join (base (messages es) k) y) (sym q)))
        (join_compatible (base (messages es) n) x y (all_base n) (own_part ys (legal_at xs ys e) l) (own_part vs (legal_at us vs g) i)
        (parts_compatible config n some es legal xs ys us vs e g l i refl (sym q))))

    by_order : (n m : ℕ) → (n < m) ⊎ ((n ≡ m) ⊎ (m < n))
    by_order n m = by_cases (nat_lt n m) (λ b. inl (ltb-true n m b)) (λ b. elim (nat_cases n m) [ inl q ↦ inr (inl q) | inr d ↦ inr (inr (greater n m (ltb-false n m b) d)) ])
      where
        greater : (n m : ℕ) → m ≤ n → (n ≡ m → ⊥) → m < n
        greater n m le d = omega arith

    pub compatible : (xs ys us vs : List Entry) → xs ++ ys ≡ es → us ++ vs ≡ es → (l i : ℕ) → IsCompatible (learned_at config l ys) (learned_at config i vs)
    compatible xs ys us vs e g l i =
        let x = learned_history ys (legal_at xs ys e) l in
        let y = learned_history vs (legal_at us vs g) i in
        elim (by_order (epoch_at config l ys) (epoch_at config i vs)) [
          | inl less ↦ bounded_compatible (learned_at config l ys) (learned_at config i vs) (learned_at config i vs) x y y (earlier_below xs ys us vs e g l i less) (prefix_refl (learned_at config i vs) y)
          | inr t ↦ elim t [
            | inl q ↦ same_epoch xs ys us vs e g l i q
            | inr less ↦ bounded_compatible (learned_at config l ys) (learned_at config i vs) (learned_at config l ys) x y x (prefix_refl (learned_at config l ys) x) (earlier_below us vs xs ys g e i l less)
          ]
        ]

    -- ---- identities

    place_of : (m : Stamped) (p : Contains (messages es) m) → slice_get (messages es) p.0 ≡ Some m
    place_of m p = slice_get-get_or (messages es) p.0 m p.1 ∙ ap (λ x. Some x) p.2

    one_command : (c d : Command) → Among (messages es) (Offered c) → Among (messages es) (Offered d) → c.id ≡ d.id → c ≡ d
    one_command c d a b same_id =
        let p = among_contains (messages es) (Offered c) a in
        let q = among_contains (messages es) (Offered d) b in
        let at_one = (proposed_once config es legal).once p.0 q.0 c d (place_of (Offered c) p) (place_of (Offered d) q) same_id in
        let both_there : Some (Offered c) ≡ Some (Offered d) = sym (place_of (Offered c) p) ∙ ap (λ i. slice_get (messages es) i) at_one ∙ place_of (Offered d) q in
        cc

    proposed_at : (xs ys : List Entry) → xs ++ ys ≡ es → (l : ℕ) (c : Command) → has (learned_at config l ys) c ≡ true → Among (messages ys) (Offered c)
    proposed_at xs ys e l c h = learned_proposed config ys (legal_at xs ys e) some l c h

    -- ---- all of it

    pub agrees : Agrees config es
    agrees = record {
      alike = λ xs ys us vs e g l i.
          let a = compatible xs ys us vs e g l i in
          record {
            compatible = a;
            ordered = λ c d p q r s. a.alike c d p r q s;
            equal = alike_same (learned_at config l ys) (learned_at config i vs) (learned_history ys (legal_at xs ys e) l) (learned_history vs (legal_at us vs g) i) a;
          };
      proposed = λ xs ys e l c h. among_contains (messages ys) (Offered c) (proposed_at xs ys e l c h);
      identities = λ xs ys us vs e g l i c d p q.
          one_command c d (sent_there xs ys e (Offered c) (proposed_at xs ys e l c p)) (sent_there us vs g (Offered d) (proposed_at us vs g i d q));
      grows = λ xs ys zs e l s. grows_since ys zs (legal_at xs (ys ++ zs) e) l s;
      history = λ xs ys e l. learned_history ys (legal_at xs ys e) l;
      learned = λ xs ys e l. is_learned ys (legal_at xs ys e) l;
      one_final = λ e l i v w p q. one_final config e some es legal l i v w (contains_among (messages es) (Final e l v) p) (contains_among (messages es) (Final e i w) q);
    }
