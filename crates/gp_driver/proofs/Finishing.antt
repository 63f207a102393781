-- A pass closes an epoch with a new checkpoint, or all is learned.
use Rattle.std.proofs.Common.{◌≡◌, ℕ, suc, ◌+◌, ◌<◌, ◌≤◌, Bool, true, false, cond, ◌||◌, List, [], ◌∷◌, ◌++◌, length, Some, inl, inr, refl, sym, ap, ◌∙◌, arith}
use Rattle.std.specs.Prelude.{not, slice_get, filter, ◌⊎◌}
use Rattle.std.specs.List.{list_any}
use Rattle.std.proofs.lemmas.Bool.{lt-ltb, le-ltb}
use Rattle.std.proofs.lemmas.List.{append-nil}
use Rattle.gp_command.specs.declared.command.Command.{Command}
use Rattle.gp_command.specs.Conflict.{same}
use Rattle.gp_command.proofs.ConflictLemmas.{same_itself, same-true}
use Rattle.gp_history.specs.History.{History, has, before}
use Rattle.gp_history.proofs.Tests.{any-append, left_of, right_of, one_of, never, by_cases, both}
use Rattle.gp_history.proofs.Joins.{empty_none}
use Rattle.gp_round.specs.Counts.{Counts}
use Rattle.gp_msg.specs.declared.node.Node.TheVariants.{Coordinator, Acceptor}
use Rattle.gp_epoch.proofs.Checkpoints.{found_is_first}
use Rattle.gp_epoch.proofs.Cuts.{has-cut}
use Rattle.gp_msg.specs.Messages.{Final, Entry}
use Rattle.gp_run.specs.Messages.{messages}
use Rattle.gp_run.specs.Legal.{Legal}
use Rattle.gp_run.specs.TopCount.{top_count}
use Rattle.gp_run.specs.States.{coordinator_at, acceptor_at, learner_at}
use Rattle.gp_run.specs.Learned.{learned_at}
use Rattle.gp_run.specs.Agreement.{Agrees}
use Rattle.gp_coordinator.specs.Epochs.{CoordinatorInEpoch}
use Rattle.gp_coordinator.specs.Epochs as coordinator
use Rattle.gp_acceptor.specs.Epochs.{AcceptorInEpoch}
use Rattle.gp_acceptor.specs.Epochs as acceptor
use Rattle.gp_learner.specs.Epochs.{LearnerInEpoch}
use Rattle.gp_driver.specs.Sweeps.{swept}
use Rattle.gp_driver.specs.Settling.{pass, closed}
use Rattle.gp_driver.proofs.Lists.{outs, get-behind, outs_there}
use Rattle.gp_driver.proofs.Sweeping.{none_sent, run}
use Rattle.gp_driver.proofs.Roles.{CoordinatorsTook, coordinators_take, AcceptorsTook, acceptors_take}
use Rattle.gp_driver.proofs.Closings.{closed_by, closed_from, closed-append}
use Rattle.gp_driver.proofs.RunsKeep.{run_kept}
use Rattle.gp_driver.proofs.TopRounds.{up_to_top, swept_up_to}
use Rattle.gp_driver.proofs.Offers.{is_offer, final_has, is_offered, is_closed, offered_there, contained, finals_offer_nothing, finals_close, finals_have}
use Rattle.gp_driver.proofs.FinalsLearned.{finals_are_learned}
use Rattle.gp_driver.proofs.Counting.{opens, opens-append, nothing_opens}
use Rattle.gp_driver.proofs.Passing.{PassMade, PassCloses, LearnerCloses}

-- all nodes that settle are in the first epoch that is open, and all that is offered is closed or pending, but not both
pub record IsReady (config : Counts) (es : List Entry) (e : ℕ) : Type 0 where
  pub legal : Legal config es
  pub open_from : closed_by (messages es) ≡ e
  pub leads : (coordinator_at config 0 es).epoch ≡ e
  pub answers : (a : ℕ) → a < config.acceptors → (acceptor_at config a es).epoch ≡ e
  pub hears : (l : ℕ) → l < config.learners → (learner_at config l es).epoch ≡ e
  pub whole : (c : Command) → is_offered (messages es) c ≡ true → (is_closed (messages es) c ≡ true) ⊎ (list_any (same c) (coordinator_at config 0 es).state.pending ≡ true)
  pub apart : (c : Command) → list_any (same c) (coordinator_at config 0 es).state.pending ≡ true → is_closed (messages es) c ≡ false

-- nothing was voted or heard in the epoch
pub record IsFresh (config : Counts) (es : List Entry) : Type 0 where
  pub votes : (a : ℕ) → a < config.acceptors → (c : Command) → has (acceptor_at config a es).state.vote c ≡ false
  pub parts : (l : ℕ) → l < config.learners → (c : Command) → has (learner_at config l es).state.learned c ≡ false

-- a checkpoint that the closing of an epoch brings: offered, and now closed
pub record NewlyClosed (config : Counts) (es ys : List Entry) (z : Command) : Type 0 where
  pub mark : z.draft.checkpoint ≡ true
  pub offered : is_offered (messages es) z ≡ true
  pub is_now : is_closed (messages ys) z ≡ true
  pub is_new : IsFresh config es → is_closed (messages es) z ≡ false

pub record ClosedWell (config : Counts) (es ys : List Entry) (e : ℕ) : Type 0 where
  pub ready : IsReady config ys (suc e)
  pub fresh : IsFresh config ys
  pub rounds : top_count config ys ≤ suc (top_count config es)
  pub entries : length ys ≡ length (pass config es) + (config.acceptors + 1)
  pub more : (c : Command) → is_closed (messages es) c ≡ true → is_closed (messages ys) c ≡ true
  pub offers : (c : Command) → is_offered (messages ys) c ≡ is_offered (messages es) c
  pub opened : (p : Command → Bool) → opens p (messages ys) ≡ opens p (messages es)
  pub new : (z : Command) × NewlyClosed config es ys z

-- ---- the pending commands once some are done

pub kept_apart : (v : History) (xs : List Command) (c : Command) → list_any (same c) (filter (λ d. not (has v d)) xs) ≡ true → (list_any (same c) xs ≡ true) × (has v c ≡ false)
kept_apart v [] c t = absurd cc
kept_apart v (x ∷ xs) c t = by (has v x) refl t (kept_apart v xs c) where
  widen : (list_any (same c) xs ≡ true) × (has v c ≡ false) → (list_any (same c) (x ∷ xs) ≡ true) × (has v c ≡ false)
  widen r = (right_of (same c x) (list_any (same c) xs) r.0, r.1)

  by : (b : Bool) → has v x ≡ b → list_any (same c) (cond (not b) (x ∷ filter (λ d. not (has v d)) xs) (filter (λ d. not (has v d)) xs)) ≡ true
      → (list_any (same c) (filter (λ d. not (has v d)) xs) ≡ true → (list_any (same c) xs ≡ true) × (has v c ≡ false)) → (list_any (same c) (x ∷ xs) ≡ true) × (has v c ≡ false)
  by true q s more = widen (more s)
  by false q s more = one_of (same c x) (list_any (same c) (filter (λ d. not (has v d)) xs)) s (λ h. (left_of (same c x) (list_any (same c) xs) h, ap (has v) (same-true c x h) ∙ q)) (λ h. widen (more h))

pub stays_pending : (v : History) (xs : List Command) (c : Command) → list_any (same c) xs ≡ true → has v c ≡ false → list_any (same c) (filter (λ d. not (has v d)) xs) ≡ true
stays_pending v [] c t n = absurd cc
stays_pending v (x ∷ xs) c t n = by (has v x) refl (stays_pending v xs c) where
  by : (b : Bool) → has v x ≡ b → (list_any (same c) xs ≡ true → has v c ≡ false → list_any (same c) (filter (λ d. not (has v d)) xs) ≡ true) → list_any (same c) (cond (not b) (x ∷ filter (λ d. not (has v d)) xs) (filter (λ d. not (has v d)) xs)) ≡ true
  by true q more = one_of (same c x) (list_any (same c) xs) t (λ h. absurd (never (has v x) q (ap (has v) (sym (same-true c x h)) ∙ n))) (λ h. more h n)
  by false q more = one_of (same c x) (list_any (same c) xs) t (left_of (same c x) _) (λ h. right_of (same c x) _ (more h n))

module _ (config : Counts) (some : 0 < config.acceptors) (lead : 0 < config.coordinators) (one : 0 < config.learners) (agrees : (es : List Entry) → Legal config es → Agrees config es) where
  -- ---- an epoch is closed

  module _ (es : List Entry) (e : ℕ) (ready : IsReady config es e) (made : PassMade config es e) (c : PassCloses config es e made.value) where
    abbrev zs : List Entry
    zs = pass config es

    abbrev place : ℕ
    place = c.first.first

    abbrev value : History
    value = c.finals 0

    abbrev zs1 : List Entry
    zs1 = swept config Coordinator 1 (c.first.first ∷ []) (pass config es)

    abbrev ys : List Entry
    ys = closed config c.first.first (pass config es)

    took1 : CoordinatorsTook config 1 (Final e 0 (c.finals 0) ∷ []) (pass config es) zs1
    took1 = coordinators_take config 1 (c.first.first ∷ []) (Final e 0 (c.finals 0) ∷ []) (pass config es) (c.first.there, tt)

    sent1 : messages zs1 ≡ messages (pass config es)
    sent1 = took1.sent ∙ append-nil (messages (pass config es))

    took2 : AcceptorsTook config (Final e 0 (c.finals 0) ∷ []) zs1 (closed config c.first.first (pass config es))
    took2 = acceptors_take config (c.first.first ∷ []) (Final e 0 (c.finals 0) ∷ []) zs1 (ap (λ ms. slice_get ms c.first.first) sent1 ∙ c.first.there, tt)

    sent2 : messages ys ≡ messages (pass config es)
    sent2 = took2.sent ∙ (λ i. sent1 i ++ none_sent (λ a. (run acceptor.take (acceptor_at config a zs1) (Final e 0 (c.finals 0) ∷ [])).1) config.acceptors (λ a h. refl) i) ∙ append-nil (messages (pass config es))

    all_sent : messages ys ≡ (messages es ++ c.more) ++ outs (λ l. Final e l (c.finals l)) config.learners
    all_sent = sent2 ∙ c.sent

    -- ---- the states

    leader : coordinator_at config 0 ys ≡ coordinator.entered (coordinator.settled (coordinator_at config 0 (pass config es)) (c.finals 0)) (suc e)
    leader =
        took2.coordinators 0 ∙ took1.coordinators 0 (omega arith)
        ∙ ap (λ b. cond b (coordinator.settled (coordinator_at config 0 (pass config es)) (c.finals 0)) (coordinator.entered (coordinator.settled (coordinator_at config 0 (pass config es)) (c.finals 0)) (suc e)))
        (le-ltb e (coordinator_at config 0 (pass config es)).epoch (let l = made.leads in omega (arith, l)))

    abbrev pending : List Command
    pending = (coordinator_at config 0 es).state.pending

    left : (coordinator_at config 0 ys).state.pending ≡ filter (λ d. not (has (c.finals 0) d)) (coordinator_at config 0 es).state.pending
    left = ap (λ (s : CoordinatorInEpoch). s.state.pending) leader ∙ ap (filter (λ d. not (has (c.finals 0) d))) made.pending

    voter : (a : ℕ) → a < config.acceptors → acceptor_at config a ys ≡ acceptor.entered (acceptor_at config a (pass config es)) (suc e)
    voter a h =
        took2.acceptors a h
        ∙ ap (λ (s : AcceptorInEpoch). (acceptor.take s (Final e 0 (c.finals 0))).0) (took1.acceptors a)
        ∙ ap (λ b. cond b (acceptor_at config a (pass config es)) (acceptor.entered (acceptor_at config a (pass config es)) (suc e)))
        (le-ltb e (acceptor_at config a (pass config es)).epoch (let l = made.answers a h in omega (arith, l)))

    hearer : (l : ℕ) → learner_at config l ys ≡ learner_at config l (pass config es)
    hearer l = took2.learners l ∙ took1.learners l

    legal : Legal config ys
    legal = took2.legal (took1.legal lead made.legal)

    -- ---- the messages

    standing : (l : ℕ) → l < config.learners → (k : ℕ) × (slice_get (messages (pass config es)) k ≡ Some (Final e l (c.finals l)))
    standing l h = (length (messages es ++ c.more) + l, ap (λ ms. slice_get ms (length (messages es ++ c.more) + l)) c.sent ∙ get-behind (messages es ++ c.more) (outs (λ i. Final e i (c.finals i)) config.learners) l (Final e l (c.finals l)) (outs_there (λ i. Final e i (c.finals i)) config.learners l h))

    alike : (l : ℕ) → l < config.learners → c.finals l ≡ c.finals 0
    alike l h =
        let a = standing l h in
        let b = standing 0 one in
        (agrees (pass config es) made.legal).one_final e l 0 (c.finals l) (c.finals 0) (contained (messages (pass config es)) a.0 (Final e l (c.finals l)) a.1) (contained (messages (pass config es)) b.0 (Final e 0 (c.finals 0)) b.1)

    offers_same : (d : Command) → is_offered (messages ys) d ≡ is_offered (messages es) d
    offers_same d =
        ap (λ ms. is_offered ms d) all_sent
        ∙ any-append (is_offer d) (messages es ++ c.more) (outs (λ l. Final e l (c.finals l)) config.learners)
        ∙ (λ i. any-append (is_offer d) (messages es) c.more i || finals_offer_nothing e c.finals config.learners d i)
        ∙ (λ i. (is_offered (messages es) d || c.calm.offers d i) || false)
        ∙ or_nothing (is_offered (messages es) d)
      where
        or_nothing : (b : Bool) → ((b || false) || false) ≡ b
        or_nothing true = refl
        or_nothing false = refl

    closed_now : (d : Command) → is_closed (messages ys) d ≡ (is_closed (messages es) d || has (c.finals 0) d)
    closed_now d =
        ap (λ ms. is_closed ms d) all_sent
        ∙ any-append (final_has d) (messages es ++ c.more) (outs (λ l. Final e l (c.finals l)) config.learners)
        ∙ (λ i. any-append (final_has d) (messages es) c.more i || finals_have e c.finals (c.finals 0) config.learners d one alike i)
        ∙ (λ i. (is_closed (messages es) d || c.calm.has_none d i) || has (c.finals 0) d)
        ∙ ap (λ b. b || has (c.finals 0) d) (or_false (is_closed (messages es) d))
      where
        or_false : (b : Bool) → (b || false) ≡ b
        or_false true = refl
        or_false false = refl

    opens_same : (p : Command → Bool) → opens p (messages ys) ≡ opens p (messages es)
    opens_same p =
        let a = ap (opens p) all_sent in
        let b = opens-append p (messages es ++ c.more) (outs (λ l. Final e l (c.finals l)) config.learners) in
        let d = opens-append p (messages es) c.more in
        let x = nothing_opens p c.more c.calm.offers in
        let y = nothing_opens p (outs (λ l. Final e l (c.finals l)) config.learners) (finals_offer_nothing e c.finals config.learners) in
        omega (arith, a, b, d, x, y)

    open_next : closed_by (messages ys) ≡ suc e
    open_next =
        ap closed_by all_sent
        ∙ closed-append 0 (messages es ++ c.more) (outs (λ l. Final e l (c.finals l)) config.learners)
        ∙ (λ i. closed_from (closed-append 0 (messages es) c.more i) (outs (λ l. Final e l (c.finals l)) config.learners))
        ∙ (λ i. closed_from (c.calm.closes (closed_by (messages es)) i) (outs (λ l. Final e l (c.finals l)) config.learners))
        ∙ (λ i. closed_from (ready.open_from i) (outs (λ l. Final e l (c.finals l)) config.learners))
        ∙ finals_close e c.finals config.learners one

    -- ---- the new checkpoint

    closing : LearnerCloses config es e 0 made.value (c.finals 0)
    closing = c.closings 0 one

    z : Command
    z = closing.first

    first_there : has (c.finals 0) closing.first ≡ true
    first_there =
        ap (λ u. has u closing.first) closing.is_cut
        ∙ has-cut closing.whole closing.first closing.first closing.history closing.first_is
        ∙ both (found_is_first closing.whole closing.history closing.first closing.first_is).there (left_of (same closing.first closing.first) (before closing.whole closing.first closing.first) (same_itself closing.first))

    first_shown : has (learned_at config 0 (pass config es)) closing.first ≡ true
    first_shown =
        let s = standing 0 one in
        finals_are_learned config (pass config es) (agrees (pass config es) made.legal) (run_kept config (pass config es) made.legal).sound 0 s.0 e 0 (c.finals 0) closing.first s.1 (let q = closing.epoch in omega (arith, q)) first_there

    first_offered : is_offered (messages es) closing.first ≡ true
    first_offered =
        sym (offers_same closing.first)
        ∙ ap (λ ms. is_offered ms closing.first) sent2
        ∙ offered_there (messages (pass config es)) closing.first ((agrees (pass config es) made.legal).proposed [] (pass config es) refl 0 closing.first first_shown)

    new_first : IsFresh config es → is_closed (messages es) closing.first ≡ false
    new_first fresh = elim (closing.from closing.first (found_is_first closing.whole closing.history closing.first closing.first_is).there) [
      | inl a ↦ absurd (never (has (learner_at config 0 es).state.learned closing.first) a (fresh.parts 0 one closing.first))
      | inr a ↦ elim (made.from closing.first a) [
        | inl b ↦ ready.apart closing.first b
        | inr b ↦ absurd (never (has (acceptor_at config b.0 es).state.vote closing.first) b.2 (fresh.votes b.0 b.1 closing.first))
      ]
    ]

    pub closes_well : ClosedWell config es (closed config c.first.first (pass config es)) e
    closes_well = record {
      ready = record {
        legal = legal;
        open_from = open_next;
        leads = ap (λ (s : CoordinatorInEpoch). s.epoch) leader;
        answers = λ a h. ap (λ (s : AcceptorInEpoch). s.epoch) (voter a h);
        hears = λ l h. ap (λ (s : LearnerInEpoch). s.epoch) (hearer l) ∙ (c.closings l h).epoch;
        whole = λ d t. elim (ready.whole d (sym (offers_same d) ∙ t)) [
          | inl a ↦ inl (closed_now d ∙ left_of (is_closed (messages es) d) (has (c.finals 0) d) a)
          | inr a ↦ by_cases (has (c.finals 0) d)
              (λ q. inl (closed_now d ∙ right_of (is_closed (messages es) d) (has (c.finals 0) d) q))
              (λ q. inr (ap (list_any (same d)) left ∙ stays_pending (c.finals 0) (coordinator_at config 0 es).state.pending d a q))
        ];
        apart = λ d t.
            let r = kept_apart (c.finals 0) (coordinator_at config 0 es).state.pending d (sym (ap (list_any (same d)) left) ∙ t) in
            closed_now d ∙ (λ i. ready.apart d r.0 i || r.1 i);
      };
      fresh = record {
        votes = λ a h d. ap (λ (s : AcceptorInEpoch). has s.state.vote d) (voter a h) ∙ empty_none d;
        parts = λ l h d. ap (λ (s : LearnerInEpoch). has s.state.learned d) (hearer l) ∙ ap (λ s. has s.learned d) (c.closings l h).state ∙ empty_none d;
      };
      rounds = up_to_top (suc (top_count config es)) config (closed config c.first.first (pass config es))
          (swept_up_to (suc (top_count config es)) config Acceptor config.acceptors (c.first.first ∷ []) zs1 (λ i h. lt-ltb i config.acceptors h)
          (swept_up_to (suc (top_count config es)) config Coordinator 1 (c.first.first ∷ []) (pass config es) (λ i h. lt-ltb i config.coordinators (omega (arith, h, lead))) made.rounds));
      entries = let a = took1.entries in let b = took2.entries in omega (arith, a, b);
      more = λ d t. closed_now d ∙ left_of (is_closed (messages es) d) (has (c.finals 0) d) t;
      offers = offers_same;
      opened = opens_same;
      new = (
        closing.first,
        record {
          mark = (found_is_first closing.whole closing.history closing.first closing.first_is).marked;
          offered = first_offered;
          is_now = closed_now closing.first ∙ right_of (is_closed (messages es) closing.first) (has (c.finals 0) closing.first) first_there;
          is_new = new_first;
        },
      );
    }
