-- A learner hears the votes of all acceptors for one value: it shows the value, or closes its epoch with one Final message.
use Rattle.std.proofs.Common.{◌≡◌, ℕ, zero, suc, ◌<◌, ◌≤◌, true, cond, ◌&&◌, List, [], ◌∷◌, ◌++◌, Some, None, inl, inr, refl, sym, ap, ◌∙◌, subst, arith}
use Rattle.std.specs.Prelude.{Option, nat_eq, nat_lt, ◌⊎◌}
use Rattle.std.specs.Option.{option_to_list}
use Rattle.std.specs.Cmp.{tied_itself}
use Rattle.std.specs.Ordering.{nat_cmp, is_eq, ordering_then}
use Rattle.std.proofs.lemmas.Bool.{eq-eqb, ne_eqb, lt-ltb, cases_eq, cases_lt}
use Rattle.std.proofs.lemmas.Bool.Decides.{nat_tests}
use Rattle.gp_command.specs.declared.command.Command.{Command}
use Rattle.gp_history.specs.History.{History, IsHistory, has}
use Rattle.gp_history.specs.Bounds.{join}
use Rattle.gp_history.proofs.Tests.{right_of, one_of, never}
use Rattle.gp_history.proofs.Bound.{join_is_history, has-join}
use Rattle.gp_round.specs.Counts.{Counts}
use Rattle.gp_round.specs.Configs.{majority, quorum_size}
use Rattle.gp_round.specs.Sets.{masks}
use Rattle.gp_round.specs.declared.round.Round.{Round}
use Rattle.gp_round.specs.Rounds.{round_cmp_total}
use Rattle.gp_safe.specs.Held.{newer}
use Rattle.gp_msg.specs.Messages.{Voted, Stamped, InEpoch, Final}
use Rattle.gp_learner.specs.State.{LearnerState, Votes}
use Rattle.gp_learner.specs.Table.{voter_cmp, vote_of, votes_held, votes_with, heard, learned_with, learner_take}
use Rattle.gp_learner.specs.Table as table
use Rattle.gp_learner.proofs.Lookups.{lookup-insert_entry, voter_cmp_total}
use Rattle.gp_epoch.specs.Cut.{first_checkpoint, cut}
use Rattle.gp_epoch.proofs.Checkpoints.{found_is_first, none_has_none}
use Rattle.gp_learner.specs.Epochs.{LearnerInEpoch, take, learning, hearing}
use Rattle.gp_driver.proofs.Lists.{outs}
use Rattle.gp_driver.proofs.Sweeping.{run, run-snoc}
use Rattle.gp_driver.proofs.Values.{AreHistories, heard_is_from, HeardWhole, all_alike_are_heard}

-- the votes of a round, once one more is held
pub vote_of-held : (votes : Votes) (r : Round) (a : ℕ) (v : History) (i : ℕ) → vote_of (votes_held votes r a (Some v)) r i ≡ cond (nat_eq i a) (Some v) (vote_of votes r i)
vote_of-held votes r a v i =
    lookup-insert_entry voter_cmp voter_cmp_total votes (r, a) (r, i) v
    ∙ (λ k. cond (is_eq (ordering_then (tied_itself round_cmp_total r k) (nat_cmp i a))) (Some v) (vote_of votes r i))
    ∙ ap (λ b. cond b (Some v) (vote_of votes r i)) (same_number i a)
  where
    same_number : (i a : ℕ) → is_eq (nat_cmp i a) ≡ nat_eq i a
    same_number i a = grind (arith, nat_tests)

-- what is learned with what was heard
pub with_is_history : (h : History) (o : Option History) → IsHistory h → ((w : History) → o ≡ Some w → IsHistory w) → IsHistory (learned_with h o)
with_is_history h None wh f = wh
with_is_history h (Some w) wh f = join_is_history h w wh (f w refl)

pub with_from : (h : History) (o : Option History) (c : Command) (P : Type 0) → IsHistory h → ((w : History) → o ≡ Some w → IsHistory w) → has (learned_with h o) c ≡ true → (has h c ≡ true → P) → ((w : History) → o ≡ Some w → has w c ≡ true → P) → P
with_from h None c P wh f t a b = a t
with_from h (Some w) c P wh f t a b = one_of (has h c) (has w c) (sym (has-join h w wh (f w refl) c) ∙ t) a (b w refl)

-- its epoch is open, it sent nothing, and it shows all of a value
pub record HasShown (acceptors e : ℕ) (r : Round) (before : ℕ → Option History) (u : History) (w : LearnerInEpoch × List Stamped) : Type 0 where
  pub epoch : w.0.epoch ≡ e
  pub given : (i : ℕ) → i < acceptors → vote_of w.0.state.votes r i ≡ Some u
  pub old : (i : ℕ) → acceptors ≤ i → vote_of w.0.state.votes r i ≡ before i
  pub sent : w.1 ≡ []
  pub shown : (c : Command) → has u c ≡ true → has w.0.learned c ≡ true

-- it closed its epoch with the cut of a history that has a checkpoint, and with no command that was not in its part or in the value
pub record HasClosed (config : Counts) (e number : ℕ) (u p : History) (w : LearnerInEpoch × List Stamped) : Type 0 where
  pub whole : History
  pub first : Command
  pub learned : History
  pub is : w ≡ (record { epoch = suc e; state = table.opening config number; learned = learned }, Final e number (cut whole) ∷ [])
  pub history : IsHistory whole
  pub first_is : first_checkpoint whole ≡ Some first
  pub from : (c : Command) → has whole c ≡ true → (has p c ≡ true) ⊎ (has u c ≡ true)

-- what is held of a round before: values of which the new one has all commands, and whose place it takes
pub record FitsBefore (before : ℕ → Option History) (u : History) : Type 0 where
  pub next : (i : ℕ) → newer (before i) u ≡ Some u
  pub history : (i : ℕ) (v : History) → before i ≡ Some v → IsHistory v
  pub below : (i : ℕ) (v : History) (c : Command) → before i ≡ Some v → has v c ≡ true → has u c ≡ true

pub nothing_before : (u : History) → FitsBefore (λ i. None) u
nothing_before u = record { next = λ i. refl; history = λ i v e. cc; below = λ i v c e. cc }

-- in a round whose quorums are the majorities
module _ (config : Counts) (e : ℕ) (r : Round) (number : ℕ) (u : History) (wu : IsHistory u) (p : History) (some : 0 < config.acceptors) (size : quorum_size config.acceptors r.mode ≡ majority config.acceptors) (before : ℕ → Option History) (fit : FitsBefore before u) where
  abbrev pub vote : ℕ → Stamped
  vote i = InEpoch e (Voted r i u)

  abbrev pub open_with : Votes → History → History → LearnerInEpoch
  open_with votes part learned = record { epoch = e; state = record { config = config; number = number; votes = votes; learned = part }; learned = learned }

  -- it heard n votes, and its epoch is open
  record IsOpen (n : ℕ) (w : LearnerInEpoch × List Stamped) : Type 0 where
    pub votes : Votes
    pub part : History
    pub learned : History
    pub is : w ≡ (open_with votes part learned, [])
    pub given : (i : ℕ) → i < n → vote_of votes r i ≡ Some u
    pub old : (i : ℕ) → n ≤ i → vote_of votes r i ≡ before i
    pub plain : first_checkpoint part ≡ None
    pub history : IsHistory part
    pub all_history : IsHistory learned
    pub from : (c : Command) → has part c ≡ true → (has p c ≡ true) ⊎ (has u c ≡ true)
    pub latest : 0 < n → (q : History) × (IsHistory q) × (part ≡ learned_with q (heard config.acceptors r (vote_of votes r)))
    pub shown : 0 < n → (c : Command) → has part c ≡ true → has learned c ≡ true

  -- ---- one vote

  held_are : (n : ℕ) (votes : Votes) → ((i : ℕ) → i < n → vote_of votes r i ≡ Some u) → ((i : ℕ) → n ≤ i → vote_of votes r i ≡ before i) → (i : ℕ) (v : History) → vote_of votes r i ≡ Some v → IsHistory v × ((c : Command) → has v c ≡ true → has u c ≡ true)
  held_are n votes given old i v h = elim (cases_lt i n) [
    | inl l ↦ let is : Some u ≡ Some v = sym (given i l) ∙ h in let same : u ≡ v = cc in (subst IsHistory same wu, λ c t. ap (λ x. has x c) same ∙ t)
    | inr l ↦ let is : before i ≡ Some v = sym (old i l) ∙ h in (fit.history i v is, λ c t. fit.below i v c is t)
  ]

  given_after : (n : ℕ) (votes : Votes) → ((i : ℕ) → i < n → vote_of votes r i ≡ Some u) → (i : ℕ) → i < suc n → vote_of (votes_held votes r n (Some u)) r i ≡ Some u
  given_after n votes given i l = elim (cases_eq i n) [
    | inl q ↦ vote_of-held votes r n u i ∙ ap (λ b. cond b (Some u) (vote_of votes r i)) (eq-eqb i n q)
    | inr q ↦ vote_of-held votes r n u i ∙ ap (λ b. cond b (Some u) (vote_of votes r i)) (ne_eqb i n q) ∙ given i (omega (arith, l, q))
  ]

  old_after : (n : ℕ) (votes : Votes) → ((i : ℕ) → n ≤ i → vote_of votes r i ≡ before i) → (i : ℕ) → suc n ≤ i → vote_of (votes_held votes r n (Some u)) r i ≡ before i
  old_after n votes old i l =
      vote_of-held votes r n u i ∙ ap (λ b. cond b (Some u) (vote_of votes r i)) (ne_eqb i n (λ q. omega (arith, l, q))) ∙ old i (omega (arith, l))

  abbrev part_after : Votes → History → History
  part_after votes part = learned_with part (heard config.acceptors r (vote_of votes r))

  takes_vote : (n : ℕ) (votes : Votes) (part learned : History) → n < config.acceptors → vote_of votes r n ≡ before n
      → take (open_with votes part learned) (vote n) ≡ learning (open_with (votes_held votes r n (Some u)) (part_after (votes_held votes r n (Some u)) part) learned) (first_checkpoint (part_after (votes_held votes r n (Some u)) part))
  takes_vote n votes part learned l was =
      (λ i. cond (eq-eqb e e refl i && lt-ltb n config.acceptors l i) (hearing (open_with votes part learned) (learner_take (record { config = config; number = number; votes = votes; learned = part }) (Voted r n u))) (open_with votes part learned, None))
      ∙ (λ i. hearing (open_with votes part learned) (cond (lt-ltb n config.acceptors l i) (table.hearing (record { config = config; number = number; votes = votes; learned = part }) r (votes_with votes r n u)) (record { config = config; number = number; votes = votes; learned = part })))
      ∙ (λ i. hearing (open_with votes part learned) (table.hearing (record { config = config; number = number; votes = votes; learned = part }) r (votes_held votes r n (newer (was i) u))))
      ∙ (λ i. hearing (open_with votes part learned) (table.hearing (record { config = config; number = number; votes = votes; learned = part }) r (votes_held votes r n (fit.next n i))))

  passes_vote : (n : ℕ) (state : LearnerState) (learned : History) → take (record { epoch = suc e; state = state; learned = learned }) (vote n) ≡ (record { epoch = suc e; state = state; learned = learned }, None)
  passes_vote n state learned =
      (λ i. cond (ne_eqb e (suc e) (λ q. omega (arith, q)) i && nat_lt n state.config.acceptors) (hearing (record { epoch = suc e; state = state; learned = learned }) (learner_take state (Voted r n u))) (record { epoch = suc e; state = state; learned = learned }, None))

  one_more : (n : ℕ) (w x : LearnerInEpoch × List Stamped) → n < config.acceptors → x ≡ ((take w.0 (vote n)).0, w.1 ++ option_to_list (take w.0 (vote n)).1) → IsOpen n w → IsOpen (suc n) x ⊎ HasClosed config e number u p x
  one_more n w x l step was = by (first_checkpoint next) refl where
    votes : Votes
    votes = votes_held was.votes r n (Some u)

    next : History
    next = part_after votes was.part

    given : (i : ℕ) → i < suc n → vote_of votes r i ≡ Some u
    given = given_after n was.votes was.given

    old : (i : ℕ) → suc n ≤ i → vote_of votes r i ≡ before i
    old = old_after n was.votes was.old

    are : AreHistories (vote_of votes r)
    are = λ i v h. (held_are (suc n) votes given old i v h).0

    heard_history : (v : History) → heard config.acceptors r (vote_of votes r) ≡ Some v → IsHistory v
    heard_history v h = (heard_is_from config.acceptors r (vote_of votes r) v are h).history

    history : IsHistory next
    history = with_is_history was.part _ was.history heard_history

    from : (c : Command) → has next c ≡ true → (has p c ≡ true) ⊎ (has u c ≡ true)
    from c t = with_from was.part (heard config.acceptors r (vote_of votes r)) c ((has p c ≡ true) ⊎ (has u c ≡ true)) was.history heard_history t (was.from c)
        (λ v h s. let f = (heard_is_from config.acceptors r (vote_of votes r) v are h).from c s in inr ((held_are (suc n) votes given old f.0 f.1 f.2).1 c f.3))

    then_is : x ≡ ((learning (open_with votes next was.learned) (first_checkpoint next)).0, option_to_list (learning (open_with votes next was.learned) (first_checkpoint next)).1)
    then_is = step ∙ (λ i. ((take (was.is i).0 (vote n)).0, (was.is i).1 ++ option_to_list (take (was.is i).0 (vote n)).1))
        ∙ (λ i. ((takes_vote n was.votes was.part was.learned l (was.old n (omega arith)) i).0, option_to_list (takes_vote n was.votes was.part was.learned l (was.old n (omega arith)) i).1))

    by : (o : Option Command) → first_checkpoint next ≡ o → IsOpen (suc n) x ⊎ HasClosed config e number u p x
    by None q = inl (record {
      votes = votes;
      part = next;
      learned = join was.learned next;
      is = then_is ∙ (λ i. ((learning (open_with votes next was.learned) (q i)).0, option_to_list (learning (open_with votes next was.learned) (q i)).1));
      given = given;
      old = old;
      plain = q;
      history = history;
      all_history = join_is_history was.learned next was.all_history history;
      from = from;
      latest = λ h. (was.part, was.history, refl);
      shown = λ h c t. has-join was.learned next was.all_history history c ∙ right_of (has was.learned c) (has next c) t;
    })
    by (Some z) q = inr (record {
      whole = next;
      first = z;
      learned = join was.learned (cut next);
      is = then_is ∙ (λ i. ((learning (open_with votes next was.learned) (q i)).0, option_to_list (learning (open_with votes next was.learned) (q i)).1));
      history = history;
      first_is = q;
      from = from;
    })

  stays : (n : ℕ) (w x : LearnerInEpoch × List Stamped) → x ≡ ((take w.0 (vote n)).0, w.1 ++ option_to_list (take w.0 (vote n)).1) → HasClosed config e number u p w → HasClosed config e number u p x
  stays n w x step was = record {
    whole = was.whole;
    first = was.first;
    learned = was.learned;
    is = step ∙ (λ i. ((take (was.is i).0 (vote n)).0, (was.is i).1 ++ option_to_list (take (was.is i).0 (vote n)).1))
        ∙ (λ i. ((passes_vote n (table.opening config number) was.learned i).0, (Final e number (cut was.whole) ∷ []) ++ option_to_list (passes_vote n (table.opening config number) was.learned i).1));
    history = was.history;
    first_is = was.first_is;
    from = was.from;
  }

  -- ---- all votes

  module _ (votes : Votes) (learned : History) (fresh : (i : ℕ) → vote_of votes r i ≡ before i) (plain : first_checkpoint p ≡ None) (wp : IsHistory p) (wl : IsHistory learned) where
    hears : (n : ℕ) → n ≤ config.acceptors → IsOpen n (run take (open_with votes p learned) (outs vote n)) ⊎ HasClosed config e number u p (run take (open_with votes p learned) (outs vote n))
    hears zero l = inl (record {
      votes = votes;
      part = p;
      learned = learned;
      is = refl;
      given = λ i h. absurd (omega (arith, h));
      old = λ i h. fresh i;
      plain = plain;
      history = wp;
      all_history = wl;
      from = λ c t. inl t;
      latest = λ h. absurd (omega (arith, h));
      shown = λ h. absurd (omega (arith, h));
    })
    hears (suc n) l =
        let before = run take (open_with votes p learned) (outs vote n) in
        let after = run take (open_with votes p learned) (outs vote (suc n)) in
        let step = run-snoc take (open_with votes p learned) (outs vote n) (vote n) in
        elim (hears n (omega (arith, l))) [
          | inl w ↦ one_more n before after (omega (arith, l)) step w
          | inr s ↦ inr (stays n before after step s)
        ]

    -- where its epoch is open after all votes, it shows the value, which has no checkpoint
    shows_all : (w : LearnerInEpoch × List Stamped) → IsOpen config.acceptors w → (c : Command) → has u c ≡ true → (s : IsOpen config.acceptors w) × (has s.part c ≡ true)
    shows_all w was c t =
        let are : AreHistories (vote_of was.votes r) = λ i v h. (held_are config.acceptors was.votes was.given was.old i v h).0 in
        let whole : HeardWhole config.acceptors (masks config.acceptors (quorum_size config.acceptors r.mode)) (vote_of was.votes r) u =
        all_alike_are_heard config.acceptors (quorum_size config.acceptors r.mode) (vote_of was.votes r) u wu are (omega (arith, some, size)) (omega (arith, size)) was.given in
        let latest = was.latest some in
        let history : IsHistory whole.value = (heard_is_from config.acceptors r (vote_of was.votes r) whole.value are whole.is).history in
        (was, ap (λ h. has h c) (latest.2 ∙ ap (learned_with latest.0) whole.is) ∙ has-join latest.0 whole.value latest.1 history c ∙ right_of (has latest.0 c) (has whole.value c) (whole.whole c t))

    pub all_shown : first_checkpoint u ≡ None → HasShown config.acceptors e r before u (run take (open_with votes p learned) (outs vote config.acceptors))
    all_shown plain_u = elim (hears config.acceptors (omega arith)) [
      | inl w ↦ record {
        epoch = ap (λ (x : LearnerInEpoch × List Stamped). x.0.epoch) w.is;
        given = λ i l. ap (λ (x : LearnerInEpoch × List Stamped). vote_of x.0.state.votes r i) w.is ∙ w.given i l;
        old = λ i l. ap (λ (x : LearnerInEpoch × List Stamped). vote_of x.0.state.votes r i) w.is ∙ w.old i l;
        sent = ap (λ (x : LearnerInEpoch × List Stamped). x.1) w.is;
        shown = λ c t. let s = shows_all _ w c t in ap (λ (x : LearnerInEpoch × List Stamped). has x.0.learned c) s.0.is ∙ s.0.shown some c s.1;
      }
      | inr s ↦ absurd (
          let z = found_is_first s.whole s.history s.first s.first_is in
          elim (s.from s.first z.there) [
            | inl a ↦ never s.first.draft.checkpoint z.marked (none_has_none p wp plain s.first a)
            | inr a ↦ never s.first.draft.checkpoint z.marked (none_has_none u wu plain_u s.first a)
          ])
    ]

    pub all_closed : (z : Command) → first_checkpoint u ≡ Some z → HasClosed config e number u p (run take (open_with votes p learned) (outs vote config.acceptors))
    all_closed z first_u = elim (hears config.acceptors (omega arith)) [
      | inl w ↦ absurd (
          let f = found_is_first u wu z first_u in
          let s = shows_all _ w z f.there in
          never z.draft.checkpoint f.marked (none_has_none s.0.part s.0.history s.0.plain z s.1))
      | inr s ↦ s
    ]
