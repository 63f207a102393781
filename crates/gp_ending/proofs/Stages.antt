-- What the leader has begun before each place of a run in which it followed its calls.
use Rattle.std.proofs.Common.{◌≡◌, inl, inr, ℕ, suc, ◌<◌, ◌≤◌, List, [], ◌∷◌, ◌++◌, take, drop, Option, Some, None, refl, sym, ap, ◌∙◌, subst, arith}
use Rattle.std.specs.Prelude.{slice_get}
use Rattle.std.proofs.lemmas.Bool.Decides.{eqb_tells}
use Rattle.gp_round.specs.Counts.{Counts}
use Rattle.gp_round.specs.declared.round.Round.{Round}
use Rattle.gp_msg.specs.declared.event.Event.TheVariants.{Begin}
use Rattle.gp_msg.specs.declared.record.Record.{Record}
use Rattle.gp_msg.specs.Messages.{Stamped, InEpoch, Asked, entry_of}
use Rattle.gp_coordinator.specs.Epochs as coordinator
use Rattle.gp_coordinator.specs.Epochs.{CoordinatorInEpoch}
use Rattle.gp_run.specs.Messages.{messages}
use Rattle.gp_msg.specs.Nodes.{node_of}
use Rattle.gp_run.specs.States.{coordinator_at, coordinator_acts}
use Rattle.gp_run.specs.Runs.{newest_first}
use Rattle.gp_run.proofs.Choices.{with_message}
use Rattle.gp_run.proofs.Others.{coordinator_rests}
use Rattle.gp_run.proofs.Telling.{entries-push}
use Rattle.gp_cstructs.specs.CStructs.{Among}
use Rattle.gp_cstructs.proofs.Lists.{get_among}
use Rattle.gp_work.specs.Doing.{ProcessState}
use Rattle.gp_phase.specs.declared.caller.Call.{Call}
use Rattle.gp_caller.specs.declared.policy.TheConstants.{LEADER}
use Rattle.gp_caller.specs.Calling.{IsCalled, call_in, called_for}
use Rattle.gp_ending.specs.Begins.{leader, BeginsAt, IsBegun, HasFollowed}
use Rattle.gp_ending.proofs.Asking.{asked_or_begun}
use Rattle.gp_ending.proofs.Turns.{round_at, IsOfTurn, turn_is, called_here, called_there, called_more}
use Rattle.gp_ending.proofs.Places.{split_place, last_within}
use Rattle.gp_ending.proofs.Raising.{IsInTurn, AreAsked, asked_more, in_turn_begun, in_turn_took}
use Rattle.gp_ending.proofs.Following.{begin_event, some_is, leader_at, stands_here, stands_there, follows_pre, no_other, NextCall}
use Rattle.gp_ending.proofs.Calling.{Decided, decided}
use Rattle.gp_ending.proofs.Walking.{IsQuiet, none_quiet, none_behind, GoesOn, Stage, walked}

module _ (p : ProcessState) (calls : List Call) (f : HasFollowed IsCalled p calls) where
  abbrev config : Counts
  config = p.config

  abbrev X : List Record
  X = p.list

  -- the round is one that was called for this epoch
  pub record IsTurnOf (done : List Call) (e : ℕ) (r : Round) : Type 0 where
    pub turn : ℕ
    pub round_is : r ≡ round_at turn
    pub some : 0 < turn
    pub within : turn ≤ called_for e done

  -- before place k the leader has begun what was called, and nothing else, and its round is the highest of its epoch
  pub record IsOrderly (k : ℕ) (done : List Call) (pre : List Record) : Type 0 where
    pub turn : IsInTurn done (leader_at config pre)
    pub asked : AreAsked done (messages (newest_first pre))
    pub past : (i e : ℕ) (r : Round) → i < k → BeginsAt config X i e r → IsTurnOf done e r
    pub made : (e n : ℕ) → 0 < n → n ≤ called_for e done → IsBegun config X e (round_at n)

  start : IsOrderly 0 [] []
  start = record {
    turn = record { round_is = refl; ahead = λ e l. refl };
    asked = λ e r m. absurd m;
    past = λ i e r l b. absurd (omega (arith, l));
    made = λ e n l m. absurd (omega (arith, l, m));
  }

  -- where nothing is begun, what was begun before stays
  past_more : (k : ℕ) (done : List Call) → ((e : ℕ) (r : Round) → BeginsAt config X k e r → ⊥) → ((i e : ℕ) (r : Round) → i < k → BeginsAt config X i e r → IsTurnOf done e r)
      → (i e : ℕ) (r : Round) → i < suc k → BeginsAt config X i e r → IsTurnOf done e r
  past_more k done none past i e r l b = elim (last_within i k l) [
    | inl before ↦ past i e r before b
    | inr here ↦ absurd (none e r (subst (λ n. BeginsAt config X n e r) here b))
  ]

  -- ---- one more record

  module _ (k : ℕ) (x : Record) (there : slice_get X k ≡ Some x) where
    abbrev pre : List Record
    pre = take k X

    abbrev post : List Record
    post = drop (suc k) X

    abbrev state : CoordinatorInEpoch
    state = leader_at config pre

    split : X ≡ pre ++ x ∷ post
    split = split_place X k x there

    turn_push : (done : List Call) → IsInTurn done (coordinator_acts LEADER state (messages (newest_first pre)) x.event).0 → IsInTurn done (leader_at config (pre ++ x ∷ []))
    turn_push done h = subst (λ es. IsInTurn done (coordinator_at config LEADER es)) (sym (entries-push pre x)) h

    -- what is asked for was asked for before, or is a round that the leader begins now
    asked_push : (done : List Call) → AreAsked done (messages (newest_first pre)) → ((r : Round) → x.event ≡ Begin LEADER r → (0 < called_for state.epoch done) × IsOfTurn r) → AreAsked done (messages (newest_first (pre ++ x ∷ [])))
    asked_push done h now e r m = elim (asked_or_begun config (newest_first pre) (entry_of x) e r (follows_pre p calls f pre post x split) (subst (λ es. Among (messages es) (InEpoch e (Asked r))) (entries-push pre x) m)) [
      | inl before ↦ h e r before
      | inr b ↦
          let by : b.c ≡ LEADER = no_other p calls f pre post x split b.c r b.event_is in
          let t = now r (b.event_is ∙ ap (λ c. Begin c r) by) in
          let same : state.epoch ≡ e = ap (λ c. (coordinator_at config c (newest_first pre)).epoch) (sym by) ∙ b.epoch_is in
          (subst (λ n. 0 < called_for n done) same t.0, t.1)
    ]

    -- ---- nothing is begun

    turn_stays : (done : List Call) → IsQuiet x → IsOrderly k done pre → IsInTurn done (coordinator_acts LEADER state (messages (newest_first pre)) x.event).0
    turn_stays done (inl other) s =
        subst (IsInTurn done) (sym (ap (λ (u : CoordinatorInEpoch × Option Stamped). u.0) (coordinator_rests LEADER state (messages (newest_first pre)) x.event (λ same. other (sym (of_event ∙ same)))))) s.turn
      where
        of_event : x.node ≡ node_of x.event
        of_event = (follows_pre p calls f pre post x split).own_node
    turn_stays done (inr t) s =
        subst (λ e. IsInTurn done (coordinator_acts LEADER state (messages (newest_first pre)) e).0) (sym t.1)
        (with_message (λ (u : CoordinatorInEpoch × Option Stamped). IsInTurn done u.0) (state, None) (coordinator.take state) (slice_get (messages (newest_first pre)) t.0) s.turn
        (λ m at_j. in_turn_took done (messages (newest_first pre)) s.asked state s.turn m (get_among (messages (newest_first pre)) t.0 m at_j)))

    quiet : IsQuiet x → ((r : Round) → x.event ≡ Begin LEADER r → ⊥) → (done : List Call) → IsOrderly k done pre → IsOrderly (suc k) done (pre ++ x ∷ [])
    quiet is none done s = record {
      turn = turn_push done (turn_stays done is s);
      asked = asked_push done s.asked (λ r begun. absurd (none r begun));
      past = past_more k done (none_quiet config X k x there is) s.past;
      made = s.made;
    }

    -- ---- the leader begins a round

    module _ (mine : x.node ≡ leader) (r : Round) (is : x.event ≡ Begin LEADER r) (before left : List Call) (n : NextCall p calls f pre before left r) (s : IsOrderly k before pre) where
      choice : Decided p calls f pre before n.call r state.epoch
      choice = decided p calls f pre before left r n s.turn

      abbrev call : Call
      call = call_in state.epoch r

      abbrev done : List Call
      done = before ++ call ∷ []

      one_more : called_for state.epoch done ≡ suc (called_for state.epoch before)
      one_more = called_here state.epoch r before

      here_begun : BeginsAt config X k state.epoch r
      here_begun = record {
        at = record { begun = x; there = there; begins = is };
        by_leader = mine;
        own = state.state.round;
        stands = stands_here p calls f pre n.legal;
      }

      past_then : (i e : ℕ) (q : Round) → i < suc k → BeginsAt config X i e q → IsTurnOf done e q
      past_then i e q l b = elim (last_within i k l) [
        | inl earlier ↦ let t = s.past i e q earlier b in record { turn = t.turn; round_is = t.round_is; some = t.some; within = let m = called_more e before (call ∷ []) in let w = t.within in omega arith }
        | inr last ↦ at_last (subst (λ n. BeginsAt config X n e q) last b)
      ]
        where
          at_last : BeginsAt config X k e q → IsTurnOf done e q
          at_last b =
              let there_is : b.at.begun ≡ x = some_is (sym b.at.there ∙ there) in
              let same : q ≡ r = (begin_event (sym b.at.begins ∙ ap (λ (y : Record). y.event) there_is ∙ is)).1 in
              let in_e : state.epoch ≡ e = (stands_there p calls f pre e b.own n.legal b.stands).0 in
              subst (λ n. IsTurnOf done n q) in_e (record {
                turn = suc (called_for state.epoch before);
                round_is = same ∙ choice.round_is;
                some = omega arith;
                within = let o = one_more in omega arith;
              })

      made_then : (e n : ℕ) → 0 < n → n ≤ called_for e done → IsBegun config X e (round_at n)
      made_then e n some within = elim (eqb_tells state.epoch e) [
        | inl t ↦ in_epoch (subst (λ m. n ≤ called_for m done) (sym t.1) within) t.1
        | inr t ↦ s.made e n some (subst (λ m. n ≤ m) (called_there e state.epoch r before t.1) within)
      ]
        where
          in_epoch : n ≤ called_for state.epoch done → state.epoch ≡ e → IsBegun config X e (round_at n)
          in_epoch w in_e = elim (last_within n (suc (called_for state.epoch before)) (let o = one_more in omega (arith, w))) [
            | inl less ↦ s.made e n some (subst (λ m. n ≤ called_for m before) in_e (omega (arith, less)))
            | inr last ↦ (k, subst (λ m. BeginsAt config X k m (round_at n)) in_e (subst (BeginsAt config X k state.epoch) (choice.round_is ∙ ap round_at (sym last)) here_begun))
          ]

      begun : IsOrderly (suc k) (before ++ n.call ∷ []) (pre ++ x ∷ [])
      begun = subst (λ c. IsOrderly (suc k) (before ++ c ∷ []) (pre ++ x ∷ [])) (sym choice.call_is) (record {
        turn = turn_push done (subst (λ e. IsInTurn done (coordinator_acts LEADER state (messages (newest_first pre)) e).0) (sym is) (in_turn_begun before state r choice.few choice.round_is s.turn));
        asked = asked_push done (asked_more before (call ∷ []) (messages (newest_first pre)) s.asked)
            (λ q again. (let o = one_more in omega arith, subst IsOfTurn ((begin_event (sym is ∙ again)).1) (subst IsOfTurn (sym choice.round_is) (turn_is (suc (called_for state.epoch before)) (omega arith)))));
        past = past_then;
        made = made_then;
      })

  -- ---- behind the last record

  behind : (k : ℕ) → slice_get X k ≡ None → (done : List Call) → IsOrderly k done (take k X) → IsOrderly (suc k) done (take k X)
  behind k none done s = record {
    turn = s.turn;
    asked = s.asked;
    past = past_more k done (none_behind config X k none) s.past;
    made = s.made;
  }

  pub orderly : GoesOn p calls f IsOrderly
  orderly = record { start = start; quiet = quiet; begun = begun; behind = behind }

  -- **what was begun before place k**
  pub stage : (k : ℕ) → Stage p calls f IsOrderly k (take k X) (drop k X)
  stage k = walked p calls f IsOrderly orderly k
