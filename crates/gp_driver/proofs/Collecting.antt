-- A coordinator takes the answers of all acceptors to its round, and sends one value.
use Rattle.std.proofs.Common.{◌≡◌, ℕ, zero, suc, ◌+◌, ◌<◌, ◌≤◌, Bool, true, false, cond, ◌&&◌, List, [], ◌∷◌, ◌++◌, length, Some, None, inl, inr, refl, sym, ap, ◌∙◌, subst, arith}
use Rattle.std.specs.Prelude.{Option, not, nat_lt, slice_set, ◌⊎◌}
use Rattle.std.specs.FinSet as set
use Rattle.std.specs.List.{list_any}
use Rattle.std.specs.Option.{option_to_list}
use Rattle.std.proofs.lemmas.Bool.{eq-eqb, lt-ltb, le-ltb, cases_eq, cases_lt, true≢false}
use Rattle.std.proofs.lemmas.List.{get_or-set_same, get_or-set_other, length-set}
use Rattle.gp_command.specs.Conflict.{same}
use Rattle.gp_command.specs.Order.{command_cmp}
use Rattle.gp_command.specs.declared.command.Command.{Command}
use Rattle.gp_history.specs.History.{History, IsHistory, has, pushes}
use Rattle.gp_history.proofs.Tests.{right_of, one_of}
use Rattle.gp_round.specs.Counts.{Counts}
use Rattle.gp_round.specs.Configs.{majority}
use Rattle.gp_round.specs.Sets.{members}
use Rattle.gp_round.specs.declared.round.Round.{Round}
use Rattle.gp_safe.specs.Choice.{Reply, is_missing, answers_by, safe_choice}
use Rattle.gp_msg.specs.Messages.{Answered, Sent, Stamped, InEpoch}
use Rattle.gp_coordinator.specs.Replies.{unanswered, reply_at}
use Rattle.gp_coordinator.specs.Table.{is_enough, answered}
use Rattle.gp_coordinator.proofs.Replying.{length_unanswered}
use Rattle.gp_coordinator.specs.Epochs.{CoordinatorInEpoch, take, stepped}
use Rattle.gp_agreement.proofs.Coordinators.{unanswered_there}
use Rattle.gp_round.proofs.Orders.{same_round_itself}
use Rattle.gp_driver.proofs.Lists.{outs}
use Rattle.gp_driver.proofs.Sweeping.{run, run-snoc}
use Rattle.gp_driver.proofs.Values.{pushes_is_history, has-pushes, IsOfReplies, safe_choice_is_from}

all_members : (p : ℕ → Bool) (n : ℕ) → ((i : ℕ) → i < n → p i ≡ true) → members p n ≡ n
all_members p zero h = refl
all_members p (suc n) h =
    let m = all_members p n (λ i l. h i (omega (arith, l))) in
    (λ j. cond (h n (omega arith) j) 1 0 + members p n) ∙ omega (arith, m)

-- the epoch, the round, the coordinator's number, the configuration, what acceptors answer, what is pending and what is done
module _ (e : ℕ) (r : Round) (number : ℕ) (config : Counts) (reply : ℕ → Reply) (are : (i : ℕ) → i < config.acceptors → IsHistory (reply i).vote) (pending : List Command) (done : set.FinSet command_cmp) (some : 0 < config.acceptors) where
  abbrev pub answer_of : ℕ → Stamped
  answer_of i = InEpoch e (Answered r i (reply i).round (reply i).vote)

  -- it waits for more answers, or it has a value
  abbrev pub with_answers : List (Option Reply) → Option History → CoordinatorInEpoch
  with_answers xs o = record {
    epoch = e;
    state = record { config = config; number = number; round = r; awake = true; answers = xs; value = o; pending = pending };
    done = done;
  }

  record Waits (n : ℕ) (u : CoordinatorInEpoch × List Stamped) : Type 0 where
    pub answers : List (Option Reply)
    pub is : u ≡ (with_answers answers None, [])
    pub given : (i : ℕ) → i < n → reply_at answers i ≡ Some (reply i)
    pub missing : (i : ℕ) → n ≤ i → reply_at answers i ≡ None
    pub places : length answers ≡ config.acceptors
    pub few : 0 < n → is_enough config.acceptors (reply_at answers) ≡ false

  -- it has sent its value, in which all that is pending is, and otherwise only what acceptors voted
  pub record HasSent (u : CoordinatorInEpoch × List Stamped) : Type 0 where
    pub value : History
    pub answers : List (Option Reply)
    pub is : u ≡ (with_answers answers (Some value), InEpoch e (Sent r number value) ∷ [])
    pub history : IsHistory value
    pub whole : (c : Command) → list_any (same c) pending ≡ true → has value c ≡ true
    pub from : (c : Command) → has value c ≡ true → (list_any (same c) pending ≡ true) ⊎ ((i : ℕ) × (i < config.acceptors) × (has (reply i).vote c ≡ true))

  -- ---- one answer

  abbrev value_of : List (Option Reply) → History
  value_of xs = pushes (safe_choice config.acceptors (reply_at xs)) pending

  abbrev counted : List (Option Reply) → CoordinatorInEpoch × Option Stamped
  counted xs = cond (is_enough config.acceptors (reply_at xs)) (with_answers xs (Some (value_of xs)), Some (InEpoch e (Sent r number (value_of xs)))) (with_answers xs None, None)

  takes_answer : (n : ℕ) (xs : List (Option Reply)) → n < config.acceptors → reply_at xs n ≡ None → take (with_answers xs None) (answer_of n) ≡ counted (slice_set xs n (Some (reply n)))
  takes_answer n xs l missing =
      (λ i. cond (eq-eqb e e refl i) (stepped (with_answers xs None)
      (cond (same_round_itself r i && true && lt-ltb n config.acceptors l i && is_missing (missing i)) (answered (record { config = config; number = number; round = r; awake = true; answers = slice_set xs n (Some (reply n)); value = None; pending = pending })) ((with_answers xs None).state, None)))
      (with_answers xs None, None))
      ∙ by (is_enough config.acceptors (reply_at (slice_set xs n (Some (reply n)))))
    where
      ys : List (Option Reply)
      ys = slice_set xs n (Some (reply n))

      by : (b : Bool) → stepped (with_answers xs None) (cond b (record { config = config; number = number; round = r; awake = true; answers = slice_set xs n (Some (reply n)); value = Some (value_of (slice_set xs n (Some (reply n)))); pending = pending }, Some (Sent r number (value_of (slice_set xs n (Some (reply n))))))
          (record { config = config; number = number; round = r; awake = true; answers = slice_set xs n (Some (reply n)); value = None; pending = pending }, None))
          ≡ cond b (with_answers (slice_set xs n (Some (reply n))) (Some (value_of (slice_set xs n (Some (reply n))))), Some (InEpoch e (Sent r number (value_of (slice_set xs n (Some (reply n))))))) (with_answers (slice_set xs n (Some (reply n))) None, None)
      by true = refl
      by false = refl

  passes_answer : (n : ℕ) (xs : List (Option Reply)) (v : History) → take (with_answers xs (Some v)) (answer_of n) ≡ (with_answers xs (Some v), None)
  passes_answer n xs v =
      (λ i. cond (eq-eqb e e refl i) (stepped (with_answers xs (Some v))
      (cond (same_round_itself r i && false && nat_lt n config.acceptors && is_missing (reply_at xs n)) (answered (record { config = config; number = number; round = r; awake = true; answers = slice_set xs n (Some (reply n)); value = Some v; pending = pending })) ((with_answers xs (Some v)).state, None)))
      (with_answers xs (Some v), None))

  -- ---- what was given

  given_after : (n : ℕ) (xs : List (Option Reply)) → n < length xs → ((i : ℕ) → i < n → reply_at xs i ≡ Some (reply i)) → (i : ℕ) → i < suc n → reply_at (slice_set xs n (Some (reply n))) i ≡ Some (reply i)
  given_after n xs l given i h = elim (cases_eq i n) [
    | inl q ↦ subst (λ j. reply_at (slice_set xs n (Some (reply n))) j ≡ Some (reply j)) (sym q) (get_or-set_same xs n (Some (reply n)) None l)
    | inr q ↦ get_or-set_other xs n i (Some (reply n)) None q ∙ given i (omega (arith, h, q))
  ]

  missing_after : (n : ℕ) (xs : List (Option Reply)) → ((i : ℕ) → n ≤ i → reply_at xs i ≡ None) → (i : ℕ) → suc n ≤ i → reply_at (slice_set xs n (Some (reply n))) i ≡ None
  missing_after n xs missing i h = get_or-set_other xs n i (Some (reply n)) None (λ q. omega (arith, h, q)) ∙ missing i (omega (arith, h))

  replies_are : (n : ℕ) (xs : List (Option Reply)) → n ≤ config.acceptors → ((i : ℕ) → i < n → reply_at xs i ≡ Some (reply i)) → ((i : ℕ) → n ≤ i → reply_at xs i ≡ None) → (i : ℕ) (a : Reply) → reply_at xs i ≡ Some a → (i < config.acceptors) × (reply i ≡ a)
  replies_are n xs l given missing i a h = elim (cases_lt i n) [
    | inl q ↦ (omega (arith, q, l), let is : Some (reply i) ≡ Some a = sym (given i q) ∙ h in cc)
    | inr q ↦ absurd (let bad : None ≡ Some a = sym (missing i q) ∙ h in cc)
  ]

  sends : (n : ℕ) (xs : List (Option Reply)) (u : CoordinatorInEpoch × List Stamped) → n ≤ config.acceptors → ((i : ℕ) → i < n → reply_at xs i ≡ Some (reply i)) → ((i : ℕ) → n ≤ i → reply_at xs i ≡ None)
      → u ≡ (with_answers xs (Some (value_of xs)), InEpoch e (Sent r number (value_of xs)) ∷ []) → HasSent u
  sends n xs u l given missing is =
      let choice : IsOfReplies (reply_at xs) (safe_choice config.acceptors (reply_at xs)) =
      safe_choice_is_from (reply_at xs) (λ i a h. let q = replies_are n xs l given missing i a h in subst (λ (x : Reply). IsHistory x.vote) q.1 (are i q.0)) config.acceptors in
      record {
        value = value_of xs;
        answers = xs;
        is = is;
        history = pushes_is_history (safe_choice config.acceptors (reply_at xs)) pending choice.history;
        whole = λ c t. has-pushes (safe_choice config.acceptors (reply_at xs)) pending c choice.history ∙ right_of (has (safe_choice config.acceptors (reply_at xs)) c) (list_any (same c) pending) t;
        from = λ c t. one_of (has (safe_choice config.acceptors (reply_at xs)) c) (list_any (same c) pending) (sym (has-pushes (safe_choice config.acceptors (reply_at xs)) pending c choice.history) ∙ t)
            (λ s. let f = choice.from c s in let q = replies_are n xs l given missing f.0 f.1 f.2 in inr (f.0, q.0, ap (λ (x : Reply). has x.vote c) q.1 ∙ f.3))
            (λ s. inl s);
      }

  -- ---- one answer after another

  one_more : (n : ℕ) (u w : CoordinatorInEpoch × List Stamped) → n < config.acceptors → w ≡ ((take u.0 (answer_of n)).0, u.1 ++ option_to_list (take u.0 (answer_of n)).1) → Waits n u → Waits (suc n) w ⊎ HasSent w
  one_more n u w l step was = by (is_enough config.acceptors (reply_at ys)) refl where
    ys : List (Option Reply)
    ys = slice_set was.answers n (Some (reply n))

    here : take u.0 (answer_of n) ≡ counted ys
    here = ap (λ (x : CoordinatorInEpoch × List Stamped). take x.0 (answer_of n)) was.is ∙ takes_answer n was.answers l (was.missing n (omega arith))

    then_is : w ≡ ((counted ys).0, option_to_list (counted ys).1)
    then_is = step ∙ (λ i. ((here i).0, (was.is i).1 ++ option_to_list (here i).1))

    given : (i : ℕ) → i < suc n → reply_at ys i ≡ Some (reply i)
    given = given_after n was.answers (let p = was.places in omega (arith, p, l)) was.given

    missing : (i : ℕ) → suc n ≤ i → reply_at ys i ≡ None
    missing = missing_after n was.answers was.missing

    by : (b : Bool) → is_enough config.acceptors (reply_at ys) ≡ b → Waits (suc n) w ⊎ HasSent w
    by true q = inr (sends (suc n) ys w l given missing (then_is ∙ (λ i. ((cond {A = CoordinatorInEpoch × Option Stamped} (q i) (with_answers ys (Some (value_of ys)), Some (InEpoch e (Sent r number (value_of ys)))) (with_answers ys None, None)).0, option_to_list (cond {A = CoordinatorInEpoch × Option Stamped} (q i) (with_answers ys (Some (value_of ys)), Some (InEpoch e (Sent r number (value_of ys)))) (with_answers ys None, None)).1))))
    by false q = inl (record {
      answers = ys;
      is = then_is ∙ (λ i. ((cond {A = CoordinatorInEpoch × Option Stamped} (q i) (with_answers ys (Some (value_of ys)), Some (InEpoch e (Sent r number (value_of ys)))) (with_answers ys None, None)).0, option_to_list (cond {A = CoordinatorInEpoch × Option Stamped} (q i) (with_answers ys (Some (value_of ys)), Some (InEpoch e (Sent r number (value_of ys)))) (with_answers ys None, None)).1));
      given = given;
      missing = missing;
      places = length-set was.answers n (Some (reply n)) ∙ was.places;
      few = λ h. q;
    })

  stays : (n : ℕ) (u w : CoordinatorInEpoch × List Stamped) → w ≡ ((take u.0 (answer_of n)).0, u.1 ++ option_to_list (take u.0 (answer_of n)).1) → HasSent u → HasSent w
  stays n u w step was = record {
    value = was.value;
    answers = was.answers;
    is = step ∙ (λ i. ((take (was.is i).0 (answer_of n)).0, (was.is i).1 ++ option_to_list (take (was.is i).0 (answer_of n)).1)) ∙ (λ i. ((passes_answer n was.answers was.value i).0, (InEpoch e (Sent r number was.value) ∷ []) ++ option_to_list (passes_answer n was.answers was.value i).1));
    history = was.history;
    whole = was.whole;
    from = was.from;
  }

  collects : (n : ℕ) → n ≤ config.acceptors → Waits n (run take (with_answers (unanswered config.acceptors) None) (outs answer_of n)) ⊎ HasSent (run take (with_answers (unanswered config.acceptors) None) (outs answer_of n))
  collects zero l = inl (record {
    answers = unanswered config.acceptors;
    is = refl;
    given = λ i h. absurd (omega (arith, h));
    missing = λ i h. unanswered_there config.acceptors i;
    places = length_unanswered config.acceptors;
    few = λ h. absurd (omega (arith, h));
  })
  collects (suc n) l =
      let before = run take (with_answers (unanswered config.acceptors) None) (outs answer_of n) in
      let after = run take (with_answers (unanswered config.acceptors) None) (outs answer_of (suc n)) in
      let step = run-snoc take (with_answers (unanswered config.acceptors) None) (outs answer_of n) (answer_of n) in
      elim (collects n (omega (arith, l))) [
        | inl w ↦ one_more n before after (omega (arith, l)) step w
        | inr s ↦ inr (stays n before after step s)
      ]

  all_answered : (u : CoordinatorInEpoch × List Stamped) → Waits config.acceptors u → ⊥
  all_answered u w = true≢false (sym enough ∙ w.few some) where
    everyone_did : members (answers_by (reply_at w.answers)) config.acceptors ≡ config.acceptors
    everyone_did = all_members (answers_by (reply_at w.answers)) config.acceptors (λ i l. ap (λ o. not (is_missing o)) (w.given i l))

    enough : is_enough config.acceptors (reply_at w.answers) ≡ true
    enough = ap (λ m. not (nat_lt m (majority config.acceptors))) everyone_did ∙ ap not (le-ltb config.acceptors (majority config.acceptors) (omega (arith, some)))

  -- with all answers it has sent its value
  pub all_collected : HasSent (run take (with_answers (unanswered config.acceptors) None) (outs answer_of config.acceptors))
  all_collected = elim (collects config.acceptors (omega arith)) [ inl w ↦ absurd (all_answered _ w) | inr s ↦ s ]
