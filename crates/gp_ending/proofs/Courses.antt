-- Which round was begun last in each epoch before each place of a run whose leader adapts.
use Rattle.std.proofs.Common.{◌≡◌, inl, inr, ℕ, suc, ◌+◌, ◌<◌, Bool, true, List, [], ◌∷◌, ◌++◌, take, drop, Option, Some, None, refl, sym, ap, ◌∙◌, subst, arith}
use Rattle.std.specs.Prelude.{slice_get}
use Rattle.std.proofs.lemmas.List.Elements.{All-contains_itself}
use Rattle.std.proofs.lemmas.Bool.Decides.{eqb_tells}
use Rattle.gp_round.specs.Counts.{Counts}
use Rattle.gp_round.specs.declared.round.Mode.{Mode}
use Rattle.gp_round.specs.declared.round.Mode.TheVariants.{Single, Multi, Fast}
use Rattle.gp_round.specs.declared.round.Round.{Round}
use Rattle.gp_msg.specs.declared.event.Event.TheVariants.{Begin}
use Rattle.gp_msg.specs.declared.record.Record.{Record}
use Rattle.gp_msg.specs.Messages.{Entry}
use Rattle.gp_run.specs.Messages.{messages}
use Rattle.gp_run.specs.Legal.{Legal}
use Rattle.gp_run.specs.Runs.{newest_first}
use Rattle.gp_work.specs.Doing.{ProcessState}
use Rattle.gp_collide.specs.Values.{HasIncompatibleValues}
use Rattle.gp_collide.specs.Watched.{watched}
use Rattle.gp_collide.specs.Clashes.{HasClash}
use Rattle.gp_collide.proofs.ClashesSeen.{clash_of_values}
use Rattle.gp_adapt.proofs.SingleRounds.{single_is_calm}
use Rattle.gp_phase.specs.declared.caller.Call.{Call}
use Rattle.gp_caller.specs.declared.policy.TheConstants.{LEADER}
use Rattle.gp_caller.specs.Adapting.{IsAdapted, MayFollow, NextMode, last_for, or_zero}
use Rattle.gp_caller.proofs.Following.{last_for_next}
use Rattle.gp_ending.specs.Begins.{leader, IsBeginAt, BeginsAt, HasFollowed}
use Rattle.gp_ending.specs.Adapting.{NoneBetween, IsLastBegun, ClashedBefore, ModeFollows, IsInCourseAt}
use Rattle.gp_ending.proofs.LastCalls.{last_there}
use Rattle.gp_ending.proofs.Places.{last_within}
use Rattle.gp_ending.proofs.Following.{leader_at, stands_here, stands_there, seen_legal, begins_there, NextCall, stood, clashed_since}
use Rattle.gp_ending.proofs.Walking.{none_quiet, none_behind, GoesOn, Stage, walked, call_at}

-- ---- the round that was begun last in an epoch

-- this round, if any, was begun last in epoch e before place k
abbrev pub IsLastOf : Counts → List Record → ℕ → ℕ → Option Round → Type 0
IsLastOf config list k e None = NoneBetween config list 0 k e
IsLastOf config list k e (Some q) = IsLastBegun config list k e q

none_longer : (config : Counts) (list : List Record) (i k e : ℕ) → ((r : Round) → BeginsAt config list k e r → ⊥) → NoneBetween config list i k e → NoneBetween config list i (suc k) e
none_longer config list i k e none h place r from below b = elim (last_within place k below) [
  | inl before ↦ h place r from before b
  | inr here ↦ none r (subst (λ n. BeginsAt config list n e r) here b)
]

last_longer : (config : Counts) (list : List Record) (k e : ℕ) (o : Option Round) → ((r : Round) → BeginsAt config list k e r → ⊥) → IsLastOf config list k e o → IsLastOf config list (suc k) e o
last_longer config list k e None none h = none_longer config list 0 k e none h
last_longer config list k e (Some q) none h = record {
  place = h.place;
  before = let b = h.before in omega arith;
  begins = h.begins;
  last = none_longer config list (h.place + 1) k e none h.last;
}

last_now : (config : Counts) (list : List Record) (k e : ℕ) (q : Round) → BeginsAt config list k e q → IsLastBegun config list (suc k) e q
last_now config list k e q b = record {
  place = k;
  before = omega arith;
  begins = b;
  last = λ place r from below again. absurd (omega (arith, from, below));
}

-- ---- the mode of the next round

-- a single round has not clashed in a legal run
pub no_clash_of_single : (config : Counts) → 0 < config.acceptors → (es : List Entry) → Legal config es → (e : ℕ) (q : Round) → q.mode ≡ Single → HasClash (watched (e, q) (messages es)) → ⊥
no_clash_of_single config some es legal e q single h =
    h.incompatible (single_is_calm config some es legal e q single (messages es) (All-contains_itself (messages es)) h.one h.other h.left h.right h.kept_left h.kept_right)

mode_follows : (m : Mode) (clashed : Bool) (next : Mode) (Clash : Type 0) → NextMode m clashed next → (clashed ≡ true → Clash) → (m ≡ Single → clashed ≡ true → ⊥) → ModeFollows m Clash next
mode_follows Fast clashed next Clash h told never = (h.1, told h.0)
mode_follows Multi clashed next Clash h told never = elim h [ inl s ↦ inl (s.1, told s.0) | inr fast ↦ inr fast.1 ]
mode_follows Single clashed next Clash h told never = elim h [ inl s ↦ absurd (never refl s.0) | inr fast ↦ fast.1 ]

-- what may follow the round that was begun last stands in course
in_course : (config : Counts) (list : List Record) (k e : ℕ) (o : Option Round) (clashed : Bool) (r : Round) → MayFollow o clashed r → IsLastOf config list k e o
    → (clashed ≡ true → ClashedBefore list k e (or_zero o)) → ((or_zero o).mode ≡ Single → clashed ≡ true → ⊥) → IsInCourseAt config list k e r
in_course config list k e None clashed r may last told never = inl (last, may)
in_course config list k e (Some q) clashed r may last told never = inr (record {
  previous = q;
  begun = last;
  count = may.count;
  lead = may.lead;
  mode = mode_follows q.mode clashed r.mode (ClashedBefore list k e q) may.mode told never;
})

module _ (p : ProcessState) (calls : List Call) (f : HasFollowed IsAdapted p calls) where
  abbrev config : Counts
  config = p.config

  abbrev X : List Record
  X = p.list

  -- before place k the round that was called last for an epoch is the one that was begun last there
  abbrev pub IsUpToDate : ℕ → List Call → List Record → Type 0
  IsUpToDate k done pre = (e : ℕ) → IsLastOf config X k e (last_for e done)

  longer : (k : ℕ) (done : List Call) (pre more : List Record) → ((e : ℕ) (r : Round) → BeginsAt config X k e r → ⊥) → IsUpToDate k done pre → IsUpToDate (suc k) done more
  longer k done pre more none h e = last_longer config X k e (last_for e done) (none e) (h e)

  -- ---- the leader begins a round

  module _ (pre : List Record) (done left : List Call) (r : Round) (n : NextCall p calls f pre done left r) where
    abbrev may : IsAdapted config leader done n.meant.seen (Some n.call)
    may = n.meant.may

    -- the call was made for the epoch in which the leader is
    epoch_is : n.call.epoch ≡ (leader_at config pre).epoch
    epoch_is = may.may.0 ∙ sym (stood p calls f pre done left r n may.epoch may.own may.stands).0

    follows : MayFollow (last_for may.epoch done) may.clashed r
    follows = subst (MayFollow (last_for may.epoch done) may.clashed) (sym n.round_is) may.may.1

    clash_seen : may.clashed ≡ true → HasIncompatibleValues (may.epoch, or_zero (last_for may.epoch done)) (messages (newest_first pre))
    clash_seen told = clashed_since p calls f pre done left r n may.epoch (or_zero (last_for may.epoch done))
        (clash_of_values (may.epoch, or_zero (last_for may.epoch done)) (messages (newest_first n.meant.seen)) (may.clash.0 told))

    never_single : 0 < config.acceptors → (or_zero (last_for may.epoch done)).mode ≡ Single → may.clashed ≡ true → ⊥
    never_single some single told =
        no_clash_of_single config some (newest_first n.meant.seen) (seen_legal p calls f done n.call n.meant) may.epoch (or_zero (last_for may.epoch done)) single (may.clash.0 told)

  -- the round that begins at place k is the last one of its epoch from then on, and in other epochs none begins there
  begun : (k : ℕ) (x : Record) → slice_get X k ≡ Some x → x.node ≡ leader → (r : Round) → x.event ≡ Begin LEADER r → (done left : List Call) (n : NextCall p calls f (take k X) done left r)
      → IsUpToDate k done (take k X) → IsUpToDate (suc k) (done ++ n.call ∷ []) (take k X ++ x ∷ [])
  begun k x there mine r is done left n h e = elim (eqb_tells n.call.epoch e) [
    | inl t ↦ subst (IsLastOf config X (suc k) e) (sym (last_for_next e done n.call t.1))
        (subst (λ i. IsLastBegun config X (suc k) i n.call.round) (sym (epoch_is (take k X) done left r n) ∙ t.1) (last_now config X k (leader_at config (take k X)).epoch n.call.round here))
    | inr t ↦ subst (IsLastOf config X (suc k) e) (sym (last_there e done n.call t.1))
        (last_longer config X k e (last_for e done) (λ q b. t.1 (epoch_is (take k X) done left r n ∙ (stands_there p calls f (take k X) e b.own n.legal b.stands).0)) (h e))
  ]
    where
      here : BeginsAt config X k (leader_at config (take k X)).epoch n.call.round
      here = record {
        at = record { begun = x; there = there; begins = is ∙ ap (λ q. Begin LEADER q) n.round_is };
        by_leader = mine;
        own = (leader_at config (take k X)).state.round;
        stands = stands_here p calls f (take k X) n.legal;
      }

  pub up_to_date : GoesOn p calls f IsUpToDate
  up_to_date = record {
    start = λ e place r from below b. absurd (omega (arith, below));
    quiet = λ k x there is none done h. longer k done (take k X) (take k X ++ x ∷ []) (none_quiet config X k x there is) h;
    begun = begun;
    behind = λ k none done h. longer k done (take k X) (take k X) (none_behind config X k none) h;
  }

  -- **which rounds were begun last before place k**
  pub course : (k : ℕ) → Stage p calls f IsUpToDate k (take k X) (drop k X)
  course k = walked p calls f IsUpToDate up_to_date k

  -- ---- each round that is begun stands in course

  in_course_at : 0 < config.acceptors → (k e : ℕ) (r : Round) → BeginsAt config X k e r → IsInCourseAt config X k e r
  in_course_at some k e r b = subst (λ i. IsInCourseAt config X k i r) (sym (stood p calls f (take k X) s.done s.left r n m.epoch m.own m.stands).0 ∙ (stands_there p calls f (take k X) e b.own n.legal b.stands).0)
      (in_course config X k m.epoch (last_for m.epoch s.done) m.clashed r
      (follows (take k X) s.done s.left r n) (s.holds m.epoch) (clash_seen (take k X) s.done s.left r n) (never_single (take k X) s.done s.left r n some))
    where
      s : Stage p calls f IsUpToDate k (take k X) (drop k X)
      s = course k

      n : NextCall p calls f (take k X) s.done s.left r
      n = call_at p calls f IsUpToDate up_to_date k e r b s

      m : IsAdapted config leader s.done n.meant.seen (Some n.call)
      m = n.meant.may

  pub each_in_course : 0 < config.acceptors → (place c : ℕ) (r : Round) → IsBeginAt X place c r → (e : ℕ) × BeginsAt config X place e r × IsInCourseAt config X place e r
  each_in_course some place c r h =
      let b = begins_there p calls f place c r h in
      ((leader_at config (take place X)).epoch, b, in_course_at some place (leader_at config (take place X)).epoch r b)
