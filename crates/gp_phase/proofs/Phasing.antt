-- Phases, one after another.
use Rattle.std.proofs.Common.{◌≡◌, ◌≢◌, ℕ, zero, suc, ◌+◌, ◌<◌, ◌≤◌, Bool, true, false, cond, List, [], ◌∷◌, ◌++◌, length, take, set, get_or, refl, sym, ap, ◌∙◌, subst, inl, inr, arith, Option, Some, None, append_assoc, length-append, length-set, get_or-set_same, get_or-set_other}
use Rattle.std.specs.Prelude.{slice_get, IfSome}
use Rattle.std.specs.List.{All}
use Rattle.std.specs.Option.{option_to_list}
use Rattle.std.proofs.lemmas.List.{append-nil, map-append, take-append-le}
use Rattle.std.proofs.lemmas.Bool.Decides.{eqb_tells}
use Rattle.std.proofs.lemmas.Option.{slice_get_within}
use mathlib.Core.Logic.{dite}
use native.Mathlib.Decide.{ℕ_discrete}
use Rattle.gp_round.specs.declared.round.Round.{Round}
use Rattle.gp_round.specs.Counts.{Counts}
use Rattle.gp_msg.specs.declared.node.Node.{Node}
use Rattle.gp_msg.specs.declared.event.Event.{Event}
use Rattle.gp_msg.specs.declared.record.Record.{Record}
use Rattle.gp_work.specs.declared.faults.JobFault.{JobFault}
use Rattle.gp_work.specs.declared.job.Job.{Job}
use Rattle.gp_work.specs.declared.moves.Move.{Move}
use Rattle.gp_wire.specs.Own.{own_events}
use Rattle.gp_edge.specs.Faults.{Rose}
use Rattle.gp_work.specs.Doing.{ProcessState, posted, have, Goes, Posted}
use Rattle.gp_work.specs.declared.moves.Move.TheVariants as move
use Rattle.gp_work.specs.Moves.{event_of, AllFit, HasOffer}
use Rattle.gp_work.specs.Causes.{FaultCauses}
use Rattle.gp_work.specs.Jobs.{Caused, Done, Ends, IsReady, HasWorked}
use Rattle.gp_work.specs.declared.faults.JobFault.TheVariants.{NoMemory, Disk, Full, NotLog, Changed}
use Rattle.gp_msg.specs.Records.{messages_in}
use Rattle.gp_work.specs.Batches.{AreRead}
use Rattle.gp_work.proofs.Batching.{read_none, get_front, take_whole}
use Rattle.gp_work.proofs.Stretches.{goes_same, goes_on, rose_on, rose_then, posted_more}
use Rattle.gp_phase.specs.Deeds.{Tidy, takes_in, others_in, begins, begin_moves}
use Rattle.gp_phase.specs.declared.caller.Call.{Call}
use Rattle.gp_phase.specs.declared.phases.PhasesEnd.TheVariants as PhasesEnd
use Rattle.gp_phase.specs.Phases.{rounds, only_at, Going, FaultCause, Carried, Answers, IsMeant, HasBegun, IsToBegin, HasBegunAll, Follows, AreReady, IsNew, total, Finished, Asked}
use Rattle.gp_phase.proofs.Deeds.{tidy_on, tidy_looked, begins_append, done_made, no_offer}

-- a job that was done in a phase without a fault
pub done_of : (causes : FaultCauses) (p : ProcessState) (f : Bool) (first : List Move) (cursor : ℕ) (q : ProcessState) (g : Bool) (behind : ℕ) (fault : Option JobFault)
    → fault ≡ None → Ends causes p f first cursor q g behind fault → Done p f first cursor q g behind
done_of causes p f first cursor q g behind fault none e = subst (Ends causes p f first cursor q g behind) none e

-- ---- why the phases ended

pub not_quiet_fault : PhasesEnd.Fault ≡ PhasesEnd.Quiet → ⊥
not_quiet_fault e = cc

pub not_quiet_memory : PhasesEnd.NoMemory ≡ PhasesEnd.Quiet → ⊥
not_quiet_memory e = cc

pub not_fault_quiet : PhasesEnd.Quiet ≡ PhasesEnd.Fault → ⊥
not_fault_quiet e = cc

pub not_fault_memory : PhasesEnd.NoMemory ≡ PhasesEnd.Fault → ⊥
not_fault_memory e = cc

-- ---- a place of its own

module _ {A : Type 0} where
  pub only_here : (at i : ℕ) (xs : List A) → i ≡ at → only_at at i xs ≡ xs
  only_here at i xs e = elim (eqb_tells i at) [ inl t ↦ ap (λ b. cond b xs []) t.0 | inr t ↦ absurd (t.1 e) ]

  pub only_else : (at i : ℕ) (xs : List A) → i ≢ at → only_at at i xs ≡ []
  only_else at i xs n = elim (eqb_tells i at) [ inl t ↦ absurd (n t.1) | inr t ↦ ap (λ b. cond b xs []) t.0 ]

  pub only_none : (at i : ℕ) → only_at {A = A} at i [] ≡ []
  only_none at i = elim (eqb_tells i at) [ inl t ↦ ap (λ b. cond {A = List A} b [] []) t.0 | inr t ↦ ap (λ b. cond {A = List A} b [] []) t.0 ]

  only_append : (at i : ℕ) (xs ys : List A) → only_at at i (xs ++ ys) ≡ only_at at i xs ++ only_at at i ys
  only_append at i xs ys = dite (ℕ_discrete i at)
      (λ e. only_here at i (xs ++ ys) e ∙ (λ j. sym (only_here at i xs e) j ++ sym (only_here at i ys e) j))
      (λ n. only_else at i (xs ++ ys) n ∙ (λ j. sym (only_else at i xs n) j ++ sym (only_else at i ys n) j))

only_moves : (at i : ℕ) (rs : List Round) → begin_moves (only_at at i rs) ≡ only_at at i (begin_moves rs)
only_moves at i rs = dite (ℕ_discrete i at)
    (λ e. ap begin_moves (only_here at i rs e) ∙ sym (only_here at i (begin_moves rs) e))
    (λ n. ap begin_moves (only_else at i rs n) ∙ sym (only_else at i (begin_moves rs) n))

-- ---- lists of rounds

get_last : {A : Type 0} (xs : List A) (x y : A) (k : ℕ) → k ≡ length xs → slice_get (xs ++ x ∷ []) k ≡ Some y → x ≡ y
get_last xs x y k e h = some_is (sym (last xs x) ∙ ap (slice_get (xs ++ x ∷ [])) (sym e) ∙ h) where
  last : {A : Type 0} (xs : List A) (x : A) → slice_get (xs ++ x ∷ []) (length xs) ≡ Some x
  last [] x = refl
  last (y ∷ xs) x = last xs x

  some_is : {A : Type 0} {x y : A} → ◌≡◌ {A = Option A} (Some x) (Some y) → x ≡ y
  some_is e = cc

not_true : (f : Bool) → f ≡ false → f ≡ true → ⊥
not_true true a b = cc
not_true false a b = cc

pub was_false : (f g : Bool) → (f ≡ true → g ≡ true) → g ≡ false → f ≡ false
was_false true g h e = absurd (not_true g e (h refl))
was_false false g h e = refl

-- no job has a fault after one of them was put in place
pub unbroken_set : {P : Type 0} (js : List (Job P)) (at : ℕ) (y : Job P) → All (λ (j : Job P). j.fault ≡ None) js → y.fault ≡ None → All (λ (j : Job P). j.fault ≡ None) (set js at y)
unbroken_set {P} js at y all none i d l =
    let size = length-set js at y in dite (ℕ_discrete i at)
    (λ here. ap (λ (x : Job P). x.fault) (ap (λ n. get_or (set js at y) n d) here ∙ get_or-set_same js at y d (omega (arith, l, here, size))) ∙ none)
    (λ other. ap (λ (x : Job P). x.fault) (get_or-set_other js at i y d other) ∙ all i d (omega (arith, l, size)))

-- the cause of a fault, from the job at first on
cause_on : (a b c : ℕ) (f g : Bool) (causes : FaultCauses) (fault : JobFault) → a ≤ b → Caused f g b c causes fault → FaultCause a c causes fault
cause_on a b c f g causes NoMemory l h = tt
cause_on a b c f g causes Disk l (up, inl h) = omega (arith, l, h)
cause_on a b c f g causes Disk l (up, inr h) = rose_on a b c l h.1
cause_on a b c f g causes (Full size need) l h = h
cause_on a b c f g causes (NotLog at) l h = (rose_on a b c l h.1, h.2)
cause_on a b c f g causes (Changed found) l h = (rose_on a b c l h.1, h.2)

-- ---- rounds that were called

rounds_append : (xs ys : List Call) → rounds (xs ++ ys) ≡ rounds xs ++ rounds ys
rounds_append xs ys = map-append (λ (c : Call). c.round) xs ys

module _ (answers : Answers) where
  meant_on : (p q : ProcessState) (before : List Call) (c : Call) → Goes p q → (m : IsMeant answers p before c) → (n : IsMeant answers q before c) × (n.seen ≡ m.seen)
  meant_on p q before c go m = (
    record {
      seen = m.seen;
      more = m.more ++ go.more;
      split = go.grown ∙ ap (λ l. l ++ go.more) m.split ∙ append_assoc m.seen m.more go.more;
      acts = subst (λ n. others_in (own_events n m.seen) ≡ begins n (rounds before)) (sym go.node) m.acts;
      may = subst (λ n. answers q.config n before m.seen (Some c)) (sym go.node) (subst (λ x. answers x p.node before m.seen (Some c)) (sym go.config) m.may);
    },
    refl,
  )

  begun_on : (p q : ProcessState) (es : List Event) (before : List Call) (c : Call) → Goes p q → Posted p q es → HasBegun answers p before c → HasBegun answers q before c
  begun_on p q es before c go posts b = let m = meant_on p q before c go b.meant in record {
    meant = m.0;
    rest = b.rest ++ es;
    next = posts ∙ ap (λ l. l ++ es) b.next ∙ append_assoc (own_events p.node b.meant.seen) (event_of p.node (move.Begin c.round) ∷ b.rest) es
        ∙ (λ i. own_events (sym go.node i) (sym m.1 i) ++ event_of (sym go.node i) (move.Begin c.round) ∷ (b.rest ++ es));
  }

  first_begun : (p q : ProcessState) (took : List Event) (before : List Call) (c : Call) → Goes p q → Posted p q (event_of p.node (move.Begin c.round) ∷ took) → IsToBegin answers p before c → HasBegun answers q before c
  first_begun p q took before c go posts b = let m = meant_on p q before c go b.meant in record {
    meant = m.0;
    rest = took;
    next = posts ∙ ap (λ l. l ++ event_of p.node (move.Begin c.round) ∷ took) b.still
        ∙ (λ i. own_events (sym go.node i) (sym m.1 i) ++ event_of (sym go.node i) (move.Begin c.round) ∷ took);
  }

  all_begun_on : (p q : ProcessState) (es : List Event) (called : List Call) → Goes p q → Posted p q es → HasBegunAll answers p called → HasBegunAll answers q called
  all_begun_on p q es called go posts all k c is = begun_on p q es (take k called) c go posts (all k c is)

  -- the last round that was called is begun too
  one_more : (p : ProcessState) (begun : List Call) (c : Call) → HasBegunAll answers p begun → HasBegun answers p begun c → HasBegunAll answers p (begun ++ c ∷ [])
  one_more p begun c all last k x is = dite (ℕ_discrete k (length begun))
      (λ here. let cut : take k (begun ++ c ∷ []) ≡ begun = take-append-le k begun (c ∷ []) (omega arith) ∙ ap (λ n. take n begun) here ∙ take_whole begun in
      subst (λ before. HasBegun answers p before x) (sym cut) (subst (λ y. HasBegun answers p begun y) (get_last begun c x k here is) last))
      (λ other. let w = slice_get_within (begun ++ c ∷ []) k x is in let n = length-append begun (c ∷ []) in
      let below : k < length begun = omega arith in
      subst (λ before. HasBegun answers p before x) (sym (take-append-le k begun (c ∷ []) (omega arith))) (all k x (sym (get_front begun (c ∷ []) k below) ∙ is)))

  all_begun : (p q : ProcessState) (begun : List Call) (pending : Option Call) (took : List Event) → Goes p q → Posted p q (begins p.node (rounds (option_to_list pending)) ++ took)
      → HasBegunAll answers p begun → IfSome pending (IsToBegin answers p begun) → HasBegunAll answers q (begun ++ option_to_list pending)
  all_begun p q begun None took go posts all left = subst (HasBegunAll answers q) (sym (append-nil begun)) (all_begun_on p q took begun go posts all)
  all_begun p q begun (Some c) took go posts all left =
      one_more q begun c (all_begun_on p q (event_of p.node (move.Begin c.round) ∷ took) begun go posts all) (first_begun p q took begun c go posts left)

module _ {N P : Type 0} (state : P → ProcessState) (is_of : P → N → Type 0) (causes : P → FaultCauses) (net : N) (answers : Answers) (at : ℕ) where
  -- before a phase: the node has begun the rounds that were called, but perhaps for the last one
  pub record Phase (js0 js : List (Job P)) (me : Node) (us : Counts) (begun : List Call) (pending : Option Call) (called : List Call) : Type 0 where
    pub size : length js ≡ length js0
    pub each : (i : ℕ) (d : Job P) → i < length js0 → Going state is_of net (only_at at i (rounds begun)) (get_or js0 i d) (get_or js i d)
    pub first : (i : ℕ) (d : Job P) → i < length js0 → (get_or js i d).first ≡ only_at at i (begin_moves (rounds (option_to_list pending)))
    pub fits : (d : Job P) → AllFit (state (get_or js at d).cell).config (state (get_or js at d).cell).node (begin_moves (rounds (option_to_list pending)))
    pub all : called ≡ begun ++ option_to_list pending
    pub follows : (d : Job P) → Follows state answers (get_or js at d) begun pending
    pub whose : (d : Job P) → ((state (get_or js at d).cell).node ≡ me) × ((state (get_or js at d).cell).config ≡ us)

  pub starts : (js : List (Job P)) (me : Node) (us : Counts) (called : List Call) (r : AreReady state is_of net answers at called js) → ((d : Job P) → ((state (get_or js at d).cell).node ≡ me) × ((state (get_or js at d).cell).config ≡ us)) → Phase js js me us r.begun r.pending called
  starts js me us called r whose = record {
    size = refl;
    each = r.each;
    first = r.first;
    fits = r.fits;
    all = r.all;
    follows = r.follows;
    whose = whose;
  }

  pub ready : (js0 js : List (Job P)) (me : Node) (us : Counts) (begun : List Call) (pending : Option Call) (called : List Call) → Phase js0 js me us begun pending called → All (IsReady state is_of net) js
  ready js0 js me us begun pending called ph i d l = record {
    fault = g.fault;
    own = g.own;
    up = g.up;
    fits = dite (ℕ_discrete i at)
        (λ e. subst (AllFit (state j.cell).config (state j.cell).node) (sym (mine ∙ only_here at i (begin_moves (rounds (option_to_list pending))) e))
        (subst (λ n. AllFit (state (get_or js n d).cell).config (state (get_or js n d).cell).node (begin_moves (rounds (option_to_list pending)))) (sym e) (ph.fits d)))
        (λ n. subst (AllFit (state j.cell).config (state j.cell).node) (sym (mine ∙ only_else at i (begin_moves (rounds (option_to_list pending))) n)) tt);
    room = λ has. absurd (no_offer (only_at at i (rounds (option_to_list pending))) (subst HasOffer (mine ∙ sym (only_moves at i (rounds (option_to_list pending)))) has));
  }
    where
      j : Job P
      j = get_or js i d

      within : i < length js0
      within = let e = ph.size in omega arith

      g : Going state is_of net (only_at at i (rounds begun)) (get_or js0 i d) (get_or js i d)
      g = ph.each i d within

      mine : (get_or js i d).first ≡ only_at at i (begin_moves (rounds (option_to_list pending)))
      mine = ph.first i d within

  -- what a phase without a fault does to a job
  gone_on : (rs ss : List Round) (j0 j k : Job P) → Going state is_of net rs j0 j → j.first ≡ begin_moves ss → HasWorked state is_of causes net j k → k.fault ≡ None → Going state is_of net (rs ++ ss) j0 k
  gone_on rs ss j0 j k g first w none = record {
    fault = none;
    own = w.own;
    up = done.up;
    goes = goes_on (state j0.cell) (state j.cell) (state k.cell) g.goes w.stretch.goes;
    stays = λ up. w.stretch.stays (g.stays up);
    fallen = λ down up. by_mark j.risen refl down up;
    tidy = λ down. tidied down;
  }
    where
      done : Done (state j.cell) j.risen j.first j.cursor (state k.cell) k.risen k.cursor
      done = done_of (causes k.cell) (state j.cell) j.risen j.first j.cursor (state k.cell) k.risen k.cursor k.fault none w.ends

      by_mark : (b : Bool) → j.risen ≡ b → j0.risen ≡ false → k.risen ≡ true → Rose (state j0.cell).faults (state k.cell).faults
      by_mark true e down up = rose_then (state j0.cell).faults (state j.cell).faults (state k.cell).faults (g.fallen down e) w.stretch.goes.faults
      by_mark false e down up = rose_on (state j0.cell).faults (state j.cell).faults (state k.cell).faults g.goes.faults (w.stretch.turned e up)

      tidied : k.risen ≡ false → Tidy (state k.cell) k.cursor (begins (state k.cell).node (rs ++ ss))
      tidied down =
          let was : j.risen ≡ false = was_false j.risen k.risen w.stretch.stays down in
          let d : Done (state j.cell) false (begin_moves ss) j.cursor (state k.cell) false k.cursor =
          subst (λ f. Done (state j.cell) f (begin_moves ss) j.cursor (state k.cell) false k.cursor) was
          (subst (λ f. Done (state j.cell) j.risen (begin_moves ss) j.cursor (state k.cell) f k.cursor) down
          (subst (λ ms. Done (state j.cell) j.risen ms j.cursor (state k.cell) k.risen k.cursor) first done)) in
          subst (Tidy (state k.cell) k.cursor) (sym (begins_append (state j.cell).node rs ss) ∙ ap (λ n. begins n (rs ++ ss)) (sym w.stretch.goes.node))
          (tidy_on (state j.cell) j.cursor (begins (state j.cell).node rs) ss (state k.cell) k.cursor (g.tidy was) w.stretch.goes d)

  follows_on : (j k : Job P) (begun : List Call) (pending : Option Call) → j.first ≡ begin_moves (rounds (option_to_list pending)) → HasWorked state is_of causes net j k → k.fault ≡ None
      → Follows state answers j begun pending → Follows state answers k (begun ++ option_to_list pending) None
  follows_on j k begun pending first w none f = record {
    all = λ down.
        let was : j.risen ≡ false = was_false j.risen k.risen w.stretch.stays down in
        let done = done_of (causes k.cell) (state j.cell) j.risen j.first j.cursor (state k.cell) k.risen k.cursor k.fault none w.ends in
        let d : Done (state j.cell) false (begin_moves (rounds (option_to_list pending))) j.cursor (state k.cell) false k.cursor =
        subst (λ g. Done (state j.cell) g (begin_moves (rounds (option_to_list pending))) j.cursor (state k.cell) false k.cursor) was
        (subst (λ g. Done (state j.cell) j.risen (begin_moves (rounds (option_to_list pending))) j.cursor (state k.cell) g k.cursor) down
        (subst (λ ms. Done (state j.cell) j.risen ms j.cursor (state k.cell) k.risen k.cursor) first done)) in
        let made = done_made (state j.cell) (rounds (option_to_list pending)) j.cursor (state k.cell) k.cursor d in
        all_begun answers (state j.cell) (state k.cell) begun pending made.0 w.stretch.goes made.1 (f.all was) (f.next was);
    next = λ down. tt;
  }

  -- what a phase does to a job, with a fault or without
  carried_on : (rs : List Round) (j0 j k : Job P) → Going state is_of net rs j0 j → HasWorked state is_of causes net j k → Carried state is_of causes net j0 k
  carried_on rs j0 j k g w = record {
    own = w.own;
    goes = goes_on (state j0.cell) (state j.cell) (state k.cell) g.goes w.stretch.goes;
    cause = caused k.fault w.ends;
  }
    where
      caused : (fault : Option JobFault) → Ends (causes k.cell) (state j.cell) j.risen j.first j.cursor (state k.cell) k.risen k.cursor fault
          → IfSome fault (FaultCause (state j0.cell).faults (state k.cell).faults (causes k.cell))
      caused None e = tt
      caused (Some fault) e = cause_on (state j0.cell).faults (state j.cell).faults (state k.cell).faults j.risen k.risen (causes k.cell) fault g.goes.faults e.1

  pub all_carried : (js0 js ks : List (Job P)) (me : Node) (us : Counts) (begun : List Call) (pending : Option Call) (called : List Call) → Phase js0 js me us begun pending called
      → ((i : ℕ) (d : Job P) → i < length js → HasWorked state is_of causes net (get_or js i d) (get_or ks i d))
      → (i : ℕ) (d : Job P) → i < length js0 → Carried state is_of causes net (get_or js0 i d) (get_or ks i d)
  all_carried js0 js ks me us begun pending called ph each i d l =
      let e = ph.size in carried_on (only_at at i (rounds begun)) (get_or js0 i d) (get_or js i d) (get_or ks i d) (ph.each i d l) (each i d (omega arith))

  -- after a phase without a fault: the node has begun all rounds that were called
  pub worked : (js0 js ks : List (Job P)) (me : Node) (us : Counts) (begun : List Call) (pending : Option Call) (called : List Call) → at < length js0 → Phase js0 js me us begun pending called → length ks ≡ length js
      → ((i : ℕ) (d : Job P) → i < length js → HasWorked state is_of causes net (get_or js i d) (get_or ks i d)) → All (λ (k : Job P). k.fault ≡ None) ks → Phase js0 ks me us called None called
  worked js0 js ks me us begun pending called there ph size each none = record {
    size = size ∙ ph.size;
    each = λ i d l. let e = ph.size in let f = size in
        subst (λ rs. Going state is_of net rs (get_or js0 i d) (get_or ks i d)) (sym (ap (λ cs. only_at at i (rounds cs)) ph.all ∙ ap (only_at at i) (rounds_append begun (option_to_list pending)) ∙ only_append at i (rounds begun) (rounds (option_to_list pending))))
        (gone_on (only_at at i (rounds begun)) (only_at at i (rounds (option_to_list pending))) (get_or js0 i d) (get_or js i d) (get_or ks i d) (ph.each i d l)
        (ph.first i d l ∙ sym (only_moves at i (rounds (option_to_list pending)))) (each i d (omega arith)) (none i d (omega arith)));
    first = λ i d l. let e = ph.size in (each i d (omega arith)).first ∙ sym (only_none at i);
    fits = λ d. tt;
    all = sym (append-nil called);
    follows = λ d. let e = ph.size in let f = size in subst (λ cs. Follows state answers (get_or ks at d) cs None) (sym ph.all)
        (follows_on (get_or js at d) (get_or ks at d) begun pending (ph.first at d there ∙ only_here at at (begin_moves (rounds (option_to_list pending))) refl) (each at d (omega arith)) (none at d (omega arith)) (ph.follows d));
    whose = λ d. let e = ph.size in let goes = (each at d (omega arith)).stretch.goes in (goes.node ∙ (ph.whose d).0, goes.config ∙ (ph.whose d).1);
  }

  -- no job has messages left that its node has seen
  pub looked : (js0 js ks : List (Job P)) (me : Node) (us : Counts) (begun : List Call) (pending : Option Call) (called : List Call) → Phase js0 js me us begun pending called → length ks ≡ length js
      → ((i : ℕ) (d : Job P) → i < length js → HasWorked state is_of causes net (get_or js i d) (get_or ks i d)) → All (λ (k : Job P). k.fault ≡ None) ks
      → (i : ℕ) (d : Job P) → i < length js0 → have (state (get_or ks i d).cell) ≤ (get_or ks i d).cursor
  looked js0 js ks me us begun pending called ph size each none i d l =
      let e = ph.size in let f = size in let w = each i d (omega arith) in
      (done_of (causes (get_or ks i d).cell) (state (get_or js i d).cell) (get_or js i d).risen (get_or js i d).first (get_or js i d).cursor (state (get_or ks i d).cell) (get_or ks i d).risen (get_or ks i d).cursor (get_or ks i d).fault (none i d (omega arith)) w.ends).none

  -- what a caller does to the job of its node
  pub record Looks (j y : Job P) : Type 0 where
    pub own : is_of y.cell net
    pub goes : Goes (state j.cell) (state y.cell)
    pub posts : Posted (state j.cell) (state y.cell) []
    pub up : (state y.cell).up ≡ true
    pub cursor : y.cursor ≡ j.cursor
    pub risen : y.risen ≡ j.risen
    pub fault : y.fault ≡ j.fault

  going_looked : (rs : List Round) (j0 j y : Job P) → Going state is_of net rs j0 j → Looks j y → Going state is_of net rs j0 y
  going_looked rs j0 j y g w = record {
    fault = w.fault ∙ g.fault;
    own = w.own;
    up = w.up;
    goes = goes_on (state j0.cell) (state j.cell) (state y.cell) g.goes w.goes;
    stays = λ up. w.risen ∙ g.stays up;
    fallen = λ down up. rose_then (state j0.cell).faults (state j.cell).faults (state y.cell).faults (g.fallen down (sym w.risen ∙ up)) w.goes.faults;
    tidy = λ down. subst (λ c. Tidy (state y.cell) c (begins (state y.cell).node rs)) (sym w.cursor)
        (subst (λ n. Tidy (state y.cell) j.cursor (begins n rs)) (sym w.goes.node)
        (tidy_looked (state j.cell) j.cursor (begins (state j.cell).node rs) (state y.cell) (g.tidy (sym w.risen ∙ down)) w.goes w.posts));
  }

  follows_asked : (rs : List Round) (j0 j y : Job P) (called : List Call) (answer : Option Call) → rs ≡ rounds called → Going state is_of net rs j0 y → Looks j y
      → answers (state j.cell).config (state j.cell).node called (state y.cell).list answer → Follows state answers j called None → Follows state answers y called answer
  follows_asked rs j0 j y called answer same g w may f = record {
    all = λ down. all_begun_on answers (state j.cell) (state y.cell) [] called w.goes w.posts (f.all (sym w.risen ∙ down));
    next = λ down. to_begin answer down may;
  }
    where
      to_begin : (o : Option Call) → y.risen ≡ false → answers (state j.cell).config (state j.cell).node called (state y.cell).list o → IfSome o (IsToBegin answers (state y.cell) called)
      to_begin None down m = tt
      to_begin (Some c) down m = record {
        meant = record {
          seen = (state y.cell).list;
          more = [];
          split = sym (append-nil (state y.cell).list);
          acts = (g.tidy down).acts ∙ ap (begins (state y.cell).node) same;
          may = subst (λ n. answers (state y.cell).config n called (state y.cell).list (Some c)) (sym w.goes.node)
              (subst (λ x. answers x (state j.cell).node called (state y.cell).list (Some c)) (sym w.goes.config) m);
        };
        still = refl;
      }

  -- the caller left a move, or none
  pub asked : (js0 ks : List (Job P)) (me : Node) (us : Counts) (called after : List Call) (y e : Job P) (left : Bool) → at < length js0 → Phase js0 ks me us called None called → Looks (get_or ks at e) y
      → (a : Asked state (answers (state (get_or ks at e).cell).config (state (get_or ks at e).cell).node) called after (get_or ks at e) y left) → Phase js0 (set ks at y) me us called a.answer after
  asked js0 ks me us called after y e left there ph w a = record {
    size = length-set ks at y ∙ ph.size;
    each = λ i d l. dite (ℕ_discrete i at)
        (λ here. subst (λ x. Going state is_of net (only_at at i (rounds called)) (get_or js0 i d) x) (sym (mine i d here))
        (going_looked (only_at at i (rounds called)) (get_or js0 i d) (get_or ks at e) y (subst (λ x. Going state is_of net (only_at at i (rounds called)) (get_or js0 i d) x) (same i d e l here) (ph.each i d l)) w))
        (λ other. subst (λ x. Going state is_of net (only_at at i (rounds called)) (get_or js0 i d) x) (sym (get_or-set_other ks at i y d other)) (ph.each i d l));
    first = λ i d l. dite (ℕ_discrete i at)
        (λ here. ap (λ (x : Job P). x.first) (mine i d here) ∙ a.first ∙ sym (only_here at i (begin_moves (rounds (option_to_list a.answer))) here))
        (λ other. ap (λ (x : Job P). x.first) (get_or-set_other ks at i y d other) ∙ ph.first i d l ∙ only_none at i ∙ sym (only_else at i (begin_moves (rounds (option_to_list a.answer))) other));
    fits = λ d. subst (λ (x : Job P). AllFit (state x.cell).config (state x.cell).node (begin_moves (rounds (option_to_list a.answer)))) (sym (mine at d refl))
        (subst (λ n. AllFit (state y.cell).config n (begin_moves (rounds (option_to_list a.answer)))) (sym w.goes.node) (subst (λ c. AllFit c (state (get_or ks at e).cell).node (begin_moves (rounds (option_to_list a.answer)))) (sym w.goes.config) a.fits));
    all = a.called;
    follows = λ d. subst (λ x. Follows state answers x called a.answer) (sym (mine at d refl))
        (follows_asked (only_at at at (rounds called)) (get_or js0 at e) (get_or ks at e) y called a.answer (only_here at at (rounds called) refl)
        (going_looked (only_at at at (rounds called)) (get_or js0 at e) (get_or ks at e) y (ph.each at e there) w) w a.may (ph.follows e));
    whose = λ d. (ap (λ (x : Job P). (state x.cell).node) (mine at d refl) ∙ w.goes.node ∙ (ph.whose e).0, ap (λ (x : Job P). (state x.cell).config) (mine at d refl) ∙ w.goes.config ∙ (ph.whose e).1);
  }
    where
      mine : (i : ℕ) (d : Job P) → i ≡ at → get_or (set ks at y) i d ≡ y
      mine i d here = ap (λ n. get_or (set ks at y) n d) here ∙ get_or-set_same ks at y d (let s = ph.size in omega arith)

      same : (i : ℕ) (d e : Job P) → i < length js0 → i ≡ at → get_or ks i d ≡ get_or ks at e
      same i d e l here = ap (λ n. get_or ks n d) here ∙ defaults ks at d e (let s = ph.size in omega arith)
        where
          defaults : (xs : List (Job P)) (n : ℕ) (d e : Job P) → n < length xs → get_or xs n d ≡ get_or xs n e
          defaults [] n d e l = absurd (none l) where
            none : n < 0 → ⊥
            none l = omega (arith, l)
          defaults (x ∷ xs) zero d e l = refl
          defaults (x ∷ xs) (suc n) d e l = defaults xs n d e (omega (arith, l))

  -- the caller returned no round
  pub none_left : (ks : List (Job P)) (called after : List Call) (y e d : Job P) (left : Bool) → at < length ks → Looks (get_or ks at e) y
      → Asked state (answers (state (get_or ks at e).cell).config (state (get_or ks at e).cell).node) called after (get_or ks at e) y left → left ≡ false
      → answers (state (get_or (set ks at y) at d).cell).config (state (get_or (set ks at y) at d).cell).node after (state (get_or (set ks at y) at d).cell).list None
  none_left ks called after y e d left there w a none =
      subst (λ (x : Job P). answers (state x.cell).config (state x.cell).node after (state x.cell).list None) (sym (get_or-set_same ks at y d there))
      (subst (λ cs. answers (state y.cell).config (state y.cell).node cs (state y.cell).list None) (sym (a.called ∙ ap (λ o. called ++ option_to_list o) (a.none none) ∙ append-nil called))
      (subst (λ o. answers (state y.cell).config (state y.cell).node called (state y.cell).list o) (a.none none)
      (subst (λ n. answers (state y.cell).config n called (state y.cell).list a.answer) (sym w.goes.node)
      (subst (λ u. answers u (state (get_or ks at e).cell).node called (state y.cell).list a.answer) (sym w.goes.config) a.may))))

  -- the caller was asked, and memory ran out, or not: what it left of each job
  pub carried_asked : (js0 ks : List (Job P)) (me : Node) (us : Counts) (called : List Call) (y e : Job P) → at < length js0 → Phase js0 ks me us called None called → Looks (get_or ks at e) y
      → (i : ℕ) (d : Job P) → i < length js0 → Carried state is_of causes net (get_or js0 i d) (get_or (set ks at y) i d)
  carried_asked js0 ks me us called y e there ph w i d l = dite (ℕ_discrete i at)
      (λ here. subst (λ x. Carried state is_of causes net (get_or js0 i d) x) (sym (mine here))
      (still (only_at at i (rounds called)) (get_or js0 i d) y (going_looked (only_at at i (rounds called)) (get_or js0 i d) (get_or ks at e) y (subst (λ x. Going state is_of net (only_at at i (rounds called)) (get_or js0 i d) x) (same here) (ph.each i d l)) w)))
      (λ other. subst (λ x. Carried state is_of causes net (get_or js0 i d) x) (sym (get_or-set_other ks at i y d other)) (still (only_at at i (rounds called)) (get_or js0 i d) (get_or ks i d) (ph.each i d l)))
    where
      mine : i ≡ at → get_or (set ks at y) i d ≡ y
      mine here = ap (λ n. get_or (set ks at y) n d) here ∙ get_or-set_same ks at y d (let s = ph.size in omega arith)

      same : i ≡ at → get_or ks i d ≡ get_or ks at e
      same here = ap (λ n. get_or ks n d) here ∙ defaults ks at d e (let s = ph.size in omega arith)
        where
          defaults : (xs : List (Job P)) (n : ℕ) (d e : Job P) → n < length xs → get_or xs n d ≡ get_or xs n e
          defaults [] n d e l = absurd (none l) where
            none : n < 0 → ⊥
            none l = omega (arith, l)
          defaults (x ∷ xs) zero d e l = refl
          defaults (x ∷ xs) (suc n) d e l = defaults xs n d e (omega (arith, l))

      still : (rs : List Round) (j0 k : Job P) → Going state is_of net rs j0 k → Carried state is_of causes net j0 k
      still rs j0 k g = record { own = g.own; goes = g.goes; cause = subst (λ f. IfSome f (FaultCause (state j0.cell).faults (state k.cell).faults (causes k.cell))) (sym g.fault) tt }

  -- what a caller knows lasts
  pub known : (knows : List Record → Type 0) → ((xs ys : List Record) → knows xs → knows (xs ++ ys)) → (p q : ProcessState) → Goes p q → knows p.list → knows q.list
  known knows lasts p q go h = subst knows (sym go.grown) (lasts p.list go.more h)

  total_same : (others n : ℕ) (ks : List (Job P)) (y e : Job P) → posted (state y.cell) ≡ posted (state (get_or ks n e).cell) → total state others (set ks n y) ≡ total state others ks
  total_same others n [] y e h = refl
  total_same others zero (k ∷ ks) y e h = ap (λ p. p + total state others ks) h
  total_same others (suc n) (k ∷ ks) y e h = ap (λ t. posted (state k.cell) + t) (total_same others n ks y e h)

  -- the end: nothing is left to do
  pub finished : (js0 ks : List (Job P)) (me : Node) (us : Counts) (called after : List Call) (others : ℕ) (y e : Job P) (left : Bool) → at < length js0 → Phase js0 ks me us called None called → Looks (get_or ks at e) y
      → (a : Asked state (answers (state (get_or ks at e).cell).config (state (get_or ks at e).cell).node) called after (get_or ks at e) y left) → left ≡ false
      → ((i : ℕ) (d : Job P) → i < length js0 → have (state (get_or ks i d).cell) ≤ (get_or ks i d).cursor) → All (λ (k : Job P). length (state k.cell).list ≡ total state others ks) ks
      → (i : ℕ) (d : Job P) → i < length js0 → Finished state is_of net (only_at at i (rounds after)) (total state others (set ks at y)) (get_or js0 i d) (get_or (set ks at y) i d)
  finished js0 ks me us called after others y e left there ph w a none ends quiet i d l = dite (ℕ_discrete i at) here other
    where
      next : Phase js0 (set ks at y) me us called a.answer after
      next = asked js0 ks me us called after y e left there ph w a

      same_rounds : called ≡ after
      same_rounds = sym (a.called ∙ ap (λ o. called ++ option_to_list o) (a.none none) ∙ append-nil called)

      going : Going state is_of net (only_at at i (rounds after)) (get_or js0 i d) (get_or (set ks at y) i d)
      going = subst (λ cs. Going state is_of net (only_at at i (rounds cs)) (get_or js0 i d) (get_or (set ks at y) i d)) same_rounds (next.each i d l)

      no_move : (get_or (set ks at y) i d).first ≡ []
      no_move = next.first i d l ∙ ap (λ o. only_at at i (begin_moves (rounds (option_to_list o)))) (a.none none) ∙ only_none at i

      sum : total state others ks ≡ total state others (set ks at y)
      sum = sym (total_same others at ks y e (posted_more (state (get_or ks at e).cell) (state y.cell) [] w.posts ∙ omega arith))

      within : at < length ks
      within = let s = ph.size in omega arith

      here : i ≡ at → Finished state is_of net (only_at at i (rounds after)) (total state others (set ks at y)) (get_or js0 i d) (get_or (set ks at y) i d)
      here e_at = let mine : get_or (set ks at y) i d ≡ y = ap (λ n. get_or (set ks at y) n d) e_at ∙ get_or-set_same ks at y d within in record {
        going = going;
        first = no_move;
        seen = (state (get_or ks at e).cell).list;
        more = w.goes.more;
        split = ap (λ (x : Job P). (state x.cell).list) mine ∙ w.goes.grown;
        whole = quiet at e within ∙ sum;
        looked = subst (λ (x : Job P). have (state (get_or ks at e).cell) ≤ x.cursor) (sym mine) (subst (λ c. have (state (get_or ks at e).cell) ≤ c) (sym w.cursor) (ends at e there));
      }

      other : i ≢ at → Finished state is_of net (only_at at i (rounds after)) (total state others (set ks at y)) (get_or js0 i d) (get_or (set ks at y) i d)
      other n = let still : get_or (set ks at y) i d ≡ get_or ks i d = get_or-set_other ks at i y d n in record {
        going = going;
        first = no_move;
        seen = (state (get_or ks i d).cell).list;
        more = [];
        split = ap (λ (x : Job P). (state x.cell).list) still ∙ sym (append-nil (state (get_or ks i d).cell).list);
        whole = quiet i d (let s = ph.size in omega arith) ∙ sum;
        looked = subst (λ (x : Job P). have (state (get_or ks i d).cell) ≤ x.cursor) (sym still) (ends i d l);
      }

  -- ---- jobs that can go on

  itself : (rs : List Round) (j0 j : Job P) → Going state is_of net rs j0 j → Going state is_of net rs j j
  itself rs j0 j g = record {
    fault = g.fault;
    own = g.own;
    up = g.up;
    goes = goes_same (state j.cell);
    stays = λ up. up;
    fallen = λ down up. absurd (not_true j.risen down up);
    tidy = g.tidy;
  }

  pub ready_on : (js0 js : List (Job P)) (me : Node) (us : Counts) (begun : List Call) (pending : Option Call) (called : List Call) → Phase js0 js me us begun pending called → AreReady state is_of net answers at called js
  ready_on js0 js me us begun pending called ph = record {
    begun = begun;
    pending = pending;
    all = ph.all;
    each = λ i d l. itself (only_at at i (rounds begun)) (get_or js0 i d) (get_or js i d) (ph.each i d (let e = ph.size in omega arith));
    first = λ i d l. ph.first i d (let e = ph.size in omega arith);
    fits = ph.fits;
    follows = ph.follows;
  }

  new_going : (rs : List Round) (j : Job P) → rs ≡ [] → IsNew state is_of net j → Going state is_of net rs j j
  new_going rs j none n = record {
    fault = n.fault;
    own = n.own;
    up = n.up;
    goes = goes_same (state j.cell);
    stays = λ up. up;
    fallen = λ down up. absurd (not_true j.risen down up);
    tidy = λ down. record {
      read = subst (λ c. AreRead (state j.cell).node (messages_in (state j.cell).list) 0 c (takes_in (own_events (state j.cell).node (state j.cell).list))) (sym n.cursor)
          (subst (λ es. AreRead (state j.cell).node (messages_in (state j.cell).list) 0 0 (takes_in es)) (sym n.nothing) (read_none (state j.cell).node (messages_in (state j.cell).list) 0));
      acts = ap others_in n.nothing ∙ ap (begins (state j.cell).node) (sym none);
      within = let c = n.cursor in omega arith;
    };
  }

  -- jobs of nodes that have posted nothing
  pub starts_new : (js : List (Job P)) (me : Node) (us : Counts) (called : List Call) → called ≡ [] → All (IsNew state is_of net) js → at < length js
      → ((d : Job P) → ((state (get_or js at d).cell).node ≡ me) × ((state (get_or js at d).cell).config ≡ us)) → Phase js js me us called None called
  starts_new js me us called none new there whose = record {
    size = refl;
    each = λ i d l. new_going (only_at at i (rounds called)) (get_or js i d) (ap (λ cs. only_at at i (rounds cs)) none ∙ only_none at i) (new i d l);
    first = λ i d l. (new i d l).first ∙ sym (only_none at i);
    fits = λ d. tt;
    all = sym (append-nil called);
    follows = λ d. record { all = λ down k c e. absurd (no_call called k c none e); next = λ down. tt };
    whose = whose;
  }
    where
      no_call : (cs : List Call) (k : ℕ) (c : Call) → cs ≡ [] → slice_get cs k ≡ Some c → ⊥
      no_call [] k c none e = cc
      no_call (x ∷ cs) k c none e = cc
