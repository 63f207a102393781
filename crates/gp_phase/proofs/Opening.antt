-- What the node of a job is to post first, and what it posts first.
use Rattle.std.proofs.Common.{◌≡◌, ◌⊎◌, inl, inr, ℕ, zero, suc, ◌<◌, Bool, false, List, [], ◌∷◌, ◌++◌, length, set, get_or, refl, sym, ap, ◌∙◌, subst, arith, None, append_assoc, get_or-set_same, get_or-set_other}
use Rattle.std.specs.List.{All}
use Rattle.std.specs.Option.{option_to_list}
use mathlib.Core.Logic.{dite}
use native.Mathlib.Decide.{ℕ_discrete}
use Rattle.gp_msg.specs.declared.event.Event.{Event}
use Rattle.gp_work.specs.declared.job.Job.{Job}
use Rattle.gp_work.specs.Doing.{ProcessState, Posted}
use Rattle.gp_work.specs.Causes.{FaultCauses}
use Rattle.gp_work.specs.Jobs.{Done, HasWorked}
use Rattle.gp_round.specs.declared.round.Round.{Round}
use Rattle.gp_work.proofs.Stretches.{posted_on}
use Rattle.gp_phase.specs.declared.caller.Call.{Call}
use Rattle.gp_phase.specs.Deeds.{begins, begin_moves}
use Rattle.gp_phase.specs.Phases.{Answers, Opens, Asked, IsNew, IsToOpen, HasAnswered, only_at, rounds}
use Rattle.gp_phase.proofs.Deeds.{done_made}
use Rattle.gp_phase.proofs.Phasing.{done_of, was_false, only_here, only_else, Looks}

module _ {N P : Type 0} (state : P → ProcessState) (is_of : P → N → Type 0) (causes : P → FaultCauses) (net : N) where
  -- each job opened with its first moves
  abbrev pub AllOpen : List (Job P) → List (Job P) → Type 0
  AllOpen js0 js = (i : ℕ) (d : Job P) → i < length js0 → Opens state (get_or js0 i d) (get_or js i d)

  -- no phase has been yet, or each job opened with its first moves
  abbrev pub AreUntouchedOrOpen : List (Job P) → List (Job P) → Type 0
  AreUntouchedOrOpen js0 js = (js ≡ js0) ⊎ AllOpen js0 js

  done_up : (j k : Job P) → HasWorked state is_of causes net j k → k.fault ≡ None → Done (state j.cell) j.risen j.first j.cursor (state k.cell) k.risen k.cursor
  done_up j k w none = done_of (causes k.cell) (state j.cell) j.risen j.first j.cursor (state k.cell) k.risen k.cursor k.fault none w.ends

  -- the first phase of a job
  first_open : (j k : Job P) → HasWorked state is_of causes net j k → k.fault ≡ None → Opens state j k
  first_open j k w none rs first down =
      let was : j.risen ≡ false = was_false j.risen k.risen w.stretch.stays down in
      done_made (state j.cell) rs j.cursor (state k.cell) k.cursor
      (subst (λ g. Done (state j.cell) g (begin_moves rs) j.cursor (state k.cell) false k.cursor) was
      (subst (λ g. Done (state j.cell) j.risen (begin_moves rs) j.cursor (state k.cell) g k.cursor) down
      (subst (λ ms. Done (state j.cell) j.risen ms j.cursor (state k.cell) k.risen k.cursor) first (done_up j k w none))))

  -- what it posted before stays first
  more_open : (j0 j k : Job P) (es : List Event) → Opens state j0 j → (k.risen ≡ false → j.risen ≡ false) → Posted (state j.cell) (state k.cell) es → Opens state j0 k
  more_open j0 j k es o was posts rs first down =
      let before = o rs first (was down) in (
        before.0 ++ es,
        subst (Posted (state j0.cell) (state k.cell)) (append_assoc (begins (state j0.cell).node rs) before.0 es)
            (posted_on (state j0.cell) (state j.cell) (state k.cell) (begins (state j0.cell).node rs ++ before.0) es before.1 posts),
      )

  later_open : (j0 j k : Job P) → Opens state j0 j → HasWorked state is_of causes net j k → k.fault ≡ None → Opens state j0 k
  later_open j0 j k o w none =
      let d = done_up j k w none in
      more_open j0 j k (d.made ++ d.took) o (was_false j.risen k.risen w.stretch.stays) d.posts

  -- after a phase without a fault
  pub worked_open : (js0 js ks : List (Job P)) → length js ≡ length js0 → length ks ≡ length js → AreUntouchedOrOpen js0 js
      → ((i : ℕ) (d : Job P) → i < length js → HasWorked state is_of causes net (get_or js i d) (get_or ks i d)) → All (λ (k : Job P). k.fault ≡ None) ks → AllOpen js0 ks
  worked_open js0 js ks size more (inl same) each none i d l =
      subst (λ (j : Job P). Opens state j (get_or ks i d)) (ap (λ xs. get_or xs i d) same) (first_open (get_or js i d) (get_or ks i d) (each i d (omega arith)) (none i d (omega arith)))
  worked_open js0 js ks size more (inr opened) each none i d l = later_open (get_or js0 i d) (get_or js i d) (get_or ks i d) (opened i d l) (each i d (omega arith)) (none i d (omega arith))

  module _ (answers : Answers) (at : ℕ) where
    -- a look changes nothing of it
    pub looked_open : (js0 ks : List (Job P)) (y e : Job P) → length ks ≡ length js0 → Looks state is_of causes net answers at (get_or ks at e) y → AllOpen js0 ks → AllOpen js0 (set ks at y)
    looked_open js0 ks y e size w opened i d l = dite (ℕ_discrete i at)
        (λ here. subst (Opens state (get_or js0 i d)) (sym (mine here)) (more_open (get_or js0 i d) (get_or ks at e) y [] (subst (Opens state (get_or js0 i d)) (same here) (opened i d l)) (λ down. sym w.risen ∙ down) w.posts))
        (λ other. subst (Opens state (get_or js0 i d)) (sym (get_or-set_other ks at i y d other)) (opened i d l))
      where
        mine : i ≡ at → get_or (set ks at y) i d ≡ y
        mine here = ap (λ n. get_or (set ks at y) n d) here ∙ get_or-set_same ks at y d (omega (arith, here, l, size))

        same : i ≡ at → get_or ks i d ≡ get_or ks at e
        same here = ap (λ n. get_or ks n d) here ∙ defaults ks at d e (omega (arith, here, l, size))
          where
            defaults : (xs : List (Job P)) (n : ℕ) (d e : Job P) → n < length xs → get_or xs n d ≡ get_or xs n e
            defaults [] n d e l = absurd (none l) where
              none : n < 0 → ⊥
              none l = omega (arith, l)
            defaults (x ∷ xs) zero d e l = refl
            defaults (x ∷ xs) (suc n) d e l = defaults xs n d e (omega (arith, l))

    -- ---- the first call

    new_opens : (rs : List Round) (j y : Job P) → IsNew state is_of net j → Looks state is_of causes net answers at j y → y.first ≡ begin_moves rs → IsToOpen state is_of net rs y
    new_opens rs j y n w first = record {
      fault = w.fault ∙ n.fault;
      own = w.own;
      up = w.up;
      nothing = w.posts ∙ ap (λ (es : List Event). es ++ []) n.nothing;
      first = first;
      cursor = w.cursor ∙ n.cursor;
      risen = w.risen ∙ n.risen;
    }

    still_opens : (rs : List Round) (j : Job P) → rs ≡ [] → IsNew state is_of net j → IsToOpen state is_of net rs j
    still_opens rs j none n = record {
      fault = n.fault;
      own = n.own;
      up = n.up;
      nothing = n.nothing;
      first = n.first ∙ ap begin_moves (sym none);
      cursor = n.cursor;
      risen = n.risen;
    }

    -- each node has posted nothing, and one of them is to begin the round that was called, if one was
    pub first_asked : (js : List (Job P)) (called after : List Call) (y e : Job P) (left : Bool) → called ≡ [] → All (IsNew state is_of net) js → at < length js → Looks state is_of causes net answers at (get_or js at e) y
        → Asked state (answers (state (get_or js at e).cell).config (state (get_or js at e).cell).node) called after (get_or js at e) y left
        → (i : ℕ) (d : Job P) → i < length js → IsToOpen state is_of net (only_at at i (rounds after)) (get_or (set js at y) i d)
    first_asked js called after y e left none new there w a i d l = dite (ℕ_discrete i at)
        (λ here. subst (IsToOpen state is_of net (only_at at i (rounds after))) (sym (ap (λ n. get_or (set js at y) n d) here ∙ get_or-set_same js at y d there))
        (subst (λ rs. IsToOpen state is_of net rs y) (sym (only_here at i (rounds after) here)) (new_opens (rounds after) (get_or js at e) y (new at e there) w (a.first ∙ ap (λ cs. begin_moves (rounds cs)) (sym after_is)))))
        (λ other. subst (IsToOpen state is_of net (only_at at i (rounds after))) (sym (get_or-set_other js at i y d other))
        (still_opens (only_at at i (rounds after)) (get_or js i d) (only_else at i (rounds after) other) (new i d l)))
      where
        after_is : after ≡ option_to_list a.answer
        after_is = a.called ∙ ap (λ cs. cs ++ option_to_list a.answer) none

    -- the answer of the caller
    pub first_answer : (js : List (Job P)) (called after : List Call) (y e d : Job P) (left : Bool) → called ≡ [] → at < length js → Looks state is_of causes net answers at (get_or js at e) y
        → Asked state (answers (state (get_or js at e).cell).config (state (get_or js at e).cell).node) called after (get_or js at e) y left → HasAnswered state answers after (get_or (set js at y) at d)
    first_answer js called after y e d left none there w a = subst (HasAnswered state answers after) (sym (get_or-set_same js at y d there)) (record {
      answer = a.answer;
      called_is = a.called ∙ ap (λ cs. cs ++ option_to_list a.answer) none;
      may = subst (λ n. answers (state y.cell).config n [] (state y.cell).list a.answer) (sym w.goes.node)
          (subst (λ c. answers c (state (get_or js at e).cell).node [] (state y.cell).list a.answer) (sym w.goes.config)
          (subst (λ cs. answers (state (get_or js at e).cell).config (state (get_or js at e).cell).node cs (state y.cell).list a.answer) none a.may));
    })
