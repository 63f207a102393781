-- What a caller that adapts calls next follows the round that it called last.
use Rattle.std.proofs.Common.{◌≡◌, ◌≢◌, inl, inr, ℕ, ◌+◌, ◌<◌, ◌≤◌, min, Bool, true, false, cond, List, [], ◌∷◌, ◌++◌, length, take, get_or, Option, Some, None, refl, sym, ap, ◌∙◌, subst, arith, eq-eqb}
use Rattle.std.specs.Prelude.{nat_lt, nat_eq, ◌&&◌, IsTrue, ◌↔◌}
use Rattle.std.proofs.lemmas.Bool.{ltb-true, leb-true}
use Rattle.std.proofs.lemmas.Bool.Decides.{eqb_tells}
use Rattle.std.proofs.lemmas.List.{take_more}
use Rattle.gp_round.specs.Configs.{lead_of}
use Rattle.gp_round.specs.declared.round.Mode.{Mode}
use Rattle.gp_round.specs.declared.round.Mode.TheVariants.{Single, Multi, Fast}
use Rattle.gp_round.specs.declared.round.Round.{Round}
use Rattle.gp_adapt.specs.declared.scene.TheConstants.{MOST_CLASHES}
use Rattle.gp_adapt.specs.Choices.{mode_after}
use Rattle.gp_adapt.specs.Courses.{CourseState, opening, is_calm_next, after_quiet, moved, begins}
use Rattle.gp_collide.specs.Watched.{Watched}
use Rattle.gp_collide.specs.Clashes.{HasClash}
use Rattle.gp_phase.specs.declared.caller.Call.{Call}
use Rattle.gp_round.proofs.Counting.{left_true, right_true}
use Rattle.gp_caller.specs.declared.policy.TheConstants.{LEADER, CALM}
use Rattle.gp_round.specs.declared.config.TheConstants.{LAST_COUNT}
use Rattle.gp_caller.specs.Adapting.{first_there, last_for, or_zero, NextMode, MayFollow, MayCall, Follows, IsOverLast, clashes_before, IsInCourse, course_at, ComesAtCalm, IsOneLook}

-- ---- the round that was called last for an epoch

there_first : (a b c : Option Round) → first_there (first_there a b) c ≡ first_there a (first_there b c)
there_first None b c = refl
there_first (Some r) b c = refl

none_after : (a : Option Round) → first_there a None ≡ a
none_after None = refl
none_after (Some r) = refl

last_for_more : (e : ℕ) (cs : List Call) (c : Call) → last_for e (cs ++ c ∷ []) ≡ first_there (last_for e (c ∷ [])) (last_for e cs)
last_for_more e [] c = sym (none_after (last_for e (c ∷ [])))
last_for_more e (d ∷ cs) c = ap (λ o. first_there o (last_for e (d ∷ []))) (last_for_more e cs c) ∙ there_first (last_for e (c ∷ [])) (last_for e cs) (last_for e (d ∷ []))

-- it is that of one more call, if that is for the epoch
pub last_for_next : (e : ℕ) (cs : List Call) (c : Call) → c.epoch ≡ e → last_for e (cs ++ c ∷ []) ≡ Some c.round
last_for_next e cs c is = last_for_more e cs c ∙ ap (λ b. first_there (cond b (Some c.round) None) (last_for e cs)) (eq-eqb c.epoch e is)

last_for_same : (e : ℕ) (cs : List Call) (c : Call) → c.epoch ≢ e → last_for e (cs ++ c ∷ []) ≡ last_for e cs
last_for_same e cs c other =
    let no : nat_eq c.epoch e ≡ false = elim (eqb_tells c.epoch e) [ inl t ↦ absurd (other t.1) | inr t ↦ t.0 ] in
    last_for_more e cs c ∙ ap (λ b. first_there (cond b (Some c.round) None) (last_for e cs)) no

-- the same for the call at a place, behind those before it
pub last_for_taken : (e i : ℕ) (cs : List Call) (d : Call) → i < length cs → (get_or cs i d).epoch ≡ e → last_for e (take (i + 1) cs) ≡ Some (get_or cs i d).round
last_for_taken e i cs d l is = ap (last_for e) (take_more cs i d l) ∙ last_for_next e (take i cs) (get_or cs i d) is

pub last_for_passed : (e i : ℕ) (cs : List Call) (d : Call) → i < length cs → (get_or cs i d).epoch ≢ e → last_for e (take (i + 1) cs) ≡ last_for e (take i cs)
last_for_passed e i cs d l other = ap (last_for e) (take_more cs i d l) ∙ last_for_same e (take i cs) (get_or cs i d) other

-- ---- the round that is called next

-- behind a round of this mode, after so many clashes, and one more
after_clash : (m : Mode) (n : ℕ) (next : Mode) → n ≡ clashes_before m → next ≡ mode_after (min MOST_CLASHES (n + 1))
    → NextMode m true next × (min MOST_CLASHES (n + 1) ≡ clashes_before next)
after_clash Fast n next e f = let is : next ≡ Multi = f ∙ ap (λ k. mode_after (min MOST_CLASHES (k + 1))) e in ((refl, is), ap (λ k. min MOST_CLASHES (k + 1)) e ∙ sym (ap clashes_before is))
after_clash Multi n next e f = let is : next ≡ Single = f ∙ ap (λ k. mode_after (min MOST_CLASHES (k + 1))) e in (inl (refl, is), ap (λ k. min MOST_CLASHES (k + 1)) e ∙ sym (ap clashes_before is))
after_clash Single n next e f = let is : next ≡ Single = f ∙ ap (λ k. mode_after (min MOST_CLASHES (k + 1))) e in (inl (refl, is), ap (λ k. min MOST_CLASHES (k + 1)) e ∙ sym (ap clashes_before is))

-- and once they came back to none
after_return : (m : Mode) (n : ℕ) (next : Mode) → n ≡ clashes_before m → nat_lt 0 n ≡ true → next ≡ mode_after 0 → NextMode m false next
after_return Fast n next e some f = absurd (cc)
after_return Multi n next e some f = inr (refl, f)
after_return Single n next e some f = inr (refl, f)

-- the course once a first call was made, and the round that is called by it
abbrev begun_at : ℕ → ℕ → ℕ → CourseState
begun_at calm n quiet = record { calm = calm; begun = true; clashes = n; quiet = quiet }

abbrev IsBehind : Round → Bool → Round → CourseState → Type 0
IsBehind q clashed r s = NextMode q.mode clashed r.mode × (s.calm ≡ CALM) × (s.begun ≡ true) × (s.clashes ≡ clashes_before r.mode)

by_clashed : (calm n quiet : ℕ) (q r : Round) (clashed : Bool) → calm ≡ CALM → n ≡ clashes_before q.mode → begins (begun_at calm n quiet) clashed ≡ true → r.mode ≡ mode_after (moved (begun_at calm n quiet) clashed).clashes
    → IsBehind q clashed r (moved (begun_at calm n quiet) clashed)
by_clashed calm n quiet q r true at e some f = let a = after_clash q.mode n r.mode e f in (a.0, at, refl, a.1)
by_clashed calm n quiet q r false at e some f =
    let s = begun_at calm n quiet in
    let ends : is_calm_next s ≡ true = left_true (is_calm_next s) (nat_lt 0 n) some in
    let after : after_quiet s ≡ record s { clashes = 0; quiet = 0 } = ap (λ b. cond b (record s { clashes = 0; quiet = 0 }) (record s { quiet = quiet + 1 })) ends in
    let is : r.mode ≡ Fast = f ∙ ap (λ (t : CourseState). mode_after t.clashes) after in
    subst (λ t. IsBehind q false r t) (sym after)
    (after_return q.mode n r.mode e (right_true (is_calm_next s) (nat_lt 0 n) some) is, at, refl, sym (ap clashes_before is))

by_begun : (s : CourseState) (q r : Round) (clashed : Bool) → s.begun ≡ true → s.calm ≡ CALM → s.clashes ≡ clashes_before q.mode → begins s clashed ≡ true → r.mode ≡ mode_after (moved s clashed).clashes
    → IsBehind q clashed r (moved s clashed)
by_begun s q r clashed begun at e some f =
    let same : begun_at s.calm s.clashes s.quiet ≡ s = λ i. record s { begun = sym begun i } in
    subst (λ t. IsBehind q clashed r (moved t clashed)) same
    (by_clashed s.calm s.clashes s.quiet q r clashed at e (ap (λ t. begins t clashed) same ∙ some) (f ∙ ap (λ t. mode_after (moved t clashed).clashes) (sym same)))

pub next_follows : (s : CourseState) (last : Option Round) (clashed : Bool) (r : Round) → IsInCourse s last → (begins s clashed && nat_lt (or_zero last).count LAST_COUNT) ≡ true
    → r.count ≡ (or_zero last).count + 1 → r.mode ≡ mode_after (moved s clashed).clashes → r.lead ≡ lead_of r.mode LEADER
    → MayFollow last clashed r × IsInCourse (moved s clashed) (Some r)
next_follows s None clashed r h some count mode lead =
    let is : r.mode ≡ Fast = mode ∙ ap (λ t. mode_after (moved t clashed).clashes) h in
    let led : r.lead ≡ LEADER = lead ∙ ap (λ m. lead_of m LEADER) is in (
      (λ i. record { count = count i; mode = is i; lead = led i }),
      subst (λ t. IsInCourse (moved t clashed) (Some r)) (sym h) (refl, refl, omega (arith, count), λ l. sym (ap clashes_before is)),
    )
next_follows s (Some q) clashed r h some count mode lead =
    let low : q.count < LAST_COUNT = ltb-true q.count LAST_COUNT (right_true (begins s clashed) (nat_lt q.count LAST_COUNT) some) in
    let f = by_begun s q r clashed h.1 h.0 (h.3 low) (left_true (begins s clashed) (nat_lt q.count LAST_COUNT) some) mode in
    (record { count = count; lead = lead; mode = f.0 }, (f.1, f.2, omega (arith, count), λ l. f.3))

-- ---- looks

-- the course at a look in the epoch of the look before, and in another one
pub same_epoch : (before epoch : ℕ) (s : CourseState) → epoch ≡ before → s ≡ course_at before epoch s
same_epoch before epoch s is = sym (ap (λ b. cond b s (opening s.calm)) (eq-eqb epoch before is))

pub other_epoch : (before epoch : ℕ) (s : CourseState) → epoch ≢ before → opening s.calm ≡ course_at before epoch s
other_epoch before epoch s other =
    let no : nat_eq epoch before ≡ false = elim (eqb_tells epoch before) [ inl t ↦ absurd (other t.1) | inr t ↦ t.0 ] in
    sym (ap (λ b. cond b s (opening s.calm)) no)

fast_after_none : (n : ℕ) → mode_after n ≡ Fast → n ≡ 0
fast_after_none n e =
    elim (eqb_tells n 0) [
      | inl none ↦ none.1
      | inr some ↦ elim (eqb_tells n 1) [
        | inl one ↦ absurd (let wrong : Multi ≡ Fast = sym (ap (λ b. cond b Fast (cond (nat_eq n 1) Multi Single)) some.0 ∙ ap (λ b. cond b Multi Single) one.0) ∙ e in cc)
        | inr more ↦ absurd (let wrong : Single ≡ Fast = sym (ap (λ b. cond b Fast (cond (nat_eq n 1) Multi Single)) some.0 ∙ ap (λ b. cond b Multi Single) more.0) ∙ e in cc)
      ]
    ]

-- a fast round is called at a calm
calm_at : (calm n quiet : ℕ) (clashed : Bool) (m : Mode) → calm ≡ CALM → begins (begun_at calm n quiet) clashed ≡ true → m ≡ mode_after (moved (begun_at calm n quiet) clashed).clashes → m ≡ Fast
    → (clashed ≡ false) × (CALM ≤ quiet + 1)
calm_at calm n quiet true m at some mode fast =
    let none : min MOST_CLASHES (n + 1) ≡ 0 = fast_after_none (min MOST_CLASHES (n + 1)) (sym mode ∙ fast) in
    absurd (omega (arith, none))
calm_at calm n quiet false m at some mode fast =
    let ends : is_calm_next (begun_at calm n quiet) ≡ true = left_true (is_calm_next (begun_at calm n quiet)) (nat_lt 0 n) some in
    (refl, subst (λ (k : ℕ). k ≤ quiet + 1) at (leb-true calm (quiet + 1) ends))

comes_at_calm : (s : CourseState) (clashed : Bool) (call : Call) → s.calm ≡ CALM → begins s clashed ≡ true → call.round.mode ≡ mode_after (moved s clashed).clashes → ComesAtCalm s clashed call
comes_at_calm s clashed call at some mode = λ begun fast.
    let same : begun_at s.calm s.clashes s.quiet ≡ s = λ i. record s { begun = sym begun i } in
    calm_at s.calm s.clashes s.quiet clashed call.round.mode at (ap (λ t. begins t clashed) same ∙ some) (mode ∙ ap (λ t. mode_after (moved t clashed).clashes) (sym same)) fast

calm_is : (s : CourseState) (last : Option Round) → IsInCourse s last → s.calm ≡ CALM
calm_is s None h = ap (λ (t : CourseState). t.calm) h
calm_is s (Some q) h = h.0

-- a look that calls a round, and one that calls none
pub looked : (s : CourseState) (w : Watched) (after : CourseState) (clashed : Bool) (call : Call) (last : Option Round) (count : ℕ) → IsTrue clashed ↔ HasClash w → IsInCourse s last → after ≡ moved s clashed
    → true ≡ (begins s clashed && nat_lt count LAST_COUNT) → call.round.mode ≡ mode_after (moved s clashed).clashes → IsOneLook s w after (Some call)
looked s w after clashed call last count clash h course some mode =
    let begun = left_true (begins s clashed) (nat_lt count LAST_COUNT) (sym some) in
    record { clashed = clashed; clash = clash; course = course; begun = begun; calm = comes_at_calm s clashed call (calm_is s last h) begun mode }

-- ---- what a caller decides

module _ (w : Watched) (calls : List Call) (e : ℕ) (q : Round) (is : w.round ≡ (e, q)) (over : IsOverLast w calls) where
  over_last : q ≡ or_zero (last_for e calls)
  over_last = subst (λ (p : ℕ × Round). p.1 ≡ or_zero (last_for p.0 calls)) is over

  -- it remembers the round that it calls
  pub next_in_course : (s : CourseState) (clashed : Bool) (r : Round) → IsInCourse s (last_for e calls) → true ≡ (begins s clashed && nat_lt q.count LAST_COUNT)
      → r.count ≡ q.count + 1 → r.mode ≡ mode_after (moved s clashed).clashes → r.lead ≡ lead_of r.mode LEADER
      → MayFollow (last_for e calls) clashed r × IsInCourse (moved s clashed) (Some r)
  next_in_course s clashed r h some count mode lead =
      next_follows s (last_for e calls) clashed r h
      (sym (subst (λ (k : Round). true ≡ (begins s clashed && nat_lt k.count LAST_COUNT)) over_last some))
      (subst (λ (k : Round). r.count ≡ k.count + 1) over_last count) mode lead

  pub called : (clashed : Bool) (r : Round) → IsTrue clashed ↔ HasClash w → MayFollow (last_for e calls) clashed r → Follows w calls (Some (record { epoch = e; round = r }))
  called clashed r clash may = record {
    clashed = clashed;
    clash = clash;
    may = subst (λ n. MayCall n (last_for n calls) clashed (Some (record { epoch = e; round = r }))) (sym (ap (λ (p : ℕ × Round). p.0) is)) (refl, may);
  }
