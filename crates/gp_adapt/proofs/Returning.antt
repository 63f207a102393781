-- Clashes before a return to none.
use Rattle.std.proofs.Common.{◌≡◌, inl, inr, ℕ, ◌+◌, ◌<◌, ◌≤◌, Bool, true, false, cond, ◌&&◌, ◌||◌, ◌++◌, List, [], ◌∷◌, Option, Some, None, All, refl, sym, subst, ap, ◌∙◌, arith}
use Rattle.std.specs.Prelude.{not, nat_lt, min, unwrap_or}
use Rattle.std.specs.Option.{is_some}
use Rattle.std.proofs.Math.Nat.{min-le_left, min-eq_right}
use Rattle.std.proofs.lemmas.Bool.{ltb-false, lt-ltb}
use Rattle.std.proofs.lemmas.List.Elements.{All-head, All-tail}
use Rattle.std.proofs.lemmas.List.Sums.{sum_by-cons}
use Rattle.gp_round.specs.declared.round.Mode.TheVariants.{Single}
use Rattle.gp_round.specs.declared.round.Round.{Round}
use Rattle.gp_round.specs.declared.config.TheConstants.{LAST_COUNT}
use Rattle.gp_adapt.specs.Courses.{CourseState, opening, is_calm_next, moved, begins, returns}
use Rattle.gp_adapt.specs.Calls.{Call, IsAnswered, AreAnswered, NoneReturns, course_after, clashes_in}
use Rattle.gp_adapt.specs.Told.{IsTold, AreTold, AreWatchedCalls}
use Rattle.gp_adapt.proofs.SingleRounds.{single_is_calm}
use Rattle.gp_agreement.proofs.Growing.{by_order}

-- a clash is not told of a single round
no_clash : (r : Round) (clashed : Bool) → r.mode ≡ Single → IsTold r clashed → clashed ≡ true → ⊥
no_clash r clashed single told e =
    let clash = told.clash e in
    clash.incompatible (single_is_calm told.config told.some told.entries told.legal told.epoch r single told.seen told.sent clash.one clash.other clash.left clash.right clash.kept_left clash.kept_right)

-- after the first call, with r the round last answered: with two clashes it is single
record Stands (s : CourseState) (r : Round) : Type 0 where
  begun : s.begun ≡ true
  few : s.clashes ≤ 2
  single : 2 ≤ s.clashes → r.mode ≡ Single

-- a call after the first, told of a clash or not
moved_true : (s : CourseState) → s.begun ≡ true → (moved s true).clashes ≡ min 2 (s.clashes + 1)
moved_true s e = by_begun s.begun e
  where
    by_begun : (b : Bool) → b ≡ true → (cond b (record s { clashes = min 2 (s.clashes + 1); quiet = 0 }) (record s { begun = true })).clashes ≡ min 2 (s.clashes + 1)
    by_begun true h = refl
    by_begun false h = absurd (cc)

quiet_keeps : (s : CourseState) (ends : Bool) → (ends && nat_lt 0 s.clashes) ≡ false → (cond ends (record s { clashes = 0; quiet = 0 }) (record s { quiet = s.quiet + 1 })).clashes ≡ s.clashes
quiet_keeps s true h = zero_of s.clashes h
  where
    zero_of : (n : ℕ) → nat_lt 0 n ≡ false → 0 ≡ n
    zero_of n k = omega (arith, ltb-false 0 n k)
quiet_keeps s false h = refl

moved_false : (s : CourseState) → s.begun ≡ true → returns s false ≡ false → (moved s false).clashes ≡ s.clashes
moved_false s e none = by_begun s.begun e none
  where
    by_begun : (b : Bool) → b ≡ true → (b && true && is_calm_next s && nat_lt 0 s.clashes) ≡ false
        → (cond b (cond (is_calm_next s) (record s { clashes = 0; quiet = 0 }) (record s { quiet = s.quiet + 1 })) (record s { begun = true })).clashes ≡ s.clashes
    by_begun true h k = quiet_keeps s (is_calm_next s) k
    by_begun false h k = absurd (cc)

-- what is begun stays begun
moved_begun : (s : CourseState) (clashed : Bool) → s.begun ≡ true → (moved s clashed).begun ≡ true
moved_begun s clashed e = by_begun s.begun e
  where
    same : (u v : CourseState) (b : Bool) → u.begun ≡ true → v.begun ≡ true → (cond b u v).begun ≡ true
    same u v true h k = h
    same u v false h k = k

    by_begun : (b : Bool) → b ≡ true
        → (cond b (cond clashed (record s { clashes = min 2 (s.clashes + 1); quiet = 0 }) (cond (is_calm_next s) (record s { clashes = 0; quiet = 0 }) (record s { quiet = s.quiet + 1 }))) (record s { begun = true })).begun ≡ true
    by_begun true h = same _ _ clashed e (same _ _ (is_calm_next s) e e)
    by_begun false h = refl

-- a call that does not begin a round was told of no clash, and brings nothing back
not_begun : (s : CourseState) (clashed : Bool) → begins s clashed ≡ false → (clashed ≡ false) × (returns s clashed ≡ false)
not_begun s clashed h = parts (not s.begun) clashed (returns s clashed) h
  where
    parts : (a b c : Bool) → (a || b || c) ≡ false → (b ≡ false) × (c ≡ false)
    parts true b c k = absurd (cc)
    parts false true c k = absurd (cc)
    parts false false c k = (refl, k)

-- where no round is answered though a count is left, none begins
none_begins : (s : CourseState) (c : Call) → IsAnswered s c → c.highest.count < LAST_COUNT → c.answer ≡ None → begins s c.clashed ≡ false
none_begins s c h left none =
    let lt : nat_lt c.highest.count LAST_COUNT ≡ true = lt-ltb c.highest.count LAST_COUNT left in
    all_false (begins s c.clashed) (nat_lt c.highest.count LAST_COUNT) lt (sym h.some ∙ ap (λ (o : Option Round). is_some o) none)
  where
    all_false : (a b : Bool) → b ≡ true → (a && b) ≡ false → a ≡ false
    all_false true b e k = absurd (let f : b ≡ false = k in cc)
    all_false false b e k = refl

step_stands : (s : CourseState) (r : Round) (c : Call) → Stands s r → IsAnswered s c → c.highest.count < LAST_COUNT → Stands (moved s c.clashed) (unwrap_or c.answer r)
step_stands s r c h a left = record {
  begun = moved_begun s c.clashed h.begun;
  few = few c.clashed;
  single = by_answer c.answer refl;
}
  where
    quiet_few : (ends : Bool) → (cond ends (record s { clashes = 0; quiet = 0 }) (record s { quiet = s.quiet + 1 })).clashes ≤ 2
    quiet_few true = omega arith
    quiet_few false = h.few

    by_begun : (b : Bool) → (cond b (cond (is_calm_next s) (record s { clashes = 0; quiet = 0 }) (record s { quiet = s.quiet + 1 })) (record s { begun = true })).clashes ≤ 2
    by_begun true = quiet_few (is_calm_next s)
    by_begun false = h.few

    few : (clashed : Bool) → (moved s clashed).clashes ≤ 2
    few true = let P : ℕ → Type 0 = λ n. n ≤ 2 in subst P (sym (moved_true s h.begun)) (min-le_left 2 (s.clashes + 1))
    few false = by_begun s.begun

    by_answer : (o : Option Round) → c.answer ≡ o → 2 ≤ (moved s c.clashed).clashes → (unwrap_or c.answer r).mode ≡ Single
    by_answer (Some q) e two = ap (λ (k : Option Round). (unwrap_or k r).mode) e ∙ a.single two q e
    by_answer None e two =
        let none = not_begun s c.clashed (none_begins s c a left e) in
        let same : (moved s c.clashed).clashes ≡ s.clashes = ap (λ (b : Bool). (moved s b).clashes) none.0 ∙ moved_false s h.begun (ap (λ (b : Bool). returns s b) (sym none.0) ∙ none.1) in
        ap (λ (k : Option Round). (unwrap_or k r).mode) e ∙ h.single (let P : ℕ → Type 0 = λ n. 2 ≤ n in subst P same two)

-- one more call
more_clashes : (s : CourseState) (r : Round) (c : Call) (n m : ℕ) → Stands s r → IsTold r c.clashed → returns s c.clashed ≡ false
    → n + (moved s c.clashed).clashes ≤ 2 → m ≡ cond c.clashed 1 0 + n → m + s.clashes ≤ 2
more_clashes s r c n m h told none rest is = by_clash c.clashed refl
  where
    by_clash : (b : Bool) → c.clashed ≡ b → m + s.clashes ≤ 2
    by_clash true e =
        let single : 2 ≤ s.clashes → ⊥ = λ two. no_clash r c.clashed (h.single two) told e in
        let low : s.clashes + 1 ≤ 2 = below single in
        let grows : (moved s c.clashed).clashes ≡ s.clashes + 1 = ap (λ (b : Bool). (moved s b).clashes) e ∙ moved_true s h.begun ∙ min-eq_right low in
        let one : m ≡ 1 + n = is ∙ ap (λ (b : Bool). cond b 1 0 + n) e in
        joined m n s.clashes (moved s c.clashed).clashes grows one rest
      where
        below : (2 ≤ s.clashes → ⊥) → s.clashes + 1 ≤ 2
        below none = elim (by_order s.clashes 1) [
          | inl low ↦ omega (arith, low)
          | inr h ↦ elim h [ inl is ↦ omega (arith, is) | inr high ↦ absurd (none (omega (arith, high))) ]
        ]

        joined : (m n k l : ℕ) → l ≡ k + 1 → m ≡ 1 + n → n + l ≤ 2 → m + k ≤ 2
        joined m n k l e f g = omega arith
    by_clash false e =
        let same : (moved s c.clashed).clashes ≡ s.clashes = ap (λ (b : Bool). (moved s b).clashes) e ∙ moved_false s h.begun (ap (λ (b : Bool). returns s b) (sym e) ∙ none) in
        let zero : m ≡ 0 + n = is ∙ ap (λ (b : Bool). cond b 1 0 + n) e in
        joined m n s.clashes (moved s c.clashed).clashes same zero rest
      where
        joined : (m n k l : ℕ) → l ≡ k → m ≡ 0 + n → n + l ≤ 2 → m + k ≤ 2
        joined m n k l e f g = omega arith

-- a count is left
abbrev Counts : List Call → Type 0
Counts cs = All (λ c. c.highest.count < LAST_COUNT) cs

abbrev IsCounted : Call → Type 0
IsCounted c = c.highest.count < LAST_COUNT

clashes_left : (s : CourseState) (r : Round) (ys : List Call) → Stands s r → AreAnswered s ys → AreTold (Some r) ys → Counts ys → NoneReturns s ys → clashes_in ys + s.clashes ≤ 2
clashes_left s r [] h a told left none = let few = h.few in omega arith
clashes_left s r (c ∷ ys) h a told left none =
    more_clashes s r c (clashes_in ys) (clashes_in (c ∷ ys)) h told.0 none.0
    (clashes_left (moved s c.clashed) (unwrap_or c.answer r) ys (step_stands s r c h a.0 (All-head IsCounted c ys left)) a.1 told.1 (All-tail IsCounted c ys left) none.1)
    (sum_by-cons (λ (x : Call). cond x.clashed 1 0) c ys)

after_some : (s : CourseState) (r : Round) (xs ys : List Call) → Stands s r → AreAnswered s (xs ++ ys) → AreTold (Some r) (xs ++ ys) → Counts (xs ++ ys) → NoneReturns (course_after s xs) ys → clashes_in ys ≤ 2
after_some s r [] ys h a told left none = let all = clashes_left s r ys h a told left none in omega arith
after_some s r (x ∷ xs) ys h a told left none = after_some (moved s x.clashed) (unwrap_or x.answer r) xs ys (step_stands s r x h a.0 (All-head IsCounted x (xs ++ ys) left)) a.1 told.1 (All-tail IsCounted x (xs ++ ys) left) none

-- the first call answers a round, if a count is left
first_stands : (calm : ℕ) (first : Call) (cs : List Call) → IsAnswered (opening calm) first → first.highest.count < LAST_COUNT → AreTold None (first ∷ cs)
    → (r : Round) × Stands (moved (opening calm) first.clashed) r × AreTold (Some r) cs
first_stands calm first cs h left told = by_answer first.answer refl told
  where
    by_answer : (o : Option Round) → first.answer ≡ o → AreTold o cs → (r : Round) × Stands (moved (opening calm) first.clashed) r × AreTold (Some r) cs
    by_answer (Some r) e t = (r, record { begun = refl; few = omega arith; single = λ two. absurd (omega (arith, two)) }, t)
    by_answer None e t = absurd (let begins : begins (opening calm) first.clashed ≡ false = none_begins (opening calm) first h left e in cc)

pub few_clashes : (calm : ℕ) (first : Call) (xs ys : List Call) → AreWatchedCalls calm (first ∷ (xs ++ ys)) → NoneReturns (course_after (opening calm) (first ∷ xs)) ys → clashes_in ys ≤ 2
few_clashes calm first xs ys w none =
    let begun = first_stands calm first (xs ++ ys) w.answered.0 (All-head IsCounted first (xs ++ ys) w.counts) w.told in
    after_some (moved (opening calm) first.clashed) begun.0 xs ys begun.1 w.answered.1 begun.2 (All-tail IsCounted first (xs ++ ys) w.counts) none
