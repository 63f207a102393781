-- How many rounds are answered.
use Rattle.std.proofs.Common.{◌≡◌, ℕ, ◌+◌, ◌*◌, ◌≤◌, Bool, true, false, cond, ◌&&◌, List, [], ◌∷◌, subst, sym, arith}
use Rattle.std.specs.Prelude.{not, nat_lt}
use Rattle.std.specs.Option.{is_some}
use Rattle.std.proofs.lemmas.List.Sums.{sum_by-cons}
use Rattle.gp_round.specs.declared.config.TheConstants.{LAST_COUNT}
use Rattle.gp_adapt.specs.Courses.{CourseState, opening, is_calm_next, moved, begins}
use Rattle.gp_adapt.specs.Calls.{Call, IsAnswered, AreAnswered, answers_in, clashes_in}

-- one for what is true
abbrev one : Bool → ℕ
one b = cond b 1 0

-- how many rounds may be answered without a clash: the first one, and one that brings clashes back to none
abbrev room : CourseState → ℕ
room s = one (not s.begun) + one (nat_lt 0 s.clashes)

at_most_one : (b : Bool) → one b ≤ 1
at_most_one true = omega arith
at_most_one false = omega arith

both_below : (a b : Bool) → one (a && b) ≤ one a
both_below true b = at_most_one b
both_below false b = omega arith

first_step : (w k : ℕ) → 1 + (0 + w) ≤ 1 + w + 2 * k
first_step w k = omega arith

clash_step : (a w : ℕ) → a ≤ 1 → 1 + (0 + a) ≤ 0 + w + 2 * 1
clash_step a w h = omega arith

-- whether the call makes a calm or not
quiet_step : (calm n q : ℕ) (ends : Bool) → (let s : CourseState = record { calm = calm; begun = true; clashes = n; quiet = q } in
    one (ends && nat_lt 0 n) + room (cond ends (record s { clashes = 0; quiet = 0 }) (record s { quiet = q + 1 })) ≤ room s + 2 * one false)
quiet_step calm n q true = omega arith
quiet_step calm n q false = omega arith

step_at : (calm : ℕ) (begun : Bool) (clashes quiet : ℕ) (clashed : Bool) → (let s : CourseState = record { calm = calm; begun = begun; clashes = clashes; quiet = quiet } in one (begins s clashed) + room (moved s clashed) ≤ room s + 2 * one clashed)
step_at calm false n q clashed = first_step (one (nat_lt 0 n)) (one clashed)
step_at calm true n q true = clash_step (one (nat_lt 0 _)) (one (nat_lt 0 n)) (at_most_one (nat_lt 0 _))
step_at calm true n q false = quiet_step calm n q (is_calm_next (record { calm = calm; begun = true; clashes = n; quiet = q }))

step : (s : CourseState) (c : Call) → IsAnswered s c → one (is_some c.answer) + room (moved s c.clashed) ≤ room s + 2 * one c.clashed
step s c h =
    let below : one (is_some c.answer) ≤ one (begins s c.clashed) = subst (λ (b : Bool). one b ≤ one (begins s c.clashed)) (sym h.some) (both_below (begins s c.clashed) (nat_lt c.highest.count LAST_COUNT)) in
    let next = step_at s.calm s.begun s.clashes s.quiet c.clashed in
    joined (one (is_some c.answer)) (one (begins s c.clashed)) (room (moved s c.clashed)) (room s + 2 * one c.clashed) below next
  where
    joined : (a b r t : ℕ) → a ≤ b → b + r ≤ t → a + r ≤ t
    joined a b r t h k = omega arith

more : (a r s k x y m n : ℕ) → a + r ≤ s + 2 * k → x ≤ r + 2 * y → m ≡ a + x → n ≡ k + y → m ≤ s + 2 * n
more a r s k x y m n h j e f = omega arith

answers_by : (s : CourseState) (cs : List Call) → AreAnswered s cs → answers_in cs ≤ room s + 2 * clashes_in cs
answers_by s [] h = omega arith
answers_by s (c ∷ cs) h =
    more (one (is_some c.answer)) (room (moved s c.clashed)) (room s) (one c.clashed) (answers_in cs) (clashes_in cs) (answers_in (c ∷ cs)) (clashes_in (c ∷ cs))
    (step s c h.0) (answers_by (moved s c.clashed) cs h.1)
    (sum_by-cons (λ (x : Call). one (is_some x.answer)) c cs) (sum_by-cons (λ (x : Call). one x.clashed) c cs)

pub few_answers : (calm : ℕ) (cs : List Call) → AreAnswered (opening calm) cs → answers_in cs ≤ 1 + 2 * clashes_in cs
few_answers calm cs h = answers_by (opening calm) cs h
