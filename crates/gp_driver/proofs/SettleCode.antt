-- The frame of settling in code.
use Rattle.std.proofs.Common.{◌≡◌, ℕ, zero, suc, ◌+◌, ◌-◌, ◌<◌, ◌≤◌, Bool, true, false, cond, List, [], ◌∷◌, length, Some, None, refl, sym, ap, ◌∙◌, subst, arith}
use Rattle.std.specs.Prelude.{Option, drop}
use Rattle.gp_round.specs.Counts.{Counts}
use Rattle.gp_msg.specs.declared.node.Node.TheVariants.{Coordinator}
use Rattle.gp_msg.specs.Messages.{Stamped, Entry}
use Rattle.gp_msg.specs.declared.message.MsgKind.{MsgKind}
use Rattle.gp_msg.specs.declared.message.MsgKind.TheVariants as Kind
use Rattle.gp_run.specs.Messages.{messages}
use Rattle.gp_run.specs.Legal.{Legal}
use Rattle.gp_round.specs.Ranges.{AreInRange}
use Rattle.gp_round.specs.declared.config.TheConstants.{LAST_COUNT}
use Rattle.gp_run.specs.TopCount.{top_count}
use Rattle.gp_driver.specs.Settled.{Settles}
use Rattle.gp_driver.specs.Sweeps.{is_of, places_from, places, first_place, sweep}
use Rattle.gp_driver.proofs.Settled.{settles}
use Rattle.gp_driver.specs.Settling.{closings, closed, pass, passes, finals_of_pass, CanPass, checkpoints, prepared, settle}
use Rattle.gp_driver.proofs.Driving.{swept_grows}
use Rattle.gp_driver.proofs.SettlingCode.{Settling, passes_grow, settled_now, settling_on, closing_room, enough_proposals}
use native.Mathlib.Numerals.{add-one}

pub finals_fit : (config : Counts) (es : List Entry) → length (closings config (places Kind.Final 0 (messages es)) es) ≤ length (prepared config es)
finals_fit config es = let taken = closings config (places Kind.Final 0 (messages es)) es in swept_grows config Coordinator 0 1 (places Kind.Propose 0 (messages taken)) taken (omega arith)

pub prepared_fits : (config : Counts) (es : List Entry) → length (prepared config es) ≤ length (settle config es)
unfolding settle
prepared_fits config es = passes_grow config (suc (checkpoints (messages es))) (prepared config es)

first_within : (kind : MsgKind) (k j : ℕ) (ms : List Stamped) → Some j ≡ first_place (places_from kind k ms) → (j < k + length ms) × (0 < length ms)
first_within kind k j [] e = absurd (let bad : Some j ≡ None = e in cc)
first_within kind k j (m ∷ ms) e = by (is_of kind m) e (λ f. first_within kind (suc k) j ms f) where
  by : (b : Bool) → Some j ≡ first_place (cond b (k ∷ places_from kind (suc k) ms) (places_from kind (suc k) ms)) → (Some j ≡ first_place (places_from kind (suc k) ms) → (j < suc k + length ms) × (0 < length ms))
      → (j < k + suc (length ms)) × (0 < suc (length ms))
  by true e f = let is : j ≡ k = let g : Some j ≡ Some k = e in cc in (omega (arith, is), omega arith)
  by false e f = let g = f e in let a = g.0 in (omega (arith, a), omega arith)

length_drop : {X : Type 0} (n : ℕ) (xs : List X) → length (drop n xs) ≡ length xs - n
length_drop zero xs = omega arith
length_drop (suc n) [] = omega arith
length_drop (suc n) (x ∷ xs) = let r = length_drop n xs in omega (arith, r)

-- the first place of a kind is one where a message stands
pub first_stands : (kind : MsgKind) (start j : ℕ) (ms : List Stamped) → Some j ≡ first_place (places kind start ms) → j < length ms
first_stands kind start j ms e =
    let w = first_within kind start j (drop start ms) e in
    let a = w.0 in
    let b = w.1 in
    let d = length_drop start ms in
    omega (arith, a, b, d)

-- one turn, by the passes that are left
pub turned : (config config_now : Counts) (es now target : List Entry) (f0 f1 : ℕ) (ready : Type 0) (left events : ℕ) (s : Settling config config_now es now target f0 f1 ready (suc left) events)
    (c2 : Counts) (zs : List Entry) (g1 : ℕ) (ready2 : Type 0) (left2 n m k : ℕ)
    → Some k ≡ first_place (finals_of_pass config now) → zs ≡ closed config k (pass config now) → length zs ≡ length now + n + m → c2 ≡ config → g1 ≡ f1 → ready2 → left2 ≡ left
    → Settling config c2 es zs target f0 g1 ready2 left2 (events + n + m)
turned config config_now es now target f0 f1 ready left events s c2 zs g1 ready2 left2 n m k h is more same l r e =
    let on = settling_on config config_now es now target f0 f1 ready left events s k h in
    record {
      same_config = same;
      steady = l ∙ s.steady;
      is_ready = r;
      rest = (λ i. passes config (e i) (is i)) ∙ on.0;
      can = subst (λ (p : ℕ × List Entry). CanPass config p.0 p.1) (λ i. (sym e i, sym is i)) on.1;
      entries = let a = s.entries in omega (arith, a, more);
    }

-- the range of a configuration is that of an equal one
pub range_of : (c d : Counts) → c ≡ d → AreInRange c.acceptors c.coordinators c.learners → AreInRange d.acceptors d.coordinators d.learners
range_of c d e h = subst (λ (x : Counts). AreInRange x.acceptors x.coordinators x.learners) e h

pub brings : (config : Counts) → AreInRange config.acceptors config.coordinators config.learners → (es : List Entry) → Legal config es → top_count config es + checkpoints (messages es) < LAST_COUNT → Settles config es
brings config range es legal rounds =
    let a = range.three_acceptors in
    let b = range.one_coordinator in
    let d = range.one_learner in
    settles config (omega (arith, a)) (omega (arith, b)) (omega (arith, d)) es legal rounds

-- the passes that settle, from where all is prepared
module _ (config : Counts) (range : AreInRange config.acceptors config.coordinators config.learners) (es : List Entry) (legal : Legal config es) (s : Settles config es)
    (n : ℕ) (more : length (prepared config es) ≡ length (closings config (places Kind.Final 0 (messages es)) es) + n) where
  few : checkpoints (messages es) ≤ n
  few = enough_proposals config (let b = range.one_coordinator in omega (arith, b)) es legal n more

  fuel : suc (checkpoints (messages es)) + (n - checkpoints (messages es)) ≡ suc n
  fuel = let h = few in omega (arith, h)

  pub enough_passes : passes config (suc n) (prepared config es) ≡ settle config es
  enough_passes = (λ i. passes config (sym fuel i) (prepared config es)) ∙ s.enough (n - checkpoints (messages es))

  pub can_settle : CanPass config (suc n) (prepared config es)
  can_settle = subst (λ m. CanPass config m (prepared config es)) fuel (s.can (n - checkpoints (messages es)))

-- where a pass is left
pub one_left : (config config_now : Counts) (es now target : List Entry) (f0 f1 : ℕ) (ready : Type 0) (limit p events : ℕ) → p < limit
    → Settling config config_now es now target f0 f1 ready (limit - p) events → Settling config config_now es now target f0 f1 ready (suc (limit - (p + 1))) events
one_left config config_now es now target f0 f1 ready limit p events h s =
    let e : limit - p ≡ suc (limit - (p + 1)) = omega (arith, h) in
    subst (λ n. Settling config config_now es now target f0 f1 ready n events) e s

-- where none is left
pub none_left : (config config_now : Counts) (es now target : List Entry) (f0 f1 : ℕ) (ready : Type 0) (limit p events : ℕ) → limit ≤ p
    → Settling config config_now es now target f0 f1 ready (limit - p) events → now ≡ target
none_left config config_now es now target f0 f1 ready limit p events h s =
    let e : limit - p ≡ 0 = omega (arith, h) in
    (λ i. passes config (sym e i) now) ∙ s.rest

-- ---- one turn, as the code makes it

module _ (config config_now : Counts) (es now target : List Entry) (f0 f1 : ℕ) (ready : Type 0) (left events : ℕ) (s : Settling config config_now es now target f0 f1 ready (suc left) events)
    (c2 c3 : Counts) (mid mid2 : List Entry) (start : ℕ) (o : Option ℕ) (at : start ≡ length (messages now)) (made : mid ≡ pass config_now now) (first : o ≡ first_place (places Kind.Final start (messages mid)))
    (e2 : c2 ≡ config_now) (e3 : c3 ≡ c2) (same : mid2 ≡ mid) where
  same_config : c3 ≡ config
  same_config = e3 ∙ e2 ∙ s.same_config

  passed : mid ≡ pass config now
  passed = made ∙ ap (λ d. pass d now) s.same_config

  told : o ≡ first_place (finals_of_pass config now)
  told = first ∙ (λ i. first_place (places Kind.Final (at i) (messages (passed i))))

  -- the last pass
  pub last_run : o ≡ None → mid2 ≡ target
  last_run none = same ∙ passed ∙ settled_now config config_now es now target f0 f1 ready left events s (sym none ∙ told)

  module _ (k : ℕ) (some : o ≡ Some k) where
    pub stands : k < length (messages mid2)
    stands = subst (λ zs. k < length (messages zs)) (sym same) (first_stands Kind.Final start k (messages mid) (sym some ∙ first))

    pub close_room : length (closed c3 k mid2) ≤ length target
    close_room =
        let a = closing_room config config_now es now target f0 f1 ready left events s k (sym some ∙ told) in
        let e : length (closed c3 k mid2) ≡ length (closed config k (pass config now)) = λ i. length (closed (same_config i) k ((same ∙ passed) i)) in
        omega (arith, a, e)

    pub next_turn : (c4 : Counts) (zs : List Entry) (g : ℕ) (ready2 : Type 0) (n m : ℕ) → c4 ≡ c3 → zs ≡ closed c3 k mid2 → length mid ≡ length now + n → length zs ≡ length mid2 + m → g ≡ f1 → ready2
        → Settling config c4 es zs target f0 g ready2 left (events + n + m)
    next_turn c4 zs g ready2 n m e4 is more more2 l r =
        turned config config_now es now target f0 f1 ready left events s c4 zs g ready2 left n m k (sym some ∙ told)
        (is ∙ (λ i. closed (same_config i) k ((same ∙ passed) i))) (let b = ap length same in omega (arith, b, more, more2)) (e4 ∙ same_config) l r refl

-- ---- all steps of settling, as the code makes them

module _ (config : Counts) (range : AreInRange config.acceptors config.coordinators config.learners) (es : List Entry) (legal : Legal config es) (s : Settles config es)
    (c1 c2 : Counts) (z1 z2 : List Entry) (finals proposals : ℕ) (e1 : c1 ≡ config) (is1 : z1 ≡ closings config (places Kind.Final 0 (messages es)) es) (m1 : length z1 ≡ length es + finals)
    (e2 : c2 ≡ c1) (is2 : z2 ≡ sweep c1 Coordinator 1 Kind.Propose 0 z1) (m2 : length z2 ≡ length z1 + proposals) where
  pub all_prepared : z2 ≡ prepared config es
  all_prepared = is2 ∙ (λ i. sweep (e1 i) Coordinator 1 Kind.Propose 0 (is1 i))

  more : length (prepared config es) ≡ length (closings config (places Kind.Final 0 (messages es)) es) + proposals
  more = let a = ap length all_prepared in let b = ap length is1 in omega (arith, a, b, m2)

  pub proposals_fit : proposals ≤ length (settle config es)
  proposals_fit = let a = ap length all_prepared in let b = prepared_fits config es in omega (arith, a, b, m2)

  pub can_begin : CanPass c2 (proposals + 1) z2
  can_begin = subst (λ (q : Counts × ℕ × List Entry). CanPass q.0 q.1 q.2) (λ i. (sym (e2 ∙ e1) i, sym (add-one proposals) i, sym all_prepared i)) (can_settle config range es legal s proposals more)

  pub passes_settle : passes c2 (proposals + 1) z2 ≡ settle config es
  passes_settle = (λ i. passes ((e2 ∙ e1) i) (add-one proposals i) (all_prepared i)) ∙ enough_passes config range es legal s proposals more

  pub steps_fit : (z3 : List Entry) (n : ℕ) → z3 ≡ passes c2 (proposals + 1) z2 → length z3 ≡ length z2 + n → finals + proposals + n ≤ length (settle config es)
  steps_fit z3 n is3 m3 = let a = ap length (is3 ∙ passes_settle) in omega (arith, a, m1, m2, m3)

-- where coordinator 0 takes the proposals
pub sweep_fits : (config : Counts) (es : List Entry) (c1 : Counts) (z1 : List Entry) → c1 ≡ config → z1 ≡ closings config (places Kind.Final 0 (messages es)) es → length (sweep c1 Coordinator 1 Kind.Propose 0 z1) ≤ length (settle config es)
sweep_fits config es c1 z1 e1 is1 =
    let a = prepared_fits config es in
    let e : length (sweep c1 Coordinator 1 Kind.Propose 0 z1) ≡ length (prepared config es) = λ i. length (sweep (e1 i) Coordinator 1 Kind.Propose 0 (is1 i)) in
    omega (arith, a, e)
