-- The loops of settling: what is left to do leads to the settled run.
use Rattle.std.proofs.Common.{◌≡◌, ℕ, zero, suc, ◌+◌, ◌-◌, ◌<◌, ◌≤◌, Bool, true, false, cond, List, [], ◌∷◌, ◌++◌, length, Some, None, refl, sym, ap, ◌∙◌, subst, arith, append_assoc}
use Rattle.std.specs.Prelude.{slice_get, take, drop, filter}
use Rattle.std.proofs.lemmas.List.{length-append}
use Rattle.gp_round.specs.Counts.{Counts}
use Rattle.gp_round.specs.declared.config.TheConstants.{LAST_COUNT}
use Rattle.gp_msg.specs.declared.node.Node.TheVariants.{Coordinator, Acceptor, Learner}
use Rattle.gp_msg.specs.Messages.{Stamped, Offered, InEpoch, Final, Entry}
use Rattle.gp_msg.specs.declared.message.MsgKind.TheVariants as Kind
use Rattle.gp_run.specs.Messages.{messages}
use Rattle.gp_run.specs.Legal.{Legal}
use Rattle.gp_run.specs.TopCount.{top_count}
use Rattle.gp_driver.specs.Sweeps.{is_of, is_there, places_from, places, swept, first_place}
use Rattle.gp_driver.specs.Settling.{closings, closed, at_first, pass, finals_of_pass, passes, CanPass, checkpoints, prepared}
use Rattle.gp_driver.proofs.TakingAll.{same_place, still_first, there_is, drop-at}
use Rattle.gp_driver.proofs.Driving.{swept_grows, swept_messages}
use Rattle.gp_driver.proofs.PassingCode.{room1}
use Rattle.gp_driver.proofs.Preparing as preparing
use native.Mathlib.Numerals.{add-one}

-- ---- runs grow

pub closed_grows : (config : Counts) (k : ℕ) (es : List Entry) → length es ≤ length (closed config k es)
closed_grows config k es =
    let a = swept_grows config Coordinator 0 1 (k ∷ []) es (omega arith) in
    let b = swept_grows config Acceptor 0 config.acceptors (k ∷ []) (swept config Coordinator 1 (k ∷ []) es) (omega arith) in
    omega (arith, a, b)

pub spread_grows : (config : Counts) (k : ℕ) (es : List Entry) → length (closed config k es) ≤ length (closings config (k ∷ []) es)
spread_grows config k es = swept_grows config Learner 0 config.learners (k ∷ []) (closed config k es) (omega arith)

pub closings_grow : (config : Counts) (ks : List ℕ) (es : List Entry) → length es ≤ length (closings config ks es)
closings_grow config [] es = omega arith
closings_grow config (k ∷ ks) es =
    let a = closed_grows config k es in
    let b = spread_grows config k es in
    let c = closings_grow config ks (closings config (k ∷ []) es) in
    omega (arith, a, b, c)

pub pass_grows : (config : Counts) (es : List Entry) → length es < length (pass config es)
pass_grows config es = let a = room1 config es in omega (arith, a)

pub passes_grow : (config : Counts) (n : ℕ) (es : List Entry) → length es ≤ length (passes config n es)
passes_grow config zero es = omega arith
passes_grow config (suc n) es = by (finals_of_pass config es) (λ k. passes_grow config n (closed config k (pass config es))) where
  by : (ks : List ℕ) → ((k : ℕ) → length (closed config k (pass config es)) ≤ length (passes config n (closed config k (pass config es)))) → length es ≤ length (at_first ks (pass config es) (λ k. passes config n (closed config k (pass config es))))
  by [] f = let a = pass_grows config es in omega (arith, a)
  by (k ∷ ks) f = let a = pass_grows config es in let b = f k in let c = closed_grows config k (pass config es) in omega (arith, a, b, c)

-- ---- the Final messages

-- those that are left from place k on lead to the target
pub record TakingFinals (config config_now : Counts) (es now target : List Entry) (f0 f1 : ℕ) (ready : Type 0) (k taken : ℕ) : Type 0 where
  pub same_config : config_now ≡ config
  pub steady : f1 ≡ f0
  pub is_ready : ready
  pub rest : closings config (places_from Kind.Final k (drop k (messages es))) now ≡ target
  pub same_start : take (length (messages es)) (messages now) ≡ messages es
  pub entries : length now ≡ length es + taken

closings_messages : (config : Counts) (k : ℕ) (es : List Entry) → (more : List Stamped) × (messages (closings config (k ∷ []) es) ≡ messages es ++ more)
closings_messages config k es =
    let a = swept_messages config Coordinator 1 (k ∷ []) es in
    let b = swept_messages config Acceptor config.acceptors (k ∷ []) (swept config Coordinator 1 (k ∷ []) es) in
    let c = swept_messages config Learner config.learners (k ∷ []) (closed config k es) in
    ((a.0 ++ b.0) ++ c.0, c.1 ∙ ap (λ ms. ms ++ c.0) (b.1 ∙ ap (λ ms. ms ++ b.0) a.1 ∙ append_assoc (messages es) a.0 b.0) ∙ append_assoc (messages es) (a.0 ++ b.0) c.0)

turn : (config : Counts) (k : ℕ) (es now : List Entry) (m : Stamped) (b : Bool) → slice_get (messages es) k ≡ Some m → is_of Kind.Final m ≡ b
    → closings config (places_from Kind.Final k (drop k (messages es))) now ≡ closings config (cond b (k ∷ places_from Kind.Final (suc k) (drop (suc k) (messages es))) (places_from Kind.Final (suc k) (drop (suc k) (messages es)))) now
turn config k es now m b h is =
    (λ i. closings config (places_from Kind.Final k (drop-at k (messages es) m h i)) now)
    ∙ (λ i. closings config (cond (is i) (k ∷ places_from Kind.Final (suc k) (drop (suc k) (messages es))) (places_from Kind.Final (suc k) (drop (suc k) (messages es)))) now)

module _ (config config_now : Counts) (es now target : List Entry) (f0 f1 : ℕ) (ready : Type 0) (k taken : ℕ) (t : TakingFinals config config_now es now target f0 f1 ready k taken) (h : k < length (messages es)) where
  at_place : (b : Bool) → is_there Kind.Final (slice_get (messages now) k) ≡ b → (m : Stamped) × (slice_get (messages es) k ≡ Some m) × (is_of Kind.Final m ≡ b)
  at_place b q =
      let m = there_is k (messages es) h in
      let e : slice_get (messages now) k ≡ slice_get (messages es) k = same_place (length (messages es)) k (messages now) (messages es) h (t.same_start ∙ sym (take_whole (messages es))) in
      (m.0, m.1, sym (ap (is_there Kind.Final) (e ∙ m.1)) ∙ q)
    where
      take_whole : {X : Type 0} (xs : List X) → take (length xs) xs ≡ xs
      take_whole [] = refl
      take_whole (x ∷ xs) = ap (λ ys. x ∷ ys) (take_whole xs)

  pub finals_room : is_there Kind.Final (slice_get (messages now) k) ≡ true → length (closings config (k ∷ []) now) ≤ length target
  finals_room q =
      let m = at_place true q in
      let e = ap length (sym (turn config k es now m.0 true m.1 m.2) ∙ t.rest) in
      let g = closings_grow config (places_from Kind.Final (suc k) (drop (suc k) (messages es))) (closings config (k ∷ []) now) in
      omega (arith, e, g)

  pub finals_within : length (messages es) ≤ length (messages now)
  finals_within = within (length (messages es)) (messages now) (ap length t.same_start) where
    within : {X : Type 0} (n : ℕ) (xs : List X) → length (take n xs) ≡ n → n ≤ length xs
    within zero xs e = omega arith
    within (suc n) [] e = absurd (omega (arith, e))
    within (suc n) (x ∷ xs) e = let r = within n xs (omega (arith, e)) in omega (arith, r)

  pub finals_taken : (c1 c2 : Counts) (now1 now2 : List Entry) (g1 g2 : ℕ) (ready2 : Type 0) (n : ℕ) → is_there Kind.Final (slice_get (messages now) k) ≡ true → c1 ≡ config_now → now1 ≡ now → g1 ≡ f1
      → now2 ≡ closings c1 (k ∷ []) now1 → c2 ≡ c1 → g2 ≡ g1 → length now2 ≡ length now1 + n → ready2 → TakingFinals config c2 es now2 target f0 g2 ready2 (k + 1) (taken + n)
  finals_taken c1 c2 now1 now2 g1 g2 ready2 n q e1 n1 l1 n2 e2 l2 s r =
      let m = at_place true q in
      let made : now2 ≡ closings config (k ∷ []) now = n2 ∙ (λ i. closings ((e1 ∙ t.same_config) i) (k ∷ []) (n1 i)) in
      let sent = closings_messages config k now in
      record {
        same_config = e2 ∙ e1 ∙ t.same_config;
        steady = l2 ∙ l1 ∙ t.steady;
        is_ready = r;
        rest = (λ i. closings config (places_from Kind.Final (add-one k i) (drop (add-one k i) (messages es))) (made i)) ∙ sym (turn config k es now m.0 true m.1 m.2) ∙ t.rest;
        same_start = ap (λ zs. take (length (messages es)) (messages zs)) made ∙ ap (take (length (messages es))) sent.1 ∙ still_first (length (messages es)) (messages now) sent.0 finals_within ∙ t.same_start;
        entries = let a = t.entries in let b = ap length n1 in omega (arith, a, b, s);
      }

  pub finals_passed : (c1 : Counts) (now1 : List Entry) (g1 : ℕ) (ready1 : Type 0) → is_there Kind.Final (slice_get (messages now) k) ≡ false → c1 ≡ config_now → now1 ≡ now → g1 ≡ f1 → ready1 → TakingFinals config c1 es now1 target f0 g1 ready1 (k + 1) taken
  finals_passed c1 now1 g1 ready1 q e1 n1 l1 r =
      let m = at_place false q in
      record {
        same_config = e1 ∙ t.same_config;
        steady = l1 ∙ t.steady;
        is_ready = r;
        rest = (λ i. closings config (places_from Kind.Final (add-one k i) (drop (add-one k i) (messages es))) (n1 i)) ∙ sym (turn config k es now m.0 false m.1 m.2) ∙ t.rest;
        same_start = ap (λ zs. take (length (messages es)) (messages zs)) n1 ∙ t.same_start;
        entries = let a = t.entries in let b = ap length n1 in omega (arith, a, b);
      }

pub same_closings : (c d : Counts) (k : ℕ) (es fs : List Entry) → c ≡ d → es ≡ fs → closings c (k ∷ []) es ≡ closings d (k ∷ []) fs
same_closings c d k es fs p q = λ i. closings (p i) (k ∷ []) (q i)

pub closed_more : (config : Counts) (k : ℕ) (es : List Entry) → length (messages es) ≤ length (messages (closed config k es))
closed_more config k es =
    let a = swept_messages config Coordinator 1 (k ∷ []) es in
    let b = swept_messages config Acceptor config.acceptors (k ∷ []) (swept config Coordinator 1 (k ∷ []) es) in
    let x = ap length a.1 in
    let y = ap length b.1 in
    let u = length-append (messages es) a.0 in
    let v = length-append (messages (swept config Coordinator 1 (k ∷ []) es)) b.0 in
    omega (arith, x, y, u, v)

-- ---- passes

-- the passes that are left lead to the target
pub record Settling (config config_now : Counts) (es now target : List Entry) (f0 f1 : ℕ) (ready : Type 0) (left events : ℕ) : Type 0 where
  pub same_config : config_now ≡ config
  pub steady : f1 ≡ f0
  pub is_ready : ready
  pub rest : passes config left now ≡ target
  pub can : CanPass config left now
  pub entries : length now ≡ length es + events

-- every checkpoint is among the proposals
checkpoints_few : (ms : List Stamped) → checkpoints ms ≤ length (filter (is_of Kind.Propose) ms)
checkpoints_few [] = omega arith
checkpoints_few (Offered c ∷ ms) = by c.draft.checkpoint (checkpoints_few ms) where
  by : (b : Bool) → checkpoints ms ≤ length (filter (is_of Kind.Propose) ms) → cond b (suc (checkpoints ms)) (checkpoints ms) ≤ suc (length (filter (is_of Kind.Propose) ms))
  by true h = omega (arith, h)
  by false h = omega (arith, h)
checkpoints_few (InEpoch e m ∷ ms) = by (is_of Kind.Propose (InEpoch e m)) (checkpoints_few ms) where
  by : (b : Bool) → checkpoints ms ≤ length (filter (is_of Kind.Propose) ms) → checkpoints ms ≤ length (cond b (InEpoch e m ∷ filter (is_of Kind.Propose) ms) (filter (is_of Kind.Propose) ms))
  by true h = omega (arith, h)
  by false h = h
checkpoints_few (Final e l v ∷ ms) = checkpoints_few ms

pub enough_proposals : (config : Counts) (lead : 0 < config.coordinators) (es : List Entry) (legal : Legal config es) (n : ℕ) → length (prepared config es) ≡ length (closings config (places Kind.Final 0 (messages es)) es) + n → checkpoints (messages es) ≤ n
enough_proposals config lead es legal n e =
    let t = preparing.took config lead es legal in
    let a = t.entries in
    let b = checkpoints_few (messages es) in
    omega (arith, a, b, e)

-- before the first pass of so many
pub passes_start : (config : Counts) (es : List Entry) (n : ℕ) (ready : Type 0) (f : ℕ) → CanPass config n es → ready → Settling config config es es (passes config n es) f f ready (n - 0) 0
passes_start config es n ready f can r = subst (λ m. Settling config config es es (passes config n es) f f ready m 0) (let e : n ≡ n - 0 = omega arith in e) (record {
  same_config = refl;
  steady = refl;
  is_ready = r;
  rest = refl;
  can = can;
  entries = omega arith;
})

module _ (config config_now : Counts) (es now target : List Entry) (f0 f1 : ℕ) (ready : Type 0) (left events : ℕ) (s : Settling config config_now es now target f0 f1 ready (suc left) events) where
  pub can_pass : top_count config now < LAST_COUNT
  can_pass = s.can.0

  pub pass_room : length (pass config now) ≤ length target
  pass_room = let e = ap length s.rest in by (finals_of_pass config now) e where
    by : (ks : List ℕ) → length (at_first ks (pass config now) (λ k. passes config left (closed config k (pass config now)))) ≡ length target → length (pass config now) ≤ length target
    by [] e = omega (arith, e)
    by (k ∷ ks) e = let a = passes_grow config left (closed config k (pass config now)) in let b = closed_grows config k (pass config now) in omega (arith, a, b, e)

  -- the last pass
  pub settled_now : None ≡ first_place (finals_of_pass config now) → pass config now ≡ target
  settled_now h = by (finals_of_pass config now) h s.rest where
    by : (ks : List ℕ) → None ≡ first_place ks → at_first ks (pass config now) (λ k. passes config left (closed config k (pass config now))) ≡ target → pass config now ≡ target
    by [] q r = r
    by (k ∷ ks) q r = absurd (let bad : None ≡ Some k = q in cc)

  -- one that closed an epoch
  pub settling_on : (k : ℕ) → Some k ≡ first_place (finals_of_pass config now) → (passes config left (closed config k (pass config now)) ≡ target) × CanPass config left (closed config k (pass config now))
  settling_on k h = by (finals_of_pass config now) h s.rest s.can.1 where
    by : (ks : List ℕ) → Some k ≡ first_place ks → at_first ks (pass config now) (λ k. passes config left (closed config k (pass config now))) ≡ target → at_first ks (Unit {0}) (λ k. CanPass config left (closed config k (pass config now)))
        → (passes config left (closed config k (pass config now)) ≡ target) × CanPass config left (closed config k (pass config now))
    by [] q r c = absurd (let bad : Some k ≡ None = q in cc)
    by (j ∷ ks) q r c =
        let is : j ≡ k = let f : Some k ≡ Some j = q in cc in
        (subst (λ i. passes config left (closed config i (pass config now)) ≡ target) is r, subst (λ i. CanPass config left (closed config i (pass config now))) is c)

  pub closing_room : (k : ℕ) → Some k ≡ first_place (finals_of_pass config now) → length (closed config k (pass config now)) ≤ length target
  closing_room k h = let a = (settling_on k h).0 in let e = ap length a in let b = passes_grow config left (closed config k (pass config now)) in omega (arith, e, b)
