-- Passes go on until all is learned.
use Rattle.std.proofs.Common.{◌≡◌, ℕ, zero, suc, ◌+◌, ◌-◌, ◌*◌, ◌<◌, ◌≤◌, Bool, true, false, ◌||◌, List, length, Some, inl, inr, refl, sym, ap, ◌∙◌, subst, arith}
use Rattle.std.specs.Prelude.{slice_get}
use Rattle.gp_command.specs.declared.command.Command.{Command}
use Rattle.gp_history.specs.History.{has}
use Rattle.gp_history.proofs.Tests.{any-append}
use Rattle.gp_round.specs.Counts.{Counts}
use Rattle.gp_round.specs.declared.config.TheConstants.{LAST_COUNT}
use Rattle.gp_msg.specs.Messages.{Final, Entry}
use Rattle.gp_run.specs.Messages.{messages}
use Rattle.gp_run.specs.Legal.{Legal}
use Rattle.gp_run.specs.TopCount.{top_count}
use Rattle.gp_run.specs.Learned.{learned_at}
use Rattle.gp_run.specs.Agreement.{Agrees}
use Rattle.gp_driver.specs.Settling.{pass, closed, at_first, passes, passes_made, CanPass, checkpoints}
use Rattle.gp_driver.proofs.Lists.{get-append}
use Rattle.gp_driver.proofs.Closings.{standing_closes}
use Rattle.gp_driver.proofs.RunsKeep.{run_kept}
use Rattle.gp_driver.proofs.Offers.{is_offer, is_offered, is_closed, closed_by_one}
use Rattle.gp_driver.proofs.FinalsLearned.{finals_are_learned}
use Rattle.gp_driver.proofs.Counting.{opens, one_fewer, fewer_than_all}
use Rattle.gp_driver.proofs.Passing.{PassMade, PassShows, PassCloses, one_pass}
use Rattle.gp_driver.proofs.Finishing.{IsReady, IsFresh, ClosedWell, closes_well}

-- the events of p passes, with the closings between them
abbrev pub pass_events : Counts → ℕ → ℕ
pass_events config p = p * (1 + 3 * config.acceptors + config.acceptors * config.learners) + (p - 1) * (config.acceptors + 1)

-- these passes were enough, and each learner shows all that was offered
pub record Finishes (config : Counts) (n : ℕ) (es : List Entry) : Type 0 where
  pub legal : Legal config (passes config n es)
  pub offers : (c : Command) → is_offered (messages (passes config n es)) c ≡ is_offered (messages es) c
  pub shown : (l : ℕ) → l < config.learners → (c : Command) → is_offered (messages es) c ≡ true → has (learned_at config l (passes config n es)) c ≡ true
  pub some : 0 < passes_made config n es
  pub few : passes_made config n es ≤ n
  pub entries : length (passes config n es) ≡ length es + pass_events config (passes_made config n es)
  pub enough : (m : ℕ) → passes config (n + m) es ≡ passes config n es
  pub can : (m : ℕ) → CanPass config (n + m) es

module _ (config : Counts) (some : 0 < config.acceptors) (lead : 0 < config.coordinators) (one : 0 < config.learners) (agrees : (es : List Entry) → Legal config es → Agrees config es) where
  made : (es : List Entry) (e : ℕ) → IsReady config es e → top_count config es < LAST_COUNT → PassMade config es e
  made es e ready room = one_pass config es e some lead ready.legal room ready.leads ready.answers ready.hears one

  -- ---- the last pass

  module _ (n : ℕ) (es : List Entry) (e : ℕ) (room : top_count config es < LAST_COUNT) (ready : IsReady config es e) (m : PassMade config es e) (s : PassShows config es m.value) where
    or_nothing : (b : Bool) → (b || false) ≡ b
    or_nothing true = refl
    or_nothing false = refl

    last_is : (k : ℕ) → passes config (suc k) es ≡ pass config es
    last_is k = ap (λ ks. at_first ks (pass config es) (λ i. passes config k (closed config i (pass config es)))) s.quiet

    made_one : passes_made config (suc n) es ≡ 1
    made_one = ap (λ ks. at_first ks 1 (λ i. suc (passes_made config n (closed config i (pass config es))))) s.quiet

    all_shown : (l : ℕ) → l < config.learners → (c : Command) → is_offered (messages es) c ≡ true → has (learned_at config l (pass config es)) c ≡ true
    all_shown l h c t = elim (ready.whole c t) [
      | inl a ↦
          let f = closed_by_one (messages es) c a in
          let stands : slice_get (messages (pass config es)) f.place ≡ Some (Final f.epoch f.learner f.value) = ap (λ ms. slice_get ms f.place) s.sent ∙ get-append (messages es) s.more f.place (Final f.epoch f.learner f.value) f.there in
          let below = standing_closes 0 (messages es) f.place f.epoch f.learner f.value f.there in
          let at = s.hears l h in
          let was = ready.hears l h in
          let first = ready.open_from in
          finals_are_learned config (pass config es) (agrees (pass config es) m.legal) (run_kept config (pass config es) m.legal).sound l f.place f.epoch f.learner f.value c stands (omega (arith, below, at, was, first)) f.has_it
      | inr a ↦ s.shown l h c (m.whole c a)
    ]

    last_can : (k : ℕ) → CanPass config (suc k) es
    last_can k = (room, subst (λ ks. at_first ks (Unit {0}) (λ i. CanPass config k (closed config i (pass config es)))) (sym s.quiet) tt)

    last_finishes : Finishes config (suc n) es
    last_finishes = record {
      legal = subst (Legal config) (sym (last_is n)) m.legal;
      offers = λ c. ap (λ zs. is_offered (messages zs) c) (last_is n) ∙ ap (λ ms. is_offered ms c) s.sent ∙ any-append (is_offer c) (messages es) s.more ∙ (λ i. is_offered (messages es) c || s.calm.offers c i) ∙ or_nothing (is_offered (messages es) c);
      shown = λ l h c t. ap (λ zs. has (learned_at config l zs) c) (last_is n) ∙ all_shown l h c t;
      some = let q = made_one in omega (arith, q);
      few = let q = made_one in omega (arith, q);
      entries =
          let a = m.entries in
          ap length (last_is n) ∙ a ∙ sym (ap (λ p. length es + pass_events config p) made_one ∙ omega arith);
      enough = λ k. ap (λ i. passes config i es) (let q : suc n + k ≡ suc (n + k) = omega arith in q) ∙ last_is (n + k) ∙ sym (last_is n);
      can = λ k. subst (λ i. CanPass config i es) (let q : suc (n + k) ≡ suc n + k = omega arith in q) (last_can (n + k));
    }

  -- ---- one pass more

  module _ (n : ℕ) (es : List Entry) (e : ℕ) (room : top_count config es < LAST_COUNT) (m : PassMade config es e) (c : PassCloses config es e m.value) (w : ClosedWell config es (closed config c.first.first (pass config es)) e) (rest : Finishes config n (closed config c.first.first (pass config es))) where
    next_is : (k : ℕ) → passes config (suc k) es ≡ passes config k (closed config c.first.first (pass config es))
    next_is k = ap (λ ks. at_first ks (pass config es) (λ i. passes config k (closed config i (pass config es)))) c.first.is

    made_more : passes_made config (suc n) es ≡ suc (passes_made config n (closed config c.first.first (pass config es)))
    made_more = ap (λ ks. at_first ks 1 (λ i. suc (passes_made config n (closed config i (pass config es))))) c.first.is

    one_more_pass : (p x y : ℕ) → 0 < p → (x + y) + (p * x + (p - 1) * y) ≡ suc p * x + (suc p - 1) * y
    one_more_pass (suc q) x y h =
        (λ i. (x + y) + (suc q * x + less q i * y)) ∙ sum x y q ∙ sym (λ i. suc (suc q) * x + less (suc q) i * y) where
          less : (m : ℕ) → suc m - 1 ≡ m
          less m = omega arith

          sum : (x y q : ℕ) → (x + y) + (suc q * x + q * y) ≡ suc (suc q) * x + suc q * y
          sum x y q = omega arith
    one_more_pass zero x y h = absurd (omega (arith, h))

    more_can : (k : ℕ) → CanPass config k (closed config c.first.first (pass config es)) → CanPass config (suc k) es
    more_can k h = (room, subst (λ ks. at_first ks (Unit {0}) (λ i. CanPass config k (closed config i (pass config es)))) (sym c.first.is) h)

    goes_on : Finishes config (suc n) es
    goes_on = record {
      legal = subst (Legal config) (sym (next_is n)) rest.legal;
      offers = λ d. ap (λ zs. is_offered (messages zs) d) (next_is n) ∙ rest.offers d ∙ w.offers d;
      shown = λ l h d t. ap (λ zs. has (learned_at config l zs) d) (next_is n) ∙ rest.shown l h d (w.offers d ∙ t);
      some = let q = made_more in omega (arith, q);
      few = let q = made_more in let f = rest.few in omega (arith, q, f);
      entries =
          let a = m.entries in
          let b = w.entries in
          let d = rest.entries in
          let x = one_more_pass (passes_made config n (closed config c.first.first (pass config es))) (1 + 3 * config.acceptors + config.acceptors * config.learners) (config.acceptors + 1) rest.some in
          ap length (next_is n) ∙ rest.entries
          ∙ sum (length es) (length (pass config es)) (length (closed config c.first.first (pass config es))) (1 + 3 * config.acceptors + config.acceptors * config.learners) (config.acceptors + 1) (pass_events config (passes_made config n (closed config c.first.first (pass config es)))) (pass_events config (suc (passes_made config n (closed config c.first.first (pass config es))))) a b x
          ∙ ap (λ p. length es + pass_events config p) (sym made_more);
      enough = λ k. ap (λ i. passes config i es) (let q : suc n + k ≡ suc (n + k) = omega arith in q) ∙ next_is (n + k) ∙ rest.enough k ∙ sym (next_is n);
      can = λ k. subst (λ i. CanPass config i es) (let q : suc (n + k) ≡ suc n + k = omega arith in q) (more_can (n + k) (rest.can k));
    } where
      sum : (a b d x y u v : ℕ) → b ≡ a + x → d ≡ b + y → (x + y) + u ≡ v → d + u ≡ a + v
      sum a b d x y u v p q r = omega (arith, p, q, r)

  -- ---- all passes

  -- from an epoch in which nothing was voted, as many passes as checkpoints are open, and one more
  pub fresh_finishes : (n : ℕ) (es : List Entry) (e : ℕ) → IsReady config es e → IsFresh config es → opens (is_closed (messages es)) (messages es) < n → top_count config es + n ≤ LAST_COUNT → Finishes config n es
  fresh_finishes zero es e ready fresh h room = absurd (omega (arith, h))
  fresh_finishes (suc n) es e ready fresh h room =
      let m = made es e ready (omega (arith, room)) in
      elim m.outcome [
        | inl s ↦ last_finishes n es e (omega (arith, room)) ready m s
        | inr c ↦
            let w = closes_well config some lead one agrees es e ready m c in
            let z = w.new.1 in
            let less = one_fewer (is_closed (messages es)) (is_closed (messages (closed config c.first.first (pass config es)))) w.more w.new.0 z.mark (z.is_new fresh) z.is_now (messages es) z.offered in
            let here = w.opened (is_closed (messages (closed config c.first.first (pass config es)))) in
            let r = w.rounds in
            goes_on n es e (omega (arith, room)) m c w (fresh_finishes n (closed config c.first.first (pass config es)) (suc e) w.ready w.fresh (omega (arith, less, here, h)) (omega (arith, r, room)))
      ]

  -- from any epoch, as many passes as checkpoints were offered, and one more
  pub finishes : (es : List Entry) (e : ℕ) → IsReady config es e → top_count config es + suc (checkpoints (messages es)) ≤ LAST_COUNT → Finishes config (suc (checkpoints (messages es))) es
  finishes es e ready room =
      let m = made es e ready (omega (arith, room)) in
      elim m.outcome [
        | inl s ↦ last_finishes (checkpoints (messages es)) es e (omega (arith, room)) ready m s
        | inr c ↦
            let w = closes_well config some lead one agrees es e ready m c in
            let z = w.new.1 in
            let less = fewer_than_all (is_closed (messages (closed config c.first.first (pass config es)))) w.new.0 z.mark z.is_now (messages es) z.offered in
            let here = w.opened (is_closed (messages (closed config c.first.first (pass config es)))) in
            let r = w.rounds in
            goes_on (checkpoints (messages es)) es e (omega (arith, room)) m c w (fresh_finishes (checkpoints (messages es)) (closed config c.first.first (pass config es)) (suc e) w.ready w.fresh (omega (arith, less, here)) (omega (arith, r, room)))
      ]
