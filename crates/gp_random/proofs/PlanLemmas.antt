-- What a turn does to a plan, and that its event fits.
use Rattle.std.proofs.Common.{◌≡◌, ℕ, ◌+◌, ◌-◌, ◌<◌, ◌≤◌, true, ltb, eqb, Option, Some, None, refl, arith}
use Rattle.std.specs.Prelude.{IfSome}
use Rattle.std.proofs.lemmas.Bool.{and_from, le-leb, lt-ltb, eq-eqb, eqb-false, ltb-true, ltb-false}
use Rattle.rand_chacha.specs.ChaCha.{ChaCha}
use Rattle.gp_round.specs.declared.round.Mode.{Mode}
use Rattle.gp_round.specs.Configs.{is_owner, lead_of}
use Rattle.gp_msg.specs.declared.event.Event.{Event}
use Rattle.gp_random.specs.declared.plan.Plan.{Plan}
use Rattle.gp_random.specs.Draws.{draw}
use Rattle.gp_random.specs.Commands.{offer_at}
use Rattle.gp_random.specs.Plans.{node_numbered, offers, begins, falls, interrupts, takes, turn}
use Rattle.gp_random.specs.Fitting.{IsNumbered, IsFit, offers_in}
use Rattle.gp_random.proofs.DrawLemmas.{by_test, draw_below}
use Rattle.gp_random.proofs.CommandLemmas.{op_in_range}

abbrev Made : Type 0
Made = Option Event × Plan

-- what one turn leaves of the plan that had so many turns behind it
pub record Follows (have : ℕ) (p : Plan) (made : Option Event × Plan) : Type 0 where
  pub event : IfSome made.0 (IsFit have)
  pub size : made.1.size ≡ p.size
  pub offered : made.1.offered ≡ p.offered + offers_in made.0
  pub within : made.1.offered ≤ p.size
  pub turns : made.1.turns ≡ p.turns
  pub counts : made.1.top_count ≤ p.top_count + 1

-- a draw from the schedule alone makes no difference
drawn : {have : ℕ} {p : Plan} {made : Made} (g : ChaCha) → Follows have (record p { schedule = g }) made → Follows have p made
drawn g f = record { event = f.event; size = f.size; offered = f.offered; within = f.within; turns = f.turns; counts = f.counts }

numbered_fits : (n : ℕ) → n < 8 → IsNumbered (node_numbered n)
numbered_fits n lt =
    by_test IsNumbered (ltb n 3) _ _ (λ e. ltb-true n 3 e)
    (λ e. by_test IsNumbered (ltb n 6) _ _ (λ f. let low = ltb-false n 3 e in let high = ltb-true n 6 f in omega arith) (λ f. let low = ltb-false n 6 f in omega arith))

pub offers_follow : (have : ℕ) (p : Plan) → p.offered ≤ p.size → Follows have p (offers p)
offers_follow have p within =
    by_test (Follows have p) (ltb p.offered p.size) _ _
    (λ e. record {
      event = (draw_below p.commands 8 (omega arith), (_, op_in_range (p.offered + 1) (draw p.commands 8).1, refl));
      size = refl;
      offered = refl;
      within = let lt = ltb-true p.offered p.size e in omega arith;
      turns = refl;
      counts = omega arith;
    })
    (λ e. record { event = tt; size = refl; offered = omega arith; within = within; turns = refl; counts = omega arith })

owned : (mode : Mode) (top c : ℕ) → top < 2048 → c < 3 → is_owner 3 c (record { count = top + 1; mode = mode; lead = lead_of mode c }) ≡ true
owned mode top c few lt =
    and_from _ _ (and_from _ _ (and_from _ _ (le-leb 1 (top + 1) (omega arith)) (le-leb (top + 1) 1000000 (omega arith))) (lt-ltb c 3 lt)) (eq-eqb (lead_of mode c) (lead_of mode c) refl)

begins_follow : (have : ℕ) (p : Plan) → p.offered ≤ p.size → p.top_count < 2048 → Follows have p (begins p)
begins_follow have p within few =
    let c = draw_below p.schedule 3 (omega arith) in
    record {
      event = (c, owned _ p.top_count _ few c, omega arith);
      size = refl;
      offered = omega arith;
      within = within;
      turns = refl;
      counts = omega arith;
    }

falls_follow : (have : ℕ) (p : Plan) → p.offered ≤ p.size → Follows have p (falls p)
falls_follow have p within = record {
  event = (numbered_fits _ (draw_below p.schedule 8 (omega arith)), refl);
  size = refl;
  offered = omega arith;
  within = within;
  turns = refl;
  counts = omega arith;
}

rests_follow : (have : ℕ) (p : Plan) → p.offered ≤ p.size → Follows have p (None, p)
rests_follow have p within = record { event = tt; size = refl; offered = omega arith; within = within; turns = refl; counts = omega arith }

interrupts_follow : (have : ℕ) (p : Plan) → p.offered ≤ p.size → p.top_count < 2048 → Follows have p (interrupts p)
interrupts_follow have p within few =
    let e = draw p.schedule 16 in
    let q : Plan = record p { schedule = e.1 } in
    by_test (Follows have p) (eqb e.0 0) (begins q) _ (λ _. drawn {have = have} {p = p} {made = begins q} e.1 (begins_follow have q within few))
    (λ _. by_test (Follows have p) (eqb e.0 1) (falls q) (None, q) (λ _. drawn {have = have} {p = p} {made = falls q} e.1 (falls_follow have q within)) (λ _. drawn {have = have} {p = p} {made = (None, q)} e.1 (rests_follow have q within)))

takes_follow : (have : ℕ) (p : Plan) → p.offered ≤ p.size → Follows have p (takes have p)
takes_follow have p within =
    let n = draw p.schedule 8 in
    by_test (Follows have p) (eqb have 0) _ _
    (λ _. record { event = tt; size = refl; offered = omega arith; within = within; turns = refl; counts = omega arith })
    (λ e. record {
      event = (numbered_fits n.0 (draw_below p.schedule 8 (omega arith)), let some = eqb-false have 0 e in omega arith);
      size = refl;
      offered = omega arith;
      within = within;
      turns = refl;
      counts = omega arith;
    })

-- the plan behind the draw that says what a turn does
abbrev pub begun : Plan → Plan
begun p = record p { schedule = (draw p.schedule 8).1; turns = p.turns - 1 }

pub turn_follows : (have : ℕ) (p : Plan) → p.offered ≤ p.size → p.top_count < 2048 → Follows have (begun p) (turn have p)
turn_follows have p within few =
    let q = begun p in
    by_test (Follows have q) (ltb (draw p.schedule 8).0 2) (offers q) _ (λ _. offers_follow have q within)
    (λ _. by_test (Follows have q) (eqb (draw p.schedule 8).0 2) (interrupts q) (takes have q) (λ _. interrupts_follow have q within few) (λ _. takes_follow have q within))

-- an offer begins no round
pub offers_count : (p : Plan) → (offers p).1.top_count ≡ p.top_count
offers_count p = by_test (λ (r : Made). r.1.top_count ≡ p.top_count) (ltb p.offered p.size) _ _ (λ _. refl) (λ _. refl)

-- a command that is left is offered
pub offers_some : (p : Plan) (event : Event) (g : ChaCha) → p.offered < p.size → (event, g) ≡ offer_at (p.offered + 1) p.commands → (Some event, record p { commands = g; offered = p.offered + 1 }) ≡ offers p
offers_some p event g lt e =
    by_test (λ (r : Made). ◌≡◌ {A = Made} (Some event, record p { commands = g; offered = p.offered + 1 }) r) (ltb p.offered p.size) _ _
    (λ _ i. (Some (e i).0, record p { commands = (e i).1; offered = p.offered + 1 }))
    (λ f. let ge = ltb-false p.offered p.size f in absurd (omega arith))

-- and otherwise nothing is
pub offers_none : (p : Plan) → p.size ≤ p.offered → offers p ≡ (None, p)
offers_none p all =
    by_test (λ (r : Made). ◌≡◌ {A = Made} r (None, p)) (ltb p.offered p.size) _ _
    (λ f. let lt = ltb-true p.offered p.size f in absurd (omega arith))
    (λ _. refl)
