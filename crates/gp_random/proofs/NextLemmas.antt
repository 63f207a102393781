-- The next event of a plan, turn by turn, and what it leaves.
use Rattle.std.proofs.Common.{◌≡◌, ℕ, zero, suc, ◌+◌, ◌-◌, ◌<◌, ◌≤◌, ltb, Option, Some, None, Result, Ok, Err, refl, sym, ap, ◌∙◌, arith}
use Rattle.std.specs.Prelude.{IfOk, IfSome, OnSome, IsNone}
use Rattle.std.proofs.lemmas.Bool.{ltb-true, ltb-false}
use Rattle.gp_msg.specs.declared.event.Event.{Event}
use Rattle.gp_random.specs.declared.plan.Plan.{Plan}
use Rattle.gp_random.specs.Plans.{offers, turn, or_behind, next_within, next}
use Rattle.gp_random.specs.Fitting.{IsFit, HasEnded, offers_in, events_left}
use Rattle.gp_random.specs.Sound.{IsSound}
use Rattle.gp_random.proofs.DrawLemmas.{by_test}
use Rattle.gp_random.proofs.PlanLemmas.{Follows, begun, offers_follow, offers_count, offers_none, turn_follows}

abbrev Made : Type 0
Made = Option Event × Plan

one_turn : (have n : ℕ) (p : Plan) → p.turns ≡ suc n → next have p ≡ or_behind (turn have p) (next_within have n)
unfolding next
one_turn have n p e = ap (λ (n : ℕ). next_within have n p) e

-- where no turn is left, a command that is left is offered
pub next_last : (have : ℕ) (p : Plan) → p.turns ≡ 0 → next have p ≡ offers p
unfolding next
next_last have p e = ap (λ (n : ℕ). next_within have n p) e

pub next_takes : (have : ℕ) (p q : Plan) (event : Event) → 0 < p.turns → (Some event, q) ≡ turn have p → (Some event, q) ≡ next have p
next_takes have p q event some e =
    let less : p.turns ≡ suc (p.turns - 1) = omega arith in
    sym (one_turn have (p.turns - 1) p less ∙ ap (λ (r : Made). or_behind r (next_within have (p.turns - 1))) (sym e))

pub next_passes : (have : ℕ) (p q : Plan) → 0 < p.turns → q.turns ≡ p.turns - 1 → (None, q) ≡ turn have p → next have q ≡ next have p
unfolding next
next_passes have p q some turns e =
    let less : p.turns ≡ suc (p.turns - 1) = omega arith in
    sym (one_turn have (p.turns - 1) p less ∙ ap (λ (r : Made). or_behind r (next_within have (p.turns - 1))) (sym e) ∙ ap (λ (n : ℕ). next_within have n q) (sym turns))

-- ---- what holds behind the next event

-- what the next event leaves of a plan
pub record Leaves (have : ℕ) (p : Plan) (made : Option Event × Plan) : Type 0 where
  pub sound : IsSound made.1
  pub event : IfSome made.0 (IsFit have)
  pub offered : made.1.offered ≡ p.offered + offers_in made.0
  pub ended : IsNone made.0 → HasEnded made.1
  pub nearer : OnSome made.0 (events_left made.1 < events_left p)

last_ends : (p : Plan) → p.offered ≤ p.size → p.turns ≡ 0 → IsNone (offers p).0 → HasEnded (offers p).1
last_ends p within none =
    by_test (λ (r : Made). IsNone r.0 → HasEnded r.1) (ltb p.offered p.size) _ _ (λ _ is. absurd cc)
    (λ e is. record { turns = none; offered = let all = ltb-false p.offered p.size e in omega arith })

last_nearer : (p : Plan) → OnSome (offers p).0 (events_left (offers p).1 < events_left p)
last_nearer p =
    by_test (λ (r : Made). OnSome r.0 (events_left r.1 < events_left p)) (ltb p.offered p.size) _ _ (λ e. let lt = ltb-true p.offered p.size e in omega arith) (λ _. tt)

last_leaves : (have : ℕ) (p : Plan) → IsSound p → p.turns ≡ 0 → Leaves have p (offers p)
last_leaves have p sound none =
    let f = offers_follow have p sound.offered in
    let top = offers_count p in
    let counts = sound.counts in
    let within = f.within in
    let size = f.size in
    let turns = f.turns in
    record {
      sound = record { offered = omega arith; counts = omega arith };
      event = f.event;
      offered = f.offered;
      ended = last_ends p sound.offered none;
      nearer = last_nearer p;
    }

on_some : {A B : Type 0} (o : Option Event) → (A → B) → OnSome o A → OnSome o B
on_some (Some event) f x = f x
on_some None f x = tt

module _ (have n : ℕ) (p : Plan) (e : p.turns ≡ suc n) (sound : IsSound p) where
  pub sound_behind : (made : Made) → Follows have (begun p) made → IsSound made.1
  sound_behind made f =
      let within = f.within in
      let size = f.size in
      let turns = f.turns in
      let counts = f.counts in
      let few = sound.counts in
      record { offered = omega arith; counts = omega arith }

  pub after_turn : (made : Made) → Follows have (begun p) made → ((q : Plan) → q.turns ≡ n → IsSound q → Leaves have q (next_within have n q)) → Leaves have p (or_behind made (next_within have n))
  after_turn (Some event, q) f rest =
      let turns = f.turns in
      let size = f.size in
      let offered = f.offered in
      record {
        sound = sound_behind (Some event, q) f;
        event = f.event;
        offered = f.offered;
        ended = λ is. absurd cc;
        nearer = omega arith;
      }
  after_turn (None, q) f rest =
      let turns = f.turns in
      let size = f.size in
      let offered = f.offered in
      let r = rest q (omega arith) (sound_behind (None, q) f) in
      let counted = r.offered in
      record {
        sound = r.sound;
        event = r.event;
        offered = omega arith;
        ended = r.ended;
        nearer = on_some (next_within have n q).0 (λ lt. omega arith) r.nearer;
      }

within_leaves : (have n : ℕ) (p : Plan) → p.turns ≡ n → IsSound p → Leaves have p (next_within have n p)
within_leaves have zero p e sound = last_leaves have p sound e
within_leaves have (suc n) p e sound =
    let counts = sound.counts in
    after_turn have n p e sound (turn have p) (turn_follows have p sound.offered (omega arith)) (within_leaves have n)

-- the next event fits, and is one of those that are left
pub next_leaves : (have : ℕ) (p : Plan) → IsSound p → Leaves have p (next have p)
unfolding next
next_leaves have p sound = within_leaves have p.turns p refl sound

-- a plan that has ended has no event
pub ended_stays : (have : ℕ) (p : Plan) → HasEnded p → next have p ≡ (None, p)
ended_stays have p ended = let all = ended.offered in next_last have p ended.turns ∙ offers_none p (omega arith)

-- ---- the loop

-- a turn without an event leaves the next one
pub passes_on : (have : ℕ) (p q : Plan) → 0 < p.turns → IsSound p → (None, q) ≡ turn have p → (next have q ≡ next have p) × IsSound q
passes_on have p q some sound e =
    let counts = sound.counts in
    let less : p.turns ≡ suc (p.turns - 1) = omega arith in
    let f : Follows have (begun p) (None, q) = rw e (turn_follows have p sound.offered (omega arith)) in
    (next_passes have p q some f.turns e, sound_behind have (p.turns - 1) p less sound (None, q) f)

pub last_offer : {E : Type 0} (r : Result (Option Event) E) (have : ℕ) (p q first : Plan) → p.turns ≡ 0 → next have p ≡ next have first → IfOk r (λ event. (event, q) ≡ offers p) → IfOk r (λ event. (event, q) ≡ next have first)
last_offer (Ok event) have p q first none same e = e ∙ sym (next_last have p none) ∙ same
last_offer (Err x) have p q first none same e = tt

-- the second plan has the fields of the first
abbrev Copied : Plan → Plan → Type 0
Copied p q =
    (q.commands ≡ p.commands) × ((q.schedule ≡ p.schedule) × ((q.size ≡ p.size) × ((q.offered ≡ p.offered) × ((q.top_count ≡ p.top_count) × (q.turns ≡ p.turns)))))

-- what is known of the next event of a copy
pub leaves : (have : ℕ) (inside now copy behind : Plan) (event : Option Event) → IsSound inside → inside ≡ now → Copied inside copy → (event, behind) ≡ next have copy → Leaves have now (event, behind)
leaves have inside now copy behind event sound is copied e =
    let same : copy ≡ inside = λ i. record {
      commands = copied.0 i;
      schedule = copied.1.0 i;
      size = copied.1.1.0 i;
      offered = copied.1.1.1.0 i;
      top_count = copied.1.1.1.1.0 i;
      turns = copied.1.1.1.1.1 i;
    } in
    rw (e ∙ ap (next have) (same ∙ is)) (next_leaves have now (rw (← is) sound))
