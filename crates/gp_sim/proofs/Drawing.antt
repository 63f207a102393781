-- The events of a workload make a legal run to its end, which is settled.
use Rattle.std.proofs.Common.{◌≡◌, ◌^◌, ℕ, zero, suc, ◌+◌, ◌*◌, ◌<◌, ◌≤◌, ◌⊎◌, true, List, [], ◌∷◌, length, length-append, Option, Some, None, inl, inr, refl, sym, ap, subst, ◌∙◌, arith, rules}
use Rattle.std.specs.Prelude.{IsNone, IfSome}
use Rattle.std.specs.Option.{option_to_list}
use Rattle.std.proofs.lemmas.Bool.{lt-ltb}
use Rattle.gp_round.specs.Ranges.{AreInRange}
use Rattle.gp_round.specs.declared.config.TheConstants.{LAST_COUNT}
use Rattle.gp_msg.specs.declared.node.Node.{Node}
use Rattle.gp_msg.specs.declared.node.Node.TheVariants.{Proposer, Coordinator, Acceptor, Learner}
use Rattle.gp_msg.specs.declared.event.Event.{Event}
use Rattle.gp_msg.specs.declared.event.Event.TheVariants.{Offer, Begin, Take, Fall}
use Rattle.gp_msg.specs.declared.event.Kept.{Kept}
use Rattle.gp_msg.specs.Messages.{Stamped, Entry}
use Rattle.gp_round.specs.Counts.{Counts}
use Rattle.gp_run.specs.Messages.{messages}
use Rattle.gp_msg.specs.Nodes.{node_of, is_present, may_keep}
use Rattle.gp_run.specs.Legal.{fits, sent_by, Legal}
use Rattle.gp_run.specs.Runs.{entry_after}
use Rattle.gp_run.specs.TopCount.{top_count}
use Rattle.gp_random.specs.declared.plan.Plan.{Plan}
use Rattle.gp_random.specs.Plans.{plan_of, next}
use Rattle.gp_random.specs.Fitting.{IsNumbered, IsFit, HasEnded, events_left}
use Rattle.gp_random.specs.Sound.{IsSound}
use Rattle.gp_random.proofs.NextLemmas.{Leaves, next_leaves, ended_stays}
use Rattle.gp_driver.specs.Settling.{checkpoints, settle}
use Rattle.gp_driver.proofs.Lengths.{checkpoints_among, settled_length}
use Rattle.gp_driver.proofs.SettleCode.{brings}
use Rattle.gp_driver.proofs.TopRounds.{RunUpTo, top_up_to, up_to_top, more_rounds, one_begin}
use Rattle.gp_command.proofs.Truth.{true_both}
use Rattle.gp_sim.specs.Simulated.{Progress, sim_config, happened, one_more, after, all_drawn, drawn, simulated}
use Rattle.gp_sim.specs.Learned.{Simulates}
use Rattle.gp_sim.proofs.Rounds.{one_take, one_offer, one_fall}

-- ---- one event

pub in_range : AreInRange sim_config.acceptors sim_config.coordinators sim_config.learners
in_range = record { three_acceptors = omega arith; seven_acceptors = omega arith; one_coordinator = omega arith; five_coordinators = omega arith; one_learner = omega arith; four_learners = omega arith }

present : (node : Node) → IsNumbered node → is_present sim_config node ≡ true
present (Proposer p) h = absurd h
present (Coordinator c) h = lt-ltb c 3 h
present (Acceptor a) h = lt-ltb a 3 h
present (Learner l) h = lt-ltb l 2 h

may_fall : (have : ℕ) (node : Node) → IsNumbered node → may_keep sim_config have node None ≡ true
may_fall have (Proposer p) h = absurd h
may_fall have (Coordinator c) h = refl
may_fall have (Acceptor a) h = refl
may_fall have (Learner l) h = refl

-- an event of a workload fits
pub fit_fits : (es : List Entry) (event : Event) → IsFit (length (messages es)) event → fits sim_config es event ≡ true
fit_fits es (Offer p d) h = lt-ltb p 8 h.0
fit_fits es (Begin c r) h = h.1
fit_fits es (Take node k) h = true_both _ _ (present node h.0) (lt-ltb k (length (messages es)) h.1)
fit_fits es (Fall node what) h =
    subst (λ (w : Option Kept). fits sim_config es (Fall node w) ≡ true) (sym h.1) (true_both _ _ (present node h.0) (may_fall (length (messages es)) node h.0))

goes_up_to : (es : List Entry) (event : Event) → RunUpTo 2048 sim_config es → IsFit (length (messages es)) event → RunUpTo 2048 sim_config (entry_after sim_config es event ∷ es)
goes_up_to es (Offer p d) was h = one_offer 2048 sim_config es was p d
goes_up_to es (Begin c r) was h = one_begin 2048 sim_config es was c r h.0 h.2
goes_up_to es (Take node k) was h = one_take 2048 sim_config es was node k (present node h.0)
goes_up_to es (Fall node what) was h = subst (λ (w : Option Kept). RunUpTo 2048 sim_config (entry_after sim_config es (Fall node w) ∷ es)) (sym h.1) (one_fall 2048 sim_config es was node)

-- ---- all events

-- after at most n events: the run is legal, its rounds are few, and the workload has ended or has made n events
pub record Goes (commands n : ℕ) (s : Progress) : Type 0 where
  pub sound : IsSound s.0
  pub legal : Legal sim_config s.1
  pub rounds : RunUpTo 2048 sim_config s.1
  pub few : length s.1 + events_left s.0 ≤ 9 * commands
  pub far : HasEnded s.0 ⊎ (n ≤ length s.1)

none_left : (p : Plan) → HasEnded p → events_left p ≡ 0
none_left p h = let a = h.turns in let b = h.offered in omega (arith, a, b)

further : (commands n : ℕ) (p : Plan) (es : List Entry) (event : Event) (q : Plan) → events_left q < events_left p → HasEnded p ⊎ (n ≤ length es) → HasEnded q ⊎ (suc n ≤ length (entry_after sim_config es event ∷ es))
further commands n p es event q less (inl ended) = let none = none_left p ended in absurd (omega (arith, none, less))
further commands n p es event q less (inr le) = inr (omega (arith, le))

goes_on : (commands n : ℕ) (p : Plan) (es : List Entry) (made : Option Event × Plan) → Leaves (length (messages es)) p made → Goes commands n (p, es) → Goes commands (suc n) (happened made es)
goes_on commands n p es (None, q) l g =
    let none : IsNone {T = Event} None = search rules in
    let ended = l.ended none in
    let few = g.few in
    let left = none_left q ended in
    record { sound = l.sound; legal = g.legal; rounds = g.rounds; few = omega (arith, few, left); far = inl ended }
goes_on commands n p es (Some event, q) l g =
    let few = g.few in
    let less : events_left q < events_left p = l.nearer in
    record {
      sound = l.sound;
      legal = (g.legal, record { own_node = refl; event_fits = fit_fits es event l.event; own_messages = refl });
      rounds = goes_up_to es event g.rounds l.event;
      few = omega (arith, few, less);
      far = further commands n p es event q less g.far;
    }

nothing_up_to : RunUpTo 2048 sim_config []
nothing_up_to = let none : top_count sim_config [] ≡ 0 = refl in more_rounds (top_count sim_config []) 2048 sim_config [] (omega (arith, none)) (top_up_to sim_config [])

pub all_go : (seed commands n : ℕ) → commands ≤ 256 → Goes commands n (after n (plan_of seed commands))
all_go seed commands zero few = record {
  sound = record { offered = omega arith; counts = omega arith };
  legal = tt;
  rounds = nothing_up_to;
  few = omega arith;
  far = inr (omega arith);
}
all_go seed commands (suc n) few =
    let s = after n (plan_of seed commands) in
    let g = all_go seed commands n few in
    goes_on commands n s.0 s.1 (next (length (messages s.1)) s.0) (next_leaves (length (messages s.1)) s.0 g.sound) g

has_ended : (commands : ℕ) (s : Progress) → Goes commands (suc (9 * commands)) s → HasEnded s.0
has_ended commands s g = let few = g.few in elim g.far [
  | inl ended ↦ ended
  | inr le ↦ absurd (omega (arith, few, le))
]

-- ---- after the end

-- a workload that has ended makes no more events
stays : (k n : ℕ) (p : Plan) → HasEnded (after n p).0 → after (k + n) p ≡ after n p
stays zero n p h = ap (λ (m : ℕ). after m p) (omega arith)
stays (suc k) n p h =
    let s = after n p in
    let shift : suc k + n ≡ suc (k + n) = omega arith in
    ap (λ (m : ℕ). after m p) shift ∙ ap one_more (stays k n p h) ∙ ap (λ (made : Option Event × Plan). happened made s.1) (ended_stays (length (messages s.1)) s.0 h)

-- so all ends are one
pub one_end : (n m : ℕ) (p : Plan) → HasEnded (after n p).0 → HasEnded (after m p).0 → after n p ≡ after m p
one_end n m p h k =
    let left : m + n ≡ n + m = omega arith in
    sym (stays m n p h) ∙ ap (λ (i : ℕ). after i p) left ∙ stays n m p k

-- ---- settling

messages_few : (es : List Entry) → Legal sim_config es → length (messages es) ≤ length es
messages_few [] h = omega arith
messages_few (e ∷ es) h =
    let r = messages_few es h.0 in
    let sent = ap (λ (ms : List Stamped). length ms) h.1.own_messages in
    let all = length-append (messages es) e.sent in
    let one = one_sent (sent_by sim_config es (node_of e.event) e.event) in
    omega (arith, r, sent, all, one)
  where
    one_sent : (o : Option Stamped) → length (option_to_list o) ≤ 1
    one_sent None = omega arith
    one_sent (Some m) = omega arith

pub simulates : (seed commands : ℕ) → commands ≤ 256 → Simulates seed commands
unfolding drawn all_drawn
simulates seed commands few =
    let n = suc (9 * commands) in
    let s = after n (plan_of seed commands) in
    let g = all_go seed commands n few in
    let short = g.few in
    let messages_short = messages_few s.1 g.legal in
    let top = up_to_top 2048 sim_config s.1 g.rounds in
    let some = checkpoints_among (messages s.1) in
    record {
      ended = has_ended commands s g;
      legal = g.legal;
      short = omega (arith, short);
      rounds = top;
      settles = brings sim_config in_range s.1 g.legal (omega (arith, top, some, messages_short, short, few));
    }

-- what settling needs of the drawn run
module _ (seed commands : ℕ) (config : Counts) (es : List Entry) where
  pub rounds_left : commands ≤ 256 → config ≡ sim_config → es ≡ drawn seed commands → top_count config es + checkpoints (messages es) < LAST_COUNT
  rounds_left few own is =
      let h = simulates seed commands few in
      let top = h.rounds in
      let short = h.short in
      let m = messages_few (drawn seed commands) h.legal in
      let some = checkpoints_among (messages (drawn seed commands)) in
      let P : Counts → List Entry → Type 0 = λ c run. top_count c run + checkpoints (messages run) < LAST_COUNT in
      subst (λ (c : Counts). P c es) (sym own) (subst (P sim_config) (sym is) (omega (arith, top, some, m, short, few)))

  pub settled_short : commands ≤ 256 → config ≡ sim_config → es ≡ drawn seed commands → length (settle config es) ≤ 2147483648
  settled_short few own is =
      let h = simulates seed commands few in
      let l = settled_length sim_config in_range (drawn seed commands) h.settles in
      let m = messages_few (drawn seed commands) h.legal in
      let short = h.short in
      let P : Counts → List Entry → Type 0 = λ c run. length (settle c run) ≤ 2147483648 in
      subst (λ (c : Counts). P c es) (sym own) (subst (P sim_config) (sym is) (omega (arith, l, m, short, few)))

  pub settled_is : (now : List Entry) → config ≡ sim_config → es ≡ drawn seed commands → now ≡ settle config es → now ≡ simulated seed commands
  unfolding simulated
  settled_is now own is settled = settled ∙ ap (λ (c : Counts). settle c es) own ∙ ap (settle sim_config) is

-- ---- in the loop that draws

-- an event that a workload gave fits the run so far
pub fits_here : (config : Counts) (es : List Entry) (event : Event) (made : Option Event) (have : ℕ) → config ≡ sim_config → have ≡ length (messages es) → made ≡ Some event → IfSome made (IsFit have) → fits config es event ≡ true
fits_here config es event made have own count is fit =
    let here : IsFit (length (messages es)) event = subst (λ (n : ℕ). IsFit n event) count (subst (λ (o : Option Event). IfSome o (IsFit have)) is fit) in
    subst (λ (c : Counts). fits c es event ≡ true) (sym own) (fit_fits es event here)

pub short_so_far : (seed commands n : ℕ) (p : Plan) (es : List Entry) → commands ≤ 256 → after n (plan_of seed commands) ≡ (p, es) → length es < 2 ^ 31
short_so_far seed commands n p es few is =
    let g = (all_go seed commands n few).few in
    let same = ap (λ (s : Progress). length s.1) is in
    omega (arith, g, same, few)

one_next : (n : ℕ) (p0 p q : Plan) (es : List Entry) (made : Option Event) (have : ℕ) → after n p0 ≡ (p, es) → have ≡ length (messages es) → made ≡ (next have p).0 → q ≡ (next have p).1 → after (suc n) p0 ≡ happened (made, q) es
one_next n p0 p q es made have is count event behind =
    let pair : next have p ≡ (made, q) = ap (λ (o : Option Event). (o, (next have p).1)) (sym event) ∙ ap (λ (x : Plan). (made, x)) (sym behind) in
    ap one_more is ∙ ap (λ (k : ℕ). happened (next k p) es) (sym count) ∙ ap (λ (m : Option Event × Plan). happened m es) pair

-- one event more happened
pub drawn_on : (n : ℕ) (p0 p q : Plan) (config : Counts) (es now : List Entry) (event : Event) (made : Option Event) (have : ℕ) → config ≡ sim_config → after n p0 ≡ (p, es) → have ≡ length (messages es)
    → made ≡ (next have p).0 → q ≡ (next have p).1 → made ≡ Some event → now ≡ entry_after config es event ∷ es → after (suc n) p0 ≡ (q, now)
drawn_on n p0 p q config es now event made have own is count given behind some entry =
    one_next n p0 p q es made have is count given behind
    ∙ ap (λ (o : Option Event). happened (o, q) es) some
    ∙ ap (λ (c : Counts). (q, entry_after c es event ∷ es)) (sym own)
    ∙ ap (λ (run : List Entry). (q, run)) (sym entry)

-- all events happened
pub drawn_all : (seed commands n : ℕ) (p q : Plan) (es : List Entry) (made : Option Event) (have : ℕ) → commands ≤ 256 → after n (plan_of seed commands) ≡ (p, es) → have ≡ length (messages es)
    → made ≡ (next have p).0 → q ≡ (next have p).1 → made ≡ None → HasEnded q → es ≡ drawn seed commands
unfolding drawn all_drawn
drawn_all seed commands n p q es made have few is count given behind none ended =
    let p0 = plan_of seed commands in
    let here : after (suc n) p0 ≡ (q, es) = one_next n p0 p q es made have is count given behind ∙ ap (λ (o : Option Event). happened (o, q) es) none in
    let end : HasEnded (after (suc n) p0).0 = subst HasEnded (sym (ap (λ (s : Progress). s.0) here)) ended in
    let same = one_end (suc n) (suc (9 * commands)) p0 end (has_ended commands (after (suc (9 * commands)) p0) (all_go seed commands (suc (9 * commands)) few)) in
    sym (ap (λ (s : Progress). s.1) here) ∙ ap (λ (s : Progress). s.1) same
