-- The calls that the leader of a run followed, whatever its caller may answer.
use Rattle.std.proofs.Common.{◌≡◌, inl, inr, ℕ, ◌<◌, true, List, [], ◌∷◌, ◌++◌, length, take, drop, suc, Some, None, refl, sym, ap, ◌∙◌, subst}
use Rattle.std.specs.Prelude.{slice_get, nat_lt, nat_eq, ◌&&◌}
use Rattle.std.proofs.lemmas.Bool.{ltb-true}
use Rattle.std.proofs.lemmas.Bool.Decides.{eqb_tells}
use Rattle.gp_round.specs.Counts.{Counts}
use Rattle.gp_round.specs.Configs.{is_owner, is_between, lead_of}
use Rattle.gp_round.specs.declared.round.Round.{Round}
use Rattle.gp_msg.specs.declared.node.Node.{Node}
use Rattle.gp_msg.specs.declared.node.Node.TheVariants.{Coordinator}
use Rattle.gp_msg.specs.declared.event.Event.{Event}
use Rattle.gp_msg.specs.declared.event.Event.TheVariants.{Offer, Begin, Take, Fall}
use Rattle.gp_msg.specs.declared.record.Record.{Record}
use Rattle.gp_msg.specs.Messages.{entry_of, EpochPart, Coordinators}
use Rattle.gp_coordinator.specs.Epochs as coordinator
use Rattle.gp_coordinator.specs.Epochs.{CoordinatorInEpoch}
use Rattle.gp_run.specs.Messages.{messages}
use Rattle.gp_msg.specs.Nodes.{node_of, same_node}
use Rattle.gp_run.specs.States.{coordinator_at}
use Rattle.gp_run.specs.Legal.{Legal, Follows, fits}
use Rattle.gp_run.specs.Runs.{newest_first}
use Rattle.gp_wire.specs.Own.{own_events}
use Rattle.gp_wire.proofs.SameNodes.{same_tells}
use Rattle.gp_cell.specs.Cores.{part_in}
use Rattle.gp_cell.proofs.Runs.{core_is}
use Rattle.gp_work.specs.Doing.{ProcessState}
use Rattle.gp_work.specs.declared.moves.Move.TheVariants as move
use Rattle.gp_work.specs.Moves.{event_of}
use Rattle.gp_collide.specs.Values.{HasIncompatibleValues}
use Rattle.gp_phase.specs.declared.caller.Call.{Call}
use Rattle.gp_phase.specs.Deeds.{others_in, begins}
use Rattle.gp_phase.specs.Phases.{Answers, rounds, HasBegun}
use Rattle.gp_caller.specs.declared.policy.TheConstants.{LEADER}
use Rattle.gp_caller.specs.Standing.{StandsIn}
use Rattle.gp_caller.proofs.Deciding.{stands_still}
use Rattle.gp_round.proofs.Counting.{left_true, right_true}
use Rattle.gp_ending.specs.Begins.{leader, IsBeginAt, BeginsAt, HasFollowed}
use Rattle.gp_ending.proofs.GrowingValues.{incompatible_since}
use Rattle.gp_ending.proofs.Places.{get_place, take_place, split_place, legal_before, follows_there, events_append, events_here, head_is, cons_not_nil, deed_inside, IsDeed, same_before, Gap, gap_between}

pub begin_event : {c d : ℕ} {r q : Round} → Begin c r ≡ Begin d q → (c ≡ d) × (r ≡ q)
begin_event e = (cc, cc)

pub some_is : {A : Type 0} {x y : A} → Some x ≡ Some y → x ≡ y
some_is e = cc

-- the leader after these records
abbrev pub leader_at : Counts → List Record → CoordinatorInEpoch
leader_at config pre = coordinator_at config LEADER (newest_first pre)

module _ {answers : Answers} (p : ProcessState) (calls : List Call) (f : HasFollowed answers p calls) where
  abbrev config : Counts
  config = p.config

  abbrev X : List Record
  X = p.list

  -- ---- what is known, for the leader

  pub acts : others_in (own_events leader X) ≡ begins leader (rounds calls)
  acts = subst (λ n. others_in (own_events n X) ≡ begins n (rounds calls)) f.node f.acts

  -- no further round is called for the whole list
  pub ended : answers config leader calls X None
  ended = subst (λ n. answers config n calls X None) f.node f.ended

  -- a call, and what the leader had done before it
  pub record Meant (before : List Call) (c : Call) : Type 0 where
    pub seen : List Record
    pub more : List Record
    pub split : X ≡ seen ++ more
    pub acted : others_in (own_events leader seen) ≡ begins leader (rounds before)
    pub may : answers config leader before seen (Some c)
    pub rest : List Event
    pub next : own_events leader X ≡ own_events leader seen ++ Begin LEADER c.round ∷ rest

  meant : (before : List Call) (c : Call) → HasBegun answers p before c → Meant before c
  meant before c b = record {
    seen = b.meant.seen;
    more = b.meant.more;
    split = b.meant.split;
    acted = subst (λ n. others_in (own_events n b.meant.seen) ≡ begins n (rounds before)) f.node b.meant.acts;
    may = subst (λ n. answers config n before b.meant.seen (Some c)) f.node b.meant.may;
    rest = b.rest;
    next = subst (λ n. own_events n X ≡ own_events n b.meant.seen ++ event_of n (move.Begin c.round) ∷ b.rest) f.node b.next;
  }

  pub first_meant : (c : Call) (cs : List Call) → calls ≡ c ∷ cs → Meant [] c
  first_meant c cs is = meant [] c (f.begun 0 c (ap (λ l. slice_get l 0) is))

  -- the call that comes behind these ones
  call_meant : (done : List Call) (c : Call) (rest : List Call) → done ++ c ∷ rest ≡ calls → Meant done c
  call_meant done c rest all =
      let there : slice_get calls (length done) ≡ Some c = subst (λ cs. slice_get cs (length done) ≡ Some c) all (get_place done c rest) in
      let cut : take (length done) calls ≡ done = ap (take (length done)) (sym all) ∙ take_place done (c ∷ rest) in
      meant done c (subst (λ before. HasBegun answers p before c) cut (f.begun (length done) c there))

  pub stands_here : (pre : List Record) → Legal config (newest_first pre) → StandsIn config leader pre (leader_at config pre).epoch (leader_at config pre).state.round
  stands_here pre legal = ap part_in (core_is config leader (newest_first pre) legal)

  pub stands_there : (pre : List Record) (e : ℕ) (own : Round) → Legal config (newest_first pre) → StandsIn config leader pre e own → ((leader_at config pre).epoch ≡ e) × ((leader_at config pre).state.round ≡ own)
  stands_there pre e own legal stands =
      let part : coordinator.durable (leader_at config pre) ≡ record { epoch = e; part = Coordinators own } = some_is (sym (stands_here pre legal) ∙ stands) in
      let round : Coordinators (leader_at config pre).state.round ≡ Coordinators own = ap (λ (k : EpochPart). k.part) part in
      (ap (λ (k : EpochPart). k.epoch) part, cc)

  -- ---- no other coordinator begins a round

  owner_below : (n c : ℕ) (r : Round) → is_owner n c r ≡ true → c < n
  owner_below n c r h = ltb-true c n (right_true (is_between 1 1000000 r.count) (nat_lt c n) (left_true (is_between 1 1000000 r.count && nat_lt c n) (nat_eq r.lead (lead_of r.mode c)) h))

  module _ (pre post : List Record) (x : Record) (split : X ≡ pre ++ x ∷ post) where
    legal_here : Legal config (newest_first (pre ++ x ∷ post))
    legal_here = subst (λ rs. Legal config (newest_first rs)) split f.legal

    pub legal_pre : Legal config (newest_first pre)
    legal_pre = legal_before config pre (x ∷ post) legal_here

    pub follows_pre : Follows config (newest_first pre) (entry_of x)
    follows_pre = follows_there config pre post x legal_here

    -- the events of a node, round the one at this place
    events_round : (n : Node) → same_node n x.node ≡ true → own_events n X ≡ own_events n pre ++ x.event ∷ own_events n post
    events_round n here = ap (own_events n) split ∙ events_append n pre (x ∷ post) ∙ ap (λ l. own_events n pre ++ l) (events_here n x post here)

    -- no other coordinator begins a round
    pub no_other : (c : ℕ) (r : Round) → x.event ≡ Begin c r → c ≡ LEADER
    no_other c r is = elim (eqb_tells c LEADER) [
      | inl t ↦ t.1
      | inr t ↦ absurd (other (f.others c below t.1))
    ]
      where
        of_c : x.node ≡ Coordinator c
        of_c = follows_pre.own_node ∙ ap node_of is

        below : c < config.coordinators
        below = owner_below config.coordinators c r (sym (ap (fits config (newest_first pre)) is) ∙ follows_pre.event_fits)

        other : others_in (own_events (Coordinator c) X) ≡ [] → ⊥
        other none = elim (same_tells (Coordinator c) x.node) [
          | inl t ↦ deed_inside (own_events (Coordinator c) pre) (own_events (Coordinator c) post) x.event (subst IsDeed (sym is) refl) (sym (ap others_in (events_round (Coordinator c) t.0)) ∙ none)
          | inr t ↦ t.1 (sym of_c)
        ]

    -- ---- the next round that the leader begins is the next that was called

    -- the leader had the same events when the call was made, and now
    gap_of : (r : Round) (done : List Call) (c : Call) → x.node ≡ leader → x.event ≡ Begin LEADER r → others_in (own_events leader pre) ≡ begins leader (rounds done) → (m : Meant done c) → Gap leader pre m.seen
    gap_of r done c mine is did m = elim (same_tells leader x.node) [ inl t ↦ gap t.0 | inr t ↦ absurd (t.1 (sym mine)) ]
      where
        gap : same_node leader x.node ≡ true → Gap leader pre m.seen
        gap here =
            let whole : own_events leader pre ++ Begin LEADER r ∷ own_events leader post ≡ own_events leader m.seen ++ Begin LEADER c.round ∷ m.rest =
            sym (events_round leader here ∙ ap (λ e. own_events leader pre ++ e ∷ own_events leader post) is) ∙ m.next in
            gap_between leader pre post m.seen m.more x here (sym split ∙ m.split)
            (same_before (own_events leader pre) (own_events leader m.seen) (own_events leader post) m.rest (Begin LEADER r) (Begin LEADER c.round) refl refl (did ∙ sym m.acted) whole)

  -- behind these records the leader begins round r, which is that of the first call that is left; it had the same events when that call was made
  pub record NextCall (pre : List Record) (done left : List Call) (r : Round) : Type 0 where
    pub call : Call
    pub rest : List Call
    pub left_is : left ≡ call ∷ rest
    pub round_is : r ≡ call.round
    pub meant : Meant done call
    pub gap : Gap leader pre meant.seen
    pub legal : Legal config (newest_first pre)

  pub next_call : (pre post : List Record) (x : Record) → X ≡ pre ++ x ∷ post → (r : Round) → x.node ≡ leader → x.event ≡ Begin LEADER r → (done left : List Call) → done ++ left ≡ calls
      → others_in (own_events leader pre) ≡ begins leader (rounds done) → others_in (own_events leader (x ∷ post)) ≡ begins leader (rounds left) → NextCall pre done left r
  next_call pre post x split r mine is done left all did todo = by_left left all (sym (ap others_in event_first) ∙ todo)
    where
      event_first : own_events leader (x ∷ post) ≡ Begin LEADER r ∷ own_events leader post
      event_first = elim (same_tells leader x.node) [ inl t ↦ events_here leader x post t.0 ∙ ap (λ e. e ∷ own_events leader post) is | inr t ↦ absurd (t.1 (sym mine)) ]

      by_left : (left : List Call) → done ++ left ≡ calls → Begin LEADER r ∷ others_in (own_events leader post) ≡ begins leader (rounds left) → NextCall pre done left r
      by_left [] all todo = absurd (cons_not_nil todo)
      by_left (c ∷ rest) all todo = record {
        call = c;
        rest = rest;
        left_is = refl;
        round_is = (begin_event (head_is todo)).1;
        meant = call_meant done c rest all;
        gap = gap_of pre post x split r done c mine is did (call_meant done c rest all);
        legal = legal_pre pre post x split;
      }

  module _ (pre : List Record) (done left : List Call) (r : Round) (n : NextCall pre done left r) where
    -- the leader stood in the same epoch and round when the call was made
    pub stood : (e : ℕ) (own : Round) → StandsIn config leader n.meant.seen e own → ((leader_at config pre).epoch ≡ e) × ((leader_at config pre).state.round ≡ own)
    stood e own stands = stands_there pre e own n.legal (stands_still config leader n.meant.seen n.gap.gap pre e own n.gap.split n.gap.same stands)

    -- the values that were seen when the call was made are still there
    pub clashed_since : (e : ℕ) (q : Round) → HasIncompatibleValues (e, q) (messages (newest_first n.meant.seen)) → HasIncompatibleValues (e, q) (messages (newest_first pre))
    clashed_since e q h = subst (λ l. HasIncompatibleValues (e, q) (messages (newest_first l))) (sym n.gap.split) (incompatible_since (e, q) n.meant.seen n.gap.gap h)

  -- the records that were seen when a call was made are a legal run
  pub seen_legal : (done : List Call) (c : Call) (m : Meant done c) → Legal config (newest_first m.seen)
  seen_legal done c m = legal_before config m.seen m.more (subst (λ rs. Legal config (newest_first rs)) m.split f.legal)

  -- ---- a place where a round is begun

  pub begins_there : (place c : ℕ) (r : Round) → IsBeginAt X place c r → BeginsAt config X place (leader_at config (take place X)).epoch r
  begins_there place c r h =
      let split = split_place X place h.begun h.there in
      let is : h.begun.event ≡ Begin LEADER r = h.begins ∙ ap (λ n. Begin n r) (no_other (take place X) (drop (suc place) X) h.begun split c r h.begins) in
      record {
        at = record { begun = h.begun; there = h.there; begins = is };
        by_leader = (follows_pre (take place X) (drop (suc place) X) h.begun split).own_node ∙ ap node_of is;
        own = (leader_at config (take place X)).state.round;
        stands = stands_here (take place X) (legal_pre (take place X) (drop (suc place) X) h.begun split);
      }

  -- ---- the first event

  -- where a call of round q was the first one, and no message was taken before, that round is begun before all else
  pub opens_with : (c : Call) (cs : List Call) (q : Round) → calls ≡ c ∷ cs → c.round ≡ q → ((n : Node) (k : ℕ) (rest : List Event) → ¬ (own_events leader X ≡ Take n k ∷ rest))
      → (rest : List Event) × (own_events leader X ≡ Begin LEADER q ∷ rest)
  opens_with c cs q is round_is none = by_events (own_events leader X) refl (acts ∙ ap (λ l. begins leader (rounds l)) is)
    where
      by_events : (es : List Event) → own_events leader X ≡ es → others_in es ≡ Begin LEADER c.round ∷ begins leader (rounds cs) → (rest : List Event) × (own_events leader X ≡ Begin LEADER q ∷ rest)
      by_events [] are did = absurd (cons_not_nil (sym did))
      by_events (Offer a d ∷ rest) are did = absurd (let wrong : Offer a d ≡ Begin LEADER c.round = head_is did in cc)
      by_events (Begin n r ∷ rest) are did = (rest, are ∙ ap (λ x. x ∷ rest) (head_is did ∙ ap (λ r. Begin LEADER r) round_is))
      by_events (Take n k ∷ rest) are did = absurd (none n k rest are)
      by_events (Fall n what ∷ rest) are did = absurd (let wrong : Fall n what ≡ Begin LEADER c.round = head_is did in cc)
