-- A run that ended quietly.
use Rattle.std.proofs.Common.{◌≡◌, ◌≢◌, ℕ, ◌<◌, ◌≤◌, Bool, true, false, List, [], ◌∷◌, ◌++◌, length, map, get_or, refl, sym, ap, ◌∙◌, subst, inl, inr, arith, Option, Some, None, append_assoc, length-append}
use Rattle.std.specs.Option.{option_map, option_to_list}
use Rattle.std.proofs.lemmas.List.{append-nil}
use Rattle.std.proofs.lemmas.Bool.{lt-ltb}
use Rattle.gp_round.specs.Counts.{Counts}
use Rattle.gp_round.specs.declared.round.Round.{Round}
use Rattle.gp_msg.specs.declared.node.Node.{Node}
use Rattle.gp_msg.specs.declared.node.Node.TheVariants.{Proposer, Coordinator}
use Rattle.gp_msg.specs.declared.event.Event.{Event}
use Rattle.gp_msg.specs.declared.event.Event.TheVariants.{Offer, Begin, Take, Fall}
use Rattle.gp_msg.specs.declared.record.Record.{Record}
use Rattle.gp_msg.specs.Nodes.{is_present}
use Rattle.gp_run.specs.Legal.{Legal}
use Rattle.gp_run.specs.Runs.{newest_first}
use Rattle.gp_wire.specs.Lists.{Each, Has}
use Rattle.gp_msg.specs.Records.{messages_in}
use Rattle.gp_wire.specs.Known.{WireState, records}
use Rattle.gp_wire.specs.Own.{own, own_events, event_in, IsBehind}
use Rattle.gp_cell.specs.declared.rules.PaxosRules.{PaxosRules}
use Rattle.gp_work.specs.declared.job.Job.{Job}
use Rattle.gp_work.specs.declared.moves.Move.TheVariants as move
use Rattle.gp_work.specs.Doing.{ProcessState}
use Rattle.gp_work.specs.Moves.{event_of, is_offer}
use Rattle.gp_work.specs.Batches.{AreRead}
use Rattle.gp_work.specs.Jobs.{Done, HasWorked}
use Rattle.gp_cell.specs.Cells.{CellState}
use Rattle.gp_cell.specs.Working.{process_of, causes_of, IsAt}
use Rattle.gp_phase.specs.declared.caller.Call.{Call}
use Rattle.gp_phase.specs.Deeds.{takes_in, others_in, begins, begin_moves, Tidy}
use Rattle.gp_phase.specs.Phases.{Answers, rounds, only_at, total, Finished}
use Rattle.gp_phase.specs.Quiet.{IsQuietAt}
use Rattle.gp_phase.proofs.Phasing.{done_of, only_here, only_else}
use Rattle.gp_phase.proofs.Quieting.{counted, counted_all, read_end}
use Rattle.gp_caller.specs.declared.policy.TheConstants.{FIRST_ROUND, FIRST_FAST_ROUND, LEADER}
use Rattle.gp_caller.specs.Rounds.{next_round}
use Rattle.gp_caller.specs.Calling.{IsCalled, call_in, highest_for}
use Rattle.gp_caller.specs.Adapting.{IsAdapted}
use Rattle.gp_ending.specs.Begins.{leader, HasFollowed, BeginsInTurn}
use Rattle.gp_ending.specs.Adapting.{BeginsInCourse}
use Rattle.gp_ending.proofs.Concluding.{begins_in_turn, opens_with_first}
use Rattle.gp_ending.proofs.BegunInCourse.{begins_in_course, opens_with_first_fast}
use Rattle.gp_ending.proofs.Places.{head_is, cons_not_nil}
use Rattle.gp_ending.specs.Quiet.{IsFall, IsOffer, IsQuietList, IsQuietRun, IsAdaptiveRun}
use Rattle.gp_ending.specs.Ended.{is_proposer, cell_in, cells_of, nodes_of, EndedRun, EndsQuietly, StaysSteady, HasOwnPass, cells_in, IsListOf, IsClosedList}
use Rattle.gp_ending.proofs.Indexing.{pick, each_of, each_got, get_each, each_both, each_mapped, each_then, first_cells, second_cells, JobOf, job_of, has_node, same_nodes}
use Rattle.gp_ending.proofs.Holding.{all_there, own_behind, of_node, counted_append, total_counted, each_begun}
use Rattle.gp_ending.proofs.Offering.{events_of, offers_made, are_offers, no_takes, offer_is_no_fall, none_is_read}

-- ---- events of a node that works

begun_is_no_fall : (es : List Event) (n : Node) (rs : List Round) → others_in es ≡ begins n rs → Each (λ e. ¬ IsFall e) es
begun_is_no_fall [] n rs h = tt
begun_is_no_fall (Offer p d ∷ es) n [] h = absurd (cons_not_nil h)
begun_is_no_fall (Offer p d ∷ es) n (r ∷ rs) h = absurd (let wrong : Offer p d ≡ event_of n (move.Begin r) = head_is h in cc)
begun_is_no_fall (Begin c q ∷ es) n [] h = absurd (cons_not_nil h)
begun_is_no_fall (Begin c q ∷ es) n (r ∷ rs) h = (λ f. f, begun_is_no_fall es n rs (tail_is h))
  where
    tail_is : {A : Type 0} {x y : A} {xs ys : List A} → x ∷ xs ≡ y ∷ ys → xs ≡ ys
    tail_is e = cc
begun_is_no_fall (Take m k ∷ es) n rs h = (λ f. f, begun_is_no_fall es n rs h)
begun_is_no_fall (Fall m kept ∷ es) n [] h = absurd (cons_not_nil h)
begun_is_no_fall (Fall m kept ∷ es) n (r ∷ rs) h = absurd (let wrong : Fall m kept ≡ event_of n (move.Begin r) = head_is h in cc)

-- ---- lists

ends_there : (xs ys zs : List Record) → xs ≡ ys ++ zs → length xs ≡ length ys → zs ≡ []
ends_there xs ys [] e l = refl
ends_there xs ys (z ∷ zs) e l = absurd (let n = length-append ys (z ∷ zs) in let m = ap length e in omega arith)

front_empty : {A : Type 0} (xs ys : List A) → xs ++ ys ≡ [] → xs ≡ []
front_empty [] ys e = refl
front_empty (x ∷ xs) ys e = absurd (cons_not_nil e)

by_false : (b : Bool) → (b ≡ true → ⊥) → b ≡ false
by_false true h = absurd (h refl)
by_false false h = refl

-- some round is called first
some_first : (e : ℕ) (own : Round) (clashed : Bool) → None ≡ option_map (call_in e) (next_round (highest_for 0 own) clashed 0) → ⊥
some_first e own clashed h = cc

module _ {D : Type 0} (answers : Answers) (content : D → Option (List ℕ)) (faults : D → ℕ) (wire : WireState PaxosRules) (run : EndedRun D) (X : List Record) (q : EndsQuietly answers content faults wire run) (l : IsListOf wire run X) where
  abbrev config : Counts
  config = wire.rules.config

  abbrev JobAt : Type 0
  JobAt = Job (CellState D)

  abbrev state : CellState D → ProcessState
  state = process_of faults

  abbrev j0 : ℕ → JobAt → JobAt
  j0 i d = get_or run.starting i d

  abbrev jk : ℕ → JobAt → JobAt
  jk i d = get_or run.ended i d

  abbrev p0 : ℕ → JobAt → JobAt
  p0 i d = get_or run.offering i d

  abbrev pk : ℕ → JobAt → JobAt
  pk i d = get_or run.offered i d

  -- ---- the cells at the end

  abbrev Behind : CellState D → Type 0
  Behind c = IsBehind c.node (records c.pass) X

  work_behind : (i : ℕ) (d : JobAt) → i < length run.starting → Behind (jk i d).cell
  work_behind i d w = first_cells Behind run.ended run.offered (each_got Behind (cells_in run) l.behind) i d (let s = q.phases.worked.size in omega arith)

  offer_behind : (i : ℕ) (d : JobAt) → i < length run.offering → Behind (pk i d).cell
  offer_behind i d w = second_cells Behind run.ended run.offered (each_got Behind (cells_in run) l.behind) i d (let s = q.offered_size in omega arith)

  work_nodes : nodes_of run.ended ≡ nodes_of run.starting
  work_nodes = same_nodes run.starting run.ended q.phases.worked.size (λ i d w. (q.phases.worked.finished i d w).going.goes.node)

  offer_nodes : nodes_of run.offered ≡ nodes_of run.offering
  offer_nodes = same_nodes run.offering run.offered q.offered_size (λ i d w. (q.offered i d w).stretch.goes.node)

  -- ---- the length of the list

  each_has : Each (λ r. Has r.node (nodes_of run.starting ++ nodes_of run.offering)) X
  each_has = each_then (λ (r : Record). is_present config r.node ≡ true) (λ (r : Record). Has r.node (nodes_of run.starting ++ nodes_of run.offering)) (λ r there. by_kind r.node (is_proposer r.node) refl there) X (all_there config X l.legal)
    where
      front : (n : Node) (xs ys : List Node) → Has n xs → Has n (xs ++ ys)
      front n [] ys h = absurd h
      front n (x ∷ xs) ys (inl e) = inl e
      front n (x ∷ xs) ys (inr h) = inr (front n xs ys h)

      back : (n : Node) (xs ys : List Node) → Has n ys → Has n (xs ++ ys)
      back n [] ys h = h
      back n (x ∷ xs) ys h = inr (back n xs ys h)

      by_kind : (n : Node) (b : Bool) → is_proposer n ≡ b → is_present config n ≡ true → Has n (nodes_of run.starting ++ nodes_of run.offering)
      by_kind n true e there = back n (nodes_of run.starting) (nodes_of run.offering) ((q.nodes.offer n).1 (there, e))
      by_kind n false e there = front n (nodes_of run.starting) (nodes_of run.offering) ((q.nodes.take n).1 (there, e))

  all_posted : total state (total state 0 run.offered) run.ended ≡ length X
  all_posted =
      let offered = total_counted faults X 0 run.offered (λ i d w. own_behind X (pk i d).cell (offer_behind i d (let s = q.offered_size in omega arith))) in
      let ended = total_counted faults X (total state 0 run.offered) run.ended (λ i d w. own_behind X (jk i d).cell (work_behind i d (let s = q.phases.worked.size in omega arith))) in
      let one = ap (λ ns. counted ns X) work_nodes in
      let two = ap (λ ns. counted ns X) offer_nodes in
      let sum = counted_append (nodes_of run.starting) (nodes_of run.offering) X in
      let all = counted_all (nodes_of run.starting ++ nodes_of run.offering) X q.nodes.distinct each_has in
      omega arith

  -- ---- a node that works

  -- the job ended when its node had seen just the list
  record SawX (i : ℕ) (d : JobAt) (w : i < length run.starting) : Type 0 where
    list : records (jk i d).cell.pass ≡ X
    seen : (q.phases.worked.finished i d w).seen ≡ X

  saw : (i : ℕ) (d : JobAt) (w : i < length run.starting) → SawX i d w
  saw i d w = record { list = list; seen = seen }
    where
      f : Finished state (λ c n. IsAt c n) wire (only_at run.at i (rounds run.calls)) (total state (total state 0 run.offered) run.ended) (j0 i d) (jk i d)
      f = q.phases.worked.finished i d w

      b : Behind (jk i d).cell
      b = work_behind i d w

      rest : f.more ++ b.more ≡ []
      rest = ends_there X f.seen (f.more ++ b.more) (b.split ∙ ap (λ rs. rs ++ b.more) f.split ∙ append_assoc f.seen f.more b.more) (sym (f.whole ∙ all_posted))

      more : f.more ≡ []
      more = front_empty f.more b.more rest

      list : records (jk i d).cell.pass ≡ X
      list = sym (append-nil (records (jk i d).cell.pass)) ∙ sym (b.split ∙ ap (λ rs. records (jk i d).cell.pass ++ rs) (sym (ap (λ rs. rs ++ b.more) more) ∙ rest))

      seen : f.seen ≡ X
      seen = sym (f.split ∙ ap (λ rs. f.seen ++ rs) more ∙ append-nil f.seen) ∙ list

  pub all_saw : (i : ℕ) (d : JobAt) → i < length run.starting → records (jk i d).cell.pass ≡ X
  all_saw i d w = (saw i d w).list

  module _ (u : StaysSteady faults run) where
    unfallen : (i : ℕ) (d : JobAt) → i < length run.starting → (jk i d).risen ≡ false
    unfallen i d w = by_false (jk i d).risen (λ up. u.working i d w ((q.phases.worked.finished i d w).going.fallen (q.phases.opening i d w).risen up))

    -- what its node did
    record WorkedOn (i : ℕ) (d : JobAt) : Type 0 where
      quiet : IsQuietAt (jk i d).cell.node X
      acts : others_in (own_events (jk i d).cell.node X) ≡ begins (jk i d).cell.node (only_at run.at i (rounds run.calls))

    worked_on : (i : ℕ) (d : JobAt) → i < length run.starting → WorkedOn i d
    worked_on i d w =
        let s = saw i d w in
        let t : Tidy (state (jk i d).cell) (jk i d).cursor (begins (jk i d).cell.node (only_at run.at i (rounds run.calls))) = (q.phases.worked.finished i d w).going.tidy (unfallen i d w) in record {
          quiet = read_end (jk i d).cell.node X (jk i d).cursor (subst (λ rs. length (messages_in rs) ≤ (jk i d).cursor) s.seen (q.phases.worked.finished i d w).looked)
              (subst (λ rs. AreRead (jk i d).cell.node (messages_in rs) 0 (jk i d).cursor (takes_in (own_events (jk i d).cell.node rs))) s.list t.read);
          acts = subst (λ rs. others_in (own_events (jk i d).cell.node rs) ≡ begins (jk i d).cell.node (only_at run.at i (rounds run.calls))) s.list t.acts;
        }

    -- ---- a proposer

    offered_just : (i : ℕ) (d : JobAt) → i < length run.offering → own_events (p0 i d).cell.node X ≡ events_of (p0 i d).cell.node (p0 i d).first
    offered_just i d w =
        ap (λ n. own_events n X) (sym node)
        ∙ ap (map event_in) (own_behind X (pk i d).cell (offer_behind i d w))
        ∙ offers_made (state (p0 i d).cell) (p0 i d).first (p0 i d).cursor (state (pk i d).cell) (pk i d).cursor (((q.nodes.offer (p0 i d).cell.node).0 (has_node run.offering i d w)).1) (q.offers i d w).offers (q.offers i d w).nothing done
      where
        worked : HasWorked state (λ c n. IsAt c n) (causes_of content) wire (p0 i d) (pk i d)
        worked = q.offered i d w

        node : (pk i d).cell.node ≡ (p0 i d).cell.node
        node = worked.stretch.goes.node

        unbroken : (pk i d).fault ≡ None
        unbroken = q.unbroken i d (let s = q.offered_size in omega arith)

        stands : (pk i d).risen ≡ false
        stands = by_false (pk i d).risen (λ up. u.offering i d w (worked.stretch.turned (q.offers i d w).risen up))

        done : Done (state (p0 i d).cell) false (p0 i d).first (p0 i d).cursor (state (pk i d).cell) false (pk i d).cursor
        done = subst (λ g. Done (state (p0 i d).cell) false (p0 i d).first (p0 i d).cursor (state (pk i d).cell) g (pk i d).cursor) stands
            (subst (λ g. Done (state (p0 i d).cell) g (p0 i d).first (p0 i d).cursor (state (pk i d).cell) (pk i d).risen (pk i d).cursor) (q.offers i d w).risen
            (done_of (causes_of content (pk i d).cell) (state (p0 i d).cell) (p0 i d).risen (p0 i d).first (p0 i d).cursor (state (pk i d).cell) (pk i d).risen (pk i d).cursor (pk i d).fault unbroken worked.ends))

    -- ---- all nodes

    -- what a node of the configuration did
    record Did (n : Node) : Type 0 where
      quiet : IsQuietAt n X
      stands : Each (λ e. ¬ IsFall e) (own_events n X)
      offers : (p : ℕ) → n ≡ Proposer p → Each IsOffer (own_events n X)
      -- a coordinator that does not lead begins no round
      follows : is_proposer n ≡ false → n ≢ leader → others_in (own_events n X) ≡ []

    taker : (n : Node) → is_proposer n ≡ false → JobOf n run.starting → Did n
    taker n e j = record {
      quiet = subst (λ m. IsQuietAt m X) node w.quiet;
      stands = begun_is_no_fall (own_events n X) n (only_at run.at j.place (rounds run.calls)) acts;
      offers = λ p is. absurd (let wrong : true ≡ false = sym (ap is_proposer is) ∙ e in cc);
      follows = λ _ other. acts ∙ ap (begins n) (only_else run.at j.place (rounds run.calls) (λ here. other (sym j.node_is ∙ ap (λ i. (j0 i j.some).cell.node) here ∙ q.phases.leads j.some)));
    }
      where
        w : WorkedOn j.place j.some
        w = worked_on j.place j.some j.within

        node : (jk j.place j.some).cell.node ≡ n
        node = (q.phases.worked.finished j.place j.some j.within).going.goes.node ∙ j.node_is

        acts : others_in (own_events n X) ≡ begins n (only_at run.at j.place (rounds run.calls))
        acts = subst (λ m. others_in (own_events m X) ≡ begins m (only_at run.at j.place (rounds run.calls))) node w.acts

    proposer : (n : Node) → is_proposer n ≡ true → JobOf n run.offering → Did n
    proposer n e j = record {
      quiet = subst (AreRead n (messages_in X) 0 (length (messages_in X))) (sym (ap takes_in just ∙ no_takes n (p0 j.place j.some).first offers)) (none_is_read n (messages_in X) (length (messages_in X)) e);
      stands = each_then IsOffer (λ e. ¬ IsFall e) offer_is_no_fall (own_events n X) all;
      offers = λ p is. all;
      follows = λ wrong. absurd (let never : true ≡ false = sym e ∙ wrong in cc);
    }
      where
        just : own_events n X ≡ events_of n (p0 j.place j.some).first
        just = subst (λ m. own_events m X ≡ events_of m (p0 j.place j.some).first) j.node_is (offered_just j.place j.some j.within)

        offers : Each (λ m. is_offer m ≡ true) (p0 j.place j.some).first
        offers = (q.offers j.place j.some j.within).offers

        all : Each IsOffer (own_events n X)
        all = subst (Each IsOffer) (sym just) (are_offers n (p0 j.place j.some).first offers)

    did : (n : Node) → is_present config n ≡ true → Did n
    did n there = by_kind (is_proposer n) refl
      where
        by_kind : (b : Bool) → is_proposer n ≡ b → Did n
        by_kind true e = proposer n e (job_of n run.offering ((q.nodes.offer n).1 (there, e)))
        by_kind false e = taker n e (job_of n run.starting ((q.nodes.take n).1 (there, e)))

    -- ---- all records

    -- what holds of the events of each node holds of all records
    each_record : (P : Node → Event → Type 0) → ((n : Node) → is_present config n ≡ true → Each (P n) (own_events n X)) → Each (λ r. P r.node r.event) X
    each_record P h = over X (λ n there. of_node (P n) n X (h n there)) (all_there config X l.legal)
      where
        over : (rs : List Record) → ((n : Node) → is_present config n ≡ true → Each (λ (r : Record). r.node ≡ n → P n r.event) rs) → Each (λ (r : Record). is_present config r.node ≡ true) rs → Each (λ (r : Record). P r.node r.event) rs
        over [] h t = tt
        over (r ∷ rs) h t = ((h r.node t.0).0 refl, over rs (λ n there. (h n there).1) t.1)

    -- ---- the leader

    d0 : JobAt
    d0 = pick run.starting run.at q.phases.within

    abbrev lead : ProcessState
    lead = state (jk run.at d0).cell

    lead_node : lead.node ≡ leader
    lead_node = (q.phases.worked.finished run.at d0 q.phases.within).going.goes.node ∙ q.phases.leads d0

    lead_list : lead.list ≡ X
    lead_list = (saw run.at d0 q.phases.within).list

    lead_config : lead.config ≡ config
    lead_config = (q.phases.worked.finished run.at d0 q.phases.within).going.own.config

    -- the leader has begun just the rounds that were called
    pub begun_just : others_in (own_events leader X) ≡ begins leader (rounds run.calls)
    begun_just = subst (λ n. others_in (own_events n X) ≡ begins n (rounds run.calls)) lead_node
        ((worked_on run.at d0 q.phases.within).acts ∙ ap (begins lead.node) (only_here run.at run.at (rounds run.calls) refl))

    present_below : (c : ℕ) → c < config.coordinators → is_present config (Coordinator c) ≡ true
    present_below c w = lt-ltb c config.coordinators w

    followed : HasFollowed answers lead run.calls
    followed = record {
      node = lead_node;
      legal = subst (λ rs. Legal lead.config (newest_first rs)) (sym lead_list) (subst (λ c. Legal c (newest_first X)) (sym lead_config) l.legal);
      begun = (q.phases.worked.follows d0).all (unfallen run.at d0 q.phases.within);
      acts = subst (λ rs. others_in (own_events lead.node rs) ≡ begins lead.node (rounds run.calls)) (sym lead_list)
          (subst (λ n. others_in (own_events n X) ≡ begins n (rounds run.calls)) (sym lead_node) begun_just);
      others = λ c below other. subst (λ rs. others_in (own_events (Coordinator c) rs) ≡ []) (sym lead_list)
          ((did (Coordinator c) (present_below c (subst (λ (k : Counts). c < k.coordinators) lead_config below))).follows refl (λ is. other (coordinator_is is)));
      ended = q.phases.worked.last d0;
    }
      where
        coordinator_is : {a b : ℕ} → Coordinator a ≡ Coordinator b → a ≡ b
        coordinator_is e = cc

    -- the leader begins a round before all else, if the first answer of the caller is one
    opens_with : ((c : Counts) (n : Node) (seen : List Record) → answers c n [] seen None → ⊥) → (c : Call) × (rest : List Event) × (own_events leader X ≡ Begin LEADER c.round ∷ rest)
    opens_with some = by_answer (q.phases.answered d0).answer (q.phases.answered d0).called_is (q.phases.answered d0).may
      where
        posted : (rest : List Event) × (own_events leader X ≡ begins leader (rounds run.first) ++ rest)
        posted =
            let o = q.phases.opening run.at d0 q.phases.within in
            let p = q.phases.worked.opens run.at d0 q.phases.within (rounds run.first) (o.first ∙ ap begin_moves (only_here run.at run.at (rounds run.first) refl)) (unfallen run.at d0 q.phases.within) in
            let mine : own_events lead.node X ≡ begins (j0 run.at d0).cell.node (rounds run.first) ++ p.0 = ap (own_events lead.node) (sym lead_list) ∙ p.1 ∙ ap (λ es. es ++ (begins (j0 run.at d0).cell.node (rounds run.first) ++ p.0)) o.nothing in (
              p.0,
              ap (λ n. own_events n X) (sym lead_node) ∙ mine ∙ ap (λ n. begins n (rounds run.first) ++ p.0) (q.phases.leads d0),
            )

        by_answer : (answer : Option Call) → run.first ≡ option_to_list answer → answers (state (j0 run.at d0).cell).config (state (j0 run.at d0).cell).node [] (state (j0 run.at d0).cell).list answer
            → (c : Call) × (rest : List Event) × (own_events leader X ≡ Begin LEADER c.round ∷ rest)
        by_answer None is may = absurd (some (state (j0 run.at d0).cell).config (state (j0 run.at d0).cell).node (state (j0 run.at d0).cell).list may)
        by_answer (Some c) is may = (c, posted.0, posted.1 ∙ ap (λ cs. begins leader (rounds cs) ++ posted.0) is)

    -- so its first event takes no message
    takes_later : ((c : Counts) (n : Node) (seen : List Record) → answers c n [] seen None → ⊥) → (n : Node) (k : ℕ) (rest : List Event) → ¬ (own_events leader lead.list ≡ Take n k ∷ rest)
    takes_later some n k rest took =
        let o = opens_with some in let wrong : Begin LEADER o.0.round ≡ Take n k = head_is (sym o.2 ∙ ap (own_events leader) (sym lead_list) ∙ took) in cc

    -- **each node took what it reads, and none fell**
    pub is_quiet_list : IsQuietList config X
    is_quiet_list = record {
      legal = l.legal;
      quiet = λ n there. (did n there).quiet;
      stands = each_record (λ n e. ¬ IsFall e) (λ n there. (did n there).stands);
      offers = each_record (λ n e. (p : ℕ) → n ≡ Proposer p → IsOffer e) (λ n there. by_node n (own_events n X) (did n there).offers);
    }
      where
        by_node : (n : Node) (es : List Event) → ((p : ℕ) → n ≡ Proposer p → Each IsOffer es) → Each (λ e. (p : ℕ) → n ≡ Proposer p → IsOffer e) es
        by_node n [] h = tt
        by_node n (e ∷ es) h = (λ p is. (h p is).0, by_node n es (λ p is. (h p is).1))

    pub all_offered : (i : ℕ) (d : JobAt) → i < length run.offering → own_events (p0 i d).cell.node X ≡ events_of (p0 i d).cell.node (p0 i d).first
    all_offered = offered_just

-- ---- the two kinds of runs

module _ {D : Type 0} (content : D → Option (List ℕ)) (faults : D → ℕ) (wire : WireState PaxosRules) (run : EndedRun D) (X : List Record) (q : EndsQuietly IsCalled content faults wire run) (l : IsListOf wire run X) (u : StaysSteady faults run) where
  abbrev turning : ProcessState
  turning = lead IsCalled content faults wire run X q l u

  some_called : (c : Counts) (n : Node) (seen : List Record) → IsCalled c n [] seen None → ⊥
  some_called c n seen may = some_first may.epoch may.own may.clashed may.call_is

  -- **the run is quiet, and its rounds are begun in turn**
  pub is_quiet : IsQuietRun wire.rules.config X
  is_quiet =
      let f = followed IsCalled content faults wire run X q l u in
      let list = lead_list IsCalled content faults wire run X q l u in
      let config = lead_config IsCalled content faults wire run X q l u in record {
        quiet = is_quiet_list IsCalled content faults wire run X q l u;
        opens = subst (λ rs. (rest : List Event) × (own_events leader rs ≡ Begin LEADER FIRST_ROUND ∷ rest)) list
            (opens_with_first turning run.calls f (takes_later IsCalled content faults wire run X q l u some_called));
        turns = subst (BeginsInTurn wire.rules.config) list (subst (λ c. BeginsInTurn c turning.list) config
            (begins_in_turn turning run.calls f (subst (λ (c : Counts). 0 < c.acceptors) (sym config) q.some)));
      }

module _ {D : Type 0} (content : D → Option (List ℕ)) (faults : D → ℕ) (wire : WireState PaxosRules) (run : EndedRun D) (X : List Record) (q : EndsQuietly IsAdapted content faults wire run) (l : IsListOf wire run X) (u : StaysSteady faults run) where
  abbrev adapting : ProcessState
  adapting = lead IsAdapted content faults wire run X q l u

  some_adapted : (c : Counts) (n : Node) (seen : List Record) → IsAdapted c n [] seen None → ⊥
  some_adapted c n seen may = may.may

  -- **the run is quiet, and its rounds adapt**
  pub is_adaptive : IsAdaptiveRun wire.rules.config X
  is_adaptive =
      let f = followed IsAdapted content faults wire run X q l u in
      let list = lead_list IsAdapted content faults wire run X q l u in
      let config = lead_config IsAdapted content faults wire run X q l u in record {
        quiet = is_quiet_list IsAdapted content faults wire run X q l u;
        opens = subst (λ rs. (rest : List Event) × (own_events leader rs ≡ Begin LEADER FIRST_FAST_ROUND ∷ rest)) list
            (opens_with_first_fast adapting run.calls f (takes_later IsAdapted content faults wire run X q l u some_adapted));
        course = subst (BeginsInCourse wire.rules.config) list (subst (λ c. BeginsInCourse c adapting.list) config
            (begins_in_course adapting run.calls f (subst (λ (c : Counts). 0 < c.acceptors) (sym config) q.some)));
      }

-- ---- the closed list

module _ {D : Type 0} (answers : Answers) (content : D → Option (List ℕ)) (faults : D → ℕ) (wire : WireState PaxosRules) (run : EndedRun D) (list : List Record) (q : EndsQuietly answers content faults wire run) (c : IsClosedList wire run list) where
  abbrev Holds : CellState D → Type 0
  Holds x = Has x.pass.node x.pass.holds

  each_holds : Each Holds (cells_in run)
  each_holds = each_both Holds (cells_of run.ended) (cells_of run.offered)
      (each_mapped Holds cell_in run.ended (each_of (λ j. Holds j.cell) run.ended (λ i d w. (q.phases.worked.finished i d (let s = q.phases.worked.size in omega arith)).going.own.holds)))
      (each_mapped Holds cell_in run.offered (each_of (λ j. Holds j.cell) run.offered (λ i d w. (q.offered i d (let s = q.offered_size in omega arith)).own.holds)))

  pub is_list_of : IsListOf wire run list
  is_list_of = record {
    behind = get_each (λ x. IsBehind x.node (records x.pass) list) (cells_in run) (subst (λ rs. Each (λ x. IsBehind x.node (records x.pass) rs) (cells_in run)) (sym c.closed.list)
        (each_begun c.closed.log (cells_in run) c.closed.lists (each_of HasOwnPass (cells_in run) c.own) each_holds));
    legal = c.legal;
  }
