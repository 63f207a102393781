-- Phases that go on where others ended.
use Rattle.std.proofs.Common.{◌≡◌, ◌<◌, ℕ, Bool, true, false, List, ◌++◌, length, get_or, refl, sym, ap, ◌∙◌, subst, arith, Option, None, append_assoc}
use Rattle.std.specs.List.{All}
use Rattle.std.proofs.lemmas.List.{append-nil}
use Rattle.gp_round.specs.declared.round.Round.{Round}
use Rattle.gp_edge.specs.Faults.{Rose}
use Rattle.gp_wire.specs.Known.{WireState}
use Rattle.gp_wire.specs.Own.{own_events}
use Rattle.gp_cell.specs.declared.rules.PaxosRules.{PaxosRules}
use Rattle.gp_work.specs.declared.job.Job.{Job}
use Rattle.gp_work.specs.declared.moves.Move.{Move}
use Rattle.gp_work.specs.Doing.{ProcessState, Goes, Posted}
use Rattle.gp_work.proofs.Stretches.{goes_same, goes_on, rose_on, rose_then, posted_on}
use Rattle.gp_cell.specs.Cells.{CellState}
use Rattle.gp_cell.specs.Working.{process_of, IsAt}
use Rattle.gp_phase.specs.declared.caller.Call.{Call}
use Rattle.gp_phase.specs.Deeds.{begins}
use Rattle.gp_phase.specs.Phases.{Answers, rounds, only_at, total, Going, Opens, Finished, AreReady}
use Rattle.gp_phase.proofs.Phasing.{only_none, was_false}
use Rattle.gp_ending.proofs.Places.{events_append}
use Rattle.gp_ending.specs.Ended.{nodes_of, AreNodesOf, HaveWorked}
use Rattle.gp_ending.proofs.Indexing.{same_nodes}
use Rattle.gp_ending.specs.Working.{HaveOffered, RestsAfter, EndsQuietlyFrom}

not_both : {P : Type 0} (b : Bool) → b ≡ false → b ≡ true → P
not_both b f t = absurd (let wrong : false ≡ true = sym f ∙ t in cc)

module _ {N P : Type 0} (state : P → ProcessState) (is_of : P → N → Type 0) (net : N) where
  -- a job that went on, from where it stood at first
  going_on : (rs : List Round) (j x k : Job P) → (rs0 : List Round) → Going state is_of net rs0 j x → Going state is_of net rs x k → Going state is_of net rs j k
  going_on rs j x k rs0 a b = record {
    fault = b.fault;
    own = b.own;
    up = b.up;
    goes = goes_on (state j.cell) (state x.cell) (state k.cell) a.goes b.goes;
    stays = λ r. b.stays (a.stays r);
    fallen = λ stood up. by_middle x.risen refl stood up;
    tidy = b.tidy;
  }
    where
      by_middle : (r : Bool) → x.risen ≡ r → j.risen ≡ false → k.risen ≡ true → Rose (state j.cell).faults (state k.cell).faults
      by_middle true is stood up = rose_then (state j.cell).faults (state x.cell).faults (state k.cell).faults (a.fallen stood is) b.goes.faults
      by_middle false is stood up = rose_on (state j.cell).faults (state x.cell).faults (state k.cell).faults a.goes.faults (b.fallen is up)

  -- a job that stands where it ended
  going_still : (rs : List Round) (j k : Job P) → Going state is_of net rs j k → Going state is_of net rs k k
  going_still rs j k a = record {
    fault = a.fault;
    own = a.own;
    up = a.up;
    goes = goes_same (state k.cell);
    stays = λ r. r;
    fallen = λ stood up. not_both k.risen stood up;
    tidy = a.tidy;
  }

  -- what a job that goes on posts comes behind what it posted
  posted_later : (p q : ProcessState) (g : Goes p q) → Posted p q (own_events p.node g.more)
  posted_later p q g = (λ i. own_events (g.node i) (g.grown i)) ∙ events_append p.node p.list g.more

  opens_on : (rs0 rs : List Round) (j x k : Job P) → Going state is_of net rs0 j x → Going state is_of net rs x k → Opens state j x → Opens state j k
  opens_on rs0 rs j x k a b o firsts is stands =
      let h = o firsts is (was_false x.risen k.risen b.stays stands) in
      let more = own_events (state x.cell).node b.goes.more in (
        h.0 ++ more,
        posted_on (state j.cell) (state x.cell) (state k.cell) (begins (state j.cell).node firsts ++ h.0) more h.1 (posted_later (state x.cell) (state k.cell) b.goes)
            ∙ ap (λ es. own_events (state j.cell).node (state j.cell).list ++ es) (append_assoc (begins (state j.cell).node firsts) h.0 more),
      )

module _ {D : Type 0} (answers : Answers) (faults : D → ℕ) (wire : WireState PaxosRules) (at : ℕ) where
  abbrev JobAt : Type 0
  JobAt = Job (CellState D)

  abbrev state : CellState D → ProcessState
  state = process_of faults

  abbrev at_wire : CellState D → WireState PaxosRules → Type 0
  at_wire c w = IsAt c w

  -- **phases that go on end as one run of phases does**
  pub rests_on : (before others : ℕ) (calls more : List Call) (jobs middle ended : List JobAt) → RestsAfter answers faults wire at before calls jobs middle
      → HaveWorked answers faults wire at others more middle ended → RestsAfter answers faults wire at others more jobs ended
  rests_on before others calls more jobs middle ended a b = record {
    starting = a.starting;
    first = a.first;
    size = a.size;
    node = a.node;
    later = a.later;
    phases = record {
      within = a.phases.within;
      leads = a.phases.leads;
      opening = a.phases.opening;
      answered = a.phases.answered;
      worked = record {
        size = b.size ∙ a.phases.worked.size;
        finished = λ i d w. finished i d w;
        opens = λ i d w. opens_on state at_wire wire (only_at at i (rounds calls)) (only_at at i (rounds more)) (get_or a.starting i d) (get_or middle i d) (get_or ended i d)
            (a.phases.worked.finished i d w).going (b.finished i d (there i w)).going (a.phases.worked.opens i d w);
        follows = b.follows;
        last = b.last;
      };
    };
  }
    where
      there : (i : ℕ) → i < length a.starting → i < length middle
      there i w = let s = a.phases.worked.size in omega (arith, s, w)

      finished : (i : ℕ) (d : JobAt) → i < length a.starting
          → Finished state at_wire wire (only_at at i (rounds more)) (total state others ended) (get_or a.starting i d) (get_or ended i d)
      finished i d w =
          let f = b.finished i d (there i w) in record {
            going = going_on state at_wire wire (only_at at i (rounds more)) (get_or a.starting i d) (get_or middle i d) (get_or ended i d) (only_at at i (rounds calls)) (a.phases.worked.finished i d w).going f.going;
            first = f.first;
            seen = f.seen;
            more = f.more;
            split = f.split;
            whole = f.whole;
            looked = f.looked;
          }

  -- **jobs that rest can go on**
  pub ready_again : (others : ℕ) (calls : List Call) (jobs ended : List JobAt) → RestsAfter answers faults wire at others calls jobs ended → AreReady state at_wire wire answers at calls ended
  ready_again others calls jobs ended a = record {
    begun = calls;
    pending = None;
    all = sym (append-nil calls);
    each = λ i d w. going_still state at_wire wire (only_at at i (rounds calls)) (get_or a.starting i d) (get_or ended i d) (a.phases.worked.finished i d (there i w)).going;
    first = λ i d w. (a.phases.worked.finished i d (there i w)).first ∙ sym (only_none {A = Move} at i);
    fits = λ d. tt;
    follows = a.phases.worked.follows;
  }
    where
      there : (i : ℕ) → i < length ended → i < length a.starting
      there i w = let s = a.phases.worked.size in omega (arith, s, w)

  -- **with the phase of the proposers, the whole run ends quietly**
  pub ends_quietly_from : (content : D → Option (List ℕ)) (calls : List Call) (offering offered jobs ended : List JobAt) → 0 < wire.rules.config.acceptors
      → RestsAfter answers faults wire at (total state 0 offered) calls jobs ended → AreNodesOf wire.rules.config (nodes_of jobs) (nodes_of offering)
      → HaveOffered content faults wire offering offered → EndsQuietlyFrom answers content faults wire offering offered jobs ended
  ends_quietly_from content calls offering offered jobs ended some a nodes h = record {
    run = record {
      offering = offering;
      offered = offered;
      starting = a.starting;
      ended = ended;
      at = at;
      first = a.first;
      calls = calls;
    };
    offering_is = refl;
    offered_is = refl;
    ended_is = refl;
    size = a.size;
    later = a.later;
    quiet = record {
      nodes = subst (λ ns. AreNodesOf wire.rules.config ns (nodes_of offering)) (sym (same_nodes jobs a.starting a.size a.node)) nodes;
      some = some;
      offers = h.offers;
      offered_size = h.size;
      offered = h.worked;
      unbroken = unbroken;
      phases = a.phases;
    };
  }
    where
      unbroken : All (λ (j : JobAt). j.fault ≡ None) offered
      unbroken = h.unbroken
