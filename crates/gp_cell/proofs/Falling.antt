-- A fall by which a node comes up again is lawful, and leaves the part that its log has.
use Rattle.std.proofs.Common.{◌≡◌, ℕ, true, false, cond, List, [], ◌++◌, length, map, refl, sym, ap, ◌∙◌, subst, Option, Some, None, inl, inr, Result, Ok, Err}
use Rattle.std.specs.Prelude.{slice_get, IsSome, IfOk}
use Rattle.std.specs.Option.{option_to_list, option_map}
use Rattle.std.proofs.lemmas.Bool.{lt-ltb}
use Rattle.std.proofs.lemmas.List.{append-nil}
use Rattle.gp_round.specs.Counts.{Counts}
use Rattle.gp_round.specs.declared.round.Round.{Round}
use Rattle.gp_history.specs.History.{History}
use Rattle.gp_msg.specs.declared.node.Node.{Node}
use Rattle.gp_msg.specs.declared.node.Node.TheVariants as node
use Rattle.gp_msg.specs.declared.event.Event.TheVariants.{Fall}
use Rattle.gp_msg.specs.declared.event.Kept.{Kept}
use Rattle.gp_msg.specs.declared.event.Kept.TheVariants as kept
use Rattle.gp_msg.specs.declared.record.Record.{Record}
use Rattle.gp_msg.specs.declared.durable.Durable.{Durable}
use Rattle.gp_msg.specs.Messages.{Stamped, message_of, EpochPart, Acceptors, Coordinators, part_of, entry_of}
use Rattle.gp_coordinator.specs.Epochs as coordinator
use Rattle.gp_coordinator.specs.Epochs.{CoordinatorInEpoch}
use Rattle.gp_acceptor.specs.Epochs as acceptor
use Rattle.gp_acceptor.specs.Epochs.{AcceptorInEpoch}
use Rattle.gp_vlog.specs.Logs.{LogState}
use Rattle.gp_run.specs.Messages.{messages, on_message}
use Rattle.gp_msg.specs.Nodes.{node_of, is_present, may_keep}
use Rattle.gp_run.specs.States.{coordinator_kept, acceptor_kept}
use Rattle.gp_run.specs.Legal.{fits}
use Rattle.gp_run.specs.Runs.{newest_first}
use Rattle.gp_wire.specs.Known.{PassState, records}
use Rattle.gp_work.specs.declared.moves.Move.{Move}
use Rattle.gp_work.specs.declared.moves.Move.TheVariants.{Offer, Begin, Take}
use Rattle.gp_work.specs.Moves.{Fits, HasRoom}
use Rattle.gp_cell.specs.declared.roles.Core.{Core}
use Rattle.gp_cell.specs.declared.roles.Core.TheVariants.{Proposer, Coordinator, Acceptor, Learner}
use Rattle.gp_command.proofs.Truth.{true_both}
use Rattle.gp_cell.specs.declared.planning.Plan.{Plan}
use Rattle.gp_cell.specs.Cores.{opening, acts, core_at, part_in}
use Rattle.gp_cell.specs.Plans.{HasRole, planned, named, took_if, IsNamed}
use Rattle.gp_cell.specs.Cells.{IsSound, IsPlan, Keeps, HasLog, IsLogged}
use Rattle.gp_cell.specs.Lawful.{IsLawful}
use Rattle.gp_cell.specs.Falls.{fell, kept_of, KeepsMove}
use Rattle.gp_cell.proofs.Acting.{core_role, same_number}
use Rattle.gp_cell.proofs.Stepping.{named_more, get_within}

-- the part that a fall leaves, which keeps this
abbrev left_by : Core → List Stamped → Option Kept → Option EpochPart
left_by (Proposer s) ms what = None
left_by (Coordinator s) ms what = Some (coordinator_kept s ms what)
left_by (Acceptor s) ms what = Some (acceptor_kept s ms what)
left_by (Learner s) ms what = None

coordinator_took : (s : CoordinatorInEpoch) (o : Option Stamped) (k : ℕ) → IsNamed (Take k) o → part_in (took_if (Coordinator s) o).0 ≡ Some (on_message (coordinator.durable s) (λ m. coordinator.durable (coordinator.take s m).0) o)
coordinator_took s None k h = absurd h
coordinator_took s (Some m) k h = refl

acceptor_took : (s : AcceptorInEpoch) (o : Option Stamped) (k : ℕ) → IsNamed (Take k) o → part_in (took_if (Acceptor s) o).0 ≡ Some (on_message (acceptor.durable s) (λ m. acceptor.durable (acceptor.take s m).0) o)
acceptor_took s None k h = absurd h
acceptor_took s (Some m) k h = refl

-- the part after a move is that which a fall leaves that keeps it
moved_part : (config : Counts) (n : Node) (core : Core) (ms : List Stamped) (mv : Move) → IsLogged n → HasRole n core → Fits config n mv → IsNamed mv (named ms mv) → part_in (planned core mv (named ms mv)).0 ≡ left_by core ms (kept_of mv)
moved_part config (node.Proposer p) core ms mv l h f s = absurd l
moved_part config (node.Learner p) core ms mv l h f s = absurd l
moved_part config (node.Coordinator c) (Proposer s) ms mv l h f i = absurd h
moved_part config (node.Coordinator c) (Acceptor s) ms mv l h f i = absurd h
moved_part config (node.Coordinator c) (Learner s) ms mv l h f i = absurd h
moved_part config (node.Coordinator c) (Coordinator s) ms (Offer d) l h f i = absurd f
moved_part config (node.Coordinator c) (Coordinator s) ms (Begin r) l h f i = refl
moved_part config (node.Coordinator c) (Coordinator s) ms (Take k) l h f i = coordinator_took s (slice_get ms k) k i
moved_part config (node.Acceptor c) (Proposer s) ms mv l h f i = absurd h
moved_part config (node.Acceptor c) (Coordinator s) ms mv l h f i = absurd h
moved_part config (node.Acceptor c) (Learner s) ms mv l h f i = absurd h
moved_part config (node.Acceptor c) (Acceptor s) ms (Offer d) l h f i = absurd f
moved_part config (node.Acceptor c) (Acceptor s) ms (Begin r) l h f i = absurd f
moved_part config (node.Acceptor c) (Acceptor s) ms (Take k) l h f i = acceptor_took s (slice_get ms k) k i

still_part : (n : Node) (core : Core) (ms : List Stamped) → IsLogged n → HasRole n core → part_in core ≡ left_by core ms None
still_part (node.Proposer p) core ms l h = absurd l
still_part (node.Learner p) core ms l h = absurd l
still_part (node.Coordinator c) (Proposer s) ms l h = absurd h
still_part (node.Coordinator c) (Coordinator s) ms l h = refl
still_part (node.Coordinator c) (Acceptor s) ms l h = absurd h
still_part (node.Coordinator c) (Learner s) ms l h = absurd h
still_part (node.Acceptor c) (Proposer s) ms l h = absurd h
still_part (node.Acceptor c) (Coordinator s) ms l h = absurd h
still_part (node.Acceptor c) (Acceptor s) ms l h = refl
still_part (node.Acceptor c) (Learner s) ms l h = absurd h

-- a fall leaves the core that fell with that part
fall_acts : (n : Node) (core : Core) (ms : List Stamped) (what : Option Kept) (part : EpochPart) → IsLogged n → HasRole n core → left_by core ms what ≡ Some part → acts n core ms (Fall n what) ≡ (fell core part, None)
fall_acts (node.Proposer p) core ms what part l h e = absurd l
fall_acts (node.Learner p) core ms what part l h e = absurd l
fall_acts (node.Coordinator c) (Proposer s) ms what part l h e = absurd h
fall_acts (node.Coordinator c) (Acceptor s) ms what part l h e = absurd h
fall_acts (node.Coordinator c) (Learner s) ms what part l h e = absurd h
fall_acts (node.Coordinator c) (Coordinator s) ms what part l h e = let same : coordinator_kept s ms what ≡ part = cc in
    ap (λ b. let x = cond {A = CoordinatorInEpoch × Option Stamped} b (coordinator.fall s (coordinator_kept s ms what), None) (s, None) in (Coordinator x.0, x.1)) (same_number c)
    ∙ ap (λ p. (Coordinator (coordinator.fall s p), None)) same
fall_acts (node.Acceptor c) (Proposer s) ms what part l h e = absurd h
fall_acts (node.Acceptor c) (Coordinator s) ms what part l h e = absurd h
fall_acts (node.Acceptor c) (Learner s) ms what part l h e = absurd h
fall_acts (node.Acceptor c) (Acceptor s) ms what part l h e = let same : acceptor_kept s ms what ≡ part = cc in
    ap (λ b. let x = cond {A = AcceptorInEpoch × Option Stamped} b (acceptor.fall s (acceptor_kept s ms what), None) (s, None) in (Acceptor x.0, x.1)) (same_number c)
    ∙ ap (λ p. (Acceptor (acceptor.fall s p), None)) same

-- a part of the kind of the core
IsCoordinators : EpochPart → Type 0
IsCoordinators p = (e : ℕ) × (r : Round) × (p ≡ record { epoch = e; part = Coordinators r })

coordinator_kind : (s : CoordinatorInEpoch) (o : Option Stamped) → IsCoordinators (on_message (coordinator.durable s) (λ m. coordinator.durable (coordinator.take s m).0) o)
unfolding IsCoordinators
coordinator_kind s None = (s.epoch, s.state.round, refl)
coordinator_kind s (Some m) = ((coordinator.take s m).0.epoch, (coordinator.take s m).0.state.round, refl)

coordinator_after_crash : (s : CoordinatorInEpoch) (ms : List Stamped) (what : Option Kept) → IsCoordinators (coordinator_kept s ms what)
unfolding IsCoordinators
coordinator_after_crash s ms None = (s.epoch, s.state.round, refl)
coordinator_after_crash s ms (Some (kept.Begin r)) = ((coordinator.begin s r).0.epoch, (coordinator.begin s r).0.state.round, refl)
coordinator_after_crash s ms (Some (kept.Take k)) = coordinator_kind s (slice_get ms k)

IsAcceptors : EpochPart → Type 0
IsAcceptors p = (e : ℕ) × (r : Round) × (q : Round) × (v : History) × (p ≡ record { epoch = e; part = Acceptors r q v })

acceptor_kind : (s : AcceptorInEpoch) (o : Option Stamped) → IsAcceptors (on_message (acceptor.durable s) (λ m. acceptor.durable (acceptor.take s m).0) o)
unfolding IsAcceptors
acceptor_kind s None = (s.epoch, s.state.round, s.state.voted, s.state.vote, refl)
acceptor_kind s (Some m) = ((acceptor.take s m).0.epoch, (acceptor.take s m).0.state.round, (acceptor.take s m).0.state.voted, (acceptor.take s m).0.state.vote, refl)

acceptor_after_crash : (s : AcceptorInEpoch) (ms : List Stamped) (what : Option Kept) → IsAcceptors (acceptor_kept s ms what)
unfolding IsAcceptors
acceptor_after_crash s ms None = (s.epoch, s.state.round, s.state.voted, s.state.vote, refl)
acceptor_after_crash s ms (Some (kept.Begin r)) = (s.epoch, s.state.round, s.state.voted, s.state.vote, refl)
acceptor_after_crash s ms (Some (kept.Take k)) = acceptor_kind s (slice_get ms k)

fell_coordinators : (s : CoordinatorInEpoch) (p : EpochPart) → IsCoordinators p → coordinator.durable (coordinator.fall s p) ≡ p
unfolding IsCoordinators
fell_coordinators s p k = subst (λ x. coordinator.durable (coordinator.fall s x) ≡ x) (sym k.2) refl

fell_acceptors : (s : AcceptorInEpoch) (p : EpochPart) → IsAcceptors p → acceptor.durable (acceptor.fall s p) ≡ p
unfolding IsAcceptors
fell_acceptors s p k = subst (λ x. acceptor.durable (acceptor.fall s x) ≡ x) (sym k.4) refl

may : (config : Counts) (n : Node) (ms : List Stamped) (mv : Move) → IsLogged n → Fits config n mv → IsNamed mv (named ms mv) → may_keep config (length ms) n (kept_of mv) ≡ true
may config (node.Proposer p) ms mv l f s = absurd l
may config (node.Learner p) ms mv l f s = absurd l
may config (node.Coordinator c) ms (Offer d) l f s = absurd f
may config (node.Coordinator c) ms (Begin r) l f s = f
may config (node.Coordinator c) ms (Take k) l f s = lt-ltb k (length ms) (get_within ms k s)
may config (node.Acceptor c) ms (Offer d) l f s = absurd f
may config (node.Acceptor c) ms (Begin r) l f s = absurd f
may config (node.Acceptor c) ms (Take k) l f s = lt-ltb k (length ms) (get_within ms k s)

may_none : (config : Counts) (n : Node) (have : ℕ) → IsLogged n → may_keep config have n None ≡ true
may_none config (node.Proposer p) have l = absurd l
may_none config (node.Learner p) have l = absurd l
may_none config (node.Coordinator c) have l = refl
may_none config (node.Acceptor c) have l = refl

first_there : (config : Counts) (n : Node) → IsLogged n → (f : EpochPart) × (part_in (opening config n) ≡ Some f)
first_there config (node.Proposer p) l = absurd l
first_there config (node.Learner p) l = absurd l
first_there config (node.Coordinator c) l = (coordinator.durable (coordinator.opening config c), refl)
first_there config (node.Acceptor c) l = (acceptor.durable (acceptor.opening config c), refl)

pub map_ok : {A E : Type 0} (r : Result A E) (P Q : A → Type 0) → ((a : A) → P a → Q a) → IfOk r P → IfOk r Q
map_ok (Ok a) P Q f h = f a h
map_ok (Err e) P Q f h = tt

no_none : (A : Type 0) → IsSome {T = A} None → ⊥
no_none A h = let wrong : false ≡ true = h in cc

pub some_of : (o : Option Durable) (p : Option EpochPart) → option_map part_of o ≡ p → IsSome p → IsSome o
some_of None p e h = subst IsSome (sym e) h
some_of (Some d) p e h = refl

-- what was appended is the part of the next core
pub keeps_next : {D : Type 0} (config : Counts) (n : Node) (next : Core) (part : EpochPart) (log : Option (LogState D)) → IsLogged n → part_in next ≡ Some part
    → ((first : EpochPart) → Keeps (Some first) (Some part) log) → Keeps (part_in (opening config n)) (part_in next) log
keeps_next config n next part log l e k = let f = first_there config n l in
    subst (λ o. Keeps o (part_in next) log) (sym f.1) (subst (λ o. Keeps (Some f.0) o log) (sym e) (k f.0))

pub room_logged : (config : Counts) (n : Node) (mv : Move) (k : ℕ) → IsLogged n → Fits config n mv → HasRoom k mv
room_logged config (node.Proposer p) mv k l f = absurd l
room_logged config (node.Learner p) mv k l f = absurd l
room_logged config (node.Coordinator c) (Offer d) k l f = absurd f
room_logged config (node.Coordinator c) (Begin r) k l f = tt
room_logged config (node.Acceptor c) (Offer d) k l f = absurd f
room_logged config (node.Acceptor c) (Begin r) k l f = tt
room_logged config n (Take m) k l f = tt

pub opening_there : (config : Counts) (n : Node) → IsLogged n → IsSome (part_in (opening config n))
opening_there config (node.Proposer p) l = absurd l
opening_there config (node.Learner p) l = absurd l
opening_there config (node.Coordinator c) l = refl
opening_there config (node.Acceptor c) l = refl

pub logged_by : (n : Node) (next : Core) (part : EpochPart) → HasRole n next → part_in next ≡ Some part → IsLogged n
logged_by (node.Proposer p) (Proposer s) part h e = absurd (let wrong : None ≡ Some part = e in cc)
logged_by (node.Proposer p) (Coordinator s) part h e = absurd h
logged_by (node.Proposer p) (Acceptor s) part h e = absurd h
logged_by (node.Proposer p) (Learner s) part h e = absurd h
logged_by (node.Coordinator p) core part h e = tt
logged_by (node.Acceptor p) core part h e = tt
logged_by (node.Learner p) (Proposer s) part h e = absurd h
logged_by (node.Learner p) (Coordinator s) part h e = absurd h
logged_by (node.Learner p) (Acceptor s) part h e = absurd h
logged_by (node.Learner p) (Learner s) part h e = absurd (let wrong : None ≡ Some part = e in cc)

module _ {D : Type 0} (config : Counts) (n : Node) (core : Core) (log : Option (LogState D)) (p : PassState) (posted : ℕ) where
  role : (down : Option Move) → IsSound config n core log p posted down → HasRole n core
  role down s = subst (HasRole n) (sym s.core_is) (core_role config n (newest_first (records p)))

  pub down_there : (down : Option Move) → IsSound config n core log p posted down → IsSome down → HasLog log × IsLogged n
  down_there None s h = absurd (no_none Move h)
  down_there (Some mv) s h = let f = s.down_is mv refl in (f.there, f.logged)

  -- the log is another one, where the node is down
  pub sound_reopened : (down : Option Move) (other : Option (LogState D)) → IsSound config n core log p posted down → IsSome down → HasLog other → IsSound config n core other p posted down
  sound_reopened down other s h there = record {
    node_is = s.node_is;
    present = s.present;
    core_is = s.core_is;
    posted_is = s.posted_is;
    lawful = s.lawful;
    log_is = λ e. absurd (no_none Move (subst IsSome e h));
    down_is = λ mv e. let f = s.down_is mv e in record { logged = f.logged; there = there; fits = f.fits; stands = f.stands };
  }

  module _ (down : Option Move) (mv : Move) (plan : Plan) (part : EpochPart) (what : Option Kept) (s : IsSound config n core log p posted down) (logged : IsLogged n) (f : Fits config n mv)
      (q : IsPlan n core (messages (newest_first (records p))) mv plan) (keeps : KeepsMove core plan.next mv part what) where
    ms : List Stamped
    ms = messages (newest_first (records p))

    left_is : (more : List Stamped) → left_by core (ms ++ more) what ≡ Some part
    unfolding ms
    left_is more = elim keeps [
      | inl k ↦ ap (left_by core (ms ++ more)) k.0 ∙ sym (still_part n core (ms ++ more) logged (role down s)) ∙ k.1
      | inr k ↦ ap (left_by core (ms ++ more)) k.0
          ∙ sym (moved_part config n core (ms ++ more) mv logged (role down s) f (subst (IsNamed mv) (sym (named_more ms more mv q.stands)) q.stands))
          ∙ ap (λ o. part_in (planned core mv o).0) (named_more ms more mv q.stands)
          ∙ ap part_in (sym q.next) ∙ k.1
    ]

    pub fall_next : (more : List Stamped) → fell core part ≡ (acts n core (messages (newest_first (records p)) ++ more) (Fall n what)).0
    unfolding ms
    fall_next more = ap (λ (x : Core × Option Stamped). x.0) (sym (fall_acts n core (ms ++ more) what part logged (role down s) (left_is more)))

    may_fall : may_keep config (length ms) n what ≡ true
    unfolding ms
    may_fall = elim keeps [
      | inl k ↦ ap (may_keep config (length ms) n) k.0 ∙ may_none config n (length ms) logged
      | inr k ↦ ap (may_keep config (length ms) n) k.0 ∙ may config n ms mv logged f q.stands
    ]

    sends_none : (acts n core ms (Fall n what)).1 ≡ None
    unfolding ms
    sends_none = ap (λ l. (acts n core l (Fall n what)).1) (sym (append-nil ms)) ∙ ap (λ (x : Core × Option Stamped). x.1) (fall_acts n core (ms ++ []) what part logged (role down s) (left_is []))

    pub fall_lawful : (x : Record) → x.node ≡ n → x.event ≡ Fall n what → x.out ≡ [] → IsLawful config (newest_first (records p)) (entry_of x)
    unfolding ms
    fall_lawful x at event out = record {
      own_node = at ∙ sym (ap node_of event);
      event_fits = ap (fits config (newest_first (records p))) event ∙ true_both (is_present config n) (may_keep config (length ms) n what) s.present may_fall;
      own_messages = ap (map message_of) out ∙ ap option_to_list (sym sends_none)
          ∙ (λ i. option_to_list (acts (sym at i) (core_here i) (messages (newest_first (records p))) (sym event i)).1);
    }
      where
        core_here : core ≡ core_at config x.node (newest_first (records p))
        core_here = s.core_is ∙ ap (λ m. core_at config m (newest_first (records p))) (sym at)
