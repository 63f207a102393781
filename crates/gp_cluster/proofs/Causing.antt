-- Why a run ended: disks that failed, and logs that were full.
use Rattle.std.proofs.Common.{◌≡◌, ℕ, zero, suc, true, cond, List, [], ◌∷◌, ◌++◌, length, refl, sym, ap, ◌∙◌, subst, arith, Option, Some, None}
use Rattle.std.specs.Prelude.{slice_get, nat_eq}
use Rattle.std.specs.List.{AllZip}
use Rattle.std.specs.Option.{option_to_list}
use Rattle.std.proofs.lemmas.Bool.{ltb-true}
use Rattle.gp_round.specs.Counts.{Counts}
use Rattle.gp_msg.specs.declared.node.Node.{Node}
use Rattle.gp_msg.specs.declared.node.Node.TheVariants as node
use Rattle.gp_msg.specs.declared.event.Event.{Event}
use Rattle.gp_msg.specs.declared.event.Event.TheVariants.{Offer, Begin, Take, Fall}
use Rattle.gp_msg.specs.declared.event.Kept.{Kept}
use Rattle.gp_msg.specs.declared.event.Kept.TheVariants as kept
use Rattle.gp_msg.specs.declared.record.Record.{Record}
use Rattle.gp_msg.specs.Messages.{Stamped, entry_of}
use Rattle.gp_coordinator.specs.Epochs as coordinator
use Rattle.gp_coordinator.specs.Epochs.{CoordinatorInEpoch}
use Rattle.gp_acceptor.specs.Epochs as acceptor
use Rattle.gp_acceptor.specs.Epochs.{AcceptorInEpoch}
use Rattle.gp_run.specs.Messages.{messages, on_message}
use Rattle.gp_msg.specs.Nodes.{is_present, may_keep, fits_among, node_of}
use Rattle.gp_run.specs.States.{coordinator_acts, coordinator_kept, acceptor_acts, acceptor_kept}
use Rattle.gp_run.specs.Legal.{fits}
use Rattle.gp_run.specs.Runs.{newest_first}
use Rattle.gp_run.proofs.Telling.{messages-append}
use Rattle.gp_vlog.specs.Logs.{LogState}
use Rattle.gp_wire.specs.Lists.{Each}
use Rattle.gp_wire.specs.Known.{records}
use Rattle.gp_cell.specs.Cores.{acts, core_at, part_in}
use Rattle.gp_cell.specs.declared.roles.Core.{Core}
use Rattle.gp_cell.specs.declared.roles.Core.TheVariants.{Proposer, Coordinator, Acceptor, Learner}
use Rattle.gp_cell.specs.Lawful.{IsLawful}
use Rattle.gp_cell.specs.Still.{AreOthers, lawful_still, entries_append}
use Rattle.gp_cell.specs.Cells.{CellState}
use Rattle.gp_cell.specs.Refusals.{IsTooGreat}
use Rattle.gp_cell.proofs.Posting.{nothing_own}
use Rattle.gp_wire.specs.Own.{IsBehind}
use Rattle.gp_cluster.specs.Cells.{LogGoes, logs_of}
use Rattle.gp_cluster.specs.Closing.{IsTooGreatFor}
use Rattle.gp_run.proofs.Others.{front, named_stands}
use Rattle.gp_round.proofs.Counting.{right_true}
use Rattle.gp_cluster.specs.Runs.{IsOverLimit}

-- ---- what an event does to a core does not change when more is sent

keeps : (config : Counts) (n : Node) (what : Option Kept) (have : ℕ) → fits_among config have (Fall n what) ≡ true → may_keep config have n what ≡ true
keeps config n what have h = right_true (is_present config n) (may_keep config have n what) h

coordinator_after_crash : (config : Counts) (b : ℕ) (s : CoordinatorInEpoch) (ms more : List Stamped) (what : Option Kept) → may_keep config (length ms) (node.Coordinator b) what ≡ true → coordinator_kept s (ms ++ more) what ≡ coordinator_kept s ms what
coordinator_after_crash config b s ms more None h = refl
coordinator_after_crash config b s ms more (Some (kept.Begin r)) h = refl
coordinator_after_crash config b s ms more (Some (kept.Take k)) h = ap (λ o. on_message (coordinator.durable s) (λ m. coordinator.durable (coordinator.take s m).0) o) (front ms more k (ltb-true k (length ms) h))

acceptor_after_crash : (config : Counts) (b : ℕ) (s : AcceptorInEpoch) (ms more : List Stamped) (what : Option Kept) → may_keep config (length ms) (node.Acceptor b) what ≡ true → acceptor_kept s (ms ++ more) what ≡ acceptor_kept s ms what
acceptor_after_crash config b s ms more None h = refl
acceptor_after_crash config b s ms more (Some (kept.Begin r)) h = refl
acceptor_after_crash config b s ms more (Some (kept.Take k)) h = ap (λ o. on_message (acceptor.durable s) (λ m. acceptor.durable (acceptor.take s m).0) o) (front ms more k (ltb-true k (length ms) h))

coordinator_next : (config : Counts) (c : ℕ) (s : CoordinatorInEpoch) (ms more : List Stamped) (event : Event) → fits_among config (length ms) event ≡ true → (coordinator_acts c s (ms ++ more) event).0 ≡ (coordinator_acts c s ms event).0
coordinator_next config c s ms more (Offer p d) h = refl
coordinator_next config c s ms more (Begin b r) h = refl
coordinator_next config c s ms more (Take (node.Proposer p) k) h = refl
coordinator_next config c s ms more (Take (node.Coordinator b) k) h =
    ap (λ o. (cond (nat_eq c b) (on_message (s, None) (coordinator.take s) o) (s, None)).0) (front ms more k (named_stands config (node.Coordinator b) k (length ms) h))
coordinator_next config c s ms more (Take (node.Acceptor a) k) h = refl
coordinator_next config c s ms more (Take (node.Learner l) k) h = refl
coordinator_next config c s ms more (Fall (node.Proposer p) what) h = refl
coordinator_next config c s ms more (Fall (node.Coordinator b) what) h =
    ap (λ x. (cond {A = CoordinatorInEpoch × Option Stamped} (nat_eq c b) (coordinator.fall s x, None) (s, None)).0) (coordinator_after_crash config b s ms more what (keeps config (node.Coordinator b) what (length ms) h))
coordinator_next config c s ms more (Fall (node.Acceptor a) what) h = refl
coordinator_next config c s ms more (Fall (node.Learner l) what) h = refl

acceptor_next : (config : Counts) (a : ℕ) (s : AcceptorInEpoch) (ms more : List Stamped) (event : Event) → fits_among config (length ms) event ≡ true → (acceptor_acts a s (ms ++ more) event).0 ≡ (acceptor_acts a s ms event).0
acceptor_next config a s ms more (Offer p d) h = refl
acceptor_next config a s ms more (Begin c r) h = refl
acceptor_next config a s ms more (Take (node.Proposer p) k) h = refl
acceptor_next config a s ms more (Take (node.Coordinator c) k) h = refl
acceptor_next config a s ms more (Take (node.Acceptor b) k) h =
    ap (λ o. (cond (nat_eq a b) (on_message (s, None) (acceptor.take s) o) (s, None)).0) (front ms more k (named_stands config (node.Acceptor b) k (length ms) h))
acceptor_next config a s ms more (Take (node.Learner l) k) h = refl
acceptor_next config a s ms more (Fall (node.Proposer p) what) h = refl
acceptor_next config a s ms more (Fall (node.Coordinator c) what) h = refl
acceptor_next config a s ms more (Fall (node.Acceptor b) what) h =
    ap (λ x. (cond {A = AcceptorInEpoch × Option Stamped} (nat_eq a b) (acceptor.fall s x, None) (s, None)).0) (acceptor_after_crash config b s ms more what (keeps config (node.Acceptor b) what (length ms) h))
acceptor_next config a s ms more (Fall (node.Learner l) what) h = refl

part_next : (config : Counts) (n : Node) (core : Core) (ms more : List Stamped) (event : Event) → fits_among config (length ms) event ≡ true → part_in (acts n core (ms ++ more) event).0 ≡ part_in (acts n core ms event).0
part_next config (node.Proposer p) (Proposer s) ms more event h = refl
part_next config (node.Proposer p) (Coordinator s) ms more event h = refl
part_next config (node.Proposer p) (Acceptor s) ms more event h = refl
part_next config (node.Proposer p) (Learner s) ms more event h = refl
part_next config (node.Coordinator c) (Proposer s) ms more event h = refl
part_next config (node.Coordinator c) (Coordinator s) ms more event h = ap (λ x. part_in (Coordinator x)) (coordinator_next config c s ms more event h)
part_next config (node.Coordinator c) (Acceptor s) ms more event h = refl
part_next config (node.Coordinator c) (Learner s) ms more event h = refl
part_next config (node.Acceptor a) (Proposer s) ms more event h = refl
part_next config (node.Acceptor a) (Coordinator s) ms more event h = refl
part_next config (node.Acceptor a) (Acceptor s) ms more event h = ap (λ x. part_in (Acceptor x)) (acceptor_next config a s ms more event h)
part_next config (node.Acceptor a) (Learner s) ms more event h = refl
part_next config (node.Learner l) (Proposer s) ms more event h = refl
part_next config (node.Learner l) (Coordinator s) ms more event h = refl
part_next config (node.Learner l) (Acceptor s) ms more event h = refl
part_next config (node.Learner l) (Learner s) ms more event h = refl

-- ---- a log that was full

module _ {D : Type 0} (config : Counts) (limit : ℕ) (list : List Record) (size needed : ℕ) where
  -- at a cell that has seen a beginning of the list
  pub over_behind : (c : CellState D) (event : Event) → c.config ≡ config → c.core ≡ core_at config c.node (newest_first list) → ((log : LogState D) → c.log ≡ Some log → log.limit ≡ limit) → IsBehind c.node (records c.pass) list
      → IsTooGreat c event size needed → IsOverLimit config limit (newest_first list) size needed
  over_behind c event same core limits b g = record {
    event = event;
    may_come = may_come;
    part = g.part;
    changed = (λ i. part_in (acts (own i) (core' i) (messages' i) event).0)
        ∙ part_next config c.node c.core (messages (newest_first (records c.pass))) (messages (newest_first b.more)) event fit ∙ g.after;
    other = λ e. g.changes (ap part_in core ∙ ap (λ n. part_in (core_at config n (newest_first list))) (sym own) ∙ e);
    smallest = g.size_is;
    its_need = g.no_room.needed_is;
    great = let a = g.no_room.not_alone in let l = limits g.log g.log_is in let s = g.size_is in let n = g.no_room.needed_is in omega (arith, a, l, s, n);
  }
    where
      lawful : IsLawful config (newest_first (records c.pass)) (entry_of g.item)
      lawful = subst (λ k. IsLawful k (newest_first (records c.pass)) (entry_of g.item)) same g.lawful

      own : node_of event ≡ c.node
      own = ap node_of (sym g.event_is) ∙ sym lawful.own_node ∙ g.own

      fit : fits_among config (length (messages (newest_first (records c.pass)))) event ≡ true
      fit = subst (λ e. fits config (newest_first (records c.pass)) e ≡ true) g.event_is lawful.event_fits

      whole : newest_first list ≡ newest_first b.more ++ newest_first (records c.pass)
      whole = ap newest_first b.split ∙ entries_append (records c.pass) b.more

      may_come : fits config (newest_first list) event ≡ true
      may_come = subst (λ es. fits config es event ≡ true) (sym whole) (subst (λ e. fits config (newest_first b.more ++ newest_first (records c.pass)) e ≡ true) g.event_is
          (lawful_still config (newest_first b.more) (newest_first (records c.pass)) (entry_of g.item) lawful (subst (λ n. AreOthers n (newest_first b.more)) (sym g.own) (nothing_own c.node b.more b.others))).event_fits)

      messages' : messages (newest_first list) ≡ messages (newest_first (records c.pass)) ++ messages (newest_first b.more)
      messages' = ap messages whole ∙ messages-append (newest_first b.more) (newest_first (records c.pass))

      core' : core_at config (node_of event) (newest_first list) ≡ c.core
      core' = ap (λ n. core_at config n (newest_first list)) own ∙ sym core

  -- at a cell that has seen the whole list
  pub over_whole : (cells : List (CellState D)) (x : IsTooGreatFor config cells list size needed) → x.cell.core ≡ core_at config x.cell.node (newest_first list) → ((log : LogState D) → x.cell.log ≡ Some log → log.limit ≡ limit) → IsOverLimit config limit (newest_first list) size needed
  over_whole cells x core limits = let g = x.great in record {
    event = x.event;
    may_come = x.may_come;
    part = g.part;
    changed = (λ i. part_in (acts (own i) (core' i) (messages (newest_first (sym x.whole i))) x.event).0) ∙ g.after;
    other = λ e. g.changes (ap part_in core ∙ ap (λ n. part_in (core_at config n (newest_first list))) (sym own) ∙ e);
    smallest = g.size_is;
    its_need = g.no_room.needed_is;
    great = let a = g.no_room.not_alone in let l = limits g.log g.log_is in let s = g.size_is in let n = g.no_room.needed_is in omega (arith, a, l, s, n);
  }
    where
      own : node_of x.event ≡ x.cell.node
      own = ap node_of (sym x.great.event_is) ∙ sym x.great.lawful.own_node ∙ x.great.own

      core' : core_at config (node_of x.event) (newest_first list) ≡ x.cell.core
      core' = ap (λ n. core_at config n (newest_first list)) own ∙ sym core

-- ---- limits

module _ {D : Type 0} where
  in_option : (P : LogState D → Type 0) (o : Option (LogState D)) (rest : List (LogState D)) (log : LogState D) → Each P (option_to_list o ++ rest) → o ≡ Some log → P log
  in_option P None rest log h e = absurd (let wrong : None ≡ Some log = e in cc)
  in_option P (Some x) rest log h e = subst P (let same : x ≡ log = (let some : Some x ≡ Some log = e in cc) in same) h.0

  behind_option : (P : LogState D → Type 0) (o : Option (LogState D)) (rest : List (LogState D)) → Each P (option_to_list o ++ rest) → Each P rest
  behind_option P None rest h = h
  behind_option P (Some x) rest h = h.1

  -- the log of a cell is one of the logs
  pub in_logs : (P : LogState D → Type 0) (cells : List (CellState D)) → Each P (logs_of cells) → (i : ℕ) (c : CellState D) → slice_get cells i ≡ Some c → (log : LogState D) → c.log ≡ Some log → P log
  in_logs P [] h i c e log is = absurd (let wrong : None ≡ Some c = e in cc)
  in_logs P (x ∷ xs) h zero c e log is = in_option P x.log (logs_of xs) log h (ap (λ (y : CellState D). y.log) (let same : x ≡ c = (let some : Some x ≡ Some c = e in cc) in same) ∙ is)
  in_logs P (x ∷ xs) h (suc i) c e log is = in_logs P xs (behind_option P x.log (logs_of xs) h) i c e log is

  pub limits_go : (faults : D → ℕ) (limit : ℕ) (old new : List (LogState D)) → AllZip (LogGoes faults) old new → Each (λ l. l.limit ≡ limit) old → Each (λ l. l.limit ≡ limit) new
  limits_go faults limit [] [] z h = tt
  limits_go faults limit [] (y ∷ ys) z h = absurd z
  limits_go faults limit (x ∷ xs) [] z h = absurd z
  limits_go faults limit (x ∷ xs) (y ∷ ys) z h = (z.0.limit ∙ h.0, limits_go faults limit xs ys z.1 h.1)
