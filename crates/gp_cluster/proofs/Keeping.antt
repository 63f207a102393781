-- What the logs of a run hold at its end.
use Rattle.std.proofs.Common.{◌≡◌, ℕ, Bool, true, false, List, [], ◌∷◌, ◌++◌, map, refl, sym, ap, ◌∙◌, subst, Option, Some, None}
use Rattle.std.specs.List.{AllZip}
use Rattle.std.specs.Option.{option_to_list}
use Rattle.gp_round.specs.Counts.{Counts}
use Rattle.gp_msg.specs.declared.durable.Durable.{Durable}
use Rattle.gp_msg.specs.declared.node.Node.{Node}
use Rattle.gp_msg.specs.declared.node.Node.TheVariants as node
use Rattle.gp_msg.specs.Messages.{EpochPart, Entry, part_of}
use Rattle.gp_edge.specs.Disks.{IfRevealed}
use Rattle.gp_vlog.specs.Logs.{LogState, Shows, IsReady, log_entries}
use Rattle.gp_wire.specs.Lists.{Each}
use Rattle.gp_cell.specs.Cores.{opening, core_at, part_in}
use Rattle.gp_cell.specs.Cells.{CellState, Keeps, last_or}
use Rattle.gp_cell.specs.Crashes.{last_part}
use Rattle.gp_seats.specs.declared.nodes.Role.TheVariants.{Learner, Proposer}
use Rattle.gp_seats.specs.Nodes.{first_of, proposer_nodes}
use Rattle.gp_seats.specs.Seats.{has_log}
use Rattle.gp_seats.proofs.Sitting.{each_both, each_first}
use Rattle.gp_cluster.specs.Cells.{node_in, logs_of}
use Rattle.gp_cluster.specs.Runs.{EndsWith}

-- ---- one log

last_shown : (first : EpochPart) (b : Bool) (ds : List Durable) → last_part (Some first) (log_entries b ds) ≡ Some (last_or first ds)
last_shown first b [] = refl
last_shown first b (d ∷ ds) = last_shown (part_of d) b ds

module _ {D : Type 0} (content : D → Option (List ℕ)) (image : D → List ℕ → Type 0) (limit : ℕ) where
  revealed : (o : Option (List ℕ)) (P Q : List ℕ → Type 0) → ((s : List ℕ) → P s → Q s) → IfRevealed o P → IfRevealed o Q
  revealed None P Q f h = tt
  revealed (Some s) P Q f h = f s h

  -- a log that is kept ends with the durable part of its node
  kept_part : (log : LogState D) (a b : Option EpochPart) → log.limit ≡ limit → (log.ready ≡ true → IsReady content image log) → Keeps a b (Some log) → IfRevealed (content log.disk) (EndsWith limit a b)
  kept_part log None None same ready k = absurd k
  kept_part log None (Some b) same ready k = absurd k
  kept_part log (Some a) None same ready k = absurd k
  kept_part log (Some a) (Some b) same ready k = revealed (content log.disk) _ (EndsWith limit (Some a) (Some b)) (λ s h. (
    log_entries log.is_old log.entries,
    (log.size, subst (λ n. Shows n (log_entries log.is_old log.entries) log.size s) same h.0),
    last_shown a log.is_old log.entries ∙ ap (λ p. Some p) k.1,
  )) (ready k.0.0)

-- ---- the cell of a node

module _ {D : Type 0} where
  keeps_some : (a : EpochPart) (b : Option EpochPart) (o : Option (LogState D)) → Keeps (Some a) b o → (log : LogState D) × (o ≡ Some log)
  keeps_some a None None k = absurd k
  keeps_some a None (Some log) k = absurd k
  keeps_some a (Some b) None k = absurd k
  keeps_some a (Some b) (Some log) k = (log, refl)

  keeps_none : (b : Option EpochPart) (o : Option (LogState D)) → Keeps None b o → o ≡ None
  keeps_none None None k = refl
  keeps_none None (Some log) k = absurd k
  keeps_none (Some b) None k = absurd k
  keeps_none (Some b) (Some log) k = absurd k

  log_there : (config : Counts) (n : Node) (b : Option EpochPart) (o : Option (LogState D)) → Keeps (part_in (opening config n)) b o → has_log n ≡ true → (log : LogState D) × (o ≡ Some log)
  log_there config (node.Acceptor a) b o k e = keeps_some _ b o k
  log_there config (node.Coordinator c) b o k e = keeps_some _ b o k
  log_there config (node.Learner l) b o k e = absurd (let wrong : false ≡ true = e in cc)
  log_there config (node.Proposer p) b o k e = absurd (let wrong : false ≡ true = e in cc)

  no_log : (config : Counts) (n : Node) (b : Option EpochPart) (o : Option (LogState D)) → Keeps (part_in (opening config n)) b o → has_log n ≡ false → o ≡ None
  no_log config (node.Acceptor a) b o k e = absurd (let wrong : true ≡ false = e in cc)
  no_log config (node.Coordinator c) b o k e = absurd (let wrong : true ≡ false = e in cc)
  no_log config (node.Learner l) b o k e = keeps_none b o k
  no_log config (node.Proposer p) b o k e = keeps_none b o k

  -- ---- all logs

  -- the log of a cell is there if its node keeps one, and then this holds of it
  pub record HasItsLog (Q : Node → LogState D → Type 0) (c : CellState D) : Type 0 where
    pub some : has_log c.node ≡ true → (log : LogState D) × (c.log ≡ Some log) × Q c.node log
    pub none : has_log c.node ≡ false → c.log ≡ None

  no_logs : (Q : Node → LogState D → Type 0) (cs : List (CellState D)) (ms : List Node) → map node_in cs ≡ ms → Each (λ n. has_log n ≡ false) ms → Each (HasItsLog Q) cs → logs_of cs ≡ []
  no_logs Q [] ms e h good = refl
  no_logs Q (c ∷ cs) [] e h good = absurd (let wrong : c.node ∷ map node_in cs ≡ [] = e in cc)
  no_logs Q (c ∷ cs) (m ∷ ms) e h good =
      let both : c.node ∷ map node_in cs ≡ m ∷ ms = e in let same : c.node ≡ m = cc in let rest : map node_in cs ≡ ms = cc in
      ap (λ o. option_to_list o ++ logs_of cs) (good.0.none (ap has_log same ∙ h.0)) ∙ no_logs Q cs ms rest h.1 good.1

  pub all_logs : (Q : Node → LogState D → Type 0) (cs : List (CellState D)) (ns ms : List Node) → map node_in cs ≡ ns ++ ms → Each (λ n. has_log n ≡ true) ns → Each (λ n. has_log n ≡ false) ms → Each (HasItsLog Q) cs
      → AllZip Q ns (logs_of cs)
  all_logs Q cs [] ms e h k good = subst (AllZip Q []) (sym (no_logs Q cs ms e k good)) tt
  all_logs Q [] (n ∷ ns) ms e h k good = absurd (let wrong : [] ≡ n ∷ (ns ++ ms) = e in cc)
  all_logs Q (c ∷ cs) (n ∷ ns) ms e h k good =
      let both : c.node ∷ map node_in cs ≡ n ∷ (ns ++ ms) = e in let same : c.node ≡ n = cc in let rest : map node_in cs ≡ ns ++ ms = cc in
      let g = good.0.some (ap has_log same ∙ h.0) in
      subst (λ o. AllZip Q (n ∷ ns) (option_to_list o ++ logs_of cs)) (sym g.1) (subst (λ m. Q m g.0) same g.2, all_logs Q cs ns ms rest h.1 k good.1)

pub others_lack : (config : Counts) → Each (λ n. has_log n ≡ false) (first_of Learner config.learners ++ proposer_nodes)
others_lack config = each_both (λ n. has_log n ≡ false) (first_of Learner config.learners) proposer_nodes (each_first (λ n. has_log n ≡ false) Learner config.learners (λ i. refl)) (each_first (λ n. has_log n ≡ false) Proposer 8 (λ i. refl))

module _ {D : Type 0} (content : D → Option (List ℕ)) (image : D → List ℕ → Type 0) (config : Counts) (limit : ℕ) (run : List Entry) where
  abbrev pub Ends : Node → LogState D → Type 0
  Ends n log = IfRevealed (content log.disk) (EndsWith limit (part_in (opening config n)) (part_in (core_at config n run)))

  -- a cell that is up
  pub its_log : (c : CellState D) → c.config ≡ config → c.core ≡ core_at config c.node run → Keeps (part_in (opening c.config c.node)) (part_in c.core) c.log → ((log : LogState D) → c.log ≡ Some log → (log.limit ≡ limit) × (log.ready ≡ true → IsReady content image log)) → HasItsLog Ends c
  its_log c same core kept known = record { some = some; none = no_log config c.node (part_in c.core) c.log keeps }
    where
      keeps : Keeps (part_in (opening config c.node)) (part_in c.core) c.log
      keeps = subst (λ k. Keeps (part_in (opening k c.node)) (part_in c.core) c.log) same kept

      some : has_log c.node ≡ true → (log : LogState D) × (c.log ≡ Some log) × Ends c.node log
      some e =
          let l = log_there config c.node (part_in c.core) c.log keeps e in let k = known l.0 l.1 in (
            l.0,
            l.1,
            subst (λ p. IfRevealed (content l.0.disk) (EndsWith limit (part_in (opening config c.node)) p)) (ap part_in core)
                (kept_part content image limit l.0 (part_in (opening config c.node)) (part_in c.core) k.0 k.1 (subst (Keeps (part_in (opening config c.node)) (part_in c.core)) l.1 keeps)),
          )
