-- New jobs: those that are made so far, and what they are.
use Rattle.std.proofs.Common.{◌≡◌, ◌≤◌, ◌+◌, ◌-◌, inl, inr, ℕ, zero, suc, true, false, List, [], ◌∷◌, ◌++◌, length, reverse, refl, sym, subst, ap, ◌∙◌, arith, All, Option, Some, None, Result, Ok, Err, OnOk, is_err, append_assoc, length-append}
use Rattle.std.proofs.lemmas.List.{reverse-append, length-reverse, length-map, map-append, append-nil}
use Rattle.std.specs.Option.{option_to_list}
use Rattle.gp_round.specs.Counts.{Counts}
use Rattle.gp_msg.specs.declared.node.Node.{Node}
use Rattle.gp_msg.specs.declared.node.Node.TheVariants as node
use Rattle.gp_msg.specs.Nodes.{is_present}
use Rattle.gp_vlog.specs.Logs.{LogState}
use Rattle.gp_wire.specs.Lists.{Each, Has}
use Rattle.gp_wire.specs.Known.{WireState, PassState, new_pass}
use Rattle.gp_wire.specs.Fresh.{AreFresh}
use Rattle.gp_work.specs.declared.job.Job.{Job}
use Rattle.gp_cell.specs.declared.rules.PaxosRules.{PaxosRules}
use Rattle.gp_cell.specs.Cores.{opening, part_in}
use Rattle.gp_cell.specs.Cells.{CellState, IsFreshLog, log_of}
use Rattle.gp_wire.proofs.Words.{has_left, has_right}
use Rattle.gp_seats.specs.declared.nodes.Role.{Role}
use Rattle.gp_seats.specs.declared.nodes.Role.TheVariants.{Acceptor, Coordinator, Learner, Proposer}
use Rattle.gp_seats.specs.Nodes.{node_of, first_of, logged_nodes, working_nodes, proposer_nodes}
use Rattle.gp_seats.specs.Seats.{IsBlank, IsUnused, IsNewJob, CanSit, first_log, later_logs, has_log, logs_in, new_passes, seat, seats}
use Rattle.gp_seats.proofs.Listing.{present_working, present_proposers}

pub all_of_each : {A : Type 0} (P : A → Type 0) (xs : List A) → Each P xs → All P xs
all_of_each P [] h k d l = absurd (omega arith)
all_of_each P (x ∷ xs) h zero d l = h.0
all_of_each P (x ∷ xs) h (suc k) d l = all_of_each P xs h.1 k d (omega arith)

pub each_of_all : {A : Type 0} (P : A → Type 0) (xs : List A) → All P xs → Each P xs
each_of_all P [] h = tt
each_of_all P (x ∷ xs) h = (h 0 x (omega arith), each_of_all P xs (λ k d l. h (suc k) d (omega arith)))

pub jobs_step : {A : Type 0} (jobs after left rest all : List A) (j x : A) → after ≡ jobs ++ j ∷ [] → j ≡ x → left ≡ x ∷ rest → jobs ++ left ≡ all → after ++ rest ≡ all
jobs_step jobs after left rest all j x grown is parted whole =
    ap (λ l. l ++ rest) grown ∙ append_assoc jobs (j ∷ []) rest ∙ ap (λ y. jobs ++ y ∷ rest) is ∙ ap (λ l. jobs ++ l) (sym parted) ∙ whole

-- ---- nodes without a log

fresh_without : (D : Type 0) (config : Counts) (n : Node) → has_log n ≡ false → IsFreshLog {D = D} (part_in (opening config n)) (first_log n [])
fresh_without D config (node.Acceptor a) e = absurd (let wrong : true ≡ false = e in cc)
fresh_without D config (node.Coordinator c) e = absurd (let wrong : true ≡ false = e in cc)
fresh_without D config (node.Learner n) e = tt
fresh_without D config (node.Proposer p) e = tt

later_nothing : (D : Type 0) (n : Node) → later_logs {D = D} n [] ≡ []
later_nothing D (node.Acceptor a) = refl
later_nothing D (node.Coordinator c) = refl
later_nothing D (node.Learner l) = refl
later_nothing D (node.Proposer p) = refl

-- nodes without a log
pub sit_without : (D : Type 0) (config : Counts) (wire : WireState PaxosRules) (ns : List Node) → Each (λ n. has_log n ≡ false) ns → ((n : Node) → Has n ns → is_present config n ≡ true) → CanSit {D = D} config (new_passes wire ns) []
sit_without D config wire [] none present = refl
sit_without D config wire (n ∷ ns) none present = ((present n (inl refl), refl), fresh_without D config n none.0, subst (λ l. CanSit config (new_passes wire ns) l) (sym (later_nothing D n)) (sit_without D config wire ns none.1 (λ m h. present m (inr h))))

module _ {D : Type 0} where
  later_with : (n : Node) (r : List (LogState D)) (x : LogState D) → Some x ≡ first_log n (x ∷ r) → r ≡ later_logs n (x ∷ r)
  later_with (node.Acceptor a) r x e = refl
  later_with (node.Coordinator c) r x e = refl
  later_with (node.Learner l) r x e = absurd (let wrong : Some x ≡ None = e in cc)
  later_with (node.Proposer p) r x e = absurd (let wrong : Some x ≡ None = e in cc)

  later_none : (n : Node) (r : List (LogState D)) → None ≡ first_log n r → r ≡ later_logs n r
  later_none (node.Acceptor a) [] e = refl
  later_none (node.Acceptor a) (x ∷ r) e = absurd (let wrong : None ≡ Some x = e in cc)
  later_none (node.Coordinator c) [] e = refl
  later_none (node.Coordinator c) (x ∷ r) e = absurd (let wrong : None ≡ Some x = e in cc)
  later_none (node.Learner l) r e = refl
  later_none (node.Proposer p) r e = refl

  -- the logs behind the one that a node took
  pub later_is : (n : Node) (all rest : List (LogState D)) (log : Option (LogState D)) → log ≡ first_log n all → all ≡ option_to_list log ++ rest → rest ≡ later_logs n all
  later_is n all rest (Some x) e split = subst (λ l. Some x ≡ first_log n l → rest ≡ later_logs n l) (sym split) (later_with n rest x) e
  later_is n all rest None e split = subst (λ l. None ≡ first_log n l → rest ≡ later_logs n l) (sym split) (later_none n rest) e

  pub logs_more : (js : List (Job (CellState D))) (j : Job (CellState D)) → logs_in (js ++ j ∷ []) ≡ logs_in js ++ option_to_list (log_of j.cell)
  logs_more [] j = append-nil (option_to_list (log_of j.cell))
  logs_more (x ∷ js) j = ap (λ l. option_to_list (log_of x.cell) ++ l) (logs_more js j) ∙ sym (append_assoc (option_to_list (log_of x.cell)) (logs_in js) (option_to_list (log_of j.cell)))

  pub reverse_option : (o : Option (LogState D)) → reverse (option_to_list o) ≡ option_to_list o
  reverse_option None = refl
  reverse_option (Some x) = refl

  -- ---- logs that are taken back

  pub back_list : (left more : List (Job (CellState D))) (j : Job (CellState D)) (logs after : List (LogState D)) (log : Option (LogState D)) → left ≡ more ++ j ∷ [] → log ≡ log_of j.cell → after ≡ logs ++ option_to_list log → logs_in more ++ reverse after ≡ logs_in left ++ reverse logs
  back_list left more j logs after log split is grown =
      let turned : reverse after ≡ option_to_list (log_of j.cell) ++ reverse logs = ap reverse grown ∙ reverse-append logs (option_to_list log) ∙ ap (λ l. l ++ reverse logs) (reverse_option log) ∙ ap (λ o. option_to_list o ++ reverse logs) is in
      ap (λ l. logs_in more ++ l) turned ∙ sym (append_assoc (logs_in more) (option_to_list (log_of j.cell)) (reverse logs)) ∙ ap (λ l. l ++ reverse logs) (sym (logs_more more j)) ∙ ap (λ l. logs_in l ++ reverse logs) (sym split)

  pub back_room : (left more : List (Job (CellState D))) (j : Job (CellState D)) (logs : List (LogState D)) (log : Option (LogState D)) (room : ℕ) → left ≡ more ++ j ∷ [] → log ≡ log_of j.cell → length (logs_in left) + length logs ≤ room → length (logs_in more) + (length logs + length (option_to_list log)) ≤ room
  back_room left more j logs log room split is fits =
      let whole : length (logs_in left) ≡ length (logs_in more) + length (option_to_list log) = ap length (ap logs_in split ∙ logs_more more j ∙ ap (λ o. logs_in more ++ option_to_list o) (sym is)) ∙ length-append (logs_in more) (option_to_list log) in
      omega arith

  -- ---- one job more

  pub sit_step : (config : Counts) (old new : List PassState) (p : PassState) (logs rest : List (LogState D)) (log : Option (LogState D)) → old ≡ new ++ p ∷ [] → log ≡ first_log p.node (reverse logs) → logs ≡ rest ++ option_to_list log → CanSit config (reverse old) (reverse logs)
      → IsUnused config p × IsFreshLog (part_in (opening config p.node)) log × CanSit config (reverse new) (reverse rest) × (seats config (reverse old) (reverse logs) ≡ seat config p log ∷ seats config (reverse new) (reverse rest)) × (reverse logs ≡ option_to_list log ++ reverse rest)
  sit_step config old new p logs rest log split is took h =
      let turned : reverse old ≡ p ∷ reverse new = ap reverse split ∙ reverse-append new (p ∷ []) in
      let parted : reverse logs ≡ option_to_list log ++ reverse rest = ap reverse took ∙ reverse-append rest (option_to_list log) ∙ ap (λ l. l ++ reverse rest) (reverse_option log) in
      let later : reverse rest ≡ later_logs p.node (reverse logs) = later_is p.node (reverse logs) (reverse rest) log is parted in
      let can : CanSit config (p ∷ reverse new) (reverse logs) = subst (λ l. CanSit config l (reverse logs)) turned h in (
        can.0,
        subst (λ o. IsFreshLog (part_in (opening config p.node)) o) (sym is) can.1,
        subst (λ l. CanSit config (reverse new) l) (sym later) can.2,
        ap (λ l. seats config l (reverse logs)) turned ∙ ap (λ o. seat config p o ∷ seats config (reverse new) (later_logs p.node (reverse logs))) (sym is) ∙ ap (λ l. seat config p log ∷ seats config (reverse new) l) (sym later),
        parted,
      )

  pub logs_step : (jobs after : List (Job (CellState D))) (j : Job (CellState D)) (log : Option (LogState D)) (logs rest all : List (LogState D)) → after ≡ jobs ++ j ∷ [] → log_of j.cell ≡ log → logs ≡ option_to_list log ++ rest → logs_in jobs ++ logs ≡ all → logs_in after ++ rest ≡ all
  logs_step jobs after j log logs rest all grown is parted whole =
      ap (λ l. l ++ rest) (ap logs_in grown ∙ logs_more jobs j ∙ ap (λ o. logs_in jobs ++ option_to_list o) is) ∙ append_assoc (logs_in jobs) (option_to_list log) rest ∙ ap (λ l. logs_in jobs ++ l) (sym parted) ∙ whole

  pub length_whole : (jobs : List (Job (CellState D))) (logs all : List (LogState D)) → logs_in jobs ++ reverse logs ≡ all → length (logs_in jobs) + length logs ≡ length all
  length_whole jobs logs all whole = ap (λ n. length (logs_in jobs) + n) (sym (length-reverse logs)) ∙ sym (length-append (logs_in jobs) (reverse logs)) ∙ ap length whole

  -- ---- what can sit

  fresh_with : (config : Counts) (n : Node) (l : LogState D) (ls : List (LogState D)) → has_log n ≡ true → IsBlank l → IsFreshLog (part_in (opening config n)) (first_log n (l ∷ ls))
  fresh_with config (node.Acceptor a) l ls e b = b
  fresh_with config (node.Coordinator c) l ls e b = b
  fresh_with config (node.Learner n) l ls e b = absurd (let wrong : false ≡ true = e in cc)
  fresh_with config (node.Proposer p) l ls e b = absurd (let wrong : false ≡ true = e in cc)

  later_one : (n : Node) (l : LogState D) (ls : List (LogState D)) → has_log n ≡ true → later_logs n (l ∷ ls) ≡ ls
  later_one (node.Acceptor a) l ls e = refl
  later_one (node.Coordinator c) l ls e = refl
  later_one (node.Learner n) l ls e = absurd (let wrong : false ≡ true = e in cc)
  later_one (node.Proposer p) l ls e = absurd (let wrong : false ≡ true = e in cc)

  -- nodes with a log, and others behind them
  pub sit_with : (config : Counts) (wire : WireState PaxosRules) (ns rest : List Node) (logs : List (LogState D)) → Each (λ n. has_log n ≡ true) ns → ((n : Node) → Has n ns → is_present config n ≡ true) → length logs ≡ length ns → Each IsBlank logs → CanSit {D = D} config (new_passes wire rest) [] → CanSit config (new_passes wire (ns ++ rest)) logs
  sit_with config wire [] rest [] have present count blank last = last
  sit_with config wire [] rest (l ∷ logs) have present count blank last = absurd (omega (arith, count))
  sit_with config wire (n ∷ ns) rest [] have present count blank last = absurd (omega (arith, count))
  sit_with config wire (n ∷ ns) rest (l ∷ logs) have present count blank last = (
    (present n (inl refl), refl),
    fresh_with config n l logs have.0 blank.0,
    subst (λ ls. CanSit config (new_passes wire (ns ++ rest)) ls) (sym (later_one n l logs have.0)) (sit_with config wire ns rest logs have.1 (λ m h. present m (inr h)) (omega (arith, count)) blank.1 last),
  )

-- ---- the nodes that keep a log

pub each_both : (P : Node → Type 0) (xs ys : List Node) → Each P xs → Each P ys → Each P (xs ++ ys)
each_both P [] ys a b = b
each_both P (x ∷ xs) ys a b = (a.0, each_both P xs ys a.1 b)

pub each_first : (P : Node → Type 0) (r : Role) (k : ℕ) → ((i : ℕ) → P (node_of r i)) → Each P (first_of r k)
each_first P r zero h = tt
each_first P r (suc k) h = each_both P (first_of r k) (node_of r k ∷ []) (each_first P r k h) (h k, tt)

pub length_first : (r : Role) (k : ℕ) → length (first_of r k) ≡ k
length_first r zero = refl
length_first r (suc k) = let here = length_first r k in let more = length-append (first_of r k) (node_of r k ∷ []) in omega arith

pub length_logged : (config : Counts) → length (logged_nodes config) ≡ config.acceptors + config.coordinators
length_logged config =
    let a = length_first Acceptor config.acceptors in let c = length_first Coordinator config.coordinators in
    let both = length-append (first_of Acceptor config.acceptors) (first_of Coordinator config.coordinators) in omega arith

pub length_proposers : length proposer_nodes ≡ 8
length_proposers = length_first Proposer 8

pub logged_have : (config : Counts) → Each (λ n. has_log n ≡ true) (logged_nodes config)
logged_have config = each_both (λ n. has_log n ≡ true) (first_of Acceptor config.acceptors) (first_of Coordinator config.coordinators) (each_first (λ n. has_log n ≡ true) Acceptor config.acceptors (λ i. refl)) (each_first (λ n. has_log n ≡ true) Coordinator config.coordinators (λ i. refl))

pub proposers_sit : (D : Type 0) (config : Counts) (wire : WireState PaxosRules) → CanSit {D = D} config (new_passes wire proposer_nodes) []
proposers_sit D config wire = sit_without D config wire proposer_nodes (each_first (λ n. has_log n ≡ false) Proposer 8 (λ i. refl)) (present_proposers config)

pub working_sit : (D : Type 0) (config : Counts) (wire : WireState PaxosRules) (logs : List (LogState D)) → length logs ≡ config.acceptors + config.coordinators → All IsBlank logs → CanSit config (new_passes wire (working_nodes config)) logs
working_sit D config wire logs count blank =
    let learners = first_of Learner config.learners in
    sit_with config wire (logged_nodes config) learners logs (logged_have config) (λ n h. present_working config n (has_left n (logged_nodes config) learners h))
    (count ∙ sym (length_logged config)) (each_of_all IsBlank logs blank)
    (sit_without D config wire learners (each_first (λ n. has_log n ≡ false) Learner config.learners (λ i. refl)) (λ n h. present_working config n (has_right n (logged_nodes config) learners h)))

-- ---- the jobs are new

new_job : {D : Type 0} (faults : D → ℕ) (wire : WireState PaxosRules) (config : Counts) (n : Node) (log : Option (LogState D)) → wire.rules.config ≡ config → IsNewJob faults wire config (seat config (new_pass n wire.id wire.nodes (n ∷ [])) log)
new_job faults wire config n log e = (record { fault = refl; own = record { own = refl; all = refl; config = sym e; holds = inl refl }; up = refl; nothing = refl; first = refl; cursor = refl; risen = refl }, refl)

pub new_jobs : {D : Type 0} (faults : D → ℕ) (wire : WireState PaxosRules) (config : Counts) (ns : List Node) (logs : List (LogState D)) → wire.rules.config ≡ config → Each (IsNewJob faults wire config) (seats config (new_passes wire ns) logs)
new_jobs faults wire config [] logs e = tt
new_jobs faults wire config (n ∷ ns) logs e = (new_job faults wire config n (first_log n logs) e, new_jobs faults wire config ns (later_logs n logs) e)

-- ---- the passes of a new wire

pub fresh_passes : (wire : WireState PaxosRules) (ns : List Node) (ps : List PassState) → AreFresh wire.id wire.nodes ns ps → ps ≡ new_passes wire ns
fresh_passes wire [] [] h = refl
fresh_passes wire [] (p ∷ ps) h = absurd h
fresh_passes wire (n ∷ ns) [] h = absurd h
fresh_passes wire (n ∷ ns) (p ∷ ps) h = ap (λ q. q ∷ ps) h.0 ∙ ap (λ l. new_pass n wire.id wire.nodes (n ∷ []) ∷ l) (fresh_passes wire ns ps h.1)

module _ {A : Type 0} where
  -- equal lists that are parted at the same place
  pub parts_are : (front last xs ys : List A) → front ++ last ≡ xs ++ ys → length front ≡ length xs → (front ≡ xs) × (last ≡ ys)
  parts_are [] last [] ys e l = (refl, e)
  parts_are [] last (x ∷ xs) ys e l = absurd (omega (arith, l))
  parts_are (y ∷ front) last [] ys e l = absurd (omega (arith, l))
  parts_are (y ∷ front) last (x ∷ xs) ys e l =
      let same : y ≡ x = cc in let behind : front ++ last ≡ xs ++ ys = cc in
      let r = parts_are front last xs ys behind (omega (arith, l)) in (ap (λ z. z ∷ front) same ∙ ap (λ l. x ∷ l) r.0, r.1)

pub count_passes : (wire : WireState PaxosRules) (config : Counts) (ps : List PassState) → ps ≡ new_passes wire (working_nodes config ++ proposer_nodes) → length ps ≡ length (new_passes wire (working_nodes config)) + 8
count_passes wire config ps e =
    let whole : length ps ≡ length (working_nodes config ++ proposer_nodes) = ap length e ∙ length-map (working_nodes config ++ proposer_nodes) (λ n. new_pass n wire.id wire.nodes (n ∷ [])) in
    let both = length-append (working_nodes config) proposer_nodes in
    let first : length (new_passes wire (working_nodes config)) ≡ length (working_nodes config) = length-map (working_nodes config) (λ n. new_pass n wire.id wire.nodes (n ∷ [])) in
    let last = length_proposers in omega arith

-- the passes of a new wire of these nodes
pub made_passes : (wire : WireState PaxosRules) (ns seen : List Node) (ps : List PassState) → wire.nodes ≡ seen → AreFresh wire.id seen seen ps → seen ≡ ns → ps ≡ new_passes wire ns
made_passes wire ns seen ps nodes fresh e = fresh_passes wire seen ps (subst (λ all. AreFresh wire.id all seen ps) (sym nodes) fresh) ∙ ap (new_passes wire) e

-- the passes of the proposers stand behind the others
pub parted_passes : (wire : WireState PaxosRules) (config : Counts) (ps front last : List PassState) (count : ℕ) → ps ≡ new_passes wire (working_nodes config ++ proposer_nodes) → ps ≡ front ++ last → count ≡ length ps → length front ≡ count - 8
    → (front ≡ new_passes wire (working_nodes config)) × (last ≡ new_passes wire proposer_nodes)
parted_passes wire config ps front last count are split all few =
    let known = count_passes wire config ps are in
    parts_are front last (new_passes wire (working_nodes config)) (new_passes wire proposer_nodes) (sym split ∙ are ∙ map-append (λ n. new_pass n wire.id wire.nodes (n ∷ [])) (working_nodes config) proposer_nodes) (omega arith)

-- ---- a fact for a result that is no error

pub on_ok : {T E : Type 0} (P : Type 0) (r : Result T E) → false ≡ is_err r → OnOk r P → P
on_ok P (Ok x) e h = h
on_ok P (Err x) e h = absurd (let wrong : false ≡ true = e in cc)
