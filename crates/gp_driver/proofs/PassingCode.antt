-- The calls of one pass, and the runs that they make.
use Rattle.std.proofs.Common.{◌≡◌, ℕ, suc, ◌+◌, ◌<◌, ◌≤◌, true, ◌&&◌, List, ◌∷◌, length, ap, ◌∙◌, subst, Result, arith}
use Rattle.std.specs.Prelude.{nat_lt}
use Rattle.std.proofs.lemmas.Bool.{lt-ltb, le-leb}
use Rattle.std.proofs.lemmas.List.{length-append}
use Rattle.gp_round.specs.Counts.{Counts}
use Rattle.gp_round.specs.Configs.{is_owner}
use Rattle.gp_round.specs.declared.round.Mode.TheVariants.{Single}
use Rattle.gp_round.specs.declared.config.TheConstants.{LAST_COUNT}
use Rattle.gp_msg.specs.declared.node.Node.{Node}
use Rattle.gp_msg.specs.declared.node.Node.TheVariants.{Coordinator, Acceptor, Learner}
use Rattle.gp_msg.specs.declared.event.Event.TheVariants.{Begin}
use Rattle.gp_msg.specs.Messages.{Entry}
use Rattle.gp_msg.specs.declared.message.MsgKind.{MsgKind}
use Rattle.gp_msg.specs.declared.message.MsgKind.TheVariants as Kind
use Rattle.gp_run.specs.Messages.{messages}
use Rattle.gp_run.specs.Runs.{entry_after}
use Rattle.gp_run.specs.TopCount.{top_count}
use Rattle.gp_driver.specs.Sweeps.{places, sweep}
use Rattle.gp_driver.specs.Phases.{answered_from, voted_from}
use Rattle.gp_driver.specs.declared.stage.StageFault.{StageFault}
use Rattle.gp_driver.specs.Stages.{StageState, HasDriven}
use Rattle.gp_driver.specs.Settling.{next_round, begun, pass}
use Rattle.gp_driver.proofs.Driving.{swept_grows, swept_messages}
use native.Mathlib.Numerals.{add-one}

pub longer : (config : Counts) (node : ℕ → Node) (n : ℕ) (kind : MsgKind) (start : ℕ) (es : List Entry) → length es ≤ length (sweep config node n kind start es)
longer config node n kind start es = swept_grows config node 0 n (places kind start (messages es)) es (omega arith)

pub more : (config : Counts) (node : ℕ → Node) (n : ℕ) (kind : MsgKind) (start : ℕ) (es : List Entry) → length (messages es) ≤ length (messages (sweep config node n kind start es))
more config node n kind start es = let m = swept_messages config node n (places kind start (messages es)) es in let a = ap length m.1 in let b = length-append (messages es) m.0 in omega (arith, a, b)

-- a sweep of what is equal
pub same_sweep : (c d : Counts) (node : ℕ → Node) (m n : ℕ) (kind : MsgKind) (s t : ℕ) (es fs : List Entry) → c ≡ d → m ≡ n → s ≡ t → es ≡ fs → sweep c node m kind s es ≡ sweep d node n kind t fs
same_sweep c d node m n kind s t es fs p q r u = λ i. sweep (p i) node (q i) kind (r i) (u i)

pub same_answered : (c d : Counts) (n s t : ℕ) (es fs : List Entry) → c ≡ d → s ≡ t → es ≡ fs → answered_from c n s es ≡ answered_from d n t fs
same_answered c d n s t es fs p r u = λ i. answered_from (p i) n (r i) (u i)

pub same_voted : (c d : Counts) (s t : ℕ) (es fs : List Entry) → c ≡ d → s ≡ t → es ≡ fs → voted_from c s es ≡ voted_from d t fs
same_voted c d s t es fs p r u = λ i. voted_from (p i) (r i) (u i)

module _ (config : Counts) (es : List Entry) where
  abbrev start : ℕ
  start = length (messages es)

  abbrev pub es2 : List Entry
  es2 = sweep config Acceptor config.acceptors Kind.P1a (length (messages es)) (begun config es)

  abbrev pub es3 : List Entry
  es3 = sweep config Coordinator 1 Kind.P1b (length (messages es)) es2

  abbrev pub es4 : List Entry
  es4 = sweep config Acceptor config.acceptors Kind.P2a (length (messages es)) es3

  has_begun : (top : ℕ) → top ≡ top_count config es → entry_after config es (Begin 0 (record { count = top + 1; mode = Single; lead = 0 })) ∷ es ≡ begun config es
  has_begun top e = λ i. entry_after config es (Begin 0 (record { count = (add-one top ∙ ap suc e) i; mode = Single; lead = 0 })) ∷ es

  pub may_begin : (top : ℕ) → top ≡ top_count config es → top_count config es < LAST_COUNT → 0 < config.coordinators → is_owner config.coordinators 0 (record { count = top + 1; mode = Single; lead = 0 }) ≡ true
  may_begin top e l lead = λ i. le-leb 1 (top + 1) (omega arith) i && le-leb (top + 1) LAST_COUNT (omega (arith, e, l)) i && lt-ltb 0 config.coordinators lead i && true

  room4 : length es4 ≤ length (pass config es)
  room4 = longer config Learner config.learners Kind.P2b (length (messages es)) es4

  pub room3 : length es3 ≤ length (pass config es)
  room3 = let a = longer config Acceptor config.acceptors Kind.P2a (length (messages es)) es3 in let b = room4 in omega (arith, a, b)

  room2 : length es2 ≤ length (pass config es)
  room2 = let a = longer config Coordinator 1 Kind.P1b (length (messages es)) es2 in let b = room3 in omega (arith, a, b)

  pub room1 : length (begun config es) ≤ length (pass config es)
  room1 = let a = longer config Acceptor config.acceptors Kind.P1a (length (messages es)) (begun config es) in let b = room2 in omega (arith, a, b)

  pub order1 : length (messages es) ≤ length (messages (begun config es))
  order1 = let b = length-append (messages es) ((entry_after config es (Begin 0 (next_round config es))).sent) in omega (arith, b)

  order2 : length (messages es) ≤ length (messages es2)
  order2 = let a = more config Acceptor config.acceptors Kind.P1a (length (messages es)) (begun config es) in let b = order1 in omega (arith, a, b)

  pub order3 : length (messages es) ≤ length (messages es3)
  order3 = let a = more config Coordinator 1 Kind.P1b (length (messages es)) es2 in let b = order2 in omega (arith, a, b)

-- what was made to begin is the next round
pub begins : (x y : StageState) (top : ℕ) (result : Result ℕ StageFault) → top ≡ top_count x.config x.run
    → HasDriven x y (entry_after x.config x.run (Begin 0 (record { count = top + 1; mode = Single; lead = 0 })) ∷ x.run) result → HasDriven x y (begun x.config x.run) result
begins x y top result e h = subst (λ zs. HasDriven x y zs result) (has_begun x.config x.run top e) h

pub one_coordinator : (config : Counts) → 0 < config.coordinators → (i : ℕ) → i < 1 → nat_lt i config.coordinators ≡ true
one_coordinator config h i l = lt-ltb i config.coordinators (omega (arith, h, l))
