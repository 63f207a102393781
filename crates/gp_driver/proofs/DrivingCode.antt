-- The calls that drive a draft, and those that open the round.
use Rattle.std.proofs.Common.{◌≡◌, ℕ, ◌+◌, ◌<◌, ◌≤◌, List, [], ◌∷◌, length, sym, ap, subst, ◌∙◌, arith}
use Rattle.std.proofs.lemmas.List.{length-append}
use Rattle.gp_command.specs.declared.draft.Draft.{Draft}
use Rattle.gp_round.specs.Counts.{Counts}
use Rattle.gp_msg.specs.declared.node.Node.TheVariants.{Coordinator, Acceptor, Learner}
use Rattle.gp_msg.specs.declared.event.Event.TheVariants.{Offer, Begin}
use Rattle.gp_msg.specs.Messages.{Entry}
use Rattle.gp_msg.specs.declared.message.MsgKind.TheVariants as Kind
use Rattle.gp_run.specs.Messages.{messages}
use Rattle.gp_run.specs.Runs.{entry_after}
use Rattle.gp_driver.specs.Sweeps.{sweep}
use Rattle.gp_driver.specs.Driving.{first_round, opened, driven, all_driven}
use Rattle.gp_driver.proofs.PassingCode.{longer, more}
use Rattle.gp_round.specs.Ranges.{AreInRange}
use Rattle.gp_driver.specs.Driven.{AreNoCheckpoints, DrivesMulti}
use Rattle.gp_driver.proofs.Multi.{drives_multi}

module _ (config : Counts) (draft : Draft) (es : List Entry) where
  abbrev pub offered : List Entry
  offered = entry_after config es (Offer 0 draft) ∷ es

  abbrev pub pushed : List Entry
  pushed = sweep config Coordinator 2 Kind.Propose (length (messages es)) offered

  abbrev pub voted : List Entry
  voted = sweep config Acceptor config.acceptors Kind.P2a (length (messages es)) pushed

  voted_room : length voted ≤ length (driven config draft es)
  voted_room = longer config Learner config.learners Kind.P2b (length (messages es)) voted

  pub pushed_room : length pushed ≤ length (driven config draft es)
  pushed_room = let a = longer config Acceptor config.acceptors Kind.P2a (length (messages es)) pushed in let b = voted_room in omega (arith, a, b)

  pub offered_room : length es < length (driven config draft es)
  offered_room = let a = longer config Coordinator 2 Kind.Propose (length (messages es)) offered in let b = pushed_room in omega (arith, a, b)

  pub offered_order : length (messages es) ≤ length (messages offered)
  offered_order = let b = length-append (messages es) ((entry_after config es (Offer 0 draft)).sent) in omega (arith, b)

  pub pushed_order : length (messages es) ≤ length (messages pushed)
  pushed_order = let a = more config Coordinator 2 Kind.Propose (length (messages es)) offered in let b = offered_order in omega (arith, a, b)

module _ (config : Counts) where
  abbrev pub opened1 : List Entry
  opened1 = entry_after config [] (Begin 0 first_round) ∷ []

  abbrev pub opened2 : List Entry
  opened2 = sweep config Coordinator 2 Kind.P1a 0 opened1

  abbrev pub opened3 : List Entry
  opened3 = sweep config Acceptor config.acceptors Kind.P1a 0 opened2

  abbrev pub opened4 : List Entry
  opened4 = sweep config Coordinator 2 Kind.P1b 0 opened3

  abbrev pub opened5 : List Entry
  opened5 = sweep config Acceptor config.acceptors Kind.P2a 0 opened4

  opened_room5 : length opened5 ≤ length (opened config)
  opened_room5 = longer config Learner config.learners Kind.P2b 0 opened5

  pub opened_room4 : length opened4 ≤ length (opened config)
  opened_room4 = let a = longer config Acceptor config.acceptors Kind.P2a 0 opened4 in let b = opened_room5 in omega (arith, a, b)

  opened_room3 : length opened3 ≤ length (opened config)
  opened_room3 = let a = longer config Coordinator 2 Kind.P1b 0 opened3 in let b = opened_room4 in omega (arith, a, b)

  pub opened_room2 : length opened2 ≤ length (opened config)
  opened_room2 = let a = longer config Acceptor config.acceptors Kind.P1a 0 opened2 in let b = opened_room3 in omega (arith, a, b)

-- what begins on no entries
pub first_begun : (c d : Counts) (es : List Entry) → c ≡ d → es ≡ [] → entry_after c es (Begin 0 first_round) ∷ es ≡ opened1 d
first_begun c d es p q = λ i. entry_after (p i) (q i) (Begin 0 first_round) ∷ q i

-- the drafts that are left lead to the target
pub record DrivingEach (config config_now : Counts) (es now target : List Entry) (f0 f1 : ℕ) (ready : Type 0) (left : List Draft) (events : ℕ) : Type 0 where
  pub same_config : config_now ≡ config
  pub steady : f1 ≡ f0
  pub is_ready : ready
  pub rest : all_driven config left now ≡ target
  pub entries : length now ≡ length es + events

pub driven_grows : (config : Counts) (drafts : List Draft) (es : List Entry) → length es ≤ length (all_driven config drafts es)
driven_grows config [] es = omega arith
driven_grows config (draft ∷ drafts) es = let a = offered_room config draft es in let b = driven_grows config drafts (driven config draft es) in omega (arith, a, b)

module _ (config config_now : Counts) (es now target : List Entry) (f0 f1 : ℕ) (ready : Type 0) (left rest : List Draft) (draft : Draft) (events : ℕ)
    (s : DrivingEach config config_now es now target f0 f1 ready left events) (is : left ≡ draft ∷ rest) where
  on : all_driven config rest (driven config draft now) ≡ target
  on = ap (λ ds. all_driven config ds now) (sym is) ∙ s.rest

  pub one_room : length (driven config_now draft now) ≤ length target
  one_room =
      let a = driven_grows config rest (driven config draft now) in
      let e = ap length on in
      let d = ap (λ x. length (driven x draft now)) s.same_config in
      omega (arith, a, e, d)

  pub one_on : (c2 : Counts) (zs : List Entry) (g : ℕ) (ready2 : Type 0) (n : ℕ) → c2 ≡ config_now → zs ≡ driven config_now draft now → length zs ≡ length now + n → g ≡ f1 → ready2
      → DrivingEach config c2 es zs target f0 g ready2 rest (events + n)
  one_on c2 zs g ready2 n e made more l r = record {
    same_config = e ∙ s.same_config;
    steady = l ∙ s.steady;
    is_ready = r;
    rest = ap (all_driven config rest) (made ∙ ap (λ x. driven x draft now) s.same_config) ∙ on;
    entries = let a = s.entries in omega (arith, a, more);
  }

-- a configuration of three coordinators is one by its numbers
pub drives : (config : Counts) (drafts : List Draft) → AreInRange config.acceptors config.coordinators config.learners → config.coordinators ≡ 3 → AreNoCheckpoints drafts → DrivesMulti config drafts
drives config drafts range three plain =
    let is : record { acceptors = config.acceptors; coordinators = 3; learners = config.learners } ≡ config = λ i. record { acceptors = config.acceptors; coordinators = sym three i; learners = config.learners } in
    subst (λ (c : Counts). DrivesMulti c drafts) is (drives_multi config.acceptors config.learners (let a = range.three_acceptors in omega (arith, a)) drafts plain)
