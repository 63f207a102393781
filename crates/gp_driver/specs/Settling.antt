-- Settling: single rounds of coordinator 0, until every learner holds every offered command.
use Rattle.std.specs.Prelude.{ℕ, zero, suc, ◌<◌, ◌+◌, ◌-◌, ◌*◌, Bool, false, cond, List, [], ◌∷◌, length}
use Rattle.gp_round.specs.Counts.{Counts}
use Rattle.gp_round.specs.declared.round.Mode.TheVariants.{Single}
use Rattle.gp_round.specs.declared.round.Round.{Round}
use Rattle.gp_round.specs.declared.config.TheConstants.{LAST_COUNT}
use Rattle.gp_msg.specs.declared.node.Node.TheVariants.{Coordinator, Acceptor, Learner}
use Rattle.gp_msg.specs.declared.event.Event.TheVariants.{Begin}
use Rattle.gp_msg.specs.Messages.{Stamped, Offered, InEpoch, Final, Entry}
use Rattle.gp_msg.specs.declared.message.MsgKind.TheVariants as Kind
use Rattle.gp_run.specs.Messages.{messages}
use Rattle.gp_run.specs.Runs.{run_onto}
use Rattle.gp_run.specs.TopCount.{top_count}
use Rattle.gp_driver.specs.Sweeps.{places, swept, sweep}
use Rattle.gp_driver.specs.Phases.{answered_from, voted_from}

-- ---- before the first round

-- coordinator 0, then each acceptor, then each learner takes the Final message at each of these places, one message after another
abbrev pub closings : Counts → List ℕ → List Entry → List Entry
closings config [] es = es
closings config (k ∷ ks) es =
    closings config ks (swept config Learner config.learners (k ∷ []) (swept config Acceptor config.acceptors (k ∷ []) (swept config Coordinator 1 (k ∷ []) es)))

-- all Final messages are taken, and then coordinator 0 takes all proposals
abbrev pub prepared : Counts → List Entry → List Entry
prepared config es = sweep config Coordinator 1 Kind.Propose 0 (closings config (places Kind.Final 0 (messages es)) es)

-- ---- one pass

-- a single round of coordinator 0, with a greater count than any other round
abbrev pub next_round : Counts → List Entry → Round
next_round config es = record { count = suc (top_count config es); mode = Single; lead = 0 }

-- coordinator 0 begins it
abbrev pub begun : Counts → List Entry → List Entry
begun config es = run_onto config es (Begin 0 (next_round config es) ∷ [])

-- from message number `start` on, acceptors take the P1a, coordinator 0 takes their answers, acceptors take the value, and learners take the votes
abbrev pub heard_from : Counts → ℕ → List Entry → List Entry
heard_from config start es = voted_from config start (answered_from config 1 start es)

-- one pass: coordinator 0 leads such a round to its end
abbrev pub pass : Counts → List Entry → List Entry
pass config es = heard_from config (length (messages es)) (begun config es)

-- the places of the Final messages that the pass sent
abbrev pub finals_of_pass : Counts → List Entry → List ℕ
finals_of_pass config es = places Kind.Final (length (messages es)) (messages (pass config es))

-- coordinator 0, and then each acceptor, takes the message at this place
abbrev pub closed : Counts → ℕ → List Entry → List Entry
closed config k es = swept config Acceptor config.acceptors (k ∷ []) (swept config Coordinator 1 (k ∷ []) es)

-- ---- passes

-- what f makes of the first place, or x if there is no place
abbrev pub at_first {ℓ} : {X : Type ℓ} → List ℕ → X → (ℕ → X) → X
at_first [] x f = x
at_first (k ∷ ks) x f = f k

-- at most n passes: after a pass that sent a Final message, coordinator 0 and the acceptors take the first one that it sent, and the next pass follows
abbrev pub passes : Counts → ℕ → List Entry → List Entry
passes config zero es = es
passes config (suc n) es = at_first (finals_of_pass config es) (pass config es) (λ k. passes config n (closed config k (pass config es)))

-- each of these passes can begin its round
abbrev pub CanPass : Counts → ℕ → List Entry → Type 0
CanPass config zero es = Unit {0}
CanPass config (suc n) es = (top_count config es < LAST_COUNT) × at_first (finals_of_pass config es) (Unit {0}) (λ k. CanPass config n (closed config k (pass config es)))

-- the number of these passes
abbrev pub passes_made : Counts → ℕ → List Entry → ℕ
passes_made config zero es = 0
passes_made config (suc n) es = at_first (finals_of_pass config es) 1 (λ k. suc (passes_made config n (closed config k (pass config es))))

-- the message offers a checkpoint
abbrev pub is_checkpoint : Stamped → Bool
is_checkpoint (Offered c) = c.draft.checkpoint
is_checkpoint (InEpoch e m) = false
is_checkpoint (Final e l v) = false

-- the number of checkpoints that were offered
abbrev pub checkpoints : List Stamped → ℕ
checkpoints [] = 0
checkpoints (m ∷ ms) = cond (is_checkpoint m) (suc (checkpoints ms)) (checkpoints ms)

-- the settled run: one pass more than checkpoints were offered is enough
unfoldable pub settle : Counts → List Entry → List Entry
settle config es = passes config (suc (checkpoints (messages es))) (prepared config es)

-- the number of passes that settling makes
unfoldable pub settling_passes : Counts → List Entry → ℕ
settling_passes config es = passes_made config (suc (checkpoints (messages es))) (prepared config es)

-- the number of events that settling takes, given the numbers of Final messages and of proposals before it and the number p of its passes
abbrev pub settling_events : Counts → ℕ → ℕ → ℕ → ℕ
settling_events config finals proposals p =
    finals * (config.acceptors + config.learners + 1) + proposals + p * (1 + 3 * config.acceptors + config.acceptors * config.learners) + (p - 1) * (config.acceptors + 1)
