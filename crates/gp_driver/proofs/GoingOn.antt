-- Settling adds entries to a run, and offers nothing.
use Rattle.std.proofs.Common.{◌≡◌, ℕ, zero, suc, List, [], ◌∷◌, ◌++◌, length, refl, ap, ◌∙◌}
use Rattle.gp_round.specs.Counts.{Counts}
use Rattle.gp_msg.specs.declared.node.Node.{Node}
use Rattle.gp_msg.specs.declared.node.Node.TheVariants.{Coordinator, Acceptor, Learner}
use Rattle.gp_msg.specs.declared.event.Event.{Event}
use Rattle.gp_msg.specs.declared.event.Event.TheVariants.{Begin, Take}
use Rattle.gp_msg.specs.declared.message.MsgKind.TheVariants as Kind
use Rattle.gp_msg.specs.Messages.{Entry}
use Rattle.gp_run.specs.Messages.{messages}
use Rattle.gp_run.specs.Runs.{entry_after}
use Rattle.gp_driver.specs.Sweeps.{places, swept, sweep}
use Rattle.gp_driver.specs.Settling.{at_first, begun, checkpoints, closed, closings, finals_of_pass, next_round, pass, passes, prepared, settle}
use Rattle.gp_driver.specs.Settled.{GoesOn, offered_by, offers}
use Rattle.gp_driver.proofs.TopRounds.{kept_while_swept}

nothing_yet : (es : List Entry) → GoesOn es es
nothing_yet es = record { more = []; extends = refl; no_offers = refl }

module _ (config : Counts) (es : List Entry) where
  one_more : (zs : List Entry) (event : Event) → offered_by event ≡ [] → GoesOn es zs → GoesOn es (entry_after config zs event ∷ zs)
  one_more zs event none g = record {
    more = entry_after config zs event ∷ g.more;
    extends = ap (λ l. entry_after config zs event ∷ l) g.extends;
    no_offers = ap (λ ds. ds ++ offers g.more) none ∙ g.no_offers;
  }

  swept_on : (node : ℕ → Node) (n : ℕ) (ks : List ℕ) (zs : List Entry) → GoesOn es zs → GoesOn es (swept config node n ks zs)
  swept_on node n ks zs h = kept_while_swept config (GoesOn es) node n ks zs (λ i l fs k was. one_more fs (Take (node i) k) refl was) h

  closed_on : (k : ℕ) (zs : List Entry) → GoesOn es zs → GoesOn es (closed config k zs)
  closed_on k zs h = swept_on Acceptor config.acceptors (k ∷ []) (swept config Coordinator 1 (k ∷ []) zs) (swept_on Coordinator 1 (k ∷ []) zs h)

  closings_on : (ks : List ℕ) (zs : List Entry) → GoesOn es zs → GoesOn es (closings config ks zs)
  closings_on [] zs h = h
  closings_on (k ∷ ks) zs h = closings_on ks (swept config Learner config.learners (k ∷ []) (closed config k zs)) (swept_on Learner config.learners (k ∷ []) (closed config k zs) (closed_on k zs h))

  pass_on : (zs : List Entry) → GoesOn es zs → GoesOn es (pass config zs)
  pass_on zs h =
      let start = length (messages zs) in
      let b = one_more zs (Begin 0 (next_round config zs)) refl h in
      let asked = sweep config Acceptor config.acceptors Kind.P1a start (begun config zs) in
      let answered = sweep config Coordinator 1 Kind.P1b start asked in
      let voted = sweep config Acceptor config.acceptors Kind.P2a start answered in
      swept_on Learner config.learners (places Kind.P2b start (messages voted)) voted
      (swept_on Acceptor config.acceptors (places Kind.P2a start (messages answered)) answered
      (swept_on Coordinator 1 (places Kind.P1b start (messages asked)) asked
      (swept_on Acceptor config.acceptors (places Kind.P1a start (messages (begun config zs))) (begun config zs) b)))

  passes_on : (n : ℕ) (zs : List Entry) → GoesOn es zs → GoesOn es (passes config n zs)
  passes_on zero zs h = h
  passes_on (suc n) zs h = by (finals_of_pass config zs) (λ k. passes_on n (closed config k (pass config zs)) (closed_on k (pass config zs) (pass_on zs h))) where
    by : (ks : List ℕ) → ((k : ℕ) → GoesOn es (passes config n (closed config k (pass config zs)))) → GoesOn es (at_first ks (pass config zs) (λ k. passes config n (closed config k (pass config zs))))
    by [] f = pass_on zs h
    by (k ∷ ks) f = f k

  prepared_on : GoesOn es (prepared config es)
  prepared_on =
      let taken = closings config (places Kind.Final 0 (messages es)) es in
      swept_on Coordinator 1 (places Kind.Propose 0 (messages taken)) taken (closings_on (places Kind.Final 0 (messages es)) es (nothing_yet es))

  pub settling_goes_on : GoesOn es (settle config es)
  unfolding settle
  settling_goes_on = passes_on (suc (checkpoints (messages es))) (prepared config es) prepared_on
