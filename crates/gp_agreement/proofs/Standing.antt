-- What a legal run has of one epoch is what the loose list of that epoch has.
use Rattle.std.proofs.Common.{◌≡◌, ◌<◌, ℕ, true, List, refl, sym, subst, ap, ◌∙◌, inl, inr}
use Rattle.std.specs.List.{Contains}
use Rattle.gp_command.specs.declared.command.Command.{Command}
use Rattle.gp_history.specs.History.{History, IsHistory, IsPrefix}
use Rattle.gp_round.specs.declared.round.Round.{Round}
use Rattle.gp_round.specs.Counts.{Counts}
use Rattle.gp_round.specs.Rounds.{earlier, round_zero}
use Rattle.gp_msg.specs.Messages.{Message, Answered, Sent, Voted, InEpoch, stamped, Entry}
use Rattle.gp_acceptor.specs.State.{AcceptorState}
use Rattle.gp_cstructs.specs.CStructs.{Among}
use Rattle.gp_cstructs.specs.Tables.{Propose, P2a, P2b}
use Rattle.gp_cstructs.specs.Acceptor.{Acceptor}
use Rattle.gp_cstructs.specs.Loose.{System, run}
use Rattle.gp_cstructs.specs.Safety.{Choosable, Covered}
use Rattle.gp_cstructs.specs.Facts as core
use Rattle.gp_cstructs.specs.Offered.{AllOffered}
use Rattle.gp_round.specs.Quorums.{IsCoordinatorQuorum}
use Rattle.gp_cstructs.proofs.Lists.{among_contains, contains_among}
use Rattle.gp_cstructs.proofs.Runs.{run_keeps}
use Rattle.gp_cstructs.proofs.OfferedCommands.{run_offers}
use Rattle.gp_cstructs.proofs.Votes.{vote_then}
use Rattle.gp_agreement.specs.Values.{Value, operations}
use Rattle.gp_agreement.proofs.Bundle.{tables_lawful, tables_keep_commands}
use Rattle.gp_agreement.proofs.Told.{told, all_told, told_among}
use Rattle.gp_agreement.proofs.Returning.{answered_there, sent_there, voted_there}
use Rattle.gp_run.specs.Messages.{messages}
use Rattle.gp_run.specs.States.{acceptor_at}
use Rattle.gp_run.specs.Legal.{Legal}
use Rattle.gp_run.specs.Chosen.{HadVote, IsVote, IsVotedFor, IsChosen}
use Rattle.gp_agreement.specs.Facts.{IsReached, IsPast, IsChoosable, IsSafe, HasSent, IsProposed}
use Rattle.gp_agreement.proofs.Projection.{T, M, Projects}
use Rattle.gp_agreement.proofs.Projected.{projection}
use Rattle.gp_agreement.proofs.Moments.{list, moment}
use Rattle.gp_agreement.proofs.Growing.{by_order}

pub prefix_by : (u v : History) (x y : History) → u ≡ x → v ≡ y → IsPrefix u v → IsPrefix x y
prefix_by u v x y e f p = subst (λ (k : History). IsPrefix k y) e (subst (λ (k : History). IsPrefix u k) f p)

module _ (config : Counts) (some : 0 < config.acceptors) (es : List Entry) (legal : Legal config es) (e : ℕ) where
  abbrev pub w : System (T config e)
  w = run (T config e) (list config e es legal)

  abbrev pub G : core.Ledger (T config e)
  G = core.ledger_of (T config e) w

  pub facts : core.Facts (T config e) (IsCoordinatorQuorum config.coordinators) w
  facts = run_keeps (tables_lawful config some) (list config e es legal) (projection config e es legal).loose_list

  pub offered : AllOffered (T config e) w
  offered = run_offers (tables_keep_commands config) (list config e es legal) (projection config e es legal).loose_list

  pub pr : Projects config e es w
  pr = (projection config e es legal).projects

  -- ---- messages

  pub tells : (m : M config e) → Among w.sent m → Contains (messages es) (stamped e (told config m))
  tells m p = among_contains (messages es) (stamped e (told config m)) (pr.back m p)

  -- a message of the epoch, as one of the list
  told_there : (n : Message) → Contains (messages es) (InEpoch e n) → Among (all_told config w.sent) n
  told_there n c =
      let t = pr.sent (InEpoch e n) (contains_among (messages es) (InEpoch e n) c) n (refl, refl) in
      subst (λ (m : Message). Among (all_told config w.sent) m) t.2 (told_among config w.sent t.0 t.1)

  pub sent_value : (c : ℕ) (r : Round) (x : History) → HasSent es c e r x → (v : Value) × G.values c r v × (v.history ≡ x)
  sent_value c r x p = sent_there config w.sent r c x (told_there (Sent r c x) p)

  pub sent_by : (c : ℕ) (r : Round) (v : Value) (x : History) → v.history ≡ x → G.values c r v → HasSent es c e r x
  sent_by c r v x q p = subst (λ (k : History). HasSent es c e r k) q (tells (P2a r c v) p)

  pub answer_value : (r : Round) (a : ℕ) (q : Round) (x : History) → Contains (messages es) (InEpoch e (Answered r a q x)) → (v : Value) × G.answers r a q v × (v.history ≡ x)
  answer_value r a q x p = answered_there config w.sent r a q x (told_there (Answered r a q x) p)

  pub voted_value : (r : Round) (a : ℕ) (x : History) → Contains (messages es) (InEpoch e (Voted r a x)) → (v : Value) × Among w.sent (P2b r a v) × (v.history ≡ x)
  voted_value r a x p = voted_there config w.sent r a x (told_there (Voted r a x) p)

  pub proposed_by : (v : Value) (h : History) → v.history ≡ h → ((d : Command) → (T config e).has v d ≡ true → Among w.sent (Propose d)) → IsProposed es h
  proposed_by v h q p = subst (λ (k : History). IsProposed es k) q (λ d m. tells (Propose d) (p d m))

  -- ---- votes

  had_back : (a : ℕ) (r : Round) (h : History) → HadVote config es a e r h → (v : Value) × G.votes a r v × (v.history ≡ h)
  had_back a r h p =
      let m = moment config e p.later p.earlier es p.parts legal in
      let like = ((projection config e p.earlier m.legal_then).projects.acceptors a).0 p.epoch_is in
      let t : Acceptor (T config e) = (run (T config e) (list config e p.earlier m.legal_then)).acceptors a in
      let then = vote_then (tables_lawful config some) (list config e es legal) (projection config e es legal).loose_list m.later (list config e p.earlier m.legal_then) m.parts a in (
        t.vote,
        subst (λ (k : Round). G.votes a k t.vote) (sym (ap (λ (s : AcceptorState). s.voted) like.is) ∙ p.round_is) then,
        sym (ap (λ (s : AcceptorState). s.vote) like.is) ∙ p.vote_is,
      )

  pub vote_value : (a : ℕ) (r : Round) (x : History) → IsVote config es a e r x → (v : Value) × G.votes a r v × (v.history ≡ x)
  vote_value a r x p = elim p [
    | inl h ↦ had_back a r x h
    | inr z ↦ (operations.empty, inr (z.0, refl), sym z.1)
  ]

  pub vote_by : (a : ℕ) (r : Round) (v : Value) (x : History) → v.history ≡ x → G.votes a r v → IsVote config es a e r x
  vote_by a r v x q p = elim p [
    | inl c ↦ inl (subst (λ (k : History). HadVote config es a e r k) q ((projection config e es legal).casts a r v c))
    | inr z ↦ inr (z.0, sym q ∙ ap (λ (u : Value). u.history) z.1)
  ]

  pub voted_back : (a : ℕ) (r : Round) (x : History) (is : IsHistory x) → IsVotedFor config es a e r x → Covered (T config e).prefix G.votes a r (record { history = x; valid = is })
  voted_back a r x is c = let u = vote_value a r c.vote c.cast in record { vote = u.0; cast = u.1; above = subst (λ (k : History). IsPrefix x k) (sym u.2) c.below }

  pub chosen_back : (x : History) (is : IsHistory x) (r : Round) → IsChosen config es x e r → core.IsChosen (T config e) G (record { history = x; valid = is }) r
  chosen_back x is r c = record { quorum = c.quorum; enough = c.enough; covered = λ a l q. voted_back a r x is (c.voted a l q) }

  pub chosen_there : (v : Value) (r : Round) → core.IsChosen (T config e) G v r → IsChosen config es v.history e r
  chosen_there v r c = record {
    quorum = c.quorum;
    enough = c.enough;
    voted = λ a l q. let x = c.covered a l q in record { vote = x.vote.history; cast = vote_by a r x.vote x.vote.history refl x.cast; below = x.above };
  }

  -- ---- rounds, and what is safe

  -- what was reached in the list was reached in the run
  pub reached_there : (a : ℕ) (r : Round) → earlier round_zero r ≡ true → (earlier (G.round a) r ≡ true → ⊥) → IsReached (acceptor_at config a es).epoch (acceptor_at config a es).state.round e r
  reached_there a r late h = elim (by_order e (acceptor_at config a es).epoch) [
    | inl less ↦ inl less
    | inr t ↦ elim t [
      | inl q ↦ inr (q, λ b. h (subst (λ (k : Round). earlier k r ≡ true) (ap (λ (s : AcceptorState). s.round) ((pr.acceptors a).0 (sym q)).is) b))
      | inr more ↦ absurd (h (subst (λ (k : Round). earlier k r ≡ true) (sym (ap (λ (t : Acceptor (T config e)). t.round) ((pr.acceptors a).1 more))) late))
    ]
  ]

  past_there : (a : ℕ) (j : Round) → earlier j (G.round a) ≡ true → IsPast config es a e j
  past_there a j b = elim (by_order e (acceptor_at config a es).epoch) [
    | inl less ↦ inl less
    | inr t ↦ elim t [
      | inl q ↦ inr (q, subst (λ (k : Round). earlier j k ≡ true) (sym (ap (λ (s : AcceptorState). s.round) ((pr.acceptors a).0 (sym q)).is)) b)
      | inr more ↦ absurd ((tables_lawful config some).zero_least j (subst (λ (k : Round). earlier j k ≡ true) (ap (λ (t : Acceptor (T config e)). t.round) ((pr.acceptors a).1 more)) b))
    ]
  ]

  choosable_back : (x : History) (is : IsHistory x) (j : Round) → IsChoosable config es x e j → Choosable (T config e).prefix (T config e).acceptors (T config e).quorum G.votes (core.IsPast (T config e) G) (record { history = x; valid = is }) j
  choosable_back x is j c = record { quorum = c.quorum; enough = c.enough; covered = λ a l q past. voted_back a j x is (c.voted a l q (past_there a j past)) }

  pub safe_by : (v : Value) (x : History) → v.history ≡ x → (r : Round) → core.IsSafe (T config e) G v r → IsSafe config es x e r
  safe_by v x q r s j b y is c = subst (λ (k : History). IsPrefix y k) q (s j b (record { history = y; valid = is }) (choosable_back y is j c))
