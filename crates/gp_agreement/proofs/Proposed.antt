-- Each command that a learner shows, and of each value that closes an epoch, was proposed.
use Rattle.std.proofs.Common.{◌≡◌, ◌<◌, ℕ, zero, suc, true, List, [], ◌∷◌, ◌++◌, Option, Some, None, refl, sym, subst, ◌∙◌, inr}
use Rattle.gp_command.specs.declared.command.Command.{Command}
use Rattle.gp_history.specs.History.{History, has, empty}
use Rattle.gp_history.proofs.Tests.{one_of, never}
use Rattle.gp_history.proofs.Joins.{empty_none}
use Rattle.gp_history.proofs.Bound.{has-join}
use Rattle.gp_round.specs.Counts.{Counts}
use Rattle.gp_cstructs.specs.CStructs.{Among}
use Rattle.gp_cstructs.specs.Tables.{Tables, Message, Propose}
use Rattle.gp_cstructs.specs.Acceptor.{acceptor_take}
use Rattle.gp_cstructs.specs.Coordinator.{coordinator_begin, coordinator_take}
use Rattle.gp_cstructs.specs.Loose.{Event, Offer, Begin, AcceptorTakes, CoordinatorTakes, LearnerTakes, AcceptorFalls, CoordinatorFalls, LearnerFalls, System, happens, run, Loose}
use Rattle.gp_cstructs.specs.LooseAgreement.{shown}
use Rattle.gp_cstructs.proofs.Moves.{sent_before}
use Rattle.gp_cstructs.proofs.Runs.{loose_rest}
use Rattle.gp_cstructs.proofs.OfferedCommands.{run_offers}
use Rattle.gp_agreement.specs.Values.{Value}
use Rattle.gp_agreement.proofs.Bundle.{tables_keep_commands}
use Rattle.gp_epoch.proofs.Cuts.{cut_prefix}
use Rattle.gp_msg.specs.Messages.{Offered, Final, Entry}
use Rattle.gp_run.specs.Messages.{messages}
use Rattle.gp_run.specs.States.{learner_at}
use Rattle.gp_run.specs.Legal.{Legal}
use Rattle.gp_run.specs.Learned.{first_final, joined_with, base}
use Rattle.gp_agreement.proofs.Bases.{first_there, base_history}
use Rattle.gp_agreement.proofs.Projection.{T}
use Rattle.gp_agreement.proofs.Projected.{projection}
use Rattle.gp_agreement.proofs.Moments.{list, part_is, part_history}
use Rattle.gp_agreement.proofs.LearnedParts.{finals_are_histories, all_joined}

-- messages of a list stay when it goes on
said_on : {T : Tables} (w : System T) (e : Event T) (x : Message T) → Among w.sent x → Among (happens T w e).sent x
said_on w (Offer q d) x p = inr p
said_on {T} w (Begin c r) x p = sent_before (coordinator_begin T (w.coordinators c) r).1 w.sent x p
said_on {T} w (AcceptorTakes a m) x p = sent_before (acceptor_take T a (w.acceptors a) m).1 w.sent x p
said_on {T} w (CoordinatorTakes c m cs) x p = sent_before (coordinator_take T c (w.coordinators c) m cs).1 w.sent x p
said_on w (LearnerTakes i m) x p = p
said_on w (AcceptorFalls a kept) x p = p
said_on w (CoordinatorFalls c kept) x p = p
said_on w (LearnerFalls i) x p = p

pub said_since : {T : Tables} (xs ys : List (Event T)) (x : Message T) → Among (run T ys).sent x → Among (run T (xs ++ ys)).sent x
said_since [] ys x p = p
said_since {T} (e ∷ xs) ys x p = said_on (run T (xs ++ ys)) e x (said_since xs ys x p)

module _ (config : Counts) (es : List Entry) (legal : Legal config es) where
  -- a value of the list of an epoch that a learner had at some moment
  shown_proposed : (e : ℕ) (later before : List (Event (T config e))) → later ++ before ≡ list config e es legal → (l : ℕ) (c : Command) → has (shown (T config e) before l).history c ≡ true → Among (messages es) (Offered c)
  shown_proposed e later before parts l c p =
      let q = projection config e es legal in
      let loose_before : Loose (T config e) before = loose_rest later before (subst (λ (fs : List (Event (T config e))). Loose (T config e) fs) (sym parts) q.loose_list) in
      let there = (run_offers (tables_keep_commands config) before loose_before).learned l c p in
      q.projects.back (Propose c) (subst (λ (fs : List (Event (T config e))). Among (run (T config e) fs).sent (Propose c)) parts (said_since later before (Propose c) there))

  pub final_proposed : (e l : ℕ) (v : History) → Among (messages es) (Final e l v) → (c : Command) → has v c ≡ true → Among (messages es) (Offered c)
  final_proposed e l v p c h =
      let k = (projection config e es legal).finals l v p in
      let u : Value = shown (T config e) k.before k.learner in
      shown_proposed e k.later k.before k.parts k.learner c ((cut_prefix u.history u.valid).commands c (subst (λ (w : History). has w c ≡ true) k.value h))

  pub part_proposed : (l : ℕ) (c : Command) → has (learner_at config l es).state.learned c ≡ true → Among (messages es) (Offered c)
  part_proposed l c h =
      let e : ℕ = (learner_at config l es).epoch in
      shown_proposed e [] (list config e es legal) refl l c (subst (λ (w : History). has w c ≡ true) (sym (part_is config e es legal l refl)) h)

  joined_proposed : (n : ℕ) (o : Option History) → first_final n (messages es) ≡ o → ((c : Command) → has (base (messages es) n) c ≡ true → Among (messages es) (Offered c))
      → (c : Command) → has (joined_with (base (messages es) n) o) c ≡ true → Among (messages es) (Offered c)
  joined_proposed n None q below c g = below c g
  joined_proposed n (Some v) q below c g =
      let t = first_there n (messages es) v q in
      let w = finals_are_histories config es legal n t.0 v t.1 in
      one_of (has (base (messages es) n) c) (has v c) (sym (has-join (base (messages es) n) v (base_history (messages es) (finals_are_histories config es legal) n) w c) ∙ g)
      (below c) (final_proposed n t.0 v t.1 c)

  base_proposed : (n : ℕ) (c : Command) → has (base (messages es) n) c ≡ true → Among (messages es) (Offered c)
  base_proposed zero c h = never (has empty c) h (empty_none c)
  base_proposed (suc n) c h = joined_proposed n (first_final n (messages es)) refl (base_proposed n) c h

  pub learned_proposed : 0 < config.acceptors → (l : ℕ) (c : Command) → has (learner_at config l es).learned c ≡ true → Among (messages es) (Offered c)
  learned_proposed some l c h =
      let e : ℕ = (learner_at config l es).epoch in
      let b : History = base (messages es) e in
      one_of (has b c) (has (learner_at config l es).state.learned c)
      (sym (has-join b (learner_at config l es).state.learned (base_history (messages es) (finals_are_histories config es legal) e) (part_history config e es legal l refl) c)
      ∙ subst (λ (w : History). has w c ≡ true) (all_joined config some es legal l) h)
      (base_proposed e c) (part_proposed l c)
