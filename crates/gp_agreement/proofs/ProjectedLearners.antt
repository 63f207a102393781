-- The steps of a learner, in one epoch.
use Rattle.std.proofs.Common.{◌≡◌, ℕ, suc, Bool, true, false, cond, ◌&&◌, nat_eq, nat_lt, List, [], ◌∷◌, ◌++◌, Option, Some, None, refl, sym, subst, ap, ◌∙◌, inl, inr, arith}
use Rattle.std.specs.Option.{option_to_list}
use Rattle.std.proofs.lemmas.Bool.{eq-eqb, eqb-true, ne_eqb}
use Rattle.gp_command.specs.declared.command.Command.{Command}
use Rattle.gp_history.specs.History.{History}
use Rattle.gp_history.proofs.Tests.{fst_of}
use Rattle.gp_round.specs.declared.round.Round.{Round}
use Rattle.gp_round.specs.Counts.{Counts}
use Rattle.gp_msg.specs.declared.node.Node.TheVariants.{Learner}
use Rattle.gp_msg.specs.Messages.{Message, Proposed, Asked, Answered, Sent, Voted, Stamped, Offered, InEpoch, Final, Entry}
use Rattle.gp_learner.specs.State.{LearnerState}
use Rattle.gp_learner.specs.Table as table
use Rattle.gp_msg.specs.Nodes.{node_of}
use Rattle.gp_run.specs.Learned.{Vote, votes_heard, taken_at, votes_after}
use Rattle.gp_cstructs.specs.CStructs.{Among}
use Rattle.gp_cstructs.specs.Learner as core
use Rattle.gp_cstructs.specs.Loose.{System, Event, LearnerTakes, LearnerFalls, run, Loose}
use Rattle.gp_cstructs.specs.LooseAgreement.{shown}
use Rattle.gp_cstructs.proofs.Lists.{cond_cases, nat_cases, set_same}
use Rattle.gp_agreement.proofs.Told.{told}
use Rattle.gp_agreement.proofs.Learners as learners
use Rattle.gp_agreement.proofs.Learners.{votes_taken}
use Rattle.gp_epoch.specs.Cut.{first_checkpoint, HasCheckpoint, cut}
use Rattle.gp_learner.specs.Epochs.{LearnerInEpoch, with_state, learning, hearing, passed, take, fall}
use Rattle.gp_run.specs.Messages.{messages}
use Rattle.gp_run.specs.States.{learner_at}
use Rattle.gp_agreement.proofs.Steps.{learner_own}
use Rattle.gp_agreement.proofs.Projection.{T, M, IsLikeWith, LearnerAlike, Projects, IsClosing, AllForeign, none_foreign, final_foreign, learner_moved, learner_stays}
use Rattle.gp_agreement.proofs.Identities.{at_same}

next_epoch : {X : Type 0} (n : ℕ) (x y : X) → cond (nat_eq n (suc n)) x y ≡ y
next_epoch n x y = ap (λ (b : Bool). cond b x y) (ne_eqb n (suc n) (λ q. omega (arith, q)))

both_false : {X : Type 0} (a b : Bool) (x y : X) → (a && b) ≡ false → cond a (cond b x y) y ≡ y
both_false true b x y h = ap (λ (t : Bool). cond t x y) h
both_false false b x y h = refl

module _ (config : Counts) (e : ℕ) (es : List Entry) (fs : List (Event (T config e))) (f : Loose (T config e) fs) (pr : Projects config e es (run (T config e) fs)) (l : ℕ) where
  abbrev w : System (T config e)
  w = run (T config e) fs

  abbrev s : LearnerInEpoch
  s = learner_at config l es

  abbrev votes : List Vote
  votes = taken_at config l es

  -- the list goes on as the learner does p and has taken these votes then
  abbrev pub LearnerNext : LearnerInEpoch × Option Stamped → List Vote → Type 0
  LearnerNext p vs = (g : List (Event (T config e))) × Loose (T config e) (g ++ fs) × ((run (T config e) (g ++ fs)).cast ≡ w.cast) × ((j : ℕ) (v : History) → Among (option_to_list p.1) (Final e j v) → IsClosing config e (g ++ fs) v)
      × ((x : Entry) → node_of x.event ≡ Learner l → learner_at config l (x ∷ es) ≡ p.0 → taken_at config l (x ∷ es) ≡ vs → x.sent ≡ option_to_list p.1 → Projects config e (x ∷ es) (run (T config e) (g ++ fs)))

  -- it sends no Final of e
  abbrev ClosesNot : Option Stamped → Type 0
  ClosesNot o = (j : ℕ) (v : History) → Among (option_to_list o) (Final e j v) → ⊥

  none_closes : ClosesNot None
  none_closes j v p = elim p [ ]

  stays : (p : LearnerInEpoch × Option Stamped) (vs : List Vote) → AllForeign config e (option_to_list p.1) → ClosesNot p.1 → LearnerAlike config e l p.0 vs (w.learners l) → LearnerNext p vs
  stays p vs foreign not_closed like = ([], f, refl, (λ j v m. absurd (not_closed j v m)), λ x at is took own. learner_stays config e es w pr l p vs foreign x at is took own like)

  idle : (vs : List Vote) → vs ≡ votes → LearnerNext (s, None) vs
  idle vs q = subst (λ (us : List Vote). LearnerNext (s, None) us) (sym q) (stays (s, None) votes (none_foreign config e) none_closes (pr.learners l))

  moves : (p : LearnerInEpoch × Option Stamped) (vs : List Vote) → AllForeign config e (option_to_list p.1) → (y : M config e) → Among w.sent y
      → ((j : ℕ) (v : History) → Among (option_to_list p.1) (Final e j v) → IsClosing config e (LearnerTakes l y ∷ fs) v) → LearnerAlike config e l p.0 vs (core.learner_take (T config e) (w.learners l) y) → LearnerNext p vs
  moves p vs foreign y there closes like = (LearnerTakes l y ∷ [], (f, there), refl, closes, λ x at is took own. learner_moved config e es w pr l p vs foreign x at is took own (core.learner_take (T config e) (w.learners l) y) like)

  -- ---- it enters the next epoch

  opening_like : IsLikeWith config e l (table.opening s.state.config s.state.number, []) (core.learner_opening (T config e))
  opening_like =
      let k = learner_own config l es in
      record {
        like = subst (λ (u : LearnerState). learners.IsLike config l u (core.learner_opening (T config e))) (λ j. table.opening (sym k.own_config j) (sym k.own_number j)) (learners.like_opening config l);
        taken = refl;
      }

  passed_alike : (v : History) → LearnerAlike config e l (passed s v) [] (w.learners l)
  passed_alike v = (
    (λ z. subst (λ (t : core.Learner (T config e)). IsLikeWith config e l (table.opening s.state.config s.state.number, []) t) (sym ((pr.learners l).1 (omega (arith, z)))) opening_like),
    (λ z. (pr.learners l).1 (omega (arith, z))),
  )

  -- ---- votes

  module _ (i : ℕ) (r : Round) (a : ℕ) (v : History) (there : Among (messages es) (InEpoch i (Voted r a v))) where
    abbrev now : LearnerState
    now = table.learner_take s.state (Voted r a v)

    abbrev NextBy : LearnerInEpoch × Option Stamped → Type 0
    NextBy p = LearnerNext p (cond (nat_eq s.epoch p.0.epoch) (votes_after config s.epoch votes (InEpoch i (Voted r a v))) [])

    by_votes : (p : LearnerInEpoch × Option Stamped) (vs : List Vote) → cond (nat_eq s.epoch p.0.epoch) (votes_after config s.epoch votes (InEpoch i (Voted r a v))) [] ≡ vs → LearnerNext p vs → NextBy p
    by_votes p vs q n = subst (λ (us : List Vote). LearnerNext p us) (sym q) n

    -- the state is that of the list after the same vote
    home_like : s.epoch ≡ e → (y : M config e) → told config y ≡ Voted r a v → IsLikeWith config e l (now, votes_heard config votes (Voted r a v)) (core.learner_take (T config e) (w.learners l) y)
    home_like q y is =
        let k = (pr.learners l).0 q in
        record {
          like = subst (λ (m : Message). learners.IsLike config l (table.learner_take s.state m) (core.learner_take (T config e) (w.learners l) y)) is (learners.take_like config l s.state (w.learners l) k.like y);
          taken = subst (λ (m : Message). votes_heard config votes m ≡ votes_taken (core.learner_take (T config e) (w.learners l) y).taken) is
              (ap (λ (us : List Vote). votes_heard config us (told config y)) k.taken ∙ learners.taken_same config l (w.learners l) y);
        }

    -- what is learned in the list then
    pub now_learned : s.epoch ≡ e → (y : M config e) → told config y ≡ Voted r a v → now.learned ≡ (core.learner_take (T config e) (w.learners l) y).learned.history
    now_learned q y is = ap (λ (u : LearnerState). u.learned) (home_like q y is).like.is

    one_final : (n j k : ℕ) (u v : History) → Among (Final n j u ∷ []) (Final e k v) → (n ≡ e) × (u ≡ v)
    one_final n j k u v m = elim m [ inl q ↦ ((let x : n ≡ e = cc in x), (let x : u ≡ v = cc in x)) | inr z ↦ elim z [ ] ]

    learns : i ≡ s.epoch → (o : Option Command) → first_checkpoint now.learned ≡ o → NextBy (learning (with_state s now) o)
    learns at_once None no_mark =
        let vs : List Vote = votes_heard config votes (Voted r a v) in
        by_votes (learning (with_state s now) None) vs (at_same s.epoch _ _ ∙ ap (λ (b : Bool). cond b vs votes) (eq-eqb i s.epoch at_once)) (elim (nat_cases s.epoch e) [
          | inl q ↦
              let t = pr.sent (InEpoch i (Voted r a v)) there (Voted r a v) (at_once ∙ q, refl) in
              moves (learning (with_state s now) None) vs (none_foreign config e) t.0 t.1 (λ j u m. elim m [ ]) ((λ z. home_like q t.0 t.2), (λ z. absurd (omega (arith, q, z))))
          | inr d ↦ stays (learning (with_state s now) None) vs (none_foreign config e) none_closes ((λ z. absurd (d z)), (pr.learners l).1)
        ])
    learns at_once (Some z) mark =
        by_votes (learning (with_state s now) (Some z)) [] (next_epoch s.epoch _ _) (elim (nat_cases s.epoch e) [
          | inl q ↦
              let t = pr.sent (InEpoch i (Voted r a v)) there (Voted r a v) (at_once ∙ q, refl) in
              moves (learning (with_state s now) (Some z)) [] (final_foreign config e s.epoch now.number (cut now.learned)) t.0 t.1 (closes_now q t.0 t.2) ((λ h. absurd (omega (arith, q, h))), (λ h. absurd (omega (arith, q, h))))
          | inr d ↦ stays (learning (with_state s now) (Some z)) [] (final_foreign config e s.epoch now.number (cut now.learned)) (not_closed d) (
            (λ h. subst (λ (t : core.Learner (T config e)). IsLikeWith config e l (table.opening now.config now.number, []) t) (sym ((pr.learners l).1 (omega (arith, h)))) opened),
            (λ h. (pr.learners l).1 (omega (arith, h))),
          )
        ])
      where
        closes_now : s.epoch ≡ e → (y : M config e) → told config y ≡ Voted r a v → (j : ℕ) (u : History) → Among (Final s.epoch now.number (cut now.learned) ∷ []) (Final e j u) → IsClosing config e (LearnerTakes l y ∷ fs) u
        closes_now q y is j u m =
            let k = one_final s.epoch now.number j (cut now.learned) u m in
            let at : now.learned ≡ (shown (T config e) (LearnerTakes l y ∷ fs) l).history = now_learned q y is ∙ ap (λ (t : core.Learner (T config e)). t.learned.history) (sym (set_same w.learners l (core.learner_take (T config e) (w.learners l) y))) in
            record {
              later = [];
              before = LearnerTakes l y ∷ fs;
              parts = refl;
              learner = l;
              closed = subst HasCheckpoint at (z, mark);
              value = sym k.1 ∙ ap cut at;
            }

        not_closed : (s.epoch ≡ e → ⊥) → ClosesNot (Some (Final s.epoch now.number (cut now.learned)))
        not_closed d j u m = d (one_final s.epoch now.number j (cut now.learned) u m).0

        same_config : (now.config ≡ s.state.config) × (now.number ≡ s.state.number)
        same_config = cond_cases (λ (u : LearnerState). (u.config ≡ s.state.config) × (u.number ≡ s.state.number)) (nat_lt a s.state.config.acceptors) _ _ (λ b. (refl, refl)) (λ b. (refl, refl))

        opened : IsLikeWith config e l (table.opening now.config now.number, []) (core.learner_opening (T config e))
        opened = subst (λ (u : LearnerState). IsLikeWith config e l (u, []) (core.learner_opening (T config e))) (λ j. table.opening (sym same_config.0 j) (sym same_config.1 j)) opening_like

    hears : NextBy (take s (InEpoch i (Voted r a v)))
    hears = cond_cases NextBy (nat_eq i s.epoch && nat_lt a s.state.config.acceptors) (hearing s now) (s, None)
        (λ b. learns (eqb-true i s.epoch (fst_of (nat_eq i s.epoch) _ b)) (first_checkpoint now.learned) refl)
        (λ b. idle _ (at_same s.epoch _ _ ∙ both_false (nat_eq i s.epoch) (nat_lt a config.acceptors) (record { round = r; acceptor = a; value = v } ∷ votes) votes
        ((λ j. nat_eq i s.epoch && nat_lt a (sym (learner_own config l es).own_config j).acceptors) ∙ b)))

  -- ---- all messages

  abbrev pub votes_now : Stamped → List Vote
  votes_now n = cond (nat_eq s.epoch (take s n).0.epoch) (votes_after config s.epoch votes n) []

  either : {X : Type 0} (b : Bool) (x : X) → cond b x x ≡ x
  either true x = refl
  either false x = refl

  pub takes : (n : Stamped) → Among (messages es) n → LearnerNext (take s n) (votes_now n)
  takes (Offered c) p = idle _ (at_same s.epoch votes [])
  takes (InEpoch i (Proposed c)) p = idle _ (at_same s.epoch (votes_after config s.epoch votes (InEpoch i (Proposed c))) [] ∙ either (nat_eq i s.epoch) votes)
  takes (InEpoch i (Asked r)) p = idle _ (at_same s.epoch (votes_after config s.epoch votes (InEpoch i (Asked r))) [] ∙ either (nat_eq i s.epoch) votes)
  takes (InEpoch i (Answered r a q v)) p = idle _ (at_same s.epoch (votes_after config s.epoch votes (InEpoch i (Answered r a q v))) [] ∙ either (nat_eq i s.epoch) votes)
  takes (InEpoch i (Sent r c v)) p = idle _ (at_same s.epoch (votes_after config s.epoch votes (InEpoch i (Sent r c v))) [] ∙ either (nat_eq i s.epoch) votes)
  takes (InEpoch i (Voted r a v)) p = hears i r a v p
  takes (Final i j v) p = cond_cases (λ (u : LearnerInEpoch). LearnerNext (u, None) (cond (nat_eq s.epoch u.epoch) votes [])) (nat_eq i s.epoch) (passed s v) s
      (λ b. subst (λ (us : List Vote). LearnerNext (passed s v, None) us) (sym (next_epoch s.epoch votes [])) (stays (passed s v, None) [] (none_foreign config e) none_closes (passed_alike v)))
      (λ b. idle _ (at_same s.epoch votes []))

  -- ---- falls

  pub falls : LearnerNext (fall s, None) []
  falls = (
    LearnerFalls l ∷ [],
    (f, tt),
    refl,
    (λ j v m. elim m [ ]),
    λ x at is took own. learner_moved config e es w pr l (fall s, None) [] (none_foreign config e) x at is took own (core.learner_opening (T config e)) ((λ z. opening_like), (λ z. refl)),
  )
