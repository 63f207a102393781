-- A legal run at each of its moments, in each epoch.
use Rattle.std.proofs.Common.{◌≡◌, ◌<◌, ℕ, List, ◌++◌, sym, subst, ap, ◌∙◌}
use Rattle.gp_history.specs.History.{History, IsHistory, IsPrefix}
use Rattle.gp_history.specs.Bounds.{IsCompatible}
use Rattle.gp_round.specs.Counts.{Counts}
use Rattle.gp_learner.specs.State.{LearnerState}
use Rattle.gp_cstructs.specs.CStructs.{Among}
use Rattle.gp_cstructs.specs.Loose.{Event}
use Rattle.gp_cstructs.specs.LooseAgreement.{shown, AgreesLoosely}
use Rattle.gp_cstructs.proofs.Runs.{agrees}
use Rattle.gp_agreement.specs.Values.{Value}
use Rattle.gp_agreement.proofs.ValueLaws.{test_of}
use Rattle.gp_agreement.proofs.Bundle.{tables_lawful}
use Rattle.gp_epoch.specs.Cut.{HasNoCheckpoint}
use Rattle.gp_epoch.proofs.Cuts.{cut_history, equal_cuts, below_other_cut}
use Rattle.gp_msg.specs.Messages.{Final, Entry}
use Rattle.gp_run.specs.Messages.{messages}
use Rattle.gp_run.specs.States.{learner_at}
use Rattle.gp_run.specs.Legal.{Legal}
use Rattle.gp_agreement.proofs.Projection.{T, IsClosing}
use Rattle.gp_agreement.proofs.Projected.{projection, legal_rest, grown}

module _ (config : Counts) (e : ℕ) where
  abbrev pub list : (es : List Entry) → Legal config es → List (Event (T config e))
  list es legal = (projection config e es legal).events

  -- a run that was so once: its list is the beginning of that of the whole run
  pub record Moment (ys es : List Entry) (legal : Legal config es) : Type 0 where
    pub legal_then : Legal config ys
    pub later : List (Event (T config e))
    pub parts : later ++ list ys legal_then ≡ list es legal

  at_part : (xs ys : List Entry) (legal : Legal config (xs ++ ys)) → Moment ys (xs ++ ys) legal
  at_part xs ys legal = let g = grown config e xs ys legal in record { legal_then = legal_rest config e xs ys legal; later = g.later; parts = g.parts }

  pub moment : (xs ys es : List Entry) → xs ++ ys ≡ es → (legal : Legal config es) → Moment ys es legal
  moment xs ys es q = subst (λ (zs : List Entry). (legal : Legal config zs) → Moment ys zs legal) q (at_part xs ys)

  -- ---- what a learner learned in the epoch

  -- the part that learner l learned
  abbrev pub part_at : (ys : List Entry) → Legal config ys → ℕ → Value
  part_at ys legal l = shown (T config e) (list ys legal) l

  pub part_is : (ys : List Entry) (legal : Legal config ys) (l : ℕ) → (learner_at config l ys).epoch ≡ e → (part_at ys legal l).history ≡ (learner_at config l ys).state.learned
  part_is ys legal l q = sym (ap (λ (s : LearnerState). s.learned) (((projection config e ys legal).projects.learners l).0 q).like.is)

  pub part_history : (ys : List Entry) (legal : Legal config ys) (l : ℕ) → (learner_at config l ys).epoch ≡ e → IsHistory (learner_at config l ys).state.learned
  part_history ys legal l q = subst IsHistory (part_is ys legal l q) (part_at ys legal l).valid

  -- ---- Final messages

  pub closing_history : (fs : List (Event (T config e))) (v : History) → IsClosing config e fs v → IsHistory v
  closing_history fs v k = subst IsHistory (sym k.value) (cut_history (shown (T config e) k.before k.learner).history (shown (T config e) k.before k.learner).valid)

  pub final_history : (es : List Entry) (legal : Legal config es) (l : ℕ) (v : History) → Among (messages es) (Final e l v) → IsHistory v
  final_history es legal l v p = closing_history (list es legal) v ((projection config e es legal).finals l v p)

  module _ (some : 0 < config.acceptors) (es : List Entry) (legal : Legal config es) where
    pub whole : AgreesLoosely (T config e) (list es legal)
    whole = agrees (tables_lawful config some) (list es legal) (projection config e es legal).loose_list

    -- two that learned in the epoch at any moments learned what is compatible
    pub parts_compatible : (xs ys us vs : List Entry) → xs ++ ys ≡ es → us ++ vs ≡ es → (l i : ℕ) → (learner_at config l ys).epoch ≡ e → (learner_at config i vs).epoch ≡ e
        → IsCompatible (learner_at config l ys).state.learned (learner_at config i vs).state.learned
    parts_compatible xs ys us vs p q l i m n =
        let a = moment xs ys es p legal in
        let b = moment us vs es q legal in
        subst (λ (h : History). IsCompatible h (learner_at config i vs).state.learned) (part_is ys a.legal_then l m)
        (subst (λ (h : History). IsCompatible (part_at ys a.legal_then l).history h) (part_is vs b.legal_then i n)
        (test_of (part_at ys a.legal_then l) (part_at vs b.legal_then i) (whole.compatible a.later (list ys a.legal_then) b.later (list vs b.legal_then) a.parts b.parts l i)))

    -- all Final messages of the epoch carry one value
    pub one_final : (l i : ℕ) (v u : History) → Among (messages es) (Final e l v) → Among (messages es) (Final e i u) → v ≡ u
    one_final l i v u p q =
        let a = (projection config e es legal).finals l v p in
        let b = (projection config e es legal).finals i u q in
        let x : Value = shown (T config e) a.before a.learner in
        let y : Value = shown (T config e) b.before b.learner in
        a.value ∙ equal_cuts x.history y.history x.valid y.valid (test_of x y (whole.compatible a.later a.before b.later b.before a.parts b.parts a.learner b.learner)) a.closed b.closed ∙ sym b.value

    -- a part with no checkpoint is below the value that closes the epoch
    pub part_below : (xs ys : List Entry) → xs ++ ys ≡ es → (l : ℕ) → (learner_at config l ys).epoch ≡ e → HasNoCheckpoint (learner_at config l ys).state.learned
        → (i : ℕ) (v : History) → Among (messages es) (Final e i v) → IsPrefix (learner_at config l ys).state.learned v
    part_below xs ys p l m none i v q =
        let a = moment xs ys es p legal in
        let b = (projection config e es legal).finals i v q in
        let x : Value = part_at ys a.legal_then l in
        let y : Value = shown (T config e) b.before b.learner in
        let is = part_is ys a.legal_then l m in
        subst (λ (h : History). IsPrefix h v) is
        (subst (λ (h : History). IsPrefix x.history h) (sym b.value)
        (below_other_cut x.history y.history x.valid y.valid (test_of x y (whole.compatible a.later (list ys a.legal_then) b.later b.before a.parts b.parts l b.learner))
        (subst HasNoCheckpoint (sym is) none) b.closed))
