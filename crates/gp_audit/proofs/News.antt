-- What is new to a learner that takes a message of its epoch: what it came by.
use Rattle.std.proofs.Common.{◌≡◌, inl, inr, ℕ, ◌<◌, true, false, nat_lt, List, [], ◌∷◌, Option, Some, None, refl, sym, ap, subst, ◌∙◌}
use Rattle.std.specs.Prelude.{slice_get}
use Rattle.gp_command.specs.declared.command.Command.{Command}
use Rattle.gp_history.specs.History.{History, IsHistory, has, empty}
use Rattle.gp_history.specs.Bounds.{join, joined}
use Rattle.gp_history.proofs.Bound.{has-join, join_is_history, empty_is_history}
use Rattle.gp_history.proofs.Joins.{empty_none}
use Rattle.gp_history.proofs.Tests.{one_of, right_of}
use Rattle.gp_round.specs.declared.round.Round.{Round}
use Rattle.gp_round.specs.Counts.{Counts}
use Rattle.gp_round.specs.Configs.{quorum_size}
use Rattle.gp_round.specs.Sets.{masks}
use Rattle.gp_epoch.specs.Cut.{first_checkpoint, cut}
use Rattle.gp_epoch.proofs.Cuts.{cut_history, cut_prefix}
use Rattle.gp_safe.specs.Meets.{quorum_meets, all_joined, everyone}
use Rattle.gp_safe.proofs.Meetings.{each_is_a_meet}
use Rattle.gp_msg.specs.declared.node.Node.TheVariants.{Learner}
use Rattle.gp_msg.specs.declared.event.Event.TheVariants.{Take}
use Rattle.gp_msg.specs.Messages.{Voted, Stamped, InEpoch, Final, Entry}
use Rattle.gp_learner.specs.Table.{vote_of, votes_with, learned_with}
use Rattle.gp_learner.specs.Epochs as learner
use Rattle.gp_learner.specs.Epochs.{LearnerInEpoch}
use Rattle.gp_cstructs.specs.CStructs.{Among}
use Rattle.gp_cstructs.proofs.Lists.{among_contains, get_among}
use Rattle.gp_run.specs.Messages.{messages}
use Rattle.gp_run.specs.States.{learner_at}
use Rattle.gp_run.specs.Learned.{base}
use Rattle.gp_run.specs.Legal.{Legal}
use Rattle.gp_agreement.proofs.Agreement.{learned_history}
use Rattle.gp_agreement.proofs.Bases.{base_history}
use Rattle.gp_agreement.proofs.LearnedParts.{finals_are_histories, all_joined as shown_joined}
use Rattle.gp_agreement.proofs.Moments.{part_history}
use Rattle.gp_agreement.proofs.Standing as standing
use Rattle.gp_audit.specs.Noting.{first_with, quorums_then}
use Rattle.gp_audit.specs.Certificates.{HasTaken}
use Rattle.gp_audit.proofs.LearnerSteps.{with_vote, take_is}
use Rattle.gp_audit.proofs.Masked.{some_first, in_joined}
use Rattle.gp_audit.proofs.OwnEvents.{message_stays}
use Rattle.gp_audit.proofs.TakenVotes.{held_taken, then_taken}

joined_history : (u : History) (hs : List History) → IsHistory u → ((h : History) → Among hs h → IsHistory h) → IsHistory (joined u hs)
joined_history u [] w all = w
joined_history u (h ∷ hs) w all = joined_history (join u h) hs (join_is_history u h w (all h (inl refl))) (λ k m. all k (inr m))

-- a command that joins bring to a part is in one of the meets
in_meets : (c : Command) (part : History) (hs : List History) → IsHistory part → ((h : History) → Among hs h → IsHistory h) → (has part c ≡ true → ⊥) → has (learned_with part (all_joined hs)) c ≡ true
    → (h : History) × Among hs h × (has h c ≡ true)
in_meets c part [] w all lacks t = absurd (lacks t)
in_meets c part (h ∷ hs) w all lacks t =
    one_of (has part c) (has (joined empty (h ∷ hs)) c) (sym (has-join part (joined empty (h ∷ hs)) w (joined_history empty (h ∷ hs) empty_is_history all) c) ∙ t)
    (λ x. absurd (lacks x))
    (λ x. elim (in_joined c empty (h ∷ hs) empty_is_history all x) [
      | inl none ↦ absurd (let e = sym (empty_none c) ∙ none in cc)
      | inr some ↦ some
    ])

part_with_history : (part : History) (hs : List History) → IsHistory part → ((h : History) → Among hs h → IsHistory h) → IsHistory (learned_with part (all_joined hs))
part_with_history part [] w all = w
part_with_history part (h ∷ hs) w all = join_is_history part (joined empty (h ∷ hs)) w (joined_history empty (h ∷ hs) empty_is_history all)

module _ (config : Counts) (some : 0 < config.acceptors) (l : ℕ) (x : Entry) (es : List Entry) (legal : Legal config (x ∷ es)) (k : ℕ) (takes : x.event ≡ Take (Learner l) k) where
  abbrev s : LearnerInEpoch
  s = learner_at config l es

  shown : IsHistory s.learned
  shown = learned_history config some es legal.0 l

  part : IsHistory s.state.learned
  part = part_history config s.epoch es legal.0 l refl

  -- what it learned in its epoch it shows
  part_shown : (c : Command) → has s.state.learned c ≡ true → has s.learned c ≡ true
  part_shown c t =
      let b = base (messages es) s.epoch in
      let w = base_history (messages es) (finals_are_histories config es legal.0) s.epoch in
      ap (λ (u : History). has u c) (shown_joined config some es legal.0 l) ∙ has-join b s.state.learned w part c ∙ right_of (has b c) (has s.state.learned c) t

  -- a vote that was taken is a history
  taken_history : (e : ℕ) (r : Round) (a : ℕ) (v : History) → HasTaken config (x ∷ es) l e r a v → IsHistory v
  taken_history e r a v t =
      let there : slice_get (messages (x ∷ es)) t.message ≡ Some (InEpoch e (Voted r a v)) =
      subst (λ (ys : List Entry). slice_get (messages ys) t.message ≡ Some (InEpoch e (Voted r a v))) t.parts
      (message_stays t.later (t.entry ∷ t.earlier) t.message (InEpoch e (Voted r a v)) (message_stays (t.entry ∷ []) t.earlier t.message (InEpoch e (Voted r a v)) t.vote)) in
      let u = standing.voted_value config some (x ∷ es) legal e r a v
      (among_contains (messages (x ∷ es)) (InEpoch e (Voted r a v)) (get_among (messages (x ∷ es)) t.message (InEpoch e (Voted r a v)) there)) in
      subst IsHistory u.2 u.0.valid

  module _ (r : Round) (a : ℕ) (v : History) (found : slice_get (messages es) k ≡ Some (InEpoch s.epoch (Voted r a v))) (known : nat_lt a s.state.config.acceptors ≡ true) where
    abbrev votes : ℕ → Option History
    votes = vote_of (votes_with s.state.votes r a v) r

    abbrev n : ℕ
    n = s.state.config.acceptors

    abbrev ms : List ℕ
    ms = masks n (quorum_size n r.mode)

    votes_are : (i : ℕ) (w : History) → votes i ≡ Some w → IsHistory w
    votes_are i w h = taken_history s.epoch r i w (then_taken config l x es (held_taken config l es) k takes r a v found r i w h)

    meets_are : (h : History) → Among (quorum_meets votes everyone n ms) h → IsHistory h
    meets_are h m = (each_is_a_meet votes votes_are everyone n ms h (among_contains (quorum_meets votes everyone n ms) h m)).meet.history

    abbrev now : History
    now = (with_vote s r a v known).learned

    -- a command that is new is in the part that the vote makes
    in_part : (c : Command) → has s.learned c ≡ false → (o : Option Command) → has (learner.learning (learner.with_state s (with_vote s r a v known)) o).0.learned c ≡ true → has now c ≡ true
    in_part c lacks None t =
        one_of (has s.learned c) (has now c) (sym (has-join s.learned now shown (part_with_history s.state.learned (quorum_meets votes everyone n ms) part meets_are) c) ∙ t)
        (λ old. absurd (let e = sym old ∙ lacks in cc)) (λ new. new)
    in_part c lacks (Some z) t =
        let w = part_with_history s.state.learned (quorum_meets votes everyone n ms) part meets_are in
        one_of (has s.learned c) (has (cut now) c) (sym (has-join s.learned (cut now) shown (cut_history now w) c) ∙ t)
        (λ old. absurd (let e = sym old ∙ lacks in cc)) (λ new. (cut_prefix now w).commands c new)

    -- and in the meet of a quorum that is whole with the vote
    pub vote_news : (c : Command) → has s.learned c ≡ false → has (learner.take s (InEpoch s.epoch (Voted r a v))).0.learned c ≡ true → (mask : ℕ) × (first_with (quorums_then s r a v) c ≡ Some mask)
    vote_news c lacks t =
        let new = in_part c lacks (first_checkpoint now) (sym (ap (λ (p : LearnerInEpoch × Option Stamped). has p.0.learned c) (take_is s r a v known)) ∙ t) in
        let h = in_meets c s.state.learned (quorum_meets votes everyone n ms) part meets_are (λ old. let e = sym (part_shown c old) ∙ lacks in absurd (cc)) new in
        some_first votes n c ms h.0 h.1 h.2

  -- a command that is new with a Final is in its value
  pub final_news : (i : ℕ) (v : History) → slice_get (messages es) k ≡ Some (Final s.epoch i v) → (c : Command) → has s.learned c ≡ false → has (learner.passed s v).learned c ≡ true → has v c ≡ true
  final_news i v found c lacks t =
      let w = finals_are_histories config es legal.0 s.epoch i v (get_among (messages es) k (Final s.epoch i v) found) in
      one_of (has s.learned c) (has v c) (sym (has-join s.learned v shown w c) ∙ t) (λ old. absurd (let e = sym old ∙ lacks in cc)) (λ new. new)
