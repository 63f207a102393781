-- One draft is driven to all learners.
use Rattle.std.proofs.Common.{◌≡◌, ℕ, zero, suc, ◌+◌, ◌*◌, ◌<◌, ◌≤◌, ◌≢◌, Bool, true, false, cond, ◌||◌, List, [], ◌∷◌, ◌++◌, length, Some, None, refl, sym, ap, ◌∙◌, subst, arith, append_assoc}
use Rattle.std.specs.Prelude.{Option, nat_lt}
use Rattle.std.specs.Option.{option_to_list}
use native.Mathlib.Numerals.{add-one}
use Rattle.std.specs.List.{list_any}
use Rattle.std.proofs.lemmas.Bool.{le-ltb, ltb-true, ltb-false}
use Rattle.gp_command.specs.declared.command.Command.{Command}
use Rattle.gp_command.specs.declared.draft.Draft.{Draft}
use Rattle.gp_command.specs.Conflict.{same}
use Rattle.gp_command.proofs.ConflictLemmas.{same-true}
use Rattle.gp_history.specs.History.{History, IsHistory, has}
use Rattle.gp_history.specs.Sequence.{history_of, no_repeat}
use Rattle.gp_history.proofs.Tests.{any-append, one_of, never, not_true}
use Rattle.gp_history.proofs.Sets.{has_history_of}
use Rattle.gp_history.proofs.Joins.{history_of_is}
use Rattle.gp_round.specs.Counts.{Counts}
use Rattle.gp_safe.specs.Choice.{Reply}
use Rattle.gp_safe.specs.Held.{newer}
use Rattle.gp_msg.specs.Messages.{Sent, Stamped, Offered, InEpoch, Entry}
use Rattle.gp_msg.specs.declared.node.Node.TheVariants.{Coordinator}
use Rattle.gp_msg.specs.declared.event.Event.TheVariants.{Offer}
use Rattle.gp_proposer.specs.State.{ProposerState}
use Rattle.gp_coordinator.specs.Table.{pending_with}
use Rattle.gp_learner.specs.Table.{vote_of}
use Rattle.gp_epoch.specs.Cut.{first_checkpoint}
use Rattle.gp_epoch.proofs.Checkpoints.{found_is_first}
use Rattle.gp_msg.specs.declared.message.MsgKind.TheVariants as Kind
use Rattle.gp_run.specs.Messages.{messages}
use Rattle.gp_run.specs.Legal.{Legal}
use Rattle.gp_run.specs.Runs.{entry_after, AreOfOthers}
use Rattle.gp_run.specs.States.{proposer_at, proposer_acts, coordinator_at, acceptor_at, learner_at}
use Rattle.gp_coordinator.specs.Epochs.{CoordinatorInEpoch}
use Rattle.gp_coordinator.specs.Epochs as coordinator
use Rattle.gp_acceptor.specs.Epochs.{AcceptorInEpoch}
use Rattle.gp_acceptor.specs.Epochs as acceptor
use Rattle.gp_driver.specs.Sweeps.{places, sweep}
use Rattle.gp_driver.specs.Driving.{first_round, driven}
use Rattle.gp_driver.specs.Driven.{command, beginnings}
use Rattle.gp_driver.proofs.Sweeping.{run}
use Rattle.gp_driver.proofs.Roles.{CoordinatorsTook, coordinators_take}
use Rattle.gp_driver.proofs.Hearing.{FitsBefore}
use Rattle.gp_driver.proofs.Passing.{picks_new}
use Rattle.gp_driver.proofs.Leading.{Extends, extends, leading, pushes_proposal}
use Rattle.gp_driver.proofs.MultiVotes.{voter, votes_longer}
use Rattle.gp_driver.proofs.MultiHearing.{proposer_while_swept, beginnings_while_swept, others_while_swept, two_sent, AreVoted, are_voted}

-- a coordinator leads with this value
pub record Leads (config : Counts) (i : ℕ) (h : History) (s : CoordinatorInEpoch) : Type 0 where
  pub answers : List (Option Reply)
  pub pending : List Command
  pub is : s ≡ leading config i answers pending h

-- n drafts were offered, whose commands every acceptor voted for and every learner shows
pub record Drives (acceptors learners n : ℕ) (cs : List Command) (es : List Entry) : Type 0 where
  pub legal : Legal (record { acceptors = acceptors; coordinators = 3; learners = learners }) es
  pub proposer : proposer_at 0 es ≡ record { number = 0; offers = n }
  pub leaders : (i : ℕ) → i < 2 → Leads (record { acceptors = acceptors; coordinators = 3; learners = learners }) i (history_of cs) (coordinator_at (record { acceptors = acceptors; coordinators = 3; learners = learners }) i es)
  pub votes : (a : ℕ) → a < acceptors → acceptor_at (record { acceptors = acceptors; coordinators = 3; learners = learners }) a es ≡ voter (record { acceptors = acceptors; coordinators = 3; learners = learners }) a (history_of cs)
  pub epochs : (l : ℕ) → l < learners → (learner_at (record { acceptors = acceptors; coordinators = 3; learners = learners }) l es).epoch ≡ 0
  pub given : (l : ℕ) → l < learners → (i : ℕ) → i < acceptors → vote_of (learner_at (record { acceptors = acceptors; coordinators = 3; learners = learners }) l es).state.votes first_round i ≡ Some (history_of cs)
  pub none : (l : ℕ) → l < learners → (i : ℕ) → acceptors ≤ i → vote_of (learner_at (record { acceptors = acceptors; coordinators = 3; learners = learners }) l es).state.votes first_round i ≡ None
  pub shown : (l : ℕ) → l < learners → (c : Command) → list_any (same c) cs ≡ true → has (learner_at (record { acceptors = acceptors; coordinators = 3; learners = learners }) l es).learned c ≡ true
  pub distinct : no_repeat cs ≡ true
  pub numbered : (c : Command) → list_any (same c) cs ≡ true → c.id.number ≤ n
  pub plain : (c : Command) → list_any (same c) cs ≡ true → c.draft.checkpoint ≡ false

-- a sequence without a checkpoint
pub no_checkpoint : (cs : List Command) → ((c : Command) → list_any (same c) cs ≡ true → c.draft.checkpoint ≡ false) → first_checkpoint (history_of cs) ≡ None
no_checkpoint cs plain = by (first_checkpoint (history_of cs)) refl where
  by : (o : Option Command) → first_checkpoint (history_of cs) ≡ o → o ≡ None
  by None e = refl
  by (Some z) e = absurd (let f = found_is_first (history_of cs) (history_of_is cs) z e in never z.draft.checkpoint f.marked (plain z (sym (has_history_of cs z) ∙ f.there)))

pub below_two : (P : ℕ → Type 0) → P 0 → P 1 → (i : ℕ) → i < 2 → P i
below_two P a b zero l = a
below_two P a b (suc zero) l = b
below_two P a b (suc (suc i)) l = absurd (omega (arith, l))

pub coordinator_is_other : (i : ℕ) → i < 2 → Coordinator i ≢ Coordinator 2
coordinator_is_other i l e = let is : i ≡ 2 = cc in omega (arith, is, l)

module _ (acceptors learners : ℕ) (some : 0 < acceptors) (n : ℕ) (cs : List Command) (es : List Entry) (was : Drives acceptors learners n cs es) (draft : Draft) (not_marked : draft.checkpoint ≡ false) where
  abbrev config : Counts
  config = record { acceptors = acceptors; coordinators = 3; learners = learners }

  abbrev c : Command
  c = command n draft

  abbrev more : List Command
  more = cs ++ command n draft ∷ []

  new : has (history_of cs) (command n draft) ≡ false
  new = has_history_of cs (command n draft) ∙ not_true (list_any (same (command n draft)) cs) (λ t. let l : n + 1 ≤ n = was.numbered (command n draft) t in omega (arith, l))

  ext : Extends cs (command n draft)
  ext = extends cs (command n draft) was.distinct new

  -- ---- the offer

  sent1 : messages (entry_after config es (Offer 0 draft) ∷ es) ≡ messages es ++ Offered (command n draft) ∷ []
  sent1 = ap (λ (s : ProposerState). messages es ++ option_to_list (proposer_acts 0 s (Offer 0 draft)).1) was.proposer

  legal1 : Legal config (entry_after config es (Offer 0 draft) ∷ es)
  legal1 = (was.legal, record { own_node = refl; event_fits = refl; own_messages = refl })

  -- ---- coordinators 0 and 1

  abbrev es2 : List Entry
  es2 = sweep config Coordinator 2 Kind.Propose (length (messages es)) (entry_after config es (Offer 0 draft) ∷ es)

  took2 : CoordinatorsTook config 2 (Offered (command n draft) ∷ []) (entry_after config es (Offer 0 draft) ∷ es) (sweep config Coordinator 2 Kind.Propose (length (messages es)) (entry_after config es (Offer 0 draft) ∷ es))
  took2 = coordinators_take config 2 _ (Offered (command n draft) ∷ []) (entry_after config es (Offer 0 draft) ∷ es) (picks_new Kind.Propose (messages es) (Offered (command n draft) ∷ []) (messages (entry_after config es (Offer 0 draft) ∷ es)) sent1)

  proposes : (i : ℕ) → (l : i < 2) → run coordinator.take (coordinator_at config i es) (Offered (command n draft) ∷ []) ≡ (leading config i (was.leaders i l).answers (pending_with (was.leaders i l).pending (command n draft)) (history_of more), InEpoch 0 (Sent first_round i (history_of more)) ∷ [])
  proposes i l =
      let w = was.leaders i l in
      ap (λ (s : CoordinatorInEpoch). run coordinator.take s (Offered (command n draft) ∷ [])) w.is
      ∙ (λ j. ((pushes_proposal config i w.answers w.pending (history_of cs) (command n draft) new j).0, option_to_list (pushes_proposal config i w.answers w.pending (history_of cs) (command n draft) new j).1 ++ []))
      ∙ (λ j. (leading config i w.answers (pending_with w.pending (command n draft)) (ext.is_push j), InEpoch 0 (Sent first_round i (ext.is_push j)) ∷ []))

  leaders2 : (i : ℕ) → i < 2 → Leads config i (history_of more) (coordinator_at config i es2)
  leaders2 i l = record { answers = (was.leaders i l).answers; pending = pending_with (was.leaders i l).pending (command n draft); is = took2.coordinators i l ∙ ap (λ (u : CoordinatorInEpoch × List Stamped). u.0) (proposes i l) }

  sent2 : messages es2 ≡ messages es ++ (Offered (command n draft) ∷ two_sent (history_of more))
  sent2 =
      took2.sent
      ∙ (λ i. sent1 i ++ (([] ++ (proposes 0 (omega arith) i).1) ++ (proposes 1 (omega arith) i).1))
      ∙ append_assoc (messages es) (Offered (command n draft) ∷ []) (two_sent (history_of more))

  -- ---- acceptors and learners

  abbrev before : ℕ → Option History
  before i = cond (nat_lt i acceptors) (Some (history_of cs)) None

  fit : FitsBefore before (history_of more)
  fit = record {
    next = λ i. replaces (nat_lt i acceptors);
    history = λ i v e. subst IsHistory (is_old (nat_lt i acceptors) v e) (history_of_is cs);
    below = λ i v d e t. ext.above.commands d (ap (λ u. has u d) (is_old (nat_lt i acceptors) v e) ∙ t);
  } where
    replaces : (b : Bool) → newer (cond b (Some (history_of cs)) None) (history_of more) ≡ Some (history_of more)
    replaces true = ap (λ x. cond x (Some (history_of more)) None) ext.longer
    replaces false = refl

    is_old : (b : Bool) (v : History) → cond b (Some (history_of cs)) None ≡ Some v → history_of cs ≡ v
    is_old true v e = cc
    is_old false v e = cc

  held_before : (l : ℕ) → l < learners → (i : ℕ) → vote_of (learner_at config l es2).state.votes first_round i ≡ before i
  held_before l h i = ap (λ s. vote_of s.state.votes first_round i) (took2.learners l) ∙ by (nat_lt i acceptors) refl where
    by : (b : Bool) → nat_lt i acceptors ≡ b → vote_of (learner_at config l es).state.votes first_round i ≡ cond b (Some (history_of cs)) None
    by true q = was.given l h i (ltb-true i acceptors q)
    by false q = was.none l h i (ltb-false i acceptors q)

  plain_more : (d : Command) → list_any (same d) more ≡ true → d.draft.checkpoint ≡ false
  plain_more d t = one_of (list_any (same d) cs) (same d (command n draft) || false) (sym (any-append (same d) cs (command n draft ∷ [])) ∙ t) (was.plain d) (λ s. one_of (same d (command n draft)) false s (λ q. ap (λ (x : Command). x.draft.checkpoint) (same-true d (command n draft) q) ∙ not_marked) (λ q. absurd cc))

  numbered_more : (d : Command) → list_any (same d) more ≡ true → d.id.number ≤ suc n
  numbered_more d t = one_of (list_any (same d) cs) (same d (command n draft) || false) (sym (any-append (same d) cs (command n draft ∷ [])) ∙ t)
      (λ s. let l = was.numbered d s in omega (arith, l))
      (λ s. one_of (same d (command n draft)) false s (λ q. let e : d.id.number ≡ n + 1 = ap (λ (x : Command). x.id.number) (same-true d (command n draft) q) in omega (arith, e)) (λ q. absurd cc))

  voted : AreVoted acceptors learners (history_of more) before es2 (driven config draft es)
  voted = are_voted acceptors learners some es2 (messages es) (Offered (command n draft) ∷ two_sent (history_of more)) (history_of more) (history_of_is more) (no_checkpoint more plain_more) (took2.legal (omega arith) legal1) sent2 refl refl
      (λ a h. ap (λ (s : AcceptorInEpoch). run acceptor.take s (two_sent (history_of more))) (took2.acceptors a ∙ was.votes a h) ∙ votes_longer acceptors learners a (history_of cs) (history_of more) (history_of_is cs) (history_of_is more) ext.above ext.longer)
      (λ l h. ap (λ s. s.epoch) (took2.learners l) ∙ was.epochs l h)
      before fit held_before

  pub one_driven : Drives acceptors learners (suc n) (cs ++ command n draft ∷ []) (driven config draft es)
  one_driven = record {
    legal = voted.legal;
    proposer =
        voted.proposer
        ∙ proposer_while_swept config Coordinator 2 (places Kind.Propose (length (messages es)) (messages (entry_after config es (Offer 0 draft) ∷ es))) (entry_after config es (Offer 0 draft) ∷ es)
        ∙ ap (λ (s : ProposerState). (proposer_acts 0 s (Offer 0 draft)).0) was.proposer
        ∙ (λ i. record { number = 0; offers = add-one n i });
    leaders = λ i l. let w = leaders2 i l in record { answers = w.answers; pending = w.pending; is = voted.coordinators i ∙ w.is };
    votes = voted.votes;
    epochs = voted.epochs;
    given = voted.given;
    none = λ l h i q. voted.old l h i q ∙ ap (λ b. cond b (Some (history_of cs)) None) (le-ltb i acceptors q);
    shown = λ l h d t. voted.shown l h d (has_history_of more d ∙ t);
    distinct = ext.distinct;
    numbered = numbered_more;
    plain = plain_more;
  }

  pub driven_entries : length (driven config draft es) ≡ length es + (3 + 2 * acceptors + acceptors * learners)
  driven_entries = let a = voted.entries in let b = took2.entries in omega (arith, a, b)

  pub driven_beginnings : beginnings (driven config draft es) ≡ beginnings es
  driven_beginnings = voted.beginnings_same ∙ beginnings_while_swept config Coordinator 2 (places Kind.Propose (length (messages es)) (messages (entry_after config es (Offer 0 draft) ∷ es))) (entry_after config es (Offer 0 draft) ∷ es)

  pub driven_silent : AreOfOthers (Coordinator 2) es → AreOfOthers (Coordinator 2) (driven config draft es)
  driven_silent h = voted.silent (others_while_swept config Coordinator 2 (places Kind.Propose (length (messages es)) (messages (entry_after config es (Offer 0 draft) ∷ es))) (entry_after config es (Offer 0 draft) ∷ es) coordinator_is_other ((λ e. cc), h))
