-- A learner does what one over any c-structs does.
use Rattle.std.proofs.Common.{◌≡◌, ℕ, Bool, true, cond, ◌&&◌, nat_eq, nat_lt, List, [], ◌∷◌, Option, Some, None, refl, sym, subst, ap, ◌∙◌}
use Rattle.std.specs.Ordering.{nat_cmp, is_eq}
use Rattle.std.specs.BTreeMap.{insert_entry}
use Rattle.std.proofs.lemmas.Bool.{eqb-true}
use Rattle.gp_history.specs.History.{History, size}
use Rattle.gp_history.proofs.Tests.{by_cases, fst_of, snd_of}
use Rattle.gp_round.specs.declared.round.Round.{Round}
use Rattle.gp_round.specs.Counts.{Counts}
use Rattle.gp_round.specs.Rounds.{same_round, round_cmp}
use Rattle.gp_safe.specs.Held.{newer}
use Rattle.gp_msg.specs.Messages.{Voted}
use Rattle.gp_learner.specs.State.{LearnerState, Votes}
use Rattle.gp_learner.specs.Table.{opening, voter_cmp, vote_of, votes_held, votes_with, heard, learned_with, learner_take}
use Rattle.gp_learner.proofs.Lookups.{lookup-insert_entry, voter_cmp_total, same_number}
use Rattle.gp_run.specs.Learned.{Vote, votes_heard}
use Rattle.gp_cstructs.specs.Tables as any
use Rattle.gp_cstructs.specs.Tables.{Tables, Propose, P1a, P1b, P2a, P2b}
use Rattle.gp_cstructs.specs.Learner as core
use Rattle.gp_command.proofs.Marks.{equal_then}
use Rattle.gp_round.proofs.Orders.{same_round_is}
use Rattle.gp_agreement.specs.Values.{Value}
use Rattle.gp_agreement.proofs.Bundle.{tables}
use Rattle.gp_agreement.proofs.Shown.{shown, joins, heard_same, cond_ap}
use Rattle.gp_agreement.proofs.Told.{told, cond_when}

-- ---- the votes that are held

abbrev is_voter : Round → ℕ → Round → ℕ → Bool
is_voter i b r a = same_round i r && nat_eq b a

voter_tells : (i r : Round) (b a : ℕ) → is_voter i b r a ≡ true → (i ≡ r) × (b ≡ a)
voter_tells i r b a h = (same_round_is i r (fst_of (same_round i r) (nat_eq b a) h), eqb-true b a (snd_of (same_round i r) (nat_eq b a) h))

same_voter : (i r : Round) (b a : ℕ) → is_eq (voter_cmp (i, b) (r, a)) ≡ is_voter i b r a
same_voter i r b a = equal_then (round_cmp i r) (nat_cmp b a) ∙ ap (λ x. same_round i r && x) (same_number b a)

-- one more vote is held
vote_of-insert : (votes : Votes) (r : Round) (a : ℕ) (h : History) (i : Round) (b : ℕ) → vote_of (insert_entry voter_cmp votes (r, a) h) i b ≡ cond (is_voter i b r a) (Some h) (vote_of votes i b)
vote_of-insert votes r a h i b =
    lookup-insert_entry voter_cmp voter_cmp_total votes (r, a) (i, b) h ∙ ap (λ x. cond x (Some h) (vote_of votes i b)) (same_voter i r b a)

-- the votes that were taken, the proofs of histories forgotten
abbrev pub votes_taken : List (Round × ℕ × Value) → List Vote
votes_taken [] = []
votes_taken (x ∷ xs) = record { round = x.0; acceptor = x.1; value = x.2.history } ∷ votes_taken xs

module _ (config : Counts) (number : ℕ) where
  abbrev T : Tables
  T = tables config

  abbrev Held : Type 0
  Held = Round → ℕ → Option History

  abbrev pub seen : core.Learner T → Votes → LearnerState
  seen t vs = record { config = config; number = number; votes = vs; learned = t.learned.history }

  -- the two are one state, but the first keeps votes in a list
  pub record IsLike (s : LearnerState) (t : core.Learner T) : Type 0 where
    pub votes : Votes
    pub is : s ≡ seen t votes
    pub all : ◌≡◌ {A = Held} (vote_of votes) (λ r a. shown (t.votes r a))

  pub like_opening : IsLike (opening config number) (core.learner_opening T)
  like_opening = record { votes = []; is = refl; all = refl }

  learned_same : (u : Value) (o : Option Value) → learned_with u.history (shown o) ≡ (core.learned_with T u o).history
  learned_same u None = refl
  learned_same u (Some v) = refl

  module _ (t : core.Learner T) (vs : Votes) (all : ◌≡◌ {A = Held} (vote_of vs) (λ r a. shown (t.votes r a))) where
    itself : IsLike (seen t vs) t
    itself = record { votes = vs; is = refl; all = all }

    abbrev now : Round → ℕ → Value → Held
    now r a v = λ i b. shown (cond (is_voter i b r a) (Some v) (t.votes i b))

    set_now : (r : Round) (a : ℕ) (v : Value) → ◌≡◌ {A = Held} (vote_of (insert_entry voter_cmp vs (r, a) v.history)) (now r a v)
    set_now r a v = λ k i b. (vote_of-insert vs r a v.history i b ∙ (λ j. cond (is_voter i b r a) (Some v.history) (all j i b)) ∙ cond_ap shown (is_voter i b r a) (Some v) (t.votes i b)) k

    stays_now : (r : Round) (a : ℕ) (w : Value) → t.votes r a ≡ Some w → ◌≡◌ {A = Held} (vote_of vs) (now r a w)
    stays_now r a w e = λ k i b. ((λ j. all j i b) ∙ same i b) k
      where
        same : (i : Round) (b : ℕ) → shown (t.votes i b) ≡ shown (cond (is_voter i b r a) (Some w) (t.votes i b))
        same i b = by_cases (is_voter i b r a)
            (λ f. let p = voter_tells i r b a f in (λ k. shown (t.votes (p.0 k) (p.1 k))) ∙ ap shown e ∙ sym (ap (λ x. shown (cond x (Some w) (t.votes i b))) f))
            (λ f. sym (ap (λ x. shown (cond x (Some w) (t.votes i b))) f))

    votes_by : (r : Round) (a : ℕ) (v : Value) (o : Option Value) → t.votes r a ≡ o → ◌≡◌ {A = Held} (vote_of (votes_held vs r a (newer (shown o) v.history))) (now r a (any.newer T o v))
    votes_by r a v None e = set_now r a v
    votes_by r a v (Some w) e = by_cases (nat_lt (size w.history) (size v.history))
        (λ b. subst (λ (x : Bool). ◌≡◌ {A = Held} (vote_of (votes_held vs r a (cond x (Some v.history) None))) (now r a (cond x v w))) (sym b) (set_now r a v))
        (λ b. subst (λ (x : Bool). ◌≡◌ {A = Held} (vote_of (votes_held vs r a (cond x (Some v.history) None))) (now r a (cond x v w))) (sym b) (stays_now r a w e))

    votes_now : (r : Round) (a : ℕ) (v : Value) → ◌≡◌ {A = Held} (vote_of (votes_with vs r a v.history)) (λ i b. shown (core.votes_with T t.votes r a v i b))
    votes_now r a v = subst (λ (f : Held). ◌≡◌ {A = Held} (vote_of (votes_held vs r a (newer (f r a) v.history))) (λ i b. shown (core.votes_with T t.votes r a v i b))) (sym all) (votes_by r a v (t.votes r a) refl)

    -- what quorums voted in the round
    abbrev whole_now : Round → ℕ → Value → List Value
    whole_now r a v = T.acceptor_meets r (core.votes_with T t.votes r a v r)

    learned_now : (r : Round) (a : ℕ) (v : Value) → learned_with t.learned.history (heard config.acceptors r (vote_of (votes_with vs r a v.history) r)) ≡ (core.learned_with T t.learned (joins (whole_now r a v))).history
    learned_now r a v =
        ap (learned_with t.learned.history) ((λ j. heard config.acceptors r (votes_now r a v j r)) ∙ heard_same config.acceptors r (core.votes_with T t.votes r a v r))
        ∙ learned_same t.learned (joins (whole_now r a v))

    voted_like : (r : Round) (a : ℕ) (v : Value) → IsLike (learner_take (seen t vs) (Voted r a v.history)) (core.learner_take T t (P2b r a v))
    voted_like r a v = cond_when IsLike (nat_lt a config.acceptors) _ _ _ _
        (λ e. record {
          votes = votes_with vs r a v.history;
          is = λ k. record { config = config; number = number; votes = votes_with vs r a v.history; learned = learned_now r a v k };
          all = votes_now r a v;
        })
        (λ e. itself)

  -- ---- its steps

  pub take_like : (s : LearnerState) (t : core.Learner T) → IsLike s t → (m : any.Message T) → IsLike (learner_take s (told config m)) (core.learner_take T t m)
  take_like s t l (Propose c) = l
  take_like s t l (P1a r) = l
  take_like s t l (P1b r a q v) = l
  take_like s t l (P2a r c v) = l
  take_like s t l (P2b r a v) = subst (λ (x : LearnerState). IsLike (learner_take x (Voted r a v.history)) (core.learner_take T t (P2b r a v))) (sym l.is) (voted_like t l.votes l.all r a v)

  pub taken_same : (t : core.Learner T) (m : any.Message T) → votes_heard config (votes_taken t.taken) (told config m) ≡ votes_taken (core.learner_take T t m).taken
  taken_same t (Propose c) = refl
  taken_same t (P1a r) = refl
  taken_same t (P1b r a q v) = refl
  taken_same t (P2a r c v) = refl
  taken_same t (P2b r a v) = cond_when (λ (x : List Vote) (y : core.Learner T). x ≡ votes_taken y.taken) (nat_lt a config.acceptors) _ _ _ _ (λ e. refl) (λ e. refl)
