-- Acceptors in a multi round of three coordinators, of which two send.
use Rattle.std.proofs.Common.{◌≡◌, ℕ, true, cond, List, [], ◌∷◌, ◌++◌, Some, None, refl, ap, ◌∙◌, arith}
use Rattle.std.specs.Prelude.{Option, nat_lt}
use Rattle.std.specs.Option.{option_to_list}
use Rattle.std.proofs.lemmas.Bool.{le-ltb}
use Rattle.gp_history.specs.History.{History, IsHistory, IsPrefix, empty, size}
use Rattle.gp_history.specs.Bounds.{meet, join}
use Rattle.gp_history.proofs.Prefix.{prefix_refl}
use Rattle.gp_history.proofs.Bound.{empty_is_history}
use Rattle.gp_round.specs.Counts.{Counts}
use Rattle.gp_round.specs.Rounds.{round_zero}
use Rattle.gp_msg.specs.Messages.{Asked, Answered, Sent, Voted, Stamped, InEpoch}
use Rattle.gp_acceptor.specs.State.{AcceptorState}
use Rattle.gp_acceptor.specs.Table.{with_vote, with_value, told_vote, counted, acceptor_take}
use Rattle.gp_acceptor.specs.Epochs.{AcceptorInEpoch, take, stepped}
use Rattle.gp_driver.specs.Driving.{first_round}
use Rattle.gp_driver.proofs.Sweeping.{run}
use Rattle.gp_driver.proofs.Values.{join_empty}
use Rattle.gp_driver.proofs.Leading.{meet_above, join_above}

-- it voted in the round, and holds values of coordinators 0 and 1
abbrev pub state_with : Counts → ℕ → History → Option History → Option History → AcceptorState
state_with config a h x y = record { config = config; number = a; round = first_round; voted = first_round; vote = h; held = x ∷ y ∷ None ∷ [] }

abbrev pub voter : Counts → ℕ → History → AcceptorInEpoch
voter config a h = record { epoch = 0; state = state_with config a h (Some h) (Some h) }

module _ (acceptors learners a : ℕ) where
  abbrev config : Counts
  config = record { acceptors = acceptors; coordinators = 3; learners = learners }

  -- what is counted where two values are held
  counts : (h x y : History) (u : History) → meet x y ≡ u → IsHistory u → counted (state_with config a h (Some x) (Some y)) ≡ (with_vote (state_with config a h (Some x) (Some y)) (Some (join h u)), told_vote a first_round first_round h (Some (join h u)))
  counts h x y u e w =
      (λ i. (with_vote (state_with config a h (Some x) (Some y)) (Some (join h (join empty (e i)))), told_vote a first_round first_round h (Some (join h (join empty (e i))))))
      ∙ (λ i. (with_vote (state_with config a h (Some x) (Some y)) (Some (join h (join_empty u w i))), told_vote a first_round first_round h (Some (join h (join_empty u w i)))))

  module _ (h k : History) (wh : IsHistory h) (wk : IsHistory k) (p : IsPrefix h k) (more : nat_lt (size h) (size k) ≡ true) where
    -- the value of coordinator 0 alone changes no vote
    first_value : acceptor_take (state_with config a h (Some h) (Some h)) (Sent first_round 0 k) ≡ (state_with config a h (Some k) (Some h), None)
    first_value =
        (λ i. counted (with_value (state_with config a h (Some h) (Some h)) 0 (cond (more i) (Some k) None)))
        ∙ counts h k h h (meet_above h k wh wk p) wh
        ∙ (λ i. (with_vote (state_with config a h (Some k) (Some h)) (Some (join_above h h wh wh (prefix_refl h wh) i)), told_vote a first_round first_round h (Some (join_above h h wh wh (prefix_refl h wh) i))))
        ∙ (λ i. (state_with config a h (Some k) (Some h), cond (le-ltb (size h) (size h) (omega arith) i) (Some (Voted first_round a h)) None))

    -- with that of coordinator 1 it is voted
    second_value : acceptor_take (state_with config a h (Some k) (Some h)) (Sent first_round 1 k) ≡ (state_with config a k (Some k) (Some k), Some (Voted first_round a k))
    second_value =
        (λ i. counted (with_value (state_with config a h (Some k) (Some h)) 1 (cond (more i) (Some k) None)))
        ∙ counts h k k k (meet_above k k wk wk (prefix_refl k wk)) wk
        ∙ (λ i. (with_vote (state_with config a h (Some k) (Some k)) (Some (join_above h k wh wk p i)), told_vote a first_round first_round h (Some (join_above h k wh wk p i))))
        ∙ (λ i. (state_with config a k (Some k) (Some k), cond (more i) (Some (Voted first_round a k)) None))

    pub votes_longer : run take (voter config a h) (InEpoch 0 (Sent first_round 0 k) ∷ InEpoch 0 (Sent first_round 1 k) ∷ []) ≡ (voter config a k, InEpoch 0 (Voted first_round a k) ∷ [])
    votes_longer =
        ap (λ u. run_two (stepped (voter config a h) u)) first_value
        ∙ ap (λ u. run_one (stepped (record { epoch = 0; state = state_with config a h (Some k) (Some h) }) u)) second_value
      where
        run_two : AcceptorInEpoch × Option Stamped → AcceptorInEpoch × List Stamped
        run_two u = ((take u.0 (InEpoch 0 (Sent first_round 1 k))).0, option_to_list u.1 ++ (option_to_list (take u.0 (InEpoch 0 (Sent first_round 1 k))).1 ++ []))

        run_one : AcceptorInEpoch × Option Stamped → AcceptorInEpoch × List Stamped
        run_one u = (u.0, option_to_list u.1 ++ [])

  -- ---- the first vote, for nothing

  -- it was asked for the round, and voted nothing yet
  abbrev pub listening : AcceptorInEpoch
  listening = record { epoch = 0; state = record { config = config; number = a; round = first_round; voted = round_zero; vote = empty; held = None ∷ None ∷ None ∷ [] } }

  pub answers : run take (record { epoch = 0; state = record { config = config; number = a; round = round_zero; voted = round_zero; vote = empty; held = None ∷ None ∷ None ∷ [] } }) (InEpoch 0 (Asked first_round) ∷ []) ≡ (listening, InEpoch 0 (Answered first_round a round_zero empty) ∷ [])
  answers = refl

  pub votes_nothing : run take listening (InEpoch 0 (Sent first_round 0 empty) ∷ InEpoch 0 (Sent first_round 1 empty) ∷ []) ≡ (voter config a empty, InEpoch 0 (Voted first_round a empty) ∷ [])
  votes_nothing =
      (λ i. (record { epoch = 0; state = state_with config a (join empty (meet_above empty empty empty_is_history empty_is_history (prefix_refl empty empty_is_history) i)) (Some empty) (Some empty) }, InEpoch 0 (Voted first_round a (join empty (meet_above empty empty empty_is_history empty_is_history (prefix_refl empty empty_is_history) i))) ∷ []))
      ∙ (λ i. (record { epoch = 0; state = state_with config a (join_empty empty empty_is_history i) (Some empty) (Some empty) }, InEpoch 0 (Voted first_round a (join_empty empty empty_is_history i)) ∷ []))
