-- What a learner keeps, and what it does.
use Rattle.std.specs.Prelude.{ℕ, cond, ◌&&◌, nat_lt, nat_eq, List, [], ◌∷◌, Option, Some, None}
use Rattle.gp_cstructs.specs.CStructs.{all_joined}
use Rattle.gp_cstructs.specs.Tables.{Tables, Message, Propose, P1a, P1b, P2a, P2b, newer}

-- the vote that it holds of each acceptor in each round, what it learned, and, for the theorems alone, all votes that it took since it started
pub record Learner (T : Tables) : Type 0 where
  pub votes : T.Round → ℕ → Option T.Value
  pub learned : T.Value
  pub taken : List (T.Round × ℕ × T.Value)

abbrev pub learner_opening : (T : Tables) → Learner T
learner_opening T = record { votes = λ r a. None; learned = T.empty; taken = [] }

-- a vote is held if no vote of its acceptor in the round is held, or one with fewer commands
abbrev pub votes_with : (T : Tables) → (T.Round → ℕ → Option T.Value) → T.Round → ℕ → T.Value → T.Round → ℕ → Option T.Value
votes_with T f r a v i b = cond (T.same i r && nat_eq b a) (Some (newer T (f r a) v)) (f i b)

-- what is learned, joined with what quorums voted for, if any did
abbrev pub learned_with : (T : Tables) → T.Value → Option T.Value → T.Value
learned_with T u None = u
learned_with T u (Some v) = T.join u v

-- a learner takes a message; it sends nothing
abbrev pub learner_take : (T : Tables) → Learner T → Message T → Learner T
learner_take T s (Propose d) = s
learner_take T s (P1a r) = s
learner_take T s (P1b r a q v) = s
learner_take T s (P2a r c v) = s
learner_take T s (P2b r a v) =
    cond (nat_lt a T.acceptors)
    (record {
      votes = votes_with T s.votes r a v;
      learned = learned_with T s.learned (all_joined T.empty T.join (T.acceptor_meets r (votes_with T s.votes r a v r)));
      taken = (r, a, v) ∷ s.taken;
    })
    s
