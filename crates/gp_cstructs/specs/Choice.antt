-- The safe choice.
use Rattle.std.specs.Prelude.{ℕ, zero, suc, cond, List, Option, Some, None, unwrap_or}
use Rattle.std.specs.Option.{option_or}
use Rattle.gp_round.specs.declared.round.Round.{Round}
use Rattle.gp_round.specs.Rounds.{earlier, same_round, round_zero}
use Rattle.gp_round.specs.Configs.{quorum_size}
use Rattle.gp_round.specs.Sets.{masks}
use Rattle.gp_cstructs.specs.CStructs.{all_joined}
use Rattle.gp_cstructs.specs.Lawful.{answers_by}
use Rattle.gp_cstructs.specs.Meets.{quorum_meets}

abbrev pub raised_by : {V : Type 0} → Round → Option (Round × V) → Round
raised_by k None = k
raised_by k (Some a) = cond (earlier k a.0) a.0 k

-- the greatest round of the answers of acceptors below n
abbrev pub top_round : {V : Type 0} → (ℕ → Option (Round × V)) → ℕ → Round
top_round f zero = round_zero
top_round f (suc n) = raised_by (top_round f n) (f n)

abbrev pub vote_at : {V : Type 0} → Round → Option (Round × V) → Option V
vote_at k None = None
vote_at k (Some a) = cond (same_round a.0 k) (Some a.1) None

-- the votes of the acceptors that answered with round k
abbrev pub votes_at : {V : Type 0} → Round → (ℕ → Option (Round × V)) → ℕ → Option V
votes_at k f i = vote_at k (f i)

-- the value of the lowest number below n that has one
abbrev pub lowest : {V : Type 0} → (ℕ → Option V) → ℕ → Option V
lowest f zero = None
lowest f (suc n) = option_or (lowest f n) (f n)

-- the meets of the votes of the quorums of the least size that count at round k
abbrev pub counting_values : {V : Type 0} → (V → V → V) → ℕ → (ℕ → Option (Round × V)) → Round → List V
counting_values meet n f k = quorum_meets meet (votes_at k f) (answers_by f) n (masks n (quorum_size n k.mode))

-- their join, or if there are none the vote of the lowest acceptor that answered with round k
abbrev pub choice_at : {V : Type 0} → V → (V → V → V) → (V → V → V) → ℕ → (ℕ → Option (Round × V)) → Round → Option V
choice_at empty meet join n f k = option_or (all_joined empty join (counting_values meet n f k)) (lowest (votes_at k f) n)

-- the choice at the greatest round among the answers
abbrev pub safe_choice : {V : Type 0} → V → (V → V → V) → (V → V → V) → ℕ → (ℕ → Option (Round × V)) → V
safe_choice empty meet join n f = unwrap_or (choice_at empty meet join n f (top_round f n)) empty
