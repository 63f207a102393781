-- Quorums whose votes are all held.
use Rattle.std.proofs.Common.{◌≡◌, ℕ, cond, List, [], ◌∷◌, ◌++◌, map, Some, None, refl, sym, ap, ◌∙◌}
use Rattle.std.specs.Prelude.{Option}
use Rattle.std.specs.Option.{option_map}
use Rattle.std.proofs.lemmas.List.{append-nil, map-append}
use Rattle.gp_command.specs.declared.command.Command.{Command}
use Rattle.gp_history.specs.History.{History, has}
use Rattle.gp_history.specs.Sequence.{history_of}
use Rattle.gp_safe.specs.Meets.{quorum_meet, everyone}
use Rattle.gp_round.specs.declared.round.Round.{Round}
use Rattle.gp_round.specs.Configs.{quorum_size}
use Rattle.gp_round.specs.Sets.{masks}
use Rattle.gp_learner.specs.State.{Votes}
use Rattle.gp_learner.specs.Table.{vote_of}
use Rattle.gp_audit.specs.declared.proof.Cause.{Cause}
use Rattle.gp_audit.specs.declared.proof.Cause.TheVariants as cause
use Rattle.gp_audit.specs.Noting.{add_whole, whole_quorums, first_with, vote_cause, quorums_held}
use Rattle.gp_audit.specs.Sources.{first_in}

-- a mask with the history of a sequence
abbrev pub met_pair : ℕ × List Command → ℕ × History
met_pair q = (q.0, history_of q.1)

pub first_of_map : (qs : List (ℕ × List Command)) (c : Command) → first_in qs c ≡ first_with (map met_pair qs) c
first_of_map [] c = refl
first_of_map (q ∷ qs) c = ap (cond (has (history_of q.1) c) (Some q.0)) (first_of_map qs c)

whole_added : (m : ℕ) (o : Option History) (xs ys : List (ℕ × History)) → add_whole m o (xs ++ ys) ≡ add_whole m o xs ++ ys
whole_added m None xs ys = refl
whole_added m (Some h) xs ys = refl

-- one more mask
pub whole_last : (f : ℕ → Option History) (n : ℕ) (ms : List ℕ) (m : ℕ) → whole_quorums f n (ms ++ m ∷ []) ≡ whole_quorums f n ms ++ add_whole m (quorum_meet f everyone n m) []
whole_last f n [] m = refl
whole_last f n (x ∷ ms) m = ap (add_whole x (quorum_meet f everyone n x)) (whole_last f n ms m) ∙ whole_added x (quorum_meet f everyone n x) (whole_quorums f n ms) (add_whole m (quorum_meet f everyone n m) [])

-- one more mask, with its meet
pub whole_pushed : (f : ℕ → Option History) (n : ℕ) (ms : List ℕ) (m : ℕ) (qs new : List (ℕ × List Command)) (met : List Command)
    → map met_pair qs ≡ whole_quorums f n ms → Some (history_of met) ≡ quorum_meet f everyone n m → new ≡ qs ++ (m, met) ∷ [] → map met_pair new ≡ whole_quorums f n (ms ++ m ∷ [])
whole_pushed f n ms m qs new met e is more =
    ap (map met_pair) more ∙ map-append met_pair qs ((m, met) ∷ []) ∙ ap (λ x. x ++ (m, history_of met) ∷ []) e
    ∙ ap (λ o. whole_quorums f n ms ++ add_whole m o []) is ∙ sym (whole_last f n ms m)

-- one more mask without a meet
pub whole_passed : (f : ℕ → Option History) (n : ℕ) (ms : List ℕ) (m : ℕ) (qs : List (ℕ × List Command))
    → map met_pair qs ≡ whole_quorums f n ms → None ≡ quorum_meet f everyone n m → map met_pair qs ≡ whole_quorums f n (ms ++ m ∷ [])
whole_passed f n ms m qs e is = e ∙ sym (append-nil (whole_quorums f n ms)) ∙ ap (λ o. whole_quorums f n ms ++ add_whole m o []) is ∙ sym (whole_last f n ms m)

-- the causes that a source gives are those of the quorums that are whole
pub vote_source_is : (e : ℕ) (r : Round) (votes : Votes) (n m size : ℕ) (qs : List (ℕ × List Command)) → m ≡ n → size ≡ quorum_size n r.mode
    → map met_pair qs ≡ whole_quorums (vote_of votes r) m (masks m size) → ◌≡◌ {A = Command → Option Cause} (λ c. option_map (λ mask. cause.Quorum e r mask) (first_in qs c)) (vote_cause e r (quorums_held votes n r))
vote_source_is e r votes n m size qs same least made =
    let is : map met_pair qs ≡ quorums_held votes n r = made ∙ ap (λ k. whole_quorums (vote_of votes r) m (masks m k)) least ∙ ap (λ k. whole_quorums (vote_of votes r) k (masks k (quorum_size n r.mode))) same in
    λ j c. option_map (λ mask. cause.Quorum e r mask) ((first_of_map qs c ∙ ap (λ x. first_with x c) is) j)
