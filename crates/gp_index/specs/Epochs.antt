-- A sequence divided after each of its checkpoints.
use Rattle.std.specs.Prelude.{◌≡◌, ℕ, zero, suc, ◌<◌, ◌≤◌, cond, List, [], ◌∷◌, take, drop}
use Rattle.gp_command.specs.declared.command.Command.{Command}
use Rattle.gp_history.specs.History.{IsPrefix}
use Rattle.gp_history.specs.Sequence.{history_of}

-- how many checkpoints there are
abbrev pub checkpoints : List Command → ℕ
checkpoints [] = 0
checkpoints (x ∷ xs) = cond x.draft.checkpoint (suc (checkpoints xs)) (checkpoints xs)

-- where epoch i starts: after the i-th checkpoint, and at 0 for i = 0
abbrev pub epoch_start : List Command → ℕ → ℕ
epoch_start xs zero = 0
epoch_start [] (suc i) = 0
epoch_start (x ∷ xs) (suc i) = suc (cond x.draft.checkpoint (epoch_start xs i) (epoch_start xs (suc i)))

-- the starts of all epochs except the first, if n commands come before the sequence
abbrev pub starts_from : ℕ → List Command → List ℕ
starts_from n [] = []
starts_from n (x ∷ xs) = cond x.draft.checkpoint (suc n ∷ starts_from (suc n) xs) (starts_from (suc n) xs)

-- epoch i, with the checkpoint at its end
abbrev pub epoch : List Command → ℕ → List Command
epoch xs i = drop (epoch_start xs i) (take (epoch_start xs (suc i)) xs)

-- the commands after the n-th checkpoint
abbrev pub behind_epochs : List Command → ℕ → List Command
behind_epochs xs n = drop (epoch_start xs n) xs

-- the second has at least as many checkpoints as the first, the epochs that these end are equal as histories, and the commands of the first after them are a prefix of those of the second after as many checkpoints
pub record IsCutPrefix (xs ys : List Command) : Type 0 where
  pub enough : checkpoints xs ≤ checkpoints ys
  pub epochs : (i : ℕ) → i < checkpoints xs → history_of (epoch xs i) ≡ history_of (epoch ys i)
  pub rest : IsPrefix (history_of (behind_epochs xs (checkpoints xs))) (history_of (behind_epochs ys (checkpoints xs)))
