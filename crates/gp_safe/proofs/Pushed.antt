-- A sequence that takes a command which its history does not have.
use Rattle.std.proofs.Common.{◌≡◌, cond, List, [], ◌∷◌, ◌++◌, ap, ◌∙◌}
use Rattle.gp_command.specs.declared.command.Command.{Command}
use Rattle.gp_history.specs.History.{has, push}
use Rattle.gp_history.specs.Sequence.{history_of}
use Rattle.gp_history.proofs.Pushing.{pushed_sequence}

pub pushed : (xs ys : List Command) (c : Command) → ys ≡ cond (has (history_of xs) c) xs (xs ++ c ∷ []) → history_of ys ≡ push (history_of xs) c
pushed xs ys c e = ap history_of e ∙ pushed_sequence xs c
