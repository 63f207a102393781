-- Sets of the commands of histories.
use Rattle.std.proofs.Common.{◌≡◌, List, [], sym, ap, ◌∙◌, refl}
use Rattle.std.specs.FinSet as set
use Rattle.gp_command.specs.declared.command.Command.{Command}
use Rattle.gp_command.specs.Order.{command_cmp_total}
use Rattle.gp_command.proofs.Ties.{tied_command}
use Rattle.gp_history.specs.History.{History, has, empty}
use Rattle.gp_history.specs.Sequence.{history_of}
use Rattle.gp_history.specs.Bounds.{join}
use Rattle.gp_history.proofs.Joins.{history_of-empty, history_of_is}
use Rattle.gp_history.proofs.Bound.{has-join}

pub nothing_done : (xs : List Command) → xs ≡ [] → (history_of xs).commands ≡ set.empty
unfolding empty
nothing_done xs e = ap (λ ys. (history_of ys).commands) e ∙ ap (λ (h : History). h.commands) history_of-empty

pub has_is_contains : (xs : List Command) (c : Command) → has (history_of xs) c ≡ set.contains (history_of xs).commands c
unfolding has
has_is_contains xs c = refl

pub joined_commands : (xs ys zs : List Command) → history_of zs ≡ join (history_of xs) (history_of ys) → (history_of zs).commands ≡ set.union (history_of xs).commands (history_of ys).commands
unfolding has
joined_commands xs ys zs e = set.same_set command_cmp_total tied_command (history_of zs).commands (set.union (history_of xs).commands (history_of ys).commands) (λ c.
    ap (λ (h : History). has h c) e ∙ has-join (history_of xs) (history_of ys) (history_of_is xs) (history_of_is ys) c ∙ sym (set.contains-union command_cmp_total (history_of xs).commands (history_of ys).commands c))
