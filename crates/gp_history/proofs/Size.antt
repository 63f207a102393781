-- How many commands the history of a sequence has.
use Rattle.std.proofs.Common.{◌≡◌, ◌+◌, Bool, true, false, not, cond, List, [], ◌∷◌, length, refl, sym, ap, ◌∙◌, add-one}
use Rattle.std.specs.List.{list_any}
use Rattle.std.specs.FinSet as set
use Rattle.std.proofs.lemmas.Bool.{true≢false}
use Rattle.gp_command.specs.declared.command.Command.{Command}
use Rattle.gp_command.specs.Order.{command_cmp, command_cmp_total}
use Rattle.gp_command.specs.Conflict.{same}
use Rattle.gp_history.specs.History.{ordered_by, size}
use Rattle.gp_history.specs.Sequence.{history_of, no_repeat}
use Rattle.gp_history.proofs.Tests.{fst_of, snd_of}

len_of_list : (xs : List Command) → no_repeat xs ≡ true → set.len (set.from_list {R = command_cmp} xs) ≡ length xs
unfolding same
len_of_list [] n = set.len-empty command_cmp
len_of_list (x ∷ xs) n =
    let fresh : list_any (same x) xs ≡ false = turned (list_any (same x) xs) (fst_of (not (list_any (same x) xs)) (no_repeat xs) n) in
    set.len-insert command_cmp_total (set.from_list xs) x
    ∙ ap (λ b. cond b (set.len (set.from_list {R = command_cmp} xs)) (set.len (set.from_list {R = command_cmp} xs) + 1)) (set.contains-from_list command_cmp_total xs x ∙ fresh)
    ∙ ap (λ m. m + 1) (len_of_list xs (snd_of (not (list_any (same x) xs)) (no_repeat xs) n))
    ∙ add-one (length xs) where
      turned : (b : Bool) → not b ≡ true → b ≡ false
      turned true h = absurd (true≢false (sym h))
      turned false h = refl

pub size_of_sequence : (xs : List Command) → no_repeat xs ≡ true → size (history_of xs) ≡ length xs
unfolding size history_of ordered_by
size_of_sequence xs n = len_of_list xs n
