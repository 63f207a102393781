-- The join by pushes in any order that stands for the history.
use Rattle.std.proofs.Common.{◌≡◌, ℕ, ◌+◌, true, cond, List, [], ◌∷◌, ◌++◌, take, Some, refl, sym, ap, ◌∙◌}
use Rattle.std.specs.Prelude.{slice_get, None}
use Rattle.std.specs.Option.{is_some}
use Rattle.std.specs.List.{list_any}
use Rattle.gp_command.specs.declared.command.Command.{Command}
use Rattle.gp_command.specs.Conflict.{same}
use Rattle.gp_history.specs.History.{History, has, push, pushes}
use Rattle.gp_history.specs.Sequence.{history_of, place, place_in}
use Rattle.gp_history.specs.Canonical.{canonical}
use Rattle.gp_history.specs.Bounds.{join}
use Rattle.gp_history.proofs.Tests.{by_cases, never}
use Rattle.gp_history.proofs.Sets.{has_history_of}
use Rattle.gp_history.proofs.Push.{Within, push_there}
use Rattle.gp_history.proofs.Canonical.{canonical_stands}
use Rattle.gp_history.proofs.Places.{take_next, starts}
use Rattle.gp_history.proofs.Alike.{pushed_alike}
use Rattle.gp_history.proofs.Pushing.{pushed_sequence, pushes_there}

-- the pushes of any sequence make the join
pub join_of_pushes : (h : History) → Within h → (ys : List Command) → pushes h ys ≡ join h (history_of ys)
unfolding join
join_of_pushes h w ys = pushed_alike h w ys (canonical (history_of ys)) (sym (canonical_stands ys))

-- ---- a loop's step

pushes_last : (h : History) (xs : List Command) (c : Command) → pushes h (xs ++ c ∷ []) ≡ push (pushes h xs) c
pushes_last h [] c = refl
pushes_last h (x ∷ xs) c = pushes_last (push h x) xs c

pub join_step : (h : History) (xs ys new : List Command) (i : ℕ) (c d : Command) → history_of xs ≡ pushes h (take i ys) → new ≡ cond (has (history_of xs) c) xs (xs ++ c ∷ []) → c ≡ d → slice_get ys i ≡ Some d → history_of new ≡ pushes h (take (i + 1) ys)
join_step h xs ys new i c d so now is at =
    ap history_of now ∙ pushed_sequence xs c ∙ (λ j. push (so j) (is j)) ∙ sym (ap (pushes h) (take_next ys i d at) ∙ pushes_last h (take i ys) d)

pub join_past : (h : History) (xs ys : List Command) (i : ℕ) (d : Command) → history_of xs ≡ pushes h (take i ys) → slice_get ys i ≡ Some d → has (history_of xs) d ≡ true → history_of xs ≡ pushes h (take (i + 1) ys)
join_past h xs ys i d so at p =
    so ∙ sym (push_there (pushes h (take i ys)) d (ap (λ (u : History). has u d) (sym so) ∙ p)) ∙ sym (ap (pushes h) (take_next ys i d at) ∙ pushes_last h (take i ys) d)

-- a command that has a place
pub found_there : (xs : List Command) (c : Command) → is_some (place_in xs c) ≡ true → has (history_of xs) c ≡ true
found_there xs c e = has_history_of xs c ∙ by_cases (list_any (same c) xs) (λ t. t) (λ f.
    never (is_some (place_in xs c)) e (ap (λ b. is_some (cond b (Some (place xs c)) None)) f))

pub join_start : (xs ys : List Command) (n : ℕ) → take n xs ≡ take n ys → history_of xs ≡ pushes (history_of xs) (take n ys)
join_start xs ys n e = sym (pushes_there (history_of xs) (take n ys) (λ c i. has_history_of xs c ∙ (starts xs n c (ap (λ zs. list_any (same c) zs) e ∙ i)).there))
