-- Pushes of what is there already, and a push in a loop over a sequence.
use Rattle.std.proofs.Common.{◌≡◌, true, cond, List, [], ◌∷◌, ◌++◌, refl, sym, ap, ◌∙◌}
use Rattle.std.specs.List.{list_any, list_all}
use Rattle.gp_command.specs.declared.command.Command.{Command}
use Rattle.gp_command.specs.Conflict.{same}
use Rattle.gp_command.proofs.ConflictLemmas.{same_itself}
use Rattle.gp_history.specs.History.{History, has, empty, push, pushes}
use Rattle.gp_history.specs.Sequence.{history_of}
use Rattle.gp_history.proofs.Tests.{In, both, fst_of, snd_of, left_of, right_of, by_cases}
use Rattle.gp_history.proofs.Push.{has-push, push_there}
use Rattle.gp_history.proofs.Joins.{history_of-empty, history_of-push}

pub history_of_nothing : (xs : List Command) → xs ≡ [] → history_of xs ≡ empty
history_of_nothing xs e = ap history_of e ∙ history_of-empty

-- a sequence takes a command that its history does not have
pub pushed_sequence : (xs : List Command) (c : Command) → history_of (cond (has (history_of xs) c) xs (xs ++ c ∷ [])) ≡ push (history_of xs) c
pushed_sequence xs c = by_cases (has (history_of xs) c)
    (λ e. ap (λ b. history_of (cond b xs (xs ++ c ∷ []))) e ∙ sym (push_there (history_of xs) c e))
    (λ e. ap (λ b. history_of (cond b xs (xs ++ c ∷ []))) e ∙ history_of-push xs c)

-- what is there already changes nothing
pub pushes_there : (h : History) (zs : List Command) → ((c : Command) → In zs c → has h c ≡ true) → pushes h zs ≡ h
pushes_there h [] f = refl
pushes_there h (z ∷ zs) f =
    ap (λ u. pushes u zs) (push_there h z (f z (left_of (same z z) (list_any (same z) zs) (same_itself z))))
    ∙ pushes_there h zs (λ c i. f c (right_of (same c z) (list_any (same c) zs) i))

pub all_pushes_there : (h : History) (cs : List Command) → list_all (has h) cs ≡ true → pushes h cs ≡ h
all_pushes_there h [] e = refl
all_pushes_there h (c ∷ cs) e = ap (λ u. pushes u cs) (push_there h c (fst_of (has h c) _ e)) ∙ all_pushes_there h cs (snd_of (has h c) _ e)

-- and stays
pub still_there : (h : History) (cs : List Command) (c : Command) → has h c ≡ true → has (pushes h cs) c ≡ true
still_there h [] c e = e
still_there h (x ∷ cs) c e = still_there (push h x) cs c (has-push h x c ∙ right_of (same c x) (has h c) e)

pub all_there_once_pushed : (h : History) (cs : List Command) → list_all (has (pushes h cs)) cs ≡ true
all_there_once_pushed h [] = refl
all_there_once_pushed h (c ∷ cs) = both (still_there (push h c) cs c (has-push h c c ∙ left_of (same c c) (has h c) (same_itself c))) (all_there_once_pushed (push h c) cs)
