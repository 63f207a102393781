-- A join of joins is one join after another.
use Rattle.std.proofs.Common.{◌≡◌, List, [], ◌∷◌, ◌++◌, refl, sym, ap, ◌∙◌}
use Rattle.gp_command.specs.declared.command.Command.{Command}
use Rattle.gp_history.specs.History.{History, pushes, empty}
use Rattle.gp_history.specs.Sequence.{history_of}
use Rattle.gp_history.specs.Canonical.{canonical}
use Rattle.gp_history.specs.Bounds.{join, joined}
use Rattle.gp_history.proofs.Joins.{history_of-empty, history_of-append, history_within, pushes-append}
use Rattle.gp_bounds.proofs.Joining.{join_of_pushes}

pub joins_as_pushes : (zs xs : List Command) → join (history_of zs) (history_of xs) ≡ pushes (history_of zs) xs
joins_as_pushes zs xs = sym (join_of_pushes (history_of zs) (history_within zs) xs)

pub join-append : (zs xs ys : List Command) → join (history_of zs) (history_of (xs ++ ys)) ≡ pushes (join (history_of zs) (history_of xs)) ys
join-append zs xs ys = joins_as_pushes zs (xs ++ ys) ∙ pushes-append (history_of zs) xs ys ∙ ap (λ u. pushes u ys) (sym (joins_as_pushes zs xs))

-- a join of a sequence's history is that of a longer sequence
pub longer : (xs : List Command) (h : History) → join (history_of xs) h ≡ history_of (xs ++ canonical h)
unfolding join
longer xs h = sym (history_of-append xs (canonical h))

pub one_join : (u h : History) → pushes u (canonical h) ≡ join u h
unfolding join
one_join u h = refl

pub join_of_joined : (zs xs : List Command) (hs : List History) → join (history_of zs) (joined (history_of xs) hs) ≡ joined (join (history_of zs) (history_of xs)) hs
join_of_joined zs xs [] = refl
join_of_joined zs xs (h ∷ hs) =
    ap (λ u. join (history_of zs) (joined u hs)) (longer xs h)
    ∙ join_of_joined zs (xs ++ canonical h) hs
    ∙ ap (λ u. joined u hs) (join-append zs xs (canonical h) ∙ one_join (join (history_of zs) (history_of xs)) h)

pub join_nothing : (zs : List Command) → join (history_of zs) empty ≡ history_of zs
join_nothing zs = ap (join (history_of zs)) (sym history_of-empty) ∙ joins_as_pushes zs []
