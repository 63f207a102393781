-- Agreement of a loose list of events: what learners show at any moments.
use Rattle.std.specs.Prelude.{◌≡◌, ℕ, List, [], ◌∷◌, ◌++◌}
use Rattle.gp_cstructs.specs.CStructs.{Compatible}
use Rattle.gp_cstructs.specs.Tables.{Tables}
use Rattle.gp_cstructs.specs.Loose.{Event, LearnerFalls, run}
use Rattle.gp_cstructs.specs.Facts.{Heard}

-- what learner i shows after these events
abbrev pub shown : (T : Tables) → List (Event T) → ℕ → T.Value
shown T es i = ((run T es).learners i).learned

abbrev pub IsNoFall : (T : Tables) → ℕ → Event T → Type 0
IsNoFall T i (LearnerFalls j) = (i ≡ j) → ⊥
IsNoFall T i _ = Unit {0}

-- learner i does not crash in these events
abbrev pub LivesOn : (T : Tables) → ℕ → List (Event T) → Type 0
LivesOn T i [] = Unit {0}
LivesOn T i (e ∷ es) = IsNoFall T i e × LivesOn T i es

pub record AgreesLoosely (T : Tables) (es : List (Event T)) : Type 0 where
  -- any two values that learners show at any moments are compatible
  pub compatible : (xs ys us vs : List (Event T)) → xs ++ ys ≡ es → us ++ vs ≡ es → (i j : ℕ) → Compatible T.prefix (shown T ys i) (shown T vs j)
  -- what a learner shows grows while it does not crash
  pub grows : (xs ys zs : List (Event T)) → xs ++ (ys ++ zs) ≡ es → (i : ℕ) → LivesOn T i ys → T.prefix (shown T zs i) (shown T (ys ++ zs) i)
  -- it is the least upper bound of what the learner heard
  pub has_all : (xs ys : List (Event T)) → xs ++ ys ≡ es → (i : ℕ) (u : T.Value) → Heard T ((run T ys).learners i).taken u → T.prefix u (shown T ys i)
  pub has_no_more : (xs ys : List (Event T)) → xs ++ ys ≡ es → (i : ℕ) (z : T.Value) → ((u : T.Value) → Heard T ((run T ys).learners i).taken u → T.prefix u z) → T.prefix (shown T ys i) z
