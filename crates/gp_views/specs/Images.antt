-- What changes do to an image, and which commands it has run after them.
use Rattle.std.specs.Prelude.{◌≡◌, ◌+◌, List, [], ◌∷◌, ◌++◌, length, fold}
use Rattle.gp_command.specs.declared.command.Command.{Command}
use Rattle.gp_replica.specs.Machines.{state_after}
use Rattle.gp_store.specs.Effects.{after_command, store_rules}
use Rattle.gp_views.specs.declared.image.Shown.{Shown}
use Rattle.gp_views.specs.declared.image.Image.{Image}
use Rattle.gp_views.specs.declared.image.Change.{Change}
use Rattle.gp_views.specs.declared.image.Change.TheVariants.{Restart, Run, Reach}

-- what both copies have in common
abbrev pub shown_of : Image → Shown
shown_of x = record { store = x.store; count = x.count; goal = x.goal }

abbrev pub changed : Shown → Change → Shown
changed s Restart = record s { store = store_rules.opening; count = 0 }
changed s (Run c) = record s { store = after_command s.store c; count = s.count + 1 }
changed s (Reach b) = record s { goal = b }

-- the commands that were run: first these, and then those of the changes
abbrev pub listed : List Command → List Change → List Command
listed cs [] = cs
listed cs (Restart ∷ changes) = listed [] changes
listed cs (Run c ∷ changes) = listed (cs ++ c ∷ []) changes
listed cs (Reach b ∷ changes) = listed cs changes

-- the store is the state after these commands, and the count is their number
pub record HasRun (s : Shown) (cs : List Command) : Type 0 where
  pub store : s.store ≡ state_after store_rules cs
  pub count : s.count ≡ length cs

-- it has run the list that it represents
abbrev pub IsWhole : Shown → Type 0
IsWhole s = HasRun s s.goal.list

-- the image after the changes is of the same feed, and has run the list that it represents
pub record MayFollow (s : Shown) (changes : List Change) : Type 0 where
  pub feed : (fold changed s changes).goal.feed ≡ s.goal.feed
  pub whole : IsWhole (fold changed s changes)
