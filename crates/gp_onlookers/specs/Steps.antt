-- What a look does to a watcher.
use Rattle.std.specs.Prelude.{◌≡◌, true, [], ◌∷◌, ◌++◌, Result, OnOk, OnErr}
use Rattle.gp_memory.specs.declared.memory.NoMemory.{NoMemory}
use Rattle.gp_views.specs.Lists.{Extends}
use Rattle.gp_onlookers.specs.Ends.{WatcherView}
use Rattle.gp_onlookers.specs.Looks.{look_after}

-- a read, which sees no less than before and what the reader was notified of, and one more look, if it could be kept
pub record HasLookedOnce (before : WatcherView) (result : Result (Unit {0}) NoMemory) (after : WatcherView) : Type 0 where
  pub key : after.key ≡ before.key
  pub feed : after.feed ≡ before.feed
  pub told : after.told ≡ before.told
  pub later : Extends after.seen before.seen
  pub as_told : Extends after.seen before.told
  pub kept : OnOk result ((after.looks ≡ before.looks ++ look_after before.key after.seen ∷ []) × (after.failed ≡ before.failed))
  pub lost : OnErr result ((after.looks ≡ before.looks) × (after.failed ≡ true))
