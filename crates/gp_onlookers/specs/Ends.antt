-- What contracts see of publishers and watchers.
use Rattle.std.specs.Prelude.{◌≡◌, ℕ, Bool, false, List}
use Rattle.logbook.specs.Pages.{Book}
use Rattle.gp_command.specs.declared.command.Command.{Command}
use Rattle.gp_phase.specs.Beside.{Topics}
use Rattle.gp_onlookers.specs.declared.looks.Look.{Look}

-- the feed of a publisher, the commands that its replica ran, and whether it once could not catch up or publish
pub record PublisherView : Type 0 where
  pub feed : Book
  pub ran : List Command
  pub failed : Bool

-- the key, the feed of the reader, the commands that it has seen, those that it was notified of, the looks, and whether one more could not be kept
pub record WatcherView : Type 0 where
  pub key : List ℕ
  pub feed : Book
  pub seen : List Command
  pub told : List Command
  pub looks : List Look
  pub failed : Bool

-- what a watcher is about: the key, and the feed of its reader
pub record WatcherTopic : Type 0 where
  pub key : List ℕ
  pub feed : Book

abbrev pub topic_of : WatcherView → WatcherTopic
topic_of watcher = record { key = watcher.key; feed = watcher.feed }

-- both watch the key, by readers of the publisher's feed
pub record AreWatching (key : List ℕ) (topics : Topics Book WatcherTopic) : Type 0 where
  pub first : topics.first ≡ record { key = key; feed = topics.main }
  pub second : topics.second ≡ record { key = key; feed = topics.main }

-- the publisher always caught up and published, and each look was kept
pub record HasFailedNowhere (publisher : PublisherView) (first second : WatcherView) : Type 0 where
  pub published : publisher.failed ≡ false
  pub first_kept : first.failed ≡ false
  pub second_kept : second.failed ≡ false
