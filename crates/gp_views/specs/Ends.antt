-- What contracts see of feeds, readers and notes.
use Rattle.std.specs.Prelude.{List}
use Rattle.gp_command.specs.declared.command.Command.{Command}
use Rattle.logbook.specs.Pages.{Book}

-- a feed, and a list that it has published; for the feed itself, the last one
pub record Published : Type 0 where
  pub feed : Book
  pub list : List Command

-- the reader's feed, the commands that it has seen, and the longest list that it learned from a note
pub record ReaderView : Type 0 where
  pub feed : Book
  pub seen : List Command
  pub told : List Command
