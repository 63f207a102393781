-- Names of feeds.
use Rattle.logbook.specs.Pages.{Book}

-- the name of no feed
abbrev pub no_feed : Book
no_feed = record { number = 0; log_name = 0; cells_name = 0 }
