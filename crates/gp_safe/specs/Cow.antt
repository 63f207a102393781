-- The value of a history that is borrowed or owned.
use Rattle.gp_history.specs.History.{History}
use Rattle.gp_history.specs.Sequence.{history_of}
use Rattle.gp_safe.specs.declared.cow.HistoryCow.{HistoryCow}
use Rattle.gp_safe.specs.declared.cow.HistoryCow.TheVariants.{Borrowed, Owned}

abbrev pub cow_history : HistoryCow → History
cow_history (Borrowed h) = history_of h.now
cow_history (Owned h) = history_of h
