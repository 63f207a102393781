use Rattle.gp_thread_tests.proofs.held_readers.is_held.Given as goal

abbrev pub ghosts-held : goal.ghosts-held
ghosts-held g a = record { feed = a.feed.now.feed }
