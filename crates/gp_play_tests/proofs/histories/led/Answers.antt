use Rattle.gp_play_tests.proofs.histories.led.Goals as goal

pub catch_up-requires-clause-identities : goal.catch_up-requires-clause-identities
catch_up-requires-clause-identities g c = c.has_distinct_ids.ensures.distinct c.if-not-has_distinct_ids.false
