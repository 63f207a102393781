use Rattle.gp_role_cases.proofs.replicas.caught_up.Goals as goal

pub catch_up-requires-clause-identities : goal.catch_up-requires-clause-identities
catch_up-requires-clause-identities c = c.has_distinct_ids.ensures.distinct c.if-not-has_distinct_ids.false
