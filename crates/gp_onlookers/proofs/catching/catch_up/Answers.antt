use Rattle.std.proofs.Common.{rules}
use Rattle.gp_onlookers.proofs.Looking.{goes_on}
use Rattle.gp_onlookers.proofs.catching.catch_up.Goals as goal

pub returns-in_err-catch_up-clause-more : goal.returns-in_err-catch_up-clause-more
returns-in_err-catch_up-clause-more c = goes_on c.args.replica.now c.catch_up.new.self c.catch_up.ensures.order.start

pub returns-clause-more : goal.returns-clause-more
returns-clause-more c = goes_on c.args.replica.now c.catch_up.new.self c.catch_up.ensures.order.start

pub catch_up-requires-clause-identities : goal.catch_up-requires-clause-identities
catch_up-requires-clause-identities c = c.has_distinct_ids.ensures.distinct c.if-not-has_distinct_ids.false

pub catch_up-requires-clause-prefix : goal.catch_up-requires-clause-prefix
catch_up-requires-clause-prefix c = search rules
