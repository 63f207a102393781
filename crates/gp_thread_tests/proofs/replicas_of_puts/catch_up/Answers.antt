use Rattle.std.proofs.Common.{◌≡◌, List, ◌++◌, length, take, drop, ap, sym, ◌∙◌}
use Rattle.std.proofs.lemmas.List.{take-append-drop}
use Rattle.gp_command.specs.declared.command.Command.{Command}
use Rattle.gp_views.specs.Lists.{Extends}
use Rattle.gp_thread_tests.proofs.replicas_of_puts.catch_up.Goals as goal

goes_on : (before after : List Command) → take (length before) after ≡ before → Extends after before
goes_on before after start = (drop (length before) after, sym (take-append-drop (length before) after) ∙ ap (λ (z : List Command). z ++ drop (length before) after) start)

pub returns-in_err-catch_up : goal.returns-in_err-catch_up
returns-in_err-catch_up g c = goes_on c.args.replica.now c.catch_up.new.self c.catch_up.ensures.order.start

pub returns : goal.returns
returns g c = goes_on c.args.replica.now c.catch_up.new.self c.catch_up.ensures.order.start

pub catch_up-requires-clause-identities : goal.catch_up-requires-clause-identities
catch_up-requires-clause-identities g c = c.has_distinct_ids.ensures.distinct c.if-not-has_distinct_ids.false
