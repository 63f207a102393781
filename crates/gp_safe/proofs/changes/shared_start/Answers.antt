use Rattle.std.proofs.Common.{ap, ◌∙◌}
use Rattle.std.specs.Option.{option_map, option_copied}
use Rattle.gp_history.specs.Sequence.{history_of}
use Rattle.gp_safe.proofs.Changing.{from_start}
use Rattle.gp_safe.proofs.changes.shared_start.Goals as goal

pub returns-then-from-len-clause-old : goal.returns-then-from-len-clause-old
returns-then-from-len-clause-old c =
    from_start c.in-Some.old.now c.args.new.now (option_map history_of (option_copied c.args.old)) c.common_start-from.result (ap (λ o. option_map history_of (option_copied o)) c.in-Some.is) c.common_start-from.ensures.alike (c.if-from-len.true ∙ c.len.ensures.items)
