use Rattle.std.proofs.Common.{◌≡◌, true, List, length, ap, sym, ◌∙◌}
use Rattle.gp_command.specs.declared.command.Command.{Command}
use Rattle.gp_history.specs.Sequence.{no_repeat}
use Rattle.gp_replica.proofs.Histories.{state_is}
use Rattle.gp_store.specs.Commuting.{independent}
use Rattle.gp_store.specs.Effects.{store_rules}
use Rattle.gp_store.specs.Pairs.{Pairs, value_at}
use Rattle.gp_onlookers.proofs.Looking.{same_look}
use Rattle.gp_onlookers.proofs.onlookers.end_of.Goals as goal

pub returns-clause-end : goal.returns-clause-end
returns-clause-end c =
    let ran : List Command = c.args.replica.now in
    let distinct : no_repeat ran ≡ true = ap no_repeat (sym c.ran.ensures.ran) ∙ c.len.ensures.distinct in
    let count = c.len.ensures.items ∙ ap (λ (cs : List Command). length cs) c.ran.ensures.ran in
    let state = c.machine.ensures ∙ sym (state_is store_rules independent ran distinct) in
    same_look c.args.key ran c.len.result c.get.result count (c.get.ensures ∙ ap (λ (pairs : Pairs). value_at pairs c.args.key) state)
