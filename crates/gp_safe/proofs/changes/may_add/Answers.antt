use Rattle.std.proofs.Common.{Bool, arith, rules}
use Rattle.gp_command.specs.declared.command.Command.{Command}
use Rattle.gp_history.specs.Sequence.{history_of}
use Rattle.gp_safe.specs.Changes.{may_add}
use Rattle.gp_safe.proofs.Changing.{none_from, too_few}
use Rattle.gp_safe.proofs.changes.may_add.Goals as goal

pub returns-then-count_there-size-clause-nothing : goal.returns-then-count_there-size-clause-nothing
returns-then-count_there-size-clause-nothing g c = λ _ k d a e. too_few (history_of c.args.known.now) (g.V.Values.value c.args.values.now) (g.V.Values.within c.args.values.now) c.args.n c.args.size d (omega (arith, c.count_there.ensures.count, c.if-count_there-size.true))

pub returns-clause-nothing : goal.returns-clause-nothing
returns-clause-nothing g c = λ _.
    let q : Command → Bool = may_add (history_of c.args.known.now) (g.V.Values.value c.args.values.now) (g.V.Values.within c.args.values.now) c.args.n c.args.size in
    none_from q c.args.value.now c.args.from c.loop-i.i c.loop-i.invariant (omega (arith, c.len-end.ensures.items, c.loop-i-test.false))

pub loop-i-preserved : goal.loop-i-preserved
loop-i-preserved g c = search rules
