use Rattle.std.proofs.Common.{◌≡◌, ◌+◌, length, rules}
use Rattle.gp_edge.proofs.Grown.{written_back}
use Rattle.gp_edge.proofs.medium.write_over.Goals as goal

pub returns-clause-written : goal.returns-clause-written
returns-clause-written c =
    let place : c.in-Some.end ≡ c.args.at + length c.args.from.now = search rules in
    written_back c.args.at c.grow.new.bytes.len c.in-Some.end c.args.from.now c.args.bytes.now.items c.as_mut_slice.result.now c.overwrite.new.bytes c.grow.new.bytes.items place c.as_mut_slice.ensures.value c.as_mut_slice.ensures.len c.in_ok-grow.ensures.grown c.overwrite.ensures
