use Rattle.std.specs.Prelude.{decimal}
use Rattle.gp_replica.proofs.Steps.{on_err}
use Rattle.gp_words.proofs.BeginningLemmas.{none_begun, more_begun}
use Rattle.gp_service.specs.Banks.{amount_text}
use Rattle.gp_service.proofs.bank.push_amount.Goals as goal

pub returns-in_err-extend_from_slice-clause-begun : goal.returns-in_err-extend_from_slice-clause-begun
returns-in_err-extend_from_slice-clause-begun c =
    on_err c.from_residual.result (none_begun c.args.to.now.items c.extend_from_slice.new.self.items (amount_text c.args.name.now c.args.amount) c.in_err-extend_from_slice.ensures.items)

pub returns-in_err-extend_from_slice-2-clause-begun : goal.returns-in_err-extend_from_slice-2-clause-begun
unfolding amount_text
returns-in_err-extend_from_slice-2-clause-begun c =
    on_err c.from_residual-in_err-extend_from_slice-2.result
    (more_begun c.args.to.now.items c.extend_from_slice.new.self.items c.extend_from_slice-2.new.self.items c.args.name.now (decimal c.args.amount) c.in_ok-extend_from_slice.ensures.items
    (none_begun c.extend_from_slice.new.self.items c.extend_from_slice-2.new.self.items (decimal c.args.amount) c.in_err-extend_from_slice-2.ensures.items))
