use Rattle.std.proofs.Common.{List, ◌+◌, length, sym, ap, ◌∙◌, arith}
use Rattle.std.specs.Prelude.{slice_get}
use Rattle.gp_command.specs.declared.command.Command.{Command}
use Rattle.gp_command.specs.declared.command.CommandId.{CommandId}
use Rattle.gp_history.specs.Sequence.{no_repeat}
use Rattle.gp_replica.specs.declared.reply.Reply.{Reply}
use Rattle.gp_bank.specs.Accounts.{Accounts}
use Rattle.gp_bank.specs.Drafts.{bank_op}
use Rattle.gp_bank.specs.Effects.{bank_rules}
use Rattle.gp_bank.specs.Sums.{held}
use Rattle.gp_bank.proofs.TotalLemmas.{replies_length, deposits_next, withdrawals_next, all_deposits, all_withdrawals, conserved_in}
use Rattle.gp_bank.proofs.summing.totals.Goals as goal

pub bounds-replies-place : goal.bounds-replies-place
bounds-replies-place c =
    let kept = ap (λ (rs : List (CommandId × Reply)). length rs) c.replies-replies.ensures ∙ replies_length bank_rules bank_rules.opening c.args.replica.now in
    let ran = c.len-place-end.ensures.items ∙ ap (λ (cs : List Command). length cs) c.ran-ran.ensures.ran in
    omega (arith, kept, ran, c.loop-place-test.true)

pub offset_bounds-replies-place : goal.offset_bounds-replies-place
offset_bounds-replies-place c =
    let kept = ap (λ (rs : List (CommandId × Reply)). length rs) c.replies-replies.ensures ∙ replies_length bank_rules bank_rules.opening c.args.replica.now in
    let ran = c.len-place-end.ensures.items ∙ ap (λ (cs : List Command). length cs) c.ran-ran.ensures.ran in
    omega (arith, kept, ran, c.loop-place-test.true, c.replies-replies.type_inv.1)

pub loop-place-preserved : goal.loop-place-preserved
loop-place-preserved c =
    let kept = ap (λ (rs : List (CommandId × Reply)). length rs) c.replies-replies.ensures ∙ replies_length bank_rules bank_rules.opening c.args.replica.now in
    let ran = c.len-place-end.ensures.items ∙ ap (λ (cs : List Command). length cs) c.ran-ran.ensures.ran in
    let there = sym (ap (λ (cs : List Command). slice_get cs c.loop-place.place) c.ran-ran.ensures.ran) ∙ c.at.ensures in
    let is = c.bank_op-op.ensures.exact ∙ ap bank_op c.draft.ensures in (
      deposits_next c.args.replica.now c.loop-place.place c.at.result.now c.bank_op-op.result c.loop-place.deposits c.from-deposits.result there is c.loop-place.invariant.0 (c.from-deposits.ensures ∙ c.brought.ensures),
      withdrawals_next c.args.replica.now c.replies-replies.result.now c.loop-place.place c.at.result.now c.bank_op-op.result c.loop-place.withdrawals c.from-withdrawals.result _ c.replies-replies.ensures there is
          (omega (arith, kept, ran, c.loop-place-test.true)) c.loop-place.invariant.1 (c.from-withdrawals.ensures ∙ c.taken.ensures),
      omega (arith, c.loop-place.invariant.2, c.from-deposits.ensures, c.brought.type_inv),
      omega (arith, c.loop-place.invariant.3, c.from-withdrawals.ensures, c.taken.type_inv),
    )

pub returns-clause-withdrawals : goal.returns-clause-withdrawals
returns-clause-withdrawals c =
    let ran = c.len-place-end.ensures.items ∙ ap (λ (cs : List Command). length cs) c.ran-ran.ensures.ran in
    all_withdrawals c.args.replica.now c.loop-place.place c.loop-place.withdrawals (omega (arith, ran, c.loop-place-test.false)) c.loop-place.invariant.1

pub returns-clause-conserved : goal.returns-clause-conserved
returns-clause-conserved c few =
    let ran = c.len-place-end.ensures.items ∙ ap (λ (cs : List Command). length cs) c.ran-ran.ensures.ran in
    let deposits = all_deposits c.args.replica.now c.loop-place.place c.loop-place.deposits (omega (arith, ran, c.loop-place-test.false)) c.loop-place.invariant.0 in
    let withdrawals = all_withdrawals c.args.replica.now c.loop-place.place c.loop-place.withdrawals (omega (arith, ran, c.loop-place-test.false)) c.loop-place.invariant.1 in
    let sum = c.held-held.ensures ∙ ap (λ (a : Accounts). held a) c.machine.ensures in
    (λ i. sum i + withdrawals i) ∙ conserved_in c.args.replica.now (sym (ap (λ (cs : List Command). no_repeat cs) c.ran-ran.ensures.ran) ∙ c.len-place-end.ensures.distinct) few ∙ sym deposits
