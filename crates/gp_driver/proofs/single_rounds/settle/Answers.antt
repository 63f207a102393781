-- The steps, one after another, lead to the settled run.
use Rattle.std.proofs.Common.{length, ap, ◌∙◌, arith}
use Rattle.std.proofs.lemmas.Result.{err_from_is_err_and}
use Rattle.gp_driver.proofs.SettleCode.{brings, finals_fit, prepared_fits, sweep_fits, proposals_fit, can_begin, passes_settle, steps_fit, range_of}
use Rattle.gp_driver.proofs.Going.{failed_on, goes_on}
use Rattle.gp_driver.proofs.single_rounds.settle.Goals as goal

pub take_finals-requires-clause-room : goal.take_finals-requires-clause-room
take_finals-requires-clause-room g c =
    let a = finals_fit (g.S.Stage.state c.args.stage.now).config (g.S.Stage.state c.args.stage.now).run in
    let b = prepared_fits (g.S.Stage.state c.args.stage.now).config (g.S.Stage.state c.args.stage.now).run in
    let r = c.requires.room in
    omega (arith, a, b, r)

pub sweep-requires-clause-room : goal.sweep-requires-clause-room
sweep-requires-clause-room g c =
    let x = c.in_ok-finals.ensures.driven in
    let a = sweep_fits (g.S.Stage.state c.args.stage.now).config (g.S.Stage.state c.args.stage.now).run _ _ x.same_config x.outcome.0 in
    let r = c.requires.room in
    omega (arith, a, r)

pub overflow_add-proposals : goal.overflow_add-proposals
overflow_add-proposals g c =
    let b = brings (g.S.Stage.state c.args.stage.now).config (range_of _ _ c.config_of-config.ensures.same c.config_of-config.ensures.range) (g.S.Stage.state c.args.stage.now).run c.requires.legal c.requires.rounds in
    let x = c.in_ok-finals.ensures.driven in
    let y = c.in_ok-proposals.ensures.driven in
    let a = proposals_fit _ (range_of _ _ c.config_of-config.ensures.same c.config_of-config.ensures.range) (g.S.Stage.state c.args.stage.now).run c.requires.legal b _ _ _ _ _ _ x.same_config x.outcome.0 x.outcome.1 y.same_config y.outcome.0 y.outcome.1 in
    let r = c.requires.room in
    record { fits = omega (arith, a, r) }

pub make_passes-requires-clause-can : goal.make_passes-requires-clause-can
make_passes-requires-clause-can g c =
    let b = brings (g.S.Stage.state c.args.stage.now).config (range_of _ _ c.config_of-config.ensures.same c.config_of-config.ensures.range) (g.S.Stage.state c.args.stage.now).run c.requires.legal c.requires.rounds in
    let x = c.in_ok-finals.ensures.driven in
    let y = c.in_ok-proposals.ensures.driven in
    can_begin _ (range_of _ _ c.config_of-config.ensures.same c.config_of-config.ensures.range) (g.S.Stage.state c.args.stage.now).run c.requires.legal b _ _ _ _ _ _ x.same_config x.outcome.0 x.outcome.1 y.same_config y.outcome.0 y.outcome.1

pub make_passes-requires-clause-room : goal.make_passes-requires-clause-room
make_passes-requires-clause-room g c =
    let b = brings (g.S.Stage.state c.args.stage.now).config (range_of _ _ c.config_of-config.ensures.same c.config_of-config.ensures.range) (g.S.Stage.state c.args.stage.now).run c.requires.legal c.requires.rounds in
    let x = c.in_ok-finals.ensures.driven in
    let y = c.in_ok-proposals.ensures.driven in
    let a = ap length (passes_settle _ (range_of _ _ c.config_of-config.ensures.same c.config_of-config.ensures.range) (g.S.Stage.state c.args.stage.now).run c.requires.legal b _ _ _ _ _ _ x.same_config x.outcome.0 x.outcome.1 y.same_config y.outcome.0 y.outcome.1) in
    let r = c.requires.room in
    omega (arith, a, r)

pub overflow_add-result : goal.overflow_add-result
overflow_add-result g c =
    let b = brings (g.S.Stage.state c.args.stage.now).config (range_of _ _ c.config_of-config.ensures.same c.config_of-config.ensures.range) (g.S.Stage.state c.args.stage.now).run c.requires.legal c.requires.rounds in
    let x = c.in_ok-finals.ensures.driven in
    let y = c.in_ok-proposals.ensures.driven in
    let z = c.in_ok-passes.ensures.driven in
    let a = steps_fit _ (range_of _ _ c.config_of-config.ensures.same c.config_of-config.ensures.range) (g.S.Stage.state c.args.stage.now).run c.requires.legal b _ _ _ _ _ _ x.same_config x.outcome.0 x.outcome.1 y.same_config y.outcome.0 y.outcome.1 _ _ z.outcome.0 z.outcome.1 in
    let r = c.requires.room in
    record { fits = omega (arith, a, r) }

pub overflow_add-result-2 : goal.overflow_add-result-2
overflow_add-result-2 g c =
    let b = brings (g.S.Stage.state c.args.stage.now).config (range_of _ _ c.config_of-config.ensures.same c.config_of-config.ensures.range) (g.S.Stage.state c.args.stage.now).run c.requires.legal c.requires.rounds in
    let x = c.in_ok-finals.ensures.driven in
    let y = c.in_ok-proposals.ensures.driven in
    let z = c.in_ok-passes.ensures.driven in
    let a = steps_fit _ (range_of _ _ c.config_of-config.ensures.same c.config_of-config.ensures.range) (g.S.Stage.state c.args.stage.now).run c.requires.legal b _ _ _ _ _ _ x.same_config x.outcome.0 x.outcome.1 y.same_config y.outcome.0 y.outcome.1 _ _ z.outcome.0 z.outcome.1 in
    let r = c.requires.room in
    record { fits = omega (arith, a, r) }

pub returns-clause-driven : goal.returns-clause-driven
returns-clause-driven g c =
    let range = range_of _ _ c.config_of-config.ensures.same c.config_of-config.ensures.range in
    let b = brings (g.S.Stage.state c.args.stage.now).config range (g.S.Stage.state c.args.stage.now).run c.requires.legal c.requires.rounds in
    let x = c.in_ok-finals.ensures.driven in
    let y = c.in_ok-proposals.ensures.driven in
    let z = c.in_ok-passes.ensures.driven in
    let l1 = x.steady in
    let l2 = y.steady in
    let l3 = z.steady in
    let m1 = x.outcome.1 in
    let m2 = y.outcome.1 in
    let m3 = z.outcome.1 in
    record {
      same_config = z.same_config ∙ y.same_config ∙ x.same_config;
      later = omega (arith, l1, l2, l3);
      steady = l3 ∙ l2 ∙ l1;
      outcome = (
        z.outcome.0 ∙ passes_settle _ range (g.S.Stage.state c.args.stage.now).run c.requires.legal b _ _ _ _ _ _ x.same_config x.outcome.0 x.outcome.1 y.same_config y.outcome.0 y.outcome.1,
        omega (arith, m1, m2, m3),
        z.outcome.2,
      );
    }

pub returns-in_err-finals-clause-brings : goal.returns-in_err-finals-clause-brings
returns-in_err-finals-clause-brings g c = brings (g.S.Stage.state c.args.stage.now).config (range_of _ _ c.config_of-config.ensures.same c.config_of-config.ensures.range) (g.S.Stage.state c.args.stage.now).run c.requires.legal c.requires.rounds

pub returns-in_err-proposals-clause-brings : goal.returns-in_err-proposals-clause-brings
returns-in_err-proposals-clause-brings g c = brings (g.S.Stage.state c.args.stage.now).config (range_of _ _ c.config_of-config.ensures.same c.config_of-config.ensures.range) (g.S.Stage.state c.args.stage.now).run c.requires.legal c.requires.rounds

pub returns-in_err-passes-clause-brings : goal.returns-in_err-passes-clause-brings
returns-in_err-passes-clause-brings g c = brings (g.S.Stage.state c.args.stage.now).config (range_of _ _ c.config_of-config.ensures.same c.config_of-config.ensures.range) (g.S.Stage.state c.args.stage.now).run c.requires.legal c.requires.rounds

pub returns-clause-brings : goal.returns-clause-brings
returns-clause-brings g c = brings (g.S.Stage.state c.args.stage.now).config (range_of _ _ c.config_of-config.ensures.same c.config_of-config.ensures.range) (g.S.Stage.state c.args.stage.now).run c.requires.legal c.requires.rounds

pub returns-in_err-proposals-clause-goes : goal.returns-in_err-proposals-clause-goes
returns-in_err-proposals-clause-goes g c = goes_on _ _ _ _ c.in_ok-finals.ensures.goes c.in_err-proposals.ensures.goes

pub returns-in_err-passes-clause-goes : goal.returns-in_err-passes-clause-goes
returns-in_err-passes-clause-goes g c = goes_on _ _ _ _ (goes_on _ _ _ _ c.in_ok-finals.ensures.goes c.in_ok-proposals.ensures.goes) c.in_err-passes.ensures.goes

pub returns-clause-goes : goal.returns-clause-goes
returns-clause-goes g c = goes_on _ _ _ _ (goes_on _ _ _ _ c.in_ok-finals.ensures.goes c.in_ok-proposals.ensures.goes) c.in_ok-passes.ensures.goes

pub returns-in_err-proposals-clause-failed : goal.returns-in_err-proposals-clause-failed
returns-in_err-proposals-clause-failed g c =
    let p = err_from_is_err_and c.from_residual-in_err-proposals.result c.from_residual-in_err-proposals.ensures.1 in
    rw (p.1, p.2) (failed_on _ _ _ _ _ c.in_ok-finals.ensures.goes.nodes c.in_ok-finals.ensures.failed.steady c.in_err-proposals.ensures.failed)

pub returns-in_err-passes-clause-failed : goal.returns-in_err-passes-clause-failed
returns-in_err-passes-clause-failed g c =
    let p = err_from_is_err_and c.from_residual-in_err-passes.result c.from_residual-in_err-passes.ensures.1 in
    rw (p.1, p.2) (failed_on _ _ _ _ _ (goes_on _ _ _ _ c.in_ok-finals.ensures.goes c.in_ok-proposals.ensures.goes).nodes (c.in_ok-proposals.ensures.failed.steady ∙ c.in_ok-finals.ensures.failed.steady) c.in_err-passes.ensures.failed)
