use Rattle.std.proofs.Common.{◌≡◌, ◌+◌, ◌++◌, ℕ, List, [], length, sym, ap, subst, ◌∙◌, rules}
use Rattle.std.proofs.lemmas.List.{nil_from_length}
use Rattle.std.proofs.lemmas.Bool.{eqb-true}
use Rattle.std.proofs.lemmas.Result.{err_from_is_err_and}
use Rattle.gp_run.specs.Runs.{run_of, newest_first}
use Rattle.gp_world.specs.State.{WorldState, entries_of}
use Rattle.gp_words.specs.Lines.{lines_of}
use Rattle.gp_report.specs.Texts.{report_for}
use Rattle.gp_text.specs.Texts.{shown_text}
use Rattle.gp_text.specs.Reading.{nothing, said_so_far, follow, after_line, reading_in}
use Rattle.gp_replica.specs.Machines.{AreIndependent}
use Rattle.gp_text.proofs.SaidLegally.{said_legal, played_agreement}
use Rattle.gp_text.proofs.LineSteps.{no_lines, follow_end, follow_too_long, follow_goes, follow_stops, within_next}
use Rattle.gp_text.proofs.played.play_for.Goals as goal

pub loop-rest-init : goal.loop-rest-init
loop-rest-init g c =
    let o = c.in_ok-beginning.beginning in
    let made : c.new-playing.result.world ≡ record { config = o.config; records = [] } = c.new-playing.ensures.world ∙ c.in-Ok.ensures in
    let config = ap (λ (w : WorldState). w.config) made in
    record {
      sofar = nothing;
      stands = record {
        run = ap (λ (w : WorldState). entries_of w) made;
        offers = c.new-playing.ensures.offers;
        text = c.new-playing.ensures.text;
      };
      reads = ap (λ config. follow g.S.Service.profile.language config o.number o.place nothing (lines_of o.rest.now)) config ∙ sym (c.in_ok-beginning.ensures.opens g.S.Service.profile.language);
      within = record { near = c.in_ok-beginning.ensures.short.0; counted = c.in_ok-beginning.ensures.short.1; parts = c.in_ok-beginning.ensures.short.2 };
    }

pub returns-then-holds_limit-clause-plays : goal.returns-then-holds_limit-clause-plays
returns-then-holds_limit-clause-plays g c =
    let on = c.loop-rest.invariant in
    let config = c.loop-rest.playing.world.config in
    rw c.at.ensures (record {
      before = said_so_far config on.sofar;
      says = sym on.reads ∙ ap (λ lines. follow g.S.Service.profile.language config c.loop-rest.number c.loop-rest.place on.sofar lines) c.first_line.ensures.first ∙ follow_too_long g.S.Service.profile.language _ _ _ _ _ _ (search rules);
      run = ap newest_first c.into_records.ensures.value ∙ on.stands.run;
    })

pub returns-in-Err-clause-plays : goal.returns-in-Err-clause-plays
returns-in-Err-clause-plays g c =
    let on = c.loop-rest.invariant in
    let added = c.in-Err.ensures.added on.sofar on.stands in
    let config = c.loop-rest.playing.world.config in
    let fails = rw c.text_of.ensures at added.0 in
    let same = ap newest_first c.into_records-in-Err.ensures.value ∙ added.1 ∙ ap (λ d. run_of d on.sofar.events) c.in-Err.ensures.config in
    let stops = follow_stops g.S.Service.profile.language config c.loop-rest.number c.loop-rest.place on.sofar c.first_line.result.0.now (lines_of c.first_line.result.1.now) c.in-Err.why c.into_records-in-Err.result (search rules) fails same in
    rw (c.at-in-Err.ensures, ← on.reads, c.first_line.ensures.first) stops

pub loop-rest-preserved : goal.loop-rest-preserved
loop-rest-preserved g c =
    let on = c.loop-rest.invariant in
    let added = c.in_default-after_line.ensures.added on.sofar on.stands in
    let config = c.loop-rest.playing.world.config in
    let goes = follow_goes g.S.Service.profile.language config c.loop-rest.number c.loop-rest.place on.sofar added.0 c.first_line.result.0.now (lines_of c.first_line.result.1.now) (search rules)
    (ap (λ t. after_line g.S.Service.profile.language config on.sofar t) (sym c.text_of.ensures) ∙ added.1) in
    record {
      sofar = added.0;
      stands = added.2;
      reads = ap (λ d. follow g.S.Service.profile.language d (c.loop-rest.number + 1) (c.loop-rest.place + length c.first_line.result.0.now) added.0 (lines_of c.first_line.result.1.now)) c.in_default-after_line.ensures.config
          ∙ sym goes ∙ ap (λ lines. follow g.S.Service.profile.language config c.loop-rest.number c.loop-rest.place on.sofar lines) (sym c.first_line.ensures.first) ∙ on.reads;
      within = within_next c.args.bytes.now _ c.first_line.result.0.now c.first_line.result.1.now _ _ on.within c.first_line.ensures.parts c.first_line.ensures.some (search rules);
    }

pub returns-in-Ok-report_for-clause-plays : goal.returns-in-Ok-report_for-clause-plays
returns-in-Ok-report_for-clause-plays g c =
    let on = c.loop-rest.invariant in
    let config = c.loop-rest.playing.world.config in
    let ended : c.loop-rest.rest.now ≡ [] = nil_from_length c.loop-rest.rest.now (eqb-true _ _ (search rules)) in
    record {
      said = on.sofar;
      whole = sym on.reads ∙ ap (λ bytes. follow g.S.Service.profile.language config c.loop-rest.number c.loop-rest.place on.sofar (lines_of bytes)) ended
          ∙ ap (λ lines. follow g.S.Service.profile.language config c.loop-rest.number c.loop-rest.place on.sofar lines) no_lines ∙ follow_end g.S.Service.profile.language _ _ _ _;
      run = on.stands.run;
      text = c.in-Ok-report_for.ensures.written ∙ ap (λ (t : List ℕ). t ++ report_for g.S.Service.profile config (entries_of c.loop-rest.playing.world)) on.stands.text
          ∙ ap (λ es. shown_text config on.sofar.shown ++ report_for g.S.Service.profile config es) on.stands.run;
    }

pub returns-in-Ok-report_for-clause-agreement : goal.returns-in-Ok-report_for-clause-agreement
returns-in-Ok-report_for-clause-agreement g c = played_agreement g.S.Service.profile (reading_in g.S.Service.profile.language c.args.bytes.now) _ (said_legal g.S.Service.profile g.met.S.Service.known.spelled (subst AreIndependent (sym g.met.S.Service.known.same_rules) g.met.S.Machine.independent) c.args.bytes.now) (returns-in-Ok-report_for-clause-plays g c)

pub returns-in_err-beginning-clause-legal : goal.returns-in_err-beginning-clause-legal
returns-in_err-beginning-clause-legal g c = said_legal g.S.Service.profile g.met.S.Service.known.spelled (subst AreIndependent (sym g.met.S.Service.known.same_rules) g.met.S.Machine.independent) c.args.bytes.now

pub returns-in_default-clause-legal : goal.returns-in_default-clause-legal
returns-in_default-clause-legal g c = said_legal g.S.Service.profile g.met.S.Service.known.spelled (subst AreIndependent (sym g.met.S.Service.known.same_rules) g.met.S.Machine.independent) c.args.bytes.now

pub returns-then-holds_limit-clause-legal : goal.returns-then-holds_limit-clause-legal
returns-then-holds_limit-clause-legal g c = said_legal g.S.Service.profile g.met.S.Service.known.spelled (subst AreIndependent (sym g.met.S.Service.known.same_rules) g.met.S.Machine.independent) c.args.bytes.now

pub returns-in-Err-clause-legal : goal.returns-in-Err-clause-legal
returns-in-Err-clause-legal g c = said_legal g.S.Service.profile g.met.S.Service.known.spelled (subst AreIndependent (sym g.met.S.Service.known.same_rules) g.met.S.Machine.independent) c.args.bytes.now

pub returns-in-Ok-report_for-clause-legal : goal.returns-in-Ok-report_for-clause-legal
returns-in-Ok-report_for-clause-legal g c = said_legal g.S.Service.profile g.met.S.Service.known.spelled (subst AreIndependent (sym g.met.S.Service.known.same_rules) g.met.S.Machine.independent) c.args.bytes.now

pub returns-in-Err-report_for-clause-legal : goal.returns-in-Err-report_for-clause-legal
returns-in-Err-report_for-clause-legal g c = said_legal g.S.Service.profile g.met.S.Service.known.spelled (subst AreIndependent (sym g.met.S.Service.known.same_rules) g.met.S.Machine.independent) c.args.bytes.now

pub returns-in_err-beginning-clause-plays : goal.returns-in_err-beginning-clause-plays
returns-in_err-beginning-clause-plays g c =
    let p = err_from_is_err_and c.from_residual.result c.from_residual.ensures.1 in
    let stops = c.in_err-beginning.ensures.opens g.S.Service.profile.language in
    rw (p.1, p.2) stops
