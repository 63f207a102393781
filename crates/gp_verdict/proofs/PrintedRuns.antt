-- What a run prints is upheld.
use Rattle.std.proofs.Common.{◌≡◌, ℕ, Bool, true, false, List, [], ◌∷◌, ◌++◌, Result, Ok, Err, refl, sym, ap, subst, ◌∙◌, append_assoc}
use Rattle.std.specs.Prelude.{codes, MatchResult}
use Rattle.std.specs.List.{flat_map, onto_first}
use Rattle.std.proofs.lemmas.List.{append-nil}
use Rattle.gp_round.specs.Counts.{Counts}
use Rattle.gp_round.specs.Ranges.{AreInRange}
use Rattle.gp_msg.specs.declared.event.Event.{Event}
use Rattle.gp_msg.specs.Messages.{Entry}
use Rattle.gp_run.specs.Legal.{Legal}
use Rattle.gp_run.specs.Runs.{run_of, oldest_first}
use Rattle.gp_run.proofs.Running.{own_run}
use Rattle.gp_words.specs.Lines.{is_line_feed, lines_of}
use Rattle.gp_world.specs.State.{entries_of}
use Rattle.gp_service.specs.Stores.{store_language}
use Rattle.gp_service.specs.StoreLaws.{store_spelled}
use Rattle.gp_script.specs.Spelling.{nodes_text}
use Rattle.gp_report.specs.Texts.{report}
use Rattle.gp_text.specs.Traces.{event_line, trace}
use Rattle.gp_text.specs.Limits.{IsWithinScript}
use Rattle.gp_text.proofs.LineSteps.{reading_opens}
use Rattle.gp_text.proofs.TraceReading.{trace_read}
use Rattle.gp_verdict.specs.declared.answer.Audited.{Audited}
use Rattle.gp_verdict.specs.declared.answer.Unaudited.{Unaudited}
use Rattle.gp_verdict.specs.declared.answer.Unaudited.TheVariants as unaudited
use Rattle.gp_verdict.specs.Parts.{texts_of}
use Rattle.gp_verdict.specs.Verdicts.{Upheld, Rejected, verdict}
use Rattle.gp_verdict.specs.Answers.{Audits, IsAudited}
use Rattle.gp_verdict.specs.Certified.{IsCertified}
use Rattle.gp_verdict.specs.Printed.{printed, IsPrinted, IsAuditedRun}
use Rattle.gp_verdict.proofs.UpheldInputs.{printed_upheld}
use Rattle.gp_verdict.proofs.PrintedSizes.{printed_size}

-- ---- a text that ends with a line feed, and another one after it

onto_append : (b : ℕ) (lines others : List (List ℕ)) (line : List ℕ) (more : List (List ℕ)) → lines ≡ line ∷ more → onto_first b (lines ++ others) ≡ onto_first b lines ++ others
onto_append b lines others line more is = rw is refl

-- the lines are not none
record IsSome (lines : List (List ℕ)) : Type 0 where
  line : List ℕ
  more : List (List ℕ)
  is : lines ≡ line ∷ more

fed_some_at : (b : ℕ) (bs : List ℕ) (feed : Bool) → is_line_feed b ≡ feed → IsSome (lines_of bs) → IsSome (lines_of (b ∷ bs))
unfolding lines_of
fed_some_at b bs true is s = record { line = b ∷ []; more = lines_of bs; is = rw is refl }
fed_some_at b bs false is s = record { line = b ∷ s.line; more = s.more; is = rw is (ap (onto_first b) s.is) }

fed_some : (bs : List ℕ) → IsSome (lines_of (bs ++ 10 ∷ []))
unfolding lines_of
fed_some [] = record { line = 10 ∷ []; more = []; is = refl }
fed_some (b ∷ bs) = fed_some_at b (bs ++ 10 ∷ []) (is_line_feed b) refl (fed_some bs)

fed_lines_at : (b : ℕ) (bs others : List ℕ) (feed : Bool) → is_line_feed b ≡ feed → lines_of (bs ++ 10 ∷ others) ≡ lines_of (bs ++ 10 ∷ []) ++ lines_of others
    → lines_of (b ∷ bs ++ 10 ∷ others) ≡ lines_of (b ∷ bs ++ 10 ∷ []) ++ lines_of others
unfolding lines_of
fed_lines_at b bs others true is ih = rw is (ap (λ (ls : List (List ℕ)). (b ∷ []) ∷ ls) ih)
fed_lines_at b bs others false is ih =
    let s = fed_some bs in
    rw is (ap (onto_first b) ih ∙ onto_append b (lines_of (bs ++ 10 ∷ [])) (lines_of others) s.line s.more s.is)

fed_lines : (bs others : List ℕ) → lines_of (bs ++ 10 ∷ others) ≡ lines_of (bs ++ 10 ∷ []) ++ lines_of others
unfolding lines_of
fed_lines [] others = refl
fed_lines (b ∷ bs) others = fed_lines_at b bs others (is_line_feed b) refl (fed_lines bs others)

-- ---- a trace ends with a line feed

-- the text has a line feed at its end
record IsFed (text : List ℕ) : Type 0 where
  before : List ℕ
  is : text ≡ before ++ 10 ∷ []

events_fed : (first : List ℕ) → IsFed first → (es : List Event) → IsFed (first ++ flat_map (λ event. event_line event ++ codes "\n") es)
events_fed first f [] = record { before = f.before; is = append-nil first ∙ f.is }
events_fed first f (e ∷ es) =
    let line = event_line e ++ 10 ∷ [] in
    let n = events_fed (first ++ line) (record { before = first ++ event_line e; is = sym (append_assoc first (event_line e) (10 ∷ [])) }) es in
    record { before = n.before; is = sym (append_assoc first line (flat_map (λ event. event_line event ++ codes "\n") es)) ∙ n.is }

trace_fed : (config : Counts) (es : List Event) → IsFed (trace config es)
unfolding trace
trace_fed config es =
    let n = events_fed (nodes_text config ++ 10 ∷ []) (record { before = nodes_text config; is = refl }) es in
    record { before = n.before; is = n.is }

after_fed : (text others : List ℕ) → IsFed text → lines_of (text ++ others) ≡ lines_of text ++ lines_of others
after_fed text others f =
    ap (λ (t : List ℕ). lines_of (t ++ others)) f.is ∙ ap lines_of (append_assoc f.before (10 ∷ []) others) ∙ fed_lines f.before others
    ∙ ap (λ (t : List ℕ). lines_of t ++ lines_of others) (sym f.is)

-- ---- what a run prints

divider_first : (others : List ℕ) → lines_of (codes "--\n" ++ others) ≡ codes "--\n" ∷ lines_of others
unfolding lines_of
divider_first others = refl

printed_lines : (config : Counts) (run : List Entry) → lines_of (printed config run) ≡ lines_of (trace config (oldest_first run)) ++ codes "--\n" ∷ lines_of (report config run)
printed_lines config run =
    ap lines_of (append_assoc (trace config (oldest_first run)) (codes "--\n") (report config run))
    ∙ after_fed (trace config (oldest_first run)) (codes "--\n" ++ report config run) (trace_fed config (oldest_first run))
    ∙ ap (λ (ls : List (List ℕ)). lines_of (trace config (oldest_first run)) ++ ls) (divider_first (report config run))

run_printed : (config : Counts) (run : List Entry) → AreInRange config.acceptors config.coordinators config.learners → Legal config run → IsWithinScript store_language (oldest_first run)
    → IsPrinted (printed config run) config (oldest_first run)
run_printed config run range legal within = record {
  short = printed_size config run range legal within;
  script = lines_of (trace config (oldest_first run));
  divider = codes "--\n";
  reported = lines_of (report config run);
  lines = printed_lines config run;
  says = reading_opens store_language (trace config (oldest_first run)) ∙ trace_read store_language store_spelled config run range legal within;
  divides = refl;
  reports = ap (λ es. texts_of (lines_of (report config es))) (sym (own_run config run legal));
}

pub run_upheld : (config : Counts) (run : List Entry) → AreInRange config.acceptors config.coordinators config.learners → Legal config run → IsWithinScript store_language (oldest_first run)
    → verdict (printed config run) ≡ Upheld config (oldest_first run)
run_upheld config run range legal within = printed_upheld (printed config run) config (oldest_first run) (run_printed config run range legal within)

audited_run : (config : Counts) (run : List Entry) (audited : Audited) → Legal config run → IsAudited (Upheld config (oldest_first run)) audited → IsAuditedRun config run audited
audited_run config run audited legal a =
    let u = a.upheld in
    let ruled : Upheld config (oldest_first run) ≡ Upheld audited.world.config u.events = u.ruled in
    let config_is : config ≡ audited.world.config = cc in
    let events_are : oldest_first run ≡ u.events = cc in
    let run_is : entries_of audited.world ≡ run = u.run ∙ ap (λ c. run_of c u.events) (sym config_is) ∙ ap (run_of config) (sym events_are) ∙ own_run config run legal in
    record {
      config_is = sym config_is;
      run_is = run_is;
      certified = subst (λ es. IsCertified config es audited.text.items) run_is (subst (λ c. IsCertified c (entries_of audited.world) audited.text.items) (sym config_is) a.certified);
    }

refused_run : (config : Counts) (events : List Event) (why : Unaudited) → Audits (Upheld config events) (Err why) → why ≡ unaudited.NoMemory
refused_run config events unaudited.NoMemory refuses = refl
refused_run config events (unaudited.Bad line why records) refuses =
    let before = refuses.before in
    let ruled : Upheld config events ≡ Rejected line why before = refuses.ruled in
    absurd cc

pub run_audited : (config : Counts) (run : List Entry) (result : Result Audited Unaudited) → AreInRange config.acceptors config.coordinators config.learners → Legal config run → IsWithinScript store_language (oldest_first run)
    → Audits (verdict (printed config run)) result → MatchResult result (IsAuditedRun config run) (λ e. e ≡ unaudited.NoMemory)
run_audited config run (Ok audited) range legal within audits = audited_run config run audited legal (subst (λ v. IsAudited v audited) (run_upheld config run range legal within) audits)
run_audited config run (Err why) range legal within audits = refused_run config (oldest_first run) why (subst (λ v. Audits v (Err why)) (run_upheld config run range legal within) audits)
