-- How many bytes a run prints that a script can say.
use Rattle.std.proofs.Common.{◌≡◌, ◌≤◌, List, [], ◌∷◌, ◌++◌, length, ap, ◌∙◌, arith}
use Rattle.std.specs.Prelude.{codes}
use Rattle.std.proofs.lemmas.List.{length-append}
use Rattle.gp_round.specs.Counts.{Counts}
use Rattle.gp_round.specs.Ranges.{AreInRange}
use Rattle.gp_msg.specs.Messages.{Entry}
use Rattle.gp_run.specs.Legal.{Legal, sent_by}
use Rattle.gp_run.specs.Messages.{messages}
use Rattle.gp_msg.specs.Nodes.{node_of}
use Rattle.gp_run.specs.Runs.{oldest_first}
use Rattle.gp_run.proofs.Running.{events-cons}
use Rattle.gp_service.specs.Stores.{store_language}
use Rattle.gp_report.specs.Texts.{report}
use Rattle.gp_text.specs.declared.limits.TheConstants.{MOST_BYTES}
use Rattle.gp_text.specs.Traces.{trace}
use Rattle.gp_text.specs.Limits.{IsWithinScript}
use Rattle.gp_text.proofs.TraceReading.{one_sent}
use Rattle.gp_verdict.specs.Printed.{printed}
use Rattle.gp_verdict.proofs.TraceSizes.{trace_size}
use Rattle.gp_verdict.proofs.ReportSizes.{report_size}

-- a run has as many events as entries, and no more messages
counted : (run : List Entry) → length (oldest_first run) ≡ length run
counted [] = omega arith
counted (e ∷ es) =
    let rest = counted es in
    let first = ap length (events-cons e es) ∙ length-append (oldest_first es) (e.event ∷ []) in
    omega (arith, rest, first)

few_messages : (config : Counts) (run : List Entry) → Legal config run → length (messages run) ≤ length run
few_messages config [] legal = omega arith
few_messages config (e ∷ es) legal =
    let rest = few_messages config es legal.0 in
    let own = ap length legal.1.own_messages in
    let one = one_sent (sent_by config es (node_of e.event) e.event) in
    let sum = length-append (messages es) e.sent in
    omega (arith, rest, own, one, sum)

pub printed_size : (config : Counts) (run : List Entry) → AreInRange config.acceptors config.coordinators config.learners → Legal config run → IsWithinScript store_language (oldest_first run) → length (printed config run) ≤ MOST_BYTES
printed_size config run range legal within =
    let few = within.few in
    let offers = within.few_offers in
    let many = counted run in
    let less = few_messages config run legal in
    let t = trace_size config run range legal within in
    let r = report_size config run range legal (omega (arith, few, many)) (omega (arith, few, many, less)) offers in
    let x = length-append (trace config (oldest_first run) ++ codes "--\n") (report config run) in
    let y = length-append (trace config (oldest_first run)) (codes "--\n") in
    omega (arith, few, offers, t, r, x, y)
