-- How many bytes a trace has.
use Rattle.std.proofs.Common.{ℕ, ◌+◌, ◌*◌, ◌<◌, ◌≤◌, cond, List, [], ◌∷◌, ◌++◌, length, sym, subst, arith}
use Rattle.std.specs.Prelude.{count_by, codes}
use Rattle.std.specs.List.{All, flat_map}
use Rattle.std.proofs.lemmas.List.{length-append}
use Rattle.std.proofs.lemmas.List.Elements.{All-head, All-tail}
use Rattle.std.proofs.lemmas.List.Sums.{sum_by-cons}
use Rattle.gp_round.specs.Counts.{Counts}
use Rattle.gp_round.specs.Ranges.{AreInRange}
use Rattle.gp_msg.specs.declared.event.Event.{Event}
use Rattle.gp_msg.specs.Messages.{Entry}
use Rattle.gp_run.specs.Legal.{Legal}
use Rattle.gp_run.specs.Runs.{run_of, AllFit, oldest_first}
use Rattle.gp_run.proofs.Running.{own_events_fit}
use Rattle.gp_service.specs.Stores.{store_language}
use Rattle.gp_service.specs.StoreLaws.{store_spelled}
use Rattle.gp_script.specs.Spelling.{nodes_text}
use Rattle.gp_script.proofs.CountsLemmas.{nodes_short}
use Rattle.gp_text.specs.declared.limits.TheConstants.{MOST_OFFERS, MOST_EVENTS}
use Rattle.gp_text.specs.Reading.{Sofar, nothing, messages_after, is_offer}
use Rattle.gp_text.specs.Traces.{event_line, trace}
use Rattle.gp_text.specs.Limits.{IsOfOperation, IsWithinScript}
use Rattle.gp_text.proofs.EventSteps.{run_more, count_more}
use Rattle.gp_text.proofs.TraceLines.{with_event, event_said}
use Rattle.gp_text.proofs.TraceReading.{few_messages}

abbrev lines_text : List Event → List ℕ
lines_text es = flat_map (λ e. event_line e ++ codes "\n") es

-- with its line feed, the line of an event has at most 34 bytes, and 38 more if it is an offer
lines_size : (c : Counts) (sofar : Sofar) (es : List Event) → AreInRange c.acceptors c.coordinators c.learners → AllFit c (run_of c sofar.events) es → All (IsOfOperation store_language) es
    → length sofar.events + length es ≤ MOST_EVENTS → count_by is_offer sofar.events + count_by is_offer es ≤ MOST_OFFERS → length (lines_text es) ≤ 34 * length es + 38 * count_by is_offer es
lines_size c sofar [] range fit drafted few offers = omega arith
lines_size c sofar (e ∷ es) range fit drafted few offers =
    let head = sum_by-cons (λ y. cond (is_offer y) 1 0) e es in
    let more = count_more is_offer sofar.events e in
    let grown = length-append sofar.events (e ∷ []) in
    let stand = few_messages c [] sofar.events in
    let few_stand : messages_after c sofar.events ≤ MOST_EVENTS = omega (arith, stand) in
    let room : length sofar.events < MOST_EVENTS = omega arith in
    let fewer : count_by is_offer sofar.events + cond (is_offer e) 1 0 ≤ MOST_OFFERS = omega (arith, head) in
    let next_few : length (sofar.events ++ e ∷ []) + length es ≤ MOST_EVENTS = omega (arith, grown) in
    let next_offers : count_by is_offer (sofar.events ++ e ∷ []) + count_by is_offer es ≤ MOST_OFFERS = omega (arith, head, more) in
    let next_fit = subst (λ run. AllFit c run es) (sym (run_more c sofar.events e)) fit.1 in
    let said = event_said store_language store_spelled c sofar e range fit.0 (All-head (IsOfOperation store_language) e es drafted) few_stand room fewer in
    let short = said.short in
    let others = lines_size c (with_event sofar e) es range next_fit (All-tail (IsOfOperation store_language) e es drafted) next_few next_offers in
    let line = length-append (event_line e) (codes "\n") in
    let all = length-append (event_line e ++ codes "\n") (lines_text es) in
    omega (arith, short, others, line, all, head)

pub trace_size : (c : Counts) (run : List Entry) → AreInRange c.acceptors c.coordinators c.learners → Legal c run → IsWithinScript store_language (oldest_first run)
    → length (trace c (oldest_first run)) ≤ 12 + (34 * length (oldest_first run) + 38 * count_by is_offer (oldest_first run))
unfolding trace
trace_size c run range legal within =
    let es = oldest_first run in
    let few = within.few in
    let few_offers = within.few_offers in
    let no_events : 0 + length es ≤ MOST_EVENTS = omega arith in
    let no_offers : count_by is_offer [] + count_by is_offer es ≤ MOST_OFFERS = omega arith in
    let lines = lines_size c nothing es range (own_events_fit c run legal) within.operations no_events no_offers in
    let short = nodes_short c range in
    let first = length-append (nodes_text c) (codes "\n") in
    let all = length-append (nodes_text c ++ codes "\n") (lines_text es) in
    omega (arith, lines, short, first, all)
