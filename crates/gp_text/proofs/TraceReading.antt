-- A trace is a script that says its events.
use Rattle.std.proofs.Common.{◌≡◌, ℕ, ◌+◌, ◌*◌, ◌<◌, ◌≤◌, false, cond, List, [], ◌∷◌, ◌++◌, length, Some, None, Result, Ok, Err, refl, sym, ap, subst, ◌∙◌, append_assoc, arith}
use Rattle.std.specs.Prelude.{Option, count_by, codes, MatchResult}
use Rattle.std.specs.Option.{option_to_list}
use Rattle.std.specs.List.{All, flat_map}
use Rattle.std.proofs.lemmas.Bool.{and_right, le-ltb}
use Rattle.std.proofs.lemmas.List.{length-append, append-nil}
use Rattle.std.proofs.lemmas.List.Elements.{All-head, All-tail}
use Rattle.std.proofs.lemmas.List.Sums.{sum_by-cons}
use Rattle.gp_round.specs.Counts.{Counts}
use Rattle.gp_round.specs.Ranges.{AreInRange}
use Rattle.gp_msg.specs.declared.event.Event.{Event}
use Rattle.gp_msg.specs.Messages.{Stamped, Entry}
use Rattle.gp_msg.specs.Nodes.{node_of}
use Rattle.gp_run.specs.Messages.{messages}
use Rattle.gp_run.specs.Legal.{Legal, sent_by, sent_at}
use Rattle.gp_run.specs.Runs.{entry_after, run_onto, run_of, AllFit, oldest_first}
use Rattle.gp_run.proofs.Running.{own_run, own_events_fit, events-cons}
use Rattle.gp_words.specs.Lines.{lines_of, text_of}
use Rattle.gp_words.proofs.LineLemmas.{line_then, line_text}
use Rattle.gp_replica.specs.Machines.{AreIndependent}
use Rattle.gp_service.specs.Languages.{Language, IsLanguage}
use Rattle.gp_service.specs.Profiles.{Profile}
use Rattle.gp_script.specs.Spelling.{nodes_text}
use Rattle.gp_script.proofs.CountsLemmas.{nodes_say, nodes_feedless, nodes_short}
use Rattle.gp_text.specs.declared.limits.TheConstants.{MOST_OFFERS, MOST_EVENTS, MOST_BYTES}
use Rattle.gp_text.specs.declared.played.Played.{Played}
use Rattle.gp_text.specs.declared.played.Unplayed.{Unplayed}
use Rattle.gp_text.specs.declared.played.Unplayed.TheVariants as unplayed
use Rattle.gp_text.specs.Reading.{Whole, Sofar, nothing, messages_after, is_offer, is_passed, holds_limit, after_line, nodes_line, follow, reading_from, reading_in}
use Rattle.gp_report.specs.Texts.{report_for}
use Rattle.gp_text.specs.Texts.{output_for}
use Rattle.gp_text.specs.Traces.{event_line, trace}
use Rattle.gp_text.specs.Playing.{PlaysFor, IsPlayedFor}
use Rattle.gp_text.specs.Limits.{IsOfOperation, IsWithinScript, IsLegalScriptFor, SaysLegallyFor, PlayedRun}
use Rattle.gp_text.proofs.LineSteps.{no_lines, follow_end, follow_goes, reading_from_goes}
use Rattle.gp_text.proofs.EventSteps.{run_more, count_more}
use Rattle.gp_text.proofs.TraceLines.{with_event, IsSaid, event_said}
use Rattle.gp_text.proofs.SaidLegally.{said_legal}

-- ---- events that fit, one behind another

-- a run has no more messages than events
pub one_sent : (o : Option Stamped) → length (option_to_list o) ≤ 1
one_sent None = omega arith
one_sent (Some m) = omega arith

pub few_messages : (c : Counts) (es : List Entry) (events : List Event) → length (messages (run_onto c es events)) ≤ length (messages es) + length events
few_messages c es [] = omega arith
few_messages c es (event ∷ events) =
    let r = few_messages c (entry_after c es event ∷ es) events in
    let s = length-append (messages es) (sent_at c es event) in
    let t = one_sent (sent_by c es (node_of event) event) in
    omega (arith, r, s, t)

-- the events of the run of some events are these
pub events-run_onto : (c : Counts) (es : List Entry) (events : List Event) → oldest_first (run_onto c es events) ≡ oldest_first es ++ events
events-run_onto c es [] = sym (append-nil (oldest_first es))
events-run_onto c es (event ∷ events) =
    events-run_onto c (entry_after c es event ∷ es) events
    ∙ ap (λ xs. xs ++ events) (events-cons (entry_after c es event) es)
    ∙ append_assoc (oldest_first es) (event ∷ []) events

run_fits : (c : Counts) (events : List Event) → Legal c (run_of c events) → AllFit c [] events
run_fits c events legal = subst (AllFit c []) (events-run_onto c [] events) (own_events_fit c (run_of c events) legal)

module _ (language : Language) (spelled : IsLanguage language) where
  abbrev AllSaid : Counts → Sofar → List Event → Type 0
  AllSaid c sofar [] = Unit {0}
  AllSaid c sofar (e ∷ es) = IsSaid language spelled c sofar e × AllSaid c (with_event sofar e) es

  all_said : (c : Counts) (sofar : Sofar) (es : List Event) → AreInRange c.acceptors c.coordinators c.learners → AllFit c (run_of c sofar.events) es → All (IsOfOperation language) es
      → length sofar.events + length es ≤ MOST_EVENTS → count_by is_offer sofar.events + count_by is_offer es ≤ MOST_OFFERS → AllSaid c sofar es
  all_said c sofar [] range fit drafted few offers = tt
  all_said c sofar (e ∷ es) range fit drafted few offers =
      let head = sum_by-cons (λ y. cond (is_offer y) 1 0) e es in
      let more = count_more is_offer sofar.events e in
      let grown = length-append sofar.events (e ∷ []) in
      let stand = few_messages c [] sofar.events in
      let few_stand : messages_after c sofar.events ≤ MOST_EVENTS = omega (arith, stand) in
      let room : length sofar.events < MOST_EVENTS = omega arith in
      let fewer : count_by is_offer sofar.events + cond (is_offer e) 1 0 ≤ MOST_OFFERS = omega (arith, head) in
      let next_few : length (sofar.events ++ e ∷ []) + length es ≤ MOST_EVENTS = omega (arith, grown) in
      let next_offers : count_by is_offer (sofar.events ++ e ∷ []) + count_by is_offer es ≤ MOST_OFFERS = omega (arith, head, more) in
      let next_fit = subst (λ run. AllFit c run es) (sym (run_more c sofar.events e)) fit.1 in (
        event_said language spelled c sofar e range fit.0 (All-head (IsOfOperation language) e es drafted) few_stand room fewer,
        all_said c (with_event sofar e) es range next_fit (All-tail (IsOfOperation language) e es drafted) next_few next_offers,
      )

  -- ---- their lines

  abbrev lines_text : List Event → List ℕ
  lines_text es = flat_map (λ e. event_line e ++ codes "\n") es

  says_line : (c : Counts) (sofar : Sofar) (e : Event) → IsSaid language spelled c sofar e → after_line language c sofar (text_of (event_line e ++ 10 ∷ [])) ≡ Ok (with_event sofar e)
  unfolding after_line
  says_line c sofar e s = rw (line_text (event_line e) s.feedless, s.stays) s.says

  within_limit : (place : ℕ) (line : List ℕ) → place + length line ≤ MOST_BYTES → holds_limit place line ≡ false
  within_limit place line le = rw (le-ltb MOST_BYTES (place + length line) le) (and_right _ _ refl)

  -- with its line feed, a line of these events has at most 34 bytes, and 38 more if it is an offer
  abbrev room_for : List Event → ℕ
  room_for es = 34 * length es + 38 * count_by is_offer es

  -- the lines of events that are said, where a script has room for them, say these events
  lines_say : (c : Counts) (n place : ℕ) (sofar : Sofar) (es : List Event) → AllSaid c sofar es → place + room_for es ≤ MOST_BYTES
      → follow language c n place sofar (lines_of (lines_text es)) ≡ Whole c (record { events = sofar.events ++ es; shown = sofar.shown })
  lines_say c n place sofar [] said le =
      ap (follow language c n place sofar) no_lines ∙ follow_end language c n place sofar ∙ ap (λ es. Whole c (record { events = es; shown = sofar.shown })) (sym (append-nil sofar.events))
  lines_say c n place sofar (e ∷ es) said le =
      let line = event_line e ++ 10 ∷ [] in
      let size : length line ≡ length (event_line e) + 1 = length-append (event_line e) (10 ∷ []) in
      let short = said.0.short in
      let head = sum_by-cons (λ y. cond (is_offer y) 1 0) e es in
      let near : place + length line ≤ MOST_BYTES = omega (arith, size, short, head) in
      let next : (place + length line) + room_for es ≤ MOST_BYTES = omega (arith, size, short, head) in
      let split : lines_of (lines_text (e ∷ es)) ≡ line ∷ lines_of (lines_text es) = ap lines_of (append_assoc (event_line e) (10 ∷ []) (lines_text es)) ∙ line_then (event_line e) (lines_text es) said.0.feedless in
      ap (follow language c n place sofar) split
      ∙ follow_goes language c n place sofar (with_event sofar e) line (lines_of (lines_text es)) (within_limit place line near) (says_line c sofar e said.0)
      ∙ lines_say c (n + 1) (place + length line) (with_event sofar e) es said.1 next
      ∙ ap (λ all. Whole c (record { events = all; shown = sofar.shown })) (append_assoc sofar.events (e ∷ []) es)

  -- ---- the whole trace

  nodes_said : (c : Counts) → AreInRange c.acceptors c.coordinators c.learners → nodes_line (nodes_text c) ≡ Ok c
  unfolding nodes_line
  nodes_said c range = let s = nodes_say c range in rw (s.of_tokens, s.said) refl

  trace_said : (c : Counts) (es : List Event) → AreInRange c.acceptors c.coordinators c.learners → AllSaid c nothing es → length es ≤ MOST_EVENTS → count_by is_offer es ≤ MOST_OFFERS → reading_in language (trace c es) ≡ Whole c (record { events = es; shown = [] })
  unfolding trace reading_in
  trace_said c es range said few offers =
      let line = nodes_text c ++ 10 ∷ [] in
      let size : length line ≡ length (nodes_text c) + 1 = length-append (nodes_text c) (10 ∷ []) in
      let short = nodes_short c range in
      let near : 0 + length line ≤ MOST_BYTES = omega (arith, size, short) in
      let next : (0 + length line) + room_for es ≤ MOST_BYTES = omega (arith, size, short) in
      let says : nodes_line (text_of line) ≡ Ok c = ap nodes_line (line_text (nodes_text c) (nodes_feedless c range)) ∙ nodes_said c range in
      let passed : is_passed (text_of line) ≡ false = ap is_passed (line_text (nodes_text c) (nodes_feedless c range)) in
      let split : lines_of (line ++ lines_text es) ≡ line ∷ lines_of (lines_text es) = ap lines_of (append_assoc (nodes_text c) (10 ∷ []) (lines_text es)) ∙ line_then (nodes_text c) (lines_text es) (nodes_feedless c range) in
      ap (reading_from language 1 0) split
      ∙ reading_from_goes language 1 0 line (lines_of (lines_text es)) c (within_limit 0 line near) passed says
      ∙ lines_say c (1 + 1) (0 + length line) nothing es said next

  -- events that fit are read again
  fitting_read : (c : Counts) (es : List Event) → AreInRange c.acceptors c.coordinators c.learners → AllFit c [] es → IsWithinScript language es → reading_in language (trace c es) ≡ Whole c (record { events = es; shown = [] })
  fitting_read c es range fit within =
      let few = within.few in
      let few_offers = within.few_offers in
      let no_events : 0 + length es ≤ MOST_EVENTS = omega arith in
      let no_offers : count_by is_offer [] + count_by is_offer es ≤ MOST_OFFERS = omega arith in
      trace_said c es range (all_said c nothing es range fit within.operations no_events no_offers) few few_offers

  pub trace_read : (c : Counts) (run : List Entry) → AreInRange c.acceptors c.coordinators c.learners → Legal c run → IsWithinScript language (oldest_first run) → reading_in language (trace c (oldest_first run)) ≡ Whole c (record { events = oldest_first run; shown = [] })
  trace_read c run range legal within = fitting_read c (oldest_first run) range (own_events_fit c run legal) within

-- ---- playing it

module _ {S : Type 0} (profile : Profile S) (spelled : IsLanguage profile.language) (independence : AreIndependent profile.rules) where
  -- what a whole script says is read again
  pub script_traced : (bytes : List ℕ) (c : Counts) (said : Sofar) → reading_in profile.language bytes ≡ Whole c said → reading_in profile.language (trace c said.events) ≡ Whole c (record { events = said.events; shown = [] })
  script_traced bytes c said whole =
      let s : IsLegalScriptFor profile c said.events = subst (SaysLegallyFor profile) whole (said_legal profile spelled independence bytes) in
      let a = s.agreement in
      fitting_read profile.language spelled c said.events s.range (run_fits c said.events a.legal) s.within

  played_run : (c : Counts) (run : List Entry) (played : Played) → Legal c run → IsPlayedFor profile (Whole c (record { events = oldest_first run; shown = [] })) played → PlayedRun profile c run played
  played_run c run played legal p =
      let said : Sofar = record { events = oldest_first run; shown = [] } in
      let whole : Whole c said ≡ Whole played.world.config p.said = p.whole in
      let config : c ≡ played.world.config = cc in
      let same : said ≡ p.said = cc in
      let ran : run_of played.world.config p.said.events ≡ run = ap (λ d. run_of d p.said.events) (sym config) ∙ ap (λ s. run_of c s.events) (sym same) ∙ own_run c run legal in
      record {
        config_is = sym config;
        run_is = p.run ∙ ran;
        text_is = p.text ∙ ap (λ d. output_for profile d p.said) (sym config) ∙ ap (λ s. output_for profile c s) (sym same) ∙ ap (report_for profile c) (own_run c run legal);
      }

  stopped_run : (c : Counts) (said : Sofar) (why : Unplayed) → PlaysFor profile (Whole c said) (Err why) → why ≡ unplayed.NoMemory
  stopped_run c said unplayed.NoMemory stops = refl
  stopped_run c said (unplayed.Bad line reason records) stops = absurd cc

  -- a trace that is played gives its run
  pub trace_played : (c : Counts) (run : List Entry) (result : Result Played Unplayed) → AreInRange c.acceptors c.coordinators c.learners → Legal c run → IsWithinScript profile.language (oldest_first run)
      → PlaysFor profile (reading_in profile.language (trace c (oldest_first run))) result → MatchResult result (PlayedRun profile c run) (λ e. e ≡ unplayed.NoMemory)
  trace_played c run (Ok played) range legal within plays = played_run c run played legal (subst (λ read. IsPlayedFor profile read played) (trace_read profile.language spelled c run range legal within) plays)
  trace_played c run (Err why) range legal within plays =
      stopped_run c (record { events = oldest_first run; shown = [] }) why (subst (λ read. PlaysFor profile read (Err why)) (trace_read profile.language spelled c run range legal within) plays)
