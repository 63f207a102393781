-- A script that `play` reads as offers alone, no more than a script of `run` may have, is a script of `run`.
use Rattle.std.proofs.Common.{◌≡◌, ℕ, ◌+◌, ◌≤◌, ◌<◌, Bool, true, false, cond, not, List, [], ◌∷◌, ◌++◌, length, Some, None, Result, Ok, Err, refl, sym, ap, subst, ◌∙◌, arith}
use Rattle.std.specs.Prelude.{count_by, nat_le}
use Rattle.std.specs.Option.{ok_or}
use Rattle.std.proofs.lemmas.Bool.{lt-leb}
use Rattle.std.proofs.lemmas.List.{length-append, length-map}
use Rattle.std.proofs.lemmas.List.Sums.{sum_by-cons}
use Rattle.gp_round.specs.Counts.{Counts}
use Rattle.gp_msg.specs.declared.event.Event.{Event}
use Rattle.gp_msg.specs.declared.event.Event.TheVariants as event
use Rattle.gp_words.specs.Lines.{lines_of, text_of}
use Rattle.gp_words.specs.Tokens.{tokens_of}
use Rattle.gp_service.specs.Stores.{store_language}
use Rattle.gp_service.specs.StoreLaws.{store_spelled}
use Rattle.gp_script.specs.declared.reason.Reason.{Reason}
use Rattle.gp_script.specs.declared.reason.Reason.TheVariants.{TooLong, NoNodesLine, BadLine, NoMessage, TooManyCommands, TooManyEvents}
use Rattle.gp_script.specs.declared.items.Item.{Item}
use Rattle.gp_script.specs.declared.items.Item.TheVariants as item
use Rattle.gp_script.specs.Forms.{Form, NodesLine, OfferLine, BeginLine, TakeLine, FallLine, ShowLine, form_of}
use Rattle.gp_script.specs.Items.{item_of}
use Rattle.gp_script.proofs.ItemLemmas.{item_read}
use Rattle.gp_text.specs.declared.limits.TheConstants as play
use Rattle.gp_text.specs.Reading.{Whole, Refused, Sofar, Shown, messages_after, is_offer, lacks_kept, is_passed, holds_limit, nodes_line, add_event, add_item, item_in, reading_from, reading}
use Rattle.gp_text.specs.Reading.{table_line as play_table_line, after_line as play_line, follow as play_lines, said_so_far}
use Rattle.gp_text.proofs.EventSteps.{count_more}
use Rattle.gp_text.proofs.TraceLines.{with_event}
use Rattle.gp_text.proofs.LineSteps.{reading_opens, reading_from_end, reading_from_too_long, reading_from_passed, reading_from_goes, reading_from_refused}
use Rattle.gp_text.proofs.LineSteps.{follow_end as play_end, follow_too_long as play_too_long, follow_goes as play_goes, follow_refused as play_refused}
use Rattle.gp_store.proofs.ReadingLemmas.{bound}
use Rattle.gp_text.proofs.SaidLegally.{test_else}
use Rattle.gp_text.specs.declared.offers.Offers.{Offers}
use Rattle.gp_text.specs.declared.limits.TheConstants.{MOST_RUN_OFFERS}
use Rattle.gp_text.specs.Offering.{Offer, Offered, offer_by, offer_line, with_offer, table_line, after_line, follow, offers_reading}
use Rattle.gp_text.specs.Offered.{offer_events, offers_alone}
use Rattle.gp_text.proofs.OfferSteps.{follow_end, follow_goes}
use Rattle.gp_text.proofs.OfferSteps.{reading_opens as offers_open}
use Rattle.gp_text.proofs.SaidOffers.{offer_item, with_one}
use Rattle.gp_text.proofs.PlayedAlone.{events_more}

-- ---- offers and other events

abbrev is_other : Event → Bool
is_other e = not (is_offer e)

no_other : (offers : List Offer) → count_by is_other (offer_events offers) ≡ 0
no_other [] = refl
no_other (offer ∷ offers) =
    let first = sum_by-cons (λ e. cond (is_other e) 1 0) (event.Offer offer.0 offer.1) (offer_events offers) in
    let more = no_other offers in
    omega (arith, first, more)

offers_same : (xs ys : List Offer) → offer_events xs ≡ offer_events ys → xs ≡ ys
offers_same [] [] e = refl
offers_same [] (y ∷ ys) e = absurd cc
offers_same (x ∷ xs) [] e = absurd cc
offers_same ((p, d) ∷ xs) ((q, f) ∷ ys) e =
    let same : xs ≡ ys = offers_same xs ys cc in
    let proposers : p ≡ q = cc in
    let drafts : d ≡ f = cc in
    cc

-- ---- what is said grows

record Grows (sofar said : Sofar) : Type 0 where
  events : length sofar.events ≤ length said.events
  others : count_by is_other sofar.events ≤ count_by is_other said.events
  shown : length sofar.shown ≤ length said.shown

grows_none : (sofar : Sofar) → Grows sofar sofar
grows_none sofar = record { events = omega arith; others = omega arith; shown = omega arith }

grows_on : (first second third : Sofar) → Grows first second → Grows second third → Grows first third
grows_on first second third a b =
    let a0 = a.events in let a1 = a.others in let a2 = a.shown in
    let b0 = b.events in let b1 = b.others in let b2 = b.shown in
    record { events = omega arith; others = omega arith; shown = omega arith }

-- ---- what a line adds

abbrev with_shown : Sofar → Shown → Sofar
with_shown sofar s = record { events = sofar.events; shown = sofar.shown ++ s ∷ [] }

data Adds (sofar next : Sofar) (said : Item) : Type 0 where
  AddsOffer : (offer : Offer) → said ≡ offer_item offer → with_event sofar (event.Offer offer.0 offer.1) ≡ next → Adds sofar next said
  AddsOther : (e : Event) → is_other e ≡ true → with_event sofar e ≡ next → Adds sofar next said
  AddsShown : (s : Shown) → with_shown sofar s ≡ next → Adds sofar next said

event_added : (sofar next : Sofar) (e : Event) → add_event sofar e ≡ Ok next → with_event sofar e ≡ next
unfolding add_event
event_added sofar next e adds = let made = test_else (nat_le play.MOST_EVENTS (length sofar.events)) TooManyEvents (Ok (with_event sofar e)) next adds in cc

item_adds : (config : Counts) (sofar next : Sofar) (said : Item) → add_item config sofar said ≡ Ok next → Adds sofar next said
unfolding add_item
item_adds config sofar next (item.Offer p d) adds =
    let made = test_else (nat_le play.MOST_OFFERS (count_by is_offer sofar.events)) TooManyCommands (add_event sofar (event.Offer p d)) next adds in
    AddsOffer (p, d) refl (event_added sofar next (event.Offer p d) made.1)
item_adds config sofar next (item.Begin k round) adds = AddsOther (event.Begin k round) refl (event_added sofar next (event.Begin k round) adds)
item_adds config sofar next (item.Take node k) adds =
    let made = test_else (nat_le (messages_after config sofar.events) k) NoMessage (add_event sofar (event.Take node k)) next adds in
    AddsOther (event.Take node k) refl (event_added sofar next (event.Take node k) made.1)
item_adds config sofar next (item.Fall node what) adds =
    let made = test_else (lacks_kept (messages_after config sofar.events) what) NoMessage (add_event sofar (event.Fall node what)) next adds in
    AddsOther (event.Fall node what) refl (event_added sofar next (event.Fall node what) made.1)
item_adds config sofar next (item.Show learner) adds = AddsShown (record { learner = learner; before = sofar.events }) cc

event_grows : (sofar next : Sofar) (e : Event) → with_event sofar e ≡ next → Grows sofar next
event_grows sofar next e same =
    let longer = length-append sofar.events (e ∷ []) in
    let more = count_more is_other sofar.events e in
    subst (Grows sofar) same (record { events = omega (arith, longer); others = omega (arith, more); shown = omega arith })

adds_grow : (sofar next : Sofar) (said : Item) → Adds sofar next said → Grows sofar next
adds_grow sofar next said (AddsOffer offer is same) = event_grows sofar next (event.Offer offer.0 offer.1) same
adds_grow sofar next said (AddsOther e is same) = event_grows sofar next e same
adds_grow sofar next said (AddsShown s same) =
    let longer = length-append sofar.shown (s ∷ []) in
    subst (Grows sofar) same (record { events = omega arith; others = omega arith; shown = omega (arith, longer) })

-- a line is passed over, or says something
data IsNext (config : Counts) (sofar next : Sofar) (text : List ℕ) : Type 0 where
  PassedOver : is_passed text ≡ true → sofar ≡ next → IsNext config sofar next text
  SaysItem : (said : Item) → is_passed text ≡ false → item_in store_language config text ≡ Ok said → Adds sofar next said → IsNext config sofar next text

next_cases : (config : Counts) (sofar next : Sofar) (text : List ℕ) (passed : Bool) → is_passed text ≡ passed
    → cond passed (Ok sofar) (play_table_line store_language config sofar text) ≡ Ok next → IsNext config sofar next text
unfolding play_table_line
next_cases config sofar next text true is e = PassedOver is cc
next_cases config sofar next text false is e =
    let s = bound (item_in store_language config text) (λ said. add_item config sofar said) next e in
    SaysItem s.0 is s.1 (item_adds config sofar next s.0 s.2)

line_next : (config : Counts) (sofar next : Sofar) (text : List ℕ) → play_line store_language config sofar text ≡ Ok next → IsNext config sofar next text
unfolding play_line
line_next config sofar next text e = next_cases config sofar next text (is_passed text) refl e

next_grows : (config : Counts) (sofar next : Sofar) (text : List ℕ) → IsNext config sofar next text → Grows sofar next
next_grows config sofar next text (PassedOver passed same) = subst (Grows sofar) same (grows_none sofar)
next_grows config sofar next text (SaysItem said passed is adds) = adds_grow sofar next said adds

-- ---- from line to line

-- a script that is read whole is read on after this line
record GoesOn (config own : Counts) (n place : ℕ) (sofar said : Sofar) (line : List ℕ) (lines : List (List ℕ)) : Type 0 where
  short : holds_limit place line ≡ false
  next : Sofar
  adds : IsNext config sofar next (text_of line)
  rest : play_lines store_language config (n + 1) (place + length line) next lines ≡ Whole own said

goes_cases : (config own : Counts) (n place : ℕ) (sofar said : Sofar) (line : List ℕ) (lines : List (List ℕ)) (long : Bool) (r : Result Sofar Reason) → holds_limit place line ≡ long → play_line store_language config sofar (text_of line) ≡ r
    → play_lines store_language config n place sofar (line ∷ lines) ≡ Whole own said → GoesOn config own n place sofar said line lines
goes_cases config own n place sofar said line lines true r is of e =
    let refused : Refused n TooLong (said_so_far config sofar) ≡ Whole own said = sym (play_too_long store_language config n place sofar line lines is) ∙ e in absurd cc
goes_cases config own n place sofar said line lines false (Ok next) is of e =
    record { short = is; next = next; adds = line_next config sofar next (text_of line) of; rest = sym (play_goes store_language config n place sofar next line lines is of) ∙ e }
goes_cases config own n place sofar said line lines false (Err reason) is of e =
    let refused : Refused n reason (said_so_far config sofar) ≡ Whole own said = sym (play_refused store_language config n place sofar line lines reason is of) ∙ e in absurd cc

goes_on : (config own : Counts) (n place : ℕ) (sofar said : Sofar) (line : List ℕ) (lines : List (List ℕ)) → play_lines store_language config n place sofar (line ∷ lines) ≡ Whole own said
    → GoesOn config own n place sofar said line lines
goes_on config own n place sofar said line lines e = goes_cases config own n place sofar said line lines (holds_limit place line) (play_line store_language config sofar (text_of line)) refl refl e

lines_grow : (config own : Counts) (n place : ℕ) (sofar said : Sofar) (lines : List (List ℕ)) → play_lines store_language config n place sofar lines ≡ Whole own said → Grows sofar said
lines_grow config own n place sofar said [] e =
    let over : Whole config sofar ≡ Whole own said = sym (play_end store_language config n place sofar) ∙ e in
    let same : sofar ≡ said = cc in subst (Grows sofar) same (grows_none sofar)
lines_grow config own n place sofar said (line ∷ lines) e =
    let g = goes_on config own n place sofar said line lines e in
    grows_on sofar g.next said (next_grows config sofar g.next (text_of line) g.adds) (lines_grow config own (n + 1) (place + length line) g.next said lines g.rest)

-- ---- one offer

form_again : (config : Counts) (form : Form) (offer : Offer) → item_of store_language config form ≡ Ok (offer_item offer) → offer_by config form ≡ Ok offer
form_again config (NodesLine a c l) offer e = absurd cc
form_again config (OfferLine node words) offer e = rw e refl
form_again config (BeginLine node count mode) offer e = let read = item_read store_language store_spelled config (BeginLine node count mode) (offer_item offer) e in let same = read.same in absurd cc
form_again config (TakeLine node message) offer e = let read = item_read store_language store_spelled config (TakeLine node message) (offer_item offer) e in let same = read.same in absurd cc
form_again config (FallLine node what) offer e = let read = item_read store_language store_spelled config (FallLine node what) (offer_item offer) e in let same = read.same in absurd cc
form_again config (ShowLine node) offer e = let read = item_read store_language store_spelled config (ShowLine node) (offer_item offer) e in let same = read.same in absurd cc

line_again : (config : Counts) (text : List ℕ) (offer : Offer) → item_in store_language config text ≡ Ok (offer_item offer) → offer_line config text ≡ Ok offer
unfolding item_in offer_line
line_again config text offer e =
    let s = bound (ok_or (form_of (tokens_of text)) BadLine) (item_of store_language config) (offer_item offer) e in rw s.1 (form_again config s.0 offer s.2)

passed_again : (offers : Offers) (text : List ℕ) → is_passed text ≡ true → after_line (Some offers) text ≡ Ok (Some offers)
unfolding after_line
passed_again offers text passed = rw passed refl

offer_again : (offers : Offers) (text : List ℕ) (offer : Offer) → is_passed text ≡ false → offer_line offers.config text ≡ Ok offer → length offers.list < MOST_RUN_OFFERS → after_line (Some offers) text ≡ Ok (Some (with_one offers offer))
unfolding after_line table_line with_offer
offer_again offers text offer passed of few = rw (passed, of, lt-leb MOST_RUN_OFFERS (length offers.list) few) refl

-- ---- the lines after a configuration

-- these lines are read as offers
abbrev Again : ℕ → ℕ → Offers → List (List ℕ) → Type 0
Again n place whole lines =
    (offers : Offers) → play_lines store_language offers.config n place (offers_alone offers.list) lines ≡ Whole whole.config (offers_alone whole.list) → follow n place (Some offers) lines ≡ Offered whole

adds_again : (n place : ℕ) (offers whole : Offers) (line : List ℕ) (lines : List (List ℕ)) (next : Sofar) (said : Item) → length whole.list ≤ MOST_RUN_OFFERS → holds_limit place line ≡ false
    → is_passed (text_of line) ≡ false → item_in store_language offers.config (text_of line) ≡ Ok said → Grows next (offers_alone whole.list)
    → play_lines store_language offers.config (n + 1) (place + length line) next lines ≡ Whole whole.config (offers_alone whole.list) → Again (n + 1) (place + length line) whole lines
    → Adds (offers_alone offers.list) next said → follow n place (Some offers) (line ∷ lines) ≡ Offered whole
adds_again n place offers whole line lines next said few short passed says grown rest go (AddsOffer offer is same) =
    let events = events_more offers.list offer in
    let alone : offers_alone (offers.list ++ offer ∷ []) ≡ next = ap (λ (es : List Event). record { events = es; shown = [] }) events ∙ same in
    let ends = grown.events in
    let long : length next.events ≡ length (offer_events offers.list) + 1 = ap (λ (s : Sofar). length s.events) (sym same) ∙ length-append (offer_events offers.list) (event.Offer offer.0 offer.1 ∷ []) in
    let own = length-map offers.list (λ (o : Offer). event.Offer o.0 o.1) in
    let all = length-map whole.list (λ (o : Offer). event.Offer o.0 o.1) in
    let of = line_again offers.config (text_of line) offer (says ∙ ap Ok is) in
    follow_goes n place (Some offers) (Some (with_one offers offer)) line lines short (offer_again offers (text_of line) offer passed of (omega (arith, ends, long, own, all)))
    ∙ go (with_one offers offer) (ap (λ sofar. play_lines store_language offers.config (n + 1) (place + length line) sofar lines) alone ∙ rest)
adds_again n place offers whole line lines next said few short passed says grown rest go (AddsOther e is same) =
    let none = no_other whole.list in
    let ends = grown.others in
    let one : count_by is_other next.events ≡ count_by is_other (offer_events offers.list) + cond (is_other e) 1 0 = ap (λ (s : Sofar). count_by is_other s.events) (sym same) ∙ count_more is_other (offer_events offers.list) e in
    let is_one : 1 ≤ cond (is_other e) 1 0 = rw is (omega arith) in
    absurd (omega (arith, none, ends, one, is_one))
adds_again n place offers whole line lines next said few short passed says grown rest go (AddsShown s same) =
    let ends = grown.shown in
    let one : length next.shown ≡ 1 = ap (λ (t : Sofar). length t.shown) (sym same) in
    absurd (omega (arith, ends, one))

next_again : (n place : ℕ) (offers whole : Offers) (line : List ℕ) (lines : List (List ℕ)) (next : Sofar) → length whole.list ≤ MOST_RUN_OFFERS → holds_limit place line ≡ false
    → play_lines store_language offers.config (n + 1) (place + length line) next lines ≡ Whole whole.config (offers_alone whole.list) → Again (n + 1) (place + length line) whole lines
    → IsNext offers.config (offers_alone offers.list) next (text_of line) → follow n place (Some offers) (line ∷ lines) ≡ Offered whole
next_again n place offers whole line lines next few short rest go (PassedOver passed same) =
    follow_goes n place (Some offers) (Some offers) line lines short (passed_again offers (text_of line) passed)
    ∙ go offers (ap (λ sofar. play_lines store_language offers.config (n + 1) (place + length line) sofar lines) same ∙ rest)
next_again n place offers whole line lines next few short rest go (SaysItem said passed is adds) =
    adds_again n place offers whole line lines next said few short passed is (lines_grow offers.config whole.config (n + 1) (place + length line) next (offers_alone whole.list) lines rest) rest go adds

lines_again : (n place : ℕ) (whole : Offers) (lines : List (List ℕ)) → length whole.list ≤ MOST_RUN_OFFERS → Again n place whole lines
lines_again n place whole [] few offers e =
    let over : Whole offers.config (offers_alone offers.list) ≡ Whole whole.config (offers_alone whole.list) = sym (play_end store_language offers.config n place (offers_alone offers.list)) ∙ e in
    let config : offers.config ≡ whole.config = cc in
    let said : offers_alone offers.list ≡ offers_alone whole.list = cc in
    let list = offers_same offers.list whole.list (ap (λ (s : Sofar). s.events) said) in
    follow_end n place (Some offers) ∙ ap (λ (c : Counts). Offered (record { config = c; list = offers.list })) config ∙ ap (λ (os : List Offer). Offered (record { config = whole.config; list = os })) list
lines_again n place whole (line ∷ lines) few offers e =
    let g = goes_on offers.config whole.config n place (offers_alone offers.list) (offers_alone whole.list) line lines e in
    next_again n place offers whole line lines g.next few g.short g.rest (lines_again (n + 1) (place + length line) whole lines few) g.adds

-- ---- up to the configuration

passed_before : (text : List ℕ) → is_passed text ≡ true → after_line None text ≡ Ok None
unfolding after_line
passed_before text passed = rw passed refl

configured : (text : List ℕ) (config : Counts) → is_passed text ≡ false → nodes_line text ≡ Ok config → after_line None text ≡ Ok (Some (record { config = config; list = [] }))
unfolding after_line table_line
configured text config passed said = rw (passed, said) refl

first_again : (n place : ℕ) (whole : Offers) (line : List ℕ) (lines : List (List ℕ)) (r : Result Counts Reason) → length whole.list ≤ MOST_RUN_OFFERS → holds_limit place line ≡ false → is_passed (text_of line) ≡ false
    → nodes_line (text_of line) ≡ r → reading_from store_language n place (line ∷ lines) ≡ Whole whole.config (offers_alone whole.list) → follow n place None (line ∷ lines) ≡ Offered whole
first_again n place whole line lines (Ok config) few short passed said e =
    let none : Offers = record { config = config; list = [] } in
    follow_goes n place None (Some none) line lines short (configured (text_of line) config passed said)
    ∙ lines_again (n + 1) (place + length line) whole lines few none (sym (reading_from_goes store_language n place line lines config short passed said) ∙ e)
first_again n place whole line lines (Err reason) few short passed said e =
    let refused : Refused n reason None ≡ Whole whole.config (offers_alone whole.list) = sym (reading_from_refused store_language n place line lines reason short passed said) ∙ e in absurd cc

reading_from_cases : (n place : ℕ) (whole : Offers) (line : List ℕ) (lines : List (List ℕ)) (long passed : Bool) → length whole.list ≤ MOST_RUN_OFFERS → holds_limit place line ≡ long → is_passed (text_of line) ≡ passed
    → (reading_from store_language (n + 1) (place + length line) lines ≡ Whole whole.config (offers_alone whole.list) → follow (n + 1) (place + length line) None lines ≡ Offered whole)
    → reading_from store_language n place (line ∷ lines) ≡ Whole whole.config (offers_alone whole.list) → follow n place None (line ∷ lines) ≡ Offered whole
reading_from_cases n place whole line lines true passed few is over go e =
    let refused : Refused n TooLong None ≡ Whole whole.config (offers_alone whole.list) = sym (reading_from_too_long store_language n place line lines is) ∙ e in absurd cc
reading_from_cases n place whole line lines false true few is over go e =
    follow_goes n place None None line lines is (passed_before (text_of line) over) ∙ go (sym (reading_from_passed store_language n place line lines is over) ∙ e)
reading_from_cases n place whole line lines false false few is over go e = first_again n place whole line lines (nodes_line (text_of line)) few is over refl e

reading_from_again : (n place : ℕ) (whole : Offers) (lines : List (List ℕ)) → length whole.list ≤ MOST_RUN_OFFERS → reading_from store_language n place lines ≡ Whole whole.config (offers_alone whole.list) → follow n place None lines ≡ Offered whole
reading_from_again n place whole [] few e =
    let refused : Refused n NoNodesLine None ≡ Whole whole.config (offers_alone whole.list) = sym (reading_from_end store_language n place) ∙ e in absurd cc
reading_from_again n place whole (line ∷ lines) few e =
    reading_from_cases n place whole line lines (holds_limit place line) (is_passed (text_of line)) few refl refl (reading_from_again (n + 1) (place + length line) whole lines few) e

-- a whole script
pub script_again : (bytes : List ℕ) (whole : Offers) → length whole.list ≤ MOST_RUN_OFFERS → reading bytes ≡ Whole whole.config (offers_alone whole.list) → offers_reading bytes ≡ Offered whole
script_again bytes whole few e = sym (offers_open bytes) ∙ reading_from_again 1 0 whole (lines_of bytes) few (reading_opens store_language bytes ∙ e)
