-- `play` reads a script of `run` too, as the offers alone.
use Rattle.std.proofs.Common.{◌≡◌, ℕ, ◌+◌, ◌<◌, Bool, true, false, List, [], ◌∷◌, ◌++◌, length, Option, Some, None, Result, Ok, Err, refl, sym, ap, subst, ◌∙◌, arith}
use Rattle.std.specs.Prelude.{count_by}
use Rattle.std.proofs.lemmas.Bool.{lt-leb}
use Rattle.std.proofs.lemmas.List.{length-map, map-append}
use Rattle.std.proofs.lemmas.List.Sums.{count_by-le-length}
use Rattle.gp_round.specs.Counts.{Counts}
use Rattle.gp_msg.specs.declared.event.Event.{Event}
use Rattle.gp_msg.specs.declared.event.Event.TheVariants as event
use Rattle.gp_words.specs.Lines.{lines_of, text_of}
use Rattle.gp_service.specs.Stores.{store_language}
use Rattle.gp_script.specs.declared.reason.Reason.{Reason}
use Rattle.gp_script.specs.declared.reason.Reason.TheVariants.{TooLong, NoNodesLine}
use Rattle.gp_text.specs.declared.limits.TheConstants as play
use Rattle.gp_text.specs.Reading.{Reading, Whole, Sofar, is_offer, is_passed, holds_limit, add_event, add_item, reading_from, reading}
use Rattle.gp_text.specs.Reading.{table_line as play_table_line, after_line as play_line, follow as play_lines}
use Rattle.gp_text.proofs.LineSteps.{reading_opens, reading_from_passed, reading_from_goes}
use Rattle.gp_text.proofs.LineSteps.{follow_end as play_end, follow_goes as play_goes}
use Rattle.gp_text.specs.declared.offers.Offers.{Offers}
use Rattle.gp_text.specs.declared.limits.TheConstants.{MOST_RUN_OFFERS}
use Rattle.gp_text.specs.Offering.{Offer, Offered, RefusedAt, offer_line, after_line, follow, offers_reading}
use Rattle.gp_text.specs.Offered.{AreOffered, offer_events, offers_alone}
use Rattle.gp_text.proofs.OfferSteps.{follow_end, follow_too_long, follow_goes, follow_refused}
use Rattle.gp_text.proofs.OfferSteps.{reading_opens as offers_open}
use Rattle.gp_text.proofs.SaidOffers.{offer_item, line_offers, with_one, IsMore, Passed, Said, line_more, IsFirst, Before, Says, line_first, one_more, none_offered}

-- ---- one offer

pub events_more : (offers : List Offer) (offer : Offer) → offer_events (offers ++ offer ∷ []) ≡ offer_events offers ++ event.Offer offer.0 offer.1 ∷ []
events_more offers offer = map-append (λ (o : Offer). event.Offer o.0 o.1) offers (offer ∷ [])

-- a script of `play` has room for it
offer_played : (config : Counts) (offers : List Offer) (offer : Offer) → length offers < MOST_RUN_OFFERS → add_item config (offers_alone offers) (offer_item offer) ≡ Ok (offers_alone (offers ++ offer ∷ []))
unfolding add_item add_event
offer_played config offers offer few =
    let counted = count_by-le-length is_offer (offer_events offers) in
    let made = length-map offers (λ (o : Offer). event.Offer o.0 o.1) in
    rw (lt-leb play.MOST_OFFERS (count_by is_offer (offer_events offers)) (omega (arith, counted, made, few)), lt-leb play.MOST_EVENTS (length (offer_events offers)) (omega (arith, made, few)))
    (ap (λ (es : List Event). Ok (record { events = es; shown = [] })) (sym (events_more offers offer)))

-- ---- one line

passed_played : (config : Counts) (sofar : Sofar) (text : List ℕ) → is_passed text ≡ true → play_line store_language config sofar text ≡ Ok sofar
unfolding play_line
passed_played config sofar text passed = rw passed refl

line_played : (config : Counts) (offers : List Offer) (text : List ℕ) (offer : Offer) → is_passed text ≡ false → offer_line config text ≡ Ok offer → length offers < MOST_RUN_OFFERS
    → play_line store_language config (offers_alone offers) text ≡ Ok (offers_alone (offers ++ offer ∷ []))
unfolding play_line play_table_line
line_played config offers text offer passed e few = rw (passed, line_offers config text offer e) (offer_played config offers offer few)

-- ---- from line to line

-- what the lines say is right, and `play` reads them as the offers alone
pub record ArePlayed (played : Reading) (whole : Offers) : Type 0 where
  pub offered : AreOffered whole
  pub alone : played ≡ Whole whole.config (offers_alone whole.list)

played_by : (first second : Reading) (whole : Offers) → first ≡ second → ArePlayed second whole → ArePlayed first whole
played_by first second whole same a = record { offered = a.offered; alone = same ∙ a.alone }

-- the lines behind a configuration
abbrev played_behind : ℕ → ℕ → Offers → List (List ℕ) → Reading
played_behind n place offers lines = play_lines store_language offers.config n place (offers_alone offers.list) lines

more_alone : (n place : ℕ) (offers whole : Offers) (line : List ℕ) (lines : List (List ℕ)) (more : Option Offers) → IsMore offers (text_of line) more → holds_limit place line ≡ false → AreOffered offers
    → ((next : Offers) → AreOffered next → follow (n + 1) (place + length line) (Some next) lines ≡ Offered whole → ArePlayed (played_behind (n + 1) (place + length line) next lines) whole)
    → follow (n + 1) (place + length line) more lines ≡ Offered whole → ArePlayed (played_behind n place offers (line ∷ lines)) whole
more_alone n place offers whole line lines None is short a go e = elim is [ ]
more_alone n place offers whole line lines (Some next) (Passed passed) short a go e =
    let sofar = offers_alone offers.list in
    played_by _ _ whole (play_goes store_language offers.config n place sofar sofar line lines short (passed_played offers.config sofar (text_of line) passed)) (go offers a e)
more_alone n place offers whole line lines (Some next) (Said offer passed of room) short a go e =
    let one = with_one offers offer in
    let played = line_played offers.config offers.list (text_of line) offer passed of room in
    played_by _ _ whole (play_goes store_language offers.config n place (offers_alone offers.list) (offers_alone one.list) line lines short played) (go one (one_more offers (text_of line) offer a of room) e)

after_alone : (n place : ℕ) (offers whole : Offers) (line : List ℕ) (lines : List (List ℕ)) (said : Result (Option Offers) Reason) → after_line (Some offers) (text_of line) ≡ said → holds_limit place line ≡ false → AreOffered offers
    → ((next : Offers) → AreOffered next → follow (n + 1) (place + length line) (Some next) lines ≡ Offered whole → ArePlayed (played_behind (n + 1) (place + length line) next lines) whole)
    → follow n place (Some offers) (line ∷ lines) ≡ Offered whole → ArePlayed (played_behind n place offers (line ∷ lines)) whole
after_alone n place offers whole line lines (Ok more) is short a go e =
    more_alone n place offers whole line lines more (line_more offers more (text_of line) is) short a go (sym (follow_goes n place (Some offers) more line lines short is) ∙ e)
after_alone n place offers whole line lines (Err reason) is short a go e =
    let refused : RefusedAt n reason ≡ Offered whole = sym (follow_refused n place (Some offers) line lines reason short is) ∙ e in absurd cc

-- a line that is too long is refused
not_too_long : (n place : ℕ) (so_far : Option Offers) (whole : Offers) (line : List ℕ) (lines : List (List ℕ)) (long : Bool) → holds_limit place line ≡ long → follow n place so_far (line ∷ lines) ≡ Offered whole → holds_limit place line ≡ false
not_too_long n place so_far whole line lines true is e = let refused : RefusedAt n TooLong ≡ Offered whole = sym (follow_too_long n place so_far line lines is) ∙ e in absurd cc
not_too_long n place so_far whole line lines false is e = is

-- the lines behind a configuration
lines_alone : (n place : ℕ) (offers whole : Offers) (lines : List (List ℕ)) → AreOffered offers → follow n place (Some offers) lines ≡ Offered whole → ArePlayed (played_behind n place offers lines) whole
lines_alone n place offers whole [] a e =
    let over : Offered offers ≡ Offered whole = sym (follow_end n place (Some offers)) ∙ e in
    let same : offers ≡ whole = cc in
    subst (ArePlayed (played_behind n place offers [])) same (record { offered = a; alone = play_end store_language offers.config n place (offers_alone offers.list) })
lines_alone n place offers whole (line ∷ lines) a e =
    let short = not_too_long n place (Some offers) whole line lines (holds_limit place line) refl e in
    after_alone n place offers whole line lines (after_line (Some offers) (text_of line)) refl short a (λ next b more. lines_alone (n + 1) (place + length line) next whole lines b more) e

-- ---- up to the configuration

first_alone : (n place : ℕ) (whole : Offers) (line : List ℕ) (lines : List (List ℕ)) (more : Option Offers) → IsFirst (text_of line) more → holds_limit place line ≡ false
    → (follow (n + 1) (place + length line) None lines ≡ Offered whole → ArePlayed (reading_from store_language (n + 1) (place + length line) lines) whole)
    → follow (n + 1) (place + length line) more lines ≡ Offered whole → ArePlayed (reading_from store_language n place (line ∷ lines)) whole
first_alone n place whole line lines None (Before passed) short go e = played_by _ _ whole (reading_from_passed store_language n place line lines short passed) (go e)
first_alone n place whole line lines (Some next) (Says config passed said) short go e =
    played_by _ _ whole (reading_from_goes store_language n place line lines config short passed said)
    (lines_alone (n + 1) (place + length line) (record { config = config; list = [] }) whole lines (none_offered config (text_of line) said) e)

begin_alone : (n place : ℕ) (whole : Offers) (line : List ℕ) (lines : List (List ℕ)) (said : Result (Option Offers) Reason) → after_line None (text_of line) ≡ said → holds_limit place line ≡ false
    → (follow (n + 1) (place + length line) None lines ≡ Offered whole → ArePlayed (reading_from store_language (n + 1) (place + length line) lines) whole)
    → follow n place None (line ∷ lines) ≡ Offered whole → ArePlayed (reading_from store_language n place (line ∷ lines)) whole
begin_alone n place whole line lines (Ok more) is short go e =
    first_alone n place whole line lines more (line_first more (text_of line) is) short go (sym (follow_goes n place None more line lines short is) ∙ e)
begin_alone n place whole line lines (Err reason) is short go e =
    let refused : RefusedAt n reason ≡ Offered whole = sym (follow_refused n place None line lines reason short is) ∙ e in absurd cc

reading_from_alone : (n place : ℕ) (whole : Offers) (lines : List (List ℕ)) → follow n place None lines ≡ Offered whole → ArePlayed (reading_from store_language n place lines) whole
reading_from_alone n place whole [] e = let refused : RefusedAt n NoNodesLine ≡ Offered whole = sym (follow_end n place None) ∙ e in absurd cc
reading_from_alone n place whole (line ∷ lines) e =
    let short = not_too_long n place None whole line lines (holds_limit place line) refl e in
    begin_alone n place whole line lines (after_line None (text_of line)) refl short (reading_from_alone (n + 1) (place + length line) whole lines) e

-- a whole script
pub script_alone : (bytes : List ℕ) (whole : Offers) → offers_reading bytes ≡ Offered whole → ArePlayed (reading bytes) whole
script_alone bytes whole e =
    played_by _ _ whole (sym (reading_opens store_language bytes)) (reading_from_alone 1 0 whole (lines_of bytes) (offers_open bytes ∙ e))
