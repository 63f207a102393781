-- What is right to offer has a script of `run` that says it.
use Rattle.std.proofs.Common.{◌≡◌, List, [], ◌∷◌, sym, ap, subst, ◌∙◌, arith}
use Rattle.std.specs.List.{All}
use Rattle.std.proofs.lemmas.Bool.{lt-ltb}
use Rattle.std.proofs.lemmas.List.{length-map}
use Rattle.std.proofs.lemmas.List.Elements.{All-head, All-tail, All-weaker, All-map}
use Rattle.std.proofs.lemmas.List.Sums.{count_by-le-length}
use Rattle.gp_round.specs.Counts.{Counts}
use Rattle.gp_msg.specs.declared.event.Event.{Event}
use Rattle.gp_msg.specs.declared.event.Event.TheVariants as event
use Rattle.gp_msg.specs.Messages.{Entry}
use Rattle.gp_run.specs.Legal.{Legal}
use Rattle.gp_run.specs.Runs.{entry_after, run_of, AllFit, oldest_first}
use Rattle.gp_run.proofs.Running.{legal_run}
use Rattle.gp_service.specs.Stores.{store_language}
use Rattle.gp_service.specs.StoreLaws.{store_spelled}
use Rattle.gp_text.specs.Reading.{Whole, is_offer, reading}
use Rattle.gp_text.specs.Limits.{IsOfOperation, IsWithinScript}
use Rattle.gp_text.specs.Traces.{trace}
use Rattle.gp_text.proofs.TraceReading.{trace_read, events-run_onto}
use Rattle.gp_text.specs.declared.offers.Offers.{Offers}
use Rattle.gp_text.specs.Offering.{Offer, Offered, offers_reading}
use Rattle.gp_text.specs.Offered.{IsOffer, AreOffered, offer_events}
use Rattle.gp_text.proofs.OffersAgain.{script_again}

offers_fit : (c : Counts) (es : List Entry) (offers : List Offer) → All IsOffer offers → AllFit c es (offer_events offers)
offers_fit c es [] all = tt
offers_fit c es (offer ∷ offers) all =
    let first = All-head IsOffer offer offers all in
    (lt-ltb offer.0 8 first.0, offers_fit c (entry_after c es (event.Offer offer.0 offer.1) ∷ es) offers (All-tail IsOffer offer offers all))

offers_within : (offers : Offers) → AreOffered offers → IsWithinScript store_language (offer_events offers.list)
offers_within offers a =
    let few = a.few in
    let made = length-map offers.list (λ (o : Offer). event.Offer o.0 o.1) in
    let counted = count_by-le-length is_offer (offer_events offers.list) in
    record {
      few = omega (arith, few, made);
      few_offers = omega (arith, few, made, counted);
      operations = All-map (IsOfOperation store_language) (λ (o : Offer). event.Offer o.0 o.1) offers.list
          (All-weaker IsOffer (λ (o : Offer). IsOfOperation store_language (event.Offer o.0 o.1)) (λ o is. is.1) offers.list a.each);
    }

-- the trace of the offers says them
pub offers_traced : (offers : Offers) → AreOffered offers → offers_reading (trace offers.config (offer_events offers.list)) ≡ Offered offers
offers_traced offers a =
    let events = offer_events offers.list in
    let run = run_of offers.config events in
    let same : oldest_first run ≡ events = events-run_onto offers.config [] events in
    let legal : Legal offers.config run = legal_run offers.config [] events tt (offers_fit offers.config [] offers.list a.each) in
    let within : IsWithinScript store_language (oldest_first run) = subst (IsWithinScript store_language) (sym same) (offers_within offers a) in
    let read = trace_read store_language store_spelled offers.config run a.range legal within in
    script_again (trace offers.config events) offers a.few
    (ap (λ (es : List Event). reading (trace offers.config es)) (sym same) ∙ read ∙ ap (λ (es : List Event). Whole offers.config (record { events = es; shown = [] })) same)
