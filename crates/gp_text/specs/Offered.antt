-- What a script of `run` can offer, and the events of its offers.
use Rattle.std.specs.Prelude.{◌≡◌, ℕ, ◌≤◌, ◌<◌, List, [], length, map}
use Rattle.std.specs.List.{All}
use Rattle.gp_command.specs.declared.command.TheConstants.{PROPOSERS}
use Rattle.gp_round.specs.Ranges.{AreInRange}
use Rattle.gp_msg.specs.declared.event.Event.{Event}
use Rattle.gp_msg.specs.declared.event.Event.TheVariants as event
use Rattle.gp_service.specs.Languages.{IsSpoken}
use Rattle.gp_service.specs.Stores.{store_language}
use Rattle.gp_text.specs.Reading.{Whole, Sofar, reading}
use Rattle.gp_text.specs.declared.offers.Offers.{Offers}
use Rattle.gp_text.specs.declared.limits.TheConstants.{MOST_RUN_OFFERS}
use Rattle.gp_text.specs.Offering.{Offer}

-- one of the eight proposers is given the draft of an operation of the key store
abbrev pub IsOffer : Offer → Type 0
IsOffer offer = (offer.0 < PROPOSERS) × IsSpoken store_language offer.1

-- the configuration is in range, and there are no more offers than a script may have
pub record AreOffered (offers : Offers) : Type 0 where
  pub range : AreInRange offers.config.acceptors offers.config.coordinators offers.config.learners
  pub few : length offers.list ≤ MOST_RUN_OFFERS
  pub each : All IsOffer offers.list

-- the events of these offers, in their order
abbrev pub offer_events : List Offer → List Event
offer_events offers = map (λ (offer : Offer). event.Offer offer.0 offer.1) offers

-- a script that says these offers in this order, and shows nothing
abbrev pub offers_alone : List Offer → Sofar
offers_alone offers = record { events = offer_events offers; shown = [] }

-- `play` reads the script too, as these offers and nothing else, and there are no more than a script of `run` may have
abbrev pub IsPlayedAlone : List ℕ → Offers → Type 0
IsPlayedAlone bytes offers = (reading bytes ≡ Whole offers.config (offers_alone offers.list)) × (length offers.list ≤ MOST_RUN_OFFERS)
