-- What the lines of a script of `run` say is offered.
use Rattle.std.proofs.Common.{◌≡◌, ℕ, ◌<◌, Bool, true, false, cond, List, [], ◌∷◌, ◌++◌, length, Option, Some, None, Ok, refl, ap, subst, ◌∙◌, arith}
use Rattle.std.specs.Prelude.{nat_le}
use Rattle.std.specs.Option.{ok_or}
use Rattle.std.proofs.lemmas.Bool.{leb-false}
use Rattle.std.proofs.lemmas.List.{length-append}
use Rattle.std.proofs.lemmas.List.Elements.{All-push, All-nil}
use Rattle.gp_round.specs.Counts.{Counts}
use Rattle.gp_words.specs.Tokens.{tokens_of}
use Rattle.gp_memory.specs.Results.{◌>>=◌}
use Rattle.gp_service.specs.Stores.{store_language}
use Rattle.gp_service.specs.StoreLaws.{store_spelled}
use Rattle.gp_script.specs.declared.reason.Reason.TheVariants.{NoNodesLine, BadLine, TooManyCommands}
use Rattle.gp_script.specs.declared.items.Item.{Item}
use Rattle.gp_script.specs.declared.items.Item.TheVariants as item
use Rattle.gp_script.specs.Forms.{Form, NodesLine, OfferLine, BeginLine, TakeLine, FallLine, ShowLine, form_of}
use Rattle.gp_script.specs.Items.{item_of, counts_of}
use Rattle.gp_script.proofs.Steps.{test_then}
use Rattle.gp_script.proofs.ItemLemmas.{item_admitted}
use Rattle.gp_script.proofs.CountsLemmas.{counts_in_range}
use Rattle.gp_text.specs.Reading.{is_passed, is_nodes, nodes_line, item_in}
use Rattle.gp_store.proofs.ReadingLemmas.{bound}
use Rattle.gp_text.proofs.SaidLegally.{test_else}
use Rattle.gp_text.specs.declared.offers.Offers.{Offers}
use Rattle.gp_text.specs.declared.limits.TheConstants.{MOST_RUN_OFFERS}
use Rattle.gp_text.specs.Offering.{Offer, offer_in, offer_by, offer_line, with_offer, table_line, after_line}
use Rattle.gp_text.specs.Offered.{IsOffer, AreOffered}

-- ---- one offer

-- the item that says an offer
abbrev pub offer_item : Offer → Item
offer_item offer = item.Offer offer.0 offer.1

item_offers : (said : Item) (offer : Offer) → offer_in said ≡ Ok offer → said ≡ offer_item offer
item_offers (item.Offer proposer draft) offer e = let same : (proposer, draft) ≡ offer = cc in ap offer_item same
item_offers (item.Begin coordinator round) offer e = absurd cc
item_offers (item.Take node message) offer e = absurd cc
item_offers (item.Fall node what) offer e = absurd cc
item_offers (item.Show learner) offer e = absurd cc

form_offers : (config : Counts) (form : Form) (offer : Offer) → offer_by config form ≡ Ok offer → item_of store_language config form ≡ Ok (offer_item offer)
form_offers config (NodesLine a c l) offer e = absurd cc
form_offers config (OfferLine node words) offer e =
    let s = bound (item_of store_language config (OfferLine node words)) offer_in offer e in s.1 ∙ ap Ok (item_offers s.0 offer s.2)
form_offers config (BeginLine node count mode) offer e = absurd cc
form_offers config (TakeLine node message) offer e = absurd cc
form_offers config (FallLine node what) offer e = absurd cc
form_offers config (ShowLine node) offer e = absurd cc

-- a line that offers says the item of its offer
pub line_offers : (config : Counts) (text : List ℕ) (offer : Offer) → offer_line config text ≡ Ok offer → item_in store_language config text ≡ Ok (offer_item offer)
unfolding offer_line item_in
line_offers config text offer e =
    let s = bound (ok_or (form_of (tokens_of text)) BadLine) (offer_by config) offer e in rw s.1 (form_offers config s.0 offer s.2)

-- and its proposer and draft are right
line_right : (config : Counts) (text : List ℕ) (offer : Offer) → offer_line config text ≡ Ok offer → IsOffer offer
unfolding offer_line
line_right config text offer e =
    let s = bound (ok_or (form_of (tokens_of text)) BadLine) (offer_by config) offer e in
    item_admitted store_language store_spelled config s.0 (offer_item offer) (form_offers config s.0 offer s.2)

abbrev pub with_one : Offers → Offer → Offers
with_one offers offer = record { config = offers.config; list = offers.list ++ offer ∷ [] }

-- there was room for the offer
room_for : (offers next : Offers) (offer : Offer) → with_offer offers offer ≡ Ok next → (length offers.list < MOST_RUN_OFFERS) × (with_one offers offer ≡ next)
unfolding with_offer
room_for offers next offer e =
    let t = test_else (nat_le MOST_RUN_OFFERS (length offers.list)) TooManyCommands (Ok (with_one offers offer)) next e in
    (leb-false MOST_RUN_OFFERS (length offers.list) t.0, cc)

-- ---- one line

-- a line behind the configuration: it was passed over, or it had room for its offer
pub data IsMore (offers : Offers) (text : List ℕ) : Option Offers → Type 0 where
  Passed : is_passed text ≡ true → IsMore offers text (Some offers)
  Said : (offer : Offer) → is_passed text ≡ false → offer_line offers.config text ≡ Ok offer → length offers.list < MOST_RUN_OFFERS → IsMore offers text (Some (with_one offers offer))

table_more : (offers next : Offers) (text : List ℕ) → is_passed text ≡ false → table_line (Some offers) text ≡ Ok next → IsMore offers text (Some next)
unfolding table_line
table_more offers next text passed e =
    let s = bound (offer_line offers.config text) (with_offer offers) next e in
    let room = room_for offers next s.0 s.2 in
    subst (λ (o : Offers). IsMore offers text (Some o)) room.1 (Said s.0 passed s.1 room.0)

more_cases : (offers : Offers) (more : Option Offers) (text : List ℕ) (passed : Bool) → is_passed text ≡ passed
    → cond passed (Ok (Some offers)) (table_line (Some offers) text >>= (λ next. Ok (Some next))) ≡ Ok more → IsMore offers text more
more_cases offers more text true is e = let same : Some offers ≡ more = cc in subst (IsMore offers text) same (Passed is)
more_cases offers more text false is e =
    let s = bound (table_line (Some offers) text) (λ next. Ok (Some next)) more e in
    let same : Some s.0 ≡ more = cc in
    subst (IsMore offers text) same (table_more offers s.0 text is s.1)

pub line_more : (offers : Offers) (more : Option Offers) (text : List ℕ) → after_line (Some offers) text ≡ Ok more → IsMore offers text more
unfolding after_line
line_more offers more text e = more_cases offers more text (is_passed text) refl e

-- a line before the configuration: it was passed over, or it said the configuration
pub data IsFirst (text : List ℕ) : Option Offers → Type 0 where
  Before : is_passed text ≡ true → IsFirst text None
  Says : (config : Counts) → is_passed text ≡ false → nodes_line text ≡ Ok config → IsFirst text (Some (record { config = config; list = [] }))

table_first : (next : Offers) (text : List ℕ) → is_passed text ≡ false → table_line None text ≡ Ok next → IsFirst text (Some next)
unfolding table_line
table_first next text passed e =
    let s = bound (nodes_line text) (λ config. Ok (record { config = config; list = [] })) next e in
    let same : record { config = s.0; list = [] } ≡ next = cc in
    subst (λ (o : Offers). IsFirst text (Some o)) same (Says s.0 passed s.1)

first_cases : (more : Option Offers) (text : List ℕ) (passed : Bool) → is_passed text ≡ passed
    → cond passed (Ok None) (table_line None text >>= (λ next. Ok (Some next))) ≡ Ok more → IsFirst text more
first_cases more text true is e = let same : None ≡ more = cc in subst (IsFirst text) same (Before is)
first_cases more text false is e =
    let s = bound (table_line None text) (λ next. Ok (Some next)) more e in
    let same : Some s.0 ≡ more = cc in
    subst (IsFirst text) same (table_first s.0 text is s.1)

pub line_first : (more : Option Offers) (text : List ℕ) → after_line None text ≡ Ok more → IsFirst text more
unfolding after_line
line_first more text e = first_cases more text (is_passed text) refl e

-- ---- what is offered

-- one offer more is right
pub one_more : (offers : Offers) (text : List ℕ) (offer : Offer) → AreOffered offers → offer_line offers.config text ≡ Ok offer → length offers.list < MOST_RUN_OFFERS → AreOffered (with_one offers offer)
one_more offers text offer a e room = record {
  range = a.range;
  few = let sum = length-append offers.list (offer ∷ []) in omega (arith, room, sum);
  each = All-push IsOffer offers.list offer a.each (line_right offers.config text offer e);
}

-- and so is a configuration without offers
pub none_offered : (config : Counts) (text : List ℕ) → nodes_line text ≡ Ok config → AreOffered (record { config = config; list = [] })
unfolding nodes_line
none_offered config text e =
    let t = test_then (is_nodes (tokens_of text)) (ok_or (form_of (tokens_of text)) BadLine >>= counts_of) config NoNodesLine e in
    let s = bound (ok_or (form_of (tokens_of text)) BadLine) counts_of config t.1 in
    record { range = counts_in_range s.0 config s.2; few = omega arith; each = All-nil IsOffer }
