-- What a script of `run` says: a configuration with what is offered, or its first refused line.
use Rattle.std.specs.Prelude.{ℕ, ◌+◌, nat_le, List, [], ◌∷◌, ◌++◌, length, Option, Some, None, Result, Ok, Err, if◌then◌else◌}
use Rattle.std.specs.Option.{ok_or}
use Rattle.gp_command.specs.Views.{DraftView}
use Rattle.gp_round.specs.Counts.{Counts}
use Rattle.gp_service.specs.Stores.{store_language}
use Rattle.gp_words.specs.Lines.{lines_of, text_of}
use Rattle.gp_words.specs.Tokens.{tokens_of}
use Rattle.gp_memory.specs.Results.{◌>>=◌}
use Rattle.gp_script.specs.declared.reason.Reason.{Reason}
use Rattle.gp_script.specs.declared.reason.Reason.TheVariants.{TooLong, NoNodesLine, BadLine, TooManyCommands}
use Rattle.gp_script.specs.declared.items.Item.{Item}
use Rattle.gp_script.specs.declared.items.Item.TheVariants as item
use Rattle.gp_script.specs.Forms.{Form, NodesLine, OfferLine, BeginLine, TakeLine, FallLine, ShowLine, form_of}
use Rattle.gp_script.specs.Items.{item_of}
use Rattle.gp_text.specs.Reading.{is_passed, nodes_line, holds_limit}
use Rattle.gp_text.specs.declared.offers.Offers.{Offers}
use Rattle.gp_text.specs.declared.limits.TheConstants.{MOST_RUN_OFFERS}

-- a proposer, and the draft of the operation that it is given to offer
abbrev pub Offer : Type 0
Offer = ℕ × DraftView

-- a script that says this, or the line at which it is refused, and why
pub data OffersReading : Type 0 where
  Offered : Offers → OffersReading
  RefusedAt : ℕ → Reason → OffersReading

-- what an item offers
abbrev pub offer_in : Item → Result Offer Reason
offer_in (item.Offer proposer draft) = Ok (proposer, draft)
offer_in (item.Begin coordinator round) = Err BadLine
offer_in (item.Take node message) = Err BadLine
offer_in (item.Fall node what) = Err BadLine
offer_in (item.Show learner) = Err BadLine

-- what a line offers in this configuration, by an operation of the key store; after the `nodes` line only offers are allowed
abbrev pub offer_by : Counts → Form → Result Offer Reason
offer_by config (NodesLine acceptors coordinators learners) = Err BadLine
offer_by config (OfferLine node words) = item_of store_language config (OfferLine node words) >>= offer_in
offer_by config (BeginLine node count mode) = Err BadLine
offer_by config (TakeLine node message) = Err BadLine
offer_by config (FallLine node what) = Err BadLine
offer_by config (ShowLine node) = Err BadLine

-- the same for the text of a line
unfoldable pub offer_line : Counts → List ℕ → Result Offer Reason
offer_line config text = do
  form ← ok_or (form_of (tokens_of text)) BadLine
  offer_by config form

-- one more offer, unless the script already has as many as it may have
unfoldable pub with_offer : Offers → Offer → Result Offers Reason
with_offer offers offer =
    if nat_le MOST_RUN_OFFERS (length offers.list) then Err TooManyCommands
    else Ok (record { config = offers.config; list = offers.list ++ offer ∷ [] })

-- what a line of the table says: the first line gives the configuration, and each line after it one more offer
unfoldable pub table_line : Option Offers → List ℕ → Result Offers Reason
table_line None text = do
  config ← nodes_line text
  Ok (record { config = config; list = [] })
table_line (Some offers) text = do
  offer ← offer_line offers.config text
  with_offer offers offer

-- what the lines so far said, with this one; a line that is empty or begins with `#` is passed over
unfoldable pub after_line : Option Offers → List ℕ → Result (Option Offers) Reason
after_line so_far text =
    if is_passed text then Ok so_far else (table_line so_far text >>= (λ offers. Ok (Some offers)))

-- goes on with what a line gave, or is refused there
abbrev pub on_line : Result (Option Offers) Reason → (Option Offers → OffersReading) → ℕ → OffersReading
on_line (Ok more) go number = go more
on_line (Err reason) go number = RefusedAt number reason

-- after the last line: a script without a configuration is refused there
abbrev pub ended : ℕ → Option Offers → OffersReading
ended number None = RefusedAt number NoNodesLine
ended number (Some offers) = Offered offers

-- the lines from the one with this number and place on, after lines that said this
unfoldable pub follow : ℕ → ℕ → Option Offers → List (List ℕ) → OffersReading
follow number place so_far [] = ended number so_far
follow number place so_far (line ∷ lines) =
    if holds_limit place line then RefusedAt number TooLong
    else on_line (after_line so_far (text_of line)) (λ more. follow (number + 1) (place + length line) more lines) number

-- a script of `run`: lines are numbered from 1, and bytes from 0
unfoldable pub offers_reading : List ℕ → OffersReading
offers_reading bytes = follow 1 0 None (lines_of bytes)
