-- Where a script is refused, and what is wrong there.
use Rattle.std.specs.Prelude.{◌≡◌, ◌⊎◌, ℕ, ◌+◌, ◌≤◌, true, false, List, [], ◌∷◌, ◌++◌, length, count_by, Option, Some, None, Ok}
use Rattle.std.specs.List.{All}
use Rattle.gp_round.specs.Counts.{Counts}
use Rattle.gp_service.specs.Languages.{Language}
use Rattle.gp_words.specs.Lines.{text_of}
use Rattle.gp_words.specs.Tokens.{tokens_of}
use Rattle.gp_script.specs.declared.reason.Reason.{Reason}
use Rattle.gp_script.specs.declared.reason.Reason.TheVariants.{TooLong, NoNodesLine, BadLine, NoMessage, TooManyCommands, TooManyEvents}
use Rattle.gp_script.specs.declared.items.Item.{Item}
use Rattle.gp_script.specs.declared.items.Item.TheVariants as item
use Rattle.gp_script.specs.Forms.{Form, form_of}
use Rattle.gp_script.specs.Items.{item_of}
use Rattle.gp_script.specs.Broken.{BreaksLine, BreaksCounts}
use Rattle.gp_script.specs.Reasons.{is_of_report}
use Rattle.gp_text.specs.declared.limits.TheConstants.{MOST_OFFERS, MOST_EVENTS}
use Rattle.gp_text.specs.Reading.{Reading, Sofar, Script, Whole, Refused, messages_after, is_offer, lacks_kept, is_nodes, is_passed, holds_limit, reading_from}

-- how many bytes these lines have
abbrev pub size_of : List (List ℕ) → ℕ
size_of [] = 0
size_of (line ∷ lines) = length line + size_of lines

-- it does not begin with the word `nodes`; or it does not have the words of that row; or its first number that breaks its rule gives the reason
abbrev pub IsWrongNodes : List ℕ → Reason → Type 0
IsWrongNodes text reason =
    ((is_nodes (tokens_of text) ≡ false) × (reason ≡ NoNodesLine)) ⊎ ((is_nodes (tokens_of text) ≡ true) × (((form_of (tokens_of text) ≡ None) × (reason ≡ BadLine)) ⊎ ((form : Form) × (form_of (tokens_of text) ≡ Some form) × BreaksCounts form reason)))

-- no event may follow these any more
abbrev pub IsFull : Sofar → Reason → Type 0
IsFull said reason = (MOST_EVENTS ≤ length said.events) × (reason ≡ TooManyEvents)

-- it is an offer too many; or it names a message that was not sent yet; or it is an event too many
abbrev pub MayNotFollow : Counts → Sofar → Item → Reason → Type 0
MayNotFollow config said (item.Offer proposer draft) reason = ((MOST_OFFERS ≤ count_by is_offer said.events) × (reason ≡ TooManyCommands)) ⊎ IsFull said reason
MayNotFollow config said (item.Begin coordinator round) reason = IsFull said reason
MayNotFollow config said (item.Take node message) reason = ((messages_after config said.events ≤ message) × (reason ≡ NoMessage)) ⊎ IsFull said reason
MayNotFollow config said (item.Fall node what) reason = ((lacks_kept (messages_after config said.events) what ≡ true) × (reason ≡ NoMessage)) ⊎ IsFull said reason
MayNotFollow config said (item.Show learner) reason = ⊥

-- it has the words of no row; or its first token that breaks its rule gives the reason; or what it says may not follow what was said
abbrev pub IsWrongLine : Language → Counts → Sofar → List ℕ → Reason → Type 0
IsWrongLine language config said text reason =
    ((form_of (tokens_of text) ≡ None) × (reason ≡ BadLine)) ⊎ ((form : Form) × (form_of (tokens_of text) ≡ Some form) × (BreaksLine language config form reason ⊎ ((says : Item) × (item_of language config form ≡ Ok says) × MayNotFollow config said says reason)))

-- after lines that are passed over there is no line; or the next one holds the first byte that is too many; or it is a wrong `nodes` line
abbrev pub IsRefusedFirst : ℕ → List (List ℕ) → Reason → Type 0
IsRefusedFirst place [] reason = reason ≡ NoNodesLine
IsRefusedFirst place (line ∷ lines) reason =
    ((holds_limit place line ≡ true) × (reason ≡ TooLong)) ⊎ ((holds_limit place line ≡ false) × (is_passed (text_of line) ≡ false) × IsWrongNodes (text_of line) reason)

-- after lines that said this of a configuration, the next one holds the first byte that is too many; or it is wrong
abbrev pub IsRefusedBehind : Language → Counts → Sofar → ℕ → List (List ℕ) → Reason → Type 0
IsRefusedBehind language config said place [] reason = ⊥
IsRefusedBehind language config said place (line ∷ lines) reason =
    ((holds_limit place line ≡ true) × (reason ≡ TooLong)) ⊎ ((holds_limit place line ≡ false) × (is_passed (text_of line) ≡ false) × IsWrongLine language config said (text_of line) reason)

-- of the lines from number n and this place on, those in front are passed over, or they are a whole script, which says what was said before; the line after them is refused
abbrev pub Breaks : Language → ℕ → ℕ → List (List ℕ) → List (List ℕ) → Reason → Option Script → Type 0
Breaks language n place front rest reason None = All (λ line. is_passed (text_of line) ≡ true) front × IsRefusedFirst (place + size_of front) rest reason
Breaks language n place front rest reason (Some script) =
    (said : Sofar) × (script.events ≡ said.events) × (reading_from language n place front ≡ Whole script.config said) × IsRefusedBehind language script.config said (place + size_of front) rest reason

-- among the lines from number n and this place on, the one with this number is the first that is refused
pub record BreaksFrom (language : Language) (n place : ℕ) (lines : List (List ℕ)) (number : ℕ) (reason : Reason) (before : Option Script) : Type 0 where
  pub front : List (List ℕ)
  pub rest : List (List ℕ)
  pub parts : lines ≡ front ++ rest
  pub numbered : number ≡ n + length front
  pub breaks : Breaks language n place front rest reason before

-- the same for all lines of a script, which are numbered from 1
abbrev pub BreaksAt : Language → List (List ℕ) → ℕ → Reason → Option Script → Type 0
BreaksAt language lines number reason before = BreaksFrom language 1 0 lines number reason before

-- if it is refused, then not for a report
abbrev pub IsOfScript : Reading → Type 0
IsOfScript (Whole config said) = Unit {0}
IsOfScript (Refused line reason before) = is_of_report reason ≡ false
