-- What words mean to a service.
use Rattle.std.specs.Prelude.{◌≡◌, ℕ, ◌≤◌, false, List, Option, Some, Result, Ok, length}
use Rattle.gp_command.specs.Views.{DraftView}
use Rattle.gp_words.specs.Bytes.{Lacks}
use Rattle.gp_words.specs.Lines.{is_line_feed}
use Rattle.gp_words.specs.Tokens.{tokens_of, has_empty}
use Rattle.gp_store.specs.declared.form.OpFault.{OpFault}

-- either no operation has this name and this number of words, or one of the words has a fault, or they spell the operation with this draft
abbrev pub Language : Type 0
Language = List (List ℕ) → Option (Result DraftView OpFault)

-- the draft is that of an operation of the language, and is read from its body
abbrev pub IsSpoken : Language → DraftView → Type 0
IsSpoken language draft = language (tokens_of draft.body) ≡ Some (Ok draft)

-- what is known of words that spell an operation with this draft: they are the tokens of its body, and none is empty; the body has no line feed and at most 62 bytes
pub record IsSpelled (words : List (List ℕ)) (draft : DraftView) : Type 0 where
  pub tokens : words ≡ tokens_of draft.body
  pub some : has_empty words ≡ false
  pub feedless : Lacks is_line_feed draft.body
  pub short : length draft.body ≤ 62

-- an operation has one spelling
abbrev pub IsLanguage : Language → Type 0
IsLanguage language = (words : List (List ℕ)) (draft : DraftView) → language words ≡ Some (Ok draft) → IsSpelled words draft
