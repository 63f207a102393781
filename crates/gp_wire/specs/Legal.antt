-- Lists of records that a rule allows.
use Rattle.std.specs.Prelude.{◌≢◌, List, [], ◌∷◌, ◌++◌}
use Rattle.gp_msg.specs.declared.record.Record.{Record}

-- each record of the second list may follow the records before it
abbrev pub LegalFrom : (List Record → Record → Type 0) → List Record → List Record → Type 0
LegalFrom legal before [] = Unit {0}
LegalFrom legal before (x ∷ xs) = legal before x × LegalFrom legal (before ++ x ∷ []) xs

-- the second record is of another node than the first
abbrev pub IsOfOther : Record → Record → Type 0
IsOfOther x y = y.node ≢ x.node
