-- What readers saw, in lines.
use Rattle.std.specs.Prelude.{ℕ, List, ◌++◌, codes, decimal, map, Option, Some, None}
use Rattle.std.specs.List.{flat_map}
use Rattle.gp_command.specs.declared.command.CommandId.{CommandId}
use Rattle.gp_words.specs.Spacing.{spaced}
use Rattle.gp_report.specs.Texts.{identity}
use Rattle.gp_onlookers.specs.declared.looks.Look.{Look}
use Rattle.gp_onlookers.specs.declared.looks.Looks.{Looks}

-- the commands, in the order in which they were run
abbrev pub order_line : List CommandId → List ℕ
order_line order = codes "order: " ++ spaced (map identity order) ++ codes "\n"

-- the value of a key, or that it is absent
abbrev pub value_text : Option ℕ → List ℕ
value_text None = codes "none"
value_text (Some value) = decimal value

-- a read of a reader
abbrev pub look_line : ℕ → Look → List ℕ
look_line reader look = codes "r" ++ decimal reader ++ codes " seen " ++ decimal look.seen ++ codes " value " ++ value_text look.value ++ codes "\n"

-- the reads of a reader, line by line
abbrev pub look_lines : ℕ → List Look → List ℕ
look_lines reader looks = flat_map (look_line reader) looks

-- a line `--`, the order, and the reads of reader 0 and then of reader 1
abbrev pub looks_text : Looks → List ℕ
looks_text looks = codes "--\n" ++ order_line looks.order.items ++ look_lines 0 looks.first.items ++ look_lines 1 looks.second.items
