-- The lines of a log, one behind another.
use Rattle.std.proofs.Common.{◌≡◌, ℕ, ◌+◌, List, [], ◌∷◌, ◌++◌, map, take, Some, sym, ap, ◌∙◌, append_assoc}
use Rattle.std.specs.Prelude.{slice_get}
use Rattle.std.specs.List.{flat_map}
use Rattle.std.proofs.lemmas.List.{map-append, flat_map_more}
use Rattle.gp_msg.specs.declared.durable.Durable.{Durable}
use Rattle.gp_msg.specs.Messages.{EpochPart, part_of}
use Rattle.gp_report.proofs.WrittenWords.{take_one_more}
use Rattle.gp_text.specs.Logs.{part_line}

-- the lines of some entries
abbrev pub lines : List Durable → List ℕ
lines ds = flat_map part_line (map part_of ds)

lines_push : (ds : List Durable) (d : Durable) → lines ds ++ part_line (part_of d) ≡ lines (ds ++ d ∷ [])
lines_push ds d =
    flat_map_more part_line [] (map part_of ds) (part_of d)
    ∙ ap (λ (ps : List EpochPart). flat_map part_line ps) (sym (map-append part_of ds (d ∷ [])))

-- one more line
pub lines_more : (head : List ℕ) (ds : List Durable) (i : ℕ) (d : Durable) → slice_get ds i ≡ Some d
    → (head ++ lines (take i ds)) ++ part_line (part_of d) ≡ head ++ lines (take (i + 1) ds)
lines_more head ds i d at =
    append_assoc head (lines (take i ds)) (part_line (part_of d))
    ∙ ap (λ (t : List ℕ). head ++ t) (lines_push (take i ds) d ∙ ap lines (sym (take_one_more ds i d at)))
