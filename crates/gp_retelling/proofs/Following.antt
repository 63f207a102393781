-- The records of a list, one more at a time.
use Rattle.std.proofs.Common.{◌≡◌, ℕ, ◌+◌, ◌<◌, List, [], ◌∷◌, ◌++◌, length, map, take, drop, get_or, sym, ap, subst, ◌∙◌, add-one}
use Rattle.std.specs.Prelude.{reverse}
use Rattle.std.proofs.Math.Seq.{take-suc}
use Rattle.std.proofs.lemmas.List.{take-append-drop, map-append, reverse-append}
use Rattle.gp_round.specs.Counts.{Counts}
use Rattle.gp_msg.specs.declared.record.Record.{Record}
use Rattle.gp_msg.specs.Messages.{Entry, entry_of}
use Rattle.gp_run.specs.Legal.{Legal, Follows}
use Rattle.gp_run.specs.Runs.{newest_first}
use Rattle.gp_run.proofs.Telling.{entries-push}
use Rattle.gp_agreement.proofs.Projected.{legal_rest}

entries-append : (xs ys : List Record) → newest_first (xs ++ ys) ≡ newest_first ys ++ newest_first xs
entries-append xs ys = ap (map entry_of) (reverse-append xs ys) ∙ map-append entry_of (reverse ys) (reverse xs)

-- one more record is one more entry
pub entries_more : (rs : List Record) (at : ℕ) (r : Record) → at < length rs → r ≡ get_or rs at r → newest_first (take (at + 1) rs) ≡ entry_of r ∷ newest_first (take at rs)
entries_more rs at r less is =
    let one : take (at + 1) rs ≡ take at rs ++ r ∷ [] = ap (λ (n : ℕ). take n rs) (add-one at) ∙ take-suc rs at r less ∙ ap (λ (z : Record). take at rs ++ z ∷ []) (sym is) in
    ap newest_first one ∙ entries-push (take at rs) r

-- the entry of a record may come after those before it
pub follows_before : (config : Counts) (rs : List Record) (at : ℕ) (r : Record) → Legal config (newest_first rs) → at < length rs → r ≡ get_or rs at r → Follows config (newest_first (take at rs)) (entry_of r)
follows_before config rs at r legal less is =
    let entry = entries_more rs at r less is in
    let later = newest_first (drop (at + 1) rs) in
    let whole : later ++ entry_of r ∷ newest_first (take at rs) ≡ newest_first rs =
    ap (λ (ys : List Entry). later ++ ys) (sym entry) ∙ sym (entries-append (take (at + 1) rs) (drop (at + 1) rs)) ∙ ap newest_first (take-append-drop (at + 1) rs) in
    (legal_rest config 0 later (entry_of r ∷ newest_first (take at rs)) (subst (Legal config) (sym whole) legal)).1
