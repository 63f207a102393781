use Rattle.std.proofs.Common.{◌≡◌, ℕ, List, Decides, sym, ap, subst, ◌∙◌}
use Rattle.std.specs.FinMap.{entries, same_entries_map}
use Rattle.std.specs.Cmp.{unsigned_Decides}
use Rattle.std.specs.Cmp.Lexicographic.{texts_ties}
use Rattle.std.specs.Ordering.{eq_by_cmp}
use Rattle.std.proofs.lemmas.Slice.Eq.{bytes_eq-Decides}
use Rattle.std.proofs.lemmas.Map.Lookups.{btree_map_eq-Decides}
use Rattle.gp_command.specs.Key.{key_cmp}
use Rattle.gp_store.specs.Pairs.{Pairs}
use Rattle.gp_report.proofs.summaries.hold_the_same.Goals as goal

key_decides : (key other : List ℕ) → Decides (eq_by_cmp key_cmp key other) (key ≡ other)
key_decides key other = subst (λ t. Decides t (key ≡ other)) (texts_ties key other) (bytes_eq-Decides key other)

pub returns : goal.returns
returns c =
    let d = btree_map_eq-Decides key_decides unsigned_Decides c.pairs.result.now c.pairs-2.result.now c.eq.result c.eq.ensures in (
      (λ t. same_entries_map c.args.store.now c.args.other.now (sym c.pairs.ensures ∙ d.0 t ∙ c.pairs-2.ensures)),
      λ e. d.1 (c.pairs.ensures ∙ ap (λ (m : Pairs). entries m) e ∙ sym c.pairs-2.ensures),
    )
