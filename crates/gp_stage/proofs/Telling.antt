-- What a stage tells of its messages, and whether its run can be settled.
use Rattle.std.proofs.Common.{◌≡◌, ℕ, ◌+◌, ◌*◌, ◌<◌, ◌≤◌, List, length, reverse, slice_get, get_or, Bor, refl, sym, ap, ◌∙◌, arith, Some}
use Rattle.std.specs.Prelude.{Option, None, IfSome, MatchOption}
use Rattle.std.specs.Option.{option_map, option_copied}
use Rattle.std.proofs.lemmas.List.{length-map, length-reverse}
use Rattle.std.proofs.lemmas.Option.{slice_get-map, slice_get_past, slice_get_read}
use Rattle.gp_round.specs.Counts.{Counts}
use Rattle.gp_round.specs.Ranges.{AreInRange}
use Rattle.gp_msg.specs.declared.message.MsgKind.{MsgKind}
use Rattle.gp_msg.specs.Messages.{entry_of}
use Rattle.gp_msg.specs.Reads as reads
use Rattle.gp_run.specs.Messages.{messages}
use Rattle.gp_run.specs.Runs.{newest_first}
use Rattle.gp_run.proofs.Telling.{as_many_messages, message-entries}
use Rattle.gp_driver.specs.Kinds.{kind_of}
use Rattle.gp_driver.proofs.Worlds.{kind_told}
use Rattle.gp_wire.specs.Known.{WireState, records, record_of}
use Rattle.gp_msg.specs.Records.{messages_in}
use Rattle.gp_cell.specs.declared.rules.PaxosRules.{PaxosRules}
use Rattle.gp_cell.specs.Cells.{CellState}
use Rattle.gp_stage.specs.declared.settling.TheConstants.{MOST_ENTRIES, MOST_ROUNDS}
use Rattle.gp_stage.specs.Held.{seen_by}
use Rattle.gp_stage.specs.Kept.{IsKept}
use Rattle.gp_stage.specs.Bounds.{CanSettle, IsWithin}
use Rattle.gp_stage.proofs.Founded.{legal_kept}
use Rattle.gp_stage.proofs.Bounding.{can_settle}

-- what a slice has at a place, as a copy
pub copied_at : {X : Type 0} (xs : List X) (i : ℕ) (o : Option (Bor X)) (P : Bor X → Type 0) → IfSome o (λ x. x.now ≡ get_or xs i x.now) → MatchOption o (length xs ≤ i) (λ x. (i < length xs) × P x) → option_copied o ≡ slice_get xs i
copied_at xs i None P is m = sym (slice_get_past xs i m)
copied_at xs i (Some x) P is m = sym (slice_get_read xs (length xs) i x.now refl m.0 is)

module _ {D : Type 0} (wire : WireState PaxosRules) (config : Counts) (cells : List (CellState D)) (holder : ℕ) (kinds : List MsgKind) (sent top : ℕ) (k : IsKept wire config cells holder kinds sent top) where
  pub as_many_kinds : length kinds ≡ length (messages (newest_first (seen_by (slice_get cells holder))))
  as_many_kinds = ap length k.kinds_are ∙ length-map (messages_in (seen_by (slice_get cells holder))) reads.kind_of ∙ sym (as_many_messages (seen_by (slice_get cells holder)))

  pub kind_at : (i : ℕ) → slice_get kinds i ≡ option_map kind_of (slice_get (messages (newest_first (seen_by (slice_get cells holder)))) i)
  kind_at i = ap (λ l. slice_get l i) k.kinds_are ∙ slice_get-map reads.kind_of (messages_in (seen_by (slice_get cells holder))) i
      ∙ sym (kind_told (slice_get (messages_in (seen_by (slice_get cells holder))) i)) ∙ ap (option_map kind_of) (sym (message-entries (seen_by (slice_get cells holder)) i))

  pub can_settle_within : AreInRange config.acceptors config.coordinators config.learners → IsWithin config (newest_first (seen_by (slice_get cells holder))) → CanSettle config (newest_first (seen_by (slice_get cells holder)))
  can_settle_within range within = can_settle config (newest_first (seen_by (slice_get cells holder))) range (legal_kept wire config cells holder kinds sent top k) within

  -- the numbers of messages and entries that the code compares are those of the run
  module _ (c : CellState D) (count entries : ℕ) (at : slice_get cells holder ≡ Some c) (many : count ≡ length kinds) (long : entries ≡ length c.pass.seen) where
    as_many_entries : entries ≡ length (newest_first (seen_by (slice_get cells holder)))
    as_many_entries = long ∙ sym (length-map c.pass.seen record_of) ∙ sym (length-reverse (records c.pass)) ∙ sym (length-map (reverse (records c.pass)) entry_of)
        ∙ ap (λ o. length (newest_first (seen_by o))) (sym at)

    pub is_within : top + count ≤ MOST_ROUNDS → entries + 71 * count + 50 ≤ MOST_ENTRIES → IsWithin config (newest_first (seen_by (slice_get cells holder)))
    is_within low short =
        let e = as_many_entries in let m = many ∙ as_many_kinds in let t = k.top_is in
        record { rounds = omega (arith, t, m, low); room = omega (arith, e, m, short) }

    pub is_low : IsWithin config (newest_first (seen_by (slice_get cells holder))) → top + count ≤ MOST_ROUNDS
    is_low within = let m = many ∙ as_many_kinds in let t = k.top_is in let l = within.rounds in omega (arith, t, m, l)

    pub is_short : IsWithin config (newest_first (seen_by (slice_get cells holder))) → entries + 71 * count + 50 ≤ MOST_ENTRIES
    is_short within = let e = as_many_entries in let m = many ∙ as_many_kinds in let l = within.room in omega (arith, e, m, l)
