-- The stage keeps what it is to keep.
use Rattle.std.proofs.Common.{◌≡◌, ℕ, max, List, map, slice_get, sym, ap, ◌∙◌}
use Rattle.gp_round.specs.Counts.{Counts}
use Rattle.gp_msg.specs.declared.message.MsgKind.{MsgKind}
use Rattle.gp_msg.specs.Reads.{kind_of}
use Rattle.gp_run.specs.Messages.{messages}
use Rattle.gp_run.specs.Runs.{newest_first}
use Rattle.gp_run.specs.TopCount.{top_count, top_of_messages}
use Rattle.gp_run.proofs.TopRounds.{top_is}
use Rattle.gp_wire.specs.Known.{WireState, records}
use Rattle.gp_msg.specs.Records.{messages_in}
use Rattle.gp_cell.specs.declared.rules.PaxosRules.{PaxosRules}
use Rattle.gp_cell.specs.Cells.{CellState}
use Rattle.gp_stage.specs.Held.{seen_by}
use Rattle.gp_stage.specs.Kept.{AreHeld, IsKept}
use Rattle.gp_stage.specs.Tops.{AreTrue, top_of_cells}
use Rattle.gp_stage.proofs.Leading.{leaders_top}

module _ {D : Type 0} (wire : WireState PaxosRules) (config : Counts) (cells : List (CellState D)) (holder : ℕ) (h : AreHeld wire config cells holder) where
  -- the whole list is that of the cell which holds all nodes
  pub list_of_lead : seen_by (slice_get cells holder) ≡ records h.lead.pass
  list_of_lead = ap seen_by h.lead_is

  -- the greatest count in messages and nodes is that in messages and in the rounds of coordinators
  pub top_of_all : (sent top : ℕ) → sent ≡ top_of_messages (messages (newest_first (records h.lead.pass))) → top ≡ top_of_cells cells → AreTrue cells → max sent top ≡ top_count config (newest_first (records h.lead.pass))
  top_of_all sent top s t cores = (λ i. max (s i) ((t ∙ leaders_top wire config cells holder h cores) i)) ∙ sym (top_is config (newest_first (records h.lead.pass)))

  pub is_kept : (kinds : List MsgKind) (sent all : ℕ) → kinds ≡ map kind_of (messages_in (records h.lead.pass)) → sent ≡ top_of_messages (messages (newest_first (records h.lead.pass)))
      → all ≡ top_count config (newest_first (records h.lead.pass)) → IsKept wire config cells holder kinds sent all
  is_kept kinds sent all k s t = record {
    held = h;
    kinds_are = k ∙ ap (λ l. map kind_of (messages_in l)) (sym list_of_lead);
    sent_is = s ∙ ap (λ l. top_of_messages (messages (newest_first l))) (sym list_of_lead);
    top_is = t ∙ ap (λ l. top_count config (newest_first l)) (sym list_of_lead);
  }
