-- A new stage, by the list that was lent to the first cell and came back.
use Rattle.std.proofs.Common.{◌≡◌, ℕ, ◌<◌, max, List, ◌++◌, length, map, slice_get, slice_set, take, drop, get_or, refl, sym, ap, ◌∙◌, subst, arith, Some}
use Rattle.std.proofs.lemmas.Option.{slice_get_read}
use Rattle.gp_round.specs.Counts.{Counts}
use Rattle.gp_msg.specs.declared.message.MsgKind.{MsgKind}
use Rattle.gp_msg.specs.Messages.{message_of}
use Rattle.gp_msg.specs.Reads.{kind_of}
use Rattle.gp_run.specs.Legal.{Legal}
use Rattle.gp_run.specs.Runs.{newest_first}
use Rattle.gp_run.specs.TopCount.{top_of_messages}
use Rattle.gp_wire.specs.Lists.{Each, Has}
use Rattle.gp_wire.specs.Known.{WireState, HoldsAll, records}
use Rattle.gp_msg.specs.Records.{messages_in}
use Rattle.gp_cell.specs.declared.rules.PaxosRules.{PaxosRules}
use Rattle.gp_cell.specs.Cells.{CellState, IsSameBut}
use Rattle.gp_cell.specs.Endings.{AreAllCells}
use Rattle.gp_stage.specs.Held.{AreAllNodes, AreCellsOf, seen_by}
use Rattle.gp_stage.specs.Gathered.{AreBehind, AreGathered, AreSameBut, HasLooked}
use Rattle.gp_stage.specs.Kept.{IsKept}
use Rattle.gp_stage.specs.Tops.{AreTrue, top_of_cells}
use Rattle.gp_stage.proofs.Taking.{same_length}
use Rattle.gp_stage.proofs.Keeping.{list_of_lead}
use Rattle.gp_stage.proofs.Founding.{lent_back, some_cells, one_own, one_holds, one_whole, same_but, all_back, kept_now, lists_now}

-- the list that comes back: what was written, in place of so many elements
abbrev pub refilled : {A : Type 0} → ℕ → List A → List A → List A
refilled len mid old = take len (mid ++ drop (length mid) old)

module _ {D : Type 0} (wire : WireState PaxosRules) (config : Counts) (old lent mid : List (CellState D)) (value : lent ≡ old) (given : AreGathered wire lent mid (length mid)) (len : ℕ) (len_is : len ≡ length old)
    (nodes : AreAllNodes config wire.nodes) (cells : AreCellsOf wire.nodes old) (config_is : config ≡ wire.rules.config) where
  gathered : AreGathered wire old mid (length mid)
  gathered = subst (λ l. AreGathered wire l mid (length mid)) value given

  pub refill : refilled len mid old ≡ mid
  refill = lent_back mid (drop (length mid) old) len (len_is ∙ sym (same_length old mid gathered.same))

  pub some_refilled : 0 < length (refilled len mid old)
  some_refilled = let s = some_cells config wire.nodes old nodes cells in let e = ap length refill in let l = same_length old mid gathered.same in omega (arith, s, e, l)

  module _ (one : CellState D) (read : one ≡ get_or (refilled len mid old) 0 one) where
    at : slice_get mid 0 ≡ Some one
    at = subst (λ l. slice_get l 0 ≡ Some one) refill (slice_get_read (refilled len mid old) (length (refilled len mid old)) 0 one refl some_refilled read)

    pub read_own : one.pass.wire ≡ wire.id
    read_own = one_own wire config old mid (length mid) gathered refl nodes cells config_is one at

    pub read_holds : Has one.pass.node one.pass.holds
    read_holds = one_holds wire config old mid (length mid) gathered refl nodes cells config_is one at

    pub read_whole : HoldsAll one.pass
    read_whole = one_whole wire config old mid (length mid) gathered refl nodes cells config_is one at

    module _ (looked : CellState D) (but : IsSameBut one looked) (turn : HasLooked one.pass looked.pass) where
      pub same_refilled : AreSameBut old (slice_set (refilled len mid old) 0 looked)
      same_refilled = subst (λ l. AreSameBut old (slice_set l 0 looked)) (sym refill) (same_but wire config old mid (length mid) gathered refl nodes cells config_is one at looked but turn)

      pub all_refilled : AreAllCells wire (slice_set (refilled len mid old) 0 looked)
      all_refilled = subst (λ l. AreAllCells wire (slice_set l 0 looked)) (sym refill) (all_back wire config old mid (length mid) gathered refl nodes cells config_is one at looked but turn)

      pub lists_refilled : AreBehind old (seen_by (slice_get (slice_set (refilled len mid old) 0 looked) 0))
      lists_refilled = subst (λ l. AreBehind old (seen_by (slice_get (slice_set l 0 looked) 0))) (sym refill) (lists_now wire config old mid (length mid) gathered refl nodes cells config_is one at looked but turn)

      pub kept_refilled : Each (λ e. Has e.item.node looked.pass.all) looked.pass.seen → (kinds : List MsgKind) (sent cells_top top : ℕ) → kinds ≡ map kind_of (messages_in (records looked.pass))
          → sent ≡ top_of_messages (map message_of (messages_in (records looked.pass))) → cells_top ≡ top_of_cells (slice_set (refilled len mid old) 0 looked) → AreTrue (slice_set (refilled len mid old) 0 looked)
          → top ≡ max sent cells_top → IsKept wire config (slice_set (refilled len mid old) 0 looked) 0 kinds sent top
      kept_refilled inside kinds sent cells_top top k s t cores m = subst (λ l. IsKept wire config (slice_set l 0 looked) 0 kinds sent top) (sym refill)
          (kept_now wire config old mid (length mid) gathered refl nodes cells config_is one at looked but turn inside kinds sent cells_top top k s
          (t ∙ ap (λ l. top_of_cells (slice_set l 0 looked)) refill) (subst (λ l. AreTrue (slice_set l 0 looked)) refill cores) m)

-- the run of what is kept is legal
pub legal_kept : {D : Type 0} (wire : WireState PaxosRules) (config : Counts) (cells : List (CellState D)) (holder : ℕ) (kinds : List MsgKind) (sent top : ℕ) → IsKept wire config cells holder kinds sent top
    → Legal config (newest_first (seen_by (slice_get cells holder)))
legal_kept wire config cells holder kinds sent top k = subst (λ rs. Legal config (newest_first rs)) (sym (list_of_lead wire config cells holder k.held)) k.held.legal
