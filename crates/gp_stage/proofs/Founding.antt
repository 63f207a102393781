-- A new stage: what the cells are once the first one has met all others and has looked at every message.
use Rattle.std.proofs.Common.{◌≡◌, ◌≢◌, ℕ, zero, suc, ◌<◌, ◌≤◌, max, List, [], ◌∷◌, ◌++◌, length, map, slice_get, slice_set, take, refl, sym, ap, ◌∙◌, subst, arith, Some}
use Rattle.gp_round.specs.Counts.{Counts}
use Rattle.gp_msg.specs.declared.node.Node.{Node}
use Rattle.gp_msg.specs.declared.node.Node.TheVariants as node
use Rattle.gp_msg.specs.declared.message.MsgKind.{MsgKind}
use Rattle.gp_msg.specs.Messages.{message_of}
use Rattle.gp_msg.specs.Reads.{kind_of}
use Rattle.gp_run.specs.Messages.{messages}
use Rattle.gp_run.specs.Runs.{newest_first}
use Rattle.gp_run.specs.TopCount.{top_of_messages}
use Rattle.gp_run.proofs.Telling.{messages-entries}
use Rattle.gp_wire.specs.Lists.{Each, Has}
use Rattle.gp_wire.specs.Known.{WireState, HoldsAll, records}
use Rattle.gp_msg.specs.Records.{messages_in}
use Rattle.gp_cell.specs.declared.rules.PaxosRules.{PaxosRules}
use Rattle.gp_cell.specs.Cells.{CellState, IsSameBut}
use Rattle.gp_cell.specs.Endings.{AreAllCells}
use Rattle.gp_stage.specs.Held.{AreAllNodes, AreCellsOf, AreUp, seen_by}
use Rattle.gp_stage.specs.Gathered.{AreBehind, AreGathered, AreSameBut, HasLooked, IsPlaced, rest_of}
use Rattle.gp_wire.specs.Own.{IsBehind}
use Rattle.gp_stage.specs.Kept.{AreHeld, IsKept}
use Rattle.gp_stage.specs.Tops.{AreTrue, top_of_cells}
use Rattle.gp_stage.proofs.Places.{same_at, within, set_here, set_other, image_at}
use Rattle.gp_stage.proofs.Closing.{all_of_wire, held_at}
use Rattle.gp_stage.proofs.Keeping.{is_kept, top_of_all}
use Rattle.gp_stage.proofs.Staging.{holds_node, one_of, looked_placed, held_first, rests_same, seen_same}
use Rattle.gp_stage.proofs.Taking.{same_length}

-- a list that was lent and comes back as long as it was
pub lent_back : {A : Type 0} (xs rest : List A) (n : ℕ) → n ≡ length xs → take n (xs ++ rest) ≡ xs
lent_back [] rest zero e = refl
lent_back [] rest (suc n) e = absurd (omega (arith, e))
lent_back (x ∷ xs) rest zero e = absurd (omega (arith, e))
lent_back (x ∷ xs) rest (suc n) e = ap (λ l. x ∷ l) (lent_back xs rest n (omega (arith, e)))

-- the cells of a configuration are some
pub some_cells : {D : Type 0} (config : Counts) (nodes : List Node) (cells : List (CellState D)) → AreAllNodes config nodes → AreCellsOf nodes cells → 0 < length cells
some_cells config nodes cells all have =
    let c = have.have (node.Proposer 0) ((all (node.Proposer 0)).0 refl) in let l = within cells c.0 c.1 c.2 in omega (arith, l)

-- all cells are up if they are but for their passes those that were
pub up_still : {D : Type 0} (old new : List (CellState D)) → AreSameBut old new → AreUp old → AreUp new
up_still old new same up i c e = let b = image_at rest_of new old i c same e in sym (ap (λ (r : _). r.4) b.2) ∙ up i b.0 b.1

module _ {D : Type 0} (wire : WireState PaxosRules) (config : Counts) (old mid : List (CellState D)) (n : ℕ) (g : AreGathered wire old mid n) (long : n ≡ length mid)
    (nodes : AreAllNodes config wire.nodes) (cells : AreCellsOf wire.nodes old) (config_is : config ≡ wire.rules.config) (one : CellState D) (at : slice_get mid 0 ≡ Some one) where
  all_met : length mid ≤ n
  all_met = omega (arith, long)

  first_is : g.first ≡ one
  first_is = same_at mid 0 g.first one g.first_is at

  one_placed : IsPlaced wire one
  one_placed = g.placed 0 one (let l = within mid 0 one at in omega (arith, l, long)) at

  pub one_own : one.pass.wire ≡ wire.id
  one_own = one_placed.own

  itself : HasLooked g.first.pass one.pass
  itself = subst (λ (c : CellState D). HasLooked g.first.pass c.pass) first_is refl

  but_itself : IsSameBut g.first one
  but_itself = subst (λ (c : CellState D). IsSameBut g.first c) first_is (refl, refl, refl, refl, refl)

  one_all : (n : Node) → Has n wire.nodes → Has n one.pass.holds
  one_all = holds_node wire config old mid mid n g all_met one at (λ i x. refl) but_itself itself config_is nodes cells

  pub one_holds : Has one.pass.node one.pass.holds
  one_holds = subst (λ m. Has m one.pass.holds) (sym one_placed.node)
      (subst (λ (c : CellState D). Has one.node c.pass.holds) first_is (g.met 0 one (let l = within mid 0 one at in omega (arith, l, long)) at).holds)

  pub one_whole : HoldsAll one.pass
  one_whole m there = one_all m (subst (Has m) one_placed.all there)

  module _ (looked : CellState D) (but : IsSameBut one looked) (turn : HasLooked one.pass looked.pass) where
    here : slice_get (slice_set mid 0 looked) 0 ≡ Some looked
    here = set_here mid 0 looked (within mid 0 one at)

    others : (i : ℕ) → i ≢ 0 → slice_get (slice_set mid 0 looked) i ≡ slice_get mid i
    others i x = set_other mid 0 i looked x

    but_first : IsSameBut g.first looked
    but_first = subst (λ (c : CellState D). IsSameBut c looked) (sym first_is) but

    turn_first : HasLooked g.first.pass looked.pass
    turn_first = subst (λ (c : CellState D). HasLooked c.pass looked.pass) (sym first_is) turn

    pub same_but : AreSameBut old (slice_set mid 0 looked)
    same_but = rests_same wire config old mid (slice_set mid 0 looked) n g all_met looked here others but_first turn_first

    pub all_back : AreAllCells wire (slice_set mid 0 looked)
    all_back = record {
      own = all_of_wire wire.id (slice_set mid 0 looked)
          (one_of wire config old mid (slice_set mid 0 looked) n g all_met looked here others but_first turn_first (λ c. c.pass.wire ≡ wire.id)
          (looked_placed wire config old mid (slice_set mid 0 looked) n g all_met looked here others but_first turn_first).own (λ i c e. (g.placed i c (let l = within mid i c e in omega (arith, l, long)) e).own));
      all = λ m there. held_at m (slice_set mid 0 looked) 0 looked here
          (holds_node wire config old mid (slice_set mid 0 looked) n g all_met looked here others but_first turn_first config_is nodes cells m there);
    }

    module _ (inside : Each (λ e. Has e.item.node looked.pass.all) looked.pass.seen) where
      pub held_now : AreHeld wire config (slice_set mid 0 looked) 0
      held_now = held_first wire config old mid (slice_set mid 0 looked) n g all_met looked here others but_first turn_first config_is nodes cells inside

      lead_is : held_now.lead ≡ looked
      lead_is = same_at (slice_set mid 0 looked) 0 held_now.lead looked held_now.lead_is here

      pub kept_now : (kinds : List MsgKind) (sent cells_top top : ℕ) → kinds ≡ map kind_of (messages_in (records looked.pass)) → sent ≡ top_of_messages (map message_of (messages_in (records looked.pass)))
          → cells_top ≡ top_of_cells (slice_set mid 0 looked) → AreTrue (slice_set mid 0 looked) → top ≡ max sent cells_top → IsKept wire config (slice_set mid 0 looked) 0 kinds sent top
      kept_now kinds sent cells_top top k s t cores m =
          let w : sent ≡ top_of_messages (messages (newest_first (records held_now.lead.pass))) =
          s ∙ ap top_of_messages (sym (messages-entries (records looked.pass))) ∙ ap (λ (c : CellState D). top_of_messages (messages (newest_first (records c.pass)))) (sym lead_is) in
          is_kept wire config (slice_set mid 0 looked) 0 held_now kinds sent top (k ∙ ap (λ (c : CellState D). map kind_of (messages_in (records c.pass))) (sym lead_is)) w
          (m ∙ top_of_all wire config (slice_set mid 0 looked) 0 held_now sent cells_top w t cores)

    pub whole_now : seen_by (slice_get (slice_set mid 0 looked) 0) ≡ records looked.pass
    whole_now = ap seen_by here

    -- the whole list begins with what each cell had seen, with no more records of its node
    pub lists_now : AreBehind old (seen_by (slice_get (slice_set mid 0 looked) 0))
    lists_now i c e = subst (IsBehind c.node (records c.pass)) (sym (whole_now ∙ seen_same wire config old mid (slice_set mid 0 looked) n g all_met looked here others but_first turn_first))
        (g.lists i c (let l = within old i c e in let s = same_length old mid g.same in omega (arith, l, long, s)) e)
