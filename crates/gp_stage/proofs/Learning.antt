-- What a stage learns once the cell that holds all nodes has looked at one message.
use Rattle.std.proofs.Common.{◌≡◌, ℕ, zero, suc, max, List, [], ◌∷◌, ◌++◌, length, map, slice_get, slice_set, refl, sym, ap, ◌∙◌, subst, Option, Some, None, option_map}
use Rattle.gp_msg.specs.declared.message.MsgKind.{MsgKind}
use Rattle.gp_msg.specs.Reads.{kind_of}
use Rattle.gp_run.specs.Messages.{messages}
use Rattle.gp_run.specs.Runs.{newest_first}
use Rattle.gp_run.specs.TopCount.{top_count, top_of_messages}
use Rattle.gp_wire.specs.Lists.{Has}
use Rattle.gp_wire.specs.Known.{WireState, PassState, HoldsAll, records}
use Rattle.gp_msg.specs.Records.{messages_in}
use Rattle.gp_wire.specs.Passes.{HadTurn, nothing}
use Rattle.gp_cell.specs.declared.rules.PaxosRules.{PaxosRules}
use Rattle.gp_cell.specs.Cores.{core_at, part_in}
use Rattle.gp_cell.specs.Cells.{CellState, IsSameBut}
use Rattle.gp_cell.specs.Passing.{GoesOn}
use Rattle.gp_cell.proofs.Going.{later_goes}
use Rattle.gp_cell.proofs.Posting.{had_later}
use Rattle.gp_stage.specs.Held.{seen_by}
use Rattle.gp_stage.specs.Gathered.{AreSameBut, rest_of}
use Rattle.gp_stage.specs.Kept.{AreHeld}
use Rattle.gp_stage.specs.Played.{KnewBefore}
use Rattle.gp_stage.specs.Tops.{AreTrue, top_in, top_of_cells}
use Rattle.gp_stage.proofs.Places.{same_at, same_value, within, set_here, set_other}
use Rattle.gp_stage.proofs.Moving.{holds_all, held_refused}
use Rattle.gp_stage.proofs.Glancing.{looked}
use Rattle.gp_stage.proofs.Keeping.{list_of_lead, top_of_all}
use Rattle.gp_stage.proofs.Knowing.{next_kind, none_kinds, none_tops, one_kinds, one_tops}

same_set : {D : Type 0} (cells : List (CellState D)) (at : ℕ) (x y : CellState D) → slice_get cells at ≡ Some x → rest_of y ≡ rest_of x → AreSameBut cells (slice_set cells at y)
same_set [] at x y e r = refl
same_set (z ∷ zs) zero x y e r = ap (λ k. k ∷ map rest_of zs) (r ∙ ap rest_of (sym (same_value z x e)))
same_set (z ∷ zs) (suc at) x y e r = ap (λ l. rest_of z ∷ l) (same_set zs at x y e r)

module _ {D : Type 0} (wire : WireState PaxosRules) (cells : List (CellState D)) (at : ℕ) (h : AreHeld wire wire.rules.config cells at) (x : CellState D) (x_is : slice_get cells at ≡ Some x) where
  lead_is : x ≡ h.lead
  lead_is = same_at cells at x h.lead x_is h.lead_is

  pub look_own : x.pass.wire ≡ wire.id
  look_own = (h.placed at x x_is).own

  pub look_holds : Has x.pass.node x.pass.holds
  look_holds = subst (λ (c : CellState D). Has x.pass.node c.pass.holds) (sym lead_is) (h.holds x.pass.node (subst (λ n. Has n wire.nodes) (sym (h.placed at x x_is).node) (h.cells_are.known at x x_is)))

  module _ (y : CellState D) (but : IsSameBut x y) (turn : HadTurn x.pass y.pass nothing) where
    list_same : records y.pass ≡ records x.pass
    list_same = ap (λ (p : PassState). records p) (looked x.pass y.pass (subst (λ (c : CellState D). HoldsAll c.pass) (sym lead_is) (holds_all wire wire.rules.config cells at h)) turn)

    here : slice_get (slice_set cells at y) at ≡ Some y
    here = set_here cells at y (within cells at x x_is)

    pub held_looked : AreHeld wire wire.rules.config (slice_set cells at y) at
    held_looked = held_refused wire wire.rules.config cells (slice_set cells at y) at h y here (λ i n. set_other cells at i y n)
        (but.1 ∙ ap (λ (c : CellState D). c.node) lead_is) (but.0 ∙ ap (λ (c : CellState D). c.config) lead_is)
        (subst (λ (c : CellState D). GoesOn c.pass y.pass) lead_is (later_goes x.pass y.pass (had_later x.pass y.pass turn)))
        (list_same ∙ ap (λ (c : CellState D). records c.pass) lead_is)

    pub same_looked : AreSameBut cells (slice_set cells at y)
    same_looked = same_set cells at x y x_is (λ i. (but.0 i, but.1 i, but.2 i, but.3 i, but.4 i))

    list_here : seen_by (slice_get (slice_set cells at y) at) ≡ records y.pass
    list_here = ap seen_by here

    pub list_looked : seen_by (slice_get (slice_set cells at y) at) ≡ seen_by (slice_get cells at)
    list_looked = list_here ∙ list_same ∙ sym (ap seen_by x_is)

    -- the greatest count of all
    pub top_looked : (sent top all : ℕ) → sent ≡ top_of_messages (messages (newest_first (seen_by (slice_get (slice_set cells at y) at)))) → top ≡ top_of_cells (slice_set cells at y) → AreTrue (slice_set cells at y) → all ≡ max sent top
        → all ≡ top_count wire.rules.config (newest_first (seen_by (slice_get (slice_set cells at y) at)))
    top_looked sent top all s t cores a =
        let l = list_of_lead wire wire.rules.config (slice_set cells at y) at held_looked in
        a ∙ top_of_all wire wire.rules.config (slice_set cells at y) at held_looked sent top (s ∙ ap (λ rs. top_of_messages (messages (newest_first rs))) l) t cores
        ∙ ap (λ rs. top_count wire.rules.config (newest_first rs)) (sym l)

    module _ (kinds : List MsgKind) (sent : ℕ) (k : KnewBefore wire.rules.config cells at kinds sent) (o : Option MsgKind) (answer : o ≡ option_map kind_of (slice_get (messages_in (records y.pass)) (length kinds))) where
      list_is : records y.pass ≡ k.before ++ k.item ∷ []
      list_is = list_same ∙ sym (ap seen_by x_is) ∙ k.list_is

      told : o ≡ option_map kind_of (slice_get k.item.out 0)
      told = answer ∙ next_kind wire.rules.config k.before (records y.pass) k.item kinds sent list_is k.lawful k.kinds_are k.top_is

      pub kinds_none : o ≡ None → kinds ≡ map kind_of (messages_in (seen_by (slice_get (slice_set cells at y) at)))
      kinds_none e = none_kinds wire.rules.config k.before (records y.pass) k.item kinds sent list_is k.lawful k.kinds_are k.top_is (sym told ∙ e) ∙ ap (λ rs. map kind_of (messages_in rs)) (sym list_here)

      pub sent_none : o ≡ None → sent ≡ top_of_messages (messages (newest_first (seen_by (slice_get (slice_set cells at y) at))))
      sent_none e = none_tops wire.rules.config k.before (records y.pass) k.item kinds sent list_is k.lawful k.kinds_are k.top_is (sym told ∙ e) ∙ ap (λ rs. top_of_messages (messages (newest_first rs))) (sym list_here)

      pub kinds_some : (kind : MsgKind) → o ≡ Some kind → kinds ++ kind ∷ [] ≡ map kind_of (messages_in (seen_by (slice_get (slice_set cells at y) at)))
      kinds_some kind e = one_kinds wire.rules.config k.before (records y.pass) k.item kinds sent list_is k.lawful k.kinds_are k.top_is kind (sym told ∙ e) ∙ ap (λ rs. map kind_of (messages_in rs)) (sym list_here)

      -- the node of the record is that of the cell
      y_node : k.item.node ≡ y.node
      y_node = k.node_is ∙ ap (λ (c : CellState D). c.node) (same_at cells at k.cell x k.cell_is x_is) ∙ sym but.1

      y_config : y.config ≡ wire.rules.config
      y_config = but.0 ∙ (h.placed at x x_is).config

      pub sent_some : (kind : MsgKind) → o ≡ Some kind → (z : CellState D) → slice_get (slice_set cells at y) at ≡ Some z → z.core ≡ core_at z.config z.node (newest_first (records z.pass))
          → max sent (top_in (part_in z.core)) ≡ top_of_messages (messages (newest_first (seen_by (slice_get (slice_set cells at y) at))))
      sent_some kind e z z_is core =
          one_tops wire.rules.config k.before (records y.pass) k.item kinds sent list_is k.lawful k.kinds_are k.top_is kind z.core (sym told ∙ e)
          (core ∙ ap (λ (c : CellState D). core_at c.config c.node (newest_first (records c.pass))) (same_at (slice_set cells at y) at z y z_is here) ∙ (λ i. core_at (y_config i) (sym y_node i) (newest_first (records y.pass))))
          ∙ ap (λ rs. top_of_messages (messages (newest_first rs))) (sym list_here)
