-- What a step of the cell that holds all nodes asks, and what it makes.
use Rattle.std.proofs.Common.{◌≡◌, ℕ, ◌+◌, ◌<◌, ◌^◌, List, length, slice_get, slice_set, sym, ap, ◌∙◌, subst, arith, Some, None, Result, Ok, Err}
use Rattle.std.specs.Prelude.{OnOk, IfOk, IfErr}
use Rattle.gp_wire.specs.Lists.{Has}
use Rattle.gp_wire.specs.Known.{WireState, HoldsAll, records}
use Rattle.gp_msg.specs.Records.{messages_in}
use Rattle.gp_work.specs.declared.moves.Move.{Move}
use Rattle.gp_work.specs.declared.moves.Move.TheVariants.{Offer, Begin, Take}
use Rattle.gp_work.specs.declared.faults.StepFault.{StepFault}
use Rattle.gp_work.specs.Moves.{event_of, Fits, HasRoom}
use Rattle.gp_wire.specs.Own.{own}
use Rattle.gp_cell.specs.declared.rules.PaxosRules.{PaxosRules}
use Rattle.gp_cell.specs.Cells.{CellState, PostsOne}
use Rattle.gp_cell.specs.Passing.{GoesOn, posts_in}
use Rattle.gp_cell.specs.Refusals.{CountsFaults, StepCause, faults_of, limit_of}
use Rattle.gp_cell.proofs.Posting.{own_short}
use Rattle.gp_stage.specs.Held.{seen_by}
use Rattle.gp_stage.specs.Gathered.{rest_of}
use Rattle.gp_stage.specs.Played.{CanPlay, HasPlayed, HasTakenOver}
use Rattle.gp_stage.proofs.Places.{same_at, within, image_at, set_here, set_other, set_length}
use Rattle.gp_stage.proofs.Moving.{holds_all}
use Rattle.gp_stage.proofs.Taking.{same_length}
use Rattle.gp_stage.proofs.Stepping.{played_ok, played_err}

-- what a step of a cell tells
pub record StepTells {D : Type 0} (faults : D → ℕ) (l r : CellState D) (mv : Move) (result : Result ℕ StepFault) : Type 0 where
  pub same : (r.config ≡ l.config) × (r.node ≡ l.node)
  pub goes : GoesOn l.pass r.pass
  pub whole : HoldsAll l.pass → length r.pass.seen ≡ length l.pass.seen + posts_in result
  pub posted : OnOk result (PostsOne l.config l.node (records l.pass) (records r.pass) (event_of l.node mv))
  pub count : IfOk result (λ n. n ≡ length (messages_in (records r.pass)))
  pub up : OnOk result (r.down ≡ None)
  pub cause : IfErr result (StepCause l r mv)
  pub counts : CountsFaults (faults_of faults l.log) (faults_of faults r.log) result
  pub limit : limit_of r.log ≡ limit_of l.log

has_room : (k : ℕ) (mv : Move) → k < 2 ^ 31 → HasRoom k mv
has_room k (Offer d) l = omega (arith, l)
has_room k (Begin r) l = tt
has_room k (Take m) l = tt

module _ {D : Type 0} (wire : WireState PaxosRules) (old mid : List (CellState D)) (holder at : ℕ) (mv : Move) (t : HasTakenOver wire old mid holder at) (can : CanPlay wire.rules.config old holder at mv) (l : CellState D) (l_is : slice_get mid at ≡ Some l) where
  lead_is : l ≡ t.held.lead
  lead_is = same_at mid at l t.held.lead l_is t.held.lead_is

  rest_is : rest_of l ≡ rest_of can.cell
  rest_is = let b = image_at rest_of mid old at l t.same l_is in sym b.2 ∙ ap rest_of (same_at old at b.0 can.cell b.1 can.cell_is)

  pub own_wire : l.pass.wire ≡ wire.id
  own_wire = (t.held.placed at l l_is).own

  pub own_config : l.config ≡ wire.rules.config
  own_config = (t.held.placed at l l_is).config

  pub own_holds : Has l.pass.node l.pass.holds
  own_holds = subst (λ (x : CellState D). Has l.pass.node x.pass.holds) (sym lead_is) (t.held.holds l.pass.node (subst (λ n. Has n wire.nodes) (sym (t.held.placed at l l_is).node) (t.held.cells_are.known at l l_is)))

  pub own_up : l.down ≡ None
  own_up = ap (λ (r : _). r.4) rest_is ∙ can.up

  pub own_fits : Fits l.config l.node mv
  own_fits = subst (λ k. Fits k l.node mv) (sym own_config) (subst (λ n. Fits wire.rules.config n mv) (sym (ap (λ (r : _). r.1) rest_is)) can.fit)

  pub own_room : length (seen_by (slice_get old holder)) < 2 ^ 31 → HasRoom (length (own l.node (records l.pass))) mv
  own_room few = has_room (length (own l.node (records l.pass))) mv (
      let a = own_short l.node (records l.pass) in let b = ap (λ (x : CellState D). length (records x.pass)) lead_is in let c = ap length t.list_is in omega (arith, few))

  fit : Fits wire.rules.config t.held.lead.node mv
  fit = subst (λ (x : CellState D). Fits wire.rules.config x.node mv) lead_is (subst (λ k. Fits k l.node mv) own_config own_fits)

  long_of : (r : CellState D) → length (slice_set mid at r) ≡ length old
  long_of r = set_length mid at r ∙ same_length old mid t.same

  plays : (faults : D → ℕ) (r : CellState D) (result : Result ℕ StepFault) → StepTells faults t.held.lead r mv result → HasPlayed faults wire old (slice_set mid at r) holder at mv result
  plays faults r (Ok n) s = played_ok faults wire old mid (slice_set mid at r) holder at mv t.held t.list_is t.same can.cell can.cell_is r (set_here mid at r (within mid at l l_is)) (λ i x. set_other mid at i r x) (long_of r) fit can.fits_now s.same.0 s.same.1 s.goes s.limit
      n (s.whole (holds_all wire wire.rules.config mid at t.held)) s.posted s.count s.up s.counts
  plays faults r (Err f) s = played_err faults wire old mid (slice_set mid at r) holder at mv t.held t.list_is t.same can.cell can.cell_is r (set_here mid at r (within mid at l l_is)) (λ i x. set_other mid at i r x) (long_of r) fit can.fits_now s.same.0 s.same.1 s.goes s.limit
      f (s.whole (holds_all wire wire.rules.config mid at t.held)) s.cause s.counts

  pub has_played : (faults : D → ℕ) (r : CellState D) (result : Result ℕ StepFault) → StepTells faults l r mv result → HasPlayed faults wire old (slice_set mid at r) holder at mv result
  has_played faults r result s = plays faults r result (subst (λ x. StepTells faults x r mv result) lead_is s)
