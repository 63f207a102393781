-- A cell that holds all nodes looks at every message.
use Rattle.std.proofs.Common.{◌≡◌, ℕ, ◌+◌, ◌<◌, max, List, [], ◌∷◌, ◌++◌, length, map, take, slice_get, get_or, sym, ap, ◌∙◌, subst, arith, Some, None}
use Rattle.std.proofs.lemmas.Option.{slice_get-get_or}
use Rattle.std.proofs.lemmas.List.{take_more, take_all, map-append, append-nil}
use Rattle.gp_msg.specs.declared.message.Msg.{Msg}
use Rattle.gp_msg.specs.declared.message.MsgKind.{MsgKind}
use Rattle.gp_msg.specs.Messages.{message_of}
use Rattle.gp_msg.specs.Reads.{kind_of}
use Rattle.gp_run.specs.TopCount.{rounds_of, greatest_count, top_of_messages}
use Rattle.gp_world.proofs.Showing.{tops-append}
use Rattle.gp_wire.specs.declared.view.Post.{Post}
use Rattle.gp_wire.specs.Lists.{Each, Has}
use Rattle.gp_wire.specs.Known.{PassState, HoldsAll}
use Rattle.gp_wire.specs.Passes.{HadTurn, nothing}
use Rattle.gp_wire.proofs.Seen.{nothing_new}
use Rattle.gp_cell.specs.Cells.{CellState, IsSameBut}
use Rattle.gp_cell.proofs.Going.{holds_all}
use Rattle.gp_wire.proofs.Words.{none_beyond}
use Rattle.gp_stage.specs.Gathered.{HasLooked}
use Rattle.gp_stage.proofs.Places.{same_value}

-- a turn of a pass that holds all nodes
pub looked : (p q : PassState) → HoldsAll p → HadTurn p q nothing → HasLooked p q
looked p q all t = let s = nothing_new p q t all in λ i. record {
  node = ap (λ (x : PassState). x.node) t.after i;
  wire = ap (λ (x : PassState). x.wire) t.after i;
  all = ap (λ (x : PassState). x.all) t.after i;
  holds = ap (λ (x : PassState). x.holds) t.after i;
  seen = s i;
  turn = q.turn;
}

pub looked_on : (o p q : PassState) → HasLooked o p → HasLooked p q → HasLooked o q
looked_on o p q a b = b ∙ (λ i. record { node = (ap (λ (x : PassState). x.node) a) i; wire = (ap (λ (x : PassState). x.wire) a) i; all = (ap (λ (x : PassState). x.all) a) i; holds = (ap (λ (x : PassState). x.holds) a) i; seen = (ap (λ (x : PassState). x.seen) a) i; turn = q.turn })

pub same_on : {D : Type 0} (o p q : CellState D) → IsSameBut o p → IsSameBut p q → IsSameBut o q
same_on o p q a b = (b.0 ∙ a.0, b.1 ∙ a.1, b.2 ∙ a.2, b.3 ∙ a.3, b.4 ∙ a.4)

pub holds_on : (o p : PassState) → HasLooked o p → HoldsAll o → HoldsAll p
holds_on o p a h = holds_all o p (ap (λ (x : PassState). x.all) a) (ap (λ (x : PassState). x.holds) a) h

-- all that the pass has seen is of nodes of the wire
pub inside_after : (p q : PassState) → HadTurn p q nothing → Each (λ (e : Post). Has e.item.node q.all) q.seen
inside_after p q t = subst (λ (x : PassState). Each (λ (e : Post). Has e.item.node x.all) x.seen) (sym t.after) (subst (Each (λ (e : Post). Has e.item.node p.all)) (sym (append-nil (p.seen ++ t.more))) t.inside)

-- ---- the messages up to one, and up to the next

module _ (ms : List Msg) (k : ℕ) where
  all_taken : slice_get ms k ≡ None → take k ms ≡ ms
  all_taken e = take_all k ms (none_beyond ms k e)

  pub last_kinds : (kinds : List MsgKind) → slice_get ms k ≡ None → kinds ≡ map kind_of (take k ms) → kinds ≡ map kind_of ms
  last_kinds kinds e h = h ∙ ap (map kind_of) (all_taken e)

  pub last_tops : (top : ℕ) → slice_get ms k ≡ None → top ≡ top_of_messages (map message_of (take k ms)) → top ≡ top_of_messages (map message_of ms)
  last_tops top e h = h ∙ ap (λ l. top_of_messages (map message_of l)) (all_taken e)

  more_taken : (m : Msg) → k < length ms → slice_get ms k ≡ Some m → take (k + 1) ms ≡ take k ms ++ m ∷ []
  more_taken m l e = take_more ms k m l ∙ ap (λ y. take k ms ++ y ∷ []) (same_value (get_or ms k m) m (sym (slice_get-get_or ms k m l) ∙ e))

  pub next_kinds : (kinds : List MsgKind) (m : Msg) → k < length ms → slice_get ms k ≡ Some m → kinds ≡ map kind_of (take k ms) → kinds ++ kind_of m ∷ [] ≡ map kind_of (take (k + 1) ms)
  next_kinds kinds m l e h = sym (ap (map kind_of) (more_taken m l e) ∙ map-append kind_of (take k ms) (m ∷ []) ∙ ap (λ y. y ++ kind_of m ∷ []) (sym h))

  pub next_tops : (top : ℕ) (m : Msg) → k < length ms → slice_get ms k ≡ Some m → top ≡ top_of_messages (map message_of (take k ms)) → max top (greatest_count (rounds_of (message_of m))) ≡ top_of_messages (map message_of (take (k + 1) ms))
  next_tops top m l e h =
      let a = ap (λ y. top_of_messages (map message_of y)) (more_taken m l e) in
      let b = ap top_of_messages (map-append message_of (take k ms) (m ∷ [])) ∙ tops-append (map message_of (take k ms)) (message_of m ∷ []) in
      let g : top_of_messages (message_of m ∷ []) ≡ greatest_count (rounds_of (message_of m)) = ap greatest_count (append-nil (rounds_of (message_of m))) in omega (arith, a, b, g, h)
