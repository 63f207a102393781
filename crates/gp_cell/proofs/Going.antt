-- A pass that goes on.
use Rattle.std.proofs.Common.{◌≡◌, ℕ, [], ◌∷◌, ◌++◌, map, sym, ap, ◌∙◌, subst, append_assoc, arith, ◌+◌, length, length-append}
use Rattle.std.proofs.lemmas.List.{map-append, length-map}
use Rattle.gp_round.specs.Counts.{Counts}
use Rattle.gp_msg.specs.declared.node.Node.{Node}
use Rattle.gp_msg.specs.declared.event.Event.{Event}
use Rattle.gp_msg.specs.declared.record.Record.{Record}
use Rattle.gp_wire.specs.Rule.{items, post_of}
use Rattle.gp_wire.specs.Lists.{Has}
use Rattle.gp_wire.specs.Known.{PassState, HoldsAll, records, record_of}
use Rattle.gp_wire.specs.Passes.{HadTurn, only}
use Rattle.gp_wire.specs.Own.{own}
use Rattle.gp_work.specs.Doing.{IsUpTo}
use Rattle.gp_work.proofs.Stretches.{up_on}
use Rattle.gp_cell.specs.Cells.{PostsOne}
use Rattle.gp_cell.specs.Passing.{Later, GoesOn}
use Rattle.gp_cell.proofs.Posting.{up_to}

pub later_goes : (p q : PassState) → Later p q → GoesOn p q
later_goes p q l = record {
  node = l.node;
  wire = l.wire;
  all = l.all;
  holds = l.holds;
  turn = l.turn;
  more = items l.more;
  grown = ap (map record_of) l.grown ∙ map-append record_of p.seen l.more;
}

pub had_goes : (p q : PassState) (x : Record) → HadTurn p q (only x) → GoesOn p q
had_goes p q x t = record {
  node = ap (λ (y : PassState). y.node) t.after;
  wire = ap (λ (y : PassState). y.wire) t.after;
  all = ap (λ (y : PassState). y.all) t.after;
  holds = ap (λ (y : PassState). y.holds) t.after;
  turn = subst (IsUpTo p.turn) (sym (ap (λ (y : PassState). y.turn) t.after)) (up_to p.turn t.turn t.risen);
  more = items t.more ++ x ∷ [];
  grown =
      ap (λ (y : PassState). records y) t.after
      ∙ map-append record_of (p.seen ++ t.more) (post_of x t.turn ∷ [])
      ∙ ap (λ l. l ++ x ∷ []) (map-append record_of p.seen t.more)
      ∙ append_assoc (records p) (items t.more) (x ∷ []);
}

pub goes_on : (p q r : PassState) → GoesOn p q → GoesOn q r → GoesOn p r
goes_on p q r a b = record {
  node = b.node ∙ a.node;
  wire = b.wire ∙ a.wire;
  all = b.all ∙ a.all;
  holds = b.holds ∙ a.holds;
  turn = up_on p.turn q.turn r.turn a.turn b.turn;
  more = a.more ++ b.more;
  grown = b.grown ∙ ap (λ l. l ++ b.more) a.grown ∙ append_assoc (records p) a.more b.more;
}

-- a pass that has read, and then goes on
pub reads_on : (p q w r : PassState) → Later p q → w ≡ q → GoesOn w r → GoesOn p r
reads_on p q w r l same g = goes_on p q r (later_goes p q l) (subst (λ (x : PassState). GoesOn x r) same g)

-- a record that was posted after a list that had grown
abbrev pub posts_after : (config : Counts) (n : Node) (p q r : PassState) (e f : Event) → Later p q → own n (records q) ≡ own n (records p) → e ≡ f → PostsOne config n (records q) (records r) e → PostsOne config n (records p) (records r) f
posts_after config n p q r e f l same is x = record {
  more = items l.more ++ x.more;
  ahead = x.ahead;
  item = x.item;
  begins = x.begins ∙ ap (λ y. y ++ x.more) (ap (map record_of) l.grown ∙ map-append record_of p.seen l.more) ∙ append_assoc (records p) (items l.more) x.more;
  grown = x.grown;
  one = x.one ∙ ap (λ y. y ++ x.item ∷ []) same;
  event_is = x.event_is ∙ is;
  lawful = x.lawful;
}

-- ---- a pass that holds all nodes

pub holds_all : (p q : PassState) → q.all ≡ p.all → q.holds ≡ p.holds → HoldsAll p → HoldsAll q
holds_all p q all holds h n there = subst (Has n) (sym holds) (h n (subst (Has n) all there))

pub one_seen : (p q : PassState) (x : Record) → records q ≡ records p ++ x ∷ [] → length q.seen ≡ length p.seen + 1
one_seen p q x e = let a = length-map q.seen record_of in let b = length-map p.seen record_of in let l = ap length e ∙ length-append (records p) (x ∷ []) in omega arith

pub none_seen : (p q : PassState) → q.seen ≡ p.seen → length q.seen ≡ length p.seen + 0
none_seen p q e = let l = ap length e in omega arith

-- a step reads, and then posts so many records
pub step_sees : (o q w r : PassState) (k : ℕ) → Later o q → w ≡ q → (HoldsAll o → length q.seen ≡ length o.seen) → (HoldsAll w → length r.seen ≡ length w.seen + k) → HoldsAll o → length r.seen ≡ length o.seen + k
step_sees o q w r k l same first last h =
    let a = first h in let b = last (subst HoldsAll (sym same) (holds_all o q l.all l.holds h)) in let s = ap (λ (x : PassState). length x.seen) same in omega arith
