-- A pass that has seen more, and the core of its node.
use Rattle.std.proofs.Common.{◌≡◌, ℕ, ◌+◌, Bool, true, false, cond, List, [], ◌∷◌, ◌++◌, length, map, refl, sym, ap, ◌∙◌, subst, arith, Option}
use Rattle.std.proofs.lemmas.List.{append-nil, map-append}
use Rattle.gp_round.specs.Counts.{Counts}
use Rattle.gp_msg.specs.declared.node.Node.{Node}
use Rattle.gp_msg.specs.declared.record.Record.{Record}
use Rattle.gp_msg.specs.Messages.{Entry, entry_of}
use Rattle.gp_run.specs.Runs.{newest_first}
use Rattle.gp_wire.specs.declared.view.Post.{Post}
use Rattle.gp_wire.specs.Lists.{Each, Has}
use Rattle.gp_wire.specs.Rule.{IsForeign, items}
use Rattle.gp_wire.specs.Known.{PassState, records, record_of}
use Rattle.gp_work.specs.declared.moves.Move.{Move}
use Rattle.gp_wire.specs.Own.{own}
use Rattle.gp_msg.specs.Nodes.{same_node}
use Rattle.gp_work.specs.Moves.{Fits, HasRoom}
use Rattle.gp_cell.specs.Plans.{CanPlan, IsNamed, named}
use Rattle.gp_run.specs.Messages.{messages}
use Rattle.gp_run.proofs.Telling.{messages-append}
use Rattle.gp_cell.proofs.Stepping.{named_more}
use Rattle.gp_cell.proofs.Acting.{own_entries, can_plan}
use Rattle.gp_cell.proofs.Lawfully.{lawful_more}
use Rattle.gp_wire.proofs.OwnRecords.{own_append, own_foreign}
use Rattle.gp_cell.specs.declared.roles.Core.{Core}
use Rattle.gp_cell.specs.Cores.{core_at}
use Rattle.gp_cell.specs.Still.{AreOthers, core_still, entries_append}
use Rattle.gp_vlog.specs.Logs.{LogState}
use Rattle.gp_cell.specs.Cells.{IsSound, WentDown, OwnLawful}
use Rattle.gp_cell.specs.Passing.{Later}

others_join : (n : Node) (xs ys : List Entry) → AreOthers n xs → AreOthers n ys → AreOthers n (xs ++ ys)
others_join n [] ys a b = b
others_join n (x ∷ xs) ys a b = (a.0, others_join n xs ys a.1 b)

-- what a pass does not hold is of other nodes
pub foreign_others : (n : Node) (nodes : List Node) (es : List Post) → Has n nodes → Each (IsForeign nodes) es → AreOthers n (newest_first (items es))
foreign_others n nodes [] h f = tt
foreign_others n nodes (e ∷ es) h f = subst (AreOthers n) (sym (entries_append (e.item ∷ []) (items es)))
    (others_join n (newest_first (items es)) (entry_of e.item ∷ []) (foreign_others n nodes es h f.1) ((λ same. f.0 (subst (λ m. Has m nodes) (sym same) h)), tt))

records_later : (p q : PassState) (l : Later p q) → records q ≡ records p ++ items l.more
records_later p q l = ap (map record_of) l.grown ∙ map-append record_of p.seen l.more

pub core_later : (config : Counts) (n : Node) (p q : PassState) → Has n p.holds → Later p q → core_at config n (newest_first (records q)) ≡ core_at config n (newest_first (records p))
core_later config n p q h l =
    ap (λ rs. core_at config n (newest_first rs)) (records_later p q l)
    ∙ ap (core_at config n) (entries_append (records p) (items l.more))
    ∙ core_still config n (newest_first (items l.more)) (newest_first (records p)) (foreign_others n p.holds l.more h l.foreign)

pub own_later : (n : Node) (p q : PassState) → Has n p.holds → Later p q → own n (records q) ≡ own n (records p)
own_later n p q h l =
    ap (own n) (records_later p q l) ∙ own_append n (records p) (items l.more) ∙ ap (λ x. own n (records p) ++ x) (own_foreign n p.holds l.more h l.foreign) ∙ append-nil (own n (records p))

-- a message that stands still does once the list is longer
pub named_still : (rs more : List Record) (mv : Move) → IsNamed mv (named (messages (newest_first rs)) mv) → IsNamed mv (named (messages (newest_first (rs ++ more))) mv)
named_still rs more mv h = subst (IsNamed mv) (sym (
    ap (λ es. named (messages es) mv) (entries_append rs more)
    ∙ ap (λ ms. named ms mv) (messages-append (newest_first more) (newest_first rs))
    ∙ named_more (messages (newest_first rs)) (messages (newest_first more)) mv h)) h

pub down_still : {D : Type 0} (config : Counts) (n : Node) (log : Option (LogState D)) (rs more all : List Record) (mv : Move) → all ≡ rs ++ more → WentDown config n log (messages (newest_first rs)) mv → WentDown config n log (messages (newest_first all)) mv
down_still config n log rs more all mv e d = record {
  logged = d.logged;
  there = d.there;
  fits = d.fits;
  stands = subst (λ l. IsNamed mv (named (messages (newest_first l)) mv)) (sym e) (named_still rs more mv d.stands);
}

-- the cell is sound with what its pass has then seen
pub sound_later : {D : Type 0} (config : Counts) (n : Node) (core : Core) (log : Option (LogState D)) (p q : PassState) (posted : ℕ) (down : Option Move)
    → IsSound config n core log p posted down → Has p.node p.holds → Later p q → IsSound config n core log q posted down
sound_later config n core log p q posted down s h l = let mine : Has n p.holds = subst (λ m. Has m p.holds) s.node_is h in record {
  node_is = l.node ∙ s.node_is;
  present = s.present;
  core_is = s.core_is ∙ sym (core_later config n p q mine l);
  posted_is = s.posted_is ∙ ap length (sym (own_later n p q mine l));
  lawful = subst (OwnLawful config n) (sym (records_later p q l)) (lawful_more config n (records p) (items l.more) s.lawful (own_foreign n p.holds l.more mine l.foreign));
  log_is = s.log_is;
  down_is = λ mv e. down_still config n log (records p) (items l.more) (records q) mv (records_later p q l) (s.down_is mv e);
}

-- ---- how many records a node has posted

entries_join : (n : Node) (xs ys : List Entry) → own_entries n (xs ++ ys) ≡ own_entries n xs + own_entries n ys
entries_join n [] ys = omega arith
entries_join n (x ∷ xs) ys = let h = entries_join n xs ys in omega arith

own_cons : (n : Node) (r : Record) (rs : List Record) → length (own n (r ∷ rs)) ≡ cond (same_node n r.node) 1 0 + length (own n rs)
own_cons n r rs = by_test (same_node n r.node)
  where
    by_test : (b : Bool) → length (cond b (r ∷ own n rs) (own n rs)) ≡ cond b 1 0 + length (own n rs)
    by_test true = omega arith
    by_test false = omega arith

pub own_count : (n : Node) (rs : List Record) → own_entries n (newest_first rs) ≡ length (own n rs)
own_count n [] = refl
own_count n (r ∷ rs) =
    ap (own_entries n) (entries_append (r ∷ []) rs) ∙ entries_join n (newest_first rs) (entry_of r ∷ [])
    ∙ (let h = own_count n rs in let c = own_cons n r rs in omega arith)

-- a sound cell can make the moves that fit its node
pub can_move : {D : Type 0} (config : Counts) (n : Node) (core : Core) (log : Option (LogState D)) (p : PassState) (posted : ℕ) (down : Option Move) (mv : Move)
    → IsSound config n core log p posted down → Fits config n mv → HasRoom (length (own n (records p))) mv → CanPlan core mv
can_move config n core log p posted down mv s f r = subst (λ c. CanPlan c mv) (sym s.core_is)
    (can_plan config n (newest_first (records p)) mv f (subst (λ k. HasRoom k mv) (sym (own_count n (records p))) r))
