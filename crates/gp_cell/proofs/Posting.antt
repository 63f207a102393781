-- A cell whose pass posted a record, or was refused.
use Rattle.std.proofs.Common.{◌≡◌, ℕ, ◌+◌, ◌≤◌, Bool, true, false, cond, List, [], ◌∷◌, ◌++◌, length, map, refl, sym, ap, ◌∙◌, subst, inl, inr, arith, Option, Some, None, length-append}
use Rattle.std.proofs.lemmas.List.{append-nil, map-append, length-map}
use Rattle.gp_round.specs.Counts.{Counts}
use Rattle.gp_msg.specs.declared.node.Node.{Node}
use Rattle.gp_msg.specs.declared.record.Record.{Record}
use Rattle.gp_msg.specs.Messages.{Stamped, Entry, entry_of}
use Rattle.gp_run.specs.Messages.{messages}
use Rattle.gp_run.specs.Runs.{newest_first}
use Rattle.gp_msg.specs.Nodes.{is_present, same_node}
use Rattle.gp_run.proofs.Telling.{messages-append}
use Rattle.gp_wire.specs.declared.view.Post.{Post}
use Rattle.gp_wire.specs.Lists.{Has}
use Rattle.gp_wire.specs.Rule.{IsBelow, Begins, items, post_of}
use Rattle.gp_wire.specs.Known.{PassState, records, record_of, old_of}
use Rattle.gp_wire.specs.Passes.{HadTurn, nothing, only}
use Rattle.gp_work.specs.declared.moves.Move.{Move}
use Rattle.gp_wire.specs.Own.{own}
use Rattle.gp_work.specs.Doing.{IsUpTo}
use Rattle.gp_wire.proofs.SameNodes.{same_tells}
use Rattle.gp_wire.proofs.OwnRecords.{own_append, own_foreign}
use Rattle.gp_cell.specs.declared.roles.Core.{Core}
use Rattle.gp_cell.specs.Cores.{opening, acts, core_at, part_in}
use Rattle.gp_cell.specs.Lawful.{IsLawful}
use Rattle.gp_cell.specs.Still.{AreOthers, core_still, lawful_still, entries_append}
use Rattle.gp_vlog.specs.Logs.{LogState}
use Rattle.gp_cell.specs.Cells.{Keeps, IsSound, OwnLawful, PostsOne}
use Rattle.gp_cell.specs.Passing.{Later}
use Rattle.gp_cell.proofs.Reading.{foreign_others, down_still}
use Rattle.gp_cell.proofs.Lawfully.{none_lawful, lawful_more, lawful_one}

pub up_to : (t : Option ℕ) (n : ℕ) → IsBelow t n → IsUpTo t (Some n)
up_to None n b = tt
up_to (Some t) n b = omega arith

-- a turn in which nothing is posted
pub had_later : (p q : PassState) → HadTurn p q nothing → Later p q
had_later p q t = record {
  node = ap (λ (x : PassState). x.node) t.after;
  wire = ap (λ (x : PassState). x.wire) t.after;
  all = ap (λ (x : PassState). x.all) t.after;
  holds = ap (λ (x : PassState). x.holds) t.after;
  turn = subst (IsUpTo p.turn) (sym (ap (λ (x : PassState). x.turn) t.after)) (up_to p.turn t.turn t.risen);
  more = t.more;
  grown = ap (λ (x : PassState). x.seen) t.after ∙ append-nil (p.seen ++ t.more);
  foreign = t.foreign;
}

-- ---- a turn in which a record is posted

ahead : (p q : PassState) (x : Record) → HadTurn p q (only x) → List Record
ahead p q x t = records p ++ items t.more

ahead_is : (p q : PassState) (x : Record) (t : HadTurn p q (only x)) → ahead p q x t ≡ records p ++ items t.more
unfolding ahead
ahead_is p q x t = refl

grown : (p q : PassState) (x : Record) (t : HadTurn p q (only x)) → records q ≡ ahead p q x t ++ x ∷ []
unfolding ahead
grown p q x t =
    ap (λ (y : PassState). records y) t.after
    ∙ map-append record_of (p.seen ++ t.more) (post_of x t.turn ∷ [])
    ∙ ap (λ l. l ++ x ∷ []) (map-append record_of p.seen t.more)

others : (p q : PassState) (x : Record) (n : Node) (t : HadTurn p q (only x)) → Has n p.holds → AreOthers n (newest_first (items t.more))
others p q x n t h = foreign_others n p.holds t.more h t.foreign

entries_ahead : (p q : PassState) (x : Record) (t : HadTurn p q (only x)) → newest_first (ahead p q x t) ≡ newest_first (items t.more) ++ newest_first (records p)
unfolding ahead
entries_ahead p q x t = entries_append (records p) (items t.more)

pub own_one : (n : Node) (r : Record) → r.node ≡ n → own n (r ∷ []) ≡ r ∷ []
own_one n r e = elim (same_tells n r.node) [ inl t ↦ ap (λ b. cond b (r ∷ []) []) t.0 | inr t ↦ absurd (t.1 (sym e)) ]

own_posted : (p q : PassState) (x : Record) (n : Node) (t : HadTurn p q (only x)) → Has n p.holds → x.node ≡ n → own n (records q) ≡ own n (records p) ++ x ∷ []
unfolding ahead
own_posted p q x n t h e =
    ap (own n) (grown p q x t)
    ∙ own_append n (records p ++ items t.more) (x ∷ [])
    ∙ (λ i. (own_append n (records p) (items t.more) ∙ ap (λ l. own n (records p) ++ l) (own_foreign n p.holds t.more h t.foreign) ∙ append-nil (own n (records p))) i ++ own_one n x e i)

-- the record is lawful after all that the pass has then seen
lawful_ahead : (config : Counts) (n : Node) (p q : PassState) (x : Record) → Has n p.holds → (t : HadTurn p q (only x)) → x.node ≡ n → IsLawful config (newest_first (records p)) (entry_of x)
    → IsLawful config (newest_first (ahead p q x t)) (entry_of x)
lawful_ahead config n p q x h t e l = subst (λ es. IsLawful config es (entry_of x)) (sym (entries_ahead p q x t))
    (lawful_still config (newest_first (items t.more)) (newest_first (records p)) (entry_of x) l (subst (λ m. AreOthers m (newest_first (items t.more))) (sym e) (others p q x n t h)))

pub posts_one : (config : Counts) (n : Node) (p q : PassState) (x : Record) → Has n p.holds → HadTurn p q (only x) → x.node ≡ n → IsLawful config (newest_first (records p)) (entry_of x)
    → PostsOne config n (records p) (records q) x.event
posts_one config n p q x h t e l = record {
  more = items t.more;
  ahead = ahead p q x t;
  item = x;
  begins = ahead_is p q x t;
  grown = grown p q x t;
  one = own_posted p q x n t h e;
  event_is = refl;
  lawful = lawful_ahead config n p q x h t e l;
}

own_lawful_posted : (config : Counts) (n : Node) (p q : PassState) (x : Record) → Has n p.holds → (t : HadTurn p q (only x)) → x.node ≡ n → OwnLawful config n (records p)
    → IsLawful config (newest_first (records p)) (entry_of x) → OwnLawful config n (records q)
own_lawful_posted config n p q x h t e own_lawful l = subst (OwnLawful config n) (sym (grown p q x t)) (lawful_one config n (ahead p q x t) x
    (subst (OwnLawful config n) (sym (ahead_is p q x t)) (lawful_more config n (records p) (items t.more) own_lawful (own_foreign n p.holds t.more h t.foreign)))
    (lawful_ahead config n p q x h t e l))

core_posted : (config : Counts) (n : Node) (p q : PassState) (x : Record) (core next : Core) → Has n p.holds → (t : HadTurn p q (only x)) → x.node ≡ n → core ≡ core_at config n (newest_first (records p))
    → ((more : List Stamped) → next ≡ (acts n core (messages (newest_first (records p)) ++ more) x.event).0) → next ≡ core_at config n (newest_first (records q))
core_posted config n p q x core next h t e is plan = sym (
    ap (λ rs. core_at config n (newest_first rs)) (grown p q x t)
    ∙ ap (core_at config n) (entries_append (ahead p q x t) (x ∷ []))
    ∙ own_acts
    ∙ ap (λ es. (acts n (core_at config n es) (messages es) x.event).0) (entries_ahead p q x t)
    ∙ (λ i. (acts n (core_still config n (newest_first (items t.more)) (newest_first (records p)) (others p q x n t h) i) (messages-append (newest_first (items t.more)) (newest_first (records p)) i) x.event).0)
    ∙ ap (λ c. (acts n c (messages (newest_first (records p)) ++ messages (newest_first (items t.more))) x.event).0) (sym is)
    ∙ sym (plan (messages (newest_first (items t.more)))))
  where
    own_acts : core_at config n (entry_of x ∷ newest_first (ahead p q x t)) ≡ (acts n (core_at config n (newest_first (ahead p q x t))) (messages (newest_first (ahead p q x t))) x.event).0
    own_acts = elim (same_tells n x.node) [
      | inl s ↦ ap (λ b. cond b (acts n (core_at config n (newest_first (ahead p q x t))) (messages (newest_first (ahead p q x t))) x.event).0 (core_at config n (newest_first (ahead p q x t)))) s.0
      | inr s ↦ absurd (s.1 (sym e))
    ]

pub sound_posted : {D : Type 0} (config : Counts) (n : Node) (core next : Core) (log : Option (LogState D)) (p q : PassState) (x : Record) (posted : ℕ) (down now : Option Move)
    → IsSound config n core log p posted down → Has p.node p.holds → (t : HadTurn p q (only x)) → x.node ≡ n
    → IsLawful config (newest_first (records p)) (entry_of x) → ((more : List Stamped) → next ≡ (acts n core (messages (newest_first (records p)) ++ more) x.event).0)
    → Keeps (part_in (opening config n)) (part_in next) log → now ≡ None → IsSound config n next log q (posted + 1) now
sound_posted config n core next log p q x posted down now s h t e may plan kept up = let mine : Has n p.holds = subst (λ m. Has m p.holds) s.node_is h in record {
  node_is = ap (λ (y : PassState). y.node) t.after ∙ s.node_is;
  present = s.present;
  core_is = core_posted config n p q x core next mine t e s.core_is plan;
  posted_is = ap (λ k. k + 1) s.posted_is ∙ sym (ap length (own_posted p q x n t mine e) ∙ length-append (own n (records p)) (x ∷ []));
  lawful = own_lawful_posted config n p q x mine t e s.lawful may;
  log_is = λ _. kept;
  down_is = λ mv went. absurd (let wrong : None ≡ Some mv = sym up ∙ went in cc);
}

-- the number of a node's records is within that of all
pub own_short : (n : Node) (rs : List Record) → length (own n rs) ≤ length rs
own_short n [] = omega arith
own_short n (r ∷ rs) = by_test (same_node n r.node) (own_short n rs)
  where
    by_test : (b : Bool) → length (own n rs) ≤ length rs → length (cond b (r ∷ own n rs) (own n rs)) ≤ length (r ∷ rs)
    by_test true l = omega arith
    by_test false l = omega arith

pub count_within : {D : Type 0} (config : Counts) (n : Node) (core : Core) (log : Option (LogState D)) (p q : PassState) (x : Record) (posted : ℕ) (down : Option Move)
    → IsSound config n core log p posted down → Has p.node p.holds → (t : HadTurn p q (only x)) → x.node ≡ n → posted + 1 ≤ length q.seen
count_within config n core log p q x posted down s h t e =
    let mine : Has n p.holds = subst (λ m. Has m p.holds) s.node_is h in
    let a = s.posted_is in let b = ap length (own_posted p q x n t mine e) ∙ length-append (own n (records p)) (x ∷ []) in
    let c = own_short n (records q) in let d = length-map q.seen record_of in omega arith

-- ---- two passes that met

pub nothing_own : (n : Node) (rs : List Record) → own n rs ≡ [] → AreOthers n (newest_first rs)
nothing_own n [] e = tt
nothing_own n (r ∷ rs) e = elim (same_tells n r.node) [
  | inl t ↦ absurd (let wrong : r ∷ own n rs ≡ [] = sym (ap (λ b. cond b (r ∷ own n rs) (own n rs)) t.0) ∙ e in cc)
  | inr t ↦ let rest : own n rs ≡ [] = sym (ap (λ b. cond b (r ∷ own n rs) (own n rs)) t.0) ∙ e in
      subst (AreOthers n) (sym (entries_append (r ∷ []) rs)) (join n (newest_first rs) (entry_of r ∷ []) (nothing_own n rs rest) ((λ same. t.1 (sym same)), tt))
]
  where
    join : (n : Node) (xs ys : List Entry) → AreOthers n xs → AreOthers n ys → AreOthers n (xs ++ ys)
    join n [] ys a b = b
    join n (x ∷ xs) ys a b = (a.0, join n xs ys a.1 b)

pub back_empty : (xs ys : List Record) → xs ++ ys ≡ xs → ys ≡ []
back_empty [] ys e = e
back_empty (x ∷ xs) ys e = let t : xs ++ ys ≡ xs = cc in back_empty xs ys t

-- a list that begins with what the pass of a node has seen, and has no more records of it
pub sound_longer : {D : Type 0} (config : Counts) (n : Node) (core : Core) (log : Option (LogState D)) (p q : PassState) (rest : List Post) (posted : ℕ) (down : Option Move)
    → IsSound config n core log p posted down → q.node ≡ p.node → q.seen ≡ p.seen ++ rest → own n (records q) ≡ own n (records p) → IsSound config n core log q posted down
sound_longer config n core log p q rest posted down s same split mine =
    let list : records q ≡ records p ++ items rest = ap (map record_of) split ∙ map-append record_of p.seen rest in
    let none : own n (items rest) ≡ [] = back_empty (own n (records p)) (own n (items rest)) (sym (ap (own n) list ∙ own_append n (records p) (items rest)) ∙ mine) in record {
      node_is = same ∙ s.node_is;
      present = s.present;
      core_is = s.core_is ∙ sym (ap (λ rs. core_at config n (newest_first rs)) list ∙ ap (core_at config n) (entries_append (records p) (items rest)) ∙ core_still config n (newest_first (items rest)) (newest_first (records p)) (nothing_own n (items rest) none));
      posted_is = s.posted_is ∙ ap length (sym mine);
      lawful = subst (OwnLawful config n) (sym list) (lawful_more config n (records p) (items rest) s.lawful none);
      log_is = s.log_is;
      down_is = λ mv e. down_still config n log (records p) (items rest) (records q) mv list (s.down_is mv e);
    }

-- what a list that begins with what a pass has seen has of a node that the pass holds
pub own_begun : (n : Node) (p : PassState) (list : List Post) → Begins list (old_of p) → Has n p.holds → own n (items list) ≡ own n (records p)
own_begun n p list b h = ap (λ l. own n (items l)) b.split ∙ ap (own n) (map-append record_of p.seen b.rest) ∙ own_append n (records p) (items b.rest)
    ∙ ap (λ l. own n (records p) ++ l) (own_foreign n p.holds b.rest h b.foreign) ∙ append-nil (own n (records p))

-- ---- a new cell

pub sound_new : {D : Type 0} (config : Counts) (n : Node) (core : Core) (log : Option (LogState D)) (p : PassState) → is_present config n ≡ true → p.node ≡ n → own n (records p) ≡ []
    → Keeps (part_in (opening config n)) (part_in (opening config n)) log → core ≡ opening config n → IsSound config n core log p 0 None
sound_new config n core log p here mine none kept e = record {
  node_is = mine;
  present = here;
  core_is = e ∙ sym (ap (core_at config n) (sym (append-nil (newest_first (records p)))) ∙ core_still config n (newest_first (records p)) [] (nothing_own n (records p) none));
  posted_is = ap length (sym none);
  lawful = none_lawful config n (records p) none;
  log_is = λ _. subst (λ c. Keeps (part_in (opening config n)) (part_in c) log) (sym e) kept;
  down_is = λ mv went. absurd (let wrong : None ≡ Some mv = went in cc);
}
