-- What all saw is the closed list.
use Rattle.std.proofs.Common.{◌≡◌, ℕ, zero, suc, ◌+◌, ◌<◌, ◌≤◌, Bool, true, false, cond, List, [], ◌∷◌, ◌++◌, length, map, get_or, refl, sym, ap, ◌∙◌, subst, inl, inr, ⊎_elim, arith, None, append_assoc, length-append}
use Rattle.std.specs.Prelude.{slice_get}
use Rattle.std.specs.List.{Contains}
use Rattle.std.proofs.lemmas.List.{append-nil}
use Rattle.std.proofs.lemmas.Bool.{cases_lt}
use Rattle.gp_msg.specs.declared.node.Node.{Node}
use Rattle.gp_msg.specs.declared.record.Record.{Record}
use Rattle.gp_wire.specs.declared.view.Post.{Post}
use Rattle.gp_wire.specs.Lists.{Each, Has, IsDistinct}
use Rattle.gp_msg.specs.Records.{messages_in}
use Rattle.gp_wire.specs.Rule.{items, Begins}
use Rattle.gp_wire.specs.Known.{PassState, records, old_of}
use Rattle.gp_wire.specs.Ends.{AllBegin}
use Rattle.gp_wire.specs.Own.{own, own_events}
use Rattle.gp_msg.specs.Nodes.{same_node}
use Rattle.gp_wire.proofs.SameNodes.{same_tells}
use Rattle.gp_wire.proofs.OwnRecords.{own_append, own_foreign}
use Rattle.gp_work.specs.Batches.{is_read, AreRead}
use Rattle.gp_wire.proofs.Words.{items_append}
use Rattle.gp_phase.specs.Deeds.{takes_in}
use Rattle.gp_phase.specs.Quiet.{node_of, posted_all, IsQuietAt, AreAll, SawAll}

-- the closed list has of each node the records that its pass has seen
pub own_closed : (log : List Post) (p : PassState) → Begins log (old_of p) → Has p.node p.holds → own p.node (items log) ≡ own p.node (records p)
own_closed log p b h =
    ap (λ l. own p.node (items l)) b.split
    ∙ ap (own p.node) (items_append p.seen b.rest)
    ∙ own_append p.node (items p.seen) (items b.rest)
    ∙ ap (λ l. own p.node (items p.seen) ++ l) (own_foreign p.node p.holds b.rest h b.foreign)
    ∙ append-nil (own p.node (items p.seen))

-- ---- all nodes together

-- how many records of these nodes there are
unfoldable pub counted : List Node → List Record → ℕ
counted [] rs = 0
counted (n ∷ ns) rs = length (own n rs) + counted ns rs

hits : List Node → Node → ℕ
hits [] m = 0
hits (n ∷ ns) m = cond (same_node n m) 1 0 + hits ns m

no_hit : (ns : List Node) (m : Node) → ¬ (Has m ns) → hits ns m ≡ 0
unfolding hits
no_hit [] m none = refl
no_hit (n ∷ ns) m none = elim (same_tells n m) [
  | inl t ↦ absurd (none (inl (sym t.1)))
  | inr t ↦ ap (λ b. cond b 1 0 + hits ns m) t.0 ∙ (let h = no_hit ns m (λ has. none (inr has)) in omega arith)
]

one_hit : (ns : List Node) (m : Node) → IsDistinct ns → Has m ns → hits ns m ≡ 1
unfolding hits
one_hit [] m d h = absurd h
one_hit (n ∷ ns) m d (inl e) = elim (same_tells n m) [
  | inl t ↦ ap (λ b. cond b 1 0 + hits ns m) t.0 ∙ (let z = no_hit ns m (λ has. d.0 (subst (λ x. Has x ns) e has)) in omega arith)
  | inr t ↦ absurd (t.1 (sym e))
]
one_hit (n ∷ ns) m d (inr h) = elim (same_tells n m) [
  | inl t ↦ absurd (d.0 (subst (λ x. Has x ns) (sym t.1) h))
  | inr t ↦ ap (λ b. cond b 1 0 + hits ns m) t.0 ∙ (let o = one_hit ns m d.1 h in omega arith)
]

length_cons : (n : Node) (r : Record) (rs : List Record) → length (own n (r ∷ rs)) ≡ cond (same_node n r.node) 1 0 + length (own n rs)
length_cons n r rs = by_test (same_node n r.node)
  where
    by_test : (b : Bool) → length (cond b (r ∷ own n rs) (own n rs)) ≡ cond b 1 0 + length (own n rs)
    by_test true = omega arith
    by_test false = omega arith

counted_cons : (ns : List Node) (r : Record) (rs : List Record) → counted ns (r ∷ rs) ≡ hits ns r.node + counted ns rs
unfolding counted hits
counted_cons [] r rs = refl
counted_cons (n ∷ ns) r rs = let h = counted_cons ns r rs in let l = length_cons n r rs in omega arith

counted_none : (ns : List Node) → counted ns [] ≡ 0
unfolding counted
counted_none [] = refl
counted_none (n ∷ ns) = let h = counted_none ns in omega arith

-- if each record is of one of them, all are
pub counted_all : (ns : List Node) (rs : List Record) → IsDistinct ns → Each (λ r. Has r.node ns) rs → counted ns rs ≡ length rs
counted_all ns [] d o = counted_none ns
counted_all ns (r ∷ rs) d o = counted_cons ns r rs ∙ (let h = one_hit ns r.node d o.0 in let t = counted_all ns rs d o.1 in omega arith)

each_item : (ns : List Node) (log : List Post) → Each (λ e. Has e.item.node ns) log → Each (λ r. Has r.node ns) (items log)
each_item ns [] o = tt
each_item ns (e ∷ es) o = (o.0, each_item ns es o.1)

counted_passes : (log : List Post) (ps : List PassState) → AllBegin log ps → Each (λ p. Has p.node p.holds) ps → counted (map node_of ps) (items log) ≡ posted_all ps
unfolding counted
counted_passes log [] b h = refl
counted_passes log (p ∷ ps) b h = λ i. ap length (own_closed log p b.0 h.0) i + counted_passes log ps b.1 h.1 i

pub closed_has : (log : List Post) (ps : List PassState) → AreAll log ps → length (items log) ≡ posted_all ps
closed_has log ps a = sym (counted_all (map node_of ps) (items log) a.distinct (each_item (map node_of ps) log a.ours)) ∙ counted_passes log ps a.begin a.hold

-- ---- the list of one pass

begin_of : (log : List Post) (ps : List PassState) (k : ℕ) (d : PassState) → k < length ps → AllBegin log ps → Begins log (old_of (get_or ps k d))
begin_of log [] k d l b = absurd (none l) where
  none : k < 0 → ⊥
  none l = omega (arith, l)
begin_of log (p ∷ ps) zero d l b = b.0
begin_of log (p ∷ ps) (suc k) d l b = begin_of log ps k d (omega (arith, l)) b.1

empty_rest : (xs ys : List Record) → length (xs ++ ys) ≡ length xs → ys ≡ []
empty_rest xs [] e = refl
empty_rest xs (y ∷ ys) e = absurd (let n = length-append xs (y ∷ ys) in omega arith)

pub saw_list : (log : List Post) (ps : List PassState) (p : PassState) (cursor : ℕ) → AreAll log ps → Contains ps p → SawAll ps p cursor → (records p ≡ items log) × (s : List Record) × (records p ≡ s) × (length (messages_in s) ≤ cursor)
saw_list log ps p cursor a c s =
    let b : Begins log (old_of p) = subst (λ q. Begins log (old_of q)) c.2 (begin_of log ps c.0 p c.1 a.begin) in
    let whole : items log ≡ s.seen ++ (s.more ++ items b.rest) = ap items b.split ∙ items_append p.seen b.rest ∙ ap (λ l. l ++ items b.rest) s.split ∙ append_assoc s.seen s.more (items b.rest) in
    let size : length (s.seen ++ (s.more ++ items b.rest)) ≡ length s.seen = ap length (sym whole) ∙ closed_has log ps a ∙ sym s.whole in
    let rest : s.more ++ items b.rest ≡ [] = empty_rest s.seen (s.more ++ items b.rest) size in
    let more : s.more ≡ [] = front_empty s.more (items b.rest) rest in
    let list : records p ≡ s.seen = s.split ∙ ap (λ l. s.seen ++ l) more ∙ append-nil s.seen in
    (list ∙ sym (whole ∙ ap (λ l. s.seen ++ l) rest ∙ append-nil s.seen), s.seen, list, s.looked)
  where
    front_empty : (xs ys : List Record) → xs ++ ys ≡ [] → xs ≡ []
    front_empty [] ys e = refl
    front_empty (x ∷ xs) ys e = cc

no_message : {A : Type 0} (ms : List A) (k : ℕ) → length ms ≤ k → slice_get ms k ≡ None
no_message [] k l = refl
no_message (m ∷ ms) zero l = absurd (omega arith)
no_message (m ∷ ms) (suc k) l = no_message ms k (omega (arith, l))

-- nothing is read behind the last message
pub read_end : (n : Node) (list : List Record) (cursor : ℕ) → length (messages_in list) ≤ cursor → AreRead n (messages_in list) 0 cursor (takes_in (own_events n list)) → IsQuietAt n list
read_end n list cursor l r = record {
  each = λ k from to. r.each k from (omega arith);
  before = r.before;
  behind = λ k far. ⊎_elim (λ below. r.each k (omega arith) below ∙ ap (λ o. cond (is_read n o) 1 0) (no_message (messages_in list) k far)) (λ above. r.behind k above) (cases_lt k cursor);
}

pub saw_quiet : (log : List Post) (ps : List PassState) (p : PassState) (cursor : ℕ) → AreAll log ps → Contains ps p → SawAll ps p cursor → IsQuietAt p.node (items log)
saw_quiet log ps p cursor a c s = let e = saw_list log ps p cursor a c s in
    subst (IsQuietAt p.node) e.0 (read_end p.node (records p) cursor (subst (λ l. length (messages_in l) ≤ cursor) (sym e.2) e.3) s.read)
