-- What a node did, over more of its events.
use Rattle.std.proofs.Common.{◌≡◌, ℕ, Bool, true, false, List, [], ◌∷◌, ◌++◌, map, refl, sym, ap, ◌∙◌, subst, inl, inr, ⊎_elim, arith, append_assoc}
use Rattle.std.proofs.lemmas.List.{append-nil, map-append}
use Rattle.gp_round.specs.declared.round.Round.{Round}
use Rattle.gp_msg.specs.declared.node.Node.{Node}
use Rattle.gp_msg.specs.declared.event.Event.{Event}
use Rattle.gp_msg.specs.declared.event.Event.TheVariants.{Take}
use Rattle.gp_msg.specs.Records.{messages_in}
use Rattle.gp_work.specs.declared.moves.Move.{Move}
use Rattle.gp_work.specs.declared.moves.Move.TheVariants as move
use Rattle.gp_wire.specs.Lists.{Each}
use Rattle.gp_wire.specs.Own.{own_events}
use Rattle.gp_work.specs.Doing.{ProcessState, have, Goes, Posted}
use Rattle.gp_work.specs.Moves.{event_of, is_offer, Does, Takes, HasOffer}
use Rattle.gp_work.specs.Batches.{AreRead}
use Rattle.gp_work.specs.Jobs.{Done}
use Rattle.gp_work.proofs.Stretches.{messages_grown, have_grown}
use Rattle.gp_work.proofs.Batching.{read_on, read_stays}
use Rattle.gp_phase.specs.Deeds.{taken_by, takes_in, besides, others_in, begins, begin_moves, Tidy}

pub takes_append : (xs ys : List Event) → takes_in (xs ++ ys) ≡ takes_in xs ++ takes_in ys
takes_append [] ys = refl
takes_append (x ∷ xs) ys = ap (λ l. taken_by x ++ l) (takes_append xs ys) ∙ sym (append_assoc (taken_by x) (takes_in xs) (takes_in ys))

pub others_append : (xs ys : List Event) → others_in (xs ++ ys) ≡ others_in xs ++ others_in ys
others_append [] ys = refl
others_append (x ∷ xs) ys = ap (λ l. besides x ++ l) (others_append xs ys) ∙ sym (append_assoc (besides x) (others_in xs) (others_in ys))

-- ---- nobody fell

takes_up : (n : Node) (ks : List ℕ) (es : List Event) (g : Bool) → Takes n ks es true g → g ≡ true
takes_up n [] es g t = t.1
takes_up n (k ∷ ks) es g (e, rest, mid, split, inl one, more) = takes_up n ks rest g (subst (λ x. Takes n ks rest x g) one.1 more)
takes_up n (k ∷ ks) es g (e, rest, mid, split, inr one, more) = takes_up n ks rest g (subst (λ x. Takes n ks rest x g) one.3 more)

pub takes_plain : (n : Node) (ks : List ℕ) (es : List Event) → Takes n ks es false false → es ≡ map (λ k. Take n k) ks
takes_plain n [] es t = t.0
takes_plain n (k ∷ ks) es (e, rest, mid, split, inl one, more) = split ∙ (λ i. one.0 i ∷ takes_plain n ks rest (subst (λ x. Takes n ks rest x false) one.1 more) i)
takes_plain n (k ∷ ks) es (e, rest, mid, split, inr one, more) = absurd (let fallen : false ≡ true = takes_up n ks rest false (subst (λ x. Takes n ks rest x false) one.3 more) in cc)

-- the mark was not set before the end where it is not set there
pub mid_false : (n : Node) (ks : List ℕ) (es : List Event) (m : Bool) → Takes n ks es m false → m ≡ false
mid_false n ks es true t = absurd (let fallen : false ≡ true = takes_up n ks es false t in cc)
mid_false n ks es false t = refl

pub does_up : (n : Node) (h u : ℕ) (ms : List Move) (es : List Event) (g : Bool) → Does n h u ms es true g → g ≡ true
does_up n h u [] es g t = t.1
does_up n h u (m ∷ ms) es g (first, rest, mid, seen, up, split, inl one, more) = does_up n seen u ms rest g (subst (λ x. Does n seen u ms rest x g) one.1 more)
does_up n h u (m ∷ ms) es g (first, rest, mid, seen, up, split, inr (inl one), more) = does_up n seen u ms rest g (subst (λ x. Does n seen u ms rest x g) one.1 more)
does_up n h u (m ∷ ms) es g (first, rest, mid, seen, up, split, inr (inr one), more) = does_up n seen u ms rest g (subst (λ x. Does n seen u ms rest x g) one.3 more)

-- rounds are begun, one after another
pub begun_plain : (n : Node) (h u : ℕ) (rs : List Round) (es : List Event) → Does n h u (begin_moves rs) es false false → es ≡ begins n rs
begun_plain n h u [] es t = t.0
begun_plain n h u (r ∷ rs) es (first, rest, mid, seen, up, split, inl one, more) =
    split ∙ (λ i. one.0 i ++ begun_plain n seen u rs rest (subst (λ x. Does n seen u (begin_moves rs) rest x false) one.1 more) i)
begun_plain n h u (r ∷ rs) es (first, rest, mid, seen, up, split, inr (inl one), more) = absurd one.2
begun_plain n h u (r ∷ rs) es (first, rest, mid, seen, up, split, inr (inr one), more) = absurd (let fallen : false ≡ true = does_up n seen u (begin_moves rs) rest false (subst (λ x. Does n seen u (begin_moves rs) rest x false) one.3 more) in cc)

-- offers are made, one after another
pub offered_plain : (n : Node) (h u : ℕ) (ms : List Move) (es : List Event) → Each (λ m. is_offer m ≡ true) ms → Does n h u ms es false false → es ≡ map (event_of n) ms
offered_plain n h u [] es are t = t.0
offered_plain n h u (m ∷ ms) es are (first, rest, mid, seen, up, split, inl one, more) =
    split ∙ (λ i. one.0 i ++ offered_plain n seen u ms rest are.1 (subst (λ x. Does n seen u ms rest x false) one.1 more) i)
offered_plain n h u (move.Offer d ∷ ms) es are (first, rest, mid, seen, up, split, inr (inl one), more) = absurd one.2
offered_plain n h u (move.Begin r ∷ ms) es are (first, rest, mid, seen, up, split, inr (inl one), more) = absurd (let wrong : false ≡ true = are.0 in cc)
offered_plain n h u (move.Take k ∷ ms) es are (first, rest, mid, seen, up, split, inr (inl one), more) = absurd (let wrong : false ≡ true = are.0 in cc)
offered_plain n h u (m ∷ ms) es are (first, rest, mid, seen, up, split, inr (inr one), more) = absurd (let fallen : false ≡ true = does_up n seen u ms rest false (subst (λ x. Does n seen u ms rest x false) one.3 more) in cc)

-- ---- what these events take, and what else they are

takes_of_takes : (n : Node) (ks : List ℕ) → takes_in (map (λ k. Take n k) ks) ≡ ks
takes_of_takes n [] = refl
takes_of_takes n (k ∷ ks) = ap (λ l. k ∷ l) (takes_of_takes n ks)

others_of_takes : (n : Node) (ks : List ℕ) → others_in (map (λ k. Take n k) ks) ≡ []
others_of_takes n [] = refl
others_of_takes n (k ∷ ks) = others_of_takes n ks

takes_of_begins : (n : Node) (rs : List Round) → takes_in (begins n rs) ≡ []
takes_of_begins n [] = refl
takes_of_begins n (r ∷ rs) = takes_of_begins n rs

others_of_begins : (n : Node) (rs : List Round) → others_in (begins n rs) ≡ begins n rs
others_of_begins n [] = refl
others_of_begins n (r ∷ rs) = ap (λ l. event_of n (move.Begin r) ∷ l) (others_of_begins n rs)

pub begins_append : (n : Node) (rs ss : List Round) → begins n (rs ++ ss) ≡ begins n rs ++ begins n ss
begins_append n rs ss = map-append (λ r. event_of n (move.Begin r)) rs ss

pub no_offer : (rs : List Round) → HasOffer (begin_moves rs) → ⊥
no_offer [] h = h
no_offer (r ∷ rs) (inl h) = cc
no_offer (r ∷ rs) (inr h) = no_offer rs h

-- ---- a phase without a fall

pub tidy_on : (p : ProcessState) (cursor : ℕ) (deeds : List Event) (rs : List Round) (q : ProcessState) (behind : ℕ)
    → Tidy p cursor deeds → Goes p q → Done p false (begin_moves rs) cursor q false behind → Tidy q behind (deeds ++ begins p.node rs)
tidy_on p cursor deeds rs q behind t go d = record {
  read = subst (λ n. AreRead n (messages_in q.list) 0 behind (takes_in (own_events q.node q.list))) (sym go.node)
      (subst (AreRead p.node (messages_in q.list) 0 behind) (sym taken)
      (read_on p.node (messages_in q.list) 0 cursor behind (takes_in (own_events p.node p.list)) d.ks (omega arith) d.forth before d.read));
  acts = ap others_in all ∙ others_append (own_events p.node p.list) (begins p.node rs ++ map (λ k. Take p.node k) d.ks)
      ∙ (λ i. t.acts i ++ (others_append (begins p.node rs) (map (λ k. Take p.node k) d.ks) ∙ (λ j. others_of_begins p.node rs j ++ others_of_takes p.node d.ks j) ∙ append-nil (begins p.node rs)) i);
  within = let w = t.within in let m = have_grown p q go in ⊎_elim (λ e. omega arith) (λ l. l) d.within;
}
  where
    mid : d.mid ≡ false
    mid = mid_false p.node d.ks d.took d.mid d.takes

    made : d.made ≡ begins p.node rs
    made = begun_plain p.node (have p) (have q) rs d.made (subst (λ m. Does p.node (have p) (have q) (begin_moves rs) d.made false m) mid d.moves)

    took : d.took ≡ map (λ k. Take p.node k) d.ks
    took = takes_plain p.node d.ks d.took (subst (λ m. Takes p.node d.ks d.took m false) mid d.takes)

    all : own_events q.node q.list ≡ own_events p.node p.list ++ (begins p.node rs ++ map (λ k. Take p.node k) d.ks)
    all = d.posts ∙ (λ i. own_events p.node p.list ++ (made i ++ took i))

    taken : takes_in (own_events q.node q.list) ≡ takes_in (own_events p.node p.list) ++ d.ks
    taken = ap takes_in all ∙ takes_append (own_events p.node p.list) (begins p.node rs ++ map (λ k. Take p.node k) d.ks)
        ∙ ap (λ l. takes_in (own_events p.node p.list) ++ l) (takes_append (begins p.node rs) (map (λ k. Take p.node k) d.ks) ∙ (λ i. takes_of_begins p.node rs i ++ takes_of_takes p.node d.ks i))

    before : AreRead p.node (messages_in q.list) 0 cursor (takes_in (own_events p.node p.list))
    before = subst (λ ms. AreRead p.node ms 0 cursor (takes_in (own_events p.node p.list))) (sym (messages_grown p q go))
        (read_stays p.node (messages_in p.list) (messages_in go.more) 0 cursor (takes_in (own_events p.node p.list)) (inr t.within) t.read)

-- what a node posts in a phase without a fall: it begins these rounds, and then takes messages
pub done_made : (p : ProcessState) (rs : List Round) (cursor : ℕ) (q : ProcessState) (behind : ℕ) → Done p false (begin_moves rs) cursor q false behind → (took : List Event) × Posted p q (begins p.node rs ++ took)
done_made p rs cursor q behind d =
    let mid : d.mid ≡ false = mid_false p.node d.ks d.took d.mid d.takes in
    let made : d.made ≡ begins p.node rs = begun_plain p.node (have p) (have q) rs d.made (subst (λ m. Does p.node (have p) (have q) (begin_moves rs) d.made false m) mid d.moves) in
    (d.took, subst (λ es. Posted p q (es ++ d.took)) made d.posts)

-- a look changes nothing of it
pub tidy_looked : (p : ProcessState) (cursor : ℕ) (deeds : List Event) (q : ProcessState) → Tidy p cursor deeds → Goes p q → Posted p q [] → Tidy q cursor deeds
tidy_looked p cursor deeds q t go post = let same = post ∙ append-nil (own_events p.node p.list) in record {
  read = subst (λ n. AreRead n (messages_in q.list) 0 cursor (takes_in (own_events q.node q.list))) (sym go.node)
      (subst (λ es. AreRead p.node (messages_in q.list) 0 cursor (takes_in es)) (sym same)
      (subst (λ ms. AreRead p.node ms 0 cursor (takes_in (own_events p.node p.list))) (sym (messages_grown p q go))
      (read_stays p.node (messages_in p.list) (messages_in go.more) 0 cursor (takes_in (own_events p.node p.list)) (inr t.within) t.read)));
  acts = ap others_in same ∙ t.acts;
  within = let w = t.within in let m = have_grown p q go in omega arith;
}
