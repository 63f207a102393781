-- A log holds the last durable parts that its node had.
use Rattle.std.proofs.Common.{◌≡◌, ◌≢◌, List, [], ◌∷◌, ◌++◌, map, refl, sym, ap, ◌∙◌, subst, append_assoc, Option, Some, None, inl, inr}
use Rattle.std.proofs.lemmas.List.{append-nil, map-append}
use Rattle.gp_round.specs.Counts.{Counts}
use Rattle.gp_msg.specs.declared.node.Node.{Node}
use Rattle.gp_msg.specs.declared.event.Event.{Event}
use Rattle.gp_msg.specs.declared.record.Record.{Record}
use Rattle.gp_msg.specs.declared.durable.Durable.{Durable}
use Rattle.gp_msg.specs.Messages.{EpochPart, Entry, entry_of, part_of}
use Rattle.gp_msg.specs.Nodes.{node_of}
use Rattle.gp_run.specs.Runs.{newest_first}
use Rattle.gp_vlog.specs.Logs.{LogState}
use Rattle.gp_wire.specs.Own.{own}
use Rattle.gp_wire.proofs.OwnRecords.{own_append}
use Rattle.gp_cell.specs.Cores.{core_at, part_in}
use Rattle.gp_cell.specs.Still.{AreOthers, core_other, core_still, entries_append}
use Rattle.gp_cell.specs.Cells.{PostsOne}
use Rattle.gp_cell.specs.Crashes.{Writes, AddsToLog}
use Rattle.gp_cell.specs.Refusals.{AddsPart}
use Rattle.gp_node.specs.Changes.{Grows, AreParts, HoldsLast, HoldsLastParts}
use Rattle.gp_cell.proofs.Posting.{nothing_own, own_one}

-- entries of other nodes change nothing
still_parts : (config : Counts) (n : Node) (more es : List Entry) (ps : List EpochPart) → AreOthers n more → AreParts config n es ps → AreParts config n (more ++ es) ps
still_parts config n [] es ps o h = h
still_parts config n (e ∷ more) es ps o h = (ps, still_parts config n more es ps o.1 h, inl (ap part_in (core_other config n e (more ++ es) o.0), refl))

-- a node to which nothing has happened had no parts
pub holds_new : {D : Type 0} (config : Counts) (n : Node) (seen : List Record) (log : LogState D) → own n seen ≡ [] → log.entries ≡ [] → HoldsLastParts config n seen (Some log)
holds_new config n seen log none e = record {
  parts = [];
  are = subst (λ es. AreParts config n es []) (append-nil (newest_first seen)) (still_parts config n (newest_first seen) [] [] (nothing_own n seen none) refl);
  front = [];
  split = sym (ap (map part_of) e);
}

cancel : (xs ys zs : List Record) → xs ++ ys ≡ xs ++ zs → ys ≡ zs
cancel [] ys zs e = e
cancel (x ∷ xs) ys zs e = let t : xs ++ ys ≡ xs ++ zs = cc in cancel xs ys zs t

front_empty : (ys : List Record) (x : Record) → ys ++ x ∷ [] ≡ x ∷ [] → ys ≡ []
front_empty [] x e = refl
front_empty (y ∷ ys) x e = absurd (longer ys x (let t : ys ++ x ∷ [] ≡ [] = cc in t))
  where
    longer : (zs : List Record) (z : Record) → zs ++ z ∷ [] ≡ [] → ⊥
    longer [] z e = cc
    longer (w ∷ zs) z e = cc

between : (config : Counts) (n : Node) (before after : List Record) (event : Event) → node_of event ≡ n → (x : PostsOne config n before after event) → own n x.more ≡ []
between config n before after event at x =
    let mine : x.item.node ≡ n = x.lawful.own_node ∙ ap node_of x.event_is ∙ at in
    let all : own n after ≡ own n before ++ (own n x.more ++ x.item ∷ []) =
    ap (own n) (x.grown ∙ ap (λ l. l ++ x.item ∷ []) x.begins) ∙ own_append n (before ++ x.more) (x.item ∷ [])
    ∙ (λ i. own_append n before x.more i ++ own_one n x.item mine i) ∙ append_assoc (own n before) (own n x.more) (x.item ∷ []) in
    front_empty (own n x.more) x.item (cancel (own n before) (own n x.more ++ x.item ∷ []) (x.item ∷ []) (sym all ∙ x.one))

-- the run after the record
after_is : (config : Counts) (n : Node) (before after : List Record) (event : Event) (x : PostsOne config n before after event) → newest_first after ≡ entry_of x.item ∷ (newest_first x.more ++ newest_first before)
after_is config n before after event x =
    ap newest_first x.grown ∙ entries_append x.ahead (x.item ∷ []) ∙ ap (λ es. entry_of x.item ∷ es) (ap newest_first x.begins ∙ entries_append before x.more)

module _ (config : Counts) (n : Node) (before after : List Record) (event : Event) (at : node_of event ≡ n) (x : PostsOne config n before after event) where
  -- the part did not change, or changed to this one
  grown_parts : (ps qs : List EpochPart) → AreParts config n (newest_first before) ps → Grows (part_in (core_at config n (newest_first before))) (part_in (core_at config n (newest_first after))) ps qs → AreParts config n (newest_first after) qs
  grown_parts ps qs h g =
      let others = nothing_own n x.more (between config n before after event at x) in
      let still : core_at config n (newest_first x.more ++ newest_first before) ≡ core_at config n (newest_first before) = core_still config n (newest_first x.more) (newest_first before) others in
      let all = after_is config n before after event x in
      subst (λ es. AreParts config n es qs) (sym all) (
        ps,
        still_parts config n (newest_first x.more) (newest_first before) ps others h,
        subst (λ o. Grows o (part_in (core_at config n (entry_of x.item ∷ (newest_first x.more ++ newest_first before)))) ps qs) (ap part_in (sym still)) (subst (λ es. Grows (part_in (core_at config n (newest_first before))) (part_in (core_at config n es)) ps qs) all g),
      )

  added : {D : Type 0} (old new : LogState D) (d : Durable) (h : HoldsLast config n (newest_first before) (map part_of old.entries)) → AddsPart old new d
      → (front : List EpochPart) × (h.parts ++ part_of d ∷ [] ≡ front ++ map part_of new.entries)
  added old new d h (inl a) = (
    h.front,
    ap (λ l. l ++ part_of d ∷ []) h.split ∙ append_assoc h.front (map part_of old.entries) (part_of d ∷ [])
        ∙ ap (λ l. h.front ++ l) (sym (ap (map part_of) a.1 ∙ map-append part_of old.entries (d ∷ []))),
  )
  added old new d h (inr a) = (h.parts, ap (λ l. h.parts ++ l) (sym (ap (map part_of) a.1)))

  holds_added : {D : Type 0} (old new : Option (LogState D)) (d : Durable) → part_in (core_at config n (newest_first after)) ≡ Some (part_of d) → part_in (core_at config n (newest_first before)) ≢ Some (part_of d) → AddsToLog old new d → HoldsLastParts config n before old → HoldsLastParts config n after new
  holds_added None new d a b adds h = absurd adds
  holds_added (Some old) None d a b adds h = tt
  holds_added (Some old) (Some new) d a b adds h = let s = added old new d h adds.0 in record {
    parts = h.parts ++ part_of d ∷ [];
    are = grown_parts h.parts (h.parts ++ part_of d ∷ []) h.are (inr (part_of d, a, b, refl));
    front = s.0;
    split = s.1;
  }

  holds_same : {D : Type 0} (log : Option (LogState D)) → part_in (core_at config n (newest_first after)) ≡ part_in (core_at config n (newest_first before)) → HoldsLastParts config n before log → HoldsLastParts config n after log
  holds_same None e h = tt
  holds_same (Some log) e h = record {
    parts = h.parts;
    are = grown_parts h.parts h.parts h.are (inl (e, refl));
    front = h.front;
    split = h.split;
  }

  pub holds_after : {D : Type 0} (old new : Option (LogState D)) → Writes old new (part_in (core_at config n (newest_first before))) (part_in (core_at config n (newest_first after))) → HoldsLastParts config n before old → HoldsLastParts config n after new
  holds_after old new (inl w) h = subst (HoldsLastParts config n after) (sym w.1) (holds_same old w.0 h)
  holds_after old new (inr w) h = holds_added old new w.0 w.1 w.2 w.3 h
