-- Places of a list of records, and what one node did before them.
use Rattle.std.proofs.Common.{◌≡◌, ◌⊎◌, ℕ, zero, suc, ◌<◌, true, false, cond, List, [], ◌∷◌, ◌++◌, length, map, take, drop, refl, sym, ap, ◌∙◌, subst, arith, inl, inr, Some, None, append_assoc, take-append-drop}
use Rattle.std.specs.Prelude.{slice_get}
use Rattle.std.proofs.lemmas.List.{map-append}
use Rattle.std.proofs.lemmas.Bool.Decides.{eqb_tells}
use Rattle.gp_round.specs.Counts.{Counts}
use Rattle.gp_msg.specs.declared.node.Node.{Node}
use Rattle.gp_msg.specs.declared.event.Event.{Event}
use Rattle.gp_msg.specs.declared.event.Event.TheVariants.{Offer, Begin, Take, Fall}
use Rattle.gp_msg.specs.declared.record.Record.{Record}
use Rattle.gp_msg.specs.Messages.{Entry, entry_of}
use Rattle.gp_run.specs.Legal.{Legal, Follows}
use Rattle.gp_run.specs.Runs.{newest_first}
use Rattle.gp_run.proofs.Telling.{entries-push}
use Rattle.gp_wire.specs.Own.{own, own_events, event_in}
use Rattle.gp_msg.specs.Nodes.{same_node}
use Rattle.gp_wire.proofs.SameNodes.{same_tells}
use Rattle.gp_wire.proofs.OwnRecords.{own_append}
use Rattle.gp_cell.specs.Still.{entries_append}
use Rattle.gp_phase.specs.Deeds.{besides, others_in}

-- ---- a place cuts a list

pub get_drop : {X : Type 0} (xs : List X) (k : ℕ) (x : X) → slice_get xs k ≡ Some x → drop k xs ≡ x ∷ drop (suc k) xs
get_drop [] k x e = absurd (cc)
get_drop (y ∷ xs) zero x e = ap (λ z. z ∷ xs) (let is : y ≡ x = cc in is)
get_drop (y ∷ xs) (suc k) x e = get_drop xs k x e

pub none_take : {X : Type 0} (xs : List X) (k : ℕ) → slice_get xs k ≡ None → (take (suc k) xs ≡ take k xs) × (drop (suc k) xs ≡ drop k xs)
none_take [] zero e = (refl, refl)
none_take [] (suc k) e = (refl, refl)
none_take (y ∷ xs) zero e = absurd (cc)
none_take (y ∷ xs) (suc k) e = let h = none_take xs k e in (ap (λ l. y ∷ l) h.0, h.1)

pub get_place : {X : Type 0} (xs : List X) (x : X) (ys : List X) → slice_get (xs ++ x ∷ ys) (length xs) ≡ Some x
get_place [] x ys = refl
get_place (z ∷ xs) x ys = get_place xs x ys

pub take_place : {X : Type 0} (xs ys : List X) → take (length xs) (xs ++ ys) ≡ xs
take_place [] ys = refl
take_place (x ∷ xs) ys = ap (λ l. x ∷ l) (take_place xs ys)

pub split_place : {X : Type 0} (xs : List X) (k : ℕ) (x : X) → slice_get xs k ≡ Some x → xs ≡ take k xs ++ x ∷ drop (suc k) xs
split_place xs k x e = sym (take-append-drop k xs) ∙ ap (λ l. take k xs ++ l) (get_drop xs k x e)

-- either before the last, or the last
pub last_within : (i k : ℕ) → i < suc k → (i < k) ⊎ (i ≡ k)
last_within i k l = elim (eqb_tells i k) [ inl t ↦ inr t.1 | inr t ↦ inl (omega (arith, l, t.1)) ]

-- ---- legal beginnings

legal_rest : (config : Counts) (xs ys : List Entry) → Legal config (xs ++ ys) → Legal config ys
legal_rest config [] ys l = l
legal_rest config (x ∷ xs) ys l = legal_rest config xs ys l.0

pub legal_before : (config : Counts) (pre post : List Record) → Legal config (newest_first (pre ++ post)) → Legal config (newest_first pre)
legal_before config pre post l = legal_rest config (newest_first post) (newest_first pre) (subst (Legal config) (entries_append pre post) l)

pub follows_there : (config : Counts) (pre post : List Record) (x : Record) → Legal config (newest_first (pre ++ x ∷ post)) → Follows config (newest_first pre) (entry_of x)
follows_there config pre post x l =
    let here : Legal config (newest_first (pre ++ x ∷ [])) = legal_before config (pre ++ x ∷ []) post (subst (λ r. Legal config (newest_first r)) (sym (append_assoc pre (x ∷ []) post)) l) in
    (subst (Legal config) (entries-push pre x) here).1

-- ---- the events of one node

pub own_here : (n : Node) (x : Record) (xs : List Record) → same_node n x.node ≡ true → own n (x ∷ xs) ≡ x ∷ own n xs
own_here n x xs t = ap (λ b. cond b (x ∷ own n xs) (own n xs)) t

pub own_else : (n : Node) (x : Record) (xs : List Record) → same_node n x.node ≡ false → own n (x ∷ xs) ≡ own n xs
own_else n x xs t = ap (λ b. cond b (x ∷ own n xs) (own n xs)) t

pub events_append : (n : Node) (xs ys : List Record) → own_events n (xs ++ ys) ≡ own_events n xs ++ own_events n ys
events_append n xs ys = ap (map event_in) (own_append n xs ys) ∙ map-append event_in (own n xs) (own n ys)

pub events_here : (n : Node) (x : Record) (xs : List Record) → same_node n x.node ≡ true → own_events n (x ∷ xs) ≡ x.event ∷ own_events n xs
events_here n x xs t = ap (map event_in) (own_here n x xs t)

pub events_else : (n : Node) (x : Record) (xs : List Record) → same_node n x.node ≡ false → own_events n (x ∷ xs) ≡ own_events n xs
events_else n x xs t = ap (map event_in) (own_else n x xs t)

pub head_is : {X : Type 0} {x y : X} {xs ys : List X} → x ∷ xs ≡ y ∷ ys → x ≡ y
head_is e = cc

pub tail_is : {X : Type 0} {x y : X} {xs ys : List X} → x ∷ xs ≡ y ∷ ys → xs ≡ ys
tail_is e = cc

pub cons_not_nil : {X : Type 0} {x : X} {xs : List X} → x ∷ xs ≡ [] → ⊥
cons_not_nil e = cc

-- the event is no take
abbrev pub IsDeed : Event → Type 0
IsDeed e = besides e ≡ e ∷ []

others_cancel : (e : Event) (us vs : List Event) → others_in (e ∷ us) ≡ others_in (e ∷ vs) → others_in us ≡ others_in vs
others_cancel (Offer p d) us vs h = tail_is h
others_cancel (Begin c r) us vs h = tail_is h
others_cancel (Take n k) us vs h = h
others_cancel (Fall n kept) us vs h = tail_is h

deed_first : (e : Event) (us : List Event) → IsDeed e → others_in (e ∷ us) ≡ [] → ⊥
deed_first e us d h = cons_not_nil (sym (ap (λ l. l ++ others_in us) d) ∙ h)

-- where as many deeds stand before two deeds of a list, the same events do
pub same_before : (us vs cs ds : List Event) (c d : Event) → IsDeed c → IsDeed d → others_in us ≡ others_in vs → us ++ c ∷ cs ≡ vs ++ d ∷ ds → us ≡ vs
same_before [] [] cs ds c d pc pd o e = refl
same_before [] (b ∷ vs) cs ds c d pc pd o e = absurd (deed_first b vs (subst IsDeed (head_is e) pc) (sym o))
same_before (a ∷ us) [] cs ds c d pc pd o e = absurd (deed_first a us (subst IsDeed (sym (head_is e)) pd) o)
same_before (a ∷ us) (b ∷ vs) cs ds c d pc pd o e =
    let first : a ≡ b = head_is e in
    let more : others_in (a ∷ us) ≡ others_in (a ∷ vs) = o ∙ ap (λ x. others_in (x ∷ vs)) (sym first) in
    (λ i. first i ∷ same_before us vs cs ds c d pc pd (others_cancel a us vs more) (tail_is e) i)

-- a deed among events is one of their others
pub deed_inside : (us vs : List Event) (e : Event) → IsDeed e → others_in (us ++ e ∷ vs) ≡ [] → ⊥
deed_inside [] vs e d h = deed_first e vs d h
deed_inside (Offer p x ∷ us) vs e d h = cons_not_nil h
deed_inside (Begin c r ∷ us) vs e d h = cons_not_nil h
deed_inside (Take n k ∷ us) vs e d h = deed_inside us vs e d h
deed_inside (Fall n kept ∷ us) vs e d h = cons_not_nil h

-- ---- two beginnings of a list before which one node did the same

no_events : (n : Node) (xs : List Record) → own_events n xs ≡ [] → own n xs ≡ []
no_events n xs e = by_list (own n xs) e
  where
    by_list : (rs : List Record) → map event_in rs ≡ [] → rs ≡ []
    by_list [] e = refl
    by_list (r ∷ rs) e = absurd (cons_not_nil e)

-- the records between the one and the other, of which none is of the node
pub record Gap (n : Node) (pre seen : List Record) : Type 0 where
  pub gap : List Record
  pub split : pre ≡ seen ++ gap
  pub same : own n pre ≡ own n seen

gap_on : (n : Node) (z y : Record) (pre seen : List Record) → z ≡ y → Gap n pre seen → Gap n (z ∷ pre) (y ∷ seen)
gap_on n z y pre seen e g = record {
  gap = g.gap;
  split = λ i. e i ∷ g.split i;
  same = λ i. cond (same_node n (e i).node) (e i ∷ g.same i) (g.same i);
}

pub gap_between : (n : Node) (pre post seen more : List Record) (x : Record) → same_node n x.node ≡ true → pre ++ x ∷ post ≡ seen ++ more → own_events n pre ≡ own_events n seen → Gap n pre seen
gap_between n pre post [] more x t e o = record { gap = pre; split = refl; same = no_events n pre o }
gap_between n [] post (y ∷ seen) more x t e o =
    absurd (cons_not_nil (sym (events_here n y seen (ap (λ (r : Record). same_node n r.node) (sym (head_is e)) ∙ t)) ∙ sym o))
gap_between n (z ∷ pre) post (y ∷ seen) more x t e o = elim (same_tells n y.node) [
  | inl here ↦ gap_on n z y pre seen first (gap_between n pre post seen more x t (tail_is e) (tail_is (sym (events_here n z pre (ap (λ (r : Record). same_node n r.node) first ∙ here.0)) ∙ o ∙ events_here n y seen here.0)))
  | inr else ↦ gap_on n z y pre seen first (gap_between n pre post seen more x t (tail_is e) (sym (events_else n z pre (ap (λ (r : Record). same_node n r.node) first ∙ else.0)) ∙ o ∙ events_else n y seen else.0))
]
  where
    first : z ≡ y
    first = head_is e
