-- The places of messages: message k is found by its place, and a new record moves none.
use Rattle.std.proofs.Common.{◌≡◌, ℕ, zero, suc, ◌<◌, ◌≤◌, List, [], ◌∷◌, ◌++◌, length, map, take, refl, sym, ap, ◌∙◌, arith, Some, None, Option}
use Rattle.std.specs.Prelude.{slice_get}
use Rattle.std.proofs.lemmas.List.{append-nil, map-append}
use Rattle.std.proofs.lemmas.Grind.{flat_map-append}
use Rattle.gp_msg.specs.declared.message.Msg.{Msg}
use Rattle.gp_msg.specs.declared.record.Record.{Record}
use Rattle.gp_wire.specs.declared.indexed.Place.{Place}
use Rattle.gp_msg.specs.Records.{messages_in}
use Rattle.gp_wire.specs.Places.{out_at, at_place, message_at, place, places_to, all_there}

as_many_places : (records : List Record) (places : List Place) (ms : List Msg) → map (at_place records) places ≡ all_there ms → length places ≡ length ms
as_many_places records [] [] e = refl
as_many_places records [] (m ∷ ms) e = cc
as_many_places records (p ∷ places) [] e = cc
as_many_places records (p ∷ places) (m ∷ ms) e = let t : map (at_place records) places ≡ all_there ms = cc in ap suc (as_many_places records places ms t)

found_by : (records : List Record) (places : List Place) (ms : List Msg) (k : ℕ) → map (at_place records) places ≡ all_there ms → message_at records (slice_get places k) ≡ slice_get ms k
found_by records [] [] k e = refl
found_by records [] (m ∷ ms) k e = cc
found_by records (p ∷ places) [] k e = cc
found_by records (p ∷ places) (m ∷ ms) zero e = let h : at_place records p ≡ Some m = cc in h
found_by records (p ∷ places) (m ∷ ms) (suc k) e = let t : map (at_place records) places ≡ all_there ms = cc in found_by records places ms k t

-- as many places as messages
pub as_many : (records : List Record) (places : List Place) → map (at_place records) places ≡ all_there (messages_in records) → length places ≡ length (messages_in records)
as_many records places e = as_many_places records places (messages_in records) e

-- message k stands at place k
pub found_at : (records : List Record) (places : List Place) (k : ℕ) → map (at_place records) places ≡ all_there (messages_in records) → message_at records (slice_get places k) ≡ slice_get (messages_in records) k
found_at records places k e = found_by records places (messages_in records) k e

-- ---- one more record

get_still : (records : List Record) (r x : Record) (i : ℕ) → slice_get records i ≡ Some x → slice_get (records ++ r ∷ []) i ≡ Some x
get_still [] r x i e = cc
get_still (y ∷ records) r x zero e = e
get_still (y ∷ records) r x (suc i) e = get_still records r x i e

there_still : (records : List Record) (r : Record) (i at : ℕ) (o : Option Record) (m : Msg) → slice_get records i ≡ o → out_at o at ≡ Some m → out_at (slice_get (records ++ r ∷ []) i) at ≡ Some m
there_still records r i at None m e h = cc
there_still records r i at (Some x) m e h = ap (λ o. out_at o at) (get_still records r x i e) ∙ h

still_placed : (records : List Record) (r : Record) (places : List Place) (ms : List Msg) → map (at_place records) places ≡ all_there ms → map (at_place (records ++ r ∷ [])) places ≡ all_there ms
still_placed records r [] [] e = refl
still_placed records r [] (m ∷ ms) e = cc
still_placed records r (p ∷ places) [] e = cc
still_placed records r (p ∷ places) (m ∷ ms) e =
    let h : at_place records p ≡ Some m = cc in
    let t : map (at_place records) places ≡ all_there ms = cc in
    λ i. there_still records r p.index p.at (slice_get records p.index) m refl h i ∷ still_placed records r places ms t i

pub messages-push : (records : List Record) (r : Record) → messages_in (records ++ r ∷ []) ≡ messages_in records ++ r.out
messages-push records r = flat_map-append (λ x. x.out) records (r ∷ []) ∙ ap (λ xs. messages_in records ++ xs) (append-nil r.out)

get_new : (records : List Record) (r : Record) → slice_get (records ++ r ∷ []) (length records) ≡ Some r
get_new [] r = refl
get_new (x ∷ records) r = get_new records r

take_next : (ms : List Msg) (n : ℕ) → n < length ms → all_there (take (suc n) ms) ≡ all_there (take n ms) ++ slice_get ms n ∷ []
take_next [] n l = absurd (none l) where
  none : n < 0 → ⊥
  none l = omega (arith, l)
take_next (m ∷ ms) zero l = refl
take_next (m ∷ ms) (suc n) l = ap (λ xs. Some m ∷ xs) (take_next ms n (omega (arith, l)))

-- the places of the first messages of the new record
new_places : (records : List Record) (r : Record) (n : ℕ) → n ≤ length r.out → map (at_place (records ++ r ∷ [])) (places_to (length records) n) ≡ all_there (take n r.out)
new_places records r zero l = refl
new_places records r (suc n) l =
    map-append (at_place (records ++ r ∷ [])) (places_to (length records) n) (place (length records) n ∷ [])
    ∙ (λ i. new_places records r n (omega (arith, l)) i ++ ap (λ o. out_at o n) (get_new records r) i ∷ [])
    ∙ sym (take_next r.out n (omega (arith, l)))

take_whole : (ms : List Msg) → take (length ms) ms ≡ ms
take_whole [] = refl
take_whole (m ∷ ms) = ap (λ xs. m ∷ xs) (take_whole ms)

pub placed : (records : List Record) (r : Record) (places : List Place) (n k : ℕ) → n ≡ length records → k ≡ length r.out → map (at_place records) places ≡ all_there (messages_in records)
    → map (at_place (records ++ r ∷ [])) (places ++ places_to n k) ≡ all_there (messages_in (records ++ r ∷ []))
placed records r places n k is size e =
    map-append (at_place (records ++ r ∷ [])) places (places_to n k)
    ∙ (λ i. still_placed records r places (messages_in records) e i ++ new n k is size i)
    ∙ sym (map-append (λ m. Some m) (messages_in records) r.out)
    ∙ ap all_there (sym (messages-push records r)) where
      new : (n k : ℕ) → n ≡ length records → k ≡ length r.out → map (at_place (records ++ r ∷ [])) (places_to n k) ≡ all_there r.out
      new n k is size = (λ i. map (at_place (records ++ r ∷ [])) (places_to (is i) (size i))) ∙ new_places records r (length r.out) (omega arith) ∙ ap all_there (take_whole r.out)
