-- A source that is read and a text that is written piece by piece.
use Rattle.std.proofs.Common.{◌≡◌, ℕ, ◌+◌, ◌-◌, ◌≤◌, ◌<◌, List, [], ◌++◌, length, take, drop, Option, Some, None, Ok, sym, ap, subst, append_assoc, ◌∙◌, arith}
use Rattle.std.proofs.Math.Seq.{take-add}
use Rattle.std.proofs.lemmas.List.{take-append-le, take_all, drop_all, length-drop, drop-drop, length-append, length-take}
use Rattle.gp_edge.specs.Reads.{Gives, GivesNext, ReadsUpTo}
use Rattle.gp_edge.specs.Writes.{AppendsFirst}

-- bytes that are told
abbrev some_of : List ℕ → Option (List ℕ)
some_of x = Some x

-- what one more call gave was read too
pub read_more : (E : Type 0) (told r0 r1 : Option (List ℕ)) (room : ℕ) (piece bytes : List ℕ) (n : ℕ) → ReadsUpTo (length bytes) told r0 bytes → GivesNext {E = E} r0 r1 room piece (Ok n) → ReadsUpTo (length (bytes ++ take n piece)) told r1 (bytes ++ take n piece)
read_more E None r0 r1 room piece bytes n sofar gives = subst (λ r. GivesNext {E = E} r r1 room piece (Ok n)) sofar gives
read_more E (Some all) r0 r1 room piece bytes n sofar gives =
    let next : Gives (drop (length bytes) all) r1 room piece n = subst (λ r. GivesNext {E = E} r r1 room piece (Ok n)) sofar.1 gives in
    let whole : bytes ++ take n piece ≡ take (length bytes + n) all = ap (λ t. bytes ++ t) next.front ∙ ap (λ t. t ++ take n (drop (length bytes) all)) sofar.0 ∙ sym (take-add (length bytes) n all) in
    let kept = length-take n (drop (length bytes) all) in
    let front = ap length next.front in
    let sum = length-append bytes (take n piece) in
    let fits = next.inside in
    let len : length (bytes ++ take n piece) ≡ length bytes + n = omega (arith, kept, front, sum, fits) in
    (rw len whole, rw len (next.behind ∙ ap some_of (drop-drop n (length bytes) all)))

-- the end was met
pub ended : (E : Type 0) (limit : ℕ) (told r0 r1 : Option (List ℕ)) (room : ℕ) (piece bytes : List ℕ) (n : ℕ) → ReadsUpTo (length bytes) told r0 bytes → GivesNext {E = E} r0 r1 room piece (Ok n) → n ≡ 0 → 0 < room → length bytes ≤ limit → ReadsUpTo limit told r1 bytes
ended E limit None r0 r1 room piece bytes n sofar gives none wide short = subst (λ r. GivesNext {E = E} r r1 room piece (Ok n)) sofar gives
ended E limit (Some all) r0 r1 room piece bytes n sofar gives none wide short =
    let next : Gives (drop (length bytes) all) r1 room piece n = subst (λ r. GivesNext {E = E} r r1 room piece (Ok n)) sofar.1 gives in
    let nothing : drop (length bytes) all ≡ [] = next.end none wide in
    let left = ap length nothing in
    let dropped = length-drop (length bytes) all in
    let le : length all ≤ length bytes = omega (arith, left, dropped) in (
      sofar.0 ∙ take_all (length bytes) all le ∙ sym (take_all limit all (omega arith)),
      next.behind ∙ ap some_of (ap (drop n) nothing ∙ drop_all n [] (omega arith) ∙ sym (drop_all limit all (omega arith))),
    )

-- the limit was met
pub at_limit : (limit : ℕ) (told left : Option (List ℕ)) (bytes : List ℕ) → ReadsUpTo (length bytes) told left bytes → length bytes ≡ limit → ReadsUpTo limit told left bytes
at_limit limit told left bytes sofar e = subst (λ k. ReadsUpTo k told left bytes) e sofar

-- the bytes at the front of a buffer are those that the call put into its part
pub piece_front : (n : ℕ) (bytes into more : List ℕ) → n ≤ length into → bytes ++ take n (into ++ more) ≡ bytes ++ take n into
piece_front n bytes into more le = ap (λ t. bytes ++ t) (take-append-le n into more le)

-- what is left of a text is all of it behind what is done
pub rest_piece : (done : ℕ) (text : List ℕ) → take (length text - done) (drop done text) ≡ drop done text
rest_piece done text = let dropped = length-drop done text in take_all (length text - done) (drop done text) (omega (arith, dropped))

-- what one more call took was written too
pub write_more : (E : Type 0) (w0 w1 w2 : Option (List ℕ)) (text : List ℕ) (done n : ℕ) → AppendsFirst {E = E} w0 w1 text (Ok done) → AppendsFirst {E = E} w1 w2 (drop done text) (Ok n) → AppendsFirst {E = E} w0 w2 text (Ok (done + n))
write_more E None w1 w2 text done n sofar next = subst (λ w. AppendsFirst {E = E} w w2 (drop done text) (Ok n)) sofar next
write_more E (Some bytes) w1 w2 text done n sofar next =
    let appended : w2 ≡ Some ((bytes ++ take done text) ++ take n (drop done text)) = subst (λ w. AppendsFirst {E = E} w w2 (drop done text) (Ok n)) sofar next in
    rw take-add (rw append_assoc at appended)
