use Rattle.std.proofs.Common.{◌≡◌, ◌≢◌, ℕ, zero, suc, ◌<◌, List, [], ◌∷◌, length, true, Some, sym, ap, ◌∙◌, ◌⊎◌, inl, inr, arith}
use Rattle.std.specs.Prelude.{slice_get}
use Rattle.std.specs.List.{list_any}
use Rattle.std.proofs.lemmas.Bool.{true≢false, false≢true, cases_order}
use Rattle.gp_command.specs.declared.command.Command.{Command}
use Rattle.gp_command.specs.Conflict.{same}
use Rattle.gp_command.proofs.ConflictLemmas.{same-true}
use Rattle.gp_history.specs.Sequence.{history_of, no_repeat, place}
use Rattle.gp_history.proofs.Places.{at_in, place_is}
use Rattle.gp_history.proofs.Sets.{has_history_of}
use Rattle.gp_history.proofs.Tests.{In, one_of}
use Rattle.gp_replica.specs.Runs.{HasDistinctIds}
use Rattle.gp_replica.proofs.identities.has_distinct_ids.Goals as goal

-- where a command stands
record Stands (xs : List Command) (c : Command) : Type 0 where
  place : ℕ
  within : place < length xs
  is : slice_get xs place ≡ Some c

stands : (xs : List Command) (c : Command) → In xs c → Stands xs c
stands [] c i = absurd (true≢false (sym i))
stands (x ∷ xs) c i = one_of (same c x) (list_any (same c) xs) i
    (λ s. record { place = zero; within = omega arith; is = ap Some (sym (same-true c x s)) })
    (λ more. let k = stands xs c more in let lt = k.within in record { place = suc k.place; within = omega (arith, lt); is = k.is })

-- no two commands before place n have one identity
abbrev IsApart : List Command → ℕ → Type 0
IsApart xs n = (i k : ℕ) (c d : Command) → i < k → k < n → slice_get xs i ≡ Some c → slice_get xs k ≡ Some d → c.id ≢ d.id

distinct_ids : (xs : List Command) → IsApart xs (length xs) → HasDistinctIds (history_of xs)
distinct_ids xs apart c d i j e =
    alike (stands xs c (sym (has_history_of xs c) ∙ i)) (stands xs d (sym (has_history_of xs d) ∙ j)) where
      by_order : (p : Stands xs c) (q : Stands xs d) → (p.place ≡ q.place) ⊎ ((p.place < q.place) ⊎ (q.place < p.place)) → c ≡ d
      by_order p q (inl at) = let is : Some c ≡ Some d = sym p.is ∙ ap (slice_get xs) at ∙ q.is in cc
      by_order p q (inr (inl lt)) = absurd (apart p.place q.place c d lt q.within p.is q.is e)
      by_order p q (inr (inr lt)) = absurd (apart q.place p.place d c lt p.within q.is p.is (sym e))

      alike : Stands xs c → Stands xs d → c ≡ d
      alike p q = by_order p q (cases_order p.place q.place)

-- two places with one identity have one command, which stands at one place
not_distinct : (xs : List Command) (i k : ℕ) (c d : Command) → no_repeat xs ≡ true → i < k → slice_get xs i ≡ Some c → slice_get xs k ≡ Some d → c.id ≡ d.id → HasDistinctIds (history_of xs) → ⊥
not_distinct xs i k c d apart lt a b e distinct =
    let one = distinct c d (has_history_of xs c ∙ at_in xs i c a) (has_history_of xs d ∙ at_in xs k d b) e in
    let first = place_is xs i c apart a in
    let second = place_is xs k d apart b in
    let same_place = sym first ∙ ap (place xs) one ∙ second in
    absurd (omega (arith, lt, same_place))

pub returns-then-is_taken : goal.returns-then-is_taken
returns-then-is_taken c =
    let taken = c.is_taken.ensures.0 c.if-is_taken.true in
    let d = c.at.result.now in
    record {
      distinct = λ no. absurd (false≢true no);
      repeated = λ _ distinct. absurd (not_distinct c.args.learned.now taken.0 c.loop-place.place taken.2.command d c.len-place-end.ensures.distinct taken.1 taken.2.there c.at.ensures (taken.2.named ∙ c.id.ensures) distinct);
    }

pub returns : goal.returns
returns c = record {
  distinct = λ _. distinct_ids c.args.learned.now (λ i k d e lt end. c.loop-place.invariant i k d e lt (omega (arith, end)));
  repeated = λ no. absurd (true≢false no);
}
