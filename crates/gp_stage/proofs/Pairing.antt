-- Two cells of a list meet.
use Rattle.std.proofs.Common.{◌≡◌, ◌≢◌, ℕ, ◌-◌, ◌<◌, List, ◌++◌, length, slice_get, slice_set, Bool, true, false, refl, sym, ap, ◌∙◌, subst, arith, Some}
use Rattle.std.specs.Prelude.{nat_lt}
use Rattle.std.proofs.lemmas.Bool.{ltb-true, ltb-false}
use Rattle.gp_wire.specs.Rule.{Begins}
use Rattle.gp_wire.specs.Known.{PassState, old_of}
use Rattle.gp_wire.specs.Passes.{met, spent}
use Rattle.gp_cell.specs.Cells.{CellState, cell_of, IsSameBut}
use Rattle.gp_stage.specs.Held.{with_pass}
use Rattle.gp_stage.specs.Gathered.{HasMet}
use Rattle.gp_stage.proofs.Places.{set_here, set_other, set_length, front_at, back_at}

module _ {D : Type 0} where
  with_same : (a b : CellState D) (p : PassState) → IsSameBut a b → b.pass ≡ p → b ≡ with_pass a p
  with_same a b p s e = λ i. cell_of (s.0 i) (s.1 i) (s.2 i) (s.3 i) (e i) (s.4 i)

  pub has_met : (old new : List (CellState D)) (at other : ℕ) (one two one' two' : CellState D) → slice_get old at ≡ Some one → slice_get old other ≡ Some two → slice_get new at ≡ Some one' → slice_get new other ≡ Some two'
      → ((i : ℕ) → i ≢ at → i ≢ other → slice_get new i ≡ slice_get old i) → IsSameBut one one' → IsSameBut two two' → one'.pass ≡ met one.pass two.pass → two'.pass ≡ spent two.pass
      → Begins one'.pass.seen (old_of one.pass) → Begins one'.pass.seen (old_of two.pass) → HasMet old new at other
  has_met old new at other one two one' two' a b here there others rest rest_too pass spent_is first second = record {
    one = one;
    one_is = a;
    two = two;
    two_is = b;
    here = here ∙ ap Some (with_same one one' (met one.pass two.pass) rest pass);
    there = there ∙ ap Some (with_same two two' (spent two.pass) rest_too spent_is);
    others = others;
    first = subst (λ (p : PassState). Begins p.seen (old_of one.pass)) pass first;
    second = subst (λ (p : PassState). Begins p.seen (old_of two.pass)) pass second;
  }

  module _ (old front back : List (CellState D)) (mid : ℕ) (split : old ≡ front ++ back) (long : length front ≡ mid) where
    pub front_is : (i : ℕ) → i < mid → slice_get old i ≡ slice_get front i
    front_is i l = ap (λ xs. slice_get xs i) split ∙ front_at front back i (omega (arith, long, l))

    pub back_is : slice_get old mid ≡ slice_get back 0
    back_is = ap (λ xs. slice_get xs mid) split ∙ back_at front back mid 0 (omega (arith, long))

    module _ (i : ℕ) (x y : CellState D) (l : i < mid) where
      pub new_front : slice_get (slice_set front i x ++ slice_set back 0 y) i ≡ Some x
      new_front = front_at (slice_set front i x) (slice_set back 0 y) i (let s = set_length front i x in omega (arith, long, l, s)) ∙ set_here front i x (omega (arith, long, l))

      pub new_back : 0 < length back → slice_get (slice_set front i x ++ slice_set back 0 y) mid ≡ Some y
      new_back some = back_at (slice_set front i x) (slice_set back 0 y) mid 0 (let s = set_length front i x in omega (arith, long, s)) ∙ set_here back 0 y some

      pub new_other : (k : ℕ) → k ≢ i → k ≢ mid → slice_get (slice_set front i x ++ slice_set back 0 y) k ≡ slice_get old k
      new_other k n m = by_test (nat_lt k mid) refl
        where
          by_test : (b : Bool) → nat_lt k mid ≡ b → slice_get (slice_set front i x ++ slice_set back 0 y) k ≡ slice_get old k
          by_test true e = let l = ltb-true k mid e in
              front_at (slice_set front i x) (slice_set back 0 y) k (let s = set_length front i x in omega (arith, long, l, s)) ∙ set_other front i k x n ∙ sym (front_is k l)
          by_test false e = let l = ltb-false k mid e in
              back_at (slice_set front i x) (slice_set back 0 y) k (k - mid) (let s = set_length front i x in omega (arith, long, l, s)) ∙ set_other back 0 (k - mid) y (λ z. m (omega (arith, z, l)))
              ∙ sym (ap (λ xs. slice_get xs k) split ∙ back_at front back k (k - mid) (omega (arith, long, l)))
