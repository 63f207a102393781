-- Sums that wrap.
use Rattle.std.proofs.Common.{◌≡◌, ℕ, ◌+◌, ◌%◌, ◌<◌, List, [], ◌∷◌, sym, ap, ◌∙◌, map, arith}
use Rattle.std.specs.Prelude.{sum}
use Rattle.std.proofs.lemmas.List.Sums.{sum_by-cons}
use Rattle.std.proofs.Math.Nat.{mod-add-mod, mod-eq_of_lt}

-- the sum of the values
abbrev pub total : List (List ℕ × ℕ) → ℕ
total pairs = sum (map (λ pair. pair.1) pairs)

total_more : (key : List ℕ) (value : ℕ) (more : List (List ℕ × ℕ)) → total ((key, value) ∷ more) ≡ value + total more
total_more key value more = sum_by-cons (λ n. n) value (map (λ pair. pair.1) more)

-- one more value wraps round as the whole sum does
pub wraps_next : (m so_far next value all : ℕ) (rest more : List (List ℕ × ℕ)) (key : List ℕ) → rest ≡ (key, value) ∷ more → next ≡ (so_far + value) % m
    → (so_far + total rest) % m ≡ all → (next + total more) % m ≡ all
wraps_next m so_far next value all rest more key is wrapped before =
    let regrouped : (so_far + value) + total more ≡ so_far + (value + total more) = omega arith in
    ap (λ n. (n + total more) % m) wrapped
    ∙ mod-add-mod (so_far + value) m (total more)
    ∙ ap (λ n. n % m) regrouped
    ∙ sym (ap (λ n. (so_far + n) % m) (ap total is ∙ total_more key value more))
    ∙ before

-- at the end the sum is that of all
pub wraps_ended : (m so_far all : ℕ) (rest : List (List ℕ × ℕ)) → rest ≡ [] → so_far < m → (so_far + total rest) % m ≡ all → so_far ≡ all
wraps_ended m so_far all rest is below before =
    sym (mod-eq_of_lt below)
    ∙ ap (λ n. n % m) (omega arith)
    ∙ sym (ap (λ pairs. (so_far + total pairs) % m) is)
    ∙ before
