-- The order of rounds, and the sizes of quorums.
use Rattle.std.proofs.Common.{◌≡◌, inl, inr, ◌<◌, ◌+◌, ℕ, Bool, true, false, cond, nat_lt, nat_eq, refl, ap, sym, ◌∙◌, arith}
use Rattle.std.proofs.lemmas.Bool.{ltb-true}
use Rattle.std.specs.declared.cmp.Ordering.{Ordering}
use Rattle.std.specs.declared.cmp.Ordering.TheVariants.{Equal, Less, Greater}
use Rattle.std.specs.Ordering.{nat_cmp, is_lt, ordering_then}
use Rattle.std.specs.Cmp.{tied_itself}
use Rattle.gp_round.specs.declared.round.Mode.{Mode}
use Rattle.gp_round.specs.declared.round.Mode.TheVariants.{Single, Multi, Fast}
use Rattle.gp_round.specs.declared.round.Round.{Round}
use Rattle.gp_round.specs.Rounds.{earlier, mode_number, round_cmp, round_cmp_total, round_zero, is_fast}
use Rattle.gp_round.specs.Configs.{majority, quorum_size}
use Rattle.gp_round.proofs.Counting.{quorum_with_first}
use Rattle.gp_round.proofs.Orders.{same_rounds, is_Less}
use Rattle.gp_cstructs.specs.Safety.{IsOrder, QuorumSizes}
use Rattle.gp_cstructs.proofs.Lists.{bool_cases}

-- ---- the order

never_itself : (i : Round) → earlier i i ≡ true → ⊥
never_itself i h = let e : false ≡ true = sym (ap is_lt (tied_itself round_cmp_total i)) ∙ h in cc

pub rounds_order : IsOrder (λ i j. earlier i j ≡ true)
rounds_order = record {
  transitive = λ i j k a b. ap is_lt (round_cmp_total.trans i j k (is_Less (round_cmp i j) a) (is_Less (round_cmp j k) b));
  irreflexive = never_itself;
  total = λ i j. elim (bool_cases (earlier i j)) [
    | inl a ↦ inl a
    | inr a ↦ elim (bool_cases (earlier j i)) [ inl b ↦ inr (inr b) | inr b ↦ inr (inl (same_rounds i j a b)) ]
  ];
}

lt_then : (o p : Ordering) → is_lt (ordering_then o p) ≡ true → is_lt o ≡ false → is_lt p ≡ true
lt_then Equal p h e = h
lt_then Less p h e = cc
lt_then Greater p h e = cc

lt_is : (b e : Bool) → is_lt (cond b Less (cond e Equal Greater)) ≡ b
lt_is true e = refl
lt_is false true = refl
lt_is false false = refl

none_below_zero : (n : ℕ) → is_lt (nat_cmp n 0) ≡ false
none_below_zero n = elim (bool_cases (nat_lt n 0)) [
  | inl e ↦ absurd (omega (arith, ltb-true n 0 e))
  | inr e ↦ lt_is (nat_lt n 0) (nat_eq n 0) ∙ e
]

pub zero_least : (r : Round) → earlier r round_zero ≡ true → ⊥
zero_least r h =
    let mode_or_lead = lt_then (nat_cmp r.count 0) (ordering_then (nat_cmp (mode_number r.mode) 0) (nat_cmp r.lead 0)) h (none_below_zero r.count) in
    let lead = lt_then (nat_cmp (mode_number r.mode) 0) (nat_cmp r.lead 0) mode_or_lead (none_below_zero (mode_number r.mode)) in
    let none = none_below_zero r.lead in
    cc

-- ---- quorums

-- quorums meet, whatever the number of acceptors
pub sizes_meet : (n : ℕ) → 0 < n → QuorumSizes (λ (r : Round). is_fast r.mode) n (majority n) (λ r. quorum_size n r.mode)
sizes_meet n some = record {
  with_itself = λ r. with_itself r.mode;
  with_first = λ r. quorum_with_first n r.mode;
  fast_twice = λ r f. fast_twice r.mode f;
}
  where
    with_itself : (m : Mode) → n < quorum_size n m + quorum_size n m
    with_itself Single = omega arith
    with_itself Multi = omega arith
    with_itself Fast = omega arith

    fast_twice : (m : Mode) → is_fast m ≡ true → n + n < quorum_size n m + quorum_size n m + majority n
    fast_twice Single f = cc
    fast_twice Multi f = cc
    fast_twice Fast f = omega arith
