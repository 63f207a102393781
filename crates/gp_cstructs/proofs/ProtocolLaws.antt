-- The tables over lawful c-structs keep what the proof asks of them.
use Rattle.std.proofs.Common.{◌≡◌, inl, inr, ◌<◌, ◌+◌, ℕ, Bool, true, false, cond, ◌&&◌, nat_eq, nat_lt, [], refl, sym, subst, ap, ◌∙◌, arith, Option, Some, None}
use Rattle.std.proofs.lemmas.Bool.{eqb-true, eq-eqb, ltb-true}
use Rattle.gp_round.specs.declared.round.Mode.{Mode}
use Rattle.gp_round.specs.declared.round.Mode.TheVariants.{Single, Multi, Fast}
use Rattle.gp_round.specs.Configs.{majority, quorum_size}
use Rattle.gp_round.specs.Sets.{bit, masks, members}
use Rattle.gp_round.proofs.Orders.{same_round_is, same_round_itself}
use Rattle.gp_cstructs.specs.CStructs.{Among, BoundLaws, Operations, Laws}
use Rattle.gp_cstructs.specs.Lawful.{IsMeet, IsLawful}
use Rattle.gp_cstructs.specs.Meets.{add_meet, quorum_meets, everyone}
use Rattle.gp_round.specs.Quorums.{coordinator_quorum_of, IsCoordinatorQuorum}
use Rattle.gp_cstructs.specs.Protocol.{coordinator_meets_by, protocol}
use Rattle.gp_cstructs.proofs.Lists.{bool_cases, and_split, and_both}
use Rattle.gp_cstructs.proofs.Subsets.{two_share, set_mask, kept_size}
use Rattle.gp_cstructs.proofs.Orders.{rounds_order, zero_least, sizes_meet}
use Rattle.gp_cstructs.proofs.QuorumMeets.{meets_only, meets_each, meet_same}
use Rattle.gp_cstructs.proofs.ChoiceLaws.{choices_are}

and_true : (b : Bool) → (b && true) ≡ b
and_true true = refl
and_true false = refl

leaders_share : (c : ℕ) (d : Mode) (lead : ℕ) (R S : ℕ → Bool) → coordinator_quorum_of c d lead R → coordinator_quorum_of c d lead S → (i : ℕ) × (i < c) × (R i ≡ true) × (S i ≡ true)
leaders_share c Single lead R S a b = (lead, a.0, a.1, b.1)
leaders_share c Fast lead R S a b = (lead, a.0, a.1, b.1)
leaders_share c Multi lead R S a b = two_share R S c (omega (arith, a, b))

module _ {V : Type 0} {prefix : V → V → Type 0} {empty : V} {meet join : V → V → V} (l : BoundLaws prefix empty meet join) where
  -- what the lead sent is the meet of one value
  meet_of_one : (c lead : ℕ) (f : ℕ → Option V) (v : V) → lead < c → f lead ≡ Some v → IsMeet prefix c f (λ i. nat_eq i lead) v
  meet_of_one c lead f v h e = record {
    all = λ i a t. (v, ap f (eqb-true i lead t) ∙ e, l.reflexive v);
    greatest = λ z k. k lead v h (eq-eqb lead lead refl) e;
  }

  lead_by : (c lead : ℕ) (f : ℕ → Option V) (o : Option V) → lead < c → f lead ≡ o → (m : V) → Among (add_meet o []) m → (R : ℕ → Bool) × ((lead < c) × (R lead ≡ true)) × IsMeet prefix c f R m
  lead_by c lead f None h e m p = elim p [ ]
  lead_by c lead f (Some v) h e m p = elim p [
    | inl g ↦ ((λ i. nat_eq i lead), (h, eq-eqb lead lead refl), subst (λ (x : V). IsMeet prefix c f (λ i. nat_eq i lead) x) g (meet_of_one c lead f v h e))
    | inr n ↦ elim n [ ]
  ]

  lead_only : (c lead : ℕ) (f : ℕ → Option V) (m : V) → Among (add_meet (cond (nat_lt lead c) (f lead) None) []) m → (R : ℕ → Bool) × ((lead < c) × (R lead ≡ true)) × IsMeet prefix c f R m
  lead_only c lead f m p = elim (bool_cases (nat_lt lead c)) [
    | inl b ↦ lead_by c lead f (f lead) (ltb-true lead c b) refl m (rw b at p)
    | inr b ↦ elim (rw b at p) [ ]
  ]

  mask_only : (n size : ℕ) (f : ℕ → Option V) (m : V) → Among (quorum_meets meet f everyone n (masks n size)) m → (R : ℕ → Bool) × (members R n ≡ size) × IsMeet prefix n f R m
  mask_only n size f m p =
      let r = meets_only l f everyone n (masks n size) m p in
      (bit r.0, kept_size n size r.0 r.1, meet_same prefix f n (λ i. bit r.0 i && true) (bit r.0) (λ i a. and_true (bit r.0 i)) m r.2)

  mode_only : (c : ℕ) (d : Mode) (lead : ℕ) (f : ℕ → Option V) (m : V) → Among (coordinator_meets_by meet c d lead f) m → (R : ℕ → Bool) × coordinator_quorum_of c d lead R × IsMeet prefix c f R m
  mode_only c Single lead f m p = lead_only c lead f m p
  mode_only c Fast lead f m p = lead_only c lead f m p
  mode_only c Multi lead f m p = let r = mask_only c (majority c) f m p in (r.0, omega (arith, r.1), r.2)

  mask_each : (n size : ℕ) (f : ℕ → Option V) (R : ℕ → Bool) → n < size + size → members R n ≡ size → ((i : ℕ) → i < n → R i ≡ true → (v : V) × (f i ≡ Some v))
      → (m : V) × Among (quorum_meets meet f everyone n (masks n size)) m × IsMeet prefix n f R m
  mask_each n size f R large e held =
      let m = set_mask R n size e in
      let s = two_share R R n (omega (arith, e, large)) in
      let t = meets_each l f everyone n (masks n size) m.0 m.1 (λ i b g. held i b (sym (m.2 i b) ∙ (and_split (bit m.0 i) true g).0)) s.0 s.1 (and_both (bit m.0 s.0) true (m.2 s.0 s.1 ∙ s.2) refl) in
      (t.0, t.1, meet_same prefix f n (λ i. bit m.0 i && true) R (λ i b. and_true (bit m.0 i) ∙ m.2 i b) t.0 t.2)

pub lawful : {V C D : Type 0} (o : Operations V C D) → Laws o → (a c : ℕ) → 0 < a → IsLawful (protocol o a c) (IsCoordinatorQuorum c)
lawful o l a c some = record {
  bounds = l.bounds;
  push_extends = l.push_extends;
  prefix_as_long = l.prefix_as_long;
  order = rounds_order;
  same_tells = same_round_is;
  same_itself = same_round_itself;
  zero_least = zero_least;
  zero_not_fast = refl;
  sizes = sizes_meet a some;
  leaders_share = λ r R S. leaders_share c r.mode r.lead R S;
  coordinator_meets_only = λ r f m. mode_only l.bounds c r.mode r.lead f m;
  acceptor_meets_only = λ r f m. mask_only l.bounds a (quorum_size a r.mode) f m;
  acceptor_meets_each = λ r f R e held. mask_each l.bounds a (quorum_size a r.mode) f R ((sizes_meet a some).with_itself r) e held;
  choices = λ f e. choices_are o l.bounds a c some f e;
}
