-- The least quorum whose meet has a command.
use Rattle.std.proofs.Common.{◌≡◌, ◌⊎◌, ℕ, zero, suc, ◌+◌, ◌<◌, ◌≤◌, ◌^◌, Bool, true, false, cond, ◌&&◌, nat_eq, List, [], ◌∷◌, Option, Some, None, refl, sym, ap, subst, ◌∙◌, inl, inr, arith}
use Rattle.std.specs.List.{Contains}
use Rattle.gp_command.specs.declared.command.Command.{Command}
use Rattle.gp_history.specs.History.{History, IsHistory, has}
use Rattle.gp_history.specs.Bounds.{join, joined}
use Rattle.gp_history.proofs.Bound.{has-join, join_is_history}
use Rattle.gp_history.proofs.Tests.{one_of}
use Rattle.gp_round.specs.declared.round.Mode.{Mode}
use Rattle.gp_round.specs.Configs.{quorum_size}
use Rattle.gp_round.specs.Sets.{bit, members, masks, masks_among}
use Rattle.gp_round.proofs.Masks.{subset_is, among}
use Rattle.gp_safe.specs.Meets.{gathered, if_whole, quorum_meet, quorum_meets, everyone, add_meet}
use Rattle.gp_safe.specs.News.{is_in}
use Rattle.gp_safe.proofs.Adding.{in_gathered, each_has, member_has}
use Rattle.gp_safe.proofs.Gathering.{not_whole}
use Rattle.gp_cstructs.specs.CStructs.{Among}
use Rattle.gp_cstructs.proofs.Lists.{among_contains, contains_among}
use Rattle.gp_audit.specs.Noting.{add_whole, whole_quorums, first_with}
use Rattle.gp_audit.specs.Certificates.{IsLeastQuorum}

module _ (f : ℕ → Option History) (n : ℕ) (c : Command) where
  -- the mask has a meet, which has the command
  pub record Has (mask : ℕ) : Type 0 where
    pub met : History
    pub whole : quorum_meet f everyone n mask ≡ Some met
    pub there : has met c ≡ true

  abbrev first_of : List ℕ → Option ℕ
  first_of ms = first_with (whole_quorums f n ms) c

  -- the first of some masks
  first_step : (m : ℕ) (o : Option History) → quorum_meet f everyone n m ≡ o → (rest : Option ℕ) (qs : List (ℕ × History)) → first_with qs c ≡ rest → (mask : ℕ) → first_with (add_whole m o qs) c ≡ Some mask
      → ((m ≡ mask) × Has mask) ⊎ ((rest ≡ Some mask) × (Has m → ⊥))
  first_step m None e rest qs r mask h = inr (sym r ∙ h, λ x. let d = sym x.whole ∙ e in absurd (cc))
  first_step m (Some y) e rest qs r mask h = by_has (has y c) refl
    where
      by_has : (b : Bool) → has y c ≡ b → ((m ≡ mask) × Has mask) ⊎ ((rest ≡ Some mask) × (Has m → ⊥))
      by_has true t =
          let is : m ≡ mask = let g = sym (ap (λ (b : Bool). cond b (Some m) (first_with qs c)) t) ∙ h in cc in
          inl (is, subst (λ (k : ℕ). Has k) is (record { met = y; whole = e; there = t }))
      by_has false t = inr (
        sym r ∙ sym (ap (λ (b : Bool). cond b (Some m) (first_with qs c)) t) ∙ h,
        λ x. let same : x.met ≡ y = (let d = sym x.whole ∙ e in cc) in let g = sym x.there ∙ ap (λ (u : History). has u c) same ∙ t in absurd (cc),
      )

  -- it is among them, and has the command in its meet
  pub first_has : (ms : List ℕ) (mask : ℕ) → first_of ms ≡ Some mask → Contains ms mask × Has mask
  first_has ms mask h = let a = among_first ms mask h in (among_contains ms mask a.0, a.1)
    where
      among_first : (ms : List ℕ) (mask : ℕ) → first_of ms ≡ Some mask → Among ms mask × Has mask
      among_first [] mask h = absurd (cc)
      among_first (m ∷ ms) mask h = elim (first_step m (quorum_meet f everyone n m) refl (first_of ms) (whole_quorums f n ms) refl mask h) [
        | inl x ↦ (inl x.0, x.1)
        | inr x ↦ let more = among_first ms mask x.0 in (inr more.0, more.1)
      ]

  -- if one has the command in its meet, there is a first one
  pub some_first : (ms : List ℕ) (h : History) → Among (quorum_meets f everyone n ms) h → has h c ≡ true → (mask : ℕ) × (first_of ms ≡ Some mask)
  some_first [] h p t = elim p [ ]
  some_first (m ∷ ms) h p t = by_meet (quorum_meet f everyone n m) p (λ q. some_first ms h q t)
    where
      by_meet : (o : Option History) → Among (add_meet o (quorum_meets f everyone n ms)) h → (Among (quorum_meets f everyone n ms) h → (mask : ℕ) × (first_of ms ≡ Some mask))
          → (mask : ℕ) × (first_with (add_whole m o (whole_quorums f n ms)) c ≡ Some mask)
      by_meet None q later = later q
      by_meet (Some y) q later = elim q [
        | inl is ↦ (m, ap (λ (b : Bool). cond b (Some m) (first_of ms)) (ap (λ (u : History). has u c) is ∙ t))
        | inr more ↦ by_has (has y c) (later more)
      ]
        where
          by_has : (b : Bool) → (mask : ℕ) × (first_of ms ≡ Some mask) → (mask : ℕ) × (cond b (Some m) (first_of ms) ≡ Some mask)
          by_has true r = (m, refl)
          by_has false r = r

  -- of masks that ascend, the first is the least
  least_among : (size many first mask : ℕ) → first_of (masks_among n size many first) ≡ Some mask → (m : ℕ) → Among (masks_among n size many first) m → Has m → mask ≤ m
  least_among size zero first mask h m p x = elim p [ ]
  least_among size (suc many) first mask h m p x = by_count (nat_eq (members (bit first) n) size) h p (λ g q. least_among size many (first + 1) mask g m q x)
    where
      later : (k : ℕ) → Among (masks_among n size many (first + 1)) k → first ≤ k
      later k q = let a = (among n size many (first + 1) k (among_contains (masks_among n size many (first + 1)) k q)).from in omega (arith, a)

      by_count : (b : Bool) → first_of (cond b (first ∷ masks_among n size many (first + 1)) (masks_among n size many (first + 1))) ≡ Some mask
          → Among (cond b (first ∷ masks_among n size many (first + 1)) (masks_among n size many (first + 1))) m
          → (first_of (masks_among n size many (first + 1)) ≡ Some mask → Among (masks_among n size many (first + 1)) m → mask ≤ m) → mask ≤ m
      by_count false g q ih = ih g q
      by_count true g q ih = elim (first_step first (quorum_meet f everyone n first) refl (first_of (masks_among n size many (first + 1))) (whole_quorums f n (masks_among n size many (first + 1))) refl mask g) [
        | inl is ↦ elim q [
          | inl e ↦ let s = sym is.0 ∙ e in omega (arith, s)
          | inr more ↦ let s = is.0 in let low = later m more in omega (arith, s, low)
        ]
        | inr rest ↦ elim q [
          | inl e ↦ absurd (rest.1 (subst (λ (k : ℕ). Has k) (sym e) x))
          | inr more ↦ ih rest.0 more
        ]
      ]

  pub least_quorum : (mode : Mode) (mask : ℕ) → first_of (masks n (quorum_size n mode)) ≡ Some mask → IsLeastQuorum n mode f c mask
  least_quorum mode mask h =
      let ms = masks n (quorum_size n mode) in
      let found = first_has ms mask h in
      let facts = (subset_is n (quorum_size n mode) mask).0 found.0 in
      record {
        whole = record { below = facts.0; size = facts.1; met = found.1.met; whole = found.1.whole; there = found.1.there };
        least = λ m w. least_among (quorum_size n mode) (2 ^ n) 0 mask h m (contains_among ms m ((subset_is n (quorum_size n mode) m).1 (w.below, w.size))) (record { met = w.met; whole = w.whole; there = w.there });
      }

  -- each member of a mask whose meet has the command has a value with it
  pub member_value : (mask : ℕ) → Has mask → (i : ℕ) → i < n → bit mask i ≡ true → (v : History) × (f i ≡ Some v) × (has v c ≡ true)
  member_value mask x i less set = by_value (f i) refl
    where
      inside : (bit mask i && everyone i) ≡ true
      inside = ap (λ (b : Bool). b && true) set

      all_in : (g : Option (Option History)) → if_whole g ≡ Some x.met → in_gathered g c ≡ true
      all_in None e = absurd (cc)
      all_in (Some None) e = refl
      all_in (Some (Some y)) e = let same : y ≡ x.met = cc in ap (λ (u : History). has u c) same ∙ x.there

      in_each : is_in (f i) c ≡ true
      in_each = member_has f (λ j. bit mask j && everyone j) n c i (each_has f (λ j. bit mask j && everyone j) n c (all_in (gathered f (λ j. bit mask j && everyone j) n) x.whole)) less inside

      by_value : (o : Option History) → f i ≡ o → (v : History) × (f i ≡ Some v) × (has v c ≡ true)
      by_value None e = absurd (let d = sym (ap if_whole (not_whole f (λ j. bit mask j && everyone j) i n inside e less)) ∙ x.whole in cc)
      by_value (Some v) e = (v, e, sym (ap (λ (o : Option History). is_in o c) e) ∙ in_each)

-- ---- joins

-- a command of a join of many is in one of them
pub in_joined : (c : Command) (u : History) (hs : List History) → IsHistory u → ((h : History) → Among hs h → IsHistory h) → has (joined u hs) c ≡ true
    → (has u c ≡ true) ⊎ ((h : History) × Among hs h × (has h c ≡ true))
in_joined c u [] w all t = inl t
in_joined c u (h ∷ hs) w all t = elim (in_joined c (join u h) hs (join_is_history u h w (all h (inl refl))) (λ k m. all k (inr m)) t) [
  | inl first ↦ one_of (has u c) (has h c) (sym (has-join u h w (all h (inl refl)) c) ∙ first) (λ x. inl x) (λ x. inr (h, inl refl, x))
  | inr more ↦ inr (more.0, inr more.1, more.2)
]
