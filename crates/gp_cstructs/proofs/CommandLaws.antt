-- No operation of the tables makes up a command.
use Rattle.std.proofs.Common.{◌≡◌, ◌⊎◌, inl, inr, ℕ, zero, suc, Bool, true, ◌&&◌, cond, nat_lt, List, [], ◌∷◌, refl, sym, subst, ap, ◌∙◌, Option, Some, None}
use Rattle.std.specs.Prelude.{unwrap_or}
use Rattle.std.specs.Option.{option_or}
use Rattle.gp_round.specs.declared.round.Mode.{Mode}
use Rattle.gp_round.specs.declared.round.Mode.TheVariants.{Single, Multi, Fast}
use Rattle.gp_round.specs.declared.round.Round.{Round}
use Rattle.gp_round.specs.Rounds.{same_round}
use Rattle.gp_round.specs.Configs.{majority, quorum_size}
use Rattle.gp_round.specs.Sets.{bit, masks}
use Rattle.gp_cstructs.specs.CStructs.{Among, Operations, Laws, join_onto, all_joined}
use Rattle.gp_cstructs.specs.Lawful.{answers_by, KeepsCommands, TellsIdentity}
use Rattle.gp_cstructs.specs.Meets.{with_one, gathered, if_whole, add_meet, quorum_meets, everyone}
use Rattle.gp_cstructs.specs.Choice.{top_round, vote_at, votes_at, lowest, counting_values}
use Rattle.gp_cstructs.specs.Protocol.{coordinator_meets_by, protocol}
use Rattle.gp_cstructs.proofs.Lists.{bool_cases, cond_cases}

module _ {V C D : Type 0} (o : Operations V C D) (l : Laws o) where
  -- the value of some sender has d
  abbrev Held : (ℕ → Option V) → C → Type 0
  Held f d = (k : ℕ) × (v : V) × (f k ≡ Some v) × (o.has v d ≡ true)

  -- each command of what was gathered is of some sender's value
  abbrev From : (ℕ → Option V) → Option (Option V) → Type 0
  From f None = Unit {0}
  From f (Some None) = Unit {0}
  From f (Some (Some m)) = (d : C) → o.has m d ≡ true → Held f d

  one_from : (f : ℕ → Option V) (n : ℕ) (v : Option V) (g : Option (Option V)) → f n ≡ v → From f g → From f (with_one o.meet v g)
  one_from f n None g e t = tt
  one_from f n (Some v) None e t = tt
  one_from f n (Some v) (Some None) e t = λ d p. (n, v, e, p)
  one_from f n (Some v) (Some (Some m)) e t = λ d p. t d (l.has_prefix (o.meet m v) m d (l.bounds.meet_left m v) p)

  gathered_from : (f : ℕ → Option V) (p : ℕ → Bool) (n : ℕ) → From f (gathered o.meet f p n)
  gathered_from f p zero = tt
  gathered_from f p (suc n) = cond_cases (From f) (p n) (with_one o.meet (f n) (gathered o.meet f p n)) (gathered o.meet f p n)
      (λ b. one_from f n (f n) (gathered o.meet f p n) refl (gathered_from f p n)) (λ b. gathered_from f p n)

  meets_from : (f : ℕ → Option V) (w : ℕ → Bool) (n : ℕ) (ms : List ℕ) (x : V) → Among (quorum_meets o.meet f w n ms) x → (d : C) → o.has x d ≡ true → Held f d
  meets_from f w n [] x p d q = elim p [ ]
  meets_from f w n (m ∷ ms) x p d q = at_head (gathered o.meet f (λ k. bit m k && w k) n) (gathered_from f (λ k. bit m k && w k) n) (λ z. meets_from f w n ms x z d q) p
    where
      at_head : (g : Option (Option V)) → From f g → (Among (quorum_meets o.meet f w n ms) x → Held f d) → Among (add_meet (if_whole g) (quorum_meets o.meet f w n ms)) x → Held f d
      at_head None t r z = r z
      at_head (Some None) t r z = r z
      at_head (Some (Some y)) t r z = elim z [ inl e ↦ t d (subst (λ (u : V). o.has u d ≡ true) (sym e) q) | inr later ↦ r later ]

  lead_by : (lead : ℕ) (f : ℕ → Option V) (v : Option V) → f lead ≡ v → (m : V) → Among (add_meet v []) m → (d : C) → o.has m d ≡ true → Held f d
  lead_by lead f None e m p d q = elim p [ ]
  lead_by lead f (Some v) e m p d q = elim p [ inl g ↦ (lead, v, e, subst (λ (u : V). o.has u d ≡ true) (sym g) q) | inr n ↦ elim n [ ] ]

  lead_from : (n lead : ℕ) (f : ℕ → Option V) (m : V) → Among (add_meet (cond (nat_lt lead n) (f lead) None) []) m → (d : C) → o.has m d ≡ true → Held f d
  lead_from n lead f m p d q = elim (bool_cases (nat_lt lead n)) [
    | inl b ↦ lead_by lead f (f lead) refl m (rw b at p) d q
    | inr b ↦ elim (rw b at p) [ ]
  ]

  mode_from : (n : ℕ) (mode : Mode) (lead : ℕ) (f : ℕ → Option V) (m : V) → Among (coordinator_meets_by o.meet n mode lead f) m → (d : C) → o.has m d ≡ true → Held f d
  mode_from n Single lead f m p d q = lead_from n lead f m p d q
  mode_from n Fast lead f m p d q = lead_from n lead f m p d q
  mode_from n Multi lead f m p d q = meets_from f everyone n (masks n (majority n)) m p d q

  join_from : (u : V) (vs : List V) (d : C) → o.has (join_onto o.join u vs) d ≡ true → (o.has u d ≡ true) ⊎ ((v : V) × Among vs v × (o.has v d ≡ true))
  join_from u [] d p = inl p
  join_from u (v ∷ vs) d p = elim (join_from (o.join u v) vs d p) [
    | inl q ↦ elim (l.has_join u v d q) [ inl a ↦ inl a | inr b ↦ inr (v, inl refl, b) ]
    | inr r ↦ inr (r.0, inr r.1, r.2)
  ]

  -- ---- the safe choice

  -- each command of what may be there is of some sender's value
  abbrev IfFrom : (ℕ → Option V) → Option V → Type 0
  IfFrom f p = (v : V) → p ≡ Some v → (d : C) → o.has v d ≡ true → Held f d

  first_from : (f : ℕ → Option V) (p q : Option V) → IfFrom f p → IfFrom f q → IfFrom f (option_or p q)
  first_from f None q a b = b
  first_from f (Some u) q a b = a

  one_of : (f : ℕ → Option V) (n : ℕ) (p : Option V) → f n ≡ p → IfFrom f p
  one_of f n p e v g d q = (n, v, e ∙ g, q)

  lowest_from : (f : ℕ → Option V) (n : ℕ) → IfFrom f (lowest f n)
  lowest_from f zero = λ v e d q. absurd (cc)
  lowest_from f (suc n) = first_from f (lowest f n) (f n) (lowest_from f n) (one_of f n (f n) refl)

  joined_from : (f : ℕ → Option V) (vs : List V) → ((x : V) → Among vs x → (d : C) → o.has x d ≡ true → Held f d) → IfFrom f (all_joined o.empty o.join vs)
  joined_from f [] a v e d q = absurd (cc)
  joined_from f (x ∷ vs) a v e d q =
      let is : join_onto o.join o.empty (x ∷ vs) ≡ v = cc in
      elim (join_from o.empty (x ∷ vs) d (subst (λ (u : V). o.has u d ≡ true) (sym is) q)) [
        | inl n ↦ absurd (l.has_empty d n)
        | inr r ↦ a r.0 r.1 d r.2
      ]

  unwrapped_from : (f : ℕ → Option V) (p : Option V) → IfFrom f p → (d : C) → o.has (unwrap_or p o.empty) d ≡ true → Held f d
  unwrapped_from f None a d q = absurd (l.has_empty d q)
  unwrapped_from f (Some v) a d q = a v refl d q

  answer_from : (k : Round) (p : Option (Round × V)) (v : V) → vote_at k p ≡ Some v → (q : Round) × (p ≡ Some (q, v))
  answer_from k None v e = absurd (cc)
  answer_from k (Some (q, x)) v e = elim (bool_cases (same_round q k)) [
    | inl b ↦ let g = rw b at e in let h : x ≡ v = cc in (q, ap (λ (y : V). Some (q, y)) h)
    | inr b ↦ absurd (let g = rw b at e in cc)
  ]

  pub commands_kept : (a c : ℕ) → KeepsCommands (protocol o a c)
  commands_kept a c = record {
    in_empty = l.has_empty;
    in_push = l.has_push;
    in_join = l.has_join;
    in_coordinator_meets = λ r f m d p q. mode_from c r.mode r.lead f m p d q;
    in_acceptor_meets = λ r f m d p q. meets_from f everyone a (masks a (quorum_size a r.mode)) m p d q;
    in_safe_choice = λ f d p.
        let k = top_round f a in
        let g : ℕ → Option V = votes_at k f in
        let values : List V = counting_values o.meet a f k in
        let joined : IfFrom g (all_joined o.empty o.join values) = joined_from g values (λ x m e q. meets_from g (answers_by f) a (masks a (quorum_size a k.mode)) x m e q) in
        let r = unwrapped_from g (option_or (all_joined o.empty o.join values) (lowest g a)) (first_from g (all_joined o.empty o.join values) (lowest g a) joined (lowest_from g a)) d p in
        let s = answer_from k (f r.0) r.1 r.2 in
        (r.0, s.0, r.1, s.1, r.3);
  }

  pub identity_told : (a c : ℕ) → TellsIdentity (protocol o a c)
  identity_told a c = record { proposer_told = l.proposer_told; number_told = l.number_told }
