-- Chosen values are compatible.
use Rattle.std.proofs.Common.{◌≡◌, inl, inr, ℕ, Bool, true, List, sym, subst, arith}
use Rattle.gp_cstructs.specs.CStructs.{Among, Compatible, ArePairwiseCompatible}
use Rattle.gp_cstructs.specs.Tables.{Tables}
use Rattle.gp_cstructs.specs.Safety.{Choosable}
use Rattle.gp_cstructs.specs.Lawful.{IsLawful}
use Rattle.gp_cstructs.specs.Facts.{Ledger, IsPast, IsChosen, LedgerFacts, Heard}
use Rattle.gp_cstructs.proofs.Subsets.{two_share}
use Rattle.gp_cstructs.proofs.Bounds.{compatible_below, compatible_turned}

module _ {T : Tables} {leads : T.Round → (ℕ → Bool) → Type 0} (l : IsLawful T leads) where
  chosen_choosable : (G : Ledger T) (x : T.Value) (r : T.Round) → IsChosen T G x r → Choosable T.prefix T.acceptors T.quorum G.votes (IsPast T G) x r
  chosen_choosable G x r c = record { quorum = c.quorum; enough = c.enough; covered = λ a i e p. c.covered a i e }

  -- a chosen value is a prefix of each vote of a later round
  chosen_below : (G : Ledger T) → LedgerFacts T leads G → (x y : T.Value) (r j : T.Round) → IsChosen T G x r → IsChosen T G y j → T.earlier r j ≡ true → Compatible T.prefix x y
  chosen_below G h x y r j cx cy b =
      let s = two_share cy.quorum cy.quorum T.acceptors (omega (arith, cy.enough, l.sizes.with_itself j)) in
      let v = cy.covered s.0 s.1 s.2 in
      compatible_below l.bounds x y v.vote (h.votes_safe s.0 j v.vote v.cast r b x (chosen_choosable G x r cx)) v.above

  -- two chosen values, at any rounds, are compatible
  pub chosen_agree : (G : Ledger T) → LedgerFacts T leads G → (x y : T.Value) (r j : T.Round) → IsChosen T G x r → IsChosen T G y j → Compatible T.prefix x y
  chosen_agree G h x y r j cx cy = elim (l.order.total r j) [
    | inl b ↦ chosen_below G h x y r j cx cy b
    | inr z ↦ elim z [
      | inl e ↦
          let cz : IsChosen T G y r = subst (λ (i : T.Round). IsChosen T G y i) (sym e) cy in
          let s = two_share cx.quorum cz.quorum T.acceptors (omega (arith, cx.enough, cz.enough, l.sizes.with_itself r)) in
          let u = cx.covered s.0 s.1 s.2 in
          let v = cz.covered s.0 s.1 s.3 in
          elim (h.votes_chain s.0 r u.vote v.vote u.cast v.cast) [
            | inl o ↦ compatible_below l.bounds x y v.vote (l.bounds.transitive x u.vote v.vote u.above o) v.above
            | inr o ↦ compatible_below l.bounds x y u.vote u.above (l.bounds.transitive y v.vote u.vote v.above o)
          ]
      | inr b ↦ compatible_turned l.bounds y x (chosen_below G h y x j r cy cx b)
    ]
  ]

  pub heard_chosen : (G : Ledger T) (taken : List (T.Round × ℕ × T.Value)) → ((r : T.Round) (a : ℕ) (v : T.Value) → Among taken (r, a, v) → G.votes a r v)
      → (u : T.Value) (h : Heard T taken u) → IsChosen T G u h.round
  heard_chosen G taken on u h = record {
    quorum = h.quorum;
    enough = h.enough;
    covered = λ a i e. record { vote = h.vote a; cast = on h.round a (h.vote a) (h.taken_of a i e); above = h.below a i e };
  }

  pub heard_pairs : (G : Ledger T) → LedgerFacts T leads G → (taken : List (T.Round × ℕ × T.Value)) → ((r : T.Round) (a : ℕ) (v : T.Value) → Among taken (r, a, v) → G.votes a r v)
      → (hs : List T.Value) → ((u : T.Value) → Among hs u → Heard T taken u) → ArePairwiseCompatible T.prefix hs
  heard_pairs G h taken on hs all u v mu mv =
      let a = all u mu in
      let b = all v mv in
      chosen_agree G h u v a.round b.round (heard_chosen G taken on u a) (heard_chosen G taken on v b)
