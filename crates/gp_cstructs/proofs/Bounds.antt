-- Values that are compatible in pairs have a least upper bound, their join.
use Rattle.std.proofs.Common.{inl, inr, List, [], ◌∷◌, refl, subst}
use Rattle.gp_cstructs.specs.CStructs.{Among, Compatible, BoundLaws, join_onto, join_all, ArePairwiseCompatible, IsUpperBound}

module _ {V : Type 0} {prefix : V → V → Type 0} {empty : V} {meet join : V → V → V} (l : BoundLaws prefix empty meet join) where
  pub compatible_turned : (u v : V) → Compatible prefix u v → Compatible prefix v u
  compatible_turned u v c = record { top = c.top; left = c.right; right = c.left }

  pub compatible_lower : (u v x y : V) → prefix x u → prefix y v → Compatible prefix u v → Compatible prefix x y
  compatible_lower u v x y a b c = record { top = c.top; left = l.transitive x u c.top a c.left; right = l.transitive y v c.top b c.right }

  pub compatible_below : (u v z : V) → prefix u z → prefix v z → Compatible prefix u v
  compatible_below u v z a b = record { top = z; left = a; right = b }

  pub join_grows : (s : V) (hs : List V) → prefix s (join_onto join s hs)
  join_grows s [] = l.reflexive s
  join_grows s (h ∷ hs) = l.transitive s (join s h) (join_onto join (join s h) hs) (l.join_left s h) (join_grows (join s h) hs)

  pub join_bounded : (s : V) (hs : List V) (z : V) → prefix s z → IsUpperBound prefix z hs → prefix (join_onto join s hs) z
  join_bounded s [] z a b = a
  join_bounded s (h ∷ hs) z a b = join_bounded (join s h) hs z (l.join_least s h z a (b h (inl refl))) (λ u m. b u (inr m))

  -- with an accumulator that is compatible with each
  pub join_above : (s : V) (hs : List V) → ArePairwiseCompatible prefix hs → ((u : V) → Among hs u → Compatible prefix s u) → IsUpperBound prefix (join_onto join s hs) hs
  join_above s [] p q u m = elim m [ ]
  join_above s (h ∷ hs) p q u m =
      let sh : Compatible prefix s h = q h (inl refl) in
      let rest : IsUpperBound prefix (join_onto join (join s h) hs) hs =
      join_above (join s h) hs (λ x y mx my. p x y (inr mx) (inr my))
      (λ x mx. compatible_turned x (join s h) (l.coherent x s h (compatible_turned s x (q x (inr mx))) (p x h (inr mx) (inl refl)) sh)) in
      elim m [
        | inl e ↦ subst (λ (x : V). prefix x (join_onto join (join s h) hs)) e
            (l.transitive h (join s h) (join_onto join (join s h) hs) (l.join_right s h sh) (join_grows (join s h) hs))
        | inr n ↦ rest u n
      ]

  pub join_all_above : (hs : List V) → ArePairwiseCompatible prefix hs → IsUpperBound prefix (join_all empty join hs) hs
  join_all_above hs p = join_above empty hs p (λ u m. compatible_below empty u u (l.empty_least u) (l.reflexive u))

  pub join_all_least : (hs : List V) (z : V) → IsUpperBound prefix z hs → prefix (join_all empty join hs) z
  join_all_least hs z b = join_bounded empty hs z (l.empty_least z) b
