-- C-structs: what generalized consensus requires of the values that are agreed on.
use Rattle.std.specs.Prelude.{◌≡◌, ◌⊎◌, ◌≤◌, ℕ, Bool, true, List, [], ◌∷◌, Option, Some, None}

-- x is an element of the list
abbrev pub Among : {X : Type 0} → List X → X → Type 0
Among [] x = ⊥
Among (y ∷ ys) x = (y ≡ x) ⊎ Among ys x

-- which value is a prefix of which, the empty value, meets and joins, a value with a command after all others, whether a command is in a value, and the number of commands; the command that a proposer makes from a draft as its offer with this number; the proposer and the number of a command, which are its identity
pub record Operations (V C D : Type 0) : Type 1 where
  pub prefix : V → V → Type 0
  pub empty : V
  pub meet : V → V → V
  pub join : V → V → V
  pub push : V → C → V
  pub has : V → C → Bool
  pub size : V → ℕ
  pub numbered : ℕ → ℕ → D → C
  pub proposer_of : C → ℕ
  pub number_of : C → ℕ

-- some value extends both
pub record Compatible {V : Type 0} (prefix : V → V → Type 0) (u v : V) : Type 0 where
  pub top : V
  pub left : prefix u top
  pub right : prefix v top

-- the laws of bounds: the prefix is a preorder with a least value, meets are greatest lower bounds, and joins of compatible values least upper bounds
pub record BoundLaws {V : Type 0} (prefix : V → V → Type 0) (empty : V) (meet join : V → V → V) : Type 0 where
  pub reflexive : (u : V) → prefix u u
  pub transitive : (u v w : V) → prefix u v → prefix v w → prefix u w
  pub empty_least : (u : V) → prefix empty u
  pub meet_left : (u v : V) → prefix (meet u v) u
  pub meet_right : (u v : V) → prefix (meet u v) v
  pub meet_greatest : (u v z : V) → prefix z u → prefix z v → prefix z (meet u v)
  -- a join extends the first value, whatever the second is
  pub join_left : (u v : V) → prefix u (join u v)
  pub join_right : (u v : V) → Compatible prefix u v → prefix v (join u v)
  pub join_least : (u v z : V) → prefix u z → prefix v z → prefix (join u v) z
  -- a value that is compatible with each of two compatible values is compatible with their join
  pub coherent : (u v w : V) → Compatible prefix u v → Compatible prefix u w → Compatible prefix v w → Compatible prefix u (join v w)

-- all laws of c-structs that the proof of agreement uses
pub record Laws {V C D : Type 0} (o : Operations V C D) : Type 0 where
  pub bounds : BoundLaws o.prefix o.empty o.meet o.join
  pub push_extends : (u : V) (c : C) → o.prefix u (o.push u c)
  -- a prefix with as many commands as the value has the value as a prefix
  pub prefix_as_long : (u v : V) → o.prefix u v → o.size v ≤ o.size u → o.prefix v u
  pub has_empty : (d : C) → o.has o.empty d ≡ true → ⊥
  pub has_push : (u : V) (c d : C) → o.has (o.push u c) d ≡ true → (o.has u d ≡ true) ⊎ (c ≡ d)
  pub has_join : (u v : V) (d : C) → o.has (o.join u v) d ≡ true → (o.has u d ≡ true) ⊎ (o.has v d ≡ true)
  pub has_prefix : (u v : V) (d : C) → o.prefix u v → o.has u d ≡ true → o.has v d ≡ true
  -- a command has the proposer and the number that it was made with
  pub proposer_told : (p n : ℕ) (d : D) → o.proposer_of (o.numbered p n d) ≡ p
  pub number_told : (p n : ℕ) (d : D) → o.number_of (o.numbered p n d) ≡ n

-- the joins with these values, one after another
abbrev pub join_onto : {V : Type 0} → (V → V → V) → V → List V → V
join_onto join u [] = u
join_onto join u (v ∷ vs) = join_onto join (join u v) vs

-- the join of all, starting with the empty value
abbrev pub join_all : {V : Type 0} → V → (V → V → V) → List V → V
join_all empty join vs = join_onto join empty vs

-- the join of all, if there are any
abbrev pub all_joined : {V : Type 0} → V → (V → V → V) → List V → Option V
all_joined empty join [] = None
all_joined empty join (v ∷ vs) = Some (join_all empty join (v ∷ vs))

-- every two of them are compatible
abbrev pub ArePairwiseCompatible : {V : Type 0} → (V → V → Type 0) → List V → Type 0
ArePairwiseCompatible {V} prefix vs = (u v : V) → Among vs u → Among vs v → Compatible prefix u v

-- each of them is a prefix of z
abbrev pub IsUpperBound : {V : Type 0} → (V → V → Type 0) → V → List V → Type 0
IsUpperBound {V} prefix z vs = (u : V) → Among vs u → prefix u z
