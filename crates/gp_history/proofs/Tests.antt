-- Tests of lists of commands.
use Rattle.std.proofs.Common.{◌≡◌, Bool, true, false, not, ◌&&◌, ◌||◌, List, [], ◌∷◌, ◌++◌, refl, sym, ap, ◌∙◌}
use Rattle.std.proofs.lemmas.Bool.{true≢false}
use Rattle.std.specs.Prelude.{map}
use Rattle.std.specs.List.{list_any, list_all}
use Rattle.gp_command.specs.declared.command.Command.{Command}
use Rattle.gp_command.specs.Conflict.{same}
use Rattle.gp_command.proofs.ConflictLemmas.{same_itself, same-true, same_symm}

abbrev pub In : List Command → Command → Type 0
In xs c = list_any (same c) xs ≡ true

pub both : {a b : Bool} → a ≡ true → b ≡ true → (a && b) ≡ true
both p q = (λ i. p i && q i)

pub fst_of : (a b : Bool) → (a && b) ≡ true → a ≡ true
fst_of true b h = refl
fst_of false b h = h

pub snd_of : (a b : Bool) → (a && b) ≡ true → b ≡ true
snd_of true b h = h
snd_of false b h = absurd (true≢false (sym h))

pub left_of : (a b : Bool) → a ≡ true → (a || b) ≡ true
left_of a b h = ap (λ x. x || b) h

pub right_of : (a b : Bool) → b ≡ true → (a || b) ≡ true
right_of true b h = refl
right_of false b h = h

pub one_of : (a b : Bool) {P : Type 0} → (a || b) ≡ true → (a ≡ true → P) → (b ≡ true → P) → P
one_of true b h f g = f refl
one_of false b h f g = g h

pub not_true : (a : Bool) → (a ≡ true → ⊥) → a ≡ false
not_true true f = absurd (f refl)
not_true false f = refl

pub not_false : (a : Bool) → not a ≡ false → a ≡ true
not_false true h = refl
not_false false h = absurd (true≢false h)

pub turned_false : (a : Bool) → not a ≡ true → a ≡ false
turned_false true h = absurd (true≢false (sym h))
turned_false false h = refl

-- what all pass, each member passes
pub all_gives : (f : Command → Bool) (xs : List Command) (c : Command) → list_all f xs ≡ true → In xs c → f c ≡ true
all_gives f [] c all one = absurd (true≢false (sym one))
all_gives f (x ∷ xs) c all one =
    one_of (same c x) (list_any (same c) xs) one
    (λ e. ap f (same-true c x e) ∙ fst_of (f x) (list_all f xs) all)
    (λ more. all_gives f xs c (snd_of (f x) (list_all f xs) all) more)

pub all_from : (f : Command → Bool) (xs : List Command) → ((c : Command) → In xs c → f c ≡ true) → list_all f xs ≡ true
all_from f [] h = refl
all_from f (x ∷ xs) h =
    both (h x (left_of (same x x) (list_any (same x) xs) (same_itself x)))
    (all_from f xs (λ c one. h c (right_of (same c x) (list_any (same c) xs) one)))

pub any-append : {X : Type 0} (f : X → Bool) (xs ys : List X) → list_any f (xs ++ ys) ≡ (list_any f xs || list_any f ys)
any-append f [] ys = refl
any-append f (x ∷ xs) ys = ap (λ b. f x || b) (any-append f xs ys) ∙ or_assoc (f x) (list_any f xs) (list_any f ys) where
  or_assoc : (a b c : Bool) → (a || (b || c)) ≡ ((a || b) || c)
  or_assoc true b c = refl
  or_assoc false b c = refl

pub any-map : {X Y : Type 0} (f : Y → Bool) (g : X → Y) (xs : List X) → list_any f (map g xs) ≡ list_any (λ x. f (g x)) xs
any-map f g [] = refl
any-map f g (x ∷ xs) = ap (λ b. f (g x) || b) (any-map f g xs)

pub by_cases : {P : Type 0} (b : Bool) → (b ≡ true → P) → (b ≡ false → P) → P
by_cases true f g = f refl
by_cases false f g = g refl

pub never : {P : Type 0} (b : Bool) → b ≡ true → b ≡ false → P
never b t f = absurd (true≢false (sym t ∙ f))

pub different : (c d : Command) → same c d ≡ false → same d c ≡ false
different c d e = same_symm d c ∙ e
