-- Steps that keep the rule of the two copies.
use Rattle.std.proofs.Common.{◌≡◌, ◌≢◌, ℕ, List, [], ◌∷◌, ◌++◌, Option, Some, None, set, sym, refl, subst, ⊎_elim}
use mathlib.Core.Option.{some}
use lib.ListN.{get_elem?}
use Rattle.crossbeam_utils.specs.Register.{Admits, TurnsAt, Turns, Forks, Merges}
use Rattle.atomic_table.proofs.Lists.{at_set, at_snoc}
use Rattle.logbook.specs.Pages.{Book}
use Rattle.gp_views.specs.Ends.{Published}
use Rattle.gp_views.specs.declared.image.Image.{Image}
use Rattle.gp_views.specs.Images.{shown_of, IsWhole}
use Rattle.gp_views.specs.Sights.{Knows, Keeps, Finds, joined}

abbrev Sight : Type 0
Sight = Option Published

abbrev EachKnows : Book → List Sight → Type 0
EachKnows feed sights = (seat : ℕ) (v : Sight) → get_elem? sights seat ≡ some v → Knows feed v

set_knows : (feed : Book) (sights : List Sight) (seat : ℕ) (v : Sight) → EachKnows feed sights → Knows feed v → EachKnows feed (set sights seat v)
set_knows feed sights seat v h b j u e =
    ⊎_elim (λ (t : (j ≡ seat) × (v ≡ u)). subst (Knows feed) t.1 b) (λ (t : (j ≢ seat) × (get_elem? sights j ≡ some u)). h j u t.1) (at_set sights seat j v u e)

more_knows : (feed : Book) (sights : List Sight) (v : Sight) → EachKnows feed sights → Knows feed v → EachKnows feed (sights ++ v ∷ [])
more_knows feed sights v h b j u e = ⊎_elim (h j u) (λ (same : v ≡ u). subst (Knows feed) same b) (at_snoc sights v u j e)

pub admits : Admits Keeps None
admits x sights k = record { whole = k.whole; each = more_knows x.goal.feed sights None k.each tt }

pub finds : (seat : ℕ) (v : Sight) → Turns Keeps seat v (λ x. x) (λ v x y w. Finds v x w)
finds seat v x sights k at = let here = k.each seat v at in
    (v, record { whole = k.whole; each = set_knows x.goal.feed sights seat v k.each here }, record { same = refl; whole = k.whole; feed = here })

-- a publish of an image that is whole, of the same feed
pub shows : (seat : ℕ) (v : Sight) (x y : Image) → IsWhole (shown_of y) → y.goal.feed ≡ x.goal.feed → TurnsAt Keeps seat v x y (λ v x y w. w ≡ Some y.goal)
shows seat v x y is feed sights k at = (
  Some y.goal,
  record { whole = is; each = set_knows y.goal.feed sights seat (Some y.goal) (λ j u e. subst (λ (b : Book). Knows b u) (sym feed) (k.each j u e)) refl },
  refl,
)

pub forks : (seat : ℕ) (v : Sight) → Forks Keeps seat v v v
forks seat v x sights k at = let here = k.each seat v at in
    record { whole = k.whole; each = more_knows x.goal.feed (set sights seat v) v (set_knows x.goal.feed sights seat v k.each here) here }

joined_knows : (feed : Book) (v w : Sight) → Knows feed v → Knows feed w → Knows feed (joined v w)
joined_knows feed None w a b = b
joined_knows feed (Some p) w a b = a

pub merges : (seat : ℕ) (v : Sight) (other : ℕ) (w : Sight) → Merges Keeps seat v other w (joined v w) None
merges seat v other w x sights k at apart there =
    let feed : Book = x.goal.feed in
    let here = k.each seat v at in
    let that : Knows feed w = ⊎_elim (λ (t : (other ≡ seat) × (joined v w ≡ w)). absurd (apart t.0)) (λ (t : (other ≢ seat) × (get_elem? sights other ≡ some w)). k.each other w t.1) (at_set sights seat other (joined v w) w there) in
    record { whole = k.whole; each = set_knows feed (set sights seat (joined v w)) other None (set_knows feed sights seat (joined v w) k.each (joined_knows feed v w here that)) tt }
