-- What seats know, which is the feed, and the rule that is kept.
use Rattle.std.specs.Prelude.{◌≡◌, ℕ, List, Option, Some, None}
use mathlib.Core.Option.{some}
use lib.ListN.{get_elem?}
use Rattle.logbook.specs.Pages.{Book}
use Rattle.gp_views.specs.Ends.{Published}
use Rattle.gp_views.specs.declared.image.Image.{Image}
use Rattle.gp_views.specs.Images.{shown_of, IsWhole}

-- it knows nothing, or this feed
abbrev pub Knows : Book → Option Published → Type 0
Knows feed None = Unit {0}
Knows feed (Some p) = p.feed ≡ feed

-- the feed that it knows
abbrev pub known : Option Published → Option Book
known None = None
known (Some p) = Some p.feed

-- the image has run its list, and each seat knows its feed or nothing
pub record Keeps (x : Image) (sights : List (Option Published)) : Type 0 where
  pub whole : IsWhole (shown_of x)
  pub each : (seat : ℕ) (v : Option Published) → get_elem? sights seat ≡ some v → Knows x.goal.feed v

-- a read finds an image that has run its list and is of the known feed
pub record Finds (v : Option Published) (x : Image) (w : Option Published) : Type 0 where
  pub same : w ≡ v
  pub whole : IsWhole (shown_of x)
  pub feed : Knows x.goal.feed v

-- what the first one knows, or else what the second one knows
abbrev pub joined : Option Published → Option Published → Option Published
joined None w = w
joined (Some p) w = Some p
