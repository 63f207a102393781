use Rattle.std.proofs.Common.{ap, subst, sym, ◌∙◌}
use Rattle.gp_views.specs.declared.image.Shown.{Shown}
use Rattle.gp_views.specs.Images.{IsWhole}
use Rattle.gp_views.proofs.Keeping.{shows}
use Rattle.gp_views.proofs.feed.show.Goals as goal

pub publish_as-requires : goal.publish_as-requires
publish_as-requires g c next is = shows _ _ _ next (subst IsWhole (sym is) c.requires.whole) (ap (λ (s : Shown). s.goal.feed) is ∙ c.requires.feed)
