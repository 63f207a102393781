use Rattle.gp_views.proofs.Keeping.{finds}
use Rattle.gp_views.proofs.reader.look.Goals as goal

pub enter_as-requires : goal.enter_as-requires
enter_as-requires c = finds _ _
