use Rattle.std.proofs.Common.{rules}
use Rattle.gp_views.proofs.Begun.{extends_more}
use Rattle.gp_onlookers.proofs.watcher.Watcher.look_as_told.Goals as goal

pub returns-clause-as_told : goal.returns-clause-as_told
returns-clause-as_told g c = search (rules, extends_more)
