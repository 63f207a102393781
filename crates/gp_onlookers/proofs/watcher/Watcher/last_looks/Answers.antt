use Rattle.std.proofs.Common.{subst, ap}
use Rattle.gp_onlookers.specs.Ends.{WatcherView}
use Rattle.gp_onlookers.specs.Looks.{HasLooked}
use Rattle.gp_onlookers.proofs.Cutting.{watched_cut}
use Rattle.gp_onlookers.proofs.watcher.Watcher.last_looks.Goals as goal

pub returns-clause-looks : goal.returns-clause-looks
returns-clause-looks g c =
    let looked = c.look_as_told.ensures in
    let now : WatcherView = c.look_as_told.new.self in
    let has : HasLooked now.key now.seen now.looks = subst (λ (w : WatcherView). HasLooked w.key w.seen w.looks) c.self.view_is c.self.invariant in
    let same = ap (λ (w : WatcherView). w.looks) c.self.view_is in
    watched_cut c.args.self.key c.args.told.list now c.args.self.looks c.self.inside.looks.items c.cut.new.looks.items c.args.end looked.key has looked.as_told c.requires.end c.in_ok-look_as_told.ensures.kept same c.cut.ensures
