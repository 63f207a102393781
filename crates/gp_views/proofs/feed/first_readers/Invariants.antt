use Rattle.std.proofs.Common.{◌≡◌, [], All, length, drop}
use Rattle.left_right.specs.Sides.{view}
use Rattle.gp_views.specs.Ends.{ReaderView}
use Rattle.gp_views.proofs.feed.first_readers.Given as goal

abbrev pub invariant-loop : goal.invariant-loop
invariant-loop l = (l.end.desk.shown ≡ l.fn.end.desk.shown) × (drop l.end.behind l.end.log.items ≡ drop l.fn.end.behind l.fn.end.log.items)
    × (view l.end.desk.place ≡ view l.fn.end.desk.place) × (length l.all.items ≡ l.counter)
    × All (λ (r : ReaderView). (r.feed ≡ l.fn.mark.feed) × (r.seen ≡ []) × (r.told ≡ [])) l.all.items
