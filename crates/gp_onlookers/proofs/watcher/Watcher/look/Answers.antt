use Rattle.gp_onlookers.proofs.Looking.{looks_kept, looks_left, same_look}
use Rattle.gp_onlookers.proofs.watcher.Watcher.look.Goals as goal

pub invariant_of-self : goal.invariant_of-self
invariant_of-self g c =
    let was = c.self.inside in
    let now = c.read-value.new.self.seen in
    looks_kept was.key was.reader.seen now was.looks.items c.push.new.self.items _ c.self.invariant c.read-value.ensures.later
    (same_look was.key now c.seen-seen.result c.read-value.result c.seen-seen.ensures c.read-value.ensures.value) c.in-Ok.ensures.items

pub invariant_of-self-in-Err : goal.invariant_of-self-in-Err
invariant_of-self-in-Err g c =
    looks_left c.self.inside.key c.self.inside.reader.seen c.read-value.new.self.seen c.self.inside.looks.items c.push.new.self.items c.self.invariant c.read-value.ensures.later c.in-Err.ensures.items
