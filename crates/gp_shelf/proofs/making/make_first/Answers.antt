use Rattle.std.proofs.Common.{rules}
use Rattle.gp_shelf.proofs.Segments.{taken_first}
use Rattle.gp_shelf.proofs.making.make_first.Goals as goal

pub returns-in-Ok-clause-made : goal.returns-in-Ok-clause-made
returns-in-Ok-clause-made g c = record {
  disk = c.remove.result;
  log = c.in-Ok.log;
  taken = taken_first c.args.disks.now.items c.remove.new.self.items c.remove.result c.requires.some c.remove.ensures.value c.remove.ensures.items;
  added = c.push_reserved.ensures.items;
  made = record {
    entries_are = c.in-Ok.ensures.created;
    limit_is = c.in-Ok.ensures.limit;
    size_is = c.in-Ok.ensures.size;
    new = c.in-Ok.ensures.new;
    ready = c.in-Ok.ensures.ready.0;
    shown = c.in-Ok.ensures.ready.1;
    steady = c.in-Ok.ensures.cause.steady (λ fails. fails);
  };
}

pub returns-in-Err-clause-back : goal.returns-in-Err-clause-back
returns-in-Err-clause-back g c = search rules
