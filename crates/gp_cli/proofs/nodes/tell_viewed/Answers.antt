use Rattle.std.proofs.Common.{List, ℕ, inl, sym, subst}
use Rattle.gp_ending.specs.declared.ends.RunEnd.TheVariants as end
use Rattle.gp_cli.specs.Outside.{device, Told}
use Rattle.gp_cli.proofs.nodes.tell_viewed.Goals as goal

pub returns-in-Ok-clause-told : goal.returns-in-Ok-clause-told
returns-in-Ok-clause-told g c =
    let before = device (g.K.Sink.written c.args.sink.now) (g.K.Sink.faults c.args.sink.now) in
    let now = device (g.K.Sink.written c.tell.new.sink) (g.K.Sink.faults c.tell.new.sink) in
    record {
      why = end.Learned;
      as_ended = inl (sym c.in-Learned.is);
      text = c.in-Ok.text.items;
      says = (c.args.onlookers.first.looks, c.args.onlookers.second.looks, c.in-Ok.ensures.text);
      told = subst (λ (text : List ℕ). Told before now text 0 5 c.tell.result) c.deref.ensures.value c.tell.ensures.told;
    }
