use Rattle.std.proofs.Common.{rules, ◌≡◌, ◌∙◌, ap, length, arith}
use Rattle.std.specs.Vec.{with_items}
use Rattle.std.proofs.lemmas.List.{with_items_is}
use Rattle.gp_history.specs.Sequence.{history_of}
use Rattle.gp_acceptor.specs.State.{histories}
use Rattle.gp_acceptor.proofs.Agreeing.{agreed_of_nobody}
use Rattle.gp_acceptor.proofs.part.Part.raise.Goals as goal

pub invariant_of-self : goal.invariant_of-self
invariant_of-self c =
    let held = (with_items c.self.inside.held c.clear.new.held).items in
    let items : held ≡ c.clear.new.held = with_items_is c.self.inside.held _ (omega arith) in
    let whole : length held ≡ c.self.inside.config.coordinators = search rules in
    (whole, agreed_of_nobody c.self.inside.config.coordinators _ c.self.inside.voted c.args.round (history_of c.self.inside.vote) (histories held) (ap histories items ∙ c.clear.ensures))
