use Rattle.std.proofs.Common.{◌≡◌, ◌∙◌, ap, length, arith}
use Rattle.std.specs.Vec.{with_items}
use Rattle.std.proofs.lemmas.List.{with_items_is}
use Rattle.gp_acceptor.specs.State.{nobody, histories}
use Rattle.gp_history.proofs.Pushing.{history_of_nothing}
use Rattle.gp_acceptor.proofs.part.Part.clear.Goals as goal

pub returns : goal.returns
returns c =
    let vote = history_of_nothing c.clear.new.self c.clear.ensures in
    let items : (with_items c.self.inside.held c.clear-2.new.held).items ≡ c.clear-2.new.held = with_items_is c.self.inside.held _ (omega arith) in
    let held = ap histories items ∙ c.clear-2.ensures ∙ ap (λ xs. nobody (length xs)) c.deref_mut.ensures.value ∙ ap nobody c.self.invariant.0 ∙ ap (λ t. nobody t.config.coordinators) c.self.view_is in
    λ i. record { config = (c.self.view_is i).config; number = (c.self.view_is i).number; round = c.zero-self-inside.ensures i; voted = c.zero-self-inside-2.ensures i; vote = vote i; held = held i }
