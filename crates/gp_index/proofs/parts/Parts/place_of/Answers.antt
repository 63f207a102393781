use Rattle.std.proofs.Common.{◌+◌, ◌∙◌, sym, ap}
use Rattle.gp_history.specs.Sequence.{place_in}
use Rattle.gp_history.specs.Walks.{stands_at}
use Rattle.gp_history.proofs.Searches.{stands_found}
use Rattle.gp_index.proofs.parts.Parts.place_of.Goals as goal

pub returns-then-stands_at : goal.returns-then-stands_at
returns-then-stands_at c =
    let xs = c.self.inside.commands.items in
    stands_found xs c.args.near c.args.c.now c.self.invariant.distinct (ap (λ ys. stands_at c.args.c.now ys c.args.near) (sym c.deref.ensures.value) ∙ sym c.stands_at.ensures ∙ c.if-stands_at.true) ∙ ap (λ ys. place_in ys c.args.c.now) c.self.view_is

pub returns-then-stands_at-2 : goal.returns-then-stands_at-2
returns-then-stands_at-2 c =
    let xs = c.self.inside.commands.items in
    stands_found xs (c.args.near + 1) c.args.c.now c.self.invariant.distinct (ap (λ ys. stands_at c.args.c.now ys (c.args.near + 1)) (sym c.deref-then-near-len.ensures.value) ∙ sym c.stands_at-then-near-len.ensures ∙ c.if-stands_at-2.true) ∙ ap (λ ys. place_in ys c.args.c.now) c.self.view_is
