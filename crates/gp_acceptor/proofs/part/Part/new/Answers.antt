use Rattle.std.proofs.Common.{◌≡◌, List, [], ◌∷◌, None, ap, sym, subst, length, get_or, arith}
use Rattle.std.specs.Prelude.{Option}
use Rattle.std.proofs.lemmas.List.{length-append}
use Rattle.gp_command.specs.declared.command.Command.{Command}
use Rattle.gp_acceptor.proofs.Holding.{none_more}
use Rattle.gp_acceptor.proofs.part.Part.new.Goals as goal

pub loop-preserved : goal.loop-preserved
loop-preserved c = (
  omega (arith, ap length c.in_ok-push.ensures.items, length-append c.loop.held.items (None ∷ [])),
  λ k. subst (λ (hs : List (Option (List Command))). get_or hs k None ≡ None) (sym c.in_ok-push.ensures.items) (none_more c.loop.held.items k (c.loop.invariant.1 k)),
)
